use Rattle.std.proofs.Common.{◌+◌, sym, ◌∙◌, subst, arith, refl, Some}
use Rattle.sml_read.specs.declared.read.Cause.TheVariants.{Unexpected, TooEarly, Lexical}
use Rattle.sml_read.specs.Answer.{IsReading}
use Rattle.sml_read.proofs.Trees.{reach_start, completes_refuses}
use Rattle.sml_read.proofs.Tracks.{reach_on, Settles, Tracks, track_start, settle_whole, settle_open, keeps, refused_at, too_early, lexical_blocked, all_done, lexical_whole, lexical_open}
use Rattle.sml_read.proofs.read.read_kinds.Goals.{then-is_whole, else-is_whole}
use Rattle.sml_read.proofs.read.read_kinds.Goals as goal

pub loop-place-init : goal.loop-place-init
loop-place-init c = record {
  reaches = reach_start _ _ _ c.new-nodes.ensures.items c.new-stack.ensures.items c.in_ok-push.ensures.items;
  tracks = track_start _ _ _ refl;
  counted = omega arith;
  before = omega arith;
}

pub returns-then-not-branch : goal.returns-then-not-branch
returns-then-not-branch c =
    let inv = c.loop-place.invariant in
    let x = c.in_ok-left.ensures in
    let s : Settles c.args.kinds.now c.args.done c.loop-place.place c.if-is_whole.begun c.if-is_whole.count c.complete.new.nodes.items = elim c.if-is_whole.branch [
      | then-is_whole w ↦ settle_whole _ _ _ _ _ _ _ _ _ _ _ _ (omega arith) inv.reaches x.1 x.2 x.3 (sym c.is_whole.ensures ∙ w.if-is_whole.true) w.begun-is (omega arith)
      | else-is_whole w ↦
          subst (λ q. Settles c.args.kinds.now c.args.done c.loop-place.place q c.if-is_whole.count c.complete.new.nodes.items) (sym w.begun-is)
          (subst (λ q. Settles c.args.kinds.now c.args.done c.loop-place.place c.loop-place.begun q c.complete.new.nodes.items) (sym w.count-is)
          (settle_open _ _ _ _ _ _ _ _ _ _ _ _ (omega arith) inv.reaches x.1 x.2 x.3 (sym c.is_whole.ensures ∙ w.if-is_whole.false) inv.counted inv.before inv.tracks))
    ] in
    let r = rw c.if-not-branch.true at c.in_ok-take_token.ensures in
    subst (λ ns. IsReading c.args.kinds.now c.args.done ns c.if-is_whole.begun (Some (Unexpected c.loop-place.place))) (sym (c.truncate.ensures.items ∙ (keeps _ _ _ r.0 r.1 s.counted).0))
    (refused_at _ _ _ _ _ _ _ _ (omega arith) s.before inv.reaches (completes_refuses _ _ _ _ x.2 r.2) s.tracks)

pub loop-place-preserved : goal.loop-place-preserved
loop-place-preserved c =
    let inv = c.loop-place.invariant in
    let x = c.in_ok-left.ensures in
    let s : Settles c.args.kinds.now c.args.done c.loop-place.place c.if-is_whole.begun c.if-is_whole.count c.complete.new.nodes.items = elim c.if-is_whole.branch [
      | then-is_whole w ↦ settle_whole _ _ _ _ _ _ _ _ _ _ _ _ (omega arith) inv.reaches x.1 x.2 x.3 (sym c.is_whole.ensures ∙ w.if-is_whole.true) w.begun-is (omega arith)
      | else-is_whole w ↦
          subst (λ q. Settles c.args.kinds.now c.args.done c.loop-place.place q c.if-is_whole.count c.complete.new.nodes.items) (sym w.begun-is)
          (subst (λ q. Settles c.args.kinds.now c.args.done c.loop-place.place c.loop-place.begun q c.complete.new.nodes.items) (sym w.count-is)
          (settle_open _ _ _ _ _ _ _ _ _ _ _ _ (omega arith) inv.reaches x.1 x.2 x.3 (sym c.is_whole.ensures ∙ w.if-is_whole.false) inv.counted inv.before inv.tracks))
    ] in
    let r = rw c.if-not-branch.false at c.in_ok-take_token.ensures in
    let k = keeps _ _ _ r.0 r.1 s.counted in record {
      reaches = reach_on _ _ _ _ _ _ _ _ _ _ _ (omega arith) inv.reaches x.1 x.2 r.1 r.2;
      tracks = subst (Tracks c.args.kinds.now c.args.done (c.loop-place.place + 1) c.if-is_whole.begun) (sym k.0) s.tracks;
      counted = k.1;
      before = let b = s.before in omega (arith, b);
    }

pub returns-then-done : goal.returns-then-done
returns-then-done c =
    let inv = c.loop-place.invariant in
    let e = rw c.in_default.is at c.in_ok-part.ensures in
    subst (λ ns. IsReading c.args.kinds.now c.args.done ns c.loop-place.begun (Some TooEarly)) (sym (c.truncate-in_default.ensures.items ∙ (keeps _ _ _ e.0 e.1 inv.counted).0))
    (too_early _ _ _ _ _ _ _ c.if-done.true (omega arith) inv.reaches e.3 inv.tracks)

pub returns-in_default : goal.returns-in_default
returns-in_default c =
    let inv = c.loop-place.invariant in
    let e = rw c.in_default.is at c.in_ok-part.ensures in
    subst (λ ns. IsReading c.args.kinds.now c.args.done ns c.loop-place.begun (Some Lexical)) (sym (c.truncate-in_default.ensures.items ∙ (keeps _ _ _ e.0 e.1 inv.counted).0))
    (lexical_blocked _ _ _ _ _ _ _ c.if-done.false (omega arith) inv.reaches e.3 inv.tracks)

pub returns-then-done-2 : goal.returns-then-done-2
returns-then-done-2 c =
    let inv = c.loop-place.invariant in
    let e = rw c.in-Some.is at c.in_ok-part.ensures in
    all_done _ _ _ _ _ _ _ e.0 _ c.if-done-2.true (omega arith) inv.reaches e.1 e.2 e.3.0 e.3.1

pub returns-in-Start : goal.returns-in-Start
returns-in-Start c =
    let inv = c.loop-place.invariant in
    let e = rw c.in-Some.is at c.in_ok-part.ensures in
    lexical_whole _ _ _ _ _ _ _ e.0 _ c.if-done-2.false c.in-Start.is (omega arith) inv.reaches e.1 e.2 e.3.0 e.3.1

pub returns : goal.returns
returns c =
    let inv = c.loop-place.invariant in
    let e = rw c.in-Some.is at c.in_ok-part.ensures in
    subst (λ ns. IsReading c.args.kinds.now c.args.done ns c.loop-place.begun (Some Lexical)) (sym (c.truncate-in_default-part.ensures.items ∙ (keeps _ _ _ e.0 e.1 inv.counted).0))
    (lexical_open _ _ _ _ _ _ _ _ e.0 _ c.if-done-2.false c.in_default-part.not-Start (omega arith) inv.reaches e.2 e.3.0 e.3.1 inv.tracks)
