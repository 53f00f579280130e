use Rattle.std.proofs.Common.{◌≡◌, ◌<◌, ◌+◌, ℕ, true, List, [], ◌∷◌, ◌++◌, length, map, take, drop, get_or, arith, ap, refl, sym, subst, ◌∙◌}
use Rattle.std.specs.List.{list_all}
use Rattle.std.proofs.lemmas.List.{map_more, take_all, length-append, drop_more, map-append, take-append-drop}
use Rattle.sml_lex.specs.Faults.{first_place}
use Rattle.sml_tree.specs.Views.{dec_of}
use Rattle.sml_tree.specs.declared.bare.BareDec.{BareDec}
use Rattle.sml_objects.specs.Initial.{naming}
use Rattle.sml_objects.specs.Views.{maker_of}
use Rattle.sml_rules.specs.Readings.{read_top, is_specified}
use Rattle.sml_piece.specs.Elaborated.{IsBasisOf}
use Rattle.sml_units.specs.Checked.{AreNumbered, AreRepliesTo, IsReplyTo}
use Rattle.sml_units.specs.CodeUnits.{env_after}
use Rattle.sml_units.specs.Runs.{Run, specified_beginning, exports, nothing}
use Rattle.sml_units.proofs.Replying.{after_all, after_push, run_none, run_push, replies_push, numbered_push, beginning_all, beginning_cut_at, all_push, not_all, exports_none, exports_push, after_env}
use Rattle.sml_units.proofs.project.answer_piece.Goals as goal

pub loop-dec-init : goal.loop-dec-init
loop-dec-init c = (
  refl,
  ap length c.new-replies.ensures.items,
  omega arith,
  λ B basis. ([], run_none (maker_of c.args.basis.unit) B, subst (AreRepliesTo 1 []) (sym c.new-replies.ensures.items) tt, basis, refl, c.empty-bound.ensures ∙ sym exports_none),
  subst (AreNumbered 1) (sym c.new-replies.ensures.items) tt,
)

-- the declarations up to one more
decs_more : (xs : List BareDec) (i : ℕ) (x : BareDec) → i < length xs → x ≡ get_or xs i x → map dec_of (take (i + 1) xs) ≡ map dec_of (take i xs) ++ dec_of x ∷ []
decs_more xs i x h e = map_more dec_of xs i x h ∙ ap (λ y. map dec_of (take i xs) ++ dec_of y ∷ []) (sym e)

-- the declarations around the one at i
split_at : (xs : List BareDec) (i : ℕ) (x : BareDec) → i < length xs → x ≡ get_or xs i x → map dec_of xs ≡ map dec_of (take i xs) ++ dec_of x ∷ map dec_of (drop (i + 1) xs)
split_at xs i x h e = ap (map dec_of) (sym (take-append-drop i xs)) ∙ map-append dec_of (take i xs) (drop i xs) ∙ ap (λ l. map dec_of (take i xs) ++ map dec_of l) (drop_more xs i x h ∙ ap (λ y. y ∷ drop (i + 1) xs) (sym e))

pub loop-dec-preserved : goal.loop-dec-preserved
loop-dec-preserved c =
    let unit = maker_of c.args.basis.unit in
    let v = c.loop-dec.invariant in
    let xs = c.args.declarations.now in
    let i = c.loop-dec.dec-index in
    let x = c.dec-item.result in
    let rs = c.loop-dec.replies in
    let more = decs_more xs i x c.loop-dec-test.true c.dec-item.is in
    let number = c.in_ok-number.ensures ∙ (let a = c.len-in-loop-dec.ensures in let b = rs.ok.0 in omega (arith, a, b)) in (
      ap (list_all is_specified) more ∙ all_push (map dec_of (take i xs)) (dec_of x) v.0 (sym c.is_specified.ensures ∙ c.if-not-is_specified.false),
      ap length c.in_ok-push.ensures.items ∙ length-append rs.items (c.in_ok-reply.reply ∷ []) ∙ ap (λ n. n + 1) v.1,
      (let h = c.loop-dec-test.true in omega (arith, h)),
      λ B basis.
          let w = v.3 B basis in
          let os = w.0 in
          let step = c.in_ok-reply.ensures.step (after_all B os) w.3 in
          let o = step.answer in
          let reading = subst (λ u. read_top naming first_place (maker_of u) (after_all B os) (dec_of x) o) w.4 step.reading in (
            os ++ o ∷ [],
            subst (λ ds. Run naming unit B ds (os ++ o ∷ [])) (sym more) (run_push unit B (map dec_of (take i xs)) (dec_of x) os o w.1 reading),
            subst (AreRepliesTo 1 (os ++ o ∷ [])) (sym c.in_ok-push.ensures.items) (replies_push 1 os rs.items o c.in_ok-reply.reply w.2 (subst (λ n. IsReplyTo n o c.in_ok-reply.reply) number step.reply)),
            subst (IsBasisOf c.answer.new.basis) (sym (after_push B os o)) step.after,
            step.unit ∙ w.4,
            step.bound_is ∙ ap (λ E. env_after E o) w.5 ∙ sym (after_env (exports nothing os) o) ∙ sym (ap (λ S. S.body) (exports_push nothing os o)),
          ),
      subst (AreNumbered 1) (sym c.in_ok-push.ensures.items) (numbered_push 1 rs.items c.in_ok-reply.reply v.4 (c.in_ok-reply.ensures.number ∙ number)),
    )

pub returns-then-not-is_specified-clause-begun : goal.returns-then-not-is_specified-clause-begun
returns-then-not-is_specified-clause-begun c = λ B basis.
    let w = c.loop-dec.invariant.3 B basis in
    let xs = c.args.declarations.now in
    let i = c.loop-dec.dec-index in
    let x = c.dec-item.result in
    let ended = sym c.is_specified.ensures ∙ c.if-not-is_specified.true in
    let none = ap (list_all is_specified) (split_at xs i x c.loop-dec-test.true c.dec-item.is) ∙ not_all (map dec_of (take i xs)) (map dec_of (drop (i + 1) xs)) (dec_of x) ended in
    let cut = beginning_cut_at (map dec_of (take i xs)) (map dec_of (drop (i + 1) xs)) (dec_of x) (map dec_of xs) (split_at xs i x c.loop-dec-test.true c.dec-item.is) c.loop-dec.invariant.0 (sym c.is_specified.ensures ∙ c.if-not-is_specified.true) in
    record { answers = w.0; run = subst (λ ds. Run naming (maker_of c.args.basis.unit) B ds w.0) (sym cut) w.1; replies = w.2; bound_is = w.5; whole_is = sym none }

pub returns-then-not-is_specified-clause-few : goal.returns-then-not-is_specified-clause-few
returns-then-not-is_specified-clause-few c = (let n = c.loop-dec.invariant.1 in let h = c.loop-dec-test.true in omega (arith, n, h))

pub returns-clause-begun : goal.returns-clause-begun
returns-clause-begun c = λ B basis.
    let xs = c.args.declarations.now in
    let all = take_all c.loop-dec.dec-index xs c.loop-dec-test.false in
    let w = c.loop-dec.invariant.3 B basis in
    let ds = map dec_of xs in
    let specified = subst (λ ys. list_all is_specified (map dec_of ys) ≡ true) all c.loop-dec.invariant.0 in
    record {
      answers = w.0;
      run = subst (λ es. Run naming (maker_of c.args.basis.unit) B es w.0) (sym (beginning_all ds specified)) (subst (λ ys. Run naming (maker_of c.args.basis.unit) B (map dec_of ys) w.0) all w.1);
      replies = w.2;
      bound_is = w.5;
      whole_is = sym specified;
    }

pub returns-clause-few : goal.returns-clause-few
returns-clause-few c = (let n = c.loop-dec.invariant.1 in let h = c.loop-dec.invariant.2 in omega (arith, n, h))
