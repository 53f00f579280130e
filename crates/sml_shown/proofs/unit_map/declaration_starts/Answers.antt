use Rattle.std.proofs.Common.{◌≡◌, ℕ, ◌+◌, List, [], ◌∷◌, ◌++◌, sym, ap, ◌∙◌, subst, arith, append_assoc, append-nil}
use Rattle.std.specs.Prelude.{Vec}
use Rattle.std.specs.Global.{Global}
use Rattle.std.proofs.Math.ListN.{drop_of_length-le}
use Rattle.sml_lex.specs.declared.fault.Place.{Place}
use Rattle.sml_reach.specs.Places.{place_from, start_of, IsOnWay}
use Rattle.sml_reach.specs.declared.place.Walk.{Walk}
use Rattle.sml_parse.specs.Within.{extents_of}
use Rattle.sml_shown.specs.Maps.{starts_in}
use Rattle.sml_shown.proofs.Starts.{rest, leaf_on, passed_on, begun_on}
use Rattle.sml_shown.proofs.unit_map.declaration_starts.Goals.{in-Leaf, in-Inner+then-begins_at+in_ok-push-in-Inner, in-Inner+else-begins_at}
use Rattle.sml_shown.proofs.unit_map.declaration_starts.Goals as goal

abbrev items_of : Vec Place Global → List Place
items_of v = v.items

abbrev start_at : Walk → ℕ
start_at w = w.start

pub loop-i-preserved : goal.loop-i-preserved
loop-i-preserved c =
    let inv = c.loop-i.invariant in
    let unit = c.args.lexed.now.unit.now in
    let tokens = c.args.lexed.now.tokens.items in
    let nodes = c.args.nodes.now in
    let n = c.loop-i.first in
    let i = c.loop-i.i in
    let xs = c.loop-i.starts.items in
    elim c.match-nodes-i.branch [
      | in-Leaf w ↦ record {
        kept = inv.kept ∙ ap (λ l. xs ++ l) (leaf_on unit tokens nodes n i _ c.loop-i-test.true w.in-Leaf.is) ∙ (λ k. ap items_of (sym w.starts-is) k ++ rest unit tokens nodes (sym w.first-is k) (i + 1));
        way = subst (IsOnWay unit) (sym w.walk-is) inv.way;
        start = ap start_at w.walk-is ∙ inv.start;
        few = omega (arith, w.first-is, inv.few);
      }
      | in-Inner+then-begins_at+in_ok-push-in-Inner w ↦
          let place = w.go_to.result in
          let at = w.start_of-at.ensures ∙ ap (λ ts. start_of ts n 0) w.deref.ensures.value in
          let placed = w.go_to.ensures.place ∙ (λ k. place_from unit (inv.start k) (at k)) in
          let next = begun_on unit tokens nodes n i w.in-Inner.rule _ c.loop-i-test.true w.in-Inner.is (sym w.begins_at.ensures ∙ w.if-begins_at.true) in
          let items = ap items_of w.starts-is ∙ w.in_ok-push-in-Inner.ensures.items in
          record {
            kept = inv.kept
                ∙ ap (λ l. xs ++ l) (next ∙ ap (λ p. p ∷ rest unit tokens nodes n (i + 1)) (sym placed))
                ∙ sym (append_assoc xs (place ∷ []) (rest unit tokens nodes n (i + 1)))
                ∙ (λ k. sym items k ++ rest unit tokens nodes (sym w.first-is k) (i + 1));
            way = subst (IsOnWay unit) (sym w.walk-is) w.go_to.ensures.sound;
            start = ap start_at w.walk-is ∙ w.go_to.ensures.start ∙ inv.start;
            few = omega (arith, w.first-is, inv.few);
          }
      | in-Inner+else-begins_at w ↦ record {
        kept = inv.kept ∙ ap (λ l. xs ++ l) (passed_on unit tokens nodes n i w.in-Inner.rule _ c.loop-i-test.true w.in-Inner.is (sym w.begins_at.ensures ∙ w.if-begins_at.false)) ∙ (λ k. ap items_of (sym w.starts-is) k ++ rest unit tokens nodes (sym w.first-is k) (i + 1));
        way = subst (IsOnWay unit) (sym w.walk-is) inv.way;
        start = ap start_at w.walk-is ∙ inv.start;
        few = omega (arith, w.first-is, inv.few);
      }
    ]

pub returns : goal.returns
returns c =
    let xs = c.loop-i.starts.items in
    sym (c.loop-i.invariant.kept
    ∙ ap (λ ns. xs ++ starts_in c.args.lexed.now.unit.now c.args.lexed.now.tokens.items (extents_of c.loop-i.first ns)) (drop_of_length-le c.args.nodes.now c.loop-i-test.false)
    ∙ append-nil xs)
