use Rattle.std.proofs.Common.{◌+◌, ◌++◌, ◌∷◌, [], map, take, ap, sym, ◌∙◌, arith, vec_len}
use Rattle.std.proofs.lemmas.List.{take_all}
use Rattle.sml_objects.specs.Views.{type_of}
use Rattle.sml_graph.specs.Interned.{numbers, seen}
use Rattle.sml_graph.proofs.Interning.{numbers-more, take-next, map-push, append-next}
use Rattle.sml_graph.proofs.intern.places_for.Goals as goal

pub loop-part-preserved : goal.loop-part-preserved
loop-part-preserved c =
    let i = c.loop-part.invariant in
    record {
      len = omega (arith, c.in_ok-place_for.ensures.len, i.len);
      places = c.in_ok-push.ensures.ok ∙ (ap (λ xs. xs ++ c.in_ok-place_for.field-0 ∷ []) i.places ∙ (ap (λ x. numbers (c.args.base + vec_len c.args.types.now) c.loop-part.part-index ++ x ∷ []) (omega (arith, c.in_ok-place_for.ensures.place, i.len)) ∙ sym (numbers-more _ c.loop-part.part-index)));
      types = append-next (seen c.place_for.new.types.items) (seen c.loop-part.types.items) (seen c.args.types.now.items) (map (λ t. type_of t.value) (take c.loop-part.part-index c.args.parts.now)) (type_of c.deref.result.now) (map (λ t. type_of t.value) (take (c.loop-part.part-index + 1) c.args.parts.now)) c.in_ok-place_for.ensures.types i.types
          (ap (map (λ t. type_of t.value)) (take-next c.args.parts.now c.loop-part.part-index c.part-item.result c.loop-part-test.true c.part-item.is) ∙ (map-push (λ t. type_of t.value) (take c.loop-part.part-index c.args.parts.now) c.part-item.result ∙ ap (λ x. map (λ t. type_of t.value) (take c.loop-part.part-index c.args.parts.now) ++ type_of x ∷ []) (sym c.deref.ensures)));
    }

pub returns-clause-places : goal.returns-clause-places
returns-clause-places c = c.loop-part.invariant.places ∙ ap (numbers _) (omega arith)

pub returns-clause-types : goal.returns-clause-types
returns-clause-types c = c.loop-part.invariant.types ∙ ap (λ xs. seen c.args.types.now.items ++ map (λ t. type_of t.value) xs) (take_all c.loop-part.part-index c.args.parts.now c.loop-part-test.false)
