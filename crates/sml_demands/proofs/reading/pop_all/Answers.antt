use Rattle.std.proofs.Common.{◌≡◌, ◌+◌, ◌++◌, ◌∷◌, [], map, take, ap, ◌∙◌, sym, arith, vec_len}
use Rattle.sml_objects.specs.Views.{type_of}
use Rattle.sml_demands.specs.CodeReads.{stacked}
use Rattle.sml_graph.proofs.Interning.{map-push}
use Rattle.sml_demands.proofs.Retrieving.{popped}
use Rattle.sml_demands.proofs.reading.pop_all.Goals as goal

pub loop-types-preserved : goal.loop-types-preserved
loop-types-preserved c =
    let i = c.loop-types.invariant in
    let k = vec_len c.loop-types.parts in
    let p = popped c.loop-types.types.items c.pop.new.self.items c.args.types.now.items c.in-Some.part k c.in-Some.ensures.items i.rest in
    let n : vec_len c.push.new.self ≡ k + 1 = c.in_ok-push-in-Some.ensures.len in
    let m : vec_len c.pop.new.self + 1 ≡ vec_len c.loop-types.types = c.in-Some.ensures.cases in
    record {
      within = omega (arith, n, c.loop-types-test.true, c.len.ensures);
      len = omega (arith, i.len, n, m);
      parts = ap (map (λ t. type_of t.value)) c.in_ok-push-in-Some.ensures.items ∙ (map-push (λ t. type_of t.value) c.loop-types.parts.items c.in-Some.part ∙ (ap (λ ts. ts ++ type_of c.in-Some.part.value ∷ []) i.parts ∙ (sym p.0 ∙ ap (λ x. take x (stacked c.args.types.now.items)) (sym n))));
      rest = rw n p.1;
    }
