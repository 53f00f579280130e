use Rattle.std.proofs.Common.{◌∷◌, [], ap, map, sym, ◌∙◌, arith}
use Rattle.std.proofs.lemmas.List.{length-append, length-map, map-append}
use Rattle.std.specs.Map.Iter.{deref_pair}
use Rattle.sml_objects.specs.Views.{entries_of, scheme_of}
use Rattle.sml_bases.specs.Views.{value_of}
use Rattle.sml_types.proofs.Numbered.{constructors-next}
use Rattle.sml_types.proofs.datatypes.put_constructors.Goals as goal

pub loop-index-preserved : goal.loop-index-preserved
loop-index-preserved c =
    let ys = c.loop-index.yielded in (
      constructors-next c.in_ok-count.count (entries_of value_of c.args.values.now.entries) c.loop-index.values.entries c.insert.new.self.entries (map deref_pair ys) _
          c.in_ok-clone-2.field-0 c.in-Some.name.now c.in_ok-clone.field-0 c.in-Some.scheme.now c.in_ok-number.number
          c.in_ok-insert.ensures.entries (map-append deref_pair ys ((c.in-Some.name, c.in-Some.scheme) ∷ [])) (ap (λ v. v.items) c.in_ok-clone-2.ensures.cases)
          (ap scheme_of c.in_ok-clone.ensures.cases)
          (c.in_ok-number.ensures ∙ c.loop-index.invariant.1 ∙ sym (length-map ys deref_pair))
          c.loop-index.invariant.0,
      omega (arith, c.loop-index.invariant.1, length-append ys ((c.in-Some.name, c.in-Some.scheme) ∷ [])),
    )
