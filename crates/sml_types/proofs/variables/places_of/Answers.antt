use Rattle.std.proofs.Common.{rules, ◌≡◌, ◌++◌, ◌+◌, ◌∷◌, [], take, length, ap, sym, ◌∙◌, arith}
use Rattle.std.proofs.lemmas.List.{length-take-le, length-map, map-append}
use Rattle.std.proofs.lemmas.Grind.{take_at_read}
use Rattle.sml_tree.specs.TypeViews.{name_of, names_of}
use Rattle.sml_types.specs.Variables.{place_from, place_in}
use Rattle.sml_types.proofs.Listing.{place-kept, place-next}
use Rattle.sml_types.proofs.variables.places_of.Goals as goal
use Rattle.sml_types.proofs.variables.places_of.Goals.{then-not-contains_key+in_ok-clone+in_ok-number_of+in_ok-insert, else-not-contains_key}

pub loop-index-preserved : goal.loop-index-preserved
loop-index-preserved c = λ x.
    let xs = c.args.names.now in
    let i = c.loop-index.index in
    let n = c.index-names-index.result in
    let before = names_of (take i xs) in
    let count : i ≡ length before = sym (length-map (take i xs) name_of ∙ length-take-le i xs (omega arith)) in
    let next : names_of (take (i + 1) xs) ≡ before ++ name_of n ∷ [] =
    ap names_of ((take_at_read xs i n c.loop-index-test.true).1 ∙ ap (λ y. take i xs ++ y ∷ []) (sym c.index-names-index.is)) ∙ map-append name_of (take i xs) (n ∷ []) in
    elim c.if-not-contains_key.branch [
      | then-not-contains_key+in_ok-clone+in_ok-number_of+in_ok-insert w ↦
          ap (λ m. place_in m.entries x) w.places-is
          ∙ place-next x c.loop-index.places.entries w.insert.new.self.entries _ w.in_ok-number_of.field-0 before (name_of n) c.loop-index.invariant (sym c.contains_key.ensures ∙ w.if-not-contains_key.true)
          w.in_ok-insert.ensures.entries (search rules) (w.in_ok-number_of.ensures ∙ count)
          ∙ ap (place_from x 0) (sym next)
      | else-not-contains_key w ↦
          ap (λ m. place_in m.entries x) w.places-is
          ∙ place-kept x c.loop-index.places.entries before (name_of n) c.loop-index.invariant (sym c.contains_key.ensures ∙ w.if-not-contains_key.false)
          ∙ ap (place_from x 0) (sym next)
    ]
