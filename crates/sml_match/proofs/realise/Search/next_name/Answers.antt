use Rattle.std.proofs.Common.{◌≡◌, Bool, true, false, ◌&&◌, ap, sym, refl, ◌∙◌, Option, Some, None}
use Rattle.std.specs.Option.{option_map, is_some, is_none}
use Rattle.sml_objects.specs.Views.{name_of, scheme_of}
use Rattle.sml_objects.proofs.NameTests.{stands-any}
use Rattle.sml_match.specs.Searches.{given_so_far, sought_by}
use Rattle.sml_match.proofs.Sought.{next-none, next-some}
use Rattle.sml_match.proofs.realise.Search.next_name.Goals as goal
use Rattle.sml_match.proofs.realise.Search.next_name.Goals.{else-contains-via-then-contains+else-not-has, else-contains-via-else-contains}

both : (a b : Bool) → a ≡ true → b ≡ true → true ≡ (a && b)
both a b h k = λ i. sym h i && sym k i

not-first : (a b : Bool) → a ≡ false → false ≡ (a && b)
not-first a b h = λ i. sym h i && b

not-second : (a b : Bool) → b ≡ false → false ≡ (a && b)
not-second true b h = sym h
not-second false b h = refl

none-yet : {A : Type 0} (o : Option A) → is_some o ≡ false → is_none o ≡ true
none-yet None h = refl
none-yet (Some a) h = cc

some-yet : {A : Type 0} (o : Option A) → is_some o ≡ true → is_none o ≡ false
some-yet None h = cc
some-yet (Some a) h = refl

pub returns-in_err-name : goal.returns-in_err-name
returns-in_err-name c =
    ap (option_map name_of) c.from_residual.ensures
    ∙ next-none (sought_by c.args.self.now) (given_so_far c.args.self.now) (scheme_of c.args.function.now) None c.in_err-name.ensures refl

pub returns-then-not-has : goal.returns-then-not-has
returns-then-not-has c =
    let s = c.args.self.now in
    let k = c.in_ok-name.name in
    next-some (sought_by s) (given_so_far s) (scheme_of c.args.function.now) k true c.in_ok-name.ensures
    (both _ _ (stands-any k s.bound.keys ∙ sym c.contains.ensures ∙ c.if-contains.true) (none-yet _ (sym c.has.ensures ∙ c.if-not-has.true)))

pub returns-else-contains : goal.returns-else-contains
returns-else-contains c =
    let s = c.args.self.now in
    let k = c.in_ok-name.name in
    next-some (sought_by s) (given_so_far s) (scheme_of c.args.function.now) k false c.in_ok-name.ensures
    (elim c.else-contains.branch [
      | else-contains-via-then-contains+else-not-has w ↦ not-second _ _ (some-yet _ (sym w.has.ensures ∙ w.if-not-has.false))
      | else-contains-via-else-contains w ↦ not-first _ _ (stands-any k s.bound.keys ∙ sym c.contains.ensures ∙ w.if-contains.false)
    ])
