-- Heights of derived forms of specifications.
use Rattle.std.proofs.Common.{◌≡◌, ℕ, ◌+◌, ◌<◌, List, [], ◌∷◌, length, map, max, Err, refl, ap, arith}
use Rattle.sml_lex.specs.declared.fault.Place.{Place}
use Rattle.sml_tree.specs.Names.{Name}
use Rattle.sml_tree.specs.Expressions.{TypBind}
use Rattle.sml_tree.specs.Signatures.{Specs, no_spec}
use Rattle.sml_tree.specs.Heights.{highest, specs_height, typ_bind_height}
use Rattle.sml_phrases.specs.PhraseHeights.{low}
use Rattle.sml_phrases.specs.Phrases.{Phrase, of_specs}
use Rattle.sml_phrases.specs.PhraseViews.{Gives, Puts}
use Rattle.sml_phrases.specs.declared.phrase.Failure.{Failure}
use Rattle.sml_phrases.specs.declared.phrase.Failure.TheVariants.{TooHigh, Memory}
use Rattle.sml_bare_mods.proofs.Chains.{still_high}
use Rattle.sml_derived.specs.Derived.{includes, other_type_specs, type_specs}

other_height : (p : Place) (bs : List (TypBind Place)) → max 4 (specs_height (other_type_specs p bs)) ≡ 2 + max 2 (highest typ_bind_height bs)
other_height p [] = refl
other_height p (b ∷ bs) = let h = other_height p bs in omega (arith, h)

-- of types that are bound in a specification
type_specs_height : (p : Place) (b : TypBind Place) (bs : List (TypBind Place)) → specs_height (type_specs p b bs) ≡ max (highest typ_bind_height (b ∷ bs)) 2 + 2
type_specs_height p b bs = let h = other_height p bs in omega (arith, h)

pub joined_height : (p : Place) (b : TypBind Place) (bs : List (TypBind Place)) (made : Specs Place) (h m sum : ℕ)
    → highest typ_bind_height (b ∷ bs) ≡ h → m ≡ max h 2 → sum ≡ m + 2 → made ≡ type_specs p b bs → specs_height made ≡ sum
joined_height p b bs made h m sum e f s same = let g = type_specs_height p b bs in let k = ap specs_height same in omega (arith, e, f, s, g, k)

-- types whose specifications would be too high
pub failed_types : (p : Place) (b : TypBind Place) (bs : List (TypBind Place)) (h m n : ℕ) (old new : List Phrase) (failure : Failure)
    → highest typ_bind_height (b ∷ bs) ≡ h → m ≡ max h 2 → Gives (λ h. h) low (m + 2) (Err failure) → Puts (of_specs (type_specs p b bs)) n old new (Err failure)
failed_types p b bs h m n old new TooHigh e f high = let g = type_specs_height p b bs in still_high (m + 2) (specs_height (type_specs p b bs)) (omega (arith, e, f, g)) high
failed_types p b bs h m n old new Memory e f high = tt

-- of signature identifiers after `include`
included : (p : Place) (x : Name Place) (xs : List (Name Place)) → specs_height (includes p (x ∷ xs)) ≡ 2
included p x [] = refl
included p x (y ∷ ys) = let h = included p y ys in omega (arith, h)

pub included_none : {A : Type 0} (p : Place) (g : A → Name Place) (xs : List A) → length xs ≡ 0 → includes p (map g xs) ≡ no_spec
included_none p g [] e = refl
included_none p g (x ∷ xs) e = absurd (omega (arith, e))

pub included_some : {A : Type 0} (p : Place) (g : A → Name Place) (xs : List A) → 0 < length xs → specs_height (includes p (map g xs)) ≡ 2
included_some p g [] e = absurd (omega (arith, e))
included_some p g (x ∷ xs) e = included p (g x) (map g xs)
