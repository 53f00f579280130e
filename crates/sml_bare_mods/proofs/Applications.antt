-- A functor and its argument, which is declarations.
use Rattle.std.proofs.Common.{◌≡◌, ℕ, ◌+◌, ◌≤◌, List, Result, Ok, Err, ap, arith, rules}
use Rattle.std.specs.Result.{IsErrAnd}
use Rattle.sml_lex.specs.declared.fault.Place.{Place}
use Rattle.sml_tree.specs.Heights.{str_decs_height, str_height}
use Rattle.sml_tree.specs.Names.{Name}
use Rattle.sml_tree.specs.Structures.{StrDecs, StrExp}
use Rattle.sml_derived.specs.Derived.{functor_apply_decs}
use Rattle.sml_phrases.specs.PhraseHeights.{low}
use Rattle.sml_phrases.specs.Phrases.{Phrase, of_str, of_str_decs}
use Rattle.sml_phrases.specs.PhraseViews.{Gives, Puts}
use Rattle.sml_phrases.specs.declared.phrase.Failure.{Failure}
use Rattle.sml_phrases.specs.declared.phrase.Failure.TheVariants.{TooHigh, Memory}
use Rattle.sml_bare_mods.proofs.Chains.{still_high}
use Rattle.sml_bare_mods.specs.StructureRules.{applied}

pub decs_applied : (f : Name Place) (ds : StrDecs Place) (tree : StrExp Place) (h m : ℕ)
    → tree ≡ functor_apply_decs f ds → str_decs_height ds ≡ h → m ≡ h + 2 → str_height tree ≡ m
decs_applied f ds tree h m made high sum = let e = ap str_height made in omega (arith, e, high, sum)

too_high : (m : ℕ) (whole : StrExp Place) (n : ℕ) (old new : List Phrase) (e : Failure) (r : Result Unit Failure)
    → m ≤ str_height whole → Gives (λ h. h) low m (Err e) → IsErrAnd r (λ f. f ≡ e) → Puts (of_str whole) n old new r
too_high m whole n old new TooHigh (Err TooHigh) below high same = still_high m (str_height whole) below high
too_high m whole n old new Memory (Err TooHigh) below high same = search (rules, same)
too_high m whole n old new e (Err Memory) below high same = tt
too_high m whole n old new e (Ok u) below high same = absurd same

pub decs_fail : (f : Name Place) (ds : StrDecs Place) (argument : Phrase) (h n : ℕ) (old new : List Phrase) (e : Failure) (r : Result Unit Failure)
    → argument ≡ of_str_decs ds → str_decs_height ds ≡ h → Gives (λ h. h) low (h + 2) (Err e) → IsErrAnd r (λ f. f ≡ e) → Puts (of_str (applied f argument)) n old new r
decs_fail f ds argument h n old new e r shape high given same =
    let k = ap (λ a. str_height (applied f a)) shape in
    too_high (h + 2) (applied f argument) n old new e r (omega (arith, k, high)) given same
