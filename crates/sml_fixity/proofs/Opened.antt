-- Whether a scope is open, as the changes say it and as the maps do.
use Rattle.std.proofs.Common.{◌≡◌, true, false, List, [], ◌∷◌, Result, Ok, Err, OnOk, refl, sym, ◌∙◌}
use Rattle.std.specs.Prelude.{reverse}
use Rattle.std.specs.List.{list_any}
use Rattle.std.proofs.lemmas.List.Sorted.{list_any-IsPermutation, IsPermutation-reverse}
use Rattle.sml_fixity.specs.declared.scopes.Change.{Change}
use Rattle.sml_fixity.specs.declared.scopes.Change.TheVariants.{Scope, Restore}
use Rattle.sml_fixity.specs.Scopes.{Map, changed, unwound, is_scope}
use Rattle.sml_tree.specs.Views.{ident_of}

none_unwound : (f : Map) (us : List Change) → list_any is_scope us ≡ false → unwound f us ≡ []
none_unwound f [] h = refl
none_unwound f (Scope ∷ us) h = cc
none_unwound f (Restore x v ∷ us) h = none_unwound (changed f (ident_of x) v) us h

some_unwound : (f : Map) (us : List Change) → list_any is_scope us ≡ true → unwound f us ≡ [] → ⊥
some_unwound f [] h e = cc
some_unwound f (Scope ∷ us) h e = cc
some_unwound f (Restore x v ∷ us) h e = some_unwound (changed f (ident_of x) v) us h e

turned : (us : List Change) → list_any is_scope us ≡ list_any is_scope (reverse us)
turned us = list_any-IsPermutation is_scope us (reverse us) (IsPermutation-reverse us)

-- no scope is open
pub none_open : (f : Map) (us : List Change) → false ≡ list_any is_scope us → unwound f (reverse us) ≡ []
none_open f us h = none_unwound f (reverse us) (sym (turned us) ∙ sym h)

-- a scope is open
pub some_open : (f : Map) (us : List Change) → true ≡ list_any is_scope us → unwound f (reverse us) ≡ [] → ⊥
some_open f us h e = some_unwound f (reverse us) (sym (turned us) ∙ sym h) e

pub where_none : {X E : Type 0} (r : Result X E) (P Q : Type 0) → (P → ⊥) → OnOk r (P → Q)
where_none (Ok x) P Q h = λ p. absurd (h p)
where_none (Err e) P Q h = tt
