-- Which warnings are added.
use Rattle.std.specs.Prelude.{◌≡◌, ◌↔◌, ℕ, Bool, true, false, List, [], ◌∷◌, ◌++◌}
use Rattle.std.specs.List.{Contains}
use Rattle.std.specs.List.Sorted.{IsStrictlySortedBy}
use Rattle.sml_lex.specs.declared.fault.Place.{Place}
use Rattle.sml_lex.specs.declared.fault.Warning.{Warning}
use Rattle.sml_tree.specs.Trees.{LongId}
use Rattle.sml_tree.specs.Patterns.{Pat}
use Rattle.sml_patterns.specs.declared.judge.Holder.{Holder}
use Rattle.sml_patterns.specs.declared.judge.Holder.TheVariants as J
use Rattle.sml_patterns.specs.declared.names.Meaning.{Meaning}
use Rattle.sml_patterns.specs.Shape.{World, column}
use Rattle.sml_patterns.specs.Warnings.{Rule, MakeRules, AllFit, IsWarning, warning_cmp}
use Rattle.sml_warnings.specs.Named.{is_everything}
use Rattle.sml_warnings.specs.declared.matches.Kind.{Kind}
use Rattle.sml_warnings.specs.declared.matches.Kind.TheVariants.{Fn, Handle}

-- the warnings of a match or a binding of these patterns, where `N` says what long identifiers mean
pub record AreWarningsOf (N : LongId → Meaning) (h : Holder) (ps : List (Place × Pat Place)) (ws : List Warning) : Type 0 where
  pub sorted : IsStrictlySortedBy warning_cmp ws
  pub all : (rules : List Rule) → MakeRules N ps rules → (w : World) (depth type : ℕ) → AllFit w (column depth type) rules → (x : Warning) → Contains ws x ↔ IsWarning w (column depth type) h rules x

-- the new list is the old one with these warnings after it
abbrev pub Adds : (LongId → Meaning) → Holder → List (Place × Pat Place) → List Warning → List Warning → Type 0
Adds N h ps old new = (added : List Warning) × (new ≡ old ++ added) × AreWarningsOf N h ps added

abbrev pub holder_of : Kind → Place → Holder
holder_of Fn p = J.Fn p
holder_of Handle p = J.Handle p

-- whether a match has one rule at most, and nothing to warn of
abbrev pub is_clear : (LongId → Meaning) → Kind → List (Place × Pat Place) → Bool
is_clear N Fn [] = false
is_clear N Fn (p ∷ []) = is_everything N p.1
is_clear N Fn (p ∷ (q ∷ ps)) = false
is_clear N Handle [] = true
is_clear N Handle (p ∷ []) = true
is_clear N Handle (p ∷ (q ∷ ps)) = false
