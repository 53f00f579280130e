-- What a phrase that asks nothing of unknown types means: an object, or the first fault.
use Rattle.std.specs.Prelude.{Bool, true, false, ◌++◌, [], ◌∷◌}
use Rattle.sml_lex.specs.declared.fault.Code.{Code}
use Rattle.sml_lex.specs.declared.fault.Code.TheVariants.{E3}
use Rattle.sml_lex.specs.Faults.{Fault}
use Rattle.sml_tree.specs.Trees.{LongId}
use Rattle.sml_rules.specs.Answers.{Answer, refused, accepted, fault_at}
use Rattle.sml_rules.specs.Lookups.{Found, found, no_path, no_entry}

module _ {P : Type 0} where
  abbrev pub give : {X : Type 0} → X → Answer P X
  give x = accepted x

  -- one after the other
  unfoldable pub ◌>>=◌ : {X Y : Type 0} → Answer P X → (X → Answer P Y) → Answer P Y
  ◌>>=◌ (refused f) next = refused f
  ◌>>=◌ (accepted x) next = next x

  infixr 20 ◌>>=◌
  -- a condition that holds, or the fault
  abbrev pub check : Bool → Fault P → Answer P (Unit {0})
  check true f = accepted tt
  check false f = refused f

  -- what a long identifier finds, or that its path leads nowhere, or that nothing is there, which is the code given
  abbrev pub need : {X : Type 0} → Code → P → LongId → Found X → Answer P X
  need c p x (found v) = accepted v
  need c p x (no_path s) = refused (fault_at E3 p s)
  need c p x no_entry = refused (fault_at c p (x.path ++ x.last ∷ []))
