-- Answers and readings. A reading is the set of the answers that are right for a phrase. It goes through what the
-- phrase asks, in text order, and stops at the first thing that isn't met.
use Rattle.std.specs.Prelude.{◌≡◌, ℕ, List, [], ◌∷◌, ◌++◌, ◌⊎◌, Some, None, codes}
use Rattle.sml_lex.specs.declared.fault.Code.{Code}
use Rattle.sml_lex.specs.declared.fault.Code.TheVariants.{E3}
use Rattle.sml_lex.specs.Faults.{Fault}
use Rattle.sml_tree.specs.Trees.{Id, LongId}
use Rattle.sml_rules.specs.Lookups.{Found, found, no_path, no_entry}

pub data Answer (P X : Type 0) : Type 0 where
  refused : Fault P → Answer P X
  accepted : X → Answer P X

abbrev pub Reading : Type 0 → Type 0 → Type 1
Reading P X = Answer P X → Type 0

module _ {P : Type 0} where
  unfoldable pub give : {X : Type 0} → X → Reading P X
  give x o = o ≡ accepted x

  unfoldable pub After : {X Y : Type 0} → (X → Reading P Y) → Answer P X → Answer P Y → Type 0
  After next (refused f) o = o ≡ refused f
  After next (accepted x) o = next x o

  -- one after the other
  unfoldable pub ◌>>=◌ : {X Y : Type 0} → Reading P X → (X → Reading P Y) → Reading P Y
  ◌>>=◌ {X} m next o = (q : Answer P X) × m q × After next q o

  infixr 20 ◌>>=◌
  -- a condition that holds, or the fault
  unfoldable pub test : Type 0 → Fault P → Reading P (Unit {0})
  test C f o = (C × (o ≡ accepted tt)) ⊎ (¬ C × (o ≡ refused f))

  -- any object of which this holds
  unfoldable pub any : {X : Type 0} → (X → Type 0) → Reading P X
  any C (accepted x) = C x
  any C (refused f) = ⊥

  abbrev pub fault : Code → P → Fault P
  fault c p = record { code = c; place = p; detail = None }

-- identifiers with dots between them
abbrev pub dotted : List Id → List ℕ
dotted [] = []
dotted (x ∷ []) = x
dotted (x ∷ y ∷ ys) = x ++ codes "." ++ dotted (y ∷ ys)

abbrev pub fault_at : {P : Type 0} → Code → P → List Id → Fault P
fault_at c p xs = record { code = c; place = p; detail = Some (dotted xs) }

-- what a long identifier finds, or that its path leads nowhere, or that nothing is there, which is the code given
abbrev pub need : {P X : Type 0} → Code → P → LongId → Found X → Reading P X
need c p x (found v) = give v
need c p x (no_path s) = λ o. o ≡ refused (fault_at E3 p s)
need c p x no_entry = λ o. o ≡ refused (fault_at c p (x.path ++ x.last ∷ []))
