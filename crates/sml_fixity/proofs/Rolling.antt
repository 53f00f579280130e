-- The roles of a sequence are as many as its items, and a sequence without a tree is no pattern.
use Rattle.std.proofs.Common.{◌≡◌, ℕ, ◌+◌, ◌<◌, List, [], ◌∷◌, length, refl, ap, suc, arith, Result, Ok, Err, IfErr}
use Rattle.sml_fixity.specs.declared.sequences.Item.{Item}
use Rattle.sml_fixity.specs.declared.roles.Role.{Role}
use Rattle.sml_fixity.specs.declared.sequences.FixFault.{FixFault}
use Rattle.sml_fixity.specs.declared.sequences.FixFault.TheVariants.{NoOperand, MixedSides, Malformed, Memory}
use Rattle.sml_fixity.specs.Infix.{FaultStands}
use Rattle.sml_fixity.specs.Patterns.{PatternFaultStands}
use Rattle.sml_fixity.specs.Scopes.{Map}
use Rattle.sml_fixity.specs.Sequences.{roles_from, roles_of}

length-roles : (f : Map) (i : ℕ) (xs : List Item) → length (roles_from f i xs) ≡ length xs
length-roles f i [] = refl
length-roles f i (x ∷ xs) = ap suc (length-roles f (i + 1) xs)

pub roles_some : (f : Map) (xs : List Item) (rs : List Role) → rs ≡ roles_of f xs → 0 < length xs → 0 < length rs
roles_some f xs rs e h = omega (arith, h, ap length e, length-roles f 0 xs)

pub pattern_faults : {A : Type 0} (items : List Item) (roles : List Role) (r : Result A FixFault) → IfErr r (λ f. FaultStands roles f) → IfErr r (λ f. PatternFaultStands items roles f)
pattern_faults items roles (Ok x) h = h
pattern_faults items roles (Err (NoOperand k)) h = h
pattern_faults items roles (Err (MixedSides k)) h = h
pattern_faults items roles (Err Malformed) h = absurd h
pattern_faults items roles (Err Memory) h = h
