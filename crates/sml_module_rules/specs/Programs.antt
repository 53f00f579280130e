-- Programs: top-level declarations one after the other (the Definition, section 8, without the dynamic part).
use Rattle.std.specs.Prelude.{List, [], ◌∷◌, map, Option, Some, None}
use Rattle.sml_tree.specs.Names.{Name}
use Rattle.sml_tree.specs.Expressions.{open_dec}
use Rattle.sml_tree.specs.Signatures.{SigExp}
use Rattle.sml_tree.specs.declared.structures.Ascription.TheVariants.{Opaque}
use Rattle.sml_tree.specs.Structures.{StrExp, StrBinds, FunBind, TopDec, ascribed, str_let, core_dec, structure_dec, no_str_dec, and_str_dec, str_bind, no_str_bind, and_str_bind, top_str, functor_dec}
use Rattle.sml_rules.specs.Answers.{Answer, refused, accepted}
use Rattle.sml_core_rules.specs.Objects.{Basis}
use Rattle.sml_core_rules.specs.States.{Scope}
use Rattle.sml_module_rules.specs.Structures.{Added, unjudged, add_basis, IsTopReading}

-- a fault adds nothing
abbrev pub basis_after : {P N : Type 0} → Basis N → Answer P (Added P N) → Basis N
basis_after B (refused f) = B
basis_after B (accepted A) = add_basis B A.basis

-- what declarations, each with its place, may be answered one after the other
unfoldable pub AreReadings : {P N : Type 0} → Scope N → Basis N → List (P × TopDec P) → List (Answer P (Added P N)) → Type 0
AreReadings scope B [] [] = Unit {0}
AreReadings scope B [] (o ∷ os) = ⊥
AreReadings scope B (d ∷ ds) [] = ⊥
AreReadings scope B (d ∷ ds) (o ∷ os) = IsTopReading scope d.0 B d.1 o × AreReadings scope (basis_after B o) ds os

-- What stands behind a seal: the place of the ascription, and the structure.
pub record Behind (P : Type 0) : Type 0 where
  pub ascription : P
  pub body : StrExp P

-- The places of a declaration and of its bindings.
pub record Places (P : Type 0) : Type 0 where
  pub declaration : P
  pub bindings : P

-- A structure that two programs seal by one signature, and what stands behind the seal in each.
pub record SealedStructure (P : Type 0) : Type 0 where
  pub name : Name P
  pub signature : SigExp P
  pub first : Behind P
  pub second : Behind P

-- A functor whose body two programs seal by one signature, and what stands behind the seal in each.
pub record SealedFunctor (P : Type 0) : Type 0 where
  pub name : Name P
  pub argument : Name P
  pub signature : SigExp P
  pub result : SigExp P
  pub first : Behind P
  pub second : Behind P

-- A structure of a group that two programs have: the same in both, or sealed by one signature.
pub data StructurePair (P : Type 0) : Type 0 where
  kept_structure : Name P → StrExp P → StructurePair P
  sealed_structure : SealedStructure P → StructurePair P

-- A functor of a group that two programs have: the same in both, or with a body that one signature seals. In the last case the argument
-- is opened around the body, as where it is written by its specifications.
pub data FunctorPair (P : Type 0) : Type 0 where
  kept_functor : FunBind P → FunctorPair P
  sealed_functor : SealedFunctor P → FunctorPair P
  opened_functor : SealedFunctor P → FunctorPair P

-- `.. :> s`
abbrev pub sealed : {P : Type 0} → Behind P → SigExp P → StrExp P
sealed e s = ascribed e.ascription e.body Opaque s

-- `let open x in .. end`, at the place of x
abbrev pub opened : {P : Type 0} → Name P → StrExp P → StrExp P
opened x e = str_let x.place (and_str_dec (core_dec (open_dec x.place (record { place = x.place; id = record { path = []; last = x.id } } ∷ []))) no_str_dec) e

-- `x = .. and ..`, as one of the programs has it

abbrev pub structure_name : {P : Type 0} → StructurePair P → Name P
structure_name (kept_structure x e) = x
structure_name (sealed_structure b) = b.name

abbrev pub structure_body : {P : Type 0} → (SealedStructure P → Behind P) → StructurePair P → StrExp P
structure_body side (kept_structure x e) = e
structure_body side (sealed_structure b) = sealed (side b) b.signature

abbrev pub structure_group : {P : Type 0} → (SealedStructure P → Behind P) → List (StructurePair P) → StrBinds P
structure_group side [] = no_str_bind
structure_group side (b ∷ bs) = and_str_bind (str_bind (structure_name b) (structure_body side b)) (structure_group side bs)

-- `f (x : s) = .. and ..`, likewise
abbrev pub functor_of : {P : Type 0} → (SealedFunctor P → Behind P) → FunctorPair P → FunBind P
functor_of side (kept_functor b) = b
functor_of side (sealed_functor b) = record { name = b.name; argument = b.argument; signature = b.signature; body = sealed (side b) b.result }
functor_of side (opened_functor b) =
    record { name = b.name; argument = b.argument; signature = b.signature; body = opened b.argument (sealed (side b) b.result) }

abbrev pub functor_group : {P : Type 0} → (SealedFunctor P → Behind P) → List (FunctorPair P) → List (FunBind P)
functor_group side bs = map (functor_of side) bs

-- A declaration of one program and that of another in its place: the same, or two groups that are alike but for what stands behind
-- seals: structures joined by `and`, or functors.
pub data Pair (P : Type 0) : Type 0 where
  same : P → TopDec P → Pair P
  structures : Places P → Places P → List (StructurePair P) → Pair P
  functors : Places P → Places P → List (FunctorPair P) → Pair P

abbrev pub first : {P : Type 0} → Pair P → P × TopDec P
first (same p d) = (p, d)
first (structures p q bs) = (p.declaration, top_str (structure_dec p.bindings (structure_group (λ b. b.first) bs)))
first (functors p q bs) = (p.declaration, functor_dec p.bindings (functor_group (λ b. b.first) bs))

abbrev pub second : {P : Type 0} → Pair P → P × TopDec P
second (same p d) = (p, d)
second (structures p q bs) = (q.declaration, top_str (structure_dec q.bindings (structure_group (λ b. b.second) bs)))
second (functors p q bs) = (q.declaration, functor_dec q.bindings (functor_group (λ b. b.second) bs))

-- the answer to one of two that differ: neither its fault nor what is to be judged in it
abbrev pub acceptance : {P N : Type 0} → Answer P (Added P N) → Option (Answer P (Added P N))
acceptance (refused f) = None
acceptance (accepted A) = Some (accepted (unjudged A))

-- the answer to one of the two, but for faults of those that differ and what is to be judged in them
abbrev pub shown : {P N : Type 0} → Pair P → Answer P (Added P N) → Option (Answer P (Added P N))
shown (same p d) o = Some o
shown (structures p q bs) o = acceptance o
shown (functors p q bs) o = acceptance o

abbrev pub all_shown : {P N : Type 0} → List (Pair P) → List (Answer P (Added P N)) → List (Option (Answer P (Added P N)))
all_shown [] os = []
all_shown (d ∷ ds) [] = []
all_shown (d ∷ ds) (o ∷ os) = shown d o ∷ all_shown ds os
