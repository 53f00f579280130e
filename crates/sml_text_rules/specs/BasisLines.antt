-- What a declaration binds, line by line, in the order in which it is printed: what stands in environments, each with its path,
-- after it the signatures, and after them the functors, whose arguments and results have paths of their own.
use Rattle.std.specs.Prelude.{List, [], ◌∷◌, ◌++◌, map, codes}
use Rattle.std.specs.List.{flat_map}
use Rattle.sml_tree.specs.Trees.{Id}
use Rattle.sml_objects.specs.Appearance.{appear_type}
use Rattle.sml_objects.specs.Maps.{Map}
use Rattle.sml_core_rules.specs.Objects.{Value, TyStr, Sig, FunSig, Basis, names_map}
use Rattle.sml_module_rules.specs.Lines.{Line, Component, a_structure, a_type, a_value, lines}

pub data BasisLine (N : Type 0) : Type 0 where
  of_env : Line (TyStr N) (Value N) → BasisLine N
  of_signature : Id → BasisLine N
  of_functor : Id → BasisLine N

abbrev pub signature_lines : {N : Type 0} → Map (Sig N) → List (BasisLine N)
signature_lines [] = []
signature_lines (e ∷ gs) = of_signature e.0 ∷ (map of_env (lines (e.0 ∷ []) e.1.body) ++ signature_lines gs)

abbrev pub functor_lines : {N : Type 0} → Map (FunSig N) → List (BasisLine N)
functor_lines [] = []
functor_lines (e ∷ fs) =
    of_functor e.0
    ∷ (map of_env (lines (e.0 ∷ codes "arg" ∷ []) e.1.argument.body ++ lines (e.0 ∷ codes "res" ∷ []) e.1.result.body) ++ functor_lines fs)

abbrev pub basis_lines : {N : Type 0} → Basis N → List (BasisLine N)
basis_lines B = map of_env (lines [] B.body) ++ (signature_lines B.signatures ++ functor_lines B.functors)

-- the names that the signatures and the functors bind
abbrev pub bound_names : {N : Type 0} → Basis N → List N
bound_names B = names_map (λ S. S.names) B.signatures ++ names_map (λ F. F.argument.names ++ F.result.names) B.functors

-- The names in the order in which they appear in the lines: in a line from left to right, the arguments of a name before it, and
-- after a type its constructors.

abbrev pub appear_component : {N : Type 0} → Component (TyStr N) (Value N) → List N
appear_component a_structure = []
appear_component (a_type t) = appear_type t.function.body ++ names_map (λ σ. appear_type σ.body) t.constructors
appear_component (a_value v) = appear_type v.scheme.body

abbrev pub appear_line : {N : Type 0} → BasisLine N → List N
appear_line (of_env l) = appear_component l.1
appear_line (of_signature x) = []
appear_line (of_functor x) = []

abbrev pub appear_basis : {N : Type 0} → Basis N → List N
appear_basis B = flat_map appear_line (basis_lines B)
