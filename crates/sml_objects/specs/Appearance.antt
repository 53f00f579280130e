-- The order in which names appear in the lines of an environment: structures, each with its components, then types,
-- then values; in a line from left to right, where the arguments of a name stand before it.
use Rattle.std.specs.Prelude.{◌↔◌, ◌≡◌, ◌⊎◌, Bool, true, false, cond, List, [], ◌∷◌, ◌++◌}
use Rattle.sml_objects.specs.Names.{Naming}
use Rattle.sml_objects.specs.Maps.{Map}
use Rattle.sml_objects.specs.Objects.{MlType, MlTypes, Scheme, Env, Structures, Sig, bound, free, app, no_type, and_type, env, no_structure, and_structure, names_head}

unfoldable mutual
  pub appear_type : {N : Type 0} → MlType N → List N
  appear_type (bound k) = []
  appear_type (free v) = []
  appear_type (app h ts) = appear_types ts ++ names_head h

  pub appear_types : {N : Type 0} → MlTypes N → List N
  appear_types no_type = []
  appear_types (and_type t ts) = appear_type t ++ appear_types ts

unfoldable pub appear_map : {N : Type 0} → Map (Scheme N) → List N
appear_map [] = []
appear_map (x ∷ xs) = appear_type x.1.body ++ appear_map xs

unfoldable mutual
  pub appear_env : {N : Type 0} → Env N → List N
  appear_env (env ss ts vs) = appear_structures ss ++ (appear_map ts ++ appear_map vs)

  pub appear_structures : {N : Type 0} → Structures N → List N
  appear_structures no_structure = []
  appear_structures (and_structure s E ss) = appear_env E ++ appear_structures ss

-- names that stand nowhere in the environment appear last
unfoldable pub appear_sig : {N : Type 0} → Sig N → List N
appear_sig S = appear_env S.body ++ S.names

-- n is one of the names
unfoldable pub Stands : {N : Type 0} → N → List N → Type 0
Stands n [] = ⊥
Stands n (m ∷ ms) = (n ≡ m) ⊎ Stands n ms

abbrev pub HaveSameNames : {N : Type 0} → List N → List N → Type 0
HaveSameNames {N} ms ns = (n : N) → Stands n ms ↔ Stands n ns

module _ {N : Type 0} (names : Naming N) where
  unfoldable pub stands : N → List N → Bool
  stands n [] = false
  stands n (m ∷ ms) = elim (names.same n m) [ yes _ ↦ true | no _ ↦ stands n ms ]

  -- those seen, and the others in the order of their first appearance
  unfoldable pub firsts_after : List N → List N → List N
  firsts_after seen [] = seen
  firsts_after seen (n ∷ ns) = firsts_after (cond (stands n seen) seen (seen ++ n ∷ [])) ns
