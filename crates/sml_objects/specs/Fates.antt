-- Closing where some variables stay free (the Definition, section 4.8).
use Rattle.std.specs.Prelude.{ℕ, suc, Bool, List, [], ◌∷◌, slice_index_or, Option, Some, None}
use Rattle.std.specs.Global.{Global}
use Rattle.std.specs.declared.rc.Rc.{Rc}
use Rattle.sml_objects.specs.Initial.{Name}
use Rattle.sml_objects.specs.Objects as O
use Rattle.sml_objects.specs.Types.{assign, variables_after, index_among}
use Rattle.sml_objects.specs.Views.{type_of}
use Rattle.sml_objects.specs.declared.fates.Fate.{Fate}
use Rattle.sml_objects.specs.declared.fates.Fate.TheVariants.{Bind, Keep, Default}
use Rattle.sml_objects.specs.declared.objects.MlType.{MlType}

-- the equality attributes of the variables that are bound
abbrev pub attributes : List Fate → List Bool
attributes [] = []
attributes (Bind e ∷ fs) = e ∷ attributes fs
attributes (Keep ∷ fs) = attributes fs
attributes (Default ∷ fs) = attributes fs

-- what stands for each variable that doesn't stay, where u is the default; those that are bound are numbered from k on
abbrev pub substitutes : {N : Type 0} → O.MlType N → ℕ → List Fate → List (Option (O.MlType N))
substitutes u k [] = []
substitutes u k (Bind e ∷ fs) = Some (O.bound k) ∷ substitutes u (suc k) fs
substitutes u k (Keep ∷ fs) = None ∷ substitutes u k fs
substitutes u k (Default ∷ fs) = Some u ∷ substitutes u k fs

abbrev pub type_or : {N : Type 0} → O.MlType N → Option (O.MlType N) → O.MlType N
type_or t None = t
type_or t (Some u) = u

-- the type of the place of v among some variables, or v itself
abbrev pub standing_for : {N : Type 0} → List ℕ → List (Option (O.MlType N)) → ℕ → O.MlType N
standing_for vs ts v = type_or (O.free v) (slice_index_or ts (index_among v vs) None)

-- Closing, with a fate for each free variable in the order of their first appearance. The bound ones keep that order.
unfoldable pub close_as : {N : Type 0} → O.MlType N → List Fate → O.MlType N → O.Scheme N
close_as u fs t = record {
  variables = attributes fs;
  body = assign (standing_for (variables_after [] t) (substitutes u 0 fs)) t;
}

-- the same where no fate is the default
abbrev pub closed : {N : Type 0} → List Fate → O.MlType N → O.Scheme N
closed fs t = close_as t fs t

abbrev pub seen_type : Option (Rc MlType Global) → Option (O.MlType Name)
seen_type None = None
seen_type (Some t) = Some (type_of t.value)
