-- What drafts bind, the innermost first.
use Rattle.std.specs.Prelude.{ℕ, Vec, List, map, reverse, Option}
use Rattle.std.specs.Global.{Global}
use Rattle.std.specs.declared.rc.Rc.{Rc}
use Rattle.sml_tree.specs.Trees.{Id}
use Rattle.sml_objects.specs.Initial.{Name}
use Rattle.sml_objects.specs.Maps.{lookup}
use Rattle.sml_core_rules.specs.Objects as O
use Rattle.sml_bases.specs.declared.objects.Env.{Env}
use Rattle.sml_bases.specs.CodeStored.{stored_in}
use Rattle.sml_bases.specs.Layers.{first_found}
use Rattle.sml_bases.specs.Views.{env_of}
use Rattle.sml_sigs.specs.declared.draft.Draft.{Draft}

-- what a draft stores at an identifier, where an environment holds entries of this kind
abbrev pub drafted_at : {X : Type 0} → (Env → List (Rc (Vec ℕ Global) Global × X)) → Id → Draft → Option X
drafted_at held x d = stored_in x (held d.env)

-- the environments of drafts, the innermost first
abbrev pub drafted : List Draft → List (O.Env Name)
drafted ds = map (λ d. env_of d.env) (reverse ds)

-- the structure of the innermost draft that has one of this name
abbrev pub structure_drafted : List Draft → Id → Option (O.Env Name)
structure_drafted ds x = first_found (λ E. O.find_structure x (O.structures E)) (drafted ds)

-- the type structure of the innermost draft that has one of this name
abbrev pub type_drafted : List Draft → Id → Option (O.TyStr Name)
type_drafted ds x = first_found (λ E. lookup x (O.types E)) (drafted ds)
