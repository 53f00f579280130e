-- What identifiers mean in the scopes that are open: what was found in them, or else in the basis below.
use Rattle.std.specs.Prelude.{ℕ, Vec, List, map, Option}
use Rattle.std.specs.Global.{Global}
use Rattle.std.specs.List.Sorted.{IsStrictlySortedBy}
use Rattle.std.specs.Map.{keys_of}
use Rattle.std.specs.Option.{option_map}
use Rattle.std.specs.declared.rc.Rc.{Rc}
use Rattle.sml_tree.specs.Trees.{Id}
use Rattle.sml_tree.specs.Views.{ident_of}
use Rattle.sml_objects.specs.Initial.{Name}
use Rattle.sml_objects.specs.Maps.{lookup, order_of}
use Rattle.sml_core_rules.specs.Objects as O
use Rattle.sml_bases.specs.declared.objects.Basis.{Basis}
use Rattle.sml_bases.specs.declared.objects.Env.{Env}
use Rattle.sml_bases.specs.declared.objects.Env.TheViews.{out-Env}
use Rattle.sml_bases.specs.declared.objects.TypeStr.{TypeStr}
use Rattle.sml_bases.specs.declared.objects.Value.{Value}
use Rattle.sml_bases.specs.CodeStored.{stored_at}
use Rattle.sml_bases.specs.Layers.{first_found, layers, or_else}
use Rattle.sml_bases.specs.Views.{env_of, ty_str_of, value_of}
use Rattle.sml_scopes.specs.CodeTables.{bound, found_since}
use Rattle.sml_scopes.specs.declared.scopes.Scopes.{Scopes}

-- the identifiers of a map ascend
abbrev pub AreRising : {X : Type 0} → List (Rc (Vec ℕ Global) Global × X) → Type 0
AreRising es = IsStrictlySortedBy (λ a b. order_of (ident_of a) (ident_of b)) (keys_of es)

-- those of an environment
pub record IsOrdered (E : Env) : Type 0 where
  pub values_rise : AreRising (out-Env E).values.entries
  pub types_rise : AreRising (out-Env E).types.entries
  pub structures_rise : AreRising (out-Env E).structures.entries

-- the structures that were opened, in order
abbrev pub opened_in : Scopes → List Env
opened_in s = map (λ e. e.value) s.opened.items

module _ (b : Basis) (opened : List Env) (x : Id) where
  abbrev pub value_by : Option (ℕ × Value) → Option (O.Value Name)
  value_by e = or_else (option_map value_of (found_since (stored_at (λ E. (out-Env E).values.entries) x) opened e)) (first_found (λ E. lookup x (O.values E)) (layers b))

  abbrev pub type_by : Option (ℕ × TypeStr) → Option (O.TyStr Name)
  type_by e = or_else (option_map ty_str_of (found_since (stored_at (λ E. (out-Env E).types.entries) x) opened e)) (first_found (λ E. lookup x (O.types E)) (layers b))

  abbrev pub structure_by : Option (ℕ × Rc Env Global) → Option (O.Env Name)
  structure_by e = or_else (option_map (λ s. env_of s.value) (found_since (stored_at (λ E. (out-Env E).structures.entries) x) opened e)) (first_found (λ E. O.find_structure x (O.structures E)) (layers b))

abbrev pub value_in : Scopes → Id → Option (O.Value Name)
value_in s x = value_by s.basis.now (opened_in s) x (bound s.values x)

abbrev pub type_in : Scopes → Id → Option (O.TyStr Name)
type_in s x = type_by s.basis.now (opened_in s) x (bound s.types x)

abbrev pub structure_in : Scopes → Id → Option (O.Env Name)
structure_in s x = structure_by s.basis.now (opened_in s) x (bound s.structures x)
