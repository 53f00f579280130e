-- What layers tell holds in what the outer scopes mean, extended by what was drafted.
use Rattle.std.proofs.Common.{◌≡◌, List, [], ◌∷◌, map, reverse, Option, Some, None, refl, ap, sym, ◌∙◌, subst}
use Rattle.std.specs.List.{AllByRecursion}
use Rattle.sml_tree.specs.Trees.{Id}
use Rattle.sml_objects.specs.Initial.{Name}
use Rattle.sml_objects.specs.Maps.{Map, join, lookup}
use Rattle.sml_objects.specs.Views.{entries_of}
use Rattle.sml_core_rules.specs.Objects as O
use Rattle.sml_bases.specs.declared.objects.Env.{Env}
use Rattle.sml_bases.specs.declared.objects.Env.TheViews.{out-Env}
use Rattle.sml_bases.specs.Layers.{first_found, or_else}
use Rattle.sml_bases.specs.Views.{env_of, structures_of, ty_str_of}
use Rattle.sml_bases.proofs.EnvViews.{env_of-out}
use Rattle.sml_types.specs.Answered.{TellsOf, there_or}
use Rattle.sml_scopes.specs.CodeScopes.{IsOrdered}
use Rattle.sml_scopes.proofs.Joins.{find-join, join-found, listed-of}
use Rattle.sml_sigs.specs.Layers.{drafted, structure_drafted, type_drafted}
use Rattle.sml_sigs.specs.declared.draft.Draft.{Draft}

-- an environment extended by others, of which the last one stands first
abbrev pub extended_by : O.Env Name → List (O.Env Name) → O.Env Name
extended_by C [] = C
extended_by C (E ∷ Es) = O.extend (extended_by C Es) E

-- the identifiers ascend in what was drafted, the innermost first
abbrev pub AreOrdered : List Draft → Type 0
AreOrdered ds = AllByRecursion (λ d. IsOrdered d.env) (reverse ds)

abbrev pub LayersTell : Type 1
LayersTell = (structure : Id → Option (O.Env Name) → Type 0) (type_str : Id → Option (O.TyStr Name) → Type 0) (C : O.Env Name) (ds : List Draft) → AreOrdered ds → TellsOf structure type_str C
    → TellsOf (λ x o. there_or (structure_drafted ds x) (structure x) o) (λ x o. there_or (type_drafted ds x) (type_str x) o) (extended_by C (drafted ds))

or-else-assoc : {X : Type 0} (a b c : Option X) → or_else a (or_else b c) ≡ or_else (or_else a b) c
or-else-assoc None b c = refl
or-else-assoc (Some x) b c = refl

-- one environment over another

abbrev structures_in : Env → Map (O.Env Name)
structures_in E = entries_of (λ s. env_of s.value) (out-Env E).structures.entries

type-over : (C : O.Env Name) (E : Env) → IsOrdered E → (x : Id)
    → lookup x (O.types (O.extend C (env_of E))) ≡ or_else (lookup x (O.types (env_of E))) (lookup x (O.types C))
type-over (O.maps cs ct cv) E r x =
    subst (λ D. lookup x (O.types (O.extend (O.maps cs ct cv) D)) ≡ or_else (lookup x (O.types D)) (lookup x ct)) (sym (env_of-out E))
    (join-found ty_str_of (out-Env E).types.entries ct x r.types_rise)

structure-over : (C : O.Env Name) (E : Env) → IsOrdered E → (x : Id)
    → O.find_structure x (O.structures (O.extend C (env_of E))) ≡ or_else (O.find_structure x (O.structures (env_of E))) (O.find_structure x (O.structures C))
structure-over (O.maps cs ct cv) E r x =
    subst (λ D. O.find_structure x (O.structures (O.extend (O.maps cs ct cv) D)) ≡ or_else (O.find_structure x (O.structures D)) (O.find_structure x cs)) (sym (env_of-out E))
    (find-join x cs (structures_of (structures_in E)) (λ m. ap (λ l. lookup x (join m l)) (listed-of (structures_in E)) ∙ join-found (λ s. env_of s.value) (out-Env E).structures.entries m x r.structures_rise ∙ ap (λ l. or_else (lookup x l) (lookup x m)) (sym (listed-of (structures_in E)))))

-- many over one

module _ {X : Type 0} (look : O.Env Name → Option X) (over : (C : O.Env Name) (E : Env) → IsOrdered E → look (O.extend C (env_of E)) ≡ or_else (look (env_of E)) (look C)) (C : O.Env Name) where
  all-over : (ds : List Draft) → AllByRecursion (λ d. IsOrdered d.env) ds
      → or_else (first_found look (map (λ d. env_of d.env) ds)) (look C) ≡ look (extended_by C (map (λ d. env_of d.env) ds))
  all-over [] r = refl
  all-over (d ∷ ds) r =
      sym (or-else-assoc (look (env_of d.env)) (first_found look (map (λ e. env_of e.env) ds)) (look C))
      ∙ ap (or_else (look (env_of d.env))) (all-over ds r.1)
      ∙ sym (over (extended_by C (map (λ e. env_of e.env) ds)) d.env r.0)

  told : (says : Option X → Type 0) (o there : Option X) → ((p : Option X) → says p → p ≡ look C) → there_or there says o → o ≡ or_else there (look C)
  told says o None h s = h o s
  told says o (Some v) h s = s

pub layers-tell : LayersTell
layers-tell structure type_str C ds r t = record {
  structures_are = λ x o s.
      told (λ E. O.find_structure x (O.structures E)) (λ D E q. structure-over D E q x) C (structure x) o (structure_drafted ds x) (t.structures_are x) s
      ∙ all-over (λ E. O.find_structure x (O.structures E)) (λ D E q. structure-over D E q x) C (reverse ds) r;
  types_are = λ x o s.
      told (λ E. lookup x (O.types E)) (λ D E q. type-over D E q x) C (type_str x) o (type_drafted ds x) (t.types_are x) s
      ∙ all-over (λ E. lookup x (O.types E)) (λ D E q. type-over D E q x) C (reverse ds) r;
}
