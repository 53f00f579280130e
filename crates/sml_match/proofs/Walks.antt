-- Lines that are read, along the maps of an environment.
use Rattle.std.proofs.Common.{◌≡◌, ℕ, List, [], ◌∷◌, ◌++◌, ap, sym, subst, ◌∙◌, Vec, Global, Some, None}
use Rattle.std.specs.declared.rc.Rc.{Rc}
use Rattle.sml_lex.specs.declared.fault.Place.{Place}
use Rattle.sml_tree.specs.Trees.{Id}
use Rattle.sml_tree.specs.Views.{ident_of}
use Rattle.sml_objects.specs.Initial.{Name, naming}
use Rattle.sml_objects.specs.Views.{entries_of}
use Rattle.sml_rules.specs.Answers.{Answer}
use Rattle.sml_rules.specs.Matching.{Realisation}
use Rattle.sml_core_rules.specs.Objects.{Env, TyStr, Value}
use Rattle.sml_module_rules.specs.Lines.{Line, at_path, lines, structure_lines, type_lines, value_lines}
use Rattle.sml_module_rules.specs.Matching.{function_for}
use Rattle.sml_bases.specs.Views.{env_of, structures_of, ty_str_of, value_of}
use Rattle.sml_bases.specs.declared.objects.Env as P
use Rattle.sml_bases.specs.declared.objects.TypeStr.{TypeStr}
use Rattle.sml_bases.specs.declared.objects.Env.TheViews.{out-Env}
use Rattle.sml_bases.proofs.EnvViews.{env_of-out}
use Rattle.sml_match.specs.Mismatches.{IsRefused}
use Rattle.sml_match.specs.Searches.{next_of, reading}
use Rattle.sml_match.specs.declared.mismatch.Mismatch.{Mismatch}
use Rattle.sml_match.proofs.Reading.{in-order, next-structure, no-structures, passed, taken, then}

abbrev pub Lines : Type 0
Lines = List (Line (TyStr Name) (Value Name))

abbrev pub Key : Type 0
Key = Rc (Vec ℕ Global) Global

abbrev pub structures-left : List Id → List (Key × Rc P.Env Global) → Lines
structures-left path es = structure_lines path (structures_of (entries_of (λ s. env_of s.value) es))

abbrev pub types-left : List Id → List (Key × TypeStr) → Lines
types-left path es = type_lines path (entries_of ty_str_of es)

abbrev pub values-of : List Id → P.Env → Lines
values-of path e = value_lines path (entries_of value_of (out-Env e).values.entries)

pub refused-too : {Y : Type 0} (p : Place) (m : Mismatch) (a b : Answer Place Y) → a ≡ b → IsRefused p m b → IsRefused p m a
refused-too p m a b e h = subst (IsRefused p m) (sym e) h

module _ (p : Place) (ns : List Name) (E : Env Name) where
  pub one-structure : (φ : Realisation Name) (path : List Id) (t u : List (Key × Rc P.Env Global)) (k : Key) (a : Rc P.Env Global) (rest : Lines) → t ≡ (k, a) ∷ u
      → reading p ns E φ (structures-left path t ++ rest) ≡ reading p ns E φ (lines (path ++ ident_of k ∷ []) (env_of a.value) ++ (structures-left path u ++ rest))
  one-structure φ path t u k a rest h =
      ap (λ es. reading p ns E φ (structures-left path es ++ rest)) h
      ∙ next-structure p ns E φ path (ident_of k) (env_of a.value) (structures_of (entries_of (λ s. env_of s.value) u)) rest

  pub structures-end : (φ : Realisation Name) (path : List Id) (t : List (Key × Rc P.Env Global)) (rest : Lines) → t ≡ []
      → reading p ns E φ (structures-left path t ++ rest) ≡ reading p ns E φ rest
  structures-end φ path t rest h = ap (λ es. reading p ns E φ (structures-left path es ++ rest)) h ∙ no-structures p ns E φ path rest

  pub types-end : (φ : Realisation Name) (path : List Id) (t : List (Key × TypeStr)) (rest : Lines) → t ≡ []
      → reading p ns E φ (types-left path t ++ rest) ≡ reading p ns E φ rest
  types-end φ path t rest h = ap (λ es. reading p ns E φ (types-left path es ++ rest)) h

  pub type-passed : (φ : Realisation Name) (path : List Id) (t u : List (Key × TypeStr)) (k : Key) (a : TypeStr) (rest : Lines) → t ≡ (k, a) ∷ u
      → next_of ns φ (ty_str_of a).function ≡ None
      → reading p ns E φ (types-left path t ++ rest) ≡ reading p ns E φ (types-left path u ++ rest)
  type-passed φ path t u k a rest h e =
      ap (λ es. reading p ns E φ (types-left path es ++ rest)) h
      ∙ passed p ns E φ (at_path path (ident_of k)) (ty_str_of a) (types-left path u ++ rest) e

  pub type-taken : (φ : Realisation Name) (path : List Id) (t u : List (Key × TypeStr)) (k : Key) (a : TypeStr) (m : Name) (rest : Lines) → t ≡ (k, a) ∷ u
      → next_of ns φ (ty_str_of a).function ≡ Some m
      → reading p ns E φ (types-left path t ++ rest)
      ≡ then p ns E φ m (types-left path u ++ rest) (function_for naming p ns E (at_path path (ident_of k)) m (ty_str_of a))
  type-taken φ path t u k a m rest h e =
      ap (λ es. reading p ns E φ (types-left path es ++ rest)) h
      ∙ taken p ns E φ (at_path path (ident_of k)) (ty_str_of a) (types-left path u ++ rest) m e

  -- an environment, by its maps
  pub whole : (φ : Realisation Name) (path : List Id) (e : P.Env) (rest : Lines)
      → reading p ns E φ (lines path (env_of e) ++ rest)
      ≡ reading p ns E φ (structures-left path (out-Env e).structures.entries ++ (types-left path (out-Env e).types.entries ++ (values-of path e ++ rest)))
  whole φ path e rest =
      ap (λ F. reading p ns E φ (lines path F ++ rest)) (env_of-out e)
      ∙ in-order p ns E φ path (structures_of (entries_of (λ s. env_of s.value) (out-Env e).structures.entries)) (entries_of ty_str_of (out-Env e).types.entries) (entries_of value_of (out-Env e).values.entries) rest
