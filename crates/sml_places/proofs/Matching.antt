-- Structures against signatures, at another place.
use Rattle.std.specs.Prelude.{ℕ, suc, Bool, true, false, cond, ◌||◌, not, nat_eq, List, [], ◌∷◌, map, length, Option, Some, None}
use mathlib.Core.Path.{refl}
use Rattle.sml_lex.specs.declared.fault.Code.TheVariants.{E7, M2, M3, M4, M5, M6, M7}
use Rattle.sml_lex.specs.Faults.{Fault}
use Rattle.sml_tree.specs.Trees.{LongId}
use Rattle.sml_tree.specs.declared.structures.Ascription.{Ascription}
use Rattle.sml_tree.specs.declared.structures.Ascription.TheVariants.{Transparent, Opaque}
use Rattle.sml_objects.specs.Equality.{has_equality}
use Rattle.sml_objects.specs.Names.{Naming}
use Rattle.sml_objects.specs.Objects.{Scheme, free}
use Rattle.sml_objects.specs.Types.{instance_from}
use Rattle.sml_layers.specs.Demands as D
use Rattle.sml_rules.specs.Answers.{Answer, fault, fault_at}
use Rattle.sml_rules.specs.Lookups.{Found, found, no_path, no_entry}
use Rattle.sml_rules.specs.Matching.{Realisation}
use Rattle.sml_core_rules.specs.Objects.{Env, Value, TyStr, Sig, FunSig}
use Rattle.sml_core_rules.specs.Lookups.{type_at, value_at, structure_at}
use Rattle.sml_core_rules.specs.States.{Scope}
use Rattle.sml_core_rules.specs.Values.{has_unknown}
use Rattle.sml_module_rules.specs.Lines.{Line, a_structure, a_type, a_value, lines, path_of, component}
use Rattle.sml_core_rules.specs.Functions.{name_of}
use Rattle.sml_module_rules.specs.Realising.{realise_env, admits_function, no_function, with_function, with_names}
use Rattle.sml_module_rules.specs.Matching.{function_for, is_next, read_realisation, numbers, require_or, admit_equality, stand_alone, require_general, require_lines, match_signature, renewed, renewed_signature, ascribe, apply_functor}
use Rattle.sml_places.specs.Answers.{place_fault}
use Rattle.sml_places.proofs.Scripts.{AreSame, alike-then, alike-with, alike-give, alike-requires-or}
use Rattle.sml_places.proofs.Types.{AreEqual, equal-then, equal-give, equal-check}
use Rattle.sml_places.proofs.Steps.{itself, same-look, same-test, same-unknowns, alike-so-far, same-names}
use Rattle.sml_places.proofs.Patterns.{same-cond}
use Rattle.sml_places.proofs.Values.{none-fixed}

module _ {P Q : Type 0} (f : P → Q) where
  equal-component : {X : Type 0} (p : P) (x : LongId) (r : Found X) → AreEqual f (component p x r) (component (f p) x r)
  equal-component p x (found v) = record { same = refl }
  equal-component p x (no_path s) = record { same = refl }
  equal-component p x no_entry = record { same = refl }

  equal-cond : {X : Type 0} (b : Bool) {a c : Answer P X} {d e : Answer Q X} → AreEqual f a d → AreEqual f c e → AreEqual f (cond b a c) (cond b d e)
  equal-cond true h k = h
  equal-cond false h k = k

  equal-option : {X Y : Type 0} (o : Option Y) {a : Answer P X} {b : Answer Q X} {g : Y → Answer P X} {h : Y → Answer Q X} → AreEqual f a b → ((y : Y) → AreEqual f (g y) (h y))
      → AreEqual f (elim o [ None ↦ a | Some y ↦ g y ]) (elim o [ None ↦ b | Some y ↦ h y ])
  equal-option None k l = k
  equal-option (Some y) k l = l y

  module _ {N : Type 0} (names : Naming N) (p : P) (bound : List N) (E : Env N) where
    equal-function : (x : LongId) (n : N) (t : TyStr N) → AreEqual f (function_for names p bound E x n t) (function_for names (f p) bound E x n t)
    equal-function x n t =
        equal-then f (equal-component p x (type_at E x)) (λ u. equal-then f (equal-check f (nat_eq (length u.function.variables) (length t.function.variables)) (fault_at M2 p (path_of x))) (λ a.
        equal-then f (equal-check f (not (has_equality names n) || admits_function names u.function) (fault_at M3 p (path_of x))) (λ b. equal-give f u.function)))

    equal-realisation : (φ : Realisation N) (ls : List (Line (TyStr N) (Value N))) → AreEqual f (read_realisation names p bound E φ ls) (read_realisation names (f p) bound E φ ls)
    unfolding read_realisation
    equal-realisation φ [] = equal-give f φ
    equal-realisation φ ((x, a_structure) ∷ ls) = equal-realisation φ ls
    equal-realisation φ ((x, a_value v) ∷ ls) = equal-realisation φ ls
    equal-realisation φ ((x, a_type t) ∷ ls) =
        equal-option (name_of t.function) (equal-realisation φ ls) (λ n.
        equal-cond (is_next names p bound E φ n) (equal-then f (equal-function x n t) (λ θ. equal-realisation (with_function names n θ φ) ls)) (equal-realisation φ ls))

module _ {P Q N : Type 0} (scope : Scope N) (f : P → Q) where
  same-or : (d : D.Demand N (List N)) (e : Fault P) → AreSame scope f (require_or scope d e) (require_or scope d (place_fault f e))
  same-or d e = alike-requires-or d e (alike-give tt)

  same-admitted : (e : Fault P) (k : ℕ) (es : List Bool) → AreSame scope f (admit_equality scope e k es) (admit_equality scope (place_fault f e) k es)
  same-admitted e k [] = alike-give tt
  same-admitted e k (false ∷ es) = same-admitted e (suc k) es
  same-admitted e k (true ∷ es) = alike-then (same-or (D.asks D.equality (free k)) e) (λ u. same-admitted e (suc k) es)

  same-alone : (e : Fault P) (k : ℕ) (es : List Bool) → AreSame scope f (stand_alone scope e k es) (stand_alone scope (place_fault f e) k es)
  same-alone e k [] = alike-give tt
  same-alone e k (x ∷ es) = alike-then (same-or (D.asks (D.variable (record { number = k; equality = x })) (free k)) e) (λ u. same-alone e (suc k) es)

  same-general : (e : Fault P) (σ τ : Scheme N) → AreSame scope f (require_general scope e σ τ) (require_general scope (place_fault f e) σ τ)
  same-general e σ τ =
      alike-then (same-unknowns (length σ.variables)) (λ k. alike-then (same-admitted e k σ.variables) (λ a. alike-then (same-unknowns (length τ.variables)) (λ j.
      alike-then (same-alone e j τ.variables) (λ b. alike-then (same-or (D.equal (instance_from k σ.body) (instance_from j τ.body)) e) (λ c.
      alike-with _ alike-so-far (λ s. same-test (none-fixed scope f s k [] (numbers j τ.variables)) e))))))

  same-lines : (p : P) (E : Env N) (ls : List (Line (TyStr N) (Value N))) → AreSame scope f (require_lines scope p E ls) (require_lines scope (f p) E ls)
  unfolding require_lines
  same-lines p E [] = alike-give tt
  same-lines p E ((x, a_structure) ∷ ls) = alike-then (same-look (equal-component f p x (structure_at E x))) (λ F. same-lines p E ls)
  same-lines p E ((x, a_type t) ∷ ls) =
      alike-then (same-look (equal-component f p x (type_at E x))) (λ u. alike-then (same-test itself (fault_at M2 p (path_of x))) (λ a.
      alike-then (same-test itself (fault_at M4 p (path_of x))) (λ b. alike-then (same-test itself (fault_at M5 p (path_of x))) (λ c. same-lines p E ls))))
  same-lines p E ((x, a_value v) ∷ ls) =
      alike-then (same-look (equal-component f p x (value_at E x))) (λ u. alike-then (same-test itself (fault_at M7 p (path_of x))) (λ a.
      alike-then (same-cond (has_unknown u.scheme.body || has_unknown v.scheme.body) (same-general (fault_at M6 p (path_of x)) u.scheme v.scheme)
      (same-test itself (fault_at M6 p (path_of x)))) (λ b. same-lines p E ls)))

  same-match : (p : P) (E : Env N) (S : Sig N) → AreSame scope f (match_signature scope p E S) (match_signature scope (f p) E S)
  same-match p E S =
      alike-then (same-look (equal-realisation f scope.names p S.names E (no_function scope.names) (lines [] S.body))) (λ φ. alike-then (same-test itself (fault E7 p)) (λ s.
      alike-then (same-lines p E (lines [] (realise_env φ S.body))) (λ a. alike-give φ)))

  same-renewed : (ns : List N) → AreSame scope f (renewed scope ns) (renewed scope ns)
  same-renewed ns = same-names (map (λ n. scope.names.attributes n) ns)

  pub same-renewed-signature : (S : Sig N) → AreSame scope f (renewed_signature scope S) (renewed_signature scope S)
  same-renewed-signature S =
      alike-then (same-renewed S.names) (λ ns. alike-give (record { names = ns; body = realise_env (with_names scope.names S.names ns (no_function scope.names)) S.body }))

  pub same-ascribed : (p : P) (E : Env N) (a : Ascription) (S : Sig N) → AreSame scope f (ascribe scope p E a S) (ascribe scope (f p) E a S)
  same-ascribed p E Transparent S = alike-then (same-match p E S) (λ φ. alike-give (realise_env φ S.body))
  same-ascribed p E Opaque S = alike-then (same-match p E S) (λ φ. alike-then (same-renewed-signature S) (λ R. alike-give R.body))

  pub same-functor : (p : P) (F : FunSig N) (E : Env N) → AreSame scope f (apply_functor scope p F E) (apply_functor scope (f p) F E)
  same-functor p F E =
      alike-then (same-match p E F.argument) (λ φ. alike-then (same-renewed F.result.names) (λ ns. alike-then (same-test itself (fault E7 p)) (λ a.
      alike-give (realise_env (with_names scope.names F.result.names ns φ) F.result.body))))
