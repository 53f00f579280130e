-- Structures and top-level declarations: with which codes they are refused.
use Rattle.std.specs.Prelude.{◌≡◌, ◌||◌, ℕ, suc, Bool, true, false, cond, List, [], ◌∷◌, ◌++◌, map, Option, Some, None, is_none}
use mathlib.Core.Path.{refl, sym, ap, subst, ◌∙◌}
use mathlib.Core.Logic.{inl, inr}
use Rattle.sml_lex.specs.declared.fault.Code.{Code}
use Rattle.sml_lex.specs.declared.fault.Code.TheVariants.{E3, E7, M1, M2, M3, M4, M5, M6, M7, Q1, Q2, Q3}
use Rattle.sml_lex.specs.Faults.{Fault}
use Rattle.sml_tree.specs.Trees.{Id, LongId}
use Rattle.sml_tree.specs.Names.{Name}
use Rattle.sml_tree.specs.Structures.{StrExp, StrDec, StrDecs, StrBinds, SigBind, FunBind, TopDec, struct_end, str_name, ascribed, functor_apply, str_let, core_dec, structure_dec, str_local, no_str_dec, and_str_dec, str_bind, no_str_bind, and_str_bind, top_str, signature_dec, functor_dec}
use Rattle.sml_tree.specs.declared.structures.Ascription.{Ascription}
use Rattle.sml_tree.specs.declared.structures.Ascription.TheVariants.{Transparent, Opaque}
use Rattle.sml_objects.specs.Maps.{Map, lookup, put}
use Rattle.sml_objects.specs.Objects.{Scheme}
use Rattle.sml_rules.specs.Answers.{Answer, refused, accepted, fault, fault_at}
use Rattle.sml_rules.specs.Lookups.{Found, found, no_path, no_entry}
use Rattle.sml_rules.specs.Matching.{Realisation}
use Rattle.sml_rules.proofs.Sound.{not_refused}
use Rattle.sml_core_rules.specs.Answers as A
use Rattle.sml_core_rules.specs.Lookups.{type_at, value_at, structure_at}
use Rattle.sml_core_rules.specs.Objects.{Env, Value, TyStr, Sig, FunSig, Basis, empty, extend, maps, no_structure, and_structure}
use Rattle.sml_core_rules.specs.States.{Scope, State}
use Rattle.sml_core_rules.specs.Expressions.{at_first}
use Rattle.sml_core_rules.specs.Scripts.{Script, give, test, IsAnswer}
use Rattle.sml_core_rules.specs.Values.{has_unknown}
use Rattle.sml_module_rules.specs.Lines.{Line, a_structure, a_type, a_value, lines, path_of, component}
use Rattle.sml_core_rules.specs.Functions.{name_of}
use Rattle.sml_module_rules.specs.Realising.{no_function, with_function, realise_env}
use Rattle.sml_module_rules.specs.Matching.{IsGeneral, function_for, is_next, read_realisation, admit_equality, stand_alone, require_general, require_lines, match_signature, renewed, renewed_signature, ascribe, apply_functor}
use Rattle.sml_module_rules.specs.Signatures.{read_sig}
use Rattle.sml_module_rules.specs.Structures.{Added, nothing, names_part, all_bound, signature_place, one_structure, functor_named, read_str, read_strs, read_strdec, read_str_binds, read_signatures, read_structure, structure_parts, read_functor, str_parts, parts, IsAlone, AreAlone, IsExported, IsAnswered, IsTopReading}
use Rattle.sml_core_rules.proofs.Refused.{refused-same}
use Rattle.sml_refusals.specs.Codes.{core_code, signature_code, line_code, size_code, matching_code, functor_code, structure_code, export_code, top_code}
use Rattle.sml_refusals.proofs.Refusing.{or-left, or-right, CodeOf, code-then, RefusesBy, refuses-then, refuses-look, refuses-cond, refusal}
use Rattle.sml_refusals.proofs.CodesOfTypes.{code-need, code-check}
use Rattle.sml_refusals.proofs.CodesOfSignatures.{codes-renewed, codes-sig}
use Rattle.sml_refusals.proofs.CodesOfCore.{codes-dec}

-- matching

module _ (D : Code → Bool) (inside : (c : Code) → matching_code c ≡ true → D c ≡ true) {P : Type 0} where
  codes-component : {X : Type 0} (p : P) (x : LongId) (r : Found X) → CodeOf D (component p x r)
  codes-component p x (found v) = tt
  codes-component p x (no_path s) = inside M1 refl
  codes-component p x no_entry = inside M1 refl

  -- a type line, whose name is realised next or not
  codes-either : (N : Type 0) {X : Type 0} (next : N → Bool) (a : Answer P X) (b : N → Answer P X) → CodeOf D a → ((n : N) → CodeOf D (b n)) → (o : Option N)
      → CodeOf D (elim o [ None ↦ a | Some n ↦ cond (next n) (b n) a ])
  codes-either N next a b h k None = h
  codes-either N next a b h k (Some n) = by-next (next n) a (b n) h (k n)
    where
      by-next : {P X : Type 0} (c : Bool) (a b : Answer P X) → CodeOf D a → CodeOf D b → CodeOf D (cond c b a)
      by-next true a b h k = k
      by-next false a b h k = h

  module _ {N : Type 0} (scope : Scope N) where
    codes-function : (p : P) (ns : List N) (E : Env N) (x : LongId) (n : N) (t : TyStr N) → CodeOf D (function_for scope.names p ns E x n t)
    codes-function p ns E x n t =
        code-then D _ _ (codes-component p x (type_at E x)) (λ u. code-then D _ _ (code-check D _ _ (inside M2 refl)) (λ a. code-then D _ _ (code-check D _ _ (inside M3 refl)) (λ b. tt)))

    codes-realisation : (p : P) (ns : List N) (E : Env N) (ls : List (Line (TyStr N) (Value N))) (φ : Realisation N) → CodeOf D (read_realisation scope.names p ns E φ ls)
    unfolding read_realisation
    codes-realisation p ns E [] φ = tt
    codes-realisation p ns E ((x, a_structure) ∷ ls) φ = codes-realisation p ns E ls φ
    codes-realisation p ns E ((x, a_value v) ∷ ls) φ = codes-realisation p ns E ls φ
    codes-realisation p ns E ((x, a_type t) ∷ ls) φ =
        codes-either _ (is_next scope.names p ns E φ) _ _ (codes-realisation p ns E ls φ)
        (λ n. code-then D _ _ (codes-function p ns E x n t) (λ θ. codes-realisation p ns E ls (with_function scope.names n θ φ))) (name_of t.function)

    codes-admit : (f : Fault P) → D f.code ≡ true → (k : ℕ) (es : List Bool) → RefusesBy D (admit_equality scope f k es)
    unfolding RefusesBy
    codes-admit f h k [] = tt
    codes-admit f h k (false ∷ es) = codes-admit f h (suc k) es
    codes-admit f h k (true ∷ es) = refuses-then D _ _ (h, tt) (λ u. codes-admit f h (suc k) es)

    codes-alone : (f : Fault P) → D f.code ≡ true → (k : ℕ) (es : List Bool) → RefusesBy D (stand_alone scope f k es)
    unfolding RefusesBy
    codes-alone f h k [] = tt
    codes-alone f h k (e ∷ es) = refuses-then D _ _ (h, tt) (λ u. codes-alone f h (suc k) es)

    codes-general : (f : Fault P) → D f.code ≡ true → (σ τ : Scheme N) → RefusesBy D (require_general scope f σ τ)
    unfolding RefusesBy
    codes-general f h σ τ =
        refuses-then D _ _ (λ k. tt) (λ k. refuses-then D _ _ (codes-admit f h k σ.variables) (λ a. refuses-then D _ _ (λ j. tt) (λ j.
        refuses-then D _ _ (codes-alone f h j τ.variables) (λ b. refuses-then D _ _ (h, tt) (λ c. refuses-then D _ _ (λ s. tt) (λ s. (h, tt)))))))

    codes-lines : (p : P) (E : Env N) (ls : List (Line (TyStr N) (Value N))) → RefusesBy D (require_lines scope p E ls)
    unfolding require_lines RefusesBy
    codes-lines p E [] = tt
    codes-lines p E ((x, a_structure) ∷ ls) = refuses-then D _ _ (refuses-look D N _ (codes-component p x (structure_at E x))) (λ F. codes-lines p E ls)
    codes-lines p E ((x, a_type t) ∷ ls) =
        refuses-then D _ _ (refuses-look D N _ (codes-component p x (type_at E x))) (λ u. refuses-then D _ _ (inside M2 refl, tt) (λ a.
        refuses-then D _ _ (inside M4 refl, tt) (λ b. refuses-then D _ _ (inside M5 refl, tt) (λ c. codes-lines p E ls))))
    codes-lines p E ((x, a_value v) ∷ ls) =
        refuses-then D _ _ (refuses-look D N _ (codes-component p x (value_at E x))) (λ u. refuses-then D _ _ (inside M7 refl, tt) (λ a.
        let tested : RefusesBy D {P = P} {N = N} (test (IsGeneral scope.names u.scheme v.scheme) (fault_at M6 p (path_of x))) = (inside M6 refl, tt) in
        refuses-then D _ _ (refuses-cond D (has_unknown u.scheme.body || has_unknown v.scheme.body) (require_general scope (fault_at M6 p (path_of x)) u.scheme v.scheme)
        (test (IsGeneral scope.names u.scheme v.scheme) (fault_at M6 p (path_of x))) (codes-general (fault_at M6 p (path_of x)) (inside M6 refl) u.scheme v.scheme) tested) (λ b. codes-lines p E ls)))

    codes-match : (p : P) (E : Env N) (S : Sig N) → RefusesBy D (match_signature scope p E S)
    unfolding RefusesBy
    codes-match p E S =
        refuses-then D _ _ (refuses-look D N _ (codes-realisation p S.names E (lines [] S.body) (no_function scope.names))) (λ φ.
        refuses-then D _ _ (inside E7 refl, tt) (λ s. refuses-then D _ _ (codes-lines p E (lines [] (realise_env φ S.body))) (λ a. tt)))

    pub codes-ascribed : (p : P) (E : Env N) (a : Ascription) (S : Sig N) → RefusesBy D (ascribe scope p E a S)
    unfolding RefusesBy
    codes-ascribed p E Transparent S = refuses-then D _ _ (codes-match p E S) (λ φ. tt)
    codes-ascribed p E Opaque S = refuses-then D _ _ (codes-match p E S) (λ φ. refuses-then D _ _ (codes-renewed D P scope S) (λ R. tt))

    pub codes-applied : (p : P) (F : FunSig N) (E : Env N) → RefusesBy D (apply_functor scope p F E)
    unfolding RefusesBy
    codes-applied p F E =
        refuses-then D _ _ (codes-match p E F.argument) (λ φ. refuses-then D _ _ (λ ns. tt) (λ ns. refuses-then D _ _ (inside E7 refl, tt) (λ a. tt)))

-- scripts of which each has such codes
unfoldable AreCoded : (Code → Bool) → {P N : Type 0} → List (Script P N (Basis N)) → Type 0
AreCoded D [] = Unit {0}
AreCoded D (k ∷ ks) = RefusesBy D k × AreCoded D ks

-- structures

module _ (D : Code → Bool) (inside : (c : Code) → structure_code c ≡ true → D c ≡ true) where
  matching-in : (c : Code) → matching_code c ≡ true → D c ≡ true
  matching-in c h = inside c (or-right (functor_code c) _ (or-left (matching_code c) _ h))

  signature-in : (c : Code) → signature_code c ≡ true → D c ≡ true
  signature-in c h = inside c (or-right (functor_code c) _ (or-right (matching_code c) _ (or-left (signature_code c) _ h)))

  core-in : (c : Code) → core_code c ≡ true → D c ≡ true
  core-in c h = inside c (or-right (functor_code c) _ (or-right (matching_code c) _ (or-right (signature_code c) _ h)))

  module _ {P N : Type 0} (scope : Scope N) (B : Basis N) where
    codes-functor : (x : Name P) (o : Option (FunSig N)) → RefusesBy D (functor_named scope x o)
    unfolding RefusesBy
    codes-functor x None = inside Q1 refl
    codes-functor x (Some F) = tt

    mutual
      unfolding read_str read_strs read_strdec read_str_binds RefusesBy

      pub codes-str : (C : Env N) (e : StrExp P) → RefusesBy D (read_str scope B C e)
      codes-str C (struct_end p ds) = codes-strs C empty ds
      codes-str C (str_name x) = refuses-look D N _ (code-need D E3 x.place x.id (structure_at C x.id) (inside E3 refl) (inside E3 refl))
      codes-str C (ascribed p e a s) =
          refuses-then D _ _ (codes-str C e) (λ E. refuses-then D _ _ (codes-sig D signature-in scope B.signatures C s) (λ S.
          codes-ascribed D matching-in scope (signature_place s) E a S))
      codes-str C (functor_apply x e) =
          refuses-then D _ _ (codes-functor x (lookup x.id B.functors)) (λ F. refuses-then D _ _ (codes-str C e) (λ E. codes-applied D matching-in scope x.place F E))
      codes-str C (str_let p ds e) = refuses-then D _ _ (codes-strs C empty ds) (λ E. codes-str (extend C E) e)

      codes-strs : (C F : Env N) (ds : StrDecs P) → RefusesBy D (read_strs scope B C F ds)
      codes-strs C F no_str_dec = tt
      codes-strs C F (and_str_dec d ds) = refuses-then D _ _ (codes-strdec C d) (λ E. codes-strs (extend C E) (extend F E) ds)

      codes-strdec : (C : Env N) (d : StrDec P) → RefusesBy D (read_strdec scope B C d)
      codes-strdec C (core_dec d) = refuses-then D _ _ tt (λ a. codes-dec D core-in scope C [] d)
      codes-strdec C (structure_dec p bs) = codes-str-binds C empty bs
      codes-strdec C (str_local p ds es) = refuses-then D _ _ (codes-strs C empty ds) (λ E. codes-strs (extend C E) empty es)

      codes-str-binds : (C F : Env N) (bs : StrBinds P) → RefusesBy D (read_str_binds scope B C F bs)
      codes-str-binds C F no_str_bind = tt
      codes-str-binds C F (and_str_bind (str_bind x e) bs) = refuses-then D _ _ (codes-str C e) (λ E. codes-str-binds C (extend F (one_structure x.id E)) bs)

    -- the parts of top-level declarations

    codes-structures : (bs : StrBinds P) → AreCoded D (structure_parts scope B bs)
    unfolding AreCoded RefusesBy
    codes-structures no_str_bind = tt
    codes-structures (and_str_bind (str_bind x e) bs) = (refuses-then D _ _ (codes-str B.body e) (λ E. tt), codes-structures bs)

    codes-functors : (bs : List (FunBind P)) → AreCoded D (map (read_functor scope B) bs)
    unfolding AreCoded RefusesBy
    codes-functors [] = tt
    codes-functors (b ∷ bs) = (
      refuses-then D _ _ (codes-sig D signature-in scope B.signatures B.body b.signature) (λ S. refuses-then D _ _ (codes-str (extend B.body (one_structure b.argument.id S.body)) b.body) (λ E. tt)),
      codes-functors bs,
    )

    codes-inside : (d : StrDec P) → AreCoded D (str_parts scope B d)
    unfolding AreCoded RefusesBy
    codes-inside (core_dec d) = (refuses-then D _ _ (codes-strdec B.body (core_dec d)) (λ E. tt), tt)
    codes-inside (structure_dec p bs) = codes-structures bs
    codes-inside (str_local p ds es) = (refuses-then D _ _ (codes-strdec B.body (str_local p ds es)) (λ E. tt), tt)

-- what all parts are answered, and what is exported

module _ (D : Code → Bool) (exported : (c : Code) → export_code c ≡ true → D c ≡ true) {P N : Type 0} (scope : Scope N) (B : Basis N) where
  part-code : (k : Script P N (Basis N)) → RefusesBy D k → (ns : List N) (f : Fault P) → IsAlone scope ns k (refused f) → D f.code ≡ true
  part-code k h ns f (refused e, a, m) = refusal D scope k h (at_first ns) f (subst (λ o. IsAnswer scope k (at_first ns) o) (ap refused (refused-same (sym m))) a)
  part-code k h ns f (accepted r, a, inl (C, d, e)) = absurd (not_refused (sym e))
  part-code k h ns f (accepted r, a, inr (d, e)) = absurd (not_refused (sym e))

  parts-code : (ks : List (Script P N (Basis N))) → AreCoded D ks → (ns : List N) (f : Fault P) → AreAlone scope ns ks (refused f) → D f.code ≡ true
  unfolding AreAlone AreCoded
  parts-code [] h ns f a = absurd (not_refused (sym a))
  parts-code (k ∷ ks) h ns f (inl (e, a, d)) = part-code k h.0 ns f (subst (λ e. IsAlone scope ns k (refused e)) (refused-same (sym d)) a)
  parts-code (k ∷ ks) h ns f (inr (m, a, refused e, b, d)) =
      parts-code ks h.1 (names_part m ++ ns) f (subst (λ e. AreAlone scope (names_part m ++ ns) ks (refused e)) (refused-same (sym d)) b)
  parts-code (k ∷ ks) h ns f (inr (m, a, accepted ms, b, d)) = absurd (not_refused (sym d))

  exported-code : (p : P) (m : Option (Added P N)) (f : Fault P) → IsExported scope B p m (refused f) → D f.code ≡ true
  exported-code p None f h = subst (λ c. D c ≡ true) (ap (λ f. f.code) (refused-same (sym h))) (exported Q2 refl)
  exported-code p (Some A) f (inl (s, h)) = subst (λ c. D c ≡ true) (ap (λ f. f.code) (refused-same (sym h))) (exported E7 refl)
  exported-code p (Some A) f (inr (inl (s, c, h))) = subst (λ c. D c ≡ true) (ap (λ f. f.code) (refused-same (sym h))) (exported Q3 refl)
  exported-code p (Some A) f (inr (inr (s, c, h))) = absurd (not_refused (sym h))

  answered-code : (p : P) (ks : List (Script P N (Basis N))) → AreCoded D ks → (ms : Answer P (List (Option (Added P N)))) → AreAlone scope B.names ks ms → (f : Fault P)
      → IsAnswered scope B p ms (refused f) → D f.code ≡ true
  answered-code p ks h (refused e) a f i = parts-code ks h B.names f (subst (λ e. AreAlone scope B.names ks (refused e)) (refused-same (sym i)) a)
  answered-code p ks h (accepted ms) a f i = exported-code p (all_bound ms) f i

-- top-level declarations

module _ (D : Code → Bool) (inside : (c : Code) → signature_code c ≡ true → D c ≡ true) {P N : Type 0} (scope : Scope N) (B : Basis N) where
  codes-signatures : (bs : List (SigBind P)) (m : Map (Sig N)) → RefusesBy D (read_signatures scope B m bs)
  unfolding read_signatures RefusesBy
  codes-signatures [] m = tt
  codes-signatures (b ∷ bs) m = refuses-then D _ _ (codes-sig D inside scope B.signatures B.body b.signature) (λ S. codes-signatures bs (put b.name.id S m))

-- the codes of what is exported, and of what is read

in-exports : (E : Code → Bool) (c : Code) → export_code c ≡ true → (export_code c || E c) ≡ true
in-exports E c h = or-left (export_code c) (E c) h

in-parts : (E : Code → Bool) (c : Code) → E c ≡ true → (export_code c || E c) ≡ true
in-parts E c h = or-right (export_code c) (E c) h

module _ {P N : Type 0} (scope : Scope N) (B : Basis N) where
  coded : (d : TopDec P) → AreCoded (top_code d) (parts scope B d)
  unfolding AreCoded RefusesBy
  coded (top_str d) = codes-inside (top_code (top_str d)) (in-parts structure_code) scope B d
  coded (signature_dec p bs) = (
    refuses-then (top_code (signature_dec p bs)) _ _ (codes-signatures (top_code (signature_dec p bs)) (in-parts signature_code) scope B bs []) (λ gs. tt),
    tt,
  )
  coded (functor_dec p bs) = codes-functors (top_code (functor_dec p bs)) (in-parts structure_code) scope B bs

  exported : (d : TopDec P) (c : Code) → export_code c ≡ true → top_code d c ≡ true
  exported (top_str d) c h = in-exports structure_code c h
  exported (signature_dec p bs) c h = in-exports signature_code c h
  exported (functor_dec p bs) c h = in-exports structure_code c h

  pub top-refusal : (p : P) (d : TopDec P) (f : Fault P) → IsTopReading scope p B d (refused f) → top_code d f.code ≡ true
  top-refusal p d f (ms, a, i) = answered-code (top_code d) (exported d) scope B p (parts scope B d) (coded d) ms a f i
