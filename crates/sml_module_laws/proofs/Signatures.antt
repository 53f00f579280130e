-- Signature expressions and specifications are read to what was made.
use Rattle.std.specs.Prelude.{◌≡◌, ◌<◌, ℕ, Bool, true, false, cond, List, [], ◌∷◌, ◌++◌, map, length, Option, Some, None, is_some}
use Rattle.std.proofs.Common.{arith}
use Rattle.std.proofs.lemmas.List.{length-replicate}
use mathlib.Core.Path.{refl, sym, ◌∙◌}
use Rattle.sml_tree.specs.Trees.{Id, LongId}
use Rattle.sml_tree.specs.Names.{LongName}
use Rattle.sml_tree.specs.Signatures.{WhereType, SigExp, Spec, Specs, StrDescs, sig_end, sig_name, where_type, val_spec, type_spec, eqtype_spec, datatype_spec, copy_spec, exception_spec, structure_spec, include_spec, sharing_types, sharing_structures, no_spec, and_spec, str_desc, no_str_desc, and_str_desc}
use Rattle.sml_objects.specs.Appearance.{stands}
use Rattle.sml_objects.specs.Maps.{Map, lookup}
use Rattle.sml_objects.specs.Objects.{MlType, Scheme, Head, bound}
use Rattle.sml_rules.specs.Matching.{Realisation}
use Rattle.sml_core_rules.specs.Datatypes.{listed, type_function, name_function, constructor_values}
use Rattle.sml_core_rules.specs.Lookups.{structure_at}
use Rattle.sml_core_rules.specs.Objects.{Env, Sig, maps, no_structure, structures, put_structure, empty, extend, of_values}
use Rattle.sml_core_rules.specs.States.{Scope, State, Window}
use Rattle.sml_core_rules.specs.Types.{read_ty}
use Rattle.sml_core_rules.proofs.Derived.{needed, ty-to}
use Rattle.sml_core_laws.specs.Made.{Speaks, IsTyStrIn, IsHeadIn, IsGrown}
use Rattle.sml_core_laws.proofs.MadeTypes.{each-lookup, all-more, speaks-more}
use Rattle.sml_core_laws.proofs.MadeShapes.{heads-more}
use Rattle.sml_core_laws.proofs.MadeEnvs.{extend-in, type-found, str-more}
use Rattle.sml_core_laws.proofs.MadeReadings.{ty-speaks}
use Rattle.sml_core_laws.proofs.MadeBindings.{copied-in}
use Rattle.sml_core_laws.proofs.MadeScripts.{EnvAt, Done, env-up, onwards}
use Rattle.sml_module_rules.specs.Bound.{inside, bound_name, function_at, name_at, for_both, common_paths}
use Rattle.sml_module_rules.specs.Matching.{renewed_signature}
use Rattle.sml_core_rules.specs.Functions.{name_of}
use Rattle.sml_module_rules.specs.Realising.{realise_env, is_same_name, no_function, with_function, with_names}
use Rattle.sml_module_rules.specs.Signatures.{no_names, need_name, join, share_named, share, need_names, share_others, share_types, need_structures, share_paths, share_with, share_pairs, share_structures, realise_name, read_where, add, named, read_sig, read_specs, read_spec, read_descs}
use Rattle.sml_module_laws.specs.Made.{IsBodyIn, AreSignaturesIn}
use Rattle.sml_module_laws.proofs.Bodies.{body-env, body-extend, body-empty, body-put, type-usual}
use Rattle.sml_module_laws.proofs.Realised.{IsFor, AreFunctionsIn, AreNamed, none-in, with-in, name-in, names-in, function-in, named-arity, env-realised}
use Rattle.sml_module_laws.proofs.Steps.{Goes, BodyAt, body-up, first, knows, gives, refuses, looks, chooses, checks, makes-names}
use Rattle.sml_module_laws.proofs.Described.{SigAt, listed-all, values-body, values-go, exceptions-go, types-go, datatypes-go}

module _ {P N : Type 0} (S : Head N → ℕ → Type 0) where
  abbrev pub SignaturesAt : Map (Sig N) → State P N → Type 0
  SignaturesAt G s = AreSignaturesIn S s.names G

  pub signatures-up : {s t : State P N} → IsGrown s t → (G : Map (Sig N)) → SignaturesAt G s → SignaturesAt G t
  signatures-up {s} {t} g G h = all-more (λ e. BodyAt S e.1.body s) (λ e. BodyAt S e.1.body t) (λ e k. body-up S g e.1.body k) G h

  -- an environment with what was specified so far
  with-so-far : (s : State P N) (C E : Env N) → EnvAt S C s → BodyAt S E s → EnvAt S (extend C E) s
  with-so-far s C E c h = extend-in S s.made s.names C E c (body-env S s.names s.made E h)

bound-speaks : {N : Type 0} (m : ℕ) (H : Head N → ℕ → Type 0) (j : ℕ) → j < m → Speaks (λ j. j < m) (λ v. ⊥) H (bound j)
unfolding Speaks
bound-speaks m H j l = l

-- a type where more was made
heads-up : {P N : Type 0} (S : Head N → ℕ → Type 0) (B V : ℕ → Type 0) {s t : State P N} → IsGrown s t → (u : MlType N) → Speaks B V (IsHeadIn S s.names) u → Speaks B V (IsHeadIn S t.names) u
heads-up S B V {s} {t} g u h = speaks-more B V B V (IsHeadIn S s.names) (IsHeadIn S t.names) u h (λ k b. b) (λ v l. l) (heads-more S s.names t.names g.names)

-- the bound name that a type function is
was-bound : {N : Type 0} (scope : Scope N) (ns : List N) (θ : Scheme N) (n : N) → bound_name scope ns θ ≡ Some n → name_of θ ≡ Some n
was-bound {N} scope ns θ n e = go (name_of θ) e
  where
    then : (b : Bool) (m : N) → cond b (Some m) None ≡ Some n → Some m ≡ Some n
    then true m e = e
    then false m e = let f : None ≡ Some n = e in absurd cc

    go : (o : Option N) → (elim o [ None ↦ None | Some n ↦ cond (stands scope.names n ns) (Some n) None ]) ≡ Some n → o ≡ Some n
    go None e = e
    go (Some m) e = then (stands scope.names m ns) m e

-- one name for two
both-in : {N : Type 0} (S : Head N → ℕ → Type 0) (scope : Scope N) (names : List N) (n m : N) (ks : List N) → (scope.names.attributes n).arity ≡ (scope.names.attributes m).arity → AreNamed scope.names S names (map (λ n. scope.names.attributes n) (n ∷ [])) ks
    → AreFunctionsIn scope.names S names (for_both scope n m ks)
both-in S scope names n m [] e h = none-in scope.names S names
both-in {N} S scope names n m (k ∷ ks) e h =
    let a = (scope.names.attributes n).arity in
    let θ : Scheme N = name_function k a in
    let i = name-in scope.names S names k a h.0 in
    with-in scope.names S names n θ (with_function scope.names m θ (no_function scope.names)) (i, length-replicate a false)
    (with-in scope.names S names m θ (no_function scope.names) (i, length-replicate a false ∙ e) (none-in scope.names S names))

module _ {P N : Type 0} {S : Head N → ℕ → Type 0} {scope : Scope N} {w : Window P N} where
  -- with new names
  pub renewed-goes : {s : State P N} (R : Sig N) → SigAt S R s → Goes S scope w s (renewed_signature scope R) (SigAt S)
  renewed-goes R h =
      first (makes-names (map (λ n. scope.names.attributes n) R.names)) (λ ns t g q.
      knows (λ y. gives (env-realised scope.names S y.exact t.names (with_names scope.names R.names ns (no_function scope.names))
      (names-in scope.names S t.names R.names ns (no_function scope.names) q (none-in scope.names S t.names)) R.body (body-up S g R.body h))))

  named-goes : {s : State P N} (p : P) (x : Id) (o : Option (Sig N)) → ((R : Sig N) → o ≡ Some R → SigAt S R s) → Goes S scope w s (named scope p x o) (SigAt S)
  named-goes p x None h = refuses
  named-goes p x (Some R) h = renewed-goes R (h R refl)

  need-goes : {s : State P N} (p : P) (o : Option N) → Goes S scope w s (need_name scope p o) (λ n t. o ≡ Some n)
  need-goes p None = refuses
  need-goes p (Some n) = gives refl

  add-goes : {s : State P N} (p : P) (Q R : Sig N) → SigAt S Q s → SigAt S R s → Goes S scope w s (add scope p Q R) (SigAt S)
  add-goes p Q R h k = first checks (λ u t g d. gives (body-extend S t.names Q.body R.body (body-up S g Q.body h) (body-up S g R.body k)))

  -- sharing

  join-goes : {s : State P N} (p : P) (R : Sig N) (n m : N) → SigAt S R s → Goes S scope w s (join scope p R n m) (SigAt S)
  join-goes p R n m h =
      chooses (is_same_name scope.names n m) (gives h)
      (first checks (λ a t g e.
      first (makes-names _) (λ ks u i q.
      knows (λ y.
      let r = env-realised scope.names S y.exact u.names (for_both scope n m ks) (both-in S scope u.names n m ks e q) R.body (body-up S i R.body (body-up S g R.body h)) in
      first checks (λ b z j d. gives (body-up S j (realise_env (for_both scope n m ks) R.body) r))))))

  share-named : {s : State P N} (p : P) (R : Sig N) (x y : LongId) (o q : Option N) → SigAt S R s → Goes S scope w s (share_named scope p R x y o q) (SigAt S)
  share-named p R x y (Some n) (Some m) h = join-goes p R n m h
  share-named p R x y (Some n) None h = first checks (λ a t g d. gives (body-up S g R.body h))
  share-named p R x y None m h = first checks (λ a t g d. gives (body-up S g R.body h))

  share-goes : (p : P) (R : Sig N) (x y : LongId) {s : State P N} → SigAt S R s → Goes S scope w s (share scope p R x y) (SigAt S)
  share-goes p R x y h = share-named p R x y (name_at scope R x) (name_at scope R y) h

  needs-names : (R : Sig N) (xs : List (LongName P)) {s : State P N} → Goes S scope w s (need_names scope R xs) Done
  unfolding need_names
  needs-names R [] = gives tt
  needs-names R (x ∷ xs) =
      first (looks {Q = λ t z. Unit {0}} _ (λ t e. tt)) (λ t z g d. first (need-goes x.place (bound_name scope R.names t.function)) (λ n z g d. needs-names R xs))

  shares-others : (R : Sig N) (x : LongId) (ys : List (LongName P)) {s : State P N} → SigAt S R s → Goes S scope w s (share_others scope R x ys) (SigAt S)
  unfolding share_others
  shares-others R x [] h = gives h
  shares-others R x (y ∷ ys) h = first (share-goes y.place R x y.id h) (λ Q t g k. shares-others Q x ys k)

  shares-types : (R : Sig N) (xs : List (LongName P)) {s : State P N} → SigAt S R s → Goes S scope w s (share_types scope R xs) (SigAt S)
  shares-types R [] h = gives h
  shares-types R (x ∷ xs) h = first (needs-names R (x ∷ xs)) (λ a t g d. shares-others R x.id xs (body-up S g R.body h))

  needs-structures : (R : Sig N) (xs : List (LongName P)) {s : State P N} → Goes S scope w s (need_structures scope R xs) Done
  unfolding need_structures
  needs-structures R [] = gives tt
  needs-structures R (x ∷ xs) = first (looks {Q = λ t z. Unit {0}} _ (λ t e. tt)) (λ E t g d. needs-structures R xs)

  shares-paths : (p : P) (R : Sig N) (x y : LongId) (qs : Map LongId) {s : State P N} → SigAt S R s → Goes S scope w s (share_paths scope p R x y qs) (SigAt S)
  unfolding share_paths
  shares-paths p R x y [] h = gives h
  shares-paths p R x y (q ∷ qs) h =
      chooses (is_some (function_at R (inside y q.1))) (first (share-goes p R (inside x q.1) (inside y q.1) h) (λ Q t g k. shares-paths p Q x y qs k)) (shares-paths p R x y qs h)

  shares-with : (R : Sig N) (x : LongId) (ys : List (LongName P)) {s : State P N} → SigAt S R s → Goes S scope w s (share_with scope R x ys) (SigAt S)
  unfolding share_with
  shares-with R x [] h = gives h
  shares-with R x (y ∷ ys) h = first (shares-paths y.place R x y.id (common_paths (structure_at R.body x)) h) (λ Q t g k. shares-with Q x ys k)

  shares-pairs : (R : Sig N) (xs : List (LongName P)) {s : State P N} → SigAt S R s → Goes S scope w s (share_pairs scope R xs) (SigAt S)
  unfolding share_pairs
  shares-pairs R [] h = gives h
  shares-pairs R (x ∷ xs) h = first (shares-with R x.id xs h) (λ Q t g k. shares-pairs Q xs k)

  shares-structures : (R : Sig N) (xs : List (LongName P)) {s : State P N} → SigAt S R s → Goes S scope w s (share_structures scope R xs) (SigAt S)
  shares-structures R xs h = first (needs-structures R xs) (λ a t g d. shares-pairs R xs (body-up S g R.body h))

  -- `where type`

  realise-goes : {s : State P N} (C : Env N) (R : Sig N) (d : WhereType P) (n : N) (φ : Realisation N) → AreFunctionsIn scope.names S s.names φ → SigAt S R s → Goes S scope w s (realise_name scope C R d n φ) (SigAt S)
  realise-goes {s} C R d n φ q h =
      knows (λ y.
      let r = env-realised scope.names S y.exact s.names φ q R.body h in
      first checks (λ a t g k. first checks (λ b u i l. gives (body-up S (onwards g i) (realise_env φ R.body) r))))

  where-goes : {s : State P N} (C : Env N) (R : Sig N) (d : WhereType P) → EnvAt S C s → SigAt S R s → Goes S scope w s (read_where scope C R d) (SigAt S)
  where-goes {s} C R d c h =
      let m = length d.variables in
      first (looks {Q = λ t z. IsTyStrIn S z.names t} _ (λ t e. type-found S 0 s.names R.body d.constructor.id t h.0 (needed _ _ d.constructor.id _ t e))) (λ t s1 g1 a.
      first (knows (λ y. looks {Q = λ u z. Speaks (λ j. j < m) (λ v. ⊥) (IsHeadIn S z.names) u} (read_ty C (listed bound 0 d.variables) d.ty) (λ u e.
      ty-speaks scope.names S y.known.shape s1.names (λ j. j < m) (λ v. ⊥) s1.made C (env-up S g1 C c) (listed bound 0 d.variables) (listed-all (Speaks (λ j. j < m) (λ v. ⊥) (IsHeadIn S s1.names)) bound m 0 d.variables (omega arith) (λ j l. bound-speaks m (IsHeadIn S s1.names) j l)) d.ty u (ty-to C (listed bound 0 d.variables) d.ty u e)))) (λ u s2 g2 b.
      first checks (λ x s3 g3 e.
      first (need-goes d.constructor.place (bound_name scope R.names t.function)) (λ n s4 g4 f.
      first checks (λ z s5 g5 k.
      knows (λ y.
      let here = onwards g3 (onwards g4 g5) in
      let own = str-more S s1.made s1.names s5.made s5.names (onwards g2 here).made (onwards g2 here).names t a in
      let arity = named-arity scope.names S y.exact s5.names t.function n own.0 (was-bound scope R.names t.function n f) in
      let body = heads-up S (λ j. j < m) (λ v. ⊥) here u b in
      let i : IsFor scope.names S s5.names n (type_function d.variables u) = (function-in scope.names S s5.names m u body, length-replicate m false ∙ (sym e ∙ arity)) in
      realise-goes C R d n (with_function scope.names n (type_function d.variables u) (no_function scope.names))
      (with-in scope.names S s5.names n (type_function d.variables u) (no_function scope.names) i (none-in scope.names S s5.names)) (body-up S (onwards g1 (onwards g2 here)) R.body h)))))))

  -- signature expressions and specifications; G has the signatures in scope, C what is seen
  module _ (G : Map (Sig N)) where
    mutual
      unfolding read_sig

      pub sig-goes : (C : Env N) (e : SigExp P) {s : State P N} → SignaturesAt S G s → EnvAt S C s → Goes S scope w s (read_sig scope G C e) (SigAt S)
      sig-goes C (sig_end p qs) {s} m c = specs-go C (no_names empty) qs m c (body-empty S s.names)
      sig-goes C (sig_name p x) {s} m c = named-goes p x (lookup x G) (λ R e. each-lookup (λ R. IsBodyIn S s.names R.body) x G R m e)
      sig-goes C (where_type p e d) m c = first (sig-goes C e m c) (λ R t g h. where-goes C R d (env-up S g C c) h)

      specs-go : (C : Env N) (Q : Sig N) (qs : Specs P) {s : State P N} → SignaturesAt S G s → EnvAt S C s → SigAt S Q s → Goes S scope w s (read_specs scope G C Q qs) (SigAt S)
      specs-go C Q no_spec m c h = gives h
      specs-go C Q (and_spec q qs) m c h = first (spec-goes C Q q m c h) (λ R t g k. specs-go C R qs (signatures-up S g G m) (env-up S g C c) k)

      spec-goes : (C : Env N) (Q : Sig N) (q : Spec P) {s : State P N} → SignaturesAt S G s → EnvAt S C s → SigAt S Q s → Goes S scope w s (read_spec scope G C Q q) (SigAt S)
      spec-goes C Q (val_spec p ds) {s} m c h =
          first (values-go (extend C Q.body) ds (with-so-far S s C Q.body c h)) (λ vs t g k.
          let b = values-body S t.names vs k in
          first checks (λ u z i d. add-goes p Q (no_names (of_values vs)) (body-up S (onwards g i) Q.body h) (body-up S i (of_values vs) b)))
      spec-goes C Q (type_spec p ds) m c h = first (types-go p false ds) (λ R t g k. add-goes p Q R (body-up S g Q.body h) k)
      spec-goes C Q (eqtype_spec p ds) m c h = first (types-go p true ds) (λ R t g k. add-goes p Q R (body-up S g Q.body h) k)
      spec-goes C Q (datatype_spec p ds) {s} m c h =
          first (datatypes-go p (extend C Q.body) ds (with-so-far S s C Q.body c h)) (λ R t g k. add-goes p Q R (body-up S g Q.body h) k)
      spec-goes C Q (copy_spec p x y) {s} m c h =
          first (looks {Q = λ t z. IsTyStrIn S z.names t} _ (λ t e. type-found S s.made s.names (extend C Q.body) y.id t (with-so-far S s C Q.body c h) (needed _ _ y.id _ t e))) (λ t z g a.
          knows (λ r. add-goes p Q (no_names (maps no_structure ((x.id, t) ∷ []) (constructor_values t.constructors))) (body-up S g Q.body h) (copied-in scope.names S r.known.shape z.names 0 x.id t a, type-usual x.id t)))
      spec-goes C Q (exception_spec p cs) {s} m c h =
          first (exceptions-go (extend C Q.body) cs (with-so-far S s C Q.body c h)) (λ vs t g k.
          let b = values-body S t.names vs k in
          first checks (λ u z i d. add-goes p Q (no_names (of_values vs)) (body-up S (onwards g i) Q.body h) (body-up S i (of_values vs) b)))
      spec-goes C Q (structure_spec p ds) {s} m c h =
          first (descs-go (extend C Q.body) (no_names empty) ds m (with-so-far S s C Q.body c h) (body-empty S s.names)) (λ R t g k. add-goes p Q R (body-up S g Q.body h) k)
      spec-goes C Q (include_spec p e) {s} m c h = first (sig-goes (extend C Q.body) e m (with-so-far S s C Q.body c h)) (λ R t g k. add-goes p Q R (body-up S g Q.body h) k)
      spec-goes C Q (sharing_types p xs) m c h = shares-types Q xs h
      spec-goes C Q (sharing_structures p xs) m c h = shares-structures Q xs h

      descs-go : (C : Env N) (Q : Sig N) (ds : StrDescs P) {s : State P N} → SignaturesAt S G s → EnvAt S C s → SigAt S Q s → Goes S scope w s (read_descs scope G C Q ds) (SigAt S)
      descs-go C Q no_str_desc m c h = gives h
      descs-go C Q (and_str_desc (str_desc x e) ds) m c h =
          first (sig-goes C e m c) (λ R t g k.
          descs-go C (record { names = Q.names ++ R.names; body = maps (put_structure x.id R.body (structures Q.body)) [] [] }) ds (signatures-up S g G m) (env-up S g C c)
          (body-put S t.names x.id R.body Q.body k (body-up S g Q.body h)))
