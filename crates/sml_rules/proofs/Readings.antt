-- Each reading is settled by its basis, up to the names that it makes.
use Rattle.std.specs.Prelude.{◌≡◌, ◌≤◌, ◌+◌, ℕ, List, [], ◌∷◌, length}
use mathlib.Core.Path.{refl, sym, ◌∙◌}
use mathlib.Core.List.{◌++◌}
use Rattle.sml_lex.specs.declared.fault.Code.TheVariants.{N2, Q3}
use Rattle.sml_tree.specs.Trees.{Spec, Dec, type_spec, val_spec, core, sealed, other}
use Rattle.sml_objects.specs.Names.{Naming}
use Rattle.sml_objects.specs.Objects.{Env, Sig, Basis, empty_env, one_type, one_structure, extend, mono, named, Outside, rename_sig, rename_env, rename_basis, names_sig, names_env, names_basis}
use Rattle.sml_rules.specs.Rules.{IsNew, apart, sum_of, Item, item_of, Specified}
use Rattle.sml_rules.specs.Answers.{Answer, refused, accepted, give, ◌>>=◌, test, any, fault}
use Rattle.sml_rules.specs.Readings.{read_cores, place_of, read_spec, read_specs, read_match, read_dec, read_top}
use Rattle.sml_rules.proofs.Renaming.{Fixes, fixed_sig, fixed_env, fixed_basis, rename_sigs, names_sigs, fixed_sigs}
use Rattle.sml_rules.proofs.Worlds.{Over, exchange, exchange-other, alike_names}
use Rattle.sml_rules.proofs.Settled.{Rel, Supported, pair_supported, supported_named, Covers, Settled, mapped, outside-left, outside-right, outside-append, by_equation, by_function, reindexed, bind_settled}
use Rattle.sml_rules.proofs.Unique.{give_one, bind_one, test_one, read_ty_one, read_core_one, read_cores_one, read_match_one}

abbrev pub sig_supported : Supported Sig
sig_supported = record { rename = rename_sig; names = names_sig; fixed = fixed_sig }

abbrev pub sigs_supported : Supported (λ N. List (Sig N))
sigs_supported = record { rename = rename_sigs; names = names_sigs; fixed = fixed_sigs }

abbrev pub env_supported : Supported Env
env_supported = record { rename = rename_env; names = names_env; fixed = fixed_env }

abbrev pub basis_supported : Supported Basis
basis_supported = record { rename = rename_basis; names = names_basis; fixed = fixed_basis }

abbrev pub unit_supported : Supported (λ N. Unit {0})
unit_supported = record { rename = λ f u. tt; names = λ u. []; fixed = λ f u h. refl }

pub exchange_fixes : {N : Type 0} (names : Naming N) (m n : N) (ns : List N) → Outside m ns → Outside n ns → Fixes (exchange names m n) ns
unfolding Outside Fixes
exchange_fixes names m n [] h k = tt
exchange_fixes names m n (l ∷ ls) h k = (exchange-other names m n l h.0 k.0, exchange_fixes names m n ls h.1 k.1)

-- a reading with one answer is settled
pub by_one : {C O : Type 0 → Type 0} (S : Supported C) (R : Rel C O)
    → ((N : Type 0) (a : Naming N) (c : C N) (x y : O N) → R N a c x → R N a c y → x ≡ y) → Settled {C = C} {O = O} S R
by_one {C = C} {O = O} S R one D E N a c d cov x y r r' = by_equation {C = λ N. C N × D N} {O = O} (one N a c x y r r')

-- the names of a basis that is extended are kept
pub extend_holds : {N : Type 0} (B : Basis N) (S : Sig N) → Covers (names_basis (extend B S)) (names_basis B ++ names_sig S)
unfolding names_basis extend
extend_holds B S n h =
    let p : Outside n (names_sig S ++ names_basis B) = outside-left n (names_sig S ++ names_basis B) (names_env (extend B S).body) h in
    outside-append n (names_basis B) (names_sig S) (outside-right n (names_sig S) (names_basis B) p) (outside-left n (names_sig S) (names_basis B) p)

apart_holds : {N : Type 0} (B : Basis N) (E : Env N) → Covers (names_basis (apart B E)) (names_basis B ++ names_env E)
unfolding names_basis
apart_holds B E n h =
    let p : Outside n (names_env E ++ B.names) = outside-left n (names_env E ++ B.names) (names_env B.body) h in
    outside-append n (names_basis B) (names_env E)
    (outside-append n B.names (names_env B.body) (outside-right n (names_env E) B.names p) (outside-right n (names_env E ++ B.names) (names_env B.body) h))
    (outside-left n (names_env E) B.names p)

-- two new names
pub new_settled : (unit : ℕ) (D : Type 0 → Type 0) (E : Supported D) (N : Type 0) (a : Naming N) (B : Basis N) (d : D N)
    → Covers (names_basis B) (E.names d) → (m n : N) → IsNew a unit B m → IsNew a unit B n
    → ◌≡◌ {A = Over (λ N. (Basis N × D N) × N)} (N, a, ((B, d), m)) (N, a, ((B, d), n))
unfolding IsNew basis_supported
new_settled unit D E N a B d cov m n h k =
    alike_names {F = λ N. Basis N × D N} (supported_named (pair_supported basis_supported E)) a m n (h.0 ∙ sym k.0) h.1 k.1 (B, d)
    ((pair_supported basis_supported E).fixed (exchange a m n) (B, d)
    (exchange_fixes a m n (names_basis B ++ E.names d)
    (outside-append m (names_basis B) (E.names d) h.2 (cov m h.2))
    (outside-append n (names_basis B) (E.names d) k.2 (cov n k.2))))

any_new_settled : {P : Type 0} (unit : ℕ) → Settled {C = Basis} {O = λ N. Answer P N} basis_supported (λ N a B. any (IsNew a unit B))
unfolding any basis_supported
any_new_settled unit D E N a B d cov (refused f) y h k = absurd h
any_new_settled unit D E N a B d cov (accepted m) (refused f) h k = absurd k
any_new_settled {P} unit D E N a B d cov (accepted m) (accepted n) h k =
    mapped {C = λ N. (Basis N × D N) × N} {D = λ N. (Basis N × D N) × Answer P N} (λ N a v. (v.0, accepted v.1)) (new_settled unit D E N a B d cov m n h k)

pub name_supported : Supported (λ N. N)
unfolding Fixes
name_supported = record { rename = λ f n. f n; names = λ n. n ∷ []; fixed = λ f n h. h.0 }

read_spec_settled : {P : Type 0} (unit : ℕ) (q : Spec P) → Settled {C = Basis} {O = λ N. Answer P (Sig N)} basis_supported (λ N a B. read_spec a unit B q)
unfolding read_spec give basis_supported
read_spec_settled {P} unit (type_spec p t) =
    bind_settled {P = P} {C = Basis} {X = λ N. N} {Y = Sig} basis_supported name_supported
    (λ N a B. any (IsNew a unit B))
    (λ N a v. give (record { names = v.1 ∷ []; body = one_type t (mono (named v.1)) }))
    (any_new_settled unit)
    (by_function {C = λ N. Basis N × N} {O = λ N. Answer P (Sig N)} (pair_supported basis_supported name_supported)
    (λ N a v. accepted (record { names = v.1 ∷ []; body = one_type t (mono (named v.1)) })))
read_spec_settled {P} unit (val_spec p x ty) =
    by_one {C = Basis} {O = λ N. Answer P (Sig N)} basis_supported (λ N a B. read_spec a unit B (val_spec p x ty))
    (λ N a B. bind_one _ _ (read_ty_one B.body ty) (λ t. bind_one _ _ (test_one _ _) (λ u. give_one _)))

abbrev both_supported : Supported (λ N. Basis N × Sig N)
both_supported = pair_supported basis_supported sig_supported

none_outside : {N : Type 0} (n : N) → Outside n []
unfolding Outside
none_outside n = tt

read_specs_settled : {P : Type 0} (unit : ℕ) (seen : List Item) (qs : List (Spec P))
    → Settled {C = Basis} {O = λ N. Answer P (List (Sig N))} basis_supported (λ N a B. read_specs a unit B seen qs)
unfolding read_specs give basis_supported
read_specs_settled {P} unit seen [] =
    by_function {C = Basis} {O = λ N. Answer P (List (Sig N))} basis_supported (λ N a B. accepted [])
read_specs_settled {P} unit seen (q ∷ qs) =
    bind_settled {P = P} {C = Basis} {X = Sig} {Y = λ N. List (Sig N)} basis_supported sig_supported
    (λ N a B. read_spec a unit B q)
    (λ N a v. (test (¬ (Specified (item_of q) seen)) (fault N2 (place_of q))) >>= (λ u. (read_specs a unit (extend v.0 v.1) (item_of q ∷ seen) qs) >>= (λ Ss. give (v.1 ∷ Ss))))
    (read_spec_settled unit q)
    (bind_settled {P = P} {C = λ N. Basis N × Sig N} {X = λ N. Unit {0}} {Y = λ N. List (Sig N)} both_supported unit_supported
    (λ N a v. test (¬ (Specified (item_of q) seen)) (fault N2 (place_of q)))
    (λ N a w. (read_specs a unit (extend w.0.0 w.0.1) (item_of q ∷ seen) qs) >>= (λ Ss. give (w.0.1 ∷ Ss)))
    (by_one {C = λ N. Basis N × Sig N} {O = λ N. Answer P (Unit {0})} both_supported (λ N a v. test (¬ (Specified (item_of q) seen)) (fault N2 (place_of q)))
    (λ N a v. test_one _ _))
    (bind_settled {P = P} {C = λ N. (Basis N × Sig N) × Unit {0}} {X = λ N. List (Sig N)} {Y = λ N. List (Sig N)} (pair_supported both_supported unit_supported) sigs_supported
    (λ N a w. read_specs a unit (extend w.0.0 w.0.1) (item_of q ∷ seen) qs)
    (λ N a z. give (z.0.0.1 ∷ z.1))
    (reindexed {B = λ N. (Basis N × Sig N) × Unit {0}} {C = Basis} {O = λ N. Answer P (List (Sig N))} (pair_supported both_supported unit_supported) basis_supported
    (λ N a B. read_specs a unit B (item_of q ∷ seen) qs) (λ N w. extend w.0.0 w.0.1)
    (λ N w n h. outside-append n (names_basis w.0.0 ++ names_sig w.0.1) [] (extend_holds w.0.0 w.0.1 n h) (none_outside n))
    (read_specs_settled unit (item_of q ∷ seen) qs))
    (by_function {C = λ N. ((Basis N × Sig N) × Unit {0}) × List (Sig N)} {O = λ N. Answer P (List (Sig N))}
    (pair_supported (pair_supported both_supported unit_supported) sigs_supported)
    (λ N a z. accepted (z.0.0.1 ∷ z.1)))))

abbrev body_supported : Supported (λ N. Basis N × Env N)
body_supported = pair_supported basis_supported env_supported

abbrev specs_supported : Supported (λ N. (Basis N × Env N) × List (Sig N))
specs_supported = pair_supported body_supported sigs_supported

read_dec_settled : {P : Type 0} (unit : ℕ) (d : Dec P) → Settled {C = Basis} {O = λ N. Answer P (Sig N)} basis_supported (λ N a B. read_dec a unit B d)
unfolding read_dec give basis_supported env_supported
read_dec_settled {P} unit (core d) =
    by_one {C = Basis} {O = λ N. Answer P (Sig N)} basis_supported (λ N a B. read_dec a unit B (core d))
    (λ N a B. bind_one _ _ (read_core_one a B.body d) (λ E. give_one _))
read_dec_settled {P} unit (sealed s p specs decs) =
    bind_settled {P = P} {C = Basis} {X = Env} {Y = Sig} basis_supported env_supported
    (λ N a B. read_cores a B.body empty_env decs)
    (λ N a v. (read_specs a unit (apart v.0 v.1) [] specs) >>= (λ Ss. (read_match a p (sum_of Ss) v.1) >>= (λ u. give (result Ss))))
    (by_one {C = Basis} {O = λ N. Answer P (Env N)} basis_supported (λ N a B. read_cores a B.body empty_env decs) (λ N a B. read_cores_one a B.body empty_env decs))
    (bind_settled {P = P} {C = λ N. Basis N × Env N} {X = λ N. List (Sig N)} {Y = Sig} body_supported sigs_supported
    (λ N a v. read_specs a unit (apart v.0 v.1) [] specs)
    (λ N a w. (read_match a p (sum_of w.1) w.0.1) >>= (λ u. give (result w.1)))
    (reindexed {B = λ N. Basis N × Env N} {C = Basis} {O = λ N. Answer P (List (Sig N))} body_supported basis_supported
    (λ N a B. read_specs a unit B [] specs) (λ N v. apart v.0 v.1) (λ N v. apart_holds v.0 v.1) (read_specs_settled unit [] specs))
    (by_one {C = λ N. (Basis N × Env N) × List (Sig N)} {O = λ N. Answer P (Sig N)} specs_supported
    (λ N a w. (read_match a p (sum_of w.1) w.0.1) >>= (λ u. give (result w.1)))
    (λ N a w. bind_one _ _ (read_match_one a p (sum_of w.1) w.0.1) (λ u. give_one _))))
  where
    result : {N : Type 0} → List (Sig N) → Sig N
    result Ss = record { names = (sum_of Ss).names; body = one_structure s (sum_of Ss).body }
read_dec_settled {P} unit (other p) =
    by_one {C = Basis} {O = λ N. Answer P (Sig N)} basis_supported (λ N a B. read_dec a unit B (other p)) (λ N a B x y h k. absurd h)

pub read_top_settled : {P : Type 0} (p : P) (unit : ℕ) (d : Dec P) → Settled {C = Basis} {O = λ N. Answer P (Sig N)} basis_supported (λ N a B. read_top a p unit B d)
unfolding read_top basis_supported sig_supported
read_top_settled {P} p unit d =
    bind_settled {P = P} {C = Basis} {X = Sig} {Y = Sig} basis_supported sig_supported
    (λ N a B. read_dec a unit B d)
    (λ N a v. (test (v.0.count + length v.1.names ≤ 1048576) (fault Q3 p)) >>= (λ u. give v.1))
    (read_dec_settled unit d)
    (by_one {C = λ N. Basis N × Sig N} {O = λ N. Answer P (Sig N)} both_supported
    (λ N a v. (test (v.0.count + length v.1.names ≤ 1048576) (fault Q3 p)) >>= (λ u. give v.1))
    (λ N a v. bind_one _ _ (test_one _ _) (λ u. give_one _)))
