-- Readings with one answer.
use Rattle.std.specs.Prelude.{◌≡◌, ℕ, List, [], ◌∷◌}
use mathlib.Core.Path.{sym, subst, ◌∙◌}
use mathlib.Core.Logic.{inl, inr}
use Rattle.sml_lex.specs.declared.fault.Code.{Code}
use Rattle.sml_lex.specs.Faults.{Fault}
use Rattle.sml_tree.specs.Trees.{LongId, Exp, Exps, Ty, Tys, CoreDec, number, name, tuple, bracket, function, no_exp, and_exp, constructor, product, arrow_to, bracket_ty, no_ty, and_ty, val_dec, type_dec}
use Rattle.sml_objects.specs.Names.{Naming}
use Rattle.sml_objects.specs.Maps.{Map}
use Rattle.sml_objects.specs.Objects.{Env, Scheme, Sig, extend_env}
use Rattle.sml_rules.specs.Lookups.{Found, found, no_path, no_entry}
use Rattle.sml_rules.specs.Matching.{Realisation}
use Rattle.sml_rules.specs.Answers.{Answer, Reading, refused, accepted, After, give, ◌>>=◌, test, need}
use Rattle.sml_rules.specs.Readings.{read_ty, read_tys, read_exp, read_exps, read_core, read_cores, read_names, read_types, read_values, read_match}

abbrev pub One : {P X : Type 0} → Reading P X → Type 0
One {P} {X} m = (x y : Answer P X) → m x → m y → x ≡ y

pub give_one : {P X : Type 0} (z : X) → One {P = P} (give z)
unfolding give
give_one z x y h k = h ∙ sym k

pub bind_one : {P X Y : Type 0} (m : Reading P X) (next : X → Reading P Y) → One m → ((z : X) → One (next z)) → One (m >>= next)
unfolding ◌>>=◌ After
bind_one {P} {X} {Y} m next s t x y r r' = after r.0 r.2 (subst (λ q. After next q y) (s r'.0 r.0 r'.1 r.1) r'.2)
  where
    after : (q : Answer P X) → After next q x → After next q y → x ≡ y
    after (refused f) h k = h ∙ sym k
    after (accepted z) h k = t z x y h k

pub test_one : {P : Type 0} (C : Type 0) (f : Fault P) → One (test C f)
unfolding test
test_one C f x y (inl h) (inl k) = h.1 ∙ sym k.1
test_one C f x y (inl h) (inr k) = absurd (k.0 h.0)
test_one C f x y (inr h) (inl k) = absurd (h.0 k.0)
test_one C f x y (inr h) (inr k) = h.1 ∙ sym k.1

pub need_one : {P X : Type 0} (c : Code) (p : P) (x : LongId) (r : Found X) → One (need c p x r)
need_one c p x (found v) = give_one v
need_one c p x (no_path s) = λ o q h k. h ∙ sym k
need_one c p x no_entry = λ o q h k. h ∙ sym k

module _ {P N : Type 0} where
  mutual
    unfolding read_ty

    pub read_ty_one : (C : Env N) (t : Ty P) → One (read_ty C t)
    read_ty_one C (constructor p c) = bind_one _ _ (need_one _ p c _) (λ θ. bind_one _ _ (test_one _ _) (λ u. give_one _))
    read_ty_one C (product us) = bind_one _ _ (read_tys_one C us) (λ ts. give_one _)
    read_ty_one C (arrow_to u v) = bind_one _ _ (read_ty_one C u) (λ a. bind_one _ _ (read_ty_one C v) (λ b. give_one _))
    read_ty_one C (bracket_ty u) = read_ty_one C u

    pub read_tys_one : (C : Env N) (ts : Tys P) → One (read_tys C ts)
    read_tys_one C no_ty = give_one _
    read_tys_one C (and_ty u us) = bind_one _ _ (read_ty_one C u) (λ t. bind_one _ _ (read_tys_one C us) (λ ts. give_one _))

module _ {P N : Type 0} (names : Naming N) where
  mutual
    unfolding read_exp

    pub read_exp_one : (k : ℕ) (C : Env N) (e : Exp P) → One (read_exp names k C e)
    read_exp_one k C number = give_one _
    read_exp_one k C (name p x) = bind_one _ _ (need_one _ p x _) (λ σ. give_one _)
    read_exp_one k C (tuple es) = bind_one _ _ (read_exps_one k C es) (λ r. give_one _)
    read_exp_one k C (bracket e) = read_exp_one k C e
    read_exp_one k C (function x e) = bind_one _ _ (read_exp_one _ _ e) (λ r. give_one _)

    pub read_exps_one : (k : ℕ) (C : Env N) (es : Exps P) → One (read_exps names k C es)
    read_exps_one k C no_exp = give_one _
    read_exps_one k C (and_exp e es) = bind_one _ _ (read_exp_one k C e) (λ r. bind_one _ _ (read_exps_one r.made C es) (λ s. give_one _))

  pub read_core_one : (C : Env N) (d : CoreDec P) → One (read_core names C d)
  unfolding read_core
  read_core_one C (val_dec p x e) = bind_one _ _ (read_exp_one 0 C e) (λ r. bind_one _ _ (test_one _ _) (λ u. give_one _))
  read_core_one C (type_dec p t ty) = bind_one _ _ (read_ty_one C ty) (λ u. bind_one _ _ (test_one _ _) (λ v. give_one _))

  pub read_cores_one : (C F : Env N) (ds : List (CoreDec P)) → One (read_cores names C F ds)
  unfolding read_cores
  read_cores_one C F [] = give_one _
  read_cores_one C F (d ∷ ds) = bind_one _ _ (read_core_one C d) (λ E. read_cores_one (extend_env C E) (extend_env F E) ds)

  pub read_names_one : (p : P) (E : Env N) (xs : Map (Scheme N)) → One (read_names names p E xs)
  unfolding read_names
  read_names_one p E [] = give_one _
  read_names_one p E (x ∷ xs) = bind_one _ _ (test_one _ _) (λ u. bind_one _ _ (test_one _ _) (λ v. read_names_one p E xs))

  pub read_types_one : (p : P) (E : Env N) (φ : Realisation N) (xs : Map (Scheme N)) → One (read_types names p E φ xs)
  unfolding read_types
  read_types_one p E φ [] = give_one _
  read_types_one p E φ (x ∷ xs) = bind_one _ _ (test_one _ _) (λ u. read_types_one p E φ xs)

  pub read_values_one : (p : P) (E : Env N) (φ : Realisation N) (xs : Map (Scheme N)) → One (read_values names p E φ xs)
  unfolding read_values
  read_values_one p E φ [] = give_one _
  read_values_one p E φ (x ∷ xs) = bind_one _ _ (test_one _ _) (λ u. bind_one _ _ (test_one _ _) (λ v. read_values_one p E φ xs))

  pub read_match_one : (p : P) (S : Sig N) (E : Env N) → One (read_match names p S E)
  unfolding read_match
  read_match_one p S E = bind_one _ _ (read_names_one p E _) (λ u. bind_one _ _ (read_types_one p E _ _) (λ v. read_values_one p E _ _))
