-- What specifications give does not hang on their places, and is settled by the basis.
use Rattle.std.specs.Prelude.{◌≡◌, ℕ, List, [], ◌∷◌}
use mathlib.Core.Path.{sym, ap, ap₂, ◌∙◌}
use mathlib.Core.List.{map}
use Rattle.sml_tree.specs.Trees.{Id, Ty, Tys, Spec, CoreDec, sealed, constructor, product, arrow_to, bracket_ty, no_ty, and_ty, type_spec, val_spec}
use Rattle.sml_tree.specs.Forget.{forget_ty, forget_tys, forget}
use Rattle.sml_objects.specs.Names.{Naming}
use Rattle.sml_objects.specs.Objects.{MlType, MlTypes, Env, Sig, Basis, and_type, one_structure, one_type, one_value, extend, mono, named, arrow_of, tuple_of}
use Rattle.sml_rules.specs.Lookups.{Found, found, no_path, no_entry}
use Rattle.sml_rules.specs.Rules.{Means, MeanAll, Specifies, SpecifyAll, sum_of}
use Rattle.sml_rules.specs.Answers.{accepted}
use Rattle.sml_rules.specs.Readings.{read_top}
use Rattle.sml_rules.specs.Sound.{Derives}
use Rattle.sml_rules.proofs.Sound.{bound_by, given, sound_dec}
use Rattle.sml_rules.proofs.Settled.{Supported, pair_supported, Settled, mapped, by_equation, by_function, reindexed, chain_settled}
use Rattle.sml_rules.proofs.Readings.{sig_supported, sigs_supported, basis_supported, new_settled, extend_holds}

mutual
  unfolding Means forget_ty

  means_forget : {P N : Type 0} (C : Env N) (u : Ty P) (t : MlType N) → Means C u t → Means C (forget_ty u) t
  means_forget C (constructor p c) t h = h
  means_forget C (product us) t (ts, h, e) = (ts, mean_all_forget C us ts h, e)
  means_forget C (arrow_to u v) t (a, b, h, k, e) = (a, b, means_forget C u a h, means_forget C v b k, e)
  means_forget C (bracket_ty u) t h = means_forget C u t h

  mean_all_forget : {P N : Type 0} (C : Env N) (us : Tys P) (ts : MlTypes N) → MeanAll C us ts → MeanAll C (forget_tys us) ts
  mean_all_forget C no_ty ts h = h
  mean_all_forget C (and_ty u us) ts (t, rs, h, k, e) = (t, rs, means_forget C u t h, mean_all_forget C us rs k, e)

specifies_forget : {P N : Type 0} (names : Naming N) (unit : ℕ) (B : Basis N) (q : Spec P) (S : Sig N)
    → Specifies names unit B q S → Specifies names unit B (forget q) S
unfolding Specifies forget
specifies_forget names unit B (type_spec p t) S h = h
specifies_forget names unit B (val_spec p x ty) S (t, h, e) = (t, means_forget B.body ty t h, e)

pub specify_forget : {P N : Type 0} (names : Naming N) (unit : ℕ) (B : Basis N) (qs : List (Spec P)) (Ss : List (Sig N))
    → SpecifyAll names unit B qs Ss → SpecifyAll names unit B (map forget qs) Ss
unfolding SpecifyAll
specify_forget names unit B [] Ss h = h
specify_forget names unit B (q ∷ qs) Ss (S, Rs, h, k, e) =
    (S, Rs, specifies_forget names unit B q S h, specify_forget names unit (extend B S) qs Rs k, e)

-- types mean one thing

scheme_in : {X : Type 0} → X → Found X → X
scheme_in d (found x) = x
scheme_in d (no_path s) = d
scheme_in d no_entry = d

found_same : {X : Type 0} {q : Found X} {x y : X} → q ≡ found x → q ≡ found y → x ≡ y
unfolding scheme_in
found_same {x = x} p q = ap (scheme_in x) (sym p ∙ q)

mutual
  unfolding Means

  means_one : {N P : Type 0} (C : Env N) (u : Ty P) (t t' : MlType N) → Means C u t → Means C u t' → t ≡ t'
  means_one C (constructor p c) t t' h k = h.3 ∙ (ap (λ θ. θ.body) (found_same h.1 k.1) ∙ sym k.3)
  means_one C (product us) t t' h k = h.2 ∙ (ap tuple_of (mean_one_all C us h.0 k.0 h.1 k.1) ∙ sym k.2)
  means_one C (arrow_to u v) t t' h k =
      h.4 ∙ (ap₂ arrow_of (means_one C u h.0 k.0 h.2 k.2) (means_one C v h.1 k.1 h.3 k.3) ∙ sym k.4)
  means_one C (bracket_ty u) t t' h k = means_one C u t t' h k

  mean_one_all : {N P : Type 0} (C : Env N) (us : Tys P) (ts ts' : MlTypes N) → MeanAll C us ts → MeanAll C us ts' → ts ≡ ts'
  mean_one_all C no_ty ts ts' h k = h ∙ sym k
  mean_one_all C (and_ty u us) ts ts' h k =
      h.4 ∙ (ap₂ and_type (means_one C u h.0 k.0 h.2 k.2) (mean_one_all C us h.1 k.1 h.3 k.3) ∙ sym k.4)

specifies_settled : {P : Type 0} (unit : ℕ) (q : Spec P) → Settled {C = Basis} {O = Sig} basis_supported (λ N a B. Specifies a unit B q)
unfolding Specifies basis_supported
specifies_settled unit (val_spec p v ty) D E N a B d cov x y r r' =
    by_equation {C = λ N. Basis N × D N} {O = Sig}
    (r.2 ∙ (ap (λ t. record { names = []; body = one_value v (mono t) }) (means_one B.body ty r.0 r'.0 r.1 r'.1) ∙ sym r'.2))
specifies_settled unit (type_spec p u) D E N a B d cov x y (m, h, e) (n, k, g) =
    by_equation {C = λ N. Basis N × D N} {O = Sig} e
    ∙ (mapped {C = λ N. (Basis N × D N) × N} {D = λ N. (Basis N × D N) × Sig N}
    (λ N a v. (v.0, record { names = v.1 ∷ []; body = one_type u (mono (named v.1)) }))
    (new_settled unit D E N a B d cov m n h k)
    ∙ by_equation {C = λ N. Basis N × D N} {O = Sig} (sym g))

abbrev sigs_beside : Supported (λ N. Basis N × Sig N)
sigs_beside = pair_supported basis_supported sig_supported

pub specify_all_settled : {P : Type 0} (unit : ℕ) (qs : List (Spec P))
    → Settled {C = Basis} {O = λ N. List (Sig N)} basis_supported (λ N a B. SpecifyAll a unit B qs)
unfolding SpecifyAll basis_supported
specify_all_settled unit [] =
    by_function {C = Basis} {O = λ N. List (Sig N)} basis_supported (λ N a B. [])
specify_all_settled unit (q ∷ qs) = λ D E N a B d cov x y r r'.
    chain_settled {C = Basis} {X = Sig} {Y = λ N. List (Sig N)} basis_supported sig_supported
    (λ N a B. Specifies a unit B q)
    (λ N a v Ss. (Rs : List (Sig N)) × SpecifyAll a unit (extend v.0 v.1) qs Rs × (Ss ≡ v.1 ∷ Rs))
    (specifies_settled unit q)
    (chain_settled {C = λ N. Basis N × Sig N} {X = λ N. List (Sig N)} {Y = λ N. List (Sig N)} sigs_beside sigs_supported
    (λ N a v. SpecifyAll a unit (extend v.0 v.1) qs)
    (λ N a w Ss. Ss ≡ w.0.1 ∷ w.1)
    (reindexed {B = λ N. Basis N × Sig N} {C = Basis} {O = λ N. List (Sig N)} sigs_beside basis_supported (λ N a B. SpecifyAll a unit B qs)
    (λ N v. extend v.0 v.1) (λ N v. extend_holds v.0 v.1) (specify_all_settled unit qs))
    (by_function {C = λ N. (Basis N × Sig N) × List (Sig N)} {O = λ N. List (Sig N)} (pair_supported sigs_beside sigs_supported) (λ N a w. w.0.1 ∷ w.1)))
    D E N a B d cov x y
    (r.0, r.2, (r.1, r.3, r.4)) (r'.0, r'.2, (r'.1, r'.3, r'.4))

-- What an accepted sealed structure exports is its signature's environment.
pub exported : {P N : Type 0} (names : Naming N) (unit : ℕ) (B : Basis N) (p : P) (s : Id) (q : P) (specs : List (Spec P)) (decs : List (CoreDec P)) (S : Sig N)
    → read_top names p unit B (sealed s q specs decs) (accepted S)
    → (Ss : List (Sig N)) × SpecifyAll names unit B (map forget specs) Ss × (S ≡ record { names = (sum_of Ss).names; body = one_structure s (sum_of Ss).body })
unfolding read_top Derives
exported {P} names unit B p s q specs decs S h =
    let a = bound_by _ _ S h in
    let b = bound_by _ _ S a.2 in
    let d = sound_dec names unit B (sealed s q specs decs) a.0 a.1 in
    (d.1, specify_forget names unit B specs d.1 d.3, given P _ S b.2 ∙ d.6)
