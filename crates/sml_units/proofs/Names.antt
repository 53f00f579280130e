-- Names and types of what runs export: none is one of a unit that comes later, and no variable is out of its place.
use Rattle.std.proofs.Common.{◌≡◌, ◌<◌, ℕ, zero, suc, List, [], ◌∷◌, ◌++◌, length, refl, ap, sym, subst, ◌∙◌}
use Rattle.sml_lex.specs.declared.fault.Place.{Place}
use Rattle.sml_lex.specs.Faults.{first_place}
use Rattle.sml_tree.specs.Trees as T
use Rattle.sml_tree.specs.Trees.{Spec, Dec, type_spec, val_spec, core, sealed}
use Rattle.sml_objects.specs.Objects.{Sig, Basis, empty_env, extend_env, extend, names_sig, names_basis, names_env, names_structures, names_map, names_type}
use Rattle.sml_objects.specs.Initial.{Name, initial, made, naming, attributes_of, initial_basis}
use Rattle.sml_objects.specs.Views.{env_of, maker_of}
use Rattle.sml_objects.specs.declared.objects.Basis as PB
use Rattle.sml_rules.specs.Answers.{refused, accepted, any}
use Rattle.sml_rules.specs.Every.{Every}
use Rattle.sml_rules.specs.Open.{OpenEnv}
use Rattle.sml_rules.specs.Readings.{read_spec, read_specs, read_dec, read_top}
use Rattle.sml_rules.specs.Rules.{Item, item_of, IsNew, abstract, apart, both, sum_from, sum_of}
use Rattle.sml_rules.proofs.Open.{read_top_open, extended, nothing}
use Rattle.sml_rules.proofs.Sound.{bound_by, given}
use Rattle.sml_rules.proofs.Within as W
use Rattle.sml_piece.specs.Elaborated.{IsBasisOf, IsBelow}
use Rattle.sml_piece.proofs.Sealing.{apart_below}
use Rattle.sml_piece.proofs.Specifying.{basis_below, sum_below}
use Rattle.sml_units.specs.Checked.{Answered}
use Rattle.sml_units.specs.Runs.{Run, exports_after, exports, export_at, all_names, needed, start}

-- a new name is none of another unit
new_below : (m unit : ℕ) → ¬ (unit ≡ m) → (n : Name) → attributes_of n ≡ abstract naming unit → IsBelow m 0 n
new_below m unit apart_from (initial k) h = tt
new_below m unit apart_from (made u k a q) h = λ e. absurd (apart_from (sym (ap (λ x. x.maker) h) ∙ e))

spec_below : (m unit : ℕ) → ¬ (unit ≡ m) → (B : Basis Name) (q : Spec Place) (S : Sig Name) → Every (IsBelow m 0) (names_basis B) → read_spec naming unit B q (accepted S) → Every (IsBelow m 0) (names_sig S)
unfolding read_spec any IsNew naming names_basis names_sig names_env names_structures names_map names_type
spec_below m unit apart_from B (type_spec p t) S h r =
    let a = bound_by _ _ S r in
    let n = new_below m unit apart_from a.0 a.1.0 in
    subst (λ S. Every (IsBelow m 0) (names_sig S)) (sym (given Place _ S a.2)) (n, (n, tt))
spec_below m unit apart_from B (val_spec p x ty) S h r =
    let P = IsBelow m 0 in
    let a = bound_by _ _ S r in
    let b = bound_by _ _ S a.2 in
    subst (λ S. Every P (names_sig S)) (sym (given Place _ S b.2)) (W.both P (names_type a.0) [] (W.read_ty_within P B.body ty a.0 (W.last P B.names (names_env B.body) h) a.1) tt)

specs_below : (m unit : ℕ) → ¬ (unit ≡ m) → (B : Basis Name) (seen : List Item) (qs : List (Spec Place)) (Ss : List (Sig Name)) → Every (IsBelow m 0) (names_basis B)
    → read_specs naming unit B seen qs (accepted Ss) → (T : Sig Name) → Every (IsBelow m 0) (names_sig T) → Every (IsBelow m 0) (names_sig (sum_from T Ss))
unfolding read_specs
specs_below m unit apart_from B seen [] Ss h r T t = subst (λ Ss. Every (IsBelow m 0) (names_sig (sum_from T Ss))) (sym (given Place _ Ss r)) t
specs_below m unit apart_from B seen (q ∷ qs) Ss h r T t =
    let a = bound_by _ _ Ss r in
    let b = bound_by _ _ Ss a.2 in
    let d = bound_by _ _ Ss b.2 in
    let S = spec_below m unit apart_from B q a.0 h a.1 in
    subst (λ Ss. Every (IsBelow m 0) (names_sig (sum_from T Ss))) (sym (given Place _ Ss d.2))
    (specs_below m unit apart_from (extend B a.0) (item_of q ∷ seen) qs d.0 (basis_below m 0 B a.0 h S) d.1 (both T a.0) (sum_below m 0 T a.0 t S))

dec_below : (m unit : ℕ) → ¬ (unit ≡ m) → (B : Basis Name) (d : Dec Place) (S : Sig Name) → Every (IsBelow m 0) (names_basis B) → read_dec naming unit B d (accepted S) → Every (IsBelow m 0) (names_sig S)
unfolding read_dec naming names_basis names_sig names_env names_structures names_map
dec_below m unit apart_from B (core d) S h r =
    let P = IsBelow m 0 in
    let a = bound_by _ _ S r in
    subst (λ S. Every P (names_sig S)) (sym (given Place _ S a.2)) (W.read_core_within P naming tt B.body d a.0 (W.last P B.names (names_env B.body) h) a.1)
dec_below m unit apart_from B (sealed s p specs decs) S h r =
    let P = IsBelow m 0 in
    let a = bound_by _ _ S r in
    let b = bound_by _ _ S a.2 in
    let c = bound_by _ _ S b.2 in
    let T = sum_of b.0 in
    let t = specs_below m unit apart_from (apart B a.0) [] specs b.0 (apart_below m 0 B decs a.0 h a.1) b.1 (record { names = []; body = empty_env }) tt in
    subst (λ S. Every P (names_sig S)) (sym (given Place _ S c.2))
    (W.both P T.names _ (W.first P T.names (names_env T.body) t) (W.both P (names_env T.body ++ []) [] (W.both P (names_env T.body) [] (W.last P T.names (names_env T.body) t) tt) tt))
dec_below m unit apart_from B (T.other p) S h r = absurd r

top_below : (m unit : ℕ) → ¬ (unit ≡ m) → (B : Basis Name) (d : Dec Place) (S : Sig Name) → Every (IsBelow m 0) (names_basis B) → read_top naming first_place unit B d (accepted S) → Every (IsBelow m 0) (names_sig S)
unfolding read_top
top_below m unit apart_from B d S h r =
    let a = bound_by _ _ S r in
    let b = bound_by _ _ S a.2 in
    subst (λ S. Every (IsBelow m 0) (names_sig S)) (sym (given Place _ S b.2)) (dec_below m unit apart_from B d a.0 h a.1)

-- what a unit exports

after_below : (m : ℕ) (S S' : Sig Name) → Every (IsBelow m 0) (names_sig S) → Every (IsBelow m 0) (names_sig S') → Every (IsBelow m 0) (names_sig (exports_after S (accepted S')))
unfolding names_sig
after_below m S S' s x =
    let P = IsBelow m 0 in
    let ns = S.names ++ names_env S.body in
    let ns' = S'.names ++ names_env S'.body in
    W.both P (ns' ++ ns) (names_env (extend_env S.body S'.body)) (W.both P ns' ns x s)
    (W.extended P S.body S'.body (W.last P S.names (names_env S.body) s) (W.last P S'.names (names_env S'.body) x))

pub exports_below : (m unit : ℕ) → ¬ (unit ≡ m) → (B : Basis Name) (ds : List (Dec Place)) (os : List Answered) (S : Sig Name) → Every (IsBelow m 0) (names_basis B)
    → Every (IsBelow m 0) (names_sig S) → Run naming unit B ds os → Every (IsBelow m 0) (names_sig (exports S os))
unfolding Run exports
exports_below m unit apart_from B [] [] S h s r = s
exports_below m unit apart_from B [] (o ∷ os) S h s r = absurd r
exports_below m unit apart_from B (d ∷ ds) [] S h s r = absurd r
exports_below m unit apart_from B (d ∷ ds) (refused f ∷ os) S h s r = exports_below m unit apart_from B ds os S h s r.1
exports_below m unit apart_from B (d ∷ ds) (accepted S' ∷ os) S h s r =
    let x = top_below m unit apart_from B d S' h r.0 in
    exports_below m unit apart_from (extend B S') ds os (exports_after S (accepted S')) (basis_below m 0 B S' h x) (after_below m S S' s x) r.1

pub exports_open : (unit : ℕ) (B : Basis Name) (ds : List (Dec Place)) (os : List Answered) (S : Sig Name) → OpenEnv B.body → OpenEnv S.body → Run naming unit B ds os → OpenEnv (exports S os).body
unfolding Run exports extend
exports_open unit B [] [] S h s r = s
exports_open unit B [] (o ∷ os) S h s r = absurd r
exports_open unit B (d ∷ ds) [] S h s r = absurd r
exports_open unit B (d ∷ ds) (refused f ∷ os) S h s r = exports_open unit B ds os S h s r.1
exports_open unit B (d ∷ ds) (accepted S' ∷ os) S h s r =
    let x = read_top_open naming first_place unit B d S' h r.0 in
    exports_open unit (extend B S') ds os (exports_after S (accepted S')) (extended B.body S'.body h x) (extended S.body S'.body s x) r.1

-- the basis from which a unit starts

initial_below : (m k : ℕ) → Every (IsBelow m k) (names_basis initial_basis)
unfolding initial_basis names_basis names_env names_structures names_map names_type
initial_below m k = (tt, (tt, (tt, (tt, (tt, (tt, (tt, (tt, (tt, (tt, (tt, (tt, (tt, (tt, (tt, (tt, (tt, (tt, tt))))))))))))))))))

at_below : (m : ℕ) (Ss : List (Sig Name)) (k : ℕ) → Every (IsBelow m 0) (all_names Ss) → Every (IsBelow m 0) (names_sig (export_at Ss k))
unfolding all_names export_at names_sig names_env names_structures names_map
at_below m [] k h = tt
at_below m (S ∷ Ss) zero h = W.first (IsBelow m 0) (S.names ++ names_env S.body) (all_names Ss) h
at_below m (S ∷ Ss) (suc k) h = at_below m Ss k (W.last (IsBelow m 0) (S.names ++ names_env S.body) (all_names Ss) h)

needed_below : (m : ℕ) (B : Basis Name) (Ss : List (Sig Name)) (ks : List ℕ) → Every (IsBelow m 0) (names_env B.body) → Every (IsBelow m 0) (all_names Ss) → Every (IsBelow m 0) (names_env (needed B Ss ks).body)
unfolding needed extend names_sig
needed_below m B Ss [] h g = h
needed_below m B Ss (k ∷ ks) h g =
    let P = IsBelow m 0 in
    let S = export_at Ss k in
    needed_below m (extend B S) Ss ks (W.extended P B.body S.body h (W.last P S.names (names_env S.body) (at_below m Ss k g))) g

pub start_below : (m : ℕ) (Ss : List (Sig Name)) (ks : List ℕ) → Every (IsBelow m 0) (all_names Ss) → Every (IsBelow m 0) (names_basis (start initial_basis Ss ks))
unfolding start names_basis
start_below m Ss ks g =
    let P = IsBelow m 0 in
    let B = initial_basis in
    let i = initial_below m 0 in
    W.both P (all_names Ss ++ (B.names ++ names_env B.body)) (names_env (needed B Ss ks).body) (W.both P (all_names Ss) (B.names ++ names_env B.body) g i)
    (needed_below m B Ss ks (W.last P B.names (names_env B.body) i) g)

at_open : (Ss : List (Sig Name)) (k : ℕ) → Every (λ S. OpenEnv S.body) Ss → OpenEnv (export_at Ss k).body
unfolding export_at
at_open [] k h = nothing Name
at_open (S ∷ Ss) zero h = h.0
at_open (S ∷ Ss) (suc k) h = at_open Ss k h.1

pub needed_open : (B : Basis Name) (Ss : List (Sig Name)) (ks : List ℕ) → OpenEnv B.body → Every (λ S. OpenEnv S.body) Ss → OpenEnv (needed B Ss ks).body
unfolding needed extend
needed_open B Ss [] h g = h
needed_open B Ss (k ∷ ks) h g = needed_open (extend B (export_at Ss k)) Ss ks (extended B.body (export_at Ss k).body h (at_open Ss k g)) g

pub open_push : (Ss : List (Sig Name)) (S : Sig Name) → Every (λ S. OpenEnv S.body) Ss → OpenEnv S.body → Every (λ S. OpenEnv S.body) (Ss ++ S ∷ [])
open_push [] S h s = (s, tt)
open_push (T ∷ Ss) S h s = (h.0, open_push Ss S h.1 s)

pub names_push : (m : ℕ) (Ss : List (Sig Name)) (S : Sig Name) → Every (IsBelow m 0) (all_names Ss) → Every (IsBelow m 0) (names_sig S) → Every (IsBelow m 0) (all_names (Ss ++ S ∷ []))
unfolding all_names
names_push m [] S h s = W.both (IsBelow m 0) (names_sig S) [] s tt
names_push m (T ∷ Ss) S h s =
    let P = IsBelow m 0 in
    W.both P (names_sig T) (all_names (Ss ++ S ∷ [])) (W.first P (names_sig T) (all_names Ss) h) (names_push m Ss S (W.last P (names_sig T) (all_names Ss) h) s)
