-- An environment stays where its names do.
use Rattle.std.specs.Prelude.{◌≡◌, List, [], ◌∷◌, map}
use mathlib.Core.Path.{refl, sym, ◌∙◌}
use mathlib.Core.Logic.{inl, inr}
use std.Equiv.{◌≃◌, id_equiv}
use std.Path.{PathP, from_path_p}
use std.Univalence.{equiv_j}
use Rattle.sml_objects.specs.Appearance.{Stands}
use Rattle.sml_objects.specs.Initial.{Name, initial}
use Rattle.sml_objects.specs.Names.{int}
use Rattle.sml_core_rules.specs.Objects.{Env, rename_env, names_env}
use Rattle.sml_core_rules.proofs.Along.{become-known, env-along}
use Rattle.sml_core_rules.proofs.Renaming.{env-id, list-id}

record Listed (N : Type 0) : Type 0 where
  env : Env N
  names : List N
  some : N

listed-renamed : {A B : Type 0} (e : A ≃ B) (x : Listed A)
    → ◌≡◌ {A = (N : Type 0) × Listed N} (A, x) (B, record { env = rename_env e.0 x.env; names = map e.0 x.names; some = e.0 x.some })
unfolding id_equiv
listed-renamed {A} {B} e =
    equiv_j (λ A e. (x : Listed A) → ◌≡◌ {A = (N : Type 0) × Listed N} (A, x) (B, record { env = rename_env e.0 x.env; names = map e.0 x.names; some = e.0 x.some }))
    (λ x i. (B, record { env = sym (env-id x.env) i; names = sym (list-id x.names) i; some = x.some }))
    e

left-same : (f : Name → Name) (ns : List Name) → ((n : Name) → Stands n ns → f n ≡ n) → map f ns ≡ ns
unfolding Stands
left-same f [] h = refl
left-same f (n ∷ ns) h = let e = h n (inl refl) in let rest = left-same f ns (λ m k. h m (inr k)) in λ i. e i ∷ rest i

pub env-left : (e : Name ≃ Name) (E : Env Name) → e.0 (initial int) ≡ initial int → ((n : Name) → Stands n (names_env E) → e.0 n ≡ n) → rename_env e.0 E ≡ E
env-left e E first stay =
    let ns = names_env E in
    let π = listed-renamed e (record { env = E; names = ns; some = initial int })
    ∙ (λ i. (Name, record { env = rename_env e.0 E; names = left-same e.0 ns stay i; some = first i })) in
    let p : Name ≡ Name = λ i. (π i).0 in
    let k : PathP (λ i. p i) (initial int) (initial int) = λ i. (π i).1.some in
    let known : PathP (λ i. List (p i)) ns ns = λ i. (π i).1.names in
    let stays = env-along p E (become-known p (initial int) (initial int) k ns known ns (λ n h. h)) in
    sym (from_path_p (λ i. Env (p i)) (λ i. (π i).1.env)) ∙ from_path_p (λ i. Env (p i)) stays
