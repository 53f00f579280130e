-- Objects along a path that leaves the names of a basis.
use Rattle.std.specs.Prelude.{◌≡◌, List, ◌++◌}
use std.Path.{PathP}
use Rattle.sml_objects.specs.Appearance.{Stands}
use Rattle.sml_objects.specs.Names.{int}
use Rattle.sml_rules.proofs.Worlds.{Named}
use Rattle.sml_core_rules.specs.Objects.{Basis, Sig, FunSig, rename_basis, names_map, names_sig, names_fun_sig, names_env, names_basis}
use Rattle.sml_core_rules.specs.States.{Scope}
use Rattle.sml_core_rules.proofs.Along.{Become, become-list, become-left, become-right, become-known, env-along, map-along}
use Rattle.sml_core_rules.proofs.Renaming.{basis-id}

sig-along : {A : Type 0} (p : A ≡ A) (S : Sig A) → Become p (names_sig S) (names_sig S) → PathP (λ i. Sig (p i)) S S
sig-along p S b =
    let l = become-list p S.names S.names (become-left p S.names (names_env S.body) b) in
    let E = env-along p S.body (become-right p S.names (names_env S.body) b) in λ i. record { names = l i; body = E i }

functor-along : {A : Type 0} (p : A ≡ A) (F : FunSig A) → Become p (names_fun_sig F) (names_fun_sig F) → PathP (λ i. FunSig (p i)) F F
functor-along p F b =
    let a = sig-along p F.argument (become-left p (names_sig F.argument) (names_sig F.result) b) in
    let r = sig-along p F.result (become-right p (names_sig F.argument) (names_sig F.result) b) in λ i. record { argument = a i; result = r i }

pub basis-along : {A : Type 0} (p : A ≡ A) (B : Basis A) → Become p (names_basis B) (names_basis B) → PathP (λ i. Basis (p i)) B B
basis-along p B b =
    let fs = names_map names_fun_sig B.functors in
    let gs = names_map names_sig B.signatures in
    let c = become-right p B.names (fs ++ (gs ++ names_env B.body)) b in
    let d = become-right p fs (gs ++ names_env B.body) c in
    let l = become-list p B.names B.names (become-left p B.names (fs ++ (gs ++ names_env B.body)) b) in
    let f = map-along p (λ i. FunSig (p i)) names_fun_sig (functor-along p) B.functors (become-left p fs (gs ++ names_env B.body) c) in
    let g = map-along p (λ i. Sig (p i)) names_sig (sig-along p) B.signatures (become-left p gs (names_env B.body) d) in
    let E = env-along p B.body (become-right p gs (names_env B.body) d) in λ i. record { names = l i; functors = f i; signatures = g i; body = E i }

unfoldable pub basis_named : Named Basis
basis_named = record { rename = rename_basis; rename-id = basis-id }

-- a path that leaves the names of a basis leaves a basis that mentions no other
pub basis-kept : {N : Type 0} (scope : Scope N) (r : N ≡ N) → PathP (λ i. Scope (r i)) scope scope → (ns : List N) → PathP (λ i. List (r i)) ns ns
    → (B : Basis N) → ((n : N) → Stands n (names_basis B) → Stands n ns) → PathP (λ i. Basis (r i)) B B
basis-kept scope r u ns l B h = basis-along r B (become-known r (scope.names.initial int) (scope.names.initial int) (λ i. (u i).names.initial int) ns l (names_basis B) h)
