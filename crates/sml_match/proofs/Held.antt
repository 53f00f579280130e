-- What an environment has at a path that is one structure longer.
use Rattle.std.proofs.Common.{◌≡◌, ◌≤◌, ◌-◌, ℕ, suc, List, [], ◌∷◌, ◌++◌, length, take, refl, ap, sym, ◌∙◌, arith, Some, None, append_assoc}
use Rattle.std.proofs.lemmas.List.{length-append, take_all, take-append-le}
use Rattle.sml_tree.specs.Trees.{Id}
use Rattle.sml_objects.specs.Initial.{Name}
use Rattle.sml_rules.specs.Lookups.{found, no_path}
use Rattle.sml_core_rules.specs.Lookups.{find_at, found_in}
use Rattle.sml_core_rules.specs.Objects.{Env, find_structure, structures}
use Rattle.sml_types.specs.Answered.{env_at}

-- where the path is empty
pub at-start : (E : Env Name) → env_at E [] ≡ found E
unfolding find_at
at-start E = refl

further : (seen path : List Id) (s : Id) (E F : Env Name) → find_at (λ E. Some E) seen path E ≡ found F
    → find_at (λ E. Some E) seen (path ++ s ∷ []) E ≡ found_in (seen ++ (path ++ s ∷ [])) (λ G. found G) (find_structure s (structures F))
unfolding find_at
further seen [] s E F h = let e : E ≡ F = cc in ap (λ D. found_in (seen ++ s ∷ []) (λ G. found G) (find_structure s (structures D))) e
further seen (r ∷ path) s E F h =
    elim (find_structure r (structures E)) as (λ o. found_in (seen ++ r ∷ []) (find_at (λ E. Some E) (seen ++ r ∷ []) path) o ≡ found F
    → found_in (seen ++ r ∷ []) (find_at (λ E. Some E) (seen ++ r ∷ []) (path ++ s ∷ [])) o ≡ found_in (seen ++ (r ∷ path ++ s ∷ [])) (λ G. found G) (find_structure s (structures F))) [
      | None ↦ λ k. let q : ⊥ = cc in absurd q
      | Some D ↦ λ k. further (seen ++ r ∷ []) path s D F k ∙ ap (λ l. found_in l (λ G. found G) (find_structure s (structures F))) (append_assoc seen (r ∷ []) (path ++ s ∷ []))
    ] h

nowhere : (seen path : List Id) (s : Id) (E : Env Name) (t : List Id) → find_at (λ E. Some E) seen path E ≡ no_path t → find_at (λ E. Some E) seen (path ++ s ∷ []) E ≡ no_path t
unfolding find_at
nowhere seen [] s E t h = let q : ⊥ = cc in absurd q
nowhere seen (r ∷ path) s E t h =
    elim (find_structure r (structures E)) as (λ o. found_in (seen ++ r ∷ []) (find_at (λ E. Some E) (seen ++ r ∷ []) path) o ≡ no_path t
    → found_in (seen ++ r ∷ []) (find_at (λ E. Some E) (seen ++ r ∷ []) (path ++ s ∷ [])) o ≡ no_path t) [
      | None ↦ λ k. k
      | Some D ↦ λ k. nowhere (seen ++ r ∷ []) path s D t k
    ] h

pub held-inside : (E F G : Env Name) (path : List Id) (s : Id) → env_at E path ≡ found F → find_structure s (structures F) ≡ Some G → env_at E (path ++ s ∷ []) ≡ found G
held-inside E F G path s h k = further [] path s E F h ∙ ap (found_in (path ++ s ∷ []) (λ G. found G)) k

one-longer : {A : Type 0} (k : ℕ) (xs : List A) (x : A) → k ≡ suc (length xs) → take k (xs ++ x ∷ []) ≡ xs ++ x ∷ []
one-longer k xs x e = take_all k (xs ++ x ∷ []) (let n = length-append xs (x ∷ []) in omega (arith, n, e))

pub held-nowhere : (E F : Env Name) (path : List Id) (s : Id) (k : ℕ) → env_at E path ≡ found F → find_structure s (structures F) ≡ None → k ≡ suc (length path)
    → (k ≤ length (path ++ s ∷ [])) × (env_at E (path ++ s ∷ []) ≡ no_path (take k (path ++ s ∷ [])))
held-nowhere E F path s k h g e = (
  (let n = length-append path (s ∷ []) in omega (arith, n, e)),
  further [] path s E F h ∙ ap (found_in (path ++ s ∷ []) (λ G. found G)) g ∙ ap no_path (sym (one-longer k path s e)),
)

pub still-nowhere : (E : Env Name) (path : List Id) (s : Id) (k : ℕ) → k ≤ length path → env_at E path ≡ no_path (take k path)
    → (k ≤ length (path ++ s ∷ [])) × (env_at E (path ++ s ∷ []) ≡ no_path (take k (path ++ s ∷ [])))
still-nowhere E path s k l h = (
  (let n = length-append path (s ∷ []) in omega (arith, n, l)),
  nowhere [] path s E (take k path) h ∙ ap no_path (sym (take-append-le k path (s ∷ []) l)),
)

-- the path before the last step
pub left : (xs ys : List Id) (x : Id) → ys ≡ xs ++ x ∷ [] → take (length ys - 1) ys ≡ xs
left xs ys x e =
    let n = length-append xs (x ∷ []) in
    let k : length ys - 1 ≡ length xs = omega (arith, n, ap (λ l. length l) e) in
    (λ i. take (k i) (e i)) ∙ take-append-le (length xs) xs (x ∷ []) (omega arith) ∙ take_all (length xs) xs (omega arith)

pub no-more : (xs : List Id) (k : ℕ) (x : Id) → k ≤ length xs → take k (xs ++ x ∷ []) ≡ take k xs
no-more xs k x l = take-append-le k xs (x ∷ []) l
