-- What bodies of bases become where names are renamed: a sum becomes the sum, and the initial body stays.
use Rattle.std.specs.Prelude.{◌≡◌, Bool, true, false, List, [], ◌∷◌, map}
use mathlib.Core.Path.{refl, sym, subst, ◌∙◌}
use mathlib.Core.Logic.{inl, inr}
use std.Equiv.{◌≃◌, iso_to_equiv}
use std.Path.{PathP, from_path_p}
use Rattle.sml_objects.specs.Alike.{Renaming}
use Rattle.sml_objects.specs.Appearance.{Stands}
use Rattle.sml_objects.specs.Initial.{Name, initial, made, naming}
use Rattle.sml_objects.specs.Names.{Initial, int, word, char, string, bool, exn, real, list, ref}
use Rattle.sml_objects.specs.Objects.{names_type, names_types}
use Rattle.sml_rules.proofs.Worlds.{Named, Keeps, Over, moved}
use Rattle.sml_core_rules.specs.Initial.{initial_names, initial_env}
use Rattle.sml_core_rules.specs.Objects.{Env, extend, rename_env, names_env, names_in, names_structures}
use Rattle.sml_core_rules.proofs.Along.{become-known, env-along}
use Rattle.sml_core_rules.proofs.Renaming.{env-id}

-- the initial environment has initial names alone

initial-stands : (k : Initial) → Stands (initial k) initial_names
unfolding Stands
initial-stands int = inl refl
initial-stands word = inr (inl refl)
initial-stands char = inr (inr (inl refl))
initial-stands string = inr (inr (inr (inl refl)))
initial-stands bool = inr (inr (inr (inr (inl refl))))
initial-stands exn = inr (inr (inr (inr (inr (inl refl)))))
initial-stands real = inr (inr (inr (inr (inr (inr (inl refl))))))
initial-stands list = inr (inr (inr (inr (inr (inr (inr (inl refl)))))))
initial-stands ref = inr (inr (inr (inr (inr (inr (inr (inr (inl refl))))))))

are_initial : List Name → Bool
are_initial [] = true
are_initial (initial k ∷ ns) = are_initial ns
are_initial (made u k a q ∷ ns) = false

all-initial : (ns : List Name) → are_initial ns ≡ true → (n : Name) → Stands n ns → Stands n initial_names
unfolding Stands are_initial
all-initial [] e n h = absurd h
all-initial (initial k ∷ ns) e n (inl h) = subst (λ m. Stands m initial_names) (sym h) (initial-stands k)
all-initial (initial k ∷ ns) e n (inr h) = all-initial ns e n h
all-initial (made u k a q ∷ ns) e n h = absurd cc

only-initial : are_initial (names_env initial_env) ≡ true
unfolding are_initial initial_env names_in names_structures names_type names_types
only-initial = refl

env_named : Named Env
env_named = record { rename = rename_env; rename-id = env-id }

-- a sum, with its parts
record Sum (N : Type 0) : Type 0 where
  first : Env N
  second : Env N
  sum : Env N

sum_named : Named Sum
sum_named = record {
  rename = λ f x. record { first = rename_env f x.first; second = rename_env f x.second; sum = rename_env f x.sum };
  rename-id = λ x i. record { first = env-id x.first i; second = env-id x.second i; sum = env-id x.sum i };
}

module _ (f : Renaming naming) where
  exchanged : Name ≃ Name
  exchanged = iso_to_equiv (record { fun = f.to; inv = f.from; rinv = f.to-from; linv = f.from-to })

  kept : Keeps naming naming f.to
  kept = record { attributes = f.keeps; initial = f.initial }

  pub sum-moved : (E F : Env Name) → rename_env f.to (extend E F) ≡ extend (rename_env f.to E) (rename_env f.to F)
  unfolding sum_named exchanged
  sum-moved E F =
      subst {A = Over Sum} (λ w. w.2.sum ≡ extend w.2.first w.2.second)
      (moved sum_named exchanged naming naming kept (record { first = E; second = F; sum = extend E F })) refl

  pub initial-kept : rename_env f.to initial_env ≡ initial_env
  unfolding naming env_named exchanged
  initial-kept =
      let π = moved env_named exchanged naming naming kept initial_env in
      let p : Name ≡ Name = λ i. (π i).0 in
      let k : (j : Initial) → PathP (λ i. p i) (initial j) (initial j) = λ j i. (π i).1.initial j in
      let ns : PathP (λ i. List (p i)) initial_names initial_names =
      λ i. map (π i).1.initial (int ∷ word ∷ char ∷ string ∷ bool ∷ exn ∷ real ∷ list ∷ ref ∷ []) in
      let same =
      env-along p initial_env (become-known p (initial int) (initial int) (k int) initial_names ns (names_env initial_env) (all-initial (names_env initial_env) only-initial)) in
      sym (from_path_p (λ i. Env (p i)) (λ i. (π i).2)) ∙ from_path_p (λ i. Env (p i)) same
