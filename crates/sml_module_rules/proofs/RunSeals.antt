-- Seals hide in runs over the initial basis.
use Rattle.std.specs.Prelude.{◌≡◌, ◌<◌, Bool, true, false, List, [], ◌∷◌}
use Rattle.std.proofs.Common.{arith}
use mathlib.Core.Path.{refl, sym, subst}
use mathlib.Core.Logic.{inl, inr}
use Rattle.std.specs.List.{AllByRecursion}
use Rattle.sml_lex.specs.declared.fault.Place.{Place}
use Rattle.sml_objects.specs.Appearance.{Stands}
use Rattle.sml_objects.specs.Initial.{Name, initial, made, naming}
use Rattle.sml_objects.specs.Names.{Initial, int, word, char, string, bool, exn, real, list, ref}
use Rattle.sml_objects.specs.Objects.{names_type, names_types}
use Rattle.sml_layers.specs.declared.variable.Variable.{Variable}
use Rattle.sml_core_rules.specs.Initial.{initial_names, initial_basis, initial_env}
use Rattle.sml_core_rules.specs.Objects.{names_basis, names_in, names_structures}
use Rattle.sml_core_rules.specs.Scopes.{run_scope}
use Rattle.sml_module_rules.specs.Projects.{UnitPair}
use Rattle.sml_module_rules.specs.Runs.{RunsHide}
use Rattle.sml_module_rules.proofs.ProjectSeals.{projects-hide}

initial-stands : (k : Initial) → Stands (initial k) initial_names
unfolding Stands
initial-stands int = inl refl
initial-stands word = inr (inl refl)
initial-stands char = inr (inr (inl refl))
initial-stands string = inr (inr (inr (inl refl)))
initial-stands bool = inr (inr (inr (inr (inl refl))))
initial-stands exn = inr (inr (inr (inr (inr (inl refl)))))
initial-stands real = inr (inr (inr (inr (inr (inr (inl refl))))))
initial-stands list = inr (inr (inr (inr (inr (inr (inr (inl refl)))))))
initial-stands ref = inr (inr (inr (inr (inr (inr (inr (inr (inl refl))))))))

are_initial : List Name → Bool
are_initial [] = true
are_initial (initial k ∷ ns) = are_initial ns
are_initial (made u k a q ∷ ns) = false

all-initial : (ns : List Name) → are_initial ns ≡ true → (n : Name) → Stands n ns → Stands n initial_names
unfolding Stands are_initial
all-initial [] e n h = absurd h
all-initial (initial k ∷ ns) e n (inl h) = subst (λ m. Stands m initial_names) (sym h) (initial-stands k)
all-initial (initial k ∷ ns) e n (inr h) = all-initial ns e n h
all-initial (made u k a q ∷ ns) e n h = absurd cc

only-initial : are_initial (names_basis initial_basis) ≡ true
unfolding are_initial initial_env names_in names_structures names_type names_types
only-initial = refl

none-made : (us : List (UnitPair Place)) → AllByRecursion (λ u. 0 < u.number) us
    → AllByRecursion (λ u. (x : Variable) → ¬ (((run_scope 1).names.attributes ((run_scope 1).variable x)).maker ≡ u.number)) us
unfolding naming
none-made [] h = tt
none-made (u ∷ us) h = (λ x e. let p = h.0 in omega (arith, p, e), none-made us h.1)

pub runs-hide : RunsHide
unfolding naming
runs-hide us numbered oss qss first second same =
    let r = projects-hide (run_scope 1) us (none-made us numbered) initial_basis (all-initial (names_basis initial_basis) only-initial) initial-stands oss qss first second same in
    (r.0, r.2)
