-- What identifiers mean in a basis: what the nearest layer that binds them binds to them. The nearest is what the unit binds
-- itself; each basis below hides those before it.
use Rattle.std.specs.Prelude.{List, [], ◌∷◌, map, reverse, Option, Some, None}
use Rattle.sml_objects.specs.Initial.{Name}
use Rattle.sml_objects.specs.Maps.{Map}
use Rattle.sml_objects.specs.Views.{entries_of}
use Rattle.sml_core_rules.specs.Objects as O
use Rattle.sml_bases.specs.Views.{env_of, fun_sig_of, sig_of}
use Rattle.sml_bases.specs.declared.objects.Basis.{Basis}
use Rattle.sml_bases.specs.declared.objects.Basis.TheViews.{out-Basis}

abbrev pub or_else : {X : Type 0} → Option X → Option X → Option X
or_else None b = b
or_else (Some x) b = Some x

-- the first that is found
abbrev pub first_found : {A X : Type 0} → (A → Option X) → List A → Option X
first_found f [] = None
first_found f (a ∷ rest) = or_else (f a) (first_found f rest)

-- a basis and those below it, the nearest first
abbrev pub bases_of : Basis → List Basis
bases_of b = b ∷ reverse (map (λ u. u.value) (out-Basis b).below.items)

-- what a basis binds itself
abbrev pub bound_env : Basis → O.Env Name
bound_env b = env_of (out-Basis b).env

abbrev pub bound_signatures : Basis → Map (O.Sig Name)
bound_signatures b = entries_of (λ s. sig_of s.value) (out-Basis b).signatures.entries

abbrev pub bound_functors : Basis → Map (O.FunSig Name)
bound_functors b = entries_of (λ f. fun_sig_of f.value) (out-Basis b).functors.entries

abbrev pub layers : Basis → List (O.Env Name)
layers b = map bound_env (bases_of b)

abbrev pub signatures_in : Basis → List (Map (O.Sig Name))
signatures_in b = map bound_signatures (bases_of b)

abbrev pub functors_in : Basis → List (Map (O.FunSig Name))
functors_in b = map bound_functors (bases_of b)
