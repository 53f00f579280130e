-- Samples of well-formed objects: the initial basis is one, and so are a signature and a functor; and objects that are not.
use Rattle.std.specs.Prelude.{false, [], ◌∷◌, codes}
use Rattle.sml_objects.specs.Initial.{Name, made, naming}
use Rattle.sml_objects.specs.Names.{int}
use Rattle.sml_objects.specs.Objects.{Scheme, bound, mono, named}
use Rattle.sml_core_rules.specs.Initial.{initial_basis}
use Rattle.sml_core_rules.specs.Objects.{Env, Value, Sig, FunSig, variable, constructor, maps, no_structure, empty}
use Rattle.sml_core_rules.specs.Soundness.{IsWellFormed}
use Rattle.sml_module_rules.specs.WellFormed.{IsBasis, IsFunSigOver, IsSchemeOver, IsSigOver, IsValueOver}
use Rattle.sml_samples.specs.Around.{initial_names, type_of}

abbrev pub one_name : Scheme Name → Name → Env Name
one_name σ n =
    maps no_structure ((codes "t", record { function = mono (named n); constructors = [] }) ∷ []) ((codes "x", record { scheme = σ; status = variable }) ∷ [])

-- `type t val x : t`, with this name
abbrev pub type_and_value : Name → Env Name
type_and_value n = one_name (mono (named n)) n

-- sig type t val x : t end
abbrev pub signature : Sig Name
signature = record { names = made 1 0 0 false ∷ []; body = type_and_value (made 1 0 0 false) }

-- The argument of a functor is such a signature, and so is its result, whose type is new.
abbrev pub functor : FunSig Name
functor = record { argument = signature; result = record { names = made 1 1 0 false ∷ []; body = type_and_value (made 1 1 0 false) } }

-- the functor gives a type of its argument as new
abbrev pub functor_that_rebinds : FunSig Name
functor_that_rebinds = record { argument = signature; result = signature }

-- the name stands nowhere
abbrev pub signature_of_nothing : Sig Name
signature_of_nothing = record { names = made 1 0 0 false ∷ []; body = empty }

-- the name isn't bound
abbrev pub signature_that_leaks : Sig Name
signature_that_leaks = record { names = []; body = type_and_value (made 1 0 0 false) }

-- `'a -> int` without the arrow: the variable that is bound stands nowhere
abbrev pub binds_too_much : Scheme Name
binds_too_much = record { variables = false ∷ []; body = type_of int }

abbrev pub binds_too_little : Scheme Name
binds_too_little = record { variables = []; body = bound 0 }

-- the third constructor of two
abbrev pub third_of_two : Value Name
third_of_two = record { scheme = mono (type_of int); status = constructor 2 2 }

pub record WellFormedSamples : Type 0 where
  pub initial_is : IsBasis naming initial_basis
  pub initial_has_no_variables : IsWellFormed initial_basis
  pub signature_is : IsSigOver naming initial_names signature
  pub functor_is : IsFunSigOver naming initial_names functor
  pub rebinding_is_not : ¬ (IsFunSigOver naming initial_names functor_that_rebinds)
  pub nothing_is_not : ¬ (IsSigOver naming initial_names signature_of_nothing)
  pub leaking_is_not : ¬ (IsSigOver naming initial_names signature_that_leaks)
  pub too_much_is_not : ¬ (IsSchemeOver naming initial_names binds_too_much)
  pub too_little_is_not : ¬ (IsSchemeOver naming initial_names binds_too_little)
  pub third_is_not : ¬ (IsValueOver naming initial_names third_of_two)
