-- The program's objects of the whole language as those of the definitions, over the names of a run.
use Rattle.std.specs.Prelude.{[], ◌∷◌, map}
use Rattle.sml_objects.specs.Initial.{Name}
use Rattle.sml_objects.specs.Maps.{Map}
use Rattle.sml_objects.specs.Views.{entries_of, name_of, scheme_of, schemes_of}
use Rattle.sml_core_rules.specs.Objects as O
use Rattle.sml_bases.specs.declared.objects.Status.{Status}
use Rattle.sml_bases.specs.declared.objects.Status.TheVariants as S
use Rattle.sml_bases.specs.declared.objects.Value.{Value}
use Rattle.sml_bases.specs.declared.objects.TypeStr.{TypeStr}
use Rattle.sml_bases.specs.declared.objects.Sig.{Sig}
use Rattle.sml_bases.specs.declared.objects.FunSig.{FunSig}
use Rattle.sml_bases.specs.declared.objects.Env.{Env}
use Rattle.sml_bases.specs.declared.objects.Env.TheOpen.{Env-F}
use Rattle.sml_bases.specs.declared.objects.Env.TheFolds.{fold-Env}

abbrev pub status_of : Status → O.Status
status_of S.Variable = O.variable
status_of (S.Overloaded c) = O.overloaded c
status_of (S.Constructor number count) = O.constructor number count
status_of S.Exception = O.exception

abbrev pub value_of : Value → O.Value Name
value_of v = record { scheme = scheme_of v.scheme.value; status = status_of v.status }

abbrev pub ty_str_of : TypeStr → O.TyStr Name
ty_str_of t = record { function = scheme_of t.function.value; constructors = schemes_of t.constructors.value.entries }

abbrev pub structures_of : Map (O.Env Name) → O.Structures (O.TyStr Name) (O.Value Name)
structures_of [] = O.no_structure
structures_of (e ∷ es) = O.and_structure e.0 e.1 (structures_of es)

abbrev pub env_layer : Env-F (O.Env Name) → O.Env Name
env_layer e = O.maps (structures_of (entries_of (λ s. s.value) e.structures.entries)) (entries_of ty_str_of e.types.entries) (entries_of value_of e.values.entries)

abbrev pub env_of : Env → O.Env Name
env_of = fold-Env (O.Env Name) env_layer

abbrev pub sig_of : Sig → O.Sig Name
sig_of s = record { names = map name_of s.names.items; body = env_of s.env.value }

abbrev pub fun_sig_of : FunSig → O.FunSig Name
fun_sig_of f = record { argument = sig_of f.argument; result = sig_of f.result }
