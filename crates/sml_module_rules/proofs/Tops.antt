-- Any two answers to a top-level declaration differ in the names that were made, and readings of renamed objects.
use Rattle.std.specs.Prelude.{[]}
use mathlib.Core.Path.{ap, subst}
use std.Equiv.{iso_to_equiv}
use Rattle.sml_lex.specs.declared.fault.Place.{Place}
use Rattle.sml_objects.specs.Names.{Naming}
use Rattle.sml_layers.specs.declared.variable.Variable.{Variable}
use Rattle.sml_rules.specs.Answers.{Answer, accepted}
use Rattle.sml_rules.proofs.Sound.{accepted_same}
use Rattle.sml_rules.proofs.Worlds.{Named, Over, moved}
use Rattle.sml_core_rules.specs.Objects.{Basis, rename_basis}
use Rattle.sml_core_rules.specs.Expressions.{at_first}
use Rattle.sml_core_rules.specs.States.{Scope}
use Rattle.sml_core_rules.proofs.Alike.{alike}
use Rattle.sml_core_rules.proofs.Renaming.{basis-id}
use Rattle.sml_module_rules.specs.Structures.{Added, IsTopReading}
use Rattle.sml_module_rules.specs.Statements.{rename_added, TopReadingsAgree, TopReadingsMove}
use Rattle.sml_module_rules.proofs.Programs.{added-id, one-agrees}

abbrev Given : Type 0 → Type 0
Given N = Answer Place (Added Place N)

given_named : Named Given
given_named = record { rename = rename_added; rename-id = added-id }

pub top-readings-agree : {N : Type 0} (scope : Scope N) → TopReadingsAgree scope
unfolding given_named
top-readings-agree {N} scope far B inside initials p d o q a b =
    let π = one-agrees scope far B inside initials p d o q a b in
    let f =
    alike {P = Place} {F = Given} given_named scope B.names (accepted (o, at_first [])) (accepted (q, at_first [])) (λ i. ((π i).0, (π i).1, (π i).2, accepted ((π i).3, at_first []))) in
    (f.0, f.1, ap (λ r. r.0) (accepted_same f.2))

-- what a reading speaks of: the names of explicit variables, the basis, and the answer
record Told (N : Type 0) : Type 0 where
  variable : Variable → N
  basis : Basis N
  answer : Given N

told_named : Named Told
told_named = record {
  rename = λ f x. record { variable = λ v. f (x.variable v); basis = rename_basis f x.basis; answer = rename_added f x.answer };
  rename-id = λ x i. record { variable = x.variable; basis = basis-id x.basis i; answer = added-id x.answer i };
}

pub top-readings-move : {N : Type 0} (names : Naming N) → TopReadingsMove names
unfolding told_named
top-readings-move names f unit var p B d o r =
    subst {A = Over Told} (λ w. IsTopReading (record { names = w.1; unit = unit; variable = w.2.variable }) p w.2.basis d w.2.answer)
    (moved told_named (iso_to_equiv (record { fun = f.to; inv = f.from; rinv = f.to-from; linv = f.from-to })) names names
    (record { attributes = f.keeps; initial = f.initial }) (record { variable = var; basis = B; answer = o })) r
