use Rattle.std.proofs.Common.{◌≡◌, length, ap, sym, ◌∙◌, arith, Bor, vec_len}
use Rattle.sml_lex.specs.declared.fault.Code.TheVariants.{E4}
use Rattle.sml_tree.specs.TypeViews.{long_name_of}
use Rattle.sml_objects.specs.Views as view
use Rattle.sml_objects.specs.Types.{applied}
use Rattle.sml_objects.specs.declared.objects.Scheme.{Scheme}
use Rattle.sml_rules.specs.Answers.{accepted, fault}
use Rattle.sml_core_rules.specs.Types.{count_types}
use Rattle.sml_core_rules.specs.Functions.{name_of}
use Rattle.sml_bases.specs.Views.{ty_str_of}
use Rattle.sml_bases.specs.declared.objects.TypeStr.{TypeStr}
use Rattle.sml_types.specs.Meant.{all_meant, meant}
use Rattle.sml_types.proofs.Meanings.{meant-applied, meant-name}
use Rattle.sml_types.proofs.NamedFunctions.{name-applied}
use Rattle.sml_types.proofs.Readings.{one-meant, application-fits, application-misfit, application-refused, count-meant, fault-answer, through}
use Rattle.sml_types.proofs.SideArguments.{differ, same}
use Rattle.sml_types.proofs.types.application.Goals as goal

pub returns-in_err-found : goal.returns-in_err-found
returns-in_err-found g c = λ C tells.
    through (λ (t : Bor TypeStr). ty_str_of t.now) one-meant c.from_residual.result c.in_err-found.field-0.0 _ _ c.from_residual.ensures.1 (c.in_err-found.ensures C tells)
    (application-refused C (long_name_of c.args.long.now) (all_meant c.args.types.items))

pub returns-then-len : goal.returns-then-len
returns-then-len g c = λ C tells.
    let called = ap (λ (s : Scheme). vec_len s.variables) c.deref.ensures in
    fault-answer one-meant c.plain_fault.result (fault E4 c.args.long.now.place) _ c.plain_fault.ensures
    (application-misfit C (long_name_of c.args.long.now) (all_meant c.args.types.items) (ty_str_of c.in_ok-found.found.now) (c.in_ok-found.ensures C tells)
    (differ (length c.in_ok-found.found.now.function.value.variables.items) (count_types (all_meant c.args.types.items))
    (λ e. let fits : length c.in_ok-found.found.now.function.value.variables.items ≡ length c.args.types.items = e ∙ count-meant c.args.types.items in
    c.if-len.true (omega (arith, fits, called, c.len.ensures, c.len-2.ensures, c.in_ok-found.found.now.function.value.variables.ok.0, c.args.types.ok.0)))))

pub returns-in-Some : goal.returns-in-Some
returns-in-Some g c = λ C tells.
    let called = ap (λ (s : Scheme). vec_len s.variables) c.deref.ensures in
    let equal : length c.in_ok-found.found.now.function.value.variables.items ≡ length c.args.types.items = omega (arith, c.if-len.false, called, c.len.ensures, c.len-2.ensures, c.in_ok-found.found.now.function.value.variables.ok.0, c.args.types.ok.0) in
    let fits = same (length c.in_ok-found.found.now.function.value.variables.items) (count_types (all_meant c.args.types.items)) (equal ∙ sym (count-meant c.args.types.items)) in
    application-fits C (long_name_of c.args.long.now) (all_meant c.args.types.items) (ty_str_of c.in_ok-found.found.now) (c.in_ok-found.ensures C tells) fits
    ∙ ap accepted (name-applied (all_meant c.args.types.items) (view.scheme_of c.in_ok-found.found.now.function.value) (view.name_of c.in-Some.name)
    (ap (λ s. name_of (view.scheme_of s)) (sym c.deref-2.ensures) ∙ sym c.in-Some.ensures) fits
    ∙ sym (ap meant c.in_ok-shared.ensures ∙ meant-name c.in-Some.name c.args.types))

pub returns : goal.returns
returns g c = λ C tells.
    let called = ap (λ (s : Scheme). vec_len s.variables) c.deref.ensures in
    let equal : length c.in_ok-found.found.now.function.value.variables.items ≡ length c.args.types.items = omega (arith, c.if-len.false, called, c.len.ensures, c.len-2.ensures, c.in_ok-found.found.now.function.value.variables.ok.0, c.args.types.ok.0) in
    let fits = same (length c.in_ok-found.found.now.function.value.variables.items) (count_types (all_meant c.args.types.items)) (equal ∙ sym (count-meant c.args.types.items)) in
    application-fits C (long_name_of c.args.long.now) (all_meant c.args.types.items) (ty_str_of c.in_ok-found.found.now) (c.in_ok-found.ensures C tells) fits
    ∙ ap accepted (sym (ap meant c.in_ok-shared-2.ensures ∙ meant-applied c.in_ok-function.function c.args.types
    ∙ ap (λ s. applied (view.scheme_of s) (all_meant c.args.types.items)) c.in_ok-function.ensures.cases))
