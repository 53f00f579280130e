use Rattle.std.proofs.Common.{◌≡◌, length, ap, ◌∙◌, sym, subst, Bor, Global}
use Rattle.std.proofs.lemmas.Bool.{eqb-true}
use Rattle.std.specs.declared.rc.Rc.{Rc}
use Rattle.sml_lex.specs.declared.fault.Code.TheVariants.{E2}
use Rattle.sml_tree.specs.Views.{ident_of, long_of}
use Rattle.sml_objects.specs.Maps.{lookup}
use Rattle.sml_objects.specs.Objects.{types}
use Rattle.sml_objects.specs.declared.objects.Env.{Env}
use Rattle.sml_objects.specs.declared.objects.Scheme.{Scheme}
use Rattle.sml_objects.specs.Views.{env_of, scheme_of}
use Rattle.sml_rules.specs.Lookups.{entry, type_at}
use Rattle.sml_rules.specs.Answers.{need}
use Rattle.sml_piece.specs.Elaborated.{Answers}
use Rattle.sml_piece.proofs.Paths.{type_short, type_long, no_items}
use Rattle.sml_piece.proofs.Answering.{leads_refused}
use Rattle.sml_piece.proofs.lookups.Context.type_function.Goals as goal

pub returns-then-is_empty : goal.returns-then-is_empty
returns-then-is_empty c = λ locals C shows.
    let x = c.args.long.now in
    let l = x.path.ok.0 in
    let none : length x.path.items ≡ 0 = sym l ∙ eqb-true _ _ (sym c.is_empty.ensures ∙ c.if-is_empty.true) in
    subst (λ o. Answers (λ (s : Bor (Rc Scheme Global)). scheme_of s.now.value) c.found.result (need E2 x.place (long_of x) o))
    (ap entry (c.short_type.ensures ∙ sym (shows.types_are (ident_of x.last))) ∙ sym (type_short C (long_of x) (no_items ident_of x.path.items none)))
    c.found.ensures

pub returns-in-Ok : goal.returns-in-Ok
returns-in-Ok c = λ locals C shows.
    let x = c.args.long.now in
    subst (λ o. Answers (λ (s : Bor (Rc Scheme Global)). scheme_of s.now.value) c.found-in-Ok.result (need E2 x.place (long_of x) o))
    (ap entry c.type_function.ensures ∙ sym (type_long C (long_of x) _ (c.in-Ok.ensures locals C shows (λ E. lookup (ident_of x.last) (types E)))))
    c.found-in-Ok.ensures

pub returns-in-Err : goal.returns-in-Err
returns-in-Err c = λ locals C shows.
    let x = c.args.long.now in
    leads_refused (λ (e : Bor Env). env_of e.now) (λ (s : Bor (Rc Scheme Global)). scheme_of s.now.value) E2 x.place (long_of x) C (λ E. lookup (ident_of x.last) (types E)) (type_at C (long_of x)) c.in-Err.fault
    (c.in-Err.ensures locals C shows) (λ s e. type_long C (long_of x) s e)
