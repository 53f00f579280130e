use Rattle.std.proofs.Common.{◌≡◌, length, ap, ◌∙◌, sym, subst, Bor, Global}
use Rattle.std.proofs.lemmas.Bool.{eqb-true}
use Rattle.std.specs.declared.rc.Rc.{Rc}
use Rattle.sml_lex.specs.declared.fault.Code.TheVariants.{E1}
use Rattle.sml_tree.specs.Views.{ident_of, long_of}
use Rattle.sml_objects.specs.Maps.{lookup}
use Rattle.sml_objects.specs.Objects.{values}
use Rattle.sml_objects.specs.declared.objects.Env.{Env}
use Rattle.sml_objects.specs.declared.objects.Scheme.{Scheme}
use Rattle.sml_objects.specs.Views.{env_of, scheme_of}
use Rattle.sml_rules.specs.Lookups.{entry, value_at}
use Rattle.sml_rules.specs.Answers.{need}
use Rattle.sml_piece.specs.Elaborated.{Answers, or_else, local_scheme}
use Rattle.sml_piece.proofs.Paths.{value_short, value_long, no_items}
use Rattle.sml_piece.proofs.Answering.{leads_refused}
use Rattle.sml_piece.proofs.lookups.Context.value.Goals as goal

pub returns-then-is_empty : goal.returns-then-is_empty
returns-then-is_empty c = λ locals C shows free.
    let x = c.args.long.now in
    let l = x.path.ok.0 in
    let none : length x.path.items ≡ 0 = sym l ∙ eqb-true _ _ (sym c.is_empty.ensures ∙ c.if-is_empty.true) in
    subst (λ o. Answers (λ (s : Bor (Rc Scheme Global)). scheme_of s.now.value) c.found.result (need E1 x.place (long_of x) o))
    (ap entry (c.short_value.ensures ∙ sym (shows.values_are (ident_of x.last) ∙ ap (λ o. or_else (local_scheme o) (or_else (lookup (ident_of x.last) (values (env_of c.args.self.now.inner.now))) (lookup (ident_of x.last) (values (env_of c.args.self.now.outer.now))))) (free (no_items ident_of x.path.items none)))) ∙ sym (value_short C (long_of x) (no_items ident_of x.path.items none)))
    c.found.ensures

pub returns-in-Ok : goal.returns-in-Ok
returns-in-Ok c = λ locals C shows free.
    let x = c.args.long.now in
    subst (λ o. Answers (λ (s : Bor (Rc Scheme Global)). scheme_of s.now.value) c.found-in-Ok.result (need E1 x.place (long_of x) o))
    (ap entry c.value.ensures ∙ sym (value_long C (long_of x) _ (c.in-Ok.ensures locals C shows (λ E. lookup (ident_of x.last) (values E)))))
    c.found-in-Ok.ensures

pub returns-in-Err : goal.returns-in-Err
returns-in-Err c = λ locals C shows free.
    let x = c.args.long.now in
    leads_refused (λ (e : Bor Env). env_of e.now) (λ (s : Bor (Rc Scheme Global)). scheme_of s.now.value) E1 x.place (long_of x) C (λ E. lookup (ident_of x.last) (values E)) (value_at C (long_of x)) c.in-Err.fault
    (c.in-Err.ensures locals C shows) (λ s e. value_long C (long_of x) s e)
