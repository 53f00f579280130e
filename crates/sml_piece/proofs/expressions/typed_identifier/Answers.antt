use Rattle.std.proofs.Common.{◌≡◌, ◌+◌, length, ap, sym, ◌∙◌, subst, Bor, Global, arith}
use Rattle.std.proofs.lemmas.Bool.{eqb-true, eqb-false}
use Rattle.std.proofs.lemmas.List.{length-map}
use Rattle.std.specs.declared.rc.Rc.{Rc}
use Rattle.sml_lex.specs.declared.fault.Code.TheVariants.{E1}
use Rattle.sml_tree.specs.Views.{ident_of, long_of}
use Rattle.sml_objects.specs.Maps.{lookup}
use Rattle.sml_objects.specs.Objects as O
use Rattle.sml_objects.specs.Objects.{values, mono, free}
use Rattle.sml_objects.specs.Types.{instance_from, replace_type}
use Rattle.sml_objects.specs.Initial.{Name}
use Rattle.sml_objects.specs.Views.{env_of, scheme_of}
use Rattle.sml_objects.specs.declared.objects.Scheme.{Scheme}
use Rattle.sml_rules.specs.Lookups.{found, entry, value_at}
use Rattle.sml_rules.specs.Answers.{need, accepted}
use Rattle.sml_rules.specs.Readings.{read_exp, typed}
use Rattle.sml_piece.specs.Elaborated.{IsFree, numbers_in, or_else, local_scheme, typed_of}
use Rattle.sml_piece.proofs.Paths.{value_short, no_items}
use Rattle.sml_piece.proofs.Answering.{first_ends, second, made_so, made_same, gives}
use Rattle.sml_piece.proofs.expressions.typed_identifier.Goals as goal
use Rattle.sml_piece.proofs.expressions.typed_identifier.Goals.{then-is_empty+in_default, else-is_empty}

abbrev scheme_view : Bor (Rc Scheme Global) → O.Scheme Name
scheme_view s = scheme_of s.now.value

pub returns-in-Some : goal.returns-in-Some
unfolding read_exp replace_type
returns-in-Some c = λ C shows.
    let x = c.args.long.now in
    let l = x.path.ok.0 in
    let n = c.in-Some.number in
    let k = c.args.made in
    let none : length x.path.items ≡ 0 = sym l ∙ eqb-true _ _ (sym c.is_empty.ensures ∙ c.if-is_empty.true) in
    let rest = or_else (lookup (ident_of x.last) (values (env_of c.args.context.now.inner.now))) (lookup (ident_of x.last) (values (env_of c.args.context.now.outer.now))) in
    let there : value_at C (long_of x) ≡ found (mono (free n)) =
    value_short C (long_of x) (no_items ident_of x.path.items none)
    ∙ ap entry (shows.values_are (ident_of x.last) ∙ ap (λ o. or_else (local_scheme o) rest) (sym c.in-Some.ensures)) in
    let same : typed k (free n) ≡ typed (k + 0) (free n) = ap (λ j. typed j (free n)) (omega arith) in
    second typed_of _ _ (mono (free n)) c.unknown.result (subst (λ r. need E1 x.place (long_of x) r (accepted (mono (free n)))) (sym there) (gives _))
    (made_so _ typed_of c.unknown.result _ (made_same _ _ typed_of c.unknown.result same c.unknown.ensures) (gives _))

pub returns-in-Ok : goal.returns-in-Ok
unfolding read_exp
returns-in-Ok c = λ C shows.
    let x = c.args.long.now in
    let l = x.path.ok.0 in
    let σ = scheme_of c.in-Ok.scheme.now.value in
    let k = c.args.made in
    let unseen : IsFree (numbers_in c.args.locals.now) (long_of x) = elim c.if-is_empty.branch [
      | then-is_empty+in_default w ↦ λ h. sym w.number.ensures ∙ w.in_default.is
      | else-is_empty w ↦ λ h. absurd (eqb-false _ _ (sym c.is_empty.ensures ∙ w.if-is_empty.false) (l ∙ sym (length-map x.path.items ident_of) ∙ ap length h))
    ] in
    second typed_of _ _ σ c.instance.result (c.in-Ok.ensures (numbers_in c.args.locals.now) C shows unseen)
    (made_so _ typed_of c.instance.result _ (made_same _ _ typed_of c.instance.result (ap (λ s. typed (k + length (scheme_of s).variables) (instance_from k (scheme_of s).body)) c.deref.ensures) c.instance.ensures) (gives _))

pub returns-in-Err : goal.returns-in-Err
unfolding read_exp
returns-in-Err c = λ C shows.
    let x = c.args.long.now in
    let l = x.path.ok.0 in
    let unseen : IsFree (numbers_in c.args.locals.now) (long_of x) = elim c.if-is_empty.branch [
      | then-is_empty+in_default w ↦ λ h. sym w.number.ensures ∙ w.in_default.is
      | else-is_empty w ↦ λ h. absurd (eqb-false _ _ (sym c.is_empty.ensures ∙ w.if-is_empty.false) (l ∙ sym (length-map x.path.items ident_of) ∙ ap length h))
    ] in
    first_ends scheme_view typed_of _ _ c.in-Err.fault (c.in-Err.ensures (numbers_in c.args.locals.now) C shows unseen)
