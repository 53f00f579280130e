use Rattle.std.proofs.Common.{◌≡◌, ◌+◌, [], length, None, ap, sym, ◌∙◌, subst, Err, true, false, Global}
use Rattle.std.proofs.lemmas.Bool.{true≢false}
use Rattle.std.specs.Option.{is_some}
use Rattle.std.specs.declared.rc.Rc.{Rc}
use Rattle.sml_lex.specs.declared.fault.Code.TheVariants.{E7, N2}
use Rattle.sml_tree.specs.Views.{ident_of}
use Rattle.sml_objects.specs.Maps.{lookup}
use Rattle.sml_objects.specs.Objects as O
use Rattle.sml_objects.specs.Objects.{values, one_value, mono, Sig, names_sig, names_env, names_map, names_type, names_basis}
use Rattle.sml_objects.specs.Initial.{Name}
use Rattle.sml_objects.specs.Views.{env_of, maker_of, type_of}
use Rattle.sml_objects.specs.declared.objects.MlType.{MlType}
use Rattle.sml_rules.specs.Answers.{accepted, refused, fault, test}
use Rattle.sml_rules.specs.Readings.{read_spec, IsSmall}
use Rattle.sml_piece.specs.Elaborated.{Answers, IsBelow, specified_of, no_local}
use Rattle.sml_piece.proofs.Specifying.{shown, all_below_more}
use Rattle.sml_piece.proofs.Answering.{then_any, then_refused, refused_by, refusal, refuses, first_ends, fails, passes, gives, gives_so, refused_on}
use Rattle.sml_rules.specs.Every.{Every}
use Rattle.sml_rules.proofs.Within as W
use Rattle.sml_piece.proofs.signatures.specify_value.Goals as goal

abbrev type_view : Rc MlType Global → O.MlType Name
type_view t = type_of t.value

pub returns-in-Err-clause-answer : goal.returns-in-Err-clause-answer
unfolding read_spec
returns-in-Err-clause-answer c = λ B seen shows tells.
    first_ends specified_of specified_of _ _ c.in-Err.fault (first_ends type_view specified_of _ _ c.in-Err.fault (c.in-Err.ensures no_local B.body shows))

pub returns-in-Err-small-clause-answer : goal.returns-in-Err-small-clause-answer
unfolding read_spec
returns-in-Err-small-clause-answer c = λ B seen shows tells.
    let p = c.args.place in
    first_ends specified_of specified_of _ _ c.in-Err-small.fault
    (refuses specified_of c.in-Err-small.fault _ (refused_on c.in-Err-small.fault (test (IsSmall (type_view c.in-Ok.ty)) (fault E7 p)) _
    (λ g h. then_any _ _ (type_view c.in-Ok.ty) (refused g) (c.in-Ok.ensures no_local B.body shows) (then_refused _ _ g h))
    (refusal (λ u. u) c.in-Err-small.fault _ (subst (λ u. Answers (λ u. u) (Err c.in-Err-small.fault) (test (IsSmall (type_of u)) (fault E7 p))) c.deref.ensures c.in-Err-small.ensures))))

pub returns-then-is_some-clause-answer : goal.returns-then-is_some-clause-answer
unfolding read_spec
returns-then-is_some-clause-answer c = λ B seen shows tells.
    let p = c.args.place in
    let x = ident_of c.args.name.now in
    let t = type_view c.in-Ok.ty in
    let S : Sig Name = record { names = []; body = one_value x (mono t) } in
    let stands : is_some (lookup x (values (env_of c.args.sig.now.body))) ≡ true =
    ap is_some (sym c.value.ensures) ∙ shown _ c.value.result ∙ sym c.is_some.ensures ∙ c.if-is_some.true in
    refused_by specified_of _ c.plain_fault.result (fault N2 p) c.plain_fault.ensures
    (then_any _ _ S (refused (fault N2 p))
    (then_any _ _ t (accepted S) (c.in-Ok.ensures no_local B.body shows)
    (then_any _ _ tt (accepted S) (subst (λ u. test (IsSmall (type_of u)) (fault E7 p) (accepted tt)) c.deref.ensures c.in-Ok-small.ensures) (gives S)))
    (then_refused _ _ (fault N2 p) (fails _ (fault N2 p) (λ k. k (tells.value_specified x stands)))))

pub returns-in-Ok-value_component-clause-answer : goal.returns-in-Ok-value_component-clause-answer
unfolding read_spec
returns-in-Ok-value_component-clause-answer c = λ B seen shows tells.
    let p = c.args.place in
    let x = ident_of c.args.name.now in
    let t = type_view c.in-Ok.ty in
    let S : Sig Name = record { names = []; body = one_value x (mono t) } in
    let none : is_some (lookup x (values (env_of c.args.sig.now.body))) ≡ false =
    ap is_some (sym c.value.ensures) ∙ shown _ c.value.result ∙ sym c.is_some.ensures ∙ c.if-is_some.false in
    then_any _ _ S _
    (then_any _ _ t (accepted S) (c.in-Ok.ensures no_local B.body shows)
    (then_any _ _ tt (accepted S) (subst (λ u. test (IsSmall (type_of u)) (fault E7 p) (accepted tt)) c.deref.ensures c.in-Ok-small.ensures) (gives S)))
    (then_any _ _ tt _ (passes _ (fault N2 p) (λ k. true≢false (sym (tells.value_stands x k) ∙ none)))
    (gives_so _ _ (ap (λ E. record { names = []; body = E }) (c.in-Ok-value_component.ensures ∙ ap (λ vs. one_value x (record { variables = vs; body = t })) c.new.ensures.items))))

pub returns-in-Ok-value_component-clause-names : goal.returns-in-Ok-value_component-clause-names
unfolding names_sig names_env names_map names_basis
returns-in-Ok-value_component-clause-names c = λ B shows below.
    let unit = maker_of c.args.basis.now.unit in
    let count = length c.args.basis.now.names.items + length c.args.sig.now.names.items in
    let x = ident_of c.args.name.now in
    let t = type_view c.in-Ok.ty in
    let S : Sig Name = record { names = []; body = one_value x (mono t) } in
    let P = IsBelow unit (count + 0) in
    let all = all_below_more unit count 0 (names_basis B) below in
    let same : S ≡ specified_of record { name = None; component = c.in-Ok-value_component.component } =
    sym (ap (λ E. record { names = []; body = E }) (c.in-Ok-value_component.ensures ∙ ap (λ vs. one_value x (record { variables = vs; body = t })) c.new.ensures.items)) in
    subst (λ S. Every P (names_sig S)) same
    (W.both P (names_type t) [] (W.read_ty_within P B.body _ t (W.last P B.names (names_env B.body) all) (c.in-Ok.ensures no_local B.body shows)) tt)
