use Rattle.std.proofs.Common.{◌≡◌, ◌<◌, ◌+◌, arith, [], ◌∷◌, length, Some, ap, sym, ◌∙◌, subst, true, false, map}
use Rattle.std.proofs.lemmas.Bool.{true≢false}
use Rattle.std.specs.Option.{is_some}
use Rattle.sml_lex.specs.declared.fault.Code.TheVariants.{N2}
use Rattle.sml_tree.specs.Views.{ident_of}
use Rattle.sml_objects.specs.Maps.{lookup}
use Rattle.sml_objects.specs.Objects.{types, one_type, mono, named, app, name, Sig, names_sig, names_env, names_map, names_type, types_of}
use Rattle.sml_objects.specs.Initial.{Name, made}
use Rattle.sml_objects.specs.Views.{env_of, maker_of, name_of, type_of}
use Rattle.sml_objects.proofs.TypeViews.{type_of-name}
use Rattle.sml_rules.specs.Answers.{accepted, refused, fault, any}
use Rattle.sml_rules.specs.Readings.{read_spec}
use Rattle.sml_piece.specs.Elaborated.{specified_of, IsBelow}
use Rattle.sml_piece.proofs.Specifying.{shown, is_new}
use Rattle.sml_piece.proofs.Answering.{then_any, then_refused, refused_by, fails, passes, gives, gives_so}
use Rattle.sml_rules.specs.Every.{Every}
use Rattle.sml_piece.proofs.signatures.specify_type.Goals as goal

pub returns-then-is_some-clause-answer : goal.returns-then-is_some-clause-answer
unfolding read_spec any
returns-then-is_some-clause-answer c = λ B seen below tells.
    let unit = maker_of c.args.basis.now.unit in
    let count = length c.args.basis.now.names.items + length c.args.sig.now.names.items in
    let t = ident_of c.args.name.now in
    let n : Name = made unit count 0 false in
    let S : Sig Name = record { names = n ∷ []; body = one_type t (mono (named n)) } in
    let p = c.args.place in
    let stands : is_some (lookup t (types (env_of c.args.sig.now.body))) ≡ true =
    ap is_some (sym c.type_function.ensures) ∙ shown _ c.type_function.result ∙ sym c.is_some.ensures ∙ c.if-is_some.true in
    refused_by specified_of _ c.plain_fault.result (fault N2 p) c.plain_fault.ensures
    (then_any _ _ S (refused (fault N2 p)) (then_any _ _ n (accepted S) (is_new unit count B below) (gives S))
    (then_refused _ _ (fault N2 p) (fails _ (fault N2 p) (λ k. k (tells.type_specified t stands)))))

-- what was specified
made-so : (c : goal.In-Ok-type_component)
    → let n : Name = made (maker_of c.args.basis.now.unit) (length c.args.basis.now.names.items + length c.args.sig.now.names.items) 0 false in
    ◌≡◌ {A = Sig Name} (record { names = n ∷ []; body = one_type (ident_of c.args.name.now) (mono (named n)) }) (specified_of record { name = Some c.in-Ok.made; component = c.in-Ok-type_component.component })
made-so c =
    let t = ident_of c.args.name.now in
    let n : Name = made (maker_of c.args.basis.now.unit) (length c.args.basis.now.names.items + length c.args.sig.now.names.items) 0 false in
    let same : name_of c.in-Ok.made ≡ n = c.in-Ok.ensures in
    let body = c.in-Ok-type_component.ensures ∙ ap (λ u. one_type t (mono u)) (c.in-Ok-boxed.ensures ∙ type_of-name c.in-Ok.made c.new.result
    ∙ ap (λ ts. app (name (name_of c.in-Ok.made)) (types_of (map (λ t. type_of t.value) ts))) c.new.ensures.items ∙ ap named same) in
    sym (ap (λ E. record { names = name_of c.in-Ok.made ∷ []; body = E }) body ∙ ap (λ m. record { names = m ∷ []; body = one_type t (mono (named n)) }) same)

pub returns-in-Ok-type_component-clause-answer : goal.returns-in-Ok-type_component-clause-answer
unfolding read_spec any
returns-in-Ok-type_component-clause-answer c = λ B seen below tells.
    let unit = maker_of c.args.basis.now.unit in
    let count = length c.args.basis.now.names.items + length c.args.sig.now.names.items in
    let t = ident_of c.args.name.now in
    let n : Name = made unit count 0 false in
    let S : Sig Name = record { names = n ∷ []; body = one_type t (mono (named n)) } in
    let p = c.args.place in
    let none : is_some (lookup t (types (env_of c.args.sig.now.body))) ≡ false =
    ap is_some (sym c.type_function.ensures) ∙ shown _ c.type_function.result ∙ sym c.is_some.ensures ∙ c.if-is_some.false in
    then_any _ _ S _ (then_any _ _ n (accepted S) (is_new unit count B below) (gives S))
    (then_any _ _ tt _ (passes _ (fault N2 p) (λ k. true≢false (sym (tells.type_stands t k) ∙ none)))
    (gives_so _ _ (sym (made-so c))))

pub returns-in-Ok-type_component-clause-names : goal.returns-in-Ok-type_component-clause-names
unfolding names_sig names_env names_map names_type
returns-in-Ok-type_component-clause-names c =
    let unit = maker_of c.args.basis.now.unit in
    let count = length c.args.basis.now.names.items + length c.args.sig.now.names.items in
    let less : unit ≡ unit → count < count + 1 = λ e. omega arith in
    subst (λ S. Every (IsBelow unit (count + 1)) (names_sig S)) (made-so c) (less, (less, tt))
