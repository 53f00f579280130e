use Rattle.std.proofs.Common.{◌≡◌, [], Err, Ok, List, Option, Vec, Global, map, ap, sym, subst, ◌∙◌, length}
use Rattle.std.specs.declared.rc.Rc.{Rc}
use Rattle.sml_equality.specs.declared.runs.Run.{Run}
use Rattle.sml_types.specs.declared.written.Written.{Written}
use Rattle.sml_tree.specs.BindingViews.{dat_bind_of, typ_bind_of}
use Rattle.sml_tree.specs.Withtype.{dat_replaced}
use Rattle.sml_objects.specs.Initial.{Name}
use Rattle.sml_objects.specs.Maps.{lookup}
use Rattle.sml_objects.specs.Views.{entries_of, maker_of, name_of}
use Rattle.sml_rules.specs.Answers.{accepted}
use Rattle.sml_core_rules.specs.Datatypes.{arguments_of, datatype_types, read_all_arguments}
use Rattle.sml_core_rules.specs.Objects.{extend, of_types}
use Rattle.sml_bases.specs.Views.{env_of, ty_str_of}
use Rattle.sml_types.specs.Answered.{IsAnswer, TellsOf, there_or}
use Rattle.sml_types.specs.DatatypeAnswers.{DatatypesAnswer, with_datatypes}
use Rattle.sml_types.specs.Datatypes.{SmallAnswer, all_with_idents, constructor_sizes, idents_in, meant_argument, names_from}
use Rattle.sml_types.specs.Losses.{AreDatatypes}
use Rattle.sml_core_rules.specs.Objects.{types as types-in}
use Rattle.sml_bases.specs.declared.objects.Env.TheViews.{out-Env}
use Rattle.sml_bases.proofs.EnvViews.{env_of-out}
use Rattle.sml_type_maps.specs.NewNames.{carries, is_new}
use Rattle.sml_types.specs.Carried.{carries_all}
use Rattle.sml_types.proofs.Carrying.{carries-same, new-same}
use Rattle.sml_types.proofs.ConstructorSizes.{AllFit}
use Rattle.sml_types.proofs.GivenDatatypes.{given-large, given-refused, given-through, sizes-given}
use Rattle.sml_types.proofs.InnerScopes.{tells-inner, types-replaced}
use Rattle.sml_types.proofs.datatypes.datatypes_with.Goals as goal

pub returns-in_err-written-clause-answer : goal.returns-in_err-written-clause-answer
returns-in_err-written-clause-answer g c = λ C tells spelt list own.
    let ds = c.args.binds.now in
    let bs = map typ_bind_of c.args.withtype.now in
    let ns : List Name = names_from (maker_of c.args.new.now.unit) c.args.new.now.next (map dat_bind_of ds) in
    let run : Run = record { unit = c.args.new.now.unit; first = c.args.new.now.next; count = length ds } in
    let D = with_datatypes C ds ns in
    let types : entries_of ty_str_of c.in_ok-types.types.entries ≡ datatype_types [] (map dat_bind_of ds) ns =
    c.in_ok-types.ensures ∙ ap (datatype_types [] (map dat_bind_of ds)) (ap (map name_of) c.deref.ensures.value ∙ c.in_ok-names.ensures.names) in
    let inner = subst (λ m. TellsOf (g.S.Scope.says_structure c.args.scope.now) (λ x o. there_or (lookup x m) (g.S.Scope.says_type c.args.scope.now x) o) D) (sym types)
    (tells-inner (g.S.Scope.says_structure c.args.scope.now) (g.S.Scope.says_type c.args.scope.now) (map dat_bind_of ds) ns C tells) in
    let sides = c.in_ok-sides.ensures D inner spelt own in
    let read : arguments_of C (map (dat_replaced bs) (map dat_bind_of ds)) ns ≡ read_all_arguments D (map (dat_replaced bs) (map dat_bind_of ds)) =
    ap (λ ts. read_all_arguments (extend C (of_types ts)) (map (dat_replaced bs) (map dat_bind_of ds))) (types-replaced bs [] (map dat_bind_of ds) ns) in
    given-through c.from_residual-in_err-written.result c.in_err-written.field-0.0 c.args.place run ds ns _ c.from_residual-in_err-written.ensures.1
    (given-refused c.args.place run ds ns {X = Vec (Vec (Option (Rc Written Global)) Global) Global} (λ all. all_with_idents ds all.items) c.in_err-written.field-0.0 _
    (subst (IsAnswer {X = Vec (Vec (Option (Rc Written Global)) Global) Global} (λ all. all_with_idents ds all.items) (Err c.in_err-written.field-0.0)) (sym read) (c.in_err-written.ensures.answer D bs inner sides list)))

pub returns-in_err-small_constructors-clause-answer : goal.returns-in_err-small_constructors-clause-answer
returns-in_err-small_constructors-clause-answer g c = λ C tells spelt list own.
    let ds = c.args.binds.now in
    let bs = map typ_bind_of c.args.withtype.now in
    let ns : List Name = names_from (maker_of c.args.new.now.unit) c.args.new.now.next (map dat_bind_of ds) in
    let run : Run = record { unit = c.args.new.now.unit; first = c.args.new.now.next; count = length ds } in
    let D = with_datatypes C ds ns in
    let e = c.in_err-small_constructors.field-0.0 in
    let written = c.in_ok-written.written.items in
    let types : entries_of ty_str_of c.in_ok-types.types.entries ≡ datatype_types [] (map dat_bind_of ds) ns =
    c.in_ok-types.ensures ∙ ap (datatype_types [] (map dat_bind_of ds)) (ap (map name_of) c.deref.ensures.value ∙ c.in_ok-names.ensures.names) in
    let inner = subst (λ m. TellsOf (g.S.Scope.says_structure c.args.scope.now) (λ x o. there_or (lookup x m) (g.S.Scope.says_type c.args.scope.now x) o) D) (sym types)
    (tells-inner (g.S.Scope.says_structure c.args.scope.now) (g.S.Scope.says_type c.args.scope.now) (map dat_bind_of ds) ns C tells) in
    let sides = c.in_ok-sides.ensures D inner spelt own in
    let read : arguments_of C (map (dat_replaced bs) (map dat_bind_of ds)) ns ≡ accepted (all_with_idents ds written) =
    ap (λ ts. read_all_arguments (extend C (of_types ts)) (map (dat_replaced bs) (map dat_bind_of ds))) (types-replaced bs [] (map dat_bind_of ds) ns)
    ∙ c.in_ok-written.ensures.answer D bs inner sides list in
    given-through c.from_residual-in_err-small_constructors.result e c.args.place run ds ns _ c.from_residual-in_err-small_constructors.ensures.1
    (given-large c.args.place run ds ns e (all_with_idents ds written) _ read
    (subst (SmallAnswer (Err e) c.args.place) (ap (constructor_sizes ds) c.deref-2.ensures.value ∙ sizes-given ds written c.in_ok-written.ensures.fits) c.in_err-small_constructors.ensures))

pub returns-clause-answer : goal.returns-clause-answer
returns-clause-answer g c = λ C tells spelt list own.
    let ds = c.args.binds.now in
    let bs = map typ_bind_of c.args.withtype.now in
    let ns : List Name = names_from (maker_of c.args.new.now.unit) c.args.new.now.next (map dat_bind_of ds) in
    let run : Run = record { unit = c.args.new.now.unit; first = c.args.new.now.next; count = length ds } in
    let D = with_datatypes C ds ns in
    let written = c.in_ok-written.written.items in
    let types : entries_of ty_str_of c.in_ok-types.types.entries ≡ datatype_types [] (map dat_bind_of ds) ns =
    c.in_ok-types.ensures ∙ ap (datatype_types [] (map dat_bind_of ds)) (ap (map name_of) c.deref.ensures.value ∙ c.in_ok-names.ensures.names) in
    let inner = subst (λ m. TellsOf (g.S.Scope.says_structure c.args.scope.now) (λ x o. there_or (lookup x m) (g.S.Scope.says_type c.args.scope.now x) o) D) (sym types)
    (tells-inner (g.S.Scope.says_structure c.args.scope.now) (g.S.Scope.says_type c.args.scope.now) (map dat_bind_of ds) ns C tells) in
    let sides = c.in_ok-sides.ensures D inner spelt own in
    let read : arguments_of C (map (dat_replaced bs) (map dat_bind_of ds)) ns ≡ accepted (all_with_idents ds written) =
    ap (λ ts. read_all_arguments (extend C (of_types ts)) (map (dat_replaced bs) (map dat_bind_of ds))) (types-replaced bs [] (map dat_bind_of ds) ns)
    ∙ c.in_ok-written.ensures.answer D bs inner sides list in
    subst (DatatypesAnswer (Ok c.in_ok-env.env) c.args.place run ds ns) (sym read) (
      subst AllFit (ap (constructor_sizes ds) c.deref-2.ensures.value ∙ sizes-given ds written c.in_ok-written.ensures.fits) c.in_ok-small_constructors.ensures,
      record {
        names = c.in_ok-names.names.items;
        made = c.in_ok-arguments.arguments.items;
        named = c.in_ok-names.ensures.names;
        arguments = ap (idents_in ds) (c.in_ok-arguments.ensures ∙ ap (map (λ ts. map meant_argument ts.items)) c.deref-3.ensures.value);
        datatypes = subst (λ gs. AreDatatypes run ds c.in_ok-names.names.items gs (env_of c.in_ok-env.env)) c.deref-5.ensures.value
            (subst (λ ns. AreDatatypes run ds ns c.deref-5.result.now (env_of c.in_ok-env.env)) c.deref-4.ensures.value c.in_ok-env.ensures);
      },
    )

pub returns-clause-carries : goal.returns-clause-carries
returns-clause-carries g c = λ n.
    let old = c.args.new.now in
    let made = c.new_names.new.new in
    c.in_ok-carry_all.ensures.carries n
    ∙ carries-same (is_new made) (is_new old) (new-same made old c.in_ok-names.ensures.unit c.in_ok-names.ensures.basis)
    (entries_of ty_str_of (out-Env c.in_ok-env.env).types.entries) (carries made) (carries old) c.in_ok-names.ensures.carries n
    ∙ ap (λ ts. carries_all (is_new old) ts (carries old) n) (sym (ap types-in (env_of-out c.in_ok-env.env)))
