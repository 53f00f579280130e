use Rattle.std.proofs.Common.{◌≡◌, [], ap, ◌∙◌, sym, Err, Bor, Global}
use Rattle.std.specs.declared.rc.Rc.{Rc}
use Rattle.sml_lex.specs.declared.fault.Code.TheVariants.{E4}
use Rattle.sml_objects.specs.Views.{type_of, scheme_of}
use Rattle.sml_objects.specs.declared.objects.MlType.{MlType}
use Rattle.sml_objects.specs.Objects as O
use Rattle.sml_objects.specs.Initial.{Name}
use Rattle.sml_objects.specs.declared.objects.Scheme as P
use Rattle.sml_rules.specs.Answers.{fault}
use Rattle.sml_rules.specs.Readings.{read_ty}
use Rattle.sml_objects.proofs.Vectors.{empty_items, some_items}
use Rattle.sml_piece.proofs.Answering.{first_ends, second, refused_by, made_so, made_same, then_refused, fails, passes, gives}
use Rattle.sml_piece.proofs.types.constructor_type.Goals as goal

pub returns-in-Err : goal.returns-in-Err
unfolding read_ty
returns-in-Err c = λ locals C shows.
    first_ends (λ (s : Bor (Rc P.Scheme Global)). scheme_of s.now.value) (λ (t : Rc MlType Global). type_of t.value) _ _ c.in-Err.fault (c.in-Err.ensures locals C shows)

pub returns-then-not-is_empty : goal.returns-then-not-is_empty
unfolding read_ty
returns-then-not-is_empty c = λ locals C shows.
    let p = c.args.long.now.place in
    let θ : O.Scheme Name = scheme_of c.in-Ok.function.now.value in
    let some : ¬ (θ.variables ≡ []) = λ e. some_items c.deref.result.now.variables (sym c.if-not-is_empty.true ∙ c.is_empty.ensures) (ap (λ s. s.variables.items) c.deref.ensures ∙ e) in
    second (λ (t : Rc MlType Global). type_of t.value) _ _ θ (Err c.plain_fault.result) (c.in-Ok.ensures locals C shows)
    (refused_by (λ (t : Rc MlType Global). type_of t.value) _ c.plain_fault.result (fault E4 p) c.plain_fault.ensures (then_refused _ _ _ (fails (θ.variables ≡ []) (fault E4 p) some)))

pub returns-else-not-is_empty : goal.returns-else-not-is_empty
unfolding read_ty
returns-else-not-is_empty c = λ locals C shows.
    let p = c.args.long.now.place in
    let θ : O.Scheme Name = scheme_of c.in-Ok.function.now.value in
    let none : θ.variables ≡ [] = ap (λ s. s.variables.items) (sym c.deref.ensures) ∙ empty_items c.deref.result.now.variables (sym c.if-not-is_empty.false ∙ c.is_empty.ensures) in
    let view : Rc MlType Global → O.MlType Name = λ t. type_of t.value in
    second view _ _ θ c.shared.result (c.in-Ok.ensures locals C shows)
    (second view _ _ tt c.shared.result (passes (θ.variables ≡ []) (fault E4 p) none)
    (made_so θ.body view c.shared.result _ (made_same _ θ.body view c.shared.result (ap (λ s. type_of s.body.value) c.deref-in-Ok.ensures) c.shared.ensures) (gives θ.body)))
