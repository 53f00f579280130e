use Rattle.std.proofs.Common.{◌≡◌, ◌++◌, ◌∷◌, [], Some, Global, ap, subst, sym, ◌∙◌}
use Rattle.std.specs.declared.rc.Rc.{Rc}
use Rattle.sml_tree.specs.Views.{ident_of}
use Rattle.sml_objects.specs.declared.objects.MlType.{MlType}
use Rattle.sml_objects.specs.Maps.{lookup}
use Rattle.sml_objects.specs.Views.{type_of}
use Rattle.sml_types.specs.Sides.{bound_number, numbers_after, with_number}
use Rattle.sml_types.specs.Variables.{AreListed}
use Rattle.sml_types.specs.declared.sides.Noted.{Noted}
use Rattle.sml_types.proofs.Readings.{none-noted, noted-through, number-put, numbers-next, stands-for}
use Rattle.sml_types.proofs.sides.NotedTypeVariables.variable.Goals as goal
use Rattle.sml_types.proofs.sides.NotedTypeVariables.variable.Goals.{in-Some+in_ok-insert, in_default}

pub returns-in_err-ty-clause-noted : goal.returns-in_err-ty-clause-noted
returns-in_err-ty-clause-noted c = λ vs xs h.
    noted-through (Rc MlType Global) c.from_residual.result c.in_err-ty.field-0.0 _ _ c.from_residual.ensures.1
    (none-noted vs xs (ident_of c.args.name.now) c.args.place c.args.self.now.used.keys c.in_err-ty.field-0.0 h.1 (c.in_err-ty.ensures vs h.0)) (λ e. (h.0, e))

pub returns-clause-noted : goal.returns-clause-noted
returns-clause-noted c = λ vs xs h.
    let x = ident_of c.args.name.now in
    let seen : bound_number (lookup x vs) ≡ c.bound_number.result =
    ap bound_number (stands-for c.args.place (lookup x vs) (type_of c.in_ok-ty.ty.value) (c.in_ok-ty.ensures vs h.0))
    ∙ ap (λ t. bound_number (Some (type_of t))) (sym c.deref.ensures) ∙ sym c.bound_number.ensures in
    let next : numbers_after vs [] (xs ++ x ∷ []) ≡ with_number (numbers_after vs [] xs) c.bound_number.result =
    numbers-next vs [] xs x ∙ ap (with_number (numbers_after vs [] xs)) seen in
    elim c.match-bound_number.branch [
      | in-Some+in_ok-insert w ↦ subst (λ (n : Noted). AreListed n.listed vs × (n.used.keys ≡ numbers_after vs [] (xs ++ x ∷ []))) (sym w.self-is)
          (h.0, w.in_ok-insert.ensures.keys ∙ number-put w.in-Some.number c.args.self.now.used.keys ∙ (λ i. with_number (h.1 i) (sym w.in-Some.is i)) ∙ sym next)
      | in_default w ↦ subst (λ (n : Noted). AreListed n.listed vs × (n.used.keys ≡ numbers_after vs [] (xs ++ x ∷ []))) (sym w.self-is)
          (h.0, h.1 ∙ sym (next ∙ ap (with_number (numbers_after vs [] xs)) w.in_default.is))
    ]
