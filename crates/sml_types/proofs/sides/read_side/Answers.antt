use Rattle.std.proofs.Common.{◌≡◌, [], refl, ap, subst, sym, ◌∙◌, arith, Err}
use Rattle.std.proofs.lemmas.List.{length-map}
use Rattle.sml_tree.specs.TypeViews.{name_of, names_of, ty_of}
use Rattle.sml_tree.specs.Withtype.{replaced}
use Rattle.sml_objects.specs.Initial.{Name}
use Rattle.sml_objects.specs.Objects.{bound}
use Rattle.sml_rules.specs.Answers.{accepted}
use Rattle.sml_core_rules.specs.Datatypes.{listed}
use Rattle.sml_core_rules.specs.Types.{read_ty}
use Rattle.sml_types.specs.Answered.{IsAnswer}
use Rattle.sml_types.specs.Reads.{IfAnswered}
use Rattle.sml_types.specs.Sides.{IsMeaning, asked, numbers_after}
use Rattle.sml_types.specs.Variables.{AreListed}
use Rattle.sml_types.proofs.Readings.{numbers-none, one-meant}
use Rattle.sml_types.proofs.TyViews.{none_replaced}
use Rattle.sml_types.proofs.sides.read_side.Goals as goal
use Rattle.sml_types.proofs.sides.read_side.Goals.{in-Ok+in_ok-made_if_small-in-Ok, in-Err-Fault}

pub returns : goal.returns
returns g c = λ C tells sides own un.
    let vs = listed {N = Name} bound 0 (names_of c.args.bind.now.variables.items) in
    let ty = ty_of c.args.bind.now.ty in
    let first : AreListed c.in_ok-bound.field-0 vs = subst (λ ns. AreListed c.in_ok-bound.field-0 (listed {N = Name} bound 0 (names_of ns))) c.deref.ensures.value c.in_ok-bound.ensures in
    let says = c.written_type.ensures.stays vs first in
    let answer = c.written_type.ensures.answer C [] vs tells sides says un in
    let noted = c.written_type.ensures.noted C [] vs tells sides says un refl [] (first, c.new.ensures.empty ∙ sym (numbers-none vs [])) in
    let Noted = AreListed c.written_type.new.variables.listed vs × (c.written_type.new.variables.used.keys ≡ numbers_after vs [] (asked C vs (replaced [] ty))) in
    let size = length-map c.args.bind.now.variables.items name_of in
    record {
      arity = omega (arith, c.len.ensures, c.args.bind.now.variables.ok.0, size);
      used = c.in_ok-numbers_of.ensures ∙ elim c.match-written_type.branch [
        | in-Ok+in_ok-made_if_small-in-Ok w ↦ (subst (λ r. IfAnswered r Noted) w.in-Ok.is noted).1
        | in-Err-Fault w ↦ (subst (λ r. IfAnswered r Noted) (w.in-Err-Fault.is ∙ ap (λ k. Err k) w.in-Err-Fault.field-0-is) noted).1
      ] ∙ ap (λ t. numbers_after vs [] (asked C vs t)) (none_replaced ty);
      own = own;
      meaning = elim c.match-written_type.branch [
        | in-Ok+in_ok-made_if_small-in-Ok w ↦ subst (λ m. IsMeaning m (read_ty C vs ty)) (sym w.meaning-is)
            (ap (read_ty C vs) (sym (none_replaced ty)) ∙ subst (λ r. IsAnswer one-meant r (read_ty C vs (replaced [] ty))) w.in-Ok.is answer ∙ ap accepted (sym w.in_ok-made_if_small-in-Ok.ensures))
        | in-Err-Fault w ↦ subst (λ m. IsMeaning m (read_ty C vs ty)) (sym w.meaning-is)
            (ap (read_ty C vs) (sym (none_replaced ty)) ∙ subst (λ r. IsAnswer one-meant r (read_ty C vs (replaced [] ty))) (w.in-Err-Fault.is ∙ ap (λ k. Err k) w.in-Err-Fault.field-0-is) answer)
      ];
    }
