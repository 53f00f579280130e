use Rattle.std.proofs.Common.{map, length, subst}
use Rattle.std.specs.List.{list_all}
use Rattle.sml_tree.specs.Views.{dec_of}
use Rattle.sml_objects.specs.Initial.{initial_basis}
use Rattle.sml_objects.specs.Views.{maker_of}
use Rattle.sml_units.specs.CodeUnits.{IsBegun}
use Rattle.sml_units.specs.Runs.{start, flag_at}
use Rattle.std.specs.Option.{option_map}
use Rattle.sml_lex.specs.Faults.{fault_of}
use Rattle.sml_units.proofs.Complete.{ended_to}
use Rattle.sml_units.proofs.Replying.{if_ok, both_ok}
use Rattle.sml_units.proofs.project.answer_unit.Goals as goal

pub returns-clause-replies : goal.returns-clause-replies
returns-clause-replies c = λ fs Ss ready.
    let b = c.in_ok-begun.begun in
    let begun = subst (λ ks. IsBegun (maker_of c.args.unit.now.id) (list_all (flag_at fs) ks) (start initial_basis Ss ks) (map dec_of c.args.piece.now) b) c.deref.ensures.value (c.in_ok-begun.ensures.begun fs Ss ready) in
    if_ok _ _ c.end.result (λ r h. record { beginning_is = b; begun = begun; ended = h.0; kept = h.1 }) (both_ok _ _ c.end.result c.end.ensures.replies c.end.ensures.kept)

pub returns-clause-complete : goal.returns-clause-complete
returns-clause-complete c =
    if_ok _ _ c.end.result
    (λ r h. ended_to c.in_ok-begun.begun.replies.items (length c.args.declarations.now) (option_map fault_of c.args.fault) r.0.items c.in_ok-begun.ensures.numbered h) c.end.ensures.replies
