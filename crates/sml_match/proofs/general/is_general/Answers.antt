use Rattle.sml_objects.specs.Views.{type_of}
use Rattle.std.proofs.Common.{length}
use Rattle.sml_match.proofs.Making.{ground-not, over-known}
use Rattle.sml_match.proofs.general.is_general.Goals as goal
use Rattle.sml_match.proofs.general.is_general.Goals.{else-is_ground-via-then-is_ground+else-is_ground-2, else-is_ground-via-else-is_ground}

pub returns-in-Ok-clause-yes : goal.returns-in-Ok-clause-yes
returns-in-Ok-clause-yes c = λ n o.
    absurd (elim c.else-is_ground.branch [
      | else-is_ground-via-then-is_ground+else-is_ground-2 w ↦ ground-not w.is_ground-then-is_ground.result w.deref-then-is_ground.result.now c.args.specified.now.body.value w.is_ground-then-is_ground.ensures w.deref-then-is_ground.ensures n w.if-is_ground-2.false
      | else-is_ground-via-else-is_ground w ↦ ground-not c.is_ground.result c.deref.result.now c.args.scheme.now.body.value c.is_ground.ensures c.deref.ensures (over-known (length c.args.scheme.now.variables.items) (type_of c.args.scheme.now.body.value) o) w.if-is_ground.false
    ])

pub returns-in-Err-Unmet-clause-no : goal.returns-in-Err-Unmet-clause-no
returns-in-Err-Unmet-clause-no c = λ n o.
    absurd (elim c.else-is_ground.branch [
      | else-is_ground-via-then-is_ground+else-is_ground-2 w ↦ ground-not w.is_ground-then-is_ground.result w.deref-then-is_ground.result.now c.args.specified.now.body.value w.is_ground-then-is_ground.ensures w.deref-then-is_ground.ensures n w.if-is_ground-2.false
      | else-is_ground-via-else-is_ground w ↦ ground-not c.is_ground.result c.deref.result.now c.args.scheme.now.body.value c.is_ground.ensures c.deref.ensures (over-known (length c.args.scheme.now.variables.items) (type_of c.args.scheme.now.body.value) o) w.if-is_ground.false
    ])

pub returns-in-Err-Unmet-2-clause-no : goal.returns-in-Err-Unmet-2-clause-no
returns-in-Err-Unmet-2-clause-no c = λ n o.
    absurd (elim c.else-is_ground.branch [
      | else-is_ground-via-then-is_ground+else-is_ground-2 w ↦ ground-not w.is_ground-then-is_ground.result w.deref-then-is_ground.result.now c.args.specified.now.body.value w.is_ground-then-is_ground.ensures w.deref-then-is_ground.ensures n w.if-is_ground-2.false
      | else-is_ground-via-else-is_ground w ↦ ground-not c.is_ground.result c.deref.result.now c.args.scheme.now.body.value c.is_ground.ensures c.deref.ensures (over-known (length c.args.scheme.now.variables.items) (type_of c.args.scheme.now.body.value) o) w.if-is_ground.false
    ])
