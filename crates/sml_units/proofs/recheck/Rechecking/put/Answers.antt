use Rattle.std.proofs.Common.{◌∷◌, [], length, refl, ap, ◌∙◌}
use Rattle.std.proofs.lemmas.List.{length-append}
use Rattle.sml_units.proofs.recheck.Rechecking.put.Goals as goal

pub returns-clause-complete : goal.returns-clause-complete
returns-clause-complete c = λ complete. record {
  sources = refl;
  added = record { name = c.in_ok-name.name; replies = c.args.read.0 };
  complete = (c.in_ok-name.ensures.cases, complete);
  units = c.in_ok-push.ensures.items;
}

pub returns-clause-done : goal.returns-clause-done
returns-clause-done c = ap length c.in_ok-push-3.ensures.items ∙ length-append c.args.self.now.checked.kept.items (c.args.is_kept ∷ [])
