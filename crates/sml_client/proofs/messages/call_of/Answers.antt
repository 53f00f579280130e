use Rattle.std.proofs.Common.{sym, ap, ◌∙◌}
use Rattle.std.specs.Prelude.{option_map}
use Rattle.serde_json.specs.View.{view}
use Rattle.sml_client.proofs.messages.call_of.Goals as goal

pub returns-in_default : goal.returns-in_default
returns-in_default c = c.other_call.ensures (view c.args.none.now) (sym c.get-2.ensures ∙ ap (option_map (λ v. view v.now)) c.in_default.is)
