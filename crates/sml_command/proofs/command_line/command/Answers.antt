use Rattle.std.proofs.Common.{ap, ◌∙◌}
use Rattle.clap.specs.Simple.{app_of_fields}
use Rattle.sml_command.proofs.Commands.{added, all_added}
use Rattle.sml_command.proofs.command_line.command.Goals as goal

pub returns : goal.returns
returns c =
    let named = ap app_of_fields c.after_help.ensures ∙ ap app_of_fields c.about.ensures ∙ c.new.ensures.app in
    let one = added c.after_help.result c.warnings_switch.result c.in_ok-arg.field-0 _ _ c.in_ok-arg.ensures named c.warnings_switch.ensures.rule c.warnings_switch.ensures.local in
    let two = added c.in_ok-arg.field-0 c.reply_switch.result c.in_ok-arg-2.field-0 _ _ c.in_ok-arg-2.ensures one c.reply_switch.ensures.rule.2 c.reply_switch.ensures.local in
    let three = added c.in_ok-arg-2.field-0 c.then_switch.result c.in_ok-arg-3.field-0 _ _ c.in_ok-arg-3.ensures two c.then_switch.ensures.rule c.then_switch.ensures.local in
    all_added c.in_ok-arg-3.field-0 c.project_word.result c.arg-4.result c.reply_switch.ensures.rule.0 c.reply_switch.ensures.rule.1 three c.project_word.ensures.rule c.project_word.ensures.local c.arg-4.ensures
