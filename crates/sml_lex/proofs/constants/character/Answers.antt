use Rattle.std.proofs.Common.{sym, ◌∙◌, subst}
use Rattle.sml_lex.specs.Strings.{IsBroken}
use Rattle.sml_lex.specs.CodeStrings.{IsQuoted}
use Rattle.sml_lex.proofs.ConstantValues.{character_starts_not, character_whole, character_longer, character_other, character_broken}
use Rattle.sml_lex.proofs.constants.character.Goals as goal

pub returns-then-not-starts_with_both : goal.returns-then-not-starts_with_both
returns-then-not-starts_with_both c = character_starts_not c.args.text.now (sym c.starts_with_both.ensures ∙ c.if-not-starts_with_both.true)

pub returns-then-extent-text : goal.returns-then-extent-text
returns-then-extent-text c = character_whole c.args.text.now c.in-Ok.extent (sym c.starts_with_both.ensures ∙ c.if-not-starts_with_both.false) (subst (λ t. IsQuoted t c.in-Ok.extent) c.after.ensures c.in-Ok.ensures) c.if-extent-eq1.true c.if-extent-text.true

pub returns-else-extent-text : goal.returns-else-extent-text
returns-else-extent-text c = character_longer c.args.text.now c.in-Ok.extent (sym c.starts_with_both.ensures ∙ c.if-not-starts_with_both.false) (subst (λ t. IsQuoted t c.in-Ok.extent) c.after.ensures c.in-Ok.ensures) c.if-extent-text.false

pub returns-else-extent-eq1 : goal.returns-else-extent-eq1
returns-else-extent-eq1 c = character_other c.args.text.now c.in-Ok.extent (subst (λ t. IsQuoted t c.in-Ok.extent) c.after.ensures c.in-Ok.ensures) c.if-extent-eq1.false

pub returns-in-Err : goal.returns-in-Err
returns-in-Err c = character_broken c.args.text.now c.in-Err.field-0 (subst (λ t. IsBroken t c.in-Err.field-0) c.after.ensures c.in-Err.ensures)
