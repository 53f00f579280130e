use Rattle.std.proofs.Common.{sym, ap, ◌∙◌}
use Rattle.sml_lex.proofs.StringItems.{six_bytes, hexadecimal_found, hexadecimal_large}
use Rattle.sml_lex.proofs.items.hexadecimal.Goals as goal

pub returns-in-Some : goal.returns-in-Some
returns-in-Some c = ap six_bytes c.in-Some.ensures.0 ∙ sym (hexadecimal_found c.args.text.now c.if-text-lt4.false (sym c.are_hex_digits.ensures ∙ c.if-not-are_hex_digits.false) c.in-Some.ensures.1)

pub returns-in-None : goal.returns-in-None
returns-in-None c = sym (hexadecimal_large c.args.text.now c.if-text-lt4.false c.in-None.ensures)
