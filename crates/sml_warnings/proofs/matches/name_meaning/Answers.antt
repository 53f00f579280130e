use Rattle.std.proofs.Common.{if◌then◌else◌, ap, sym, ◌∙◌}
use Rattle.std.specs.Str.{bytes_eq}
use Rattle.sml_tree.specs.Views.{long_of}
use Rattle.sml_patterns.specs.Stands.{long_text}
use Rattle.sml_patterns.specs.Views.{meanings}
use Rattle.sml_warnings.specs.Meanings.{meaning_in}
use Rattle.sml_warnings.specs.Named.{is_variable, noted}
use Rattle.sml_warnings.proofs.Noted.{unnoted, is_noted}
use Rattle.sml_warnings.proofs.matches.name_meaning.Goals as goal

pub returns-then-is_variable-clause-names : goal.returns-then-is_variable-clause-names
returns-then-is_variable-clause-names c = λ C m x.
    unnoted (bytes_eq (long_text x) (long_text (long_of c.args.long.now))) (meaning_in C (long_of c.args.long.now)) (meanings c.args.names.now x)
    (ap is_variable (sym (c.in_ok-meaning.ensures C m).1) ∙ sym c.is_variable.ensures ∙ c.if-is_variable.true)

pub returns-clause-names : goal.returns-clause-names
returns-clause-names c = λ C m x.
    let b = bytes_eq (long_text x) (long_text (long_of c.args.long.now)) in
    c.in_ok-insert.ensures x ∙ is_noted b c.in_ok-meaning.meaning (meanings c.args.names.now x) (sym c.is_variable.ensures ∙ c.if-is_variable.false)
    ∙ ap (λ k. if b then noted k (meanings c.args.names.now x) else meanings c.args.names.now x) (c.in_ok-meaning.ensures C m).1
