use Rattle.std.proofs.Common.{rules, sym, ap, codes, arith}
use Rattle.std.proofs.lemmas.Slice.Eq.{text_from_reads}
use Rattle.sml_lex.specs.Words.{kind_among, words_l_to_o}
use Rattle.sml_lex.proofs.words.among_l_to_o.Goals as goal

pub returns-in-nonfix : goal.returns-in-nonfix
returns-in-nonfix c = sym (ap (λ t. kind_among t words_l_to_o) (text_from_reads c.args.text.now (codes "nonfix") (omega arith) (search rules)))

pub returns-in-orelse : goal.returns-in-orelse
returns-in-orelse c = sym (ap (λ t. kind_among t words_l_to_o) (text_from_reads c.args.text.now (codes "orelse") (omega arith) (search rules)))
