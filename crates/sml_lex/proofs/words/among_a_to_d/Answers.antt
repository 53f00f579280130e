use Rattle.std.proofs.Common.{rules, sym, ap, codes, arith}
use Rattle.std.proofs.lemmas.Slice.Eq.{text_from_reads}
use Rattle.sml_lex.specs.Words.{kind_among, words_a_to_d}
use Rattle.sml_lex.proofs.words.among_a_to_d.Goals as goal

pub returns-in-abstype : goal.returns-in-abstype
returns-in-abstype c = sym (ap (λ t. kind_among t words_a_to_d) (text_from_reads c.args.text.now (codes "abstype") (omega arith) (search rules)))

pub returns-in-andalso : goal.returns-in-andalso
returns-in-andalso c = sym (ap (λ t. kind_among t words_a_to_d) (text_from_reads c.args.text.now (codes "andalso") (omega arith) (search rules)))

pub returns-in-datatype : goal.returns-in-datatype
returns-in-datatype c = sym (ap (λ t. kind_among t words_a_to_d) (text_from_reads c.args.text.now (codes "datatype") (omega arith) (search rules)))
