use Rattle.std.proofs.Common.{rules, sym, ap, codes, arith}
use Rattle.std.proofs.lemmas.Slice.Eq.{text_from_reads}
use Rattle.sml_lex.specs.Words.{kind_among, words_t_to_w}
use Rattle.sml_lex.proofs.words.among_t_to_w.Goals as goal

pub returns-in-withtype : goal.returns-in-withtype
returns-in-withtype c = sym (ap (λ t. kind_among t words_t_to_w) (text_from_reads c.args.text.now (codes "withtype") (omega arith) (search rules)))
