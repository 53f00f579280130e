use Rattle.std.proofs.Common.{rules, sym, ap, codes, arith}
use Rattle.std.proofs.lemmas.Slice.Eq.{text_from_reads}
use Rattle.sml_lex.specs.Words.{kind_among, words_e_to_f}
use Rattle.sml_lex.proofs.words.among_e_to_f.Goals as goal

pub returns-in-eqtype : goal.returns-in-eqtype
returns-in-eqtype c = sym (ap (λ t. kind_among t words_e_to_f) (text_from_reads c.args.text.now (codes "eqtype") (omega arith) (search rules)))

pub returns-in-functor : goal.returns-in-functor
returns-in-functor c = sym (ap (λ t. kind_among t words_e_to_f) (text_from_reads c.args.text.now (codes "functor") (omega arith) (search rules)))

pub returns-in-exception : goal.returns-in-exception
returns-in-exception c = sym (ap (λ t. kind_among t words_e_to_f) (text_from_reads c.args.text.now (codes "exception") (omega arith) (search rules)))
