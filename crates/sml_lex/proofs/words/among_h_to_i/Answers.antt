use Rattle.std.proofs.Common.{rules, sym, ap, codes, arith}
use Rattle.std.proofs.lemmas.Slice.Eq.{text_from_reads}
use Rattle.sml_lex.specs.Words.{kind_among, words_h_to_i}
use Rattle.sml_lex.proofs.words.among_h_to_i.Goals as goal

pub returns-in-handle : goal.returns-in-handle
returns-in-handle c = sym (ap (λ t. kind_among t words_h_to_i) (text_from_reads c.args.text.now (codes "handle") (omega arith) (search rules)))

pub returns-in-infixr : goal.returns-in-infixr
returns-in-infixr c = sym (ap (λ t. kind_among t words_h_to_i) (text_from_reads c.args.text.now (codes "infixr") (omega arith) (search rules)))

pub returns-in-include : goal.returns-in-include
returns-in-include c = sym (ap (λ t. kind_among t words_h_to_i) (text_from_reads c.args.text.now (codes "include") (omega arith) (search rules)))
