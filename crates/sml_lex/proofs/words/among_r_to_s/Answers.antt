use Rattle.std.proofs.Common.{rules, sym, ap, codes, arith}
use Rattle.std.proofs.lemmas.Slice.Eq.{text_from_reads}
use Rattle.sml_lex.specs.Words.{kind_among, words_r_to_s}
use Rattle.sml_lex.proofs.words.among_r_to_s.Goals as goal

pub returns-in-struct : goal.returns-in-struct
returns-in-struct c = sym (ap (λ t. kind_among t words_r_to_s) (text_from_reads c.args.text.now (codes "struct") (omega arith) (search rules)))

pub returns-in-sharing : goal.returns-in-sharing
returns-in-sharing c = sym (ap (λ t. kind_among t words_r_to_s) (text_from_reads c.args.text.now (codes "sharing") (omega arith) (search rules)))

pub returns-in-signature : goal.returns-in-signature
returns-in-signature c = sym (ap (λ t. kind_among t words_r_to_s) (text_from_reads c.args.text.now (codes "signature") (omega arith) (search rules)))

pub returns-in-structure : goal.returns-in-structure
returns-in-structure c = sym (ap (λ t. kind_among t words_r_to_s) (text_from_reads c.args.text.now (codes "structure") (omega arith) (search rules)))
