-- The reserved words.
-- (The Definition of Standard ML (Revised), sections 2.1 and 3.1.)
use Rattle.std.specs.Prelude.{ℕ, List, [], ◌∷◌, ◌++◌, Bool, nat_eq, Option, Some, None, is_some, if◌then◌else◌, codes}
use Rattle.std.specs.Cmp.Lexicographic.{pointwise}
use Rattle.sml_lex.specs.declared.token.Kind.{Kind}
use Rattle.sml_lex.specs.declared.token.Kind.TheVariants.{AbstypeWord, AndWord, AndalsoWord, AsWord, CaseWord, DatatypeWord, DoWord, ElseWord, EndWord, EqtypeWord, ExceptionWord, FnWord, FunWord, FunctorWord, HandleWord, IfWord, InWord, IncludeWord, InfixWord, InfixrWord, LetWord, LocalWord, NonfixWord, OfWord, OpWord, OpenWord, OrelseWord, RaiseWord, RecWord, SharingWord, SigWord, SignatureWord, StructWord, StructureWord, ThenWord, TypeWord, ValWord, WhereWord, WhileWord, WithWord, WithtypeWord, Colon, Bar, Equals, Gives, Arrow, Hash, Seals, OpenRound, CloseRound, OpenSquare, CloseSquare, OpenCurly, CloseCurly, Comma, Semicolon, Wildcard, Dots}

abbrev pub is_text : List ℕ → List ℕ → Bool
is_text text word = pointwise nat_eq text word

-- the kind that the first word equal to the text has
abbrev pub kind_among : List ℕ → List (List ℕ × Kind) → Option Kind
kind_among text [] = None
kind_among text (word ∷ words) = if is_text text word.0 then Some word.1 else kind_among text words

abbrev pub words_a_to_d : List (List ℕ × Kind)
words_a_to_d = (codes "abstype", AbstypeWord) ∷ (codes "and", AndWord) ∷ (codes "andalso", AndalsoWord) ∷ (codes "as", AsWord) ∷ (codes "case", CaseWord) ∷ (codes "datatype", DatatypeWord) ∷ (codes "do", DoWord) ∷ []

abbrev pub words_e_to_f : List (List ℕ × Kind)
words_e_to_f = (codes "else", ElseWord) ∷ (codes "end", EndWord) ∷ (codes "eqtype", EqtypeWord) ∷ (codes "exception", ExceptionWord) ∷ (codes "fn", FnWord) ∷ (codes "fun", FunWord) ∷ (codes "functor", FunctorWord) ∷ []

abbrev pub words_h_to_i : List (List ℕ × Kind)
words_h_to_i = (codes "handle", HandleWord) ∷ (codes "if", IfWord) ∷ (codes "in", InWord) ∷ (codes "include", IncludeWord) ∷ (codes "infix", InfixWord) ∷ (codes "infixr", InfixrWord) ∷ []

abbrev pub words_l_to_o : List (List ℕ × Kind)
words_l_to_o = (codes "let", LetWord) ∷ (codes "local", LocalWord) ∷ (codes "nonfix", NonfixWord) ∷ (codes "of", OfWord) ∷ (codes "op", OpWord) ∷ (codes "open", OpenWord) ∷ (codes "orelse", OrelseWord) ∷ []

abbrev pub words_r_to_s : List (List ℕ × Kind)
words_r_to_s = (codes "raise", RaiseWord) ∷ (codes "rec", RecWord) ∷ (codes "sharing", SharingWord) ∷ (codes "sig", SigWord) ∷ (codes "signature", SignatureWord) ∷ (codes "struct", StructWord) ∷ (codes "structure", StructureWord) ∷ []

abbrev pub words_t_to_w : List (List ℕ × Kind)
words_t_to_w = (codes "then", ThenWord) ∷ (codes "type", TypeWord) ∷ (codes "val", ValWord) ∷ (codes "where", WhereWord) ∷ (codes "while", WhileWord) ∷ (codes "with", WithWord) ∷ (codes "withtype", WithtypeWord) ∷ []

abbrev pub words_of_signs : List (List ℕ × Kind)
words_of_signs = (codes ":", Colon) ∷ (codes "|", Bar) ∷ (codes "=", Equals) ∷ (codes "=>", Gives) ∷ (codes "->", Arrow) ∷ (codes "#", Hash) ∷ (codes ":>", Seals) ∷ []

abbrev pub words_of_marks : List (List ℕ × Kind)
words_of_marks = (codes "(", OpenRound) ∷ (codes ")", CloseRound) ∷ (codes "[", OpenSquare) ∷ (codes "]", CloseSquare) ∷ (codes "{", OpenCurly) ∷ (codes "}", CloseCurly) ∷ (codes ",", Comma) ∷ (codes ";", Semicolon) ∷ (codes "_", Wildcard) ∷ (codes "...", Dots) ∷ []

-- the reserved words, each with its kind
abbrev pub reserved_words : List (List ℕ × Kind)
reserved_words = words_a_to_d ++ (words_e_to_f ++ (words_h_to_i ++ (words_l_to_o ++ (words_r_to_s ++ (words_t_to_w ++ (words_of_signs ++ (words_of_marks)))))))

unfoldable pub word_kind : List ℕ → Option Kind
word_kind text = kind_among text reserved_words

abbrev pub is_reserved : List ℕ → Bool
is_reserved text = is_some (word_kind text)
