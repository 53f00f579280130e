-- Reserved words, group by group.
use Rattle.std.proofs.Common.{◌≡◌, ℕ, List, [], ◌∷◌, ◌++◌, Bool, true, false, Some, None, refl, sym, ◌∙◌}
use Rattle.std.proofs.lemmas.Bool.{cond-true, cond-false}
use Rattle.sml_lex.specs.declared.token.Kind.{Kind}
use Rattle.sml_lex.proofs.MachineRuns.{none_is_some}
use Rattle.sml_lex.specs.Words.{is_text, kind_among, words_e_to_f, words_h_to_i, words_l_to_o, words_r_to_s, words_t_to_w, words_of_signs, words_of_marks}

pub found : (text : List ℕ) (words more : List (List ℕ × Kind)) (kind : Kind) → kind_among text words ≡ Some kind → kind_among text (words ++ more) ≡ Some kind
found text [] more kind e = absurd (none_is_some kind e)
found text (word ∷ words) more kind e = by_test (is_text text word.0) refl (λ h. found text words more kind h)
  where
    by_test : (b : Bool) → is_text text word.0 ≡ b → (kind_among text words ≡ Some kind → kind_among text (words ++ more) ≡ Some kind) → kind_among text (word ∷ (words ++ more)) ≡ Some kind
    by_test true t go = cond-true _ _ _ t ∙ sym (cond-true _ _ _ t) ∙ e
    by_test false t go = cond-false _ _ _ t ∙ go (sym (cond-false _ _ _ t) ∙ e)

pub passed : (text : List ℕ) (words more : List (List ℕ × Kind)) → kind_among text words ≡ None → kind_among text (words ++ more) ≡ kind_among text more
passed text [] more e = refl
passed text (word ∷ words) more e = by_test (is_text text word.0) refl (λ h. passed text words more h)
  where
    by_test : (b : Bool) → is_text text word.0 ≡ b → (kind_among text words ≡ None → kind_among text (words ++ more) ≡ kind_among text more) → kind_among text (word ∷ (words ++ more)) ≡ kind_among text more
    by_test true t go = absurd (none_is_some word.1 (sym e ∙ cond-true _ _ _ t))
    by_test false t go = cond-false _ _ _ t ∙ go (sym (cond-false _ _ _ t) ∙ e)

-- the words after each group
abbrev pub after_signs : List (List ℕ × Kind)
after_signs = words_of_marks

abbrev pub after_w : List (List ℕ × Kind)
after_w = words_of_signs ++ after_signs

abbrev pub after_s : List (List ℕ × Kind)
after_s = words_t_to_w ++ after_w

abbrev pub after_o : List (List ℕ × Kind)
after_o = words_r_to_s ++ after_s

abbrev pub after_i : List (List ℕ × Kind)
after_i = words_l_to_o ++ after_o

abbrev pub after_f : List (List ℕ × Kind)
after_f = words_h_to_i ++ after_i

abbrev pub after_d : List (List ℕ × Kind)
after_d = words_e_to_f ++ after_f
