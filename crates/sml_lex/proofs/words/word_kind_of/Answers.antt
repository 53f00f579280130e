use Rattle.std.proofs.Common.{sym, ◌∙◌}
use Rattle.sml_lex.specs.Words.{word_kind, words_a_to_d, words_e_to_f, words_h_to_i, words_l_to_o, words_r_to_s, words_t_to_w, words_of_signs}
use Rattle.sml_lex.proofs.ReservedWords.{found, passed, after_d, after_f, after_i, after_o, after_s, after_w, after_signs}
use Rattle.sml_lex.proofs.words.word_kind_of.Goals as goal

pub returns-in-Some : goal.returns-in-Some
unfolding word_kind
returns-in-Some c = sym (found c.args.text.now words_a_to_d after_d _ (sym c.among_a_to_d.ensures ∙ c.in-Some.is))

pub returns-in-Some-among_e_to_f : goal.returns-in-Some-among_e_to_f
unfolding word_kind
returns-in-Some-among_e_to_f c = sym (passed c.args.text.now words_a_to_d after_d (sym c.among_a_to_d.ensures ∙ c.in_default.is) ∙ found c.args.text.now words_e_to_f after_f _ (sym c.among_e_to_f.ensures ∙ c.in-Some-among_e_to_f.is))

pub returns-in-Some-among_h_to_i : goal.returns-in-Some-among_h_to_i
unfolding word_kind
returns-in-Some-among_h_to_i c = sym (passed c.args.text.now words_a_to_d after_d (sym c.among_a_to_d.ensures ∙ c.in_default.is) ∙ passed c.args.text.now words_e_to_f after_f (sym c.among_e_to_f.ensures ∙ c.in_default-among_e_to_f.is) ∙ found c.args.text.now words_h_to_i after_i _ (sym c.among_h_to_i.ensures ∙ c.in-Some-among_h_to_i.is))

pub returns-in-Some-among_l_to_o : goal.returns-in-Some-among_l_to_o
unfolding word_kind
returns-in-Some-among_l_to_o c = sym (passed c.args.text.now words_a_to_d after_d (sym c.among_a_to_d.ensures ∙ c.in_default.is) ∙ passed c.args.text.now words_e_to_f after_f (sym c.among_e_to_f.ensures ∙ c.in_default-among_e_to_f.is) ∙ passed c.args.text.now words_h_to_i after_i (sym c.among_h_to_i.ensures ∙ c.in_default-among_h_to_i.is) ∙ found c.args.text.now words_l_to_o after_o _ (sym c.among_l_to_o.ensures ∙ c.in-Some-among_l_to_o.is))

pub returns-in-Some-among_r_to_s : goal.returns-in-Some-among_r_to_s
unfolding word_kind
returns-in-Some-among_r_to_s c = sym (passed c.args.text.now words_a_to_d after_d (sym c.among_a_to_d.ensures ∙ c.in_default.is) ∙ passed c.args.text.now words_e_to_f after_f (sym c.among_e_to_f.ensures ∙ c.in_default-among_e_to_f.is) ∙ passed c.args.text.now words_h_to_i after_i (sym c.among_h_to_i.ensures ∙ c.in_default-among_h_to_i.is) ∙ passed c.args.text.now words_l_to_o after_o (sym c.among_l_to_o.ensures ∙ c.in_default-among_l_to_o.is) ∙ found c.args.text.now words_r_to_s after_s _ (sym c.among_r_to_s.ensures ∙ c.in-Some-among_r_to_s.is))

pub returns-in-Some-among_t_to_w : goal.returns-in-Some-among_t_to_w
unfolding word_kind
returns-in-Some-among_t_to_w c = sym (passed c.args.text.now words_a_to_d after_d (sym c.among_a_to_d.ensures ∙ c.in_default.is) ∙ passed c.args.text.now words_e_to_f after_f (sym c.among_e_to_f.ensures ∙ c.in_default-among_e_to_f.is) ∙ passed c.args.text.now words_h_to_i after_i (sym c.among_h_to_i.ensures ∙ c.in_default-among_h_to_i.is) ∙ passed c.args.text.now words_l_to_o after_o (sym c.among_l_to_o.ensures ∙ c.in_default-among_l_to_o.is) ∙ passed c.args.text.now words_r_to_s after_s (sym c.among_r_to_s.ensures ∙ c.in_default-among_r_to_s.is) ∙ found c.args.text.now words_t_to_w after_w _ (sym c.among_t_to_w.ensures ∙ c.in-Some-among_t_to_w.is))

pub returns-in-Some-among_of_signs : goal.returns-in-Some-among_of_signs
unfolding word_kind
returns-in-Some-among_of_signs c = sym (passed c.args.text.now words_a_to_d after_d (sym c.among_a_to_d.ensures ∙ c.in_default.is) ∙ passed c.args.text.now words_e_to_f after_f (sym c.among_e_to_f.ensures ∙ c.in_default-among_e_to_f.is) ∙ passed c.args.text.now words_h_to_i after_i (sym c.among_h_to_i.ensures ∙ c.in_default-among_h_to_i.is) ∙ passed c.args.text.now words_l_to_o after_o (sym c.among_l_to_o.ensures ∙ c.in_default-among_l_to_o.is) ∙ passed c.args.text.now words_r_to_s after_s (sym c.among_r_to_s.ensures ∙ c.in_default-among_r_to_s.is) ∙ passed c.args.text.now words_t_to_w after_w (sym c.among_t_to_w.ensures ∙ c.in_default-among_t_to_w.is) ∙ found c.args.text.now words_of_signs after_signs _ (sym c.among_of_signs.ensures ∙ c.in-Some-among_of_signs.is))

pub returns : goal.returns
unfolding word_kind
returns c = c.among_of_marks.ensures ∙ sym (passed c.args.text.now words_a_to_d after_d (sym c.among_a_to_d.ensures ∙ c.in_default.is) ∙ passed c.args.text.now words_e_to_f after_f (sym c.among_e_to_f.ensures ∙ c.in_default-among_e_to_f.is) ∙ passed c.args.text.now words_h_to_i after_i (sym c.among_h_to_i.ensures ∙ c.in_default-among_h_to_i.is) ∙ passed c.args.text.now words_l_to_o after_o (sym c.among_l_to_o.ensures ∙ c.in_default-among_l_to_o.is) ∙ passed c.args.text.now words_r_to_s after_s (sym c.among_r_to_s.ensures ∙ c.in_default-among_r_to_s.is) ∙ passed c.args.text.now words_t_to_w after_w (sym c.among_t_to_w.ensures ∙ c.in_default-among_t_to_w.is) ∙ passed c.args.text.now words_of_signs after_signs (sym c.among_of_signs.ensures ∙ c.in_default-among_of_signs.is))
