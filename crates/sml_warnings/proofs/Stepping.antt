-- One pattern more, of patterns that stand in a row or a tuple.
use Rattle.std.proofs.Common.{◌≡◌, ℕ, ◌+◌, ◌<◌, ◌≤◌, Bool, true, false, ◌&&◌, List, ◌∷◌, map, length, drop, get_or, ap, sym, ◌∙◌}
use Rattle.std.proofs.lemmas.List.{at_drop_more, at_drop_all}
use Rattle.sml_lex.specs.declared.fault.Place.{Place}
use Rattle.sml_tree.specs.Trees.{LongId}
use Rattle.sml_tree.specs.Patterns as T
use Rattle.sml_tree.specs.PatternViews.{pat_of, pats_of, pat_layer, pat_field_of, pat_fields_of, pat_field_layer}
use Rattle.sml_tree.specs.declared.patterns.Pat.{Pat}
use Rattle.sml_tree.specs.declared.patterns.PatField.{PatField, out-PatField, fold_out-PatField}
use Rattle.sml_patterns.specs.declared.names.Meaning.{Meaning}
use Rattle.sml_warnings.specs.Named.{is_everything, are_everything, are_fields_everything, after_pat, after_pats, after_fields}

module _ (N : LongId → Meaning) where
  abbrev pub all_of : List Pat → Bool
  all_of qs = are_everything N (pats_of (map pat_of qs))

  abbrev pub fields_of : List PatField → Bool
  fields_of xs = are_fields_everything N (pat_fields_of (map pat_field_of xs))

  pat-at : (qs : List Pat) (i : ℕ) (q : Pat) (b : Bool) → i < length qs → q ≡ get_or qs i q → is_everything N (pat_of q) ≡ b → all_of (drop i qs) ≡ (b && all_of (drop (i + 1) qs))
  unfolding are_everything
  pat-at qs i q b lt is t =
      at_drop_more all_of qs i q lt ∙ ap (λ u. all_of (u ∷ drop (i + 1) qs)) (sym is) ∙ ap (λ c. c && all_of (drop (i + 1) qs)) t

  pub pat_more : (qs : List Pat) (i : ℕ) (q : Pat) → i < length qs → q ≡ get_or qs i q → is_everything N (pat_of q) ≡ true → all_of qs ≡ all_of (drop i qs) → all_of qs ≡ all_of (drop (i + 1) qs)
  pat_more qs i q lt is t h = h ∙ pat-at qs i q true lt is t

  pub pats_end : (qs : List Pat) (i : ℕ) → length qs ≤ i → all_of qs ≡ all_of (drop i qs) → true ≡ all_of qs
  unfolding are_everything
  pats_end qs i le h = sym (h ∙ at_drop_all all_of qs i le)

  field-first : (x : PatField) (xs : List PatField) (b : Bool) → is_everything N (pat_of (out-PatField x).pat) ≡ b → fields_of (x ∷ xs) ≡ (b && fields_of xs)
  unfolding are_fields_everything
  field-first x xs b t =
      ap (λ f. are_fields_everything N (T.and_pat_field f (pat_fields_of (map pat_field_of xs)))) (fold_out-PatField (T.Pat Place) (T.PatField Place) pat_layer pat_field_layer x) ∙ ap (λ c. c && fields_of xs) t

  field-at : (xs : List PatField) (i : ℕ) (x : PatField) (b : Bool) → i < length xs → x ≡ get_or xs i x → is_everything N (pat_of (out-PatField x).pat) ≡ b → fields_of (drop i xs) ≡ (b && fields_of (drop (i + 1) xs))
  field-at xs i x b lt is t =
      at_drop_more fields_of xs i x lt ∙ ap (λ u. fields_of (u ∷ drop (i + 1) xs)) (sym is) ∙ field-first x (drop (i + 1) xs) b t

  pub field_more : (xs : List PatField) (i : ℕ) (x : PatField) → i < length xs → x ≡ get_or xs i x → is_everything N (pat_of (out-PatField x).pat) ≡ true → fields_of xs ≡ fields_of (drop i xs) → fields_of xs ≡ fields_of (drop (i + 1) xs)
  field_more xs i x lt is t h = h ∙ field-at xs i x true lt is t

  pub fields_end : (xs : List PatField) (i : ℕ) → length xs ≤ i → fields_of xs ≡ fields_of (drop i xs) → true ≡ fields_of xs
  unfolding are_fields_everything
  fields_end xs i le h = sym (h ∙ at_drop_all fields_of xs i le)

  -- the same of what was noted
  module _ (x : LongId) where
    abbrev pub left : List Pat → Meaning → Meaning
    left qs m = after_pats N (pats_of (map pat_of qs)) x m

    abbrev pub fields_left : List PatField → Meaning → Meaning
    fields_left fs m = after_fields N (pat_fields_of (map pat_field_of fs)) x m

    pub noted_pat : (qs : List Pat) (i : ℕ) (q : Pat) (old new m : Meaning) → i < length qs → q ≡ get_or qs i q → new ≡ after_pat N (pat_of q) x old → left (drop i qs) old ≡ m → left (drop (i + 1) qs) new ≡ m
    unfolding after_pats
    noted_pat qs i q old new m lt is e h =
        ap (left (drop (i + 1) qs)) e ∙ ap (λ u. left (u ∷ drop (i + 1) qs) old) is ∙ sym (at_drop_more (λ ps. left ps old) qs i q lt) ∙ h

    pub noted_pats : (qs : List Pat) (i : ℕ) (old m : Meaning) → length qs ≤ i → left (drop i qs) old ≡ m → old ≡ m
    unfolding after_pats
    noted_pats qs i old m le h = sym (at_drop_all (λ ps. left ps old) qs i le) ∙ h

    noted-first : (f : PatField) (fs : List PatField) (old : Meaning) → fields_left (f ∷ fs) old ≡ fields_left fs (after_pat N (pat_of (out-PatField f).pat) x old)
    unfolding after_fields
    noted-first f fs old =
        ap (λ u. after_fields N (T.and_pat_field u (pat_fields_of (map pat_field_of fs))) x old) (fold_out-PatField (T.Pat Place) (T.PatField Place) pat_layer pat_field_layer f)

    pub noted_field : (fs : List PatField) (i : ℕ) (f : PatField) (old new m : Meaning) → i < length fs → f ≡ get_or fs i f → new ≡ after_pat N (pat_of (out-PatField f).pat) x old → fields_left (drop i fs) old ≡ m → fields_left (drop (i + 1) fs) new ≡ m
    noted_field fs i f old new m lt is e h =
        ap (fields_left (drop (i + 1) fs)) e ∙ sym (noted-first f (drop (i + 1) fs) old) ∙ ap (λ u. fields_left (u ∷ drop (i + 1) fs) old) is ∙ sym (at_drop_more (λ gs. fields_left gs old) fs i f lt) ∙ h

    pub noted_fields : (fs : List PatField) (i : ℕ) (old m : Meaning) → length fs ≤ i → fields_left (drop i fs) old ≡ m → old ≡ m
    unfolding after_fields
    noted_fields fs i old m le h = sym (at_drop_all (λ gs. fields_left gs old) fs i le) ∙ h
