-- What was noted of the identifiers of patterns is what they mean.
use Rattle.std.proofs.Common.{◌≡◌, ℕ, ◌+◌, Bool, true, false, if◌then◌else◌, List, [], ◌∷◌, ◌++◌, ◌⊎◌, inl, inr, refl, ap, sym, subst, ◌∙◌, rules}
use Rattle.std.specs.List.{AllByRecursion}
use Rattle.std.specs.Str.{bytes_eq}
use Rattle.sml_lex.specs.declared.fault.Place.{Place}
use Rattle.sml_tree.specs.Trees.{LongId}
use Rattle.sml_tree.specs.Patterns.{Pat, Pats, PatFields, wildcard, pat_constant, pat_name, pat_row, pat_tuple, pat_bracket, pat_apply, pat_typed, pat_as, no_pat, and_pat, pat_field, no_pat_field, and_pat_field}
use Rattle.sml_narrowing.specs.Plain.{Plain, Wild, Row}
use Rattle.sml_patterns.specs.declared.names.Meaning.{Meaning}
use Rattle.sml_patterns.specs.declared.names.Meaning.TheVariants as M
use Rattle.sml_patterns.specs.Warnings.{Rule, MakeRules}
use Rattle.sml_patterns.specs.Stands.{applied, long_text, StandsFor, TupleStandsFor, FieldsStandFor}
use Rattle.sml_warnings.specs.Named.{is_variable, noted, after_name, after_pat, after_pats, after_fields, after_patterns, names_in, names_in_all, names_in_fields, names_in_patterns, TextTells, TextsTell}

abbrev Among : LongId → List LongId → Type 0
Among x [] = ⊥
Among x (y ∷ ys) = (x ≡ y) ⊎ Among x ys

all_from : (P : LongId → Type 0) (ys : List LongId) → ((x : LongId) → Among x ys → P x) → AllByRecursion P ys
all_from P [] f = tt
all_from P (y ∷ ys) f = (f y (inl refl), all_from P ys (λ x i. f x (inr i)))

at_one : (P : LongId → Type 0) (ys : List LongId) (x : LongId) → AllByRecursion P ys → Among x ys → P x
at_one P [] x h i = absurd i
at_one P (y ∷ ys) x h (inl e) = subst P (sym e) h.0
at_one P (y ∷ ys) x h (inr i) = at_one P ys x h.1 i

all_left : (P : LongId → Type 0) (xs ys : List LongId) → AllByRecursion P (xs ++ ys) → AllByRecursion P xs
all_left P [] ys h = tt
all_left P (x ∷ xs) ys h = (h.0, all_left P xs ys h.1)

all_right : (P : LongId → Type 0) (xs ys : List LongId) → AllByRecursion P (xs ++ ys) → AllByRecursion P ys
all_right P [] ys h = h
all_right P (x ∷ xs) ys h = all_right P xs ys h.1

noted_new : (m : Meaning) → noted m M.Variable ≡ m
noted_new M.Variable = refl
noted_new M.Exception = refl
noted_new (M.Constructor k n) = refl

noted_same : (m : Meaning) → noted m m ≡ m
noted_same M.Variable = refl
noted_same M.Exception = refl
noted_same (M.Constructor k n) = refl

pub unnoted : (b : Bool) (m o : Meaning) → is_variable m ≡ true → o ≡ (if b then noted m o else o)
unnoted true M.Variable o e = refl
unnoted true M.Exception o e = cc
unnoted true (M.Constructor k n) o e = cc
unnoted false m o e = refl

pub is_noted : (b : Bool) (m o : Meaning) → is_variable m ≡ false → (if b then m else o) ≡ (if b then noted m o else o)
is_noted true M.Variable o e = cc
is_noted true M.Exception o e = refl
is_noted true (M.Constructor k n) o e = refl
is_noted false m o e = refl

text_same : (xs : List ℕ) → bytes_eq xs xs ≡ true
text_same xs = search rules

module _ (N : LongId → Meaning) where
  after_all : List LongId → LongId → Meaning → Meaning
  after_all [] x m = m
  after_all (y ∷ ys) x m = after_all ys x (after_name N y x m)

  after_append : (xs ys : List LongId) (x : LongId) (m : Meaning) → after_all (xs ++ ys) x m ≡ after_all ys x (after_all xs x m)
  unfolding after_all
  after_append [] ys x m = refl
  after_append (y ∷ xs) ys x m = after_append xs ys x (after_name N y x m)

  mutual
    unfolding after_all after_pat after_pats after_fields names_in names_in_all names_in_fields

    pat_after : (p : Pat Place) (x : LongId) (m : Meaning) → after_pat N p x m ≡ after_all (names_in p) x m
    pat_after (wildcard place) x m = refl
    pat_after (pat_constant place c) x m = refl
    pat_after (pat_name place y) x m = refl
    pat_after (pat_row place fs flexible) x m = fields_after fs x m
    pat_after (pat_tuple place qs) x m = pats_after qs x m
    pat_after (pat_bracket place p) x m = pat_after p x m
    pat_after (pat_apply place y p) x m = pat_after p x (after_name N y.id x m)
    pat_after (pat_typed place p ty) x m = pat_after p x m
    pat_after (pat_as place y ty p) x m = pat_after p x m

    pats_after : (ps : Pats Place) (x : LongId) (m : Meaning) → after_pats N ps x m ≡ after_all (names_in_all ps) x m
    pats_after no_pat x m = refl
    pats_after (and_pat p ps) x m =
        pats_after ps x (after_pat N p x m) ∙ ap (after_all (names_in_all ps) x) (pat_after p x m) ∙ sym (after_append (names_in p) (names_in_all ps) x m)

    fields_after : (fs : PatFields Place) (x : LongId) (m : Meaning) → after_fields N fs x m ≡ after_all (names_in_fields fs) x m
    fields_after no_pat_field x m = refl
    fields_after (and_pat_field (pat_field l p) fs) x m =
        fields_after fs x (after_pat N p x m) ∙ ap (after_all (names_in_fields fs) x) (pat_after p x m) ∙ sym (after_append (names_in p) (names_in_fields fs) x m)

  kept_if : (b : Bool) (n m t : Meaning) → (b ≡ true → n ≡ t) → m ≡ t → (if b then noted n m else m) ≡ t
  kept_if true n m t h e = ap (λ k. noted k m) (h refl) ∙ ap (noted t) e ∙ noted_same t
  kept_if false n m t h e = e

  stays : (ys : List LongId) (x : LongId) (m : Meaning) → TextTells N ys x → m ≡ N x → after_all ys x m ≡ N x
  unfolding after_all
  stays [] x m h e = e
  stays (y ∷ ys) x m h e = stays ys x (after_name N y x m) h.1 (kept_if (bytes_eq (long_text x) (long_text y)) (N y) m (N x) h.0 e)

  new_if : (b : Bool) (n m t : Meaning) → (b ≡ true → n ≡ t) → m ≡ M.Variable → ((if b then noted n m else m) ≡ M.Variable) ⊎ ((if b then noted n m else m) ≡ t)
  new_if true n m t h e = inr (ap (noted n) e ∙ noted_new n ∙ h refl)
  new_if false n m t h e = inl e

  found : (ys : List LongId) (x : LongId) (m : Meaning) → TextTells N ys x → m ≡ M.Variable → Among x ys → after_all ys x m ≡ N x
  unfolding after_all
  found [] x m h e i = absurd i
  found (y ∷ ys) x m h e (inl i) =
      stays ys x (after_name N y x m) h.1
      (subst (λ z. after_name N z x m ≡ N x) i (ap (λ b. if b then noted (N x) m else m) (text_same (long_text x)) ∙ ap (noted (N x)) e ∙ noted_new (N x)))
  found (y ∷ ys) x m h e (inr i) =
      elim (new_if (bytes_eq (long_text x) (long_text y)) (N y) m (N x) h.0 e) [
        | inl k ↦ found ys x (after_name N y x m) h.1 k i
        | inr k ↦ stays ys x (after_name N y x m) h.1 k
      ]

  patterns_after : (ps : List (Place × Pat Place)) (x : LongId) (m : Meaning) → after_patterns N ps x m ≡ after_all (names_in_patterns ps) x m
  unfolding after_all
  patterns_after [] x m = refl
  patterns_after (p ∷ ps) x m =
      patterns_after ps x (after_pat N p.1 x m) ∙ ap (after_all (names_in_patterns ps) x) (pat_after p.1 x m) ∙ sym (after_append (names_in p.1) (names_in_patterns ps) x m)

  -- each identifier has its meaning once all were noted
  pub all_noted : (ps : List (Place × Pat Place)) (K : LongId → Meaning) → ((x : LongId) → K x ≡ after_patterns N ps x M.Variable) → TextsTell N (names_in_patterns ps) → AllByRecursion (λ x. K x ≡ N x) (names_in_patterns ps)
  all_noted ps K e h =
      all_from (λ x. K x ≡ N x) (names_in_patterns ps)
      (λ x i. e x ∙ patterns_after ps x M.Variable ∙ found (names_in_patterns ps) x M.Variable (at_one (TextTells N (names_in_patterns ps)) (names_in_patterns ps) x h i) refl i)

  module _ (K : LongId → Meaning) where
    abbrev Same : List LongId → Type 0
    Same xs = AllByRecursion (λ x. K x ≡ N x) xs

    mutual
      unfolding names_in names_in_all names_in_fields

      -- a pattern stands for the same where its identifiers mean the same
      pub same_plain : (p : Pat Place) (q : Plain) → Same (names_in p) → StandsFor N p q → StandsFor K p q
      same_plain (wildcard place) q e h = h
      same_plain (pat_constant place c) q e h = h
      same_plain (pat_name place x) q e h = h ∙ ap (λ m. applied m (long_text x.id) Wild) (sym e.0)
      same_plain (pat_row place fs flexible) q e h = (h.0, same_fields fs h.0 e h.1, h.2)
      same_plain (pat_tuple place qs) q e h = (h.0, same_tuple 1 qs h.0 e h.1, h.2)
      same_plain (pat_bracket place p) q e h = same_plain p q e h
      same_plain (pat_apply place x p) q e h = (h.0, same_plain p h.0 e.1 h.1, h.2 ∙ ap (λ m. applied m (long_text x.id) h.0) (sym e.0))
      same_plain (pat_typed place p ty) q e h = same_plain p q e h
      same_plain (pat_as place x ty p) q e h = same_plain p q e h

      same_tuple : (k : ℕ) (ps : Pats Place) (r : Row) → Same (names_in_all ps) → TupleStandsFor N k ps r → TupleStandsFor K k ps r
      same_tuple k no_pat r e h = h
      same_tuple k (and_pat p ps) r e h =
          (h.0, h.1, same_plain p h.0 (all_left (λ x. K x ≡ N x) (names_in p) (names_in_all ps) e) h.2, same_tuple (k + 1) ps h.1 (all_right (λ x. K x ≡ N x) (names_in p) (names_in_all ps) e) h.3, h.4)

      same_fields : (fs : PatFields Place) (r : Row) → Same (names_in_fields fs) → FieldsStandFor N fs r → FieldsStandFor K fs r
      same_fields no_pat_field r e h = h
      same_fields (and_pat_field (pat_field l p) fs) r e h =
          let u = h.2 in
          (h.0, same_fields fs h.0 (all_right (λ x. K x ≡ N x) (names_in p) (names_in_fields fs) e) h.1, (u.0, same_plain p u.0 (all_left (λ x. K x ≡ N x) (names_in p) (names_in_fields fs) e) u.1, u.2))

    pub same_rules : (ps : List (Place × Pat Place)) (rules : List Rule) → Same (names_in_patterns ps) → MakeRules N ps rules → MakeRules K ps rules
    same_rules [] [] e m = m
    same_rules [] (r ∷ rs) e m = absurd m
    same_rules (p ∷ ps) [] e m = absurd m
    same_rules (p ∷ ps) (r ∷ rs) e m =
        (m.0, same_plain p.1 r.plain (all_left (λ x. K x ≡ N x) (names_in p.1) (names_in_patterns ps) e) m.1, same_rules ps rs (all_right (λ x. K x ≡ N x) (names_in p.1) (names_in_patterns ps) e) m.2)
