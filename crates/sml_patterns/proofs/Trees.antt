-- From patterns of trees to plain ones, form by form.
use Rattle.std.proofs.Common.{◌≡◌, ℕ, suc, ◌+◌, ◌<◌, ◌≤◌, List, [], ◌∷◌, ◌++◌, map, length, drop, get_or, decimal, Bool, append_assoc, Result, Ok, Err, refl, ap, sym, subst, ◌∙◌, arith}
use Rattle.std.specs.Prelude.{Vec, Box, IfOk}
use Rattle.std.specs.Global.{Global}
use Rattle.std.proofs.lemmas.List.{map-append, length-map, drop_all, drop_more}
use Rattle.sml_lex.specs.declared.fault.Place.{Place}
use Rattle.sml_tree.specs.Trees.{Id, LongId}
use Rattle.sml_tree.specs.Patterns as T
use Rattle.sml_tree.specs.Views.{ident_of, long_of}
use Rattle.sml_tree.specs.TypeViews.{long_name_of}
use Rattle.sml_tree.specs.PatternViews.{pat_of, pats_of, pat_layer, pat_field_of, pat_fields_of, pat_field_layer}
use Rattle.sml_tree.specs.declared.bare.LongIdent.{LongIdent}
use Rattle.sml_tree.specs.declared.patterns.Pat.{Pat}
use Rattle.sml_tree.specs.declared.patterns.Pat.TheViews as V
use Rattle.sml_tree.specs.declared.patterns.Pat.TheOpen as O
use Rattle.sml_tree.specs.declared.patterns.Pat.TheVariants as R
use Rattle.sml_tree.specs.declared.patterns.Pat.TheFolds.{fold-roll-Pat}
use Rattle.sml_tree.specs.declared.patterns.PatField.{PatField, out-PatField, fold_out-PatField}
use Rattle.sml_patterns.specs.declared.names.Meaning.{Meaning}
use Rattle.sml_narrowing.specs.declared.pattern.Pattern.{Pattern}
use Rattle.sml_narrowing.specs.declared.pattern.Pattern.TheViews as PV
use Rattle.sml_narrowing.specs.declared.pattern.Pattern.TheOpen as PO
use Rattle.sml_narrowing.specs.declared.pattern.Pattern.TheVariants as PR
use Rattle.sml_narrowing.specs.declared.pattern.Pattern.TheFolds.{fold-roll-Pattern}
use Rattle.sml_narrowing.specs.Plain.{Plain, Fields, Row, Empty, Labelled}
use Rattle.sml_patterns.specs.Stands.{named, StandsFor, TupleStandsFor, FieldStandsFor, FieldsStandFor}
use Rattle.sml_narrowing.specs.Views.{row_on, plain_layer, plain_of}
use Rattle.std.specs.Borrow.{Bor}
use Rattle.sml_patterns.specs.declared.judge.Judged.{Judged}
use Rattle.sml_patterns.specs.Warnings.{Rule, AreRules}
use Rattle.sml_patterns.specs.CodeTasks.{rule_of, rules_of}
use Rattle.sml_narrowing.proofs.Rows.{Key}

pat_of-row : (p : Place) (v : Vec PatField Global) (b : Bool) → pat_of (V.Row p v b) ≡ T.pat_row p (pat_fields_of (map pat_field_of v.items)) b
pat_of-row p v b = ap pat_of (sym (R.rolls-Row p v b)) ∙ fold-roll-Pat (T.Pat Place) (T.PatField Place) pat_layer pat_field_layer (O.Row p v b)

pat_of-tuple : (p : Place) (v : Vec Pat Global) → pat_of (V.Tuple p v) ≡ T.pat_tuple p (pats_of (map pat_of v.items))
pat_of-tuple p v = ap pat_of (sym (R.rolls-Tuple p v)) ∙ fold-roll-Pat (T.Pat Place) (T.PatField Place) pat_layer pat_field_layer (O.Tuple p v)

pat_of-applied : (p : Place) (x : LongIdent) (q : Box Pat Global) → pat_of (V.Applied p x q) ≡ T.pat_apply p (long_name_of x) (pat_of q.value)
pat_of-applied p x q = ap pat_of (sym (R.rolls-Applied p x q)) ∙ fold-roll-Pat (T.Pat Place) (T.PatField Place) pat_layer pat_field_layer (O.Applied p x q)

plain_of-row : (ls : Vec Key Global) (ps : Vec Pattern Global) → plain_of (PV.Row ls ps) ≡ Fields (row_on (map ident_of ls.items) (map plain_of ps.items) Empty)
plain_of-row ls ps = ap plain_of (sym (PR.rolls-Row ls ps)) ∙ fold-roll-Pattern Plain plain_layer (PO.Row ls ps)

module _ (N : LongId → Meaning) where
  -- the pattern is what the tree's stands for
  abbrev pub IsPlain : Pat → Pattern → Type 0
  IsPlain pat p = (q : Plain) → StandsFor N (pat_of pat) q → plain_of p ≡ q

  pub in_row : {E : Type 0} (pat : Pat) (place : Place) (v : Vec PatField Global) (b : Bool) (xs : List PatField) → pat ≡ V.Row place v b → xs ≡ v.items → (r : Result Pattern E) → IfOk r (λ p. (s : Row) → FieldsStandFor N (pat_fields_of (map pat_field_of xs)) s → plain_of p ≡ Fields s) → IfOk r (IsPlain pat)
  in_row pat place v b xs e i (Ok p) f = λ q h.
      let g = subst (λ t. StandsFor N t q) (ap pat_of e ∙ pat_of-row place v b) h in
      f g.0 (subst (λ ys. FieldsStandFor N (pat_fields_of (map pat_field_of ys)) g.0) (sym i) g.1) ∙ sym g.2
  in_row pat place v b xs e i (Err m) f = tt

  pub in_tuple : {E : Type 0} (pat : Pat) (place : Place) (v : Vec Pat Global) (xs : List Pat) → pat ≡ V.Tuple place v → xs ≡ v.items → (r : Result Pattern E) → IfOk r (λ p. (s : Row) → TupleStandsFor N 1 (pats_of (map pat_of xs)) s → plain_of p ≡ Fields s) → IfOk r (IsPlain pat)
  in_tuple pat place v xs e i (Ok p) f = λ q h.
      let g = subst (λ t. StandsFor N t q) (ap pat_of e ∙ pat_of-tuple place v) h in
      f g.0 (subst (λ ys. TupleStandsFor N 1 (pats_of (map pat_of ys)) g.0) (sym i) g.1) ∙ sym g.2
  in_tuple pat place v xs e i (Err m) f = tt

  pub in_applied : {E : Type 0} (pat : Pat) (place : Place) (x : LongIdent) (b : Box Pat Global) (inner : Pat) (a : Pattern) → pat ≡ V.Applied place x b → inner ≡ b.value → IsPlain inner a → (r : Result Pattern E) → IfOk r (λ p. plain_of p ≡ named N (long_of x) (plain_of a)) → IfOk r (IsPlain pat)
  in_applied pat place x b inner a e i k (Ok p) f = λ q h.
      let g = subst (λ t. StandsFor N t q) (ap pat_of e ∙ pat_of-applied place x b) h in
      f ∙ ap (named N (long_of x)) (k g.0 (subst (λ t. StandsFor N (pat_of t) g.0) (sym i) g.1)) ∙ sym g.2
  in_applied pat place x b inner a e i k (Err m) f = tt

  -- one more field
  row_more : (ls : List Id) (ps : List Plain) (l : Id) (p : Plain) (s : Row) → length ls ≡ length ps → row_on (ls ++ l ∷ []) (ps ++ p ∷ []) s ≡ row_on ls ps (Labelled l p s)
  row_more [] [] l p s e = refl
  row_more [] (q ∷ ps) l p s e = absurd (omega (arith, e))
  row_more (k ∷ ls) [] l p s e = absurd (omega (arith, e))
  row_more (k ∷ ls) (q ∷ ps) l p s e = ap (Labelled k q) (row_more ls ps l p s (omega (arith, e)))

  abbrev pub row_of : List Key → List Pattern → Row → Row
  row_of ls ps r = row_on (map ident_of ls) (map plain_of ps) r

  rows_more : (ls more : List Key) (ps others : List Pattern) (l : Key) (p : Pattern) (s : Row) → length ls ≡ length ps → more ≡ ls ++ l ∷ [] → others ≡ ps ++ p ∷ [] → row_of more others s ≡ row_of ls ps (Labelled (ident_of l) (plain_of p) s)
  rows_more ls more ps others l p s e i j =
      ap (λ xs. row_on (map ident_of xs) (map plain_of others) s) i ∙ ap (λ xs. row_on (map ident_of (ls ++ l ∷ [])) (map plain_of xs) s) j
      ∙ ap (λ xs. row_on xs (map plain_of (ps ++ p ∷ [])) s) (map-append ident_of ls (l ∷ [])) ∙ ap (λ xs. row_on (map ident_of ls ++ ident_of l ∷ []) xs s) (map-append plain_of ps (p ∷ []))
      ∙ row_more (map ident_of ls) (map plain_of ps) (ident_of l) (plain_of p) s (length-map ls ident_of ∙ e ∙ sym (length-map ps plain_of))

  drop_at : {X : Type 0} (xs : List X) (k : ℕ) (x : X) → k < length xs → x ≡ get_or xs k x → drop k xs ≡ x ∷ drop (k + 1) xs
  drop_at xs k x h e = drop_more xs k x h ∙ ap (λ y. y ∷ drop (k + 1) xs) (sym e)

  -- what is left to read, and what was read
  abbrev pub ReadsFields : List PatField → ℕ → List Key → List Pattern → Type 0
  ReadsFields fs k ls ps = (length ls ≡ length ps) × ((r : Row) → FieldsStandFor N (pat_fields_of (map pat_field_of fs)) r → (more : Row) × FieldsStandFor N (pat_fields_of (map pat_field_of (drop k fs))) more × (row_of ls ps more ≡ r))

  abbrev pub ReadsTuple : List Pat → ℕ → List Key → List Pattern → Type 0
  ReadsTuple qs k ls ps = (length ls ≡ length ps) × ((r : Row) → TupleStandsFor N 1 (pats_of (map pat_of qs)) r → (more : Row) × TupleStandsFor N (k + 1) (pats_of (map pat_of (drop k qs))) more × (row_of ls ps more ≡ r))

  lengths : (ls more : List Key) (ps others : List Pattern) (l : Key) (p : Pattern) → length ls ≡ length ps → more ≡ ls ++ l ∷ [] → others ≡ ps ++ p ∷ [] → length more ≡ length others
  lengths ls more ps others l p e i j = ap length i ∙ length_push ls l ∙ ap suc e ∙ sym (length_push ps p) ∙ sym (ap length j)
    where
      length_push : {X : Type 0} (xs : List X) (x : X) → length (xs ++ x ∷ []) ≡ suc (length xs)
      length_push [] x = refl
      length_push (y ∷ xs) x = ap suc (length_push xs x)

  pub fields_go : (fs : List PatField) (k : ℕ) (f : PatField) (ls more : List Key) (ps others : List Pattern) (l : Key) (p : Pattern) → k < length fs → f ≡ get_or fs k f → ReadsFields fs k ls ps → ident_of l ≡ ident_of (out-PatField f).label.ident → IsPlain (out-PatField f).pat p → more ≡ ls ++ l ∷ [] → others ≡ ps ++ p ∷ [] → ReadsFields fs (k + 1) more others
  fields_go fs k f ls more ps others l p h e (n, reads) i j a b = (
    lengths ls more ps others l p n a b,
    λ r g.
        let s = reads r g in
        let t = subst (λ xs. FieldsStandFor N (pat_fields_of (map pat_field_of xs)) s.0) (drop_at fs k f h e) s.1 in
        let u = subst (λ x. FieldStandsFor N x t.0 s.0) (fold_out-PatField (T.Pat Place) (T.PatField Place) pat_layer pat_field_layer f) t.2 in
        (t.0, t.1, rows_more ls more ps others l p t.0 n a b ∙ ap (row_of ls ps) (ap (λ x. Labelled x (plain_of p) t.0) i ∙ ap (λ x. Labelled (ident_of (out-PatField f).label.ident) x t.0) (j u.0 u.1) ∙ sym u.2) ∙ s.2),
  )

  pub tuple_goes : (qs : List Pat) (k : ℕ) (q : Pat) (ls more : List Key) (ps others : List Pattern) (l : Key) (p : Pattern) → k < length qs → q ≡ get_or qs k q → ReadsTuple qs k ls ps → ident_of l ≡ decimal (k + 1) → IsPlain q p → more ≡ ls ++ l ∷ [] → others ≡ ps ++ p ∷ [] → ReadsTuple qs (k + 1) more others
  tuple_goes qs k q ls more ps others l p h e (n, reads) i j a b = (
    lengths ls more ps others l p n a b,
    λ r g.
        let s = reads r g in
        let t = subst (λ xs. TupleStandsFor N (k + 1) (pats_of (map pat_of xs)) s.0) (drop_at qs k q h e) s.1 in
        (t.1, t.3, rows_more ls more ps others l p t.1 n a b ∙ ap (row_of ls ps) (ap (λ x. Labelled x (plain_of p) t.1) i ∙ ap (λ x. Labelled (decimal (k + 1)) x t.1) (j t.0 t.2) ∙ sym t.4) ∙ s.2),
  )

  pub fields_end : (fs : List PatField) (k : ℕ) (ls : Vec Key Global) (ps : Vec Pattern Global) → length fs ≤ k → ReadsFields fs k ls.items ps.items → (r : Row) → FieldsStandFor N (pat_fields_of (map pat_field_of fs)) r → plain_of (PV.Row ls ps) ≡ Fields r
  fields_end fs k ls ps h (n, reads) r g =
      let s = reads r g in
      let t = subst (λ xs. FieldsStandFor N (pat_fields_of (map pat_field_of xs)) s.0) (drop_all k fs h) s.1 in
      plain_of-row ls ps ∙ ap Fields (ap (row_of ls.items ps.items) (sym t) ∙ s.2)

  pub tuple_ends : (qs : List Pat) (k : ℕ) (ls : Vec Key Global) (ps : Vec Pattern Global) → length qs ≤ k → ReadsTuple qs k ls.items ps.items → (r : Row) → TupleStandsFor N 1 (pats_of (map pat_of qs)) r → plain_of (PV.Row ls ps) ≡ Fields r
  tuple_ends qs k ls ps h (n, reads) r g =
      let s = reads r g in
      let t = subst (λ xs. TupleStandsFor N (k + 1) (pats_of (map pat_of xs)) s.0) (drop_all k qs h) s.1 in
      plain_of-row ls ps ∙ ap Fields (ap (row_of ls.items ps.items) (sym t) ∙ s.2)

  -- what is left of the rules, and those that were read
  abbrev pub ReadsRules : List (Place × Bor Pat) → ℕ → List Judged → Type 0
  ReadsRules ps k rules = (rs : List Rule) → AreRules N ps rs → (more : List Rule) × AreRules N (drop k ps) more × (rs ≡ rules_of rules ++ more)

  first_rule : (w : Place × Bor Pat) (ps : List (Place × Bor Pat)) (rs : List Rule) → AreRules N (w ∷ ps) rs → (r : Rule) × (more : List Rule) × (rs ≡ r ∷ more) × (r.place ≡ w.0) × StandsFor N (pat_of w.1.now) r.plain × AreRules N ps more
  first_rule w ps [] h = absurd h
  first_rule w ps (r ∷ rs) h = (r, rs, refl, h.0, h.1, h.2)

  same_rule : (r : Rule) (j : Judged) → r.place ≡ j.place → plain_of j.pattern ≡ r.plain → r ≡ rule_of j
  same_rule r j e f = ap (λ p. record { place = p; plain = r.plain }) e ∙ ap (λ q. record { place = j.place; plain = q }) (sym f)

  pub rules_go : (ps : List (Place × Bor Pat)) (k : ℕ) (w : Place × Bor Pat) (old new : List Judged) (j : Judged) → k < length ps → w ≡ get_or ps k w → ReadsRules ps k old → j.place ≡ w.0 → IsPlain w.1.now j.pattern → new ≡ old ++ j ∷ [] → ReadsRules ps (k + 1) new
  rules_go ps k w old new j h e reads i f a = λ rs g.
      let s = reads rs g in
      let t = first_rule w (drop (k + 1) ps) s.0 (subst (λ xs. AreRules N xs s.0) (drop_at ps k w h e) s.1) in
      let r = same_rule t.0 j (t.3 ∙ sym i) (f t.0.plain t.4) in
      (t.1, t.5, s.2 ∙ ap (λ xs. rules_of old ++ xs) (t.2 ∙ ap (λ x. x ∷ t.1) r) ∙ sym (append_assoc (rules_of old) (rule_of j ∷ []) t.1) ∙ ap (λ xs. xs ++ t.1) (sym (ap rules_of a ∙ map-append rule_of old (j ∷ []))))

  no_rules : (rs : List Rule) → AreRules N [] rs → rs ≡ []
  no_rules [] h = refl
  no_rules (r ∷ rs) h = absurd h

  nothing_after : (xs : List Rule) → xs ++ [] ≡ xs
  nothing_after [] = refl
  nothing_after (x ∷ xs) = ap (λ l. x ∷ l) (nothing_after xs)

  pub rules_end : (ps : List (Place × Bor Pat)) (k : ℕ) (rules : List Judged) → length ps ≤ k → ReadsRules ps k rules → (rs : List Rule) → AreRules N ps rs → rules_of rules ≡ rs
  rules_end ps k rules h reads rs g =
      let s = reads rs g in
      let e = no_rules s.0 (subst (λ xs. AreRules N xs s.0) (drop_all k ps h) s.1) in
      sym (s.2 ∙ ap (λ xs. rules_of rules ++ xs) e ∙ nothing_after (rules_of rules))
