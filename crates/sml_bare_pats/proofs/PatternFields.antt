-- A field of a pattern before others, which the program has after them.
use Rattle.std.proofs.Common.{◌≡◌, ℕ, ◌≤◌, List, [], ◌∷◌, ◌++◌, map, reverse, max, drop, false, Result, Ok, Err, ap, ◌∙◌, arith, rules}
use Rattle.std.specs.Result.{IsErrAnd}
use Rattle.std.proofs.lemmas.List.{reverse-append}
use Rattle.sml_lex.specs.declared.fault.Place.{Place}
use Rattle.sml_tree.specs.Names.{Name}
use Rattle.sml_tree.specs.Heights.{pat_height, pat_fields_height}
use Rattle.sml_tree.specs.Patterns.{Pat, PatField, PatFields, pat_field, and_pat_field}
use Rattle.sml_tree.specs.PatternViews.{pat_field_of, pat_fields_of}
use Rattle.sml_tree.specs.declared.patterns.PatField as P
use Rattle.sml_phrases.specs.Phrases.{Phrase, first, at, name_in}
use Rattle.sml_phrases.specs.PhraseHeights.{low, is_low}
use Rattle.sml_phrases.specs.PhraseViews.{Puts}
use Rattle.sml_phrases.specs.declared.phrase.Failure.{Failure}
use Rattle.sml_phrases.specs.declared.phrase.Failure.TheVariants.{TooHigh, Memory}
use Rattle.sml_phrases.proofs.Drops.{two_off}
use Rattle.sml_pat_sequences.specs.LowViews.{GivesPat}
use Rattle.sml_bare_pats.specs.PatternPhrases.{pat_fields_in}
use Rattle.sml_bare_pats.specs.PatternRules.{field_pat, and_field}

pub field_pushed : (old new : List P.PatField) (f : P.PatField) (x : PatField Place) → new ≡ old ++ f ∷ [] → pat_field_of f ≡ x → pat_fields_of (map pat_field_of (reverse new)) ≡ and_pat_field x (pat_fields_of (map pat_field_of (reverse old)))
field_pushed old new f x pushed seen =
    ap (λ fs. pat_fields_of (map pat_field_of (reverse fs))) pushed
    ∙ ap (λ fs. pat_fields_of (map pat_field_of fs)) (reverse-append old (f ∷ []))
    ∙ ap (λ y. and_pat_field y (pat_fields_of (map pat_field_of (reverse old)))) seen

pub field_heights : (whole fs : PatFields Place) (l : Name Place) (q : Pat Place) (h k m : ℕ) → whole ≡ and_pat_field (pat_field l q) fs → pat_height q ≡ h → pat_fields_height fs ≡ k → m ≡ max h k → pat_fields_height whole ≡ m
field_heights whole fs l q h k m made qh fh mh = let g = ap pat_fields_height made in omega (arith, g, qh, fh, mh)

-- a field whose pattern is too high

field_high : (l : Name Place) (q : Pat Place) (v : Phrase) → low (pat_height q) ≡ false → is_low (and_field l q v) ≡ false
field_high l q v high = let h : pat_height q ≤ pat_fields_height (and_pat_field (pat_field l q) (pat_fields_in v)) = omega arith in grind (arith, h, high)

pub field_fails : (l : Name Place) (q : Pat Place) (v : Phrase) (n : ℕ) (old new : List Phrase) (e : Failure) (r : Result Unit Failure) → GivesPat q (Err e) → IsErrAnd r (λ f. f ≡ e) → Puts (and_field l q v) n old new r
field_fails l q v n old new TooHigh (Err TooHigh) high same = field_high l q v high
field_fails l q v n old new Memory (Err TooHigh) high same = search (rules, same)
field_fails l q v n old new e (Err Memory) high same = tt
field_fails l q v n old new e (Ok x) high same = absurd same

-- a field from its parts on a stack

pub pattern_made : (v a : List Phrase) (x : Name Place) (w : Phrase) → a ≡ drop 1 v → x ≡ name_in (first v) → w ≡ first a → field_pat x w ≡ field_pat (name_in (at v 0)) (at v 1)
pattern_made v a x w p hx hw = ap (λ y. field_pat y w) hx ∙ ap (field_pat (name_in (at v 0))) (hw ∙ ap (λ l. first l) p)

pub field_made : (v a b : List Phrase) (x l : Name Place) (q : Pat Place) (w u : Phrase) → a ≡ drop 1 v → b ≡ drop 1 a → x ≡ name_in (first v) → w ≡ first a → u ≡ first b → l ≡ x → q ≡ field_pat x w
    → and_field l q u ≡ and_field (name_in (at v 0)) (field_pat (name_in (at v 0)) (at v 1)) (at v 2)
field_made v a b x l q w u o p hx hw hu hl hq =
    ap (λ y. and_field y q u) (hl ∙ hx)
    ∙ ap (λ y. and_field (name_in (at v 0)) y u) (hq ∙ pattern_made v a x w o hx hw)
    ∙ ap (and_field (name_in (at v 0)) (field_pat (name_in (at v 0)) (at v 1))) (hu ∙ ap (λ l. first l) (two_off v a b o p))
