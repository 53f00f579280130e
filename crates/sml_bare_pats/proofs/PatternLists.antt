-- Lists of patterns from their last pattern to their first.
use Rattle.std.proofs.Common.{◌≡◌, ◌≤◌, List, [], ◌∷◌, ◌++◌, map, reverse, arith, refl, ap, sym, ◌∙◌}
use Rattle.sml_lex.specs.declared.fault.Place.{Place}
use Rattle.sml_tree.specs.Heights.{pat_height}
use Rattle.sml_tree.specs.Patterns.{Pat}
use Rattle.sml_tree.specs.PatternViews.{pats_of}
use Rattle.sml_derived.specs.Derived.{pat_nil, pat_cons}
use Rattle.sml_pat_sequences.specs.LowViews.{low_pat_of}
use Rattle.sml_bare_pats.specs.PatternRules.{list_pat}
use Rattle.sml_phrases.specs.declared.low.LowPat.{LowPat}

-- some patterns before a list
abbrev pub list_onto : Place → List (Pat Place) → Pat Place → Pat Place
list_onto p [] r = r
list_onto p (q ∷ qs) r = pat_cons p q (list_onto p qs r)

list_onto-nil : (p : Place) (qs : List (Pat Place)) → list_onto p qs (pat_nil p) ≡ list_pat p (pats_of qs)
list_onto-nil p [] = refl
list_onto-nil p (q ∷ qs) = ap (pat_cons p q) (list_onto-nil p qs)

list_onto-height : (p : Place) (qs : List (Pat Place)) (r : Pat Place) → pat_height r ≤ pat_height (list_onto p qs r)
list_onto-height p [] r = omega arith
list_onto-height p (q ∷ qs) r = omega (arith, list_onto-height p qs r)

list_onto-last : (p : Place) (qs : List LowPat) (q : LowPat) (r : Pat Place) → list_onto p (map low_pat_of (qs ++ q ∷ [])) r ≡ list_onto p (map low_pat_of qs) (pat_cons p (low_pat_of q) r)
list_onto-last p [] q r = refl
list_onto-last p (s ∷ qs) q r = ap (pat_cons p (low_pat_of s)) (list_onto-last p qs q r)

pub list-start : (p : Place) (r : Pat Place) (qs rs : List LowPat) → rs ≡ reverse qs → r ≡ pat_nil p
    → list_onto p (map low_pat_of rs) r ≡ list_pat p (pats_of (map low_pat_of (reverse qs)))
list-start p r qs rs turned empty = rw (turned, empty) (list_onto-nil p (map low_pat_of (reverse qs)))

pub list-next : (p : Place) (r s whole : Pat Place) (olds rest : List LowPat) (q : LowPat)
    → olds ≡ rest ++ q ∷ [] → s ≡ pat_cons p (low_pat_of q) r → list_onto p (map low_pat_of olds) r ≡ whole → list_onto p (map low_pat_of rest) s ≡ whole
list-next p r s whole olds rest q e made so_far =
    ap (list_onto p (map low_pat_of rest)) made ∙ sym (list_onto-last p rest q r) ∙ sym (ap (λ qs. list_onto p (map low_pat_of qs) r) e) ∙ so_far

pub list-next-height : (p : Place) (r whole : Pat Place) (olds rest : List LowPat) (q : LowPat)
    → olds ≡ rest ++ q ∷ [] → list_onto p (map low_pat_of olds) r ≡ whole → pat_height (pat_cons p (low_pat_of q) r) ≤ pat_height whole
list-next-height p r whole olds rest q e so_far =
    let this = list-next p r (pat_cons p (low_pat_of q) r) whole olds rest q e refl so_far in
    rw (sym this) (list_onto-height p (map low_pat_of rest) (pat_cons p (low_pat_of q) r))
