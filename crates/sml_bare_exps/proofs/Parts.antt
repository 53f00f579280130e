-- What the parts on a stack make that are taken off one after the other.
use Rattle.std.proofs.Common.{◌≡◌, ℕ, ◌+◌, ◌≤◌, List, [], ◌∷◌, ◌++◌, Result, map, reverse, max, drop, ap, subst, ◌∙◌, arith}
use Rattle.std.proofs.lemmas.List.{drop-drop, reverse-append}
use Rattle.sml_lex.specs.declared.fault.Place.{Place}
use Rattle.sml_tree.specs.Names.{Name}
use Rattle.sml_tree.specs.Types.{Ty, Tys, and_ty}
use Rattle.sml_tree.specs.TypeViews.{tys_of}
use Rattle.sml_tree.specs.Patterns.{Pat}
use Rattle.sml_tree.specs.Expressions.{Exp, Exps, Field, Fields, Rule, Rules, Decs, let_in, and_exp, field, and_field, rule, and_rule}
use Rattle.sml_tree.specs.ExpressionViews.{field_of, fields_of, rule_of, rules_of}
use Rattle.sml_tree.specs.declared.expressions.ExpField.{ExpField}
use Rattle.sml_tree.specs.declared.expressions.Rule as P
use Rattle.sml_tree.specs.Heights.{pat_height, exp_height, fields_height, rules_height}
use Rattle.sml_phrases.specs.Phrases.{Phrase, first, at, name_in, pat_in, exp_in, exps_in, fields_in, rules_in, decs_in, ty_in, tys_in}
use Rattle.sml_phrases.specs.declared.low.LowExp.{LowExp}
use Rattle.sml_phrases.specs.declared.low.LowTy.{LowTy}
use Rattle.sml_phrases.specs.declared.phrase.Failure.{Failure}
use Rattle.sml_phrases.proofs.Drops.{two_off, three_off}
use Rattle.sml_bare_exps.specs.ExpressionSequences.{exp_place}
use Rattle.sml_bare_exps.specs.ExpressionRules.{series_of, body_of}
use Rattle.sml_bare_exps.specs.ExpressionViews.{GivesExp, low_ty_of}

pub gives_same : (e d : Exp Place) (r : Result LowExp Failure) → e ≡ d → GivesExp e r → GivesExp d r
gives_same e d r same = subst (λ x. GivesExp x r) same

pub off : (m n : ℕ) (v a b : List Phrase) → a ≡ drop m v → b ≡ drop n a → b ≡ drop (m + n) v
off m n v a b p q = q ∙ ap (drop n) p ∙ drop-drop n m v

pub later : (m n : ℕ) (v a : List Phrase) → a ≡ drop m v → at a n ≡ at v (m + n)
later m n v a p = ap first (ap (drop n) p ∙ drop-drop n m v)

-- an expression and those after it, and the body that they are

pub exps_made : (v a : List Phrase) (e : Exp Place) (es : Exps Place) → a ≡ drop 1 v → e ≡ exp_in (first v) → es ≡ exps_in (first a) → and_exp e es ≡ and_exp (exp_in (at v 0)) (exps_in (at v 1))
exps_made v a e es p he hes = ap (λ x. and_exp x es) he ∙ ap (and_exp (exp_in (at v 0))) (hes ∙ ap (λ l. exps_in (first l)) p)

pub body_made : (v a : List Phrase) (q : Place) (e : Exp Place) (es all : Exps Place) → a ≡ drop 1 v → e ≡ exp_in (first v) → es ≡ exps_in (first a) → q ≡ exp_place e → all ≡ and_exp e es
    → series_of q all ≡ body_of (exp_in (at v 0)) (exps_in (at v 1))
body_made v a q e es all p he hes hq hall =
    ap (λ x. series_of x all) (hq ∙ ap (λ x. exp_place x) he) ∙ ap (series_of (exp_place (exp_in (at v 0)))) (hall ∙ exps_made v a e es p he hes)

-- a body after declarations

body_after : (v a : List Phrase) → a ≡ drop 2 v → body_of (exp_in (at a 1)) (exps_in (at a 2)) ≡ body_of (exp_in (at v 3)) (exps_in (at v 4))
body_after v a p = ap (λ x. body_of (exp_in x) (exps_in (at a 2))) (later 2 1 v a p) ∙ ap (λ x. body_of (exp_in (at v 3)) (exps_in x)) (later 2 2 v a p)

pub let_made : (q : Place) (v a : List Phrase) (ds : Decs Place) (e : Exp Place) → a ≡ drop 2 v → ds ≡ decs_in (at v 1) → e ≡ body_of (exp_in (at a 1)) (exps_in (at a 2))
    → let_in q ds e ≡ let_in q (decs_in (at v 1)) (body_of (exp_in (at v 3)) (exps_in (at v 4)))
let_made q v a ds e p hds he = ap (λ x. let_in q x e) hds ∙ ap (let_in q (decs_in (at v 1))) (he ∙ body_after v a p)

pub body_in_let : (q : Place) (v a : List Phrase) → a ≡ drop 2 v
    → exp_height (body_of (exp_in (at a 1)) (exps_in (at a 2))) ≤ exp_height (let_in q (decs_in (at v 1)) (body_of (exp_in (at v 3)) (exps_in (at v 4))))
body_in_let q v a p = let h = ap exp_height (body_after v a p) in omega (arith, h)

-- a field before others, which the program has after them

pub field_pushed : (old new : List ExpField) (f : ExpField) (x : Field Place) → new ≡ old ++ f ∷ [] → field_of f ≡ x → fields_of (map field_of (reverse new)) ≡ and_field x (fields_of (map field_of (reverse old)))
field_pushed old new f x pushed seen =
    ap (λ fs. fields_of (map field_of (reverse fs))) pushed ∙ ap (λ fs. fields_of (map field_of fs)) (reverse-append old (f ∷ [])) ∙ ap (λ y. and_field y (fields_of (map field_of (reverse old)))) seen

pub field_heights : (whole fs : Fields Place) (l : Name Place) (e : Exp Place) (h k m : ℕ) → whole ≡ and_field (field l e) fs → exp_height e ≡ h → fields_height fs ≡ k → m ≡ max k h → fields_height whole ≡ m
field_heights whole fs l e h k m made eh fh mh = let g = ap fields_height made in omega (arith, g, eh, fh, mh)

pub fields_made : (v a b d : List Phrase) (l : Name Place) (e : Exp Place) (fs : Fields Place) → a ≡ drop 1 v → b ≡ drop 1 a → d ≡ drop 1 b
    → l ≡ name_in (first v) → e ≡ exp_in (first b) → fs ≡ fields_in (first d) → and_field (field l e) fs ≡ and_field (field (name_in (at v 0)) (exp_in (at v 2))) (fields_in (at v 3))
fields_made v a b d l e fs p q r hl he hfs =
    ap (λ x. and_field (field x e) fs) hl
    ∙ ap (λ x. and_field (field (name_in (at v 0)) x) fs) (he ∙ ap (λ x. exp_in (first x)) (two_off v a b p q))
    ∙ ap (and_field (field (name_in (at v 0)) (exp_in (at v 2)))) (hfs ∙ ap (λ x. fields_in (first x)) (three_off v a b d p q r))

-- a rule before others

pub rule_pushed : (old new : List P.Rule) (r : P.Rule) (x : Rule Place) → new ≡ old ++ r ∷ [] → rule_of r ≡ x → rules_of (map rule_of (reverse new)) ≡ and_rule x (rules_of (map rule_of (reverse old)))
rule_pushed old new r x pushed seen =
    ap (λ rs. rules_of (map rule_of (reverse rs))) pushed ∙ ap (λ rs. rules_of (map rule_of rs)) (reverse-append old (r ∷ [])) ∙ ap (λ y. and_rule y (rules_of (map rule_of (reverse old)))) seen

pub rule_heights : (whole rs : Rules Place) (p : Place) (q : Pat Place) (e : Exp Place) (i h k n m : ℕ) → whole ≡ and_rule (rule p q e) rs → pat_height q ≡ i → exp_height e ≡ h → rules_height rs ≡ k → n ≡ max i h → m ≡ max n k
    → rules_height whole ≡ m
rule_heights whole rs p q e i h k n m made ih eh rh nh mh = let g = ap rules_height made in omega (arith, g, ih, eh, rh, nh, mh)

pub rules_made : (s : Place) (v a b d : List Phrase) (x : Pat Place) (e : Exp Place) (rs : Rules Place) → a ≡ drop 1 v → b ≡ drop 1 a → d ≡ drop 1 b
    → x ≡ pat_in (first v) → e ≡ exp_in (first b) → rs ≡ rules_in (first d) → and_rule (rule s x e) rs ≡ and_rule (rule s (pat_in (at v 0)) (exp_in (at v 2))) (rules_in (at v 3))
rules_made s v a b d x e rs p q r hx he hrs =
    ap (λ y. and_rule (rule s y e) rs) hx
    ∙ ap (λ y. and_rule (rule s (pat_in (at v 0)) y) rs) (he ∙ ap (λ l. exp_in (first l)) (two_off v a b p q))
    ∙ ap (and_rule (rule s (pat_in (at v 0)) (exp_in (at v 2)))) (hrs ∙ ap (λ l. rules_in (first l)) (three_off v a b d p q r))

-- a type before others

pub tys_pushed : (old new : List LowTy) (t : LowTy) → new ≡ old ++ t ∷ [] → tys_of (map low_ty_of (reverse new)) ≡ and_ty (low_ty_of t) (tys_of (map low_ty_of (reverse old)))
tys_pushed old new t pushed = ap (λ ts. tys_of (map low_ty_of (reverse ts))) pushed ∙ ap (λ ts. tys_of (map low_ty_of ts)) (reverse-append old (t ∷ []))

pub tys_made : (v a b : List Phrase) (t : Ty Place) (ts : Tys Place) → a ≡ drop 1 v → b ≡ drop 1 a → t ≡ ty_in (first a) → ts ≡ tys_in (first b) → and_ty t ts ≡ and_ty (ty_in (at v 1)) (tys_in (at v 2))
tys_made v a b t ts p q ht hts = ap (λ x. and_ty x ts) (ht ∙ ap (λ l. ty_in (first l)) p) ∙ ap (and_ty (ty_in (at v 1))) (hts ∙ ap (λ l. tys_in (first l)) (two_off v a b p q))
