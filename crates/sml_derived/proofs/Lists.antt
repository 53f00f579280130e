-- Lists of phrases with one phrase more at their ends.
use Rattle.std.proofs.Common.{◌≡◌, ℕ, zero, suc, ◌+◌, ◌-◌, ◌<◌, List, [], ◌∷◌, ◌++◌, map, length, refl, ap, sym, ◌∙◌, arith}
use Rattle.sml_lex.specs.declared.fault.Place.{Place}
use Rattle.sml_tree.specs.Trees.{Id}
use Rattle.sml_tree.specs.Names.{Name}
use Rattle.sml_tree.specs.Patterns.{Pat}
use Rattle.sml_tree.specs.PatternViews.{pat_of, pats_of}
use Rattle.sml_tree.specs.declared.patterns.Pat as ProgramPat
use Rattle.sml_tree.specs.Expressions.{Exp, Exps, Rule, Rules, TypBind, bind, fn, no_exp, and_exp, no_rule, and_rule}
use Rattle.sml_tree.specs.ExpressionViews.{exps_of, rules_of}
use Rattle.sml_tree.specs.Signatures.{SigExp, Spec, Specs, WhereType, where_type, no_spec, and_spec}
use Rattle.sml_tree.specs.SignatureViews.{specs_of}
use Rattle.sml_derived.specs.Words.{hidden}
use Rattle.sml_tree.specs.Clauses.{Clause, clause_rule, clause_rules}
use Rattle.sml_derived.specs.Derived.{var, pat_var, one_rule, hidden_from, curried, count, row_of, case_of, function_of, include_of, includes, type_spec_of, type_specs, other_type_specs, where_types}

abbrev then_exp : Exps Place → Exp Place → Exps Place
then_exp no_exp e = and_exp e no_exp
then_exp (and_exp d ds) e = and_exp d (then_exp ds e)

abbrev then_rule : Rules Place → Rule Place → Rules Place
then_rule no_rule r = and_rule r no_rule
then_rule (and_rule q rs) r = and_rule q (then_rule rs r)

abbrev then_spec : Specs Place → Spec Place → Specs Place
then_spec no_spec s = and_spec s no_spec
then_spec (and_spec r ss) s = and_spec r (then_spec ss s)

exps_of-push : (es : List (Exp Place)) (e : Exp Place) → exps_of (es ++ e ∷ []) ≡ then_exp (exps_of es) e
exps_of-push [] e = refl
exps_of-push (d ∷ es) e = ap (and_exp d) (exps_of-push es e)

rules_of-push : (rs : List (Rule Place)) (r : Rule Place) → rules_of (rs ++ r ∷ []) ≡ then_rule (rules_of rs) r
rules_of-push [] r = refl
rules_of-push (q ∷ rs) r = ap (and_rule q) (rules_of-push rs r)

specs_of-push : (ss : List (Spec Place)) (s : Spec Place) → specs_of (ss ++ s ∷ []) ≡ then_spec (specs_of ss) s
specs_of-push [] s = refl
specs_of-push (r ∷ ss) s = ap (and_spec r) (specs_of-push ss s)

map-push : {A B : Type 0} (f : A → B) (xs : List A) (x : A) → map f (xs ++ x ∷ []) ≡ map f xs ++ f x ∷ []
map-push f [] x = refl
map-push f (y ∷ ys) x = ap (λ z. f y ∷ z) (map-push f ys x)

-- clauses

clause_rules-push : (cs : List (Clause Place)) (c : Clause Place) → clause_rules (cs ++ c ∷ []) ≡ then_rule (clause_rules cs) (clause_rule c)
clause_rules-push [] c = refl
clause_rules-push (d ∷ cs) c = ap (and_rule (clause_rule d)) (clause_rules-push cs c)

-- the rules so far, one clause on
pub next_clause : {A B : Type 0} (f : A → Rule Place) (g : B → Clause Place) (olds news : List A) (x : A) (d : Clause Place) (cs : List B) (c : B)
    → news ≡ olds ++ x ∷ [] → f x ≡ clause_rule (g c) → rules_of (map f olds) ≡ clause_rules (d ∷ map g cs) → rules_of (map f news) ≡ clause_rules (d ∷ map g (cs ++ c ∷ []))
next_clause f g olds news x d cs c pushed made e =
    ap (λ ys. rules_of (map f ys)) pushed
    ∙ ap rules_of (map-push f olds x)
    ∙ rules_of-push (map f olds) (f x)
    ∙ ap (then_rule (rules_of (map f olds))) made
    ∙ ap (λ rs. then_rule rs (clause_rule (g c))) e
    ∙ sym (clause_rules-push (d ∷ map g cs) (g c))
    ∙ ap (λ ys. clause_rules (d ∷ ys)) (sym (map-push g cs c))

-- hidden variables

hidden_from-push : (p : Place) (k n : ℕ) → hidden_from p k (suc n) ≡ then_exp (hidden_from p k n) (var p (hidden (k + n)))
hidden_from-push p k zero = ap (λ m. and_exp (var p (hidden m)) no_exp) (omega arith)
hidden_from-push p k (suc n) =
    ap (and_exp (var p (hidden k))) (hidden_from-push p (suc k) n ∙ ap (λ m. then_exp (hidden_from p (suc k) n) (var p (hidden m))) (omega arith))

-- the variables so far, one more
pub next_variable : {A : Type 0} (f : A → Exp Place) (olds news : List A) (x : A) (p : Place) (n : ℕ)
    → news ≡ olds ++ x ∷ [] → f x ≡ var p (hidden (n + 1)) → exps_of (map f olds) ≡ hidden_from p 1 n → exps_of (map f news) ≡ hidden_from p 1 (n + 1)
next_variable f olds news x p n pushed made e =
    ap (λ ys. exps_of (map f ys)) pushed
    ∙ ap exps_of (map-push f olds x)
    ∙ exps_of-push (map f olds) (f x)
    ∙ ap (then_exp (exps_of (map f olds))) made
    ∙ ap (λ es. then_exp es (var p (hidden (n + 1)))) e
    ∙ ap (λ m. then_exp (hidden_from p 1 n) (var p (hidden m))) (let a : n + 1 ≡ 1 + n = omega arith in a)
    ∙ sym (hidden_from-push p 1 n)
    ∙ ap (hidden_from p 1) (let a : suc n ≡ n + 1 = omega arith in a)

curried-push : (p : Place) (k n : ℕ) (e : Exp Place) → curried p k (suc n) e ≡ curried p k n (fn p (one_rule p (pat_var p (hidden (k + n))) e))
curried-push p k zero e = ap (λ m. fn p (one_rule p (pat_var p (hidden m)) e)) (omega arith)
curried-push p k (suc n) e =
    ap (λ d. fn p (one_rule p (pat_var p (hidden k)) d)) (curried-push p (suc k) n e ∙ ap (λ m. curried p (suc k) n (fn p (one_rule p (pat_var p (hidden m)) e))) (omega arith))

-- one variable less is owed
pub next_function : (p : Place) (n i : ℕ) (e d whole : Exp Place) → i < n → d ≡ fn p (one_rule p (pat_var p (hidden (n - i))) e) → curried p 1 (n - i) e ≡ whole → curried p 1 (n - (i + 1)) d ≡ whole
next_function p n i e d whole below made so_far =
    ap (curried p 1 (n - (i + 1))) made
    ∙ ap (λ m. curried p 1 (n - (i + 1)) (fn p (one_rule p (pat_var p (hidden m)) e))) (let a : n - i ≡ 1 + (n - (i + 1)) = omega (arith, below) in a)
    ∙ sym (curried-push p 1 (n - (i + 1)) e)
    ∙ ap (λ m. curried p 1 m e) (let a : suc (n - (i + 1)) ≡ n - i = omega (arith, below) in a)
    ∙ so_far

pub count_is_length : (qs : List ProgramPat.Pat) → count (pats_of (map pat_of qs)) ≡ length qs
count_is_length [] = refl
count_is_length (q ∷ qs) = ap suc (count_is_length qs)

-- a function, from what it was put together of
pub whole_function : (f : Id) (c : Clause Place) (cs : List (Clause Place)) (q : Pat Place) (e body subject : Exp Place) (vs : Exps Place) (rs : Rules Place) (n : ℕ)
    → q ≡ pat_var c.place f → n ≡ count c.pats → vs ≡ hidden_from c.place 1 n → subject ≡ row_of c.place vs → rs ≡ clause_rules (c ∷ cs) → body ≡ case_of c.place subject rs → e ≡ curried c.place 1 n body → bind q e ≡ function_of f c cs
whole_function f c cs q e body subject vs rs n name number hiddens row rules match function =
    ap (λ x. bind x e) name
    ∙ ap (bind (pat_var c.place f)) (function
    ∙ ap (curried c.place 1 n) (match ∙ ap (λ s. case_of c.place s rs) (row ∙ ap (row_of c.place) hiddens) ∙ ap (case_of c.place (row_of c.place (hidden_from c.place 1 n))) rules)
    ∙ ap (λ m. curried c.place 1 m (case_of c.place (row_of c.place (hidden_from c.place 1 m)) (clause_rules (c ∷ cs)))) number)

-- specifications

includes-push : (p : Place) (xs : List (Name Place)) (x : Name Place) → includes p (xs ++ x ∷ []) ≡ then_spec (includes p xs) (include_of p x)
includes-push p [] x = refl
includes-push p (y ∷ xs) x = ap (and_spec (include_of p y)) (includes-push p xs x)

pub next_include : {A B : Type 0} (f : A → Spec Place) (g : B → Name Place) (olds news : List A) (s : A) (p : Place) (xs : List B) (x : B)
    → news ≡ olds ++ s ∷ [] → f s ≡ include_of p (g x) → specs_of (map f olds) ≡ includes p (map g xs) → specs_of (map f news) ≡ includes p (map g (xs ++ x ∷ []))
next_include f g olds news s p xs x pushed made e =
    ap (λ ys. specs_of (map f ys)) pushed
    ∙ ap specs_of (map-push f olds s)
    ∙ specs_of-push (map f olds) (f s)
    ∙ ap (then_spec (specs_of (map f olds))) made
    ∙ ap (λ ss. then_spec ss (include_of p (g x))) e
    ∙ sym (includes-push p (map g xs) (g x))
    ∙ ap (includes p) (sym (map-push g xs x))

type_specs-push : (p : Place) (bs : List (TypBind Place)) (b : TypBind Place) → other_type_specs p (bs ++ b ∷ []) ≡ then_spec (other_type_specs p bs) (type_spec_of p b)
type_specs-push p [] b = refl
type_specs-push p (c ∷ bs) b = ap (and_spec (type_spec_of p c)) (type_specs-push p bs b)

pub next_type_spec : {A B : Type 0} (f : A → Spec Place) (g : B → TypBind Place) (olds news : List A) (s : A) (p : Place) (c : TypBind Place) (bs : List B) (b : B)
    → news ≡ olds ++ s ∷ [] → f s ≡ type_spec_of p (g b) → specs_of (map f olds) ≡ type_specs p c (map g bs) → specs_of (map f news) ≡ type_specs p c (map g (bs ++ b ∷ []))
next_type_spec f g olds news s p c bs b pushed made e =
    ap (λ ys. specs_of (map f ys)) pushed
    ∙ ap specs_of (map-push f olds s)
    ∙ specs_of-push (map f olds) (f s)
    ∙ ap (then_spec (specs_of (map f olds))) made
    ∙ ap (λ ss. then_spec ss (type_spec_of p (g b))) e
    ∙ ap (and_spec (type_spec_of p c)) (sym (type_specs-push p (map g bs) (g b)) ∙ ap (other_type_specs p) (sym (map-push g bs b)))

where_types-push : (p : Place) (s : SigExp Place) (ws : List (WhereType Place)) (w : WhereType Place) → where_types p s (ws ++ w ∷ []) ≡ where_type p (where_types p s ws) w
where_types-push p s [] w = refl
where_types-push p s (v ∷ ws) w = where_types-push p (where_type p s v) ws w

pub next_where : {B : Type 0} (g : B → WhereType Place) (p : Place) (s old new : SigExp Place) (ws : List B) (w : B)
    → new ≡ where_type p old (g w) → old ≡ where_types p s (map g ws) → new ≡ where_types p s (map g (ws ++ w ∷ []))
next_where g p s old new ws w made e =
    made
    ∙ ap (λ t. where_type p t (g w)) e
    ∙ sym (where_types-push p s (map g ws) (g w))
    ∙ ap (where_types p s) (sym (map-push g ws w))
