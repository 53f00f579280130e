-- Clauses and functions: how high they are, and calls that make them.
use Rattle.std.proofs.Common.{◌≡◌, ℕ, ◌≤◌, ◌+◌, List, [], ◌∷◌, Bool, true, false, ◌&&◌, Option, Some, None, Result, drop, refl, ap, sym, ◌∙◌, arith, rules, Ok, Err}
use Rattle.sml_lex.specs.declared.fault.Place.{Place}
use Rattle.sml_fixity.specs.declared.heads.Head.TheVariants.{Prefix, Infix, Bracketed}
use Rattle.sml_tree.specs.Trees.{Id}
use Rattle.sml_tree.specs.Names.{Name}
use Rattle.sml_tree.specs.Patterns.{Pat, Pats, wildcard, pat_constant, pat_name, pat_row, pat_tuple, pat_bracket, pat_apply, pat_typed, pat_as, no_pat, and_pat}
use Rattle.sml_tree.specs.Expressions.{Exp, ValBind, ValBinds, bind, and_bind}
use Rattle.sml_tree.specs.ExpressionViews.{bind_of}
use Rattle.sml_tree.specs.Heights.{pat_height, pats_height, rule_height, bind_height, binds_height}
use Rattle.sml_tree.specs.Types.{Ty}
use Rattle.sml_tree.specs.Clauses.{Clause, clause_rule, clause_of, pat_row_of}
use Rattle.sml_derived.specs.Derived.{function_of}
use Rattle.sml_bare_decs.specs.FunctionRules.{RightSide, right_side_in, prefix_head, between, infix_head, in_brackets, bracketed_head, heading, clause_from, function_from}
use Rattle.sml_phrases.specs.PhraseHeights.{low, is_low}
use Rattle.sml_phrases.specs.Phrases.{Phrase, of_values, of_clauses, of_functions, at, first, pat_in, pats_in, clauses_in, bind_in, binds_in}
use Rattle.sml_phrases.specs.PhraseViews.{Gives, Puts}
use Rattle.sml_pat_sequences.specs.LowViews.{GivesPat}
use Rattle.sml_pat_sequences.specs.PatternSequences.{pat_place}
use Rattle.sml_phrases.specs.declared.low.LowBind.{LowBind}
use Rattle.sml_bare_decs.specs.declared.function_rules.LowClause.{LowClause}
use Rattle.sml_phrases.specs.declared.phrase.Failure.{Failure}
use Rattle.sml_phrases.specs.declared.phrase.Failure.TheVariants.{TooHigh, Memory}
use Rattle.std.specs.Result.{IsErrAnd}
use Rattle.sml_phrases.proofs.Drops.{dropped, two_off}
use Rattle.sml_fixity.specs.Shapes.{Shape, tree, headed}
use Rattle.sml_bare_decs.proofs.FunctionHeights.{function_height}

row_high : (p : Place) (qs : Pats Place) → pats_height qs ≤ pat_height (pat_row_of p qs)
row_high p no_pat = omega arith
row_high p (and_pat q no_pat) = omega arith
row_high p (and_pat q (and_pat r qs)) = omega arith

pub rule_high : (c : Clause Place) → pats_height c.pats ≤ rule_height (clause_rule c)
rule_high c = omega (arith, row_high c.place c.pats)

pub function_high : (f : Id) (c : Clause Place) (cs : List (Clause Place)) → rule_height (clause_rule c) + 3 ≤ bind_height (function_of f c cs)
function_high f c cs = omega (arith, function_height f c cs)

-- the arguments of a heading

prefix_high : (q : Pat Place) (qs : Pats Place) → pat_height q ≤ pats_height (prefix_head q qs).arguments + 2
prefix_high (wildcard p) qs = omega arith
prefix_high (pat_constant p c) qs = omega arith
prefix_high (pat_name p f) qs = omega arith
prefix_high (pat_row p fs flexible) qs = omega arith
prefix_high (pat_tuple p xs) qs = omega arith
prefix_high (pat_bracket p q) qs = omega arith
prefix_high (pat_apply p f q) qs = omega arith
prefix_high (pat_typed p q t) qs = omega arith
prefix_high (pat_as p x t q) qs = omega arith

between_high : (a f b : Pat Place) → pat_height a ≤ pats_height (between a f b).arguments + 2
between_high a (wildcard p) b = omega arith
between_high a (pat_constant p c) b = omega arith
between_high a (pat_name p f) b = omega arith
between_high a (pat_row p fs flexible) b = omega arith
between_high a (pat_tuple p xs) b = omega arith
between_high a (pat_bracket p q) b = omega arith
between_high a (pat_apply p f q) b = omega arith
between_high a (pat_typed p q t) b = omega arith
between_high a (pat_as p x t q) b = omega arith

infix_high : (a : Pat Place) (qs : Pats Place) → pat_height a ≤ pats_height (infix_head a qs).arguments + 2
infix_high a no_pat = omega arith
infix_high a (and_pat f no_pat) = omega arith
infix_high a (and_pat f (and_pat b no_pat)) = between_high a f b
infix_high a (and_pat f (and_pat b (and_pat d qs))) = omega arith

in_brackets_high : (p : Place) (q : Pat Place) (qs : Pats Place) → pat_height q + 1 ≤ pats_height (in_brackets p q qs).arguments + 2
in_brackets_high p (wildcard r) qs = omega arith
in_brackets_high p (pat_constant r c) qs = omega arith
in_brackets_high p (pat_name r f) qs = omega arith
in_brackets_high p (pat_row r fs flexible) qs = omega arith
in_brackets_high p (pat_tuple r xs) qs = omega arith
in_brackets_high p (pat_bracket r q) qs = omega arith
in_brackets_high p (pat_apply r f q) qs = omega arith
in_brackets_high p (pat_typed r q t) qs = omega arith
in_brackets_high p (pat_as r x t q) qs = omega arith

bracketed_high : (q : Pat Place) (qs : Pats Place) → pat_height q ≤ pats_height (bracketed_head q qs).arguments + 2
bracketed_high (wildcard p) qs = omega arith
bracketed_high (pat_constant p c) qs = omega arith
bracketed_high (pat_name p f) qs = omega arith
bracketed_high (pat_row p fs flexible) qs = omega arith
bracketed_high (pat_tuple p xs) qs = omega arith
bracketed_high (pat_bracket p q) qs = let h = in_brackets_high p q qs in omega (arith, h)
bracketed_high (pat_apply p f q) qs = omega arith
bracketed_high (pat_typed p q t) qs = omega arith
bracketed_high (pat_as p x t q) qs = omega arith

pub heading_high : (shape : Option Shape) (q : Pat Place) (qs : Pats Place) → pat_height q ≤ pats_height (heading shape q qs).arguments + 2
heading_high None q qs = omega arith
heading_high (Some (tree ss)) q qs = omega arith
heading_high (Some (headed Prefix)) q qs = prefix_high q qs
heading_high (Some (headed Infix)) q qs = infix_high q qs
heading_high (Some (headed Bracketed)) q qs = bracketed_high q qs

-- a clause and a function are at least as high as the arguments of their heading and as their first pattern

pub clause_from_high : (shape : Option Shape) (q : Pat Place) (r : RightSide) → pats_height (heading shape q r.pats).arguments ≤ rule_height (clause_rule (clause_from shape q r))
clause_from_high shape q r = rule_high (clause_from shape q r)

pub function_from_high : (shape : Option Shape) (p : Place) (q : Pat Place) (r : RightSide) (cs : List (Clause Place)) → pats_height (heading shape q r.pats).arguments + 3 ≤ bind_height (function_from shape p q r cs)
function_from_high shape p q r cs =
    let c : Clause Place = record { place = p; pats = (heading shape q r.pats).arguments; result = r.result; body = r.body } in
    omega (arith, function_high (heading shape q r.pats).name c cs, rule_high c)

pub first_pat_high : (shape : Option Shape) (p : Place) (q : Pat Place) (r : RightSide) (cs : List (Clause Place)) → pat_height q ≤ bind_height (function_from shape p q r cs)
first_pat_high shape p q r cs = omega (arith, function_from_high shape p q r cs, heading_high shape q r.pats)

pub clause_in_function : (shape : Option Shape) (p : Place) (q : Pat Place) (r : RightSide) (cs : List (Clause Place)) (qs : Pats Place) → qs ≡ (heading shape q r.pats).arguments
    → rule_height (clause_rule (record { place = p; pats = qs; result = r.result; body = r.body })) ≤ bind_height (function_from shape p q r cs)
clause_in_function shape p q r cs qs e =
    let height : Pats Place → ℕ = λ xs. rule_height (clause_rule (record { place = p; pats = xs; result = r.result; body = r.body })) in
    let c : Clause Place = record { place = p; pats = (heading shape q r.pats).arguments; result = r.result; body = r.body } in
    let same : height qs ≡ height (heading shape q r.pats).arguments = ap height e in
    let h = function_high (heading shape q r.pats).name c cs in
    omega (arith, same, h)

pub function_parts : (shape : Option Shape) (v a b : List Phrase) (p : Place) (q : Pat Place) (r : RightSide) (cs : List (Clause Place)) → a ≡ drop 1 v → b ≡ drop 1 a
    → p ≡ pat_place q → q ≡ pat_in (first v) → r ≡ right_side_in (first a) → cs ≡ clauses_in (first b)
    → function_from shape p q r cs ≡ function_from shape (pat_place (pat_in (at v 0))) (pat_in (at v 0)) (right_side_in (at v 1)) (clauses_in (at v 2))
function_parts shape v a b p q r cs d1 d2 hp hq hr hc =
    ap (λ x. function_from shape x q r cs) (hp ∙ ap (λ x. pat_place x) hq)
    ∙ ap (λ x. function_from shape (pat_place (pat_in (at v 0))) x r cs) hq
    ∙ ap (λ x. function_from shape (pat_place (pat_in (at v 0))) (pat_in (at v 0)) x cs) (hr ∙ ap (λ l. right_side_in (first l)) d1)
    ∙ ap (λ x. function_from shape (pat_place (pat_in (at v 0))) (pat_in (at v 0)) (right_side_in (at v 1)) x) (hc ∙ ap (λ l. clauses_in (first l)) (two_off v a b d1 d2))

pub bind_same : (v w : ValBind Place) (r : Result LowBind Failure) → v ≡ w → Gives (λ b. bind_of b.tree) (λ b. low (bind_height b)) v r → Gives (λ b. bind_of b.tree) (λ b. low (bind_height b)) w r
bind_same v w r e made = rw (sym e) made

-- what fails with a part that is too high

still_too_high : (a b : ℕ) → a ≤ b → low a ≡ false → low b ≡ false
still_too_high a b below high = grind (arith, below, high)

and_false : (a b : Bool) → a ≡ false → (a && b) ≡ false
and_false true b e = absurd (cc)
and_false false b e = refl

pub value_too_high : (q : Pat Place) (e : Exp Place) (bs recs : ValBinds Place) → low (pat_height q) ≡ false → is_low (of_values [] (and_bind (bind q e) bs) recs) ≡ false
value_too_high q e bs recs high = and_false _ _ (still_too_high (pat_height q) (binds_height (and_bind (bind q e) bs)) (omega arith) high)

pub round_function_high : (shape : Option Shape) (p : Place) (q : Pat Place) (r : RightSide) (cs : List (Clause Place)) (bs : ValBinds Place) → low (pat_height q) ≡ false → low (binds_height (and_bind (function_from shape p q r cs) bs)) ≡ false
round_function_high shape p q r cs bs high = still_too_high (pat_height q) (binds_height (and_bind (function_from shape p q r cs) bs)) (let h = first_pat_high shape p q r cs in omega (arith, h)) high

pub put_fails : (q : Pat Place) (whole : Phrase) (n : ℕ) (old new : List Phrase) (e : Failure) (r : Result Unit Failure) → GivesPat q (Err e) → IsErrAnd r (λ f. f ≡ e) → (low (pat_height q) ≡ false → is_low whole ≡ false) → Puts whole n old new r
put_fails q whole n old new TooHigh (Err TooHigh) high same fails = fails high
put_fails q whole n old new Memory (Err TooHigh) high same fails = search (rules, same)
put_fails q whole n old new e (Err Memory) high same fails = tt
put_fails q whole n old new e (Ok x) high same fails = absurd same

-- a clause, with a height that is that of its rule

abbrev pub made : Place → Pats Place → Option (Ty Place) → Exp Place → Clause Place
made p qs t e = record { place = p; pats = qs; result = t; body = e }

pub made_same : (p : Place) (qs rs : Pats Place) (t u : Option (Ty Place)) (e : Exp Place) → qs ≡ rs → t ≡ u → made p qs t e ≡ made p rs u e
made_same p qs rs t u e h k = ap (λ x. made p x t e) h ∙ ap (λ x. made p rs x e) k

pub made_fails : (p : Place) (qs : Pats Place) (t u : Option (Ty Place)) (e : Exp Place) (small : ℕ) (f : Failure) (r : Result LowClause Failure)
    → Gives {A = ℕ} {B = ℕ} (λ h. h) low small (Err f) → IsErrAnd r (λ g. g ≡ f) → t ≡ u → small ≡ rule_height (clause_rule (made p qs u e)) → Gives (λ c. clause_of c.tree) (λ c. low (rule_height (clause_rule c))) (made p qs t e) r
made_fails p qs t u e small TooHigh (Err TooHigh) high same k h = ap (λ x. low (rule_height (clause_rule (made p qs x e)))) k ∙ ap low (sym h) ∙ high
made_fails p qs t u e small Memory (Err TooHigh) high same k h = search (rules, same)
made_fails p qs t u e small f (Err Memory) high same k h = tt
made_fails p qs t u e small f (Ok x) high same k h = absurd same

-- a function, and others

pub binds_made : (v a : List Phrase) (b : ValBind Place) (bs : ValBinds Place) → a ≡ drop 1 v → b ≡ bind_in (first v) → bs ≡ binds_in (first a) → and_bind b bs ≡ and_bind (bind_in (at v 0)) (binds_in (at v 1))
binds_made v a b bs p hb hbs = ap (λ x. and_bind x bs) hb ∙ ap (and_bind (bind_in (at v 0))) (hbs ∙ ap (λ l. binds_in (first l)) p)

pub pats_made : (v a : List Phrase) (q : Pat Place) (qs : Pats Place) → a ≡ drop 1 v → q ≡ pat_in (first v) → qs ≡ pats_in (first a) → and_pat q qs ≡ and_pat (pat_in (at v 0)) (pats_in (at v 1))
pats_made v a q qs p hq hqs = ap (λ x. and_pat x qs) hq ∙ ap (and_pat (pat_in (at v 0))) (hqs ∙ ap (λ l. pats_in (first l)) p)

bind_in_functions : (b : ValBind Place) (bs : ValBinds Place) → low (bind_height b) ≡ false → is_low (of_functions [] (and_bind b bs)) ≡ false
bind_in_functions b bs high = still_too_high (bind_height b) (binds_height (and_bind b bs)) (omega arith) high

pub functions_fail : (b : ValBind Place) (bs : ValBinds Place) (n : ℕ) (old new : List Phrase) (e : Failure) (r : Result Unit Failure)
    → Gives {A = LowBind} (λ b. bind_of b.tree) (λ b. low (bind_height b)) b (Err e) → IsErrAnd r (λ f. f ≡ e) → Puts (of_functions [] (and_bind b bs)) n old new r
functions_fail b bs n old new TooHigh (Err TooHigh) high same = bind_in_functions b bs high
functions_fail b bs n old new Memory (Err TooHigh) high same = search (rules, same)
functions_fail b bs n old new e (Err Memory) high same = tt
functions_fail b bs n old new e (Ok x) high same = absurd same

pub functions_made : (v a : List Phrase) (xs : List (Name Place)) (b c : ValBind Place) (bs all : ValBinds Place) → a ≡ drop 3 v → xs ≡ [] → all ≡ and_bind b bs → b ≡ c → bs ≡ binds_in (first a)
    → of_functions xs all ≡ of_functions [] (and_bind c (binds_in (at v 3)))
functions_made v a xs b c bs all p none hall hb hbs =
    ap (λ x. of_functions x all) none ∙ ap (of_functions []) (hall ∙ ap (λ x. and_bind x bs) hb ∙ ap (and_bind c) (hbs ∙ ap (λ l. binds_in (first l)) p))

-- a clause after a bar, and others

two_drop : (v : List Phrase) → drop 1 (drop 1 v) ≡ drop 2 v
two_drop [] = refl
two_drop (x ∷ v) = refl

three_drop : (v : List Phrase) → drop 2 (drop 1 v) ≡ drop 3 v
three_drop [] = refl
three_drop (x ∷ v) = refl

pub clauses_off : (v a b d : List Phrase) → a ≡ drop 1 v → b ≡ drop 2 a → d ≡ drop 1 b → d ≡ drop 4 v
clauses_off v a b d p q r = r ∙ ap (drop 1) (q ∙ ap (drop 2) p ∙ three_drop v) ∙ dropped 3 v

pub clauses_made : (shape : Option Shape) (v a b : List Phrase) (c : Clause Place) (cs : List (Clause Place)) → a ≡ drop 1 v → b ≡ drop 2 a
    → c ≡ clause_from shape (pat_in (at a 0)) (right_side_in (at a 1)) → cs ≡ clauses_in (first b)
    → of_clauses (c ∷ cs) ≡ of_clauses (clause_from shape (pat_in (at v 1)) (right_side_in (at v 2)) ∷ clauses_in (at v 3))
clauses_made shape v a b c cs p q hc hcs =
    ap (λ x. of_clauses (x ∷ cs)) (hc ∙ ap (λ l. clause_from shape (pat_in (at l 0)) (right_side_in (at l 1))) p ∙ ap (λ l. clause_from shape (pat_in (at v 1)) (right_side_in (first l))) (two_drop v))
    ∙ ap (λ x. of_clauses (clause_from shape (pat_in (at v 1)) (right_side_in (at v 2)) ∷ x)) (hcs ∙ ap (λ l. clauses_in (first l)) (q ∙ ap (drop 2) p ∙ three_drop v))
