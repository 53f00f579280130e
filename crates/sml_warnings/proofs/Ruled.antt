-- The patterns of rules, one after the other.
use Rattle.std.proofs.Common.{◌≡◌, ℕ, zero, suc, ◌+◌, ◌<◌, ◌≤◌, true, false, List, [], ◌∷◌, ◌++◌, map, length, take, get_or, Some, None, inl, inr, refl, ap, sym, subst, ◌∙◌, arith}
use Rattle.std.specs.Prelude.{slice_get}
use Rattle.std.specs.Borrow.{Bor}
use Rattle.std.proofs.lemmas.List.{map-append, take_more}
use Rattle.sml_lex.specs.declared.fault.Place.{Place}
use Rattle.sml_tree.specs.Trees.{LongId}
use Rattle.sml_tree.specs.Names.{LongName}
use Rattle.sml_tree.specs.Patterns as T
use Rattle.sml_tree.specs.Expressions as E
use Rattle.sml_tree.specs.PatternViews.{pat_of}
use Rattle.sml_tree.specs.ExpressionViews.{exp_of, dec_layer, exp_layer, field_layer, rule_layer, bind_layer, rule_of, rules_of}
use Rattle.sml_tree.specs.declared.patterns.Pat.{Pat}
use Rattle.sml_tree.specs.declared.expressions.Rule.{Rule, out-Rule, fold_out-Rule}
use Rattle.sml_core_rules.specs.Expressions.{rule_patterns}
use Rattle.sml_patterns.specs.Warnings.{written}
use Rattle.sml_patterns.specs.declared.names.Meaning.{Meaning}
use Rattle.sml_warnings.specs.Named.{is_everything, after_pat, after_patterns}
use Rattle.sml_warnings.specs.Lost.{StandsIn, StandsInPatterns}
use Rattle.sml_warnings.specs.Added.{is_clear}
use Rattle.sml_warnings.specs.declared.matches.Kind.{Kind}
use Rattle.sml_warnings.specs.declared.matches.Kind.TheVariants.{Fn, Handle}

-- a rule's place and its pattern
abbrev pub pattern_of : Rule → Place × T.Pat Place
pattern_of r = ((out-Rule r).place, pat_of (out-Rule r).pat)

rule_of-parts : (r : Rule) → rule_of r ≡ E.rule (out-Rule r).place (pat_of (out-Rule r).pat) (exp_of (out-Rule r).exp)
rule_of-parts r = fold_out-Rule (E.Dec Place) (E.Exp Place) (E.Field Place) (E.Rule Place) (E.ValBind Place) dec_layer exp_layer field_layer rule_layer bind_layer r

pub patterns_are : (rs : List Rule) → rule_patterns (rules_of (map rule_of rs)) ≡ map pattern_of rs
patterns_are [] = refl
patterns_are (r ∷ rs) =
    ap (λ u. rule_patterns (E.and_rule u (rules_of (map rule_of rs)))) (rule_of-parts r) ∙ ap (λ qs. pattern_of r ∷ qs) (patterns_are rs)

mapped_more : {X Y : Type 0} (f : X → Y) (xs : List X) (i : ℕ) (x : X) → i < length xs → x ≡ get_or xs i x → map f (take (i + 1) xs) ≡ map f (take i xs) ++ f x ∷ []
mapped_more f xs i x lt is =
    ap (map f) (take_more xs i x lt) ∙ map-append f (take i xs) (get_or xs i x ∷ []) ∙ ap (λ y. map f (take i xs) ++ f y ∷ []) (sym is)

written_more : (ps : List (Place × Bor Pat)) (p : Place × Bor Pat) → written (ps ++ p ∷ []) ≡ written ps ++ (p.0, pat_of p.1.now) ∷ []
written_more [] p = refl
written_more (q ∷ ps) p = ap (λ qs. (q.0, pat_of q.1.now) ∷ qs) (written_more ps p)

-- one more pattern of a rule
pub pattern_more : (rs : List Rule) (i : ℕ) (r : Rule) (old new : List (Place × Bor Pat)) (p : Place × Bor Pat) → i < length rs → r ≡ get_or rs i r → new ≡ old ++ p ∷ [] → (p.0, pat_of p.1.now) ≡ pattern_of r → written old ≡ map pattern_of (take i rs) → written new ≡ map pattern_of (take (i + 1) rs)
pattern_more rs i r old new p lt is e k h =
    ap written e ∙ written_more old p ∙ ap (λ qs. qs ++ (p.0, pat_of p.1.now) ∷ []) h ∙ ap (λ q. map pattern_of (take i rs) ++ q ∷ []) k ∙ sym (mapped_more pattern_of rs i r lt is)

after_more : (N : LongId → Meaning) (ps : List (Place × T.Pat Place)) (p : Place × T.Pat Place) (x : LongId) (m : Meaning) → after_patterns N (ps ++ p ∷ []) x m ≡ after_pat N p.1 x (after_patterns N ps x m)
after_more N [] p x m = refl
after_more N (q ∷ ps) p x m = after_more N ps p x (after_pat N q.1 x m)

-- what was noted with one more
pub noted_more : (N : LongId → Meaning) (rs : List Rule) (i : ℕ) (r : Rule) (x : LongId) (m old new : Meaning) → i < length rs → r ≡ get_or rs i r → new ≡ after_pat N (pat_of (out-Rule r).pat) x old → old ≡ after_patterns N (map pattern_of (take i rs)) x m → new ≡ after_patterns N (map pattern_of (take (i + 1) rs)) x m
noted_more N rs i r x m old new lt is e h =
    e ∙ ap (after_pat N (pat_of (out-Rule r).pat) x) h ∙ sym (after_more N (map pattern_of (take i rs)) (pattern_of r) x m) ∙ ap (λ ps. after_patterns N ps x m) (sym (mapped_more pattern_of rs i r lt is))

stands-at : (F : LongName Place → Type 0) (rs : List Rule) (i : ℕ) (d : Rule) → i < length rs → StandsIn F (pat_of (out-Rule (get_or rs i d)).pat) → StandsInPatterns F (map pattern_of rs)
stands-at F [] i d lt h = absurd (omega (arith, lt))
stands-at F (r ∷ rs) zero d lt h = inl h
stands-at F (r ∷ rs) (suc i) d lt h = inr (stands-at F rs i d (omega (arith, lt)) h)

-- what stands in a rule's pattern stands in those of the rules
pub stands_at : (F : LongName Place → Type 0) (rs : List Rule) (i : ℕ) (r : Rule) → i < length rs → r ≡ get_or rs i r → StandsIn F (pat_of (out-Rule r).pat) → StandsInPatterns F (rule_patterns (rules_of (map rule_of rs)))
stands_at F rs i r lt is h =
    subst (StandsInPatterns F) (sym (patterns_are rs)) (stands-at F rs i r lt (subst (λ q. StandsIn F (pat_of (out-Rule q).pat)) is h))

clear-many : (N : LongId → Meaning) (k : Kind) (rs : List Rule) → 1 < length rs → is_clear N k (map pattern_of rs) ≡ false
clear-many N k [] lt = absurd (omega (arith, lt))
clear-many N k (r ∷ []) lt = absurd (omega (arith, lt))
clear-many N Fn (r ∷ (s ∷ rs)) lt = refl
clear-many N Handle (r ∷ (s ∷ rs)) lt = refl

pub clear_many : (N : LongId → Meaning) (k : Kind) (rs : List Rule) → 1 < length rs → false ≡ is_clear N k (rule_patterns (rules_of (map rule_of rs)))
clear_many N k rs lt = sym (ap (is_clear N k) (patterns_are rs) ∙ clear-many N k rs lt)

clear-handle : (N : LongId → Meaning) (rs : List Rule) → length rs ≤ 1 → is_clear N Handle (map pattern_of rs) ≡ true
clear-handle N [] le = refl
clear-handle N (r ∷ []) le = refl
clear-handle N (r ∷ (s ∷ rs)) le = absurd (omega (arith, le))

pub clear_handle : (N : LongId → Meaning) (rs : List Rule) → length rs ≤ 1 → true ≡ is_clear N Handle (rule_patterns (rules_of (map rule_of rs)))
clear_handle N rs le = sym (ap (is_clear N Handle) (patterns_are rs) ∙ clear-handle N rs le)

clear-none : (N : LongId → Meaning) (rs : List Rule) → None ≡ slice_get rs 0 → is_clear N Fn (map pattern_of rs) ≡ false
clear-none N [] e = refl
clear-none N (r ∷ rs) e = cc

pub clear_none : (N : LongId → Meaning) (rs : List Rule) → None ≡ slice_get rs 0 → false ≡ is_clear N Fn (rule_patterns (rules_of (map rule_of rs)))
clear_none N rs e = sym (ap (is_clear N Fn) (patterns_are rs) ∙ clear-none N rs e)

clear-one : (N : LongId → Meaning) (rs : List Rule) (r : Rule) → length rs ≤ 1 → Some r ≡ slice_get rs 0 → is_clear N Fn (map pattern_of rs) ≡ is_everything N (pat_of (out-Rule r).pat)
clear-one N [] r le e = cc
clear-one N (q ∷ []) r le e =
    let i : q ≡ r = cc in
    ap (λ u. is_everything N (pat_of (out-Rule u).pat)) i
clear-one N (q ∷ (s ∷ rs)) r le e = absurd (omega (arith, le))

pub clear_one : (N : LongId → Meaning) (rs : List Rule) (r : Rule) → length rs ≤ 1 → Some r ≡ slice_get rs 0 → is_everything N (pat_of (out-Rule r).pat) ≡ is_clear N Fn (rule_patterns (rules_of (map rule_of rs)))
clear_one N rs r le e = sym (ap (is_clear N Fn) (patterns_are rs) ∙ clear-one N rs r le e)

stands-one : (F : LongName Place → Type 0) (rs : List Rule) (r : Rule) → Some r ≡ slice_get rs 0 → StandsIn F (pat_of (out-Rule r).pat) → StandsInPatterns F (map pattern_of rs)
stands-one F [] r e h = cc
stands-one F (q ∷ rs) r e h =
    let i : r ≡ q = cc in
    inl (subst (λ u. StandsIn F (pat_of (out-Rule u).pat)) i h)

pub stands_first : (F : LongName Place → Type 0) (rs : List Rule) (r : Rule) → Some r ≡ slice_get rs 0 → StandsIn F (pat_of (out-Rule r).pat) → StandsInPatterns F (rule_patterns (rules_of (map rule_of rs)))
stands_first F rs r e h = subst (StandsInPatterns F) (sym (patterns_are rs)) (stands-one F rs r e h)
