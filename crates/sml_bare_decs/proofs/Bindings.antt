-- Bindings, and others after them.
use Rattle.std.proofs.Common.{◌≡◌, ℕ, List, [], ◌∷◌, ◌++◌, map, reverse, max, drop, ap, sym, ◌∙◌, refl, arith}
use Rattle.std.proofs.lemmas.List.{reverse-append, map-append}
use Rattle.sml_lex.specs.declared.fault.Place.{Place}
use Rattle.sml_tree.specs.Patterns.{Pat}
use Rattle.sml_tree.specs.Expressions.{Exp, ValBind, ValBinds, bind, no_bind, and_bind}
use Rattle.sml_tree.specs.ExpressionViews.{binds_of}
use Rattle.sml_tree.specs.Heights.{bind_height, binds_height}
use Rattle.sml_phrases.specs.Phrases.{Phrase, of_values, first, at, pat_in, exp_in}
use Rattle.sml_phrases.proofs.Drops.{two_off, three_off}
use Rattle.sml_bare_decs.specs.DeclarationRules.{joined, values_in, and_value}

binds_of-append : (bs cs : List (ValBind Place)) → binds_of (bs ++ cs) ≡ joined (binds_of bs) (binds_of cs)
binds_of-append [] cs = refl
binds_of-append (b ∷ bs) cs = ap (and_bind b) (binds_of-append bs cs)

pub joined_lists : {A : Type 0} (f : A → ValBind Place) (xs ys : List A) → binds_of (map f (reverse (xs ++ ys))) ≡ joined (binds_of (map f (reverse ys))) (binds_of (map f (reverse xs)))
joined_lists f xs ys =
    ap (λ zs. binds_of (map f zs)) (reverse-append xs ys)
    ∙ ap binds_of (map-append f (reverse ys) (reverse xs))
    ∙ binds_of-append (map f (reverse ys)) (map f (reverse xs))

pub joined_height : (bs cs : ValBinds Place) → binds_height (joined bs cs) ≡ max (binds_height bs) (binds_height cs)
joined_height no_bind cs = omega arith
joined_height (and_bind b bs) cs = let h = joined_height bs cs in omega (arith, h)

pub value_made : (v a b d : List Phrase) (q : Pat Place) (e : Exp Place) (bs recs : ValBinds Place) → a ≡ drop 1 v → b ≡ drop 1 a → d ≡ drop 1 b
    → q ≡ pat_in (first v) → e ≡ exp_in (first b) → bs ≡ (values_in (first d)).plain → recs ≡ (values_in (first d)).recursive
    → of_values [] (and_bind (bind q e) bs) recs ≡ and_value (pat_in (at v 0)) (exp_in (at v 2)) (values_in (at v 3))
value_made v a b d q e bs recs o p r hq he hbs hrecs =
    ap (λ x. of_values [] (and_bind (bind x e) bs) recs) hq
    ∙ ap (λ x. of_values [] (and_bind (bind (pat_in (at v 0)) x) bs) recs) (he ∙ ap (λ l. exp_in (first l)) (two_off v a b o p))
    ∙ ap (λ x. of_values [] (and_bind (bind (pat_in (at v 0)) (exp_in (at v 2))) x) recs) hbs
    ∙ ap (λ x. of_values [] (and_bind (bind (pat_in (at v 0)) (exp_in (at v 2))) (values_in (first d)).plain) x) hrecs
    ∙ ap (λ l. and_value (pat_in (at v 0)) (exp_in (at v 2)) (values_in (first l))) (three_off v a b d o p r)
