-- Lists that go from their last to their first, with one more in front.
use Rattle.std.proofs.Common.{◌≡◌, ℕ, List, [], ◌∷◌, ◌++◌, map, max, drop, reverse, ap, ◌∙◌, arith}
use Rattle.std.proofs.lemmas.List.{reverse-append}
use Rattle.sml_lex.specs.declared.fault.Place.{Place}
use Rattle.sml_tree.specs.Heights.{highest}
use Rattle.sml_tree.specs.Signatures.{WhereType}
use Rattle.sml_phrases.specs.Phrases.{Phrase, at, first, where_in}
use Rattle.sml_phrases.specs.PhraseViews.{low_where_of}
use Rattle.sml_phrases.specs.declared.low.LowWhere.{LowWhere}

pub pushed : {A B : Type 0} (f : A → B) (old new : List A) (x : A) → new ≡ old ++ x ∷ [] → map f (reverse new) ≡ f x ∷ map f (reverse old)
pushed f old new x e = ap (λ l. map f (reverse l)) e ∙ ap (map f) (reverse-append old (x ∷ []))

-- an equation in front of those that belong to the signature expression before it, with one kind of phrase after it, and with two
pub where_pushed : {R : Type 0} (make : List (WhereType Place) → R → Phrase) (wheres : Phrase → List (WhereType Place)) (rest : Phrase → R) (v a : List Phrase) (old new : List LowWhere) (w : LowWhere) (r : R)
    → a ≡ drop 1 v → new ≡ old ++ w ∷ [] → low_where_of w ≡ where_in (first v) → map low_where_of (reverse old) ≡ wheres (first a) → r ≡ rest (first a)
    → make (map low_where_of (reverse new)) r ≡ make (where_in (at v 0) ∷ wheres (at v 1)) (rest (at v 1))
where_pushed make wheres rest v a old new w r p e h ws rs =
    ap (λ z. make z r) (pushed low_where_of old new w e)
    ∙ ap (λ z. make (z ∷ map low_where_of (reverse old)) r) h
    ∙ ap (λ z. make (where_in (at v 0) ∷ z) r) (ws ∙ ap (λ l. wheres (first l)) p)
    ∙ ap (λ z. make (where_in (at v 0) ∷ wheres (at v 1)) z) (rs ∙ ap (λ l. rest (first l)) p)

pub where_pushed_two : {R S : Type 0} (make : List (WhereType Place) → R → S → Phrase) (wheres : Phrase → List (WhereType Place)) (rest : Phrase → R) (last : Phrase → S) (v a : List Phrase) (old new : List LowWhere) (w : LowWhere) (r : R) (s : S)
    → a ≡ drop 1 v → new ≡ old ++ w ∷ [] → low_where_of w ≡ where_in (first v) → map low_where_of (reverse old) ≡ wheres (first a) → r ≡ rest (first a) → s ≡ last (first a)
    → make (map low_where_of (reverse new)) r s ≡ make (where_in (at v 0) ∷ wheres (at v 1)) (rest (at v 1)) (last (at v 1))
where_pushed_two make wheres rest last v a old new w r s p e h ws rs ss =
    where_pushed (λ z y. make z y s) wheres rest v a old new w r p e h ws rs
    ∙ ap (λ z. make (where_in (at v 0) ∷ wheres (at v 1)) (rest (at v 1)) z) (ss ∙ ap (λ l. last (first l)) p)

pub highest_pushed : {A B : Type 0} (height : B → ℕ) (f : A → B) (old new : List A) (x : A) (h k m : ℕ)
    → new ≡ old ++ x ∷ [] → highest height (map f (reverse old)) ≡ h → height (f x) ≡ k → m ≡ max h k → highest height (map f (reverse new)) ≡ m
highest_pushed height f old new x h k m e high one most =
    let s = ap (highest height) (pushed f old new x e) in omega (arith, s, high, one, most)
