-- The name that a clause's head has is marked, and is none that can't be bound.
use Rattle.std.proofs.Common.{◌≡◌, ℕ, suc, ◌+◌, ◌<◌, ◌≤◌, List, [], ◌∷◌, ◌++◌, Bool, true, false, Option, Some, None, refl, sym, ap, ◌∙◌, subst, inl, inr, ◌⊎◌, arith}
use Rattle.std.specs.Prelude.{if◌then◌else◌}
use Rattle.std.specs.List.{cons_option}
use Rattle.std.specs.Option.{option_map}
use Rattle.std.proofs.lemmas.Bool.{false≢true, and_parts, and_from, eqb-true, eq-eqb}
use Rattle.sml_tree.specs.Trees.{Id}
use Rattle.sml_objects.specs.Appearance.{Stands}
use Rattle.sml_fixity.specs.declared.heads.Head.{Head}
use Rattle.sml_fixity.specs.declared.heads.Head.TheVariants as H
use Rattle.sml_read.specs.declared.grammar.Rule.{Rule}
use Rattle.sml_read.specs.declared.grammar.Node.{Node}
use Rattle.sml_read.specs.declared.grammar.Node.TheVariants.{Leaf, Inner}
use Rattle.sml_reach.specs.Fits.{Fit}
use Rattle.sml_flaws.specs.declared.role.Word.{Word as Wd}
use Rattle.sml_flaws.specs.declared.role.Word.TheVariants as W
use Rattle.sml_flaws.specs.declared.mark.Clause.{Clause}
use Rattle.sml_flaws.specs.declared.mark.Context.{Context}
use Rattle.sml_flaws.specs.declared.mark.Mark.{Mark}
use Rattle.sml_flaws.specs.declared.mark.Mark.TheVariants as Mk
use Rattle.sml_flaws.specs.Marks.{next, word_mark, rule_mark, parts_of, marks_of}
use Rattle.sml_flaws.specs.Known.{is_atom, atom_at, head_at, is_again, token_in}
use Rattle.sml_flaws.specs.Flaws.{position, name_by, barred_value, is_reserved, flaws_by, flaws_of}
use Rattle.sml_tree_laws.proofs.MarksApart.{At, Apart, one_place, rule_elsewhere}
use Rattle.sml_tree_laws.proofs.Declared.{if_none}
use Rattle.sml_tree_laws.proofs.Clean.{both_none, none_by}

abbrev pub identifier : ℕ → ℕ → ℕ → Bool → Mark
identifier n j t b = Mk.Identifier (record { sequence = n; index = j; token = t; binds = b })

-- lists

abbrev reversed : List Mark → List Mark → List Mark
reversed [] done = done
reversed (m ∷ ms) done = reversed ms (m ∷ done)

stands_done : (ms done : List Mark) (x : Mark) → Stands x done → Stands x (reversed ms done)
unfolding Stands
stands_done [] done x h = h
stands_done (m ∷ ms) done x h = stands_done ms (m ∷ done) x (inr h)

stands_reversed : (ms done : List Mark) (x : Mark) → Stands x ms → Stands x (reversed ms done)
unfolding Stands
stands_reversed [] done x h = absurd h
stands_reversed (m ∷ ms) done x (inl e) = stands_done ms (m ∷ done) x (inl e)
stands_reversed (m ∷ ms) done x (inr s) = stands_reversed ms (m ∷ done) x s

of_reversed : (ms done : List Mark) (x : Mark) → Stands x (reversed ms done) → Stands x ms ⊎ Stands x done
unfolding Stands
of_reversed [] done x h = inr h
of_reversed (m ∷ ms) done x h = go (of_reversed ms (m ∷ done) x h)
  where
    go : Stands x ms ⊎ Stands x (m ∷ done) → Stands x (m ∷ ms) ⊎ Stands x done
    go (inl s) = inl (inr s)
    go (inr (inl e)) = inl (inl e)
    go (inr (inr s)) = inr s

stands_first : (ms more : List Mark) (x : Mark) → Stands x ms → Stands x (ms ++ more)
unfolding Stands
stands_first [] more x h = absurd h
stands_first (m ∷ ms) more x (inl e) = inl e
stands_first (m ∷ ms) more x (inr s) = inr (stands_first ms more x s)

stands_either : (ms more : List Mark) (x : Mark) → Stands x (ms ++ more) → Stands x ms ⊎ Stands x more
unfolding Stands
stands_either [] more x h = inr h
stands_either (m ∷ ms) more x (inl e) = inl (inl e)
stands_either (m ∷ ms) more x (inr s) = go (stands_either ms more x s)
  where
    go : Stands x ms ⊎ Stands x more → Stands x (m ∷ ms) ⊎ Stands x more
    go (inl s) = inl (inr s)
    go (inr s) = inr s

-- marks of identifiers stand at tokens, in order

same_some : {m m' : Mark} → Some m ≡ Some m' → m ≡ m'
same_some e = cc

abbrev IsAfter : ℕ → Mark → Type 0
IsAfter a (Mk.Identifier x) = a ≤ x.token
IsAfter a _ = Unit {0}

after_later : (a a' : ℕ) (m : Mark) → a ≤ a' → IsAfter a' m → IsAfter a m
after_later a a' (Mk.Identifier x) l h = omega (arith, l, h)
after_later a a' (Mk.Bound x) l h = tt
after_later a a' (Mk.Listed x) l h = tt
after_later a a' (Mk.Owned x) l h = tt
after_later a a' (Mk.Pun n) l h = tt
after_later a a' (Mk.Real n) l h = tt
after_later a a' (Mk.Clause x) l h = tt

word_after : (a : ℕ) (c : Context) (w : Wd) (m : Mark) → word_mark w a c ≡ Some m → IsAfter a m
word_after a c W.Plain m e = absurd (no e)
  where
    no : None ≡ Some m → ⊥
    no e = cc
word_after a c W.Constant m e = absurd (no e)
  where
    no : None ≡ Some m → ⊥
    no e = cc
word_after a c (W.Bound space) m e = subst (IsAfter a) (same_some e) tt
word_after a c W.Listed m e = subst (IsAfter a) (same_some e) tt
word_after a c W.Variable m e = go c.owner e
  where
    go : (o : Option ℕ) → option_map (λ owner. Mk.Owned (record { owner = owner; token = a })) o ≡ Some m → IsAfter a m
    go None e = absurd (no e)
      where
        no : None ≡ Some m → ⊥
        no e = cc
    go (Some o) e = subst (IsAfter a) (same_some e) tt
word_after a c W.Atom m e = subst (IsAfter a) (same_some e) (omega arith)

rule_after : (r : Rule) (a : ℕ) (c : Context) (m : Mark) → rule_mark r a c ≡ Some m → IsAfter a m
rule_after r a c (Mk.Identifier x) e = absurd (rule_elsewhere x.sequence x.index r a c (Mk.Identifier x) e (refl, refl))
rule_after r a c (Mk.Bound x) e = tt
rule_after r a c (Mk.Listed x) e = tt
rule_after r a c (Mk.Owned x) e = tt
rule_after r a c (Mk.Pun n) e = tt
rule_after r a c (Mk.Real n) e = tt
rule_after r a c (Mk.Clause x) e = tt

first_or_later : (o : Option Mark) (ms : List Mark) (x : Mark) → Stands x (cons_option o ms) → (o ≡ Some x) ⊎ Stands x ms
unfolding Stands
first_or_later None ms x h = inr h
first_or_later (Some m) ms x (inl e) = inl (ap Some (sym e))
first_or_later (Some m) ms x (inr s) = inr s

marks_after : (nodes : List Node) (i a : ℕ) (cs : List Context) (x : Mark) → Stands x (marks_of i a cs nodes) → IsAfter a x
unfolding Stands
marks_after [] i a cs x h = absurd h
marks_after (node ∷ nodes) i a [] x h = absurd h
marks_after (Leaf ∷ nodes) i a (c ∷ cs) x h = go (first_or_later (word_mark c.word a c) (marks_of (suc i) (a + 1) cs nodes) x h) (marks_after nodes (suc i) (a + 1) cs x)
  where
    go : (word_mark c.word a c ≡ Some x) ⊎ Stands x (marks_of (suc i) (a + 1) cs nodes) → (Stands x (marks_of (suc i) (a + 1) cs nodes) → IsAfter (a + 1) x) → IsAfter a x
    go (inl e) f = word_after a c c.word x e
    go (inr s) f = after_later a (a + 1) x (omega arith) (f s)
marks_after (Inner r ∷ nodes) i a (c ∷ cs) x h = go (first_or_later (rule_mark r a c) (marks_of (suc i) a (parts_of i a c (Inner r) ++ cs) nodes) x h) (marks_after nodes (suc i) a (parts_of i a c (Inner r) ++ cs) x)
  where
    go : (rule_mark r a c ≡ Some x) ⊎ Stands x (marks_of (suc i) a (parts_of i a c (Inner r) ++ cs) nodes) → (Stands x (marks_of (suc i) a (parts_of i a c (Inner r) ++ cs) nodes) → IsAfter a x) → IsAfter a x
    go (inl e) f = rule_after r a c x e
    go (inr s) f = f s

-- what is found at a place

is_there : (n j : ℕ) (m : Mark) → is_atom m (position n j) ≡ true → At n j m
is_there n j (Mk.Identifier x) h = let b = and_parts _ _ h in (eqb-true x.sequence n b.0, eqb-true x.index j b.1)
is_there n j (Mk.Bound x) h = absurd (false≢true h)
is_there n j (Mk.Listed x) h = absurd (false≢true h)
is_there n j (Mk.Owned x) h = absurd (false≢true h)
is_there n j (Mk.Pun k) h = absurd (false≢true h)
is_there n j (Mk.Real k) h = absurd (false≢true h)
is_there n j (Mk.Clause x) h = absurd (false≢true h)

there_is : (n j : ℕ) (m : Mark) → At n j m → is_atom m (position n j) ≡ true
there_is n j (Mk.Identifier x) h = and_from _ _ (eq-eqb x.sequence n h.0) (eq-eqb x.index j h.1)
there_is n j (Mk.Bound x) h = absurd h
there_is n j (Mk.Listed x) h = absurd h
there_is n j (Mk.Owned x) h = absurd h
there_is n j (Mk.Pun k) h = absurd h
there_is n j (Mk.Real k) h = absurd h
there_is n j (Mk.Clause x) h = absurd h

finds : (n j : ℕ) (ms : List Mark) (x : Mark) → Stands x ms → At n j x → (y : Mark) × Stands y ms × At n j y × (atom_at ms (position n j) ≡ Some (token_in y))
unfolding Stands
finds n j [] x s h = absurd s
finds n j (m ∷ ms) x s h = go (is_atom m (position n j)) refl s (λ t. finds n j ms x t h)
  where
    go : (b : Bool) → is_atom m (position n j) ≡ b → Stands x (m ∷ ms) → (Stands x ms → (y : Mark) × Stands y ms × At n j y × (atom_at ms (position n j) ≡ Some (token_in y)))
        → (y : Mark) × Stands y (m ∷ ms) × At n j y × (atom_at (m ∷ ms) (position n j) ≡ Some (token_in y))
    go true e s f = (m, inl refl, is_there n j m e, ap (λ b. if b then Some (token_in m) else atom_at ms (position n j)) e)
    go false e (inl same) f = absurd (false≢true (sym e ∙ there_is n j m (subst (At n j) same h)))
    go false e (inr t) f = let k = f t in (k.0, inr k.1, k.2, ap (λ b. if b then Some (token_in m) else atom_at ms (position n j)) e ∙ k.3)

-- the place of a name in a head
abbrev pub Place : Head → ℕ → ℕ × ℕ
Place H.Prefix n = (n, 0)
Place H.Infix n = (n, 1)
Place H.Bracketed n = (next n, 1)

-- none of the names that the head of a sequence may have, at a token before one, can't be bound
abbrev pub Barred : (ℕ → Id) → List Fit → List Mark → ℕ → ℕ → Type 0
Barred text fits all n mid = (how : Head) → head_at fits n ≡ Some how → (t : ℕ) (b : Bool) → Stands (identifier (Place how n).0 (Place how n).1 t b) all → t < mid → is_reserved (text t) ≡ false

module _ (text : ℕ → Id) (fits : List Fit) where
  flaws_at : (done before : List Mark) (m : Mark) (rest : List Mark) → flaws_of text fits done (before ++ m ∷ rest) ≡ [] → flaws_by text fits (m ∷ reversed before done) m (is_again text (reversed before done) m) ≡ []
  flaws_at done [] m rest h = (both_none (flaws_by text fits (m ∷ done) m (is_again text done m)) (flaws_of text fits (m ∷ done) rest) h).0
  flaws_at done (x ∷ before) m rest h = flaws_at (x ∷ done) before m rest (both_none (flaws_by text fits (x ∷ done) x (is_again text done x)) (flaws_of text fits (x ∷ done) (before ++ m ∷ rest)) h).1

  module _ (all : List Mark) (apart : Apart all) (clean : flaws_of text fits [] all ≡ []) where
    pub barred_at : (before : List Mark) (x : Clause) (nodes : List Node) (i a : ℕ) (cs : List Context) → all ≡ before ++ (Mk.Clause x ∷ marks_of i a cs nodes) → Barred text fits all x.sequence a
    unfolding Stands
    barred_at before x nodes i a cs e how h t b s l = named how h s
      where
        known : List Mark
        known = reversed before []

        none : barred_value text (name_by (Mk.Clause x ∷ known) x.sequence (head_at fits x.sequence)) ≡ None
        none = (none_by text fits (Mk.Clause x ∷ known) (Mk.Clause x) (is_again text known (Mk.Clause x)) (flaws_at [] before (Mk.Clause x) (marks_of i a cs nodes) (subst (λ ms. flaws_of text fits [] ms ≡ []) e clean))).1

        earlier : (n j : ℕ) → Stands (identifier n j t b) before ⊎ Stands (identifier n j t b) (Mk.Clause x ∷ marks_of i a cs nodes) → Stands (identifier n j t b) before
        earlier n j (inl s) = s
        earlier n j (inr (inl q)) = absurd (unlike q)
          where
            unlike : identifier n j t b ≡ Mk.Clause x → ⊥
            unlike q = cc
        earlier n j (inr (inr s)) = let k = marks_after nodes i a cs (identifier n j t b) s in absurd (omega (arith, l, k))

        all_of : (y : Mark) → Stands y before ⊎ Stands y [] → Stands y all
        all_of y (inl s) = subst (λ ms. Stands y ms) (sym e) (stands_first before (Mk.Clause x ∷ marks_of i a cs nodes) y s)
        all_of y (inr s) = absurd s

        at : (n j : ℕ) → Stands (identifier n j t b) all → atom_at known (position n j) ≡ Some t
        at n j s =
            let k = finds n j known (identifier n j t b) (stands_reversed before [] (identifier n j t b) (earlier n j (stands_either before (Mk.Clause x ∷ marks_of i a cs nodes) (identifier n j t b) (subst (λ ms. Stands (identifier n j t b) ms) e s)))) (refl, refl) in
            k.3 ∙ ap (λ y. Some (token_in y)) (sym (one_place n j all (identifier n j t b) k.0 apart s (all_of k.0 (of_reversed before [] k.0 k.1)) (refl, refl) k.2))

        free : (o : Option ℕ) → o ≡ Some t → barred_value text o ≡ None → is_reserved (text t) ≡ false
        free o q k = if_none (is_reserved (text t)) t _ (subst (λ o. barred_value text o ≡ None) q k)

        named : (how : Head) → head_at fits x.sequence ≡ Some how → Stands (identifier (Place how x.sequence).0 (Place how x.sequence).1 t b) all → is_reserved (text t) ≡ false
        named H.Prefix q s = free _ (at x.sequence 0 s) (subst (λ o. barred_value text (name_by (Mk.Clause x ∷ known) x.sequence o) ≡ None) q none)
        named H.Infix q s = free _ (at x.sequence 1 s) (subst (λ o. barred_value text (name_by (Mk.Clause x ∷ known) x.sequence o) ≡ None) q none)
        named H.Bracketed q s = free _ (at (next x.sequence) 1 s) (subst (λ o. barred_value text (name_by (Mk.Clause x ∷ known) x.sequence o) ≡ None) q none)
