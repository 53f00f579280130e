-- The tables against the rules alone.
use Rattle.std.proofs.Common.{◌≡◌, ℕ, zero, suc, ◌+◌, ◌<◌, List, [], ◌∷◌, ◌++◌, Bool, true, false, cond, Option, None, refl, sym, ap, ◌∙◌, subst, arith, append_assoc, append-nil}
use Rattle.std.specs.Prelude.{◌&&◌, ◌||◌}
use Rattle.std.proofs.lemmas.Bool.{eqb-true, eq-eqb, and_parts, and_from, false≢true}
use Rattle.sml_lex.specs.declared.token.Kind.{Kind}
use Rattle.sml_read.specs.declared.grammar.Part.{Part}
use Rattle.sml_read.specs.declared.grammar.Symbol.{Symbol}
use Rattle.sml_read.specs.declared.grammar.Symbol.TheVariants.{Word, Of}
use Rattle.sml_read.specs.declared.grammar.Node.{Node}
use Rattle.sml_read.specs.declared.grammar.Node.TheVariants.{Leaf, Inner}
use Rattle.sml_read.specs.Grammar.{right_side}
use Rattle.sml_read.specs.Parts.{part_of, may_be_empty}
use Rattle.sml_read.specs.Numbers.{kind_number}
use Rattle.sml_read.specs.Spelling.{begins_with, all_empty, side_begins_with, Leads}
use Rattle.sml_read.specs.CodeShortest.{shortest, shortest_text, weight}
use Rattle.sml_read.specs.CodeSteps.{cost}
use Rattle.sml_read.specs.Exact.{Spells, SpellsNothing, TablesAreExact}
use Rattle.sml_read.proofs.Tables.{kind_same, begins_so, empty_so, cost_so, shortest_so, short_so, starter_so}
use Rattle.sml_read.proofs.Trees.{side_begins_with-append, stops_of, runs_lead}

-- what the rules say, the tables say
or_left : (a b : Bool) → a ≡ true → (a || b) ≡ true
or_left true b h = refl
or_left false b h = absurd (false≢true h)

or_right : (a b : Bool) → b ≡ true → (a || b) ≡ true
or_right true b h = refl
or_right false b h = h

-- by its first part, or by what stands after an empty one
pass : (begun empty more begins may : Bool) → (begun ≡ true → begins ≡ true) → (empty ≡ true → may ≡ true) → (begun || (empty && more)) ≡ true → (begins || (may && more)) ≡ true
pass true empty more begins may f g h = or_left begins (may && more) (f refl)
pass false true more begins may f g h = or_right begins (may && more) (and_from _ _ (g refl) h)
pass false false more begins may f g h = absurd (false≢true h)

empties : (nodes : List Node) (ss : List Symbol) → Spells nodes ss [] → all_empty ss ≡ true
empties [] ss h = ap all_empty h
empties (Leaf ∷ nodes) [] h = absurd h
empties (Leaf ∷ nodes) (Word k ∷ ss) h = absurd h
empties (Leaf ∷ nodes) (Of p ∷ ss) h = absurd h
empties (Inner r ∷ nodes) [] h = absurd h
empties (Inner r ∷ nodes) (Word k ∷ ss) h = absurd h
empties (Inner r ∷ nodes) (Of p ∷ ss) h = stops_of r p ss h.0 (empties nodes (right_side r ++ ss) h.1)

firsts : (nodes : List Node) (ss : List Symbol) (k : Kind) (ts : List Kind) → Spells nodes ss (k ∷ ts) → side_begins_with ss k ≡ true
firsts [] ss k ts h = absurd h
firsts (Leaf ∷ nodes) [] k ts h = absurd h
firsts (Leaf ∷ nodes) (Word x ∷ ss) k ts h = eq-eqb _ _ (ap kind_number (sym h.0))
firsts (Leaf ∷ nodes) (Of p ∷ ss) k ts h = absurd h
firsts (Inner r ∷ nodes) [] k ts h = absurd h
firsts (Inner r ∷ nodes) (Word x ∷ ss) k ts h = absurd h
firsts (Inner r ∷ nodes) (Of p ∷ ss) k ts h =
    subst (λ p. (begins_with p k || (may_be_empty p && side_begins_with ss k)) ≡ true) h.0
    (pass (side_begins_with (right_side r) k) (all_empty (right_side r)) (side_begins_with ss k) (begins_with (part_of r) k) (may_be_empty (part_of r)) (begins_so r k) (empty_so r)
    (sym (side_begins_with-append (right_side r) ss k) ∙ firsts nodes (right_side r ++ ss) k ts h.1))

left_of : (a b : Bool) → (a && b) ≡ true → a ≡ true
left_of a b h = (and_parts a b h).0

one_of : (a b : Bool) → (a || (b && false)) ≡ true → a ≡ true
one_of true b h = refl
one_of false true h = absurd (false≢true h)
one_of false false h = absurd (false≢true h)

-- what the tables say, the rules say
joined : (a : List Node) (s : List Symbol) (t : List Kind) (b : List Node) (m : List Symbol) (u : List Kind) → Spells a s t → Spells b m u → Spells (a ++ b) (s ++ m) (t ++ u)
joined [] s [] b m u h g = subst (λ x. Spells b (x ++ m) u) (sym h) g
joined [] s (x ∷ t) b m u h g = absurd h
joined (Leaf ∷ a) [] t b m u h g = absurd h
joined (Leaf ∷ a) (Word k ∷ s) [] b m u h g = absurd h
joined (Leaf ∷ a) (Word k ∷ s) (x ∷ t) b m u h g = (h.0, joined a s t b m u h.1 g)
joined (Leaf ∷ a) (Of p ∷ s) t b m u h g = absurd h
joined (Inner r ∷ a) [] t b m u h g = absurd h
joined (Inner r ∷ a) (Word k ∷ s) t b m u h g = absurd h
joined (Inner r ∷ a) (Of p ∷ s) t b m u h g =
    (h.0, subst (λ x. Spells (a ++ b) x (t ++ u)) (append_assoc (right_side r) s m) (joined a (right_side r ++ s) t b m u h.1 g))

-- greed aside
spelt : (nodes : List Node) (ss : List Symbol) (ts : List Kind) (next : Option Kind) → Leads nodes ss ts next [] → Spells nodes ss ts
spelt [] ss [] next h = h
spelt [] ss (x ∷ ts) next h = absurd h
spelt (Leaf ∷ nodes) [] ts next h = absurd h
spelt (Leaf ∷ nodes) (Word k ∷ ss) [] next h = absurd h
spelt (Leaf ∷ nodes) (Word k ∷ ss) (x ∷ ts) next h = (h.0, spelt nodes ss ts next h.1)
spelt (Leaf ∷ nodes) (Of p ∷ ss) ts next h = absurd h
spelt (Inner r ∷ nodes) [] ts next h = absurd h
spelt (Inner r ∷ nodes) (Word k ∷ ss) ts next h = absurd h
spelt (Inner r ∷ nodes) (Of p ∷ ss) ts next h = (h.0, spelt nodes (right_side r ++ ss) ts next h.2)

short_tree : (p : Part) → Spells (shortest p) (Of p ∷ []) (shortest_text p)
short_tree p =
    subst (λ ns. Spells ns (Of p ∷ []) (shortest_text p)) (append-nil (shortest p))
    (subst (λ ts. Spells (shortest p ++ []) (Of p ∷ []) ts) (append-nil (shortest_text p))
    (spelt (shortest p ++ []) (Of p ∷ []) (shortest_text p ++ []) None
    (runs_lead (shortest p) (Of p ∷ []) (shortest_text p) None [] [] [] (shortest_so p None refl) refl refl)))

short_trees : (ss : List Symbol) → (nodes : List Node) × (ts : List Kind) × Spells nodes ss ts
short_trees [] = ([], [], refl)
short_trees (Word k ∷ ss) = let s = short_trees ss in (Leaf ∷ s.0, k ∷ s.1, (refl, s.2))
short_trees (Of p ∷ ss) =
    let s = short_trees ss in
    (shortest p ++ s.0, shortest_text p ++ s.1, joined (shortest p) (Of p ∷ []) (shortest_text p) s.0 ss s.1 (short_tree p) s.2)

nothing_of : (p : Part) → may_be_empty p ≡ true → SpellsNothing p
nothing_of p h = (shortest p, subst (Spells (shortest p) (Of p ∷ [])) (short_so p h) (short_tree p))

abbrev First : List Symbol → Kind → Type 0
First ss k = (nodes : List Node) × (ts : List Kind) × Spells nodes ss (k ∷ ts)

-- a tree of the first part, and short ones of those after it
first_part : (p : Part) (ss : List Symbol) (k : Kind) → First (Of p ∷ []) k → First (Of p ∷ ss) k
first_part p ss k f =
    let s = short_trees ss in
    (f.0 ++ s.0, f.1 ++ s.1, joined f.0 (Of p ∷ []) (k ∷ f.1) s.0 ss s.1 f.2 s.2)

after_empty : (p : Part) (ss : List Symbol) (k : Kind) → SpellsNothing p → First ss k → First (Of p ∷ ss) k
after_empty p ss k n f =
    (n.0 ++ f.0, f.1, joined n.0 (Of p ∷ []) [] f.0 ss (k ∷ f.1) n.1 f.2)

first_of_side : (n : ℕ) (k : Kind) → ((p : Part) → weight p < n → begins_with p k ≡ true → First (Of p ∷ []) k) → (ss : List Symbol) → cost ss < n → side_begins_with ss k ≡ true → First ss k
first_of_side n k by_part [] l h = absurd (false≢true h)
first_of_side n k by_part (Word x ∷ ss) l h =
    let s = short_trees ss in (Leaf ∷ s.0, s.1, (sym (kind_same k x (eqb-true _ _ h)), s.2))
first_of_side n k by_part (Of p ∷ ss) l h =
    by_test (λ l h. first_of_side n k by_part ss l h) (begins_with p k) (may_be_empty p) refl refl h l
  where
    by_test : (cost ss < n → side_begins_with ss k ≡ true → First ss k) → (b m : Bool) → begins_with p k ≡ b → may_be_empty p ≡ m → (b || (m && side_begins_with ss k)) ≡ true → weight p + cond m (cost ss) 0 < n → First (Of p ∷ ss) k
    by_test on true m e d g l = first_part p ss k (by_part p (omega (arith, l)) e)
    by_test on false true e d g l = after_empty p ss k (nothing_of p d) (on (omega (arith, l)) g)
    by_test on false false e d g l = absurd (false≢true g)

first_of_part : (n : ℕ) (k : Kind) (p : Part) → weight p < n → begins_with p k ≡ true → First (Of p ∷ []) k
first_of_part zero k p l h = absurd (omega (arith, l))
first_of_part (suc n) k p l h =
    let so = starter_so p k h in
    let c : cost (right_side so.0) < weight p = subst (λ q. cost (right_side so.0) < weight q) so.1 (cost_so so.0) in
    let f = first_of_side n k (first_of_part n k) (right_side so.0) (omega (arith, c, l)) so.2 in
    (Inner so.0 ∷ f.0, f.1, (so.1, subst (λ ss. Spells f.0 ss (k ∷ f.1)) (sym (append-nil (right_side so.0))) f.2))

pub tables_exact : TablesAreExact
tables_exact = record {
  empty = nothing_of;
  only_empty = λ part h. left_of _ _ (empties h.0 (Of part ∷ []) h.1);
  begins = λ part k h. first_of_part (suc (weight part)) k part (omega arith) h;
  only_begins = λ part k h. one_of _ _ (firsts h.0 (Of part ∷ []) k h.1 h.2);
}
