-- Taking the parts of a phrase off a stack, one by one.
use Rattle.std.proofs.Common.{◌≡◌, ℕ, suc, ◌+◌, ◌-◌, ◌<◌, ◌≤◌, List, [], ◌∷◌, min, take, drop, get_or, length, refl, sym, ap, ◌∙◌, arith}
use Rattle.std.proofs.Math.Nat.{min-eq_left}
use Rattle.std.proofs.lemmas.List.{get_or-take, get_or-drop, drop-drop, drop_more}
use Rattle.sml_read.specs.declared.grammar.Node.{Node}
use Rattle.sml_read.specs.declared.grammar.Node.TheVariants.{Leaf, Inner}
use Rattle.sml_read.specs.Extents.{starts_of}
use Rattle.sml_tree.specs.Trees.{Id}
use Rattle.sml_reach.specs.Founds.{Found}
use Rattle.sml_reach.specs.Events.{founds_from, founds_of}

pub part_is : {A : Type 0} (old vs : List A) (count index : ℕ) (d : A) → index < count → old ≡ drop (min index count) vs → get_or old 0 d ≡ get_or (take count vs) index d
part_is old vs count index d within e =
    let m = min-eq_left {n = index} {m = count} (omega (arith, within)) in
    let z : index + 0 ≡ index = omega arith in
    ap (λ xs. get_or xs 0 d) e ∙ ap (λ n. get_or (drop n vs) 0 d) m ∙ get_or-drop index vs 0 d ∙ ap (λ n. get_or vs n d) z ∙ sym (get_or-take count vs index d within)

pub rest_is : {A : Type 0} (old vs : List A) (count index : ℕ) → index < count → old ≡ drop (min index count) vs → drop 1 old ≡ drop (min (index + 1) count) vs
rest_is old vs count index within e =
    let m = min-eq_left {n = index} {m = count} (omega (arith, within)) in
    let n = min-eq_left {n = index + 1} {m = count} (omega (arith, within)) in
    ap (drop 1) (e ∙ ap (λ n. drop n vs) m) ∙ drop-drop 1 index vs ∙ ap (λ n. drop n vs) (sym n)

-- each node has a number
pub length-starts_of : (n : ℕ) (nodes : List Node) → length (starts_of n nodes) ≡ length nodes
length-starts_of n [] = refl
length-starts_of n (Leaf ∷ nodes) = ap suc (length-starts_of (suc n) nodes)
length-starts_of n (Inner rule ∷ nodes) = ap suc (length-starts_of n nodes)

-- an element before those after it
pub one_before : {A : Type 0} (xs : List A) (i : ℕ) (d x : A) → 0 < i → i ≤ length xs → get_or xs (i - 1) d ≡ x → drop (i - 1) xs ≡ x ∷ drop i xs
one_before xs i d x some within e =
    drop_more xs (i - 1) d (omega (arith, some, within))
    ∙ ap (λ x. x ∷ drop (i - 1 + 1) xs) e ∙ ap (λ n. x ∷ drop n xs) (let s : i - 1 + 1 ≡ i = omega (arith, some) in s)

pub founds_on : (text : ℕ → Id) (nodes more : List Node) (starts later : List ℕ) (node : Node) (n : ℕ) (new old : List Found) → nodes ≡ node ∷ more → starts ≡ n ∷ later → new ≡ founds_from text node n old → old ≡ founds_of text more later → new ≡ founds_of text nodes starts
founds_on text nodes more starts later node n new old a b e h = e ∙ ap (founds_from text node n) h ∙ ap (λ ns. founds_of text (node ∷ more) ns) (sym b) ∙ ap (λ ns. founds_of text ns starts) (sym a)
