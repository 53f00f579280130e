-- A step over a derivation's nodes, for the phrases.
use Rattle.std.proofs.Common.{◌≡◌, ℕ, zero, suc, ◌+◌, ◌-◌, ◌<◌, ◌≤◌, List, [], ◌∷◌, ◌++◌, drop, get_or, length, reverse, refl, sym, ap, ◌∙◌, subst, arith}
use Rattle.std.proofs.lemmas.List.{drop_more, get_or-drop, reverse-append, length-reverse}
use Rattle.sml_read.specs.declared.grammar.Node.{Node}
use Rattle.sml_read.specs.declared.grammar.Node.TheVariants.{Leaf, Inner}
use Rattle.sml_read.specs.declared.grammar.Rule.{Rule}
use Rattle.sml_read.specs.declared.grammar.Symbol.{Symbol}
use Rattle.sml_read.specs.Grammar.{right_side}
use Rattle.sml_read.specs.Extents.{size_of, starts_of, ends_of, tokens_in, first_token}

-- the ends of the trees to come
abbrev pub Ends : List Node → ℕ → List ℕ → Type 0
Ends nodes i ends = (k : ℕ) → get_or ends k (length nodes) ≡ i + size_of (suc k) (drop i nodes)

pub no_ends : (nodes : List Node) (i : ℕ) → length nodes ≤ i → i ≤ length nodes → drop i nodes ≡ [] → Ends nodes i []
no_ends nodes i past within none k = let e : length nodes ≡ i + 0 = omega (arith, past, within) in e ∙ ap (λ ns. i + size_of (suc k) ns) (sym none)

-- after a token
pub leaf_ends : (nodes : List Node) (i : ℕ) (ns : List Node) (ends : List ℕ) (end : ℕ) → drop i nodes ≡ Leaf ∷ ns → ((k : ℕ) → get_or ends k (length nodes) ≡ suc i + size_of (suc k) ns) → end ≡ i + 1 → Ends nodes i (end ∷ ends)
leaf_ends nodes i ns ends end d h e zero = e ∙ ap (λ xs. i + size_of 1 xs) (sym d)
leaf_ends nodes i ns ends end d h e (suc k) =
    let g = h k in
    let s : suc i + size_of (suc k) ns ≡ i + suc (size_of (suc k) ns) = omega arith in
    g ∙ s ∙ ap (λ xs. i + size_of (suc (suc k)) xs) (sym d)

-- after a rule, whose parts end where the last of them does
add_suc : (m k : ℕ) → m + suc k ≡ suc (m + k)
add_suc m k = omega arith

last_end : (nodes : List Node) (i m : ℕ) (ns : List Node) (ends : List ℕ) → ((k : ℕ) → get_or ends k (length nodes) ≡ suc i + size_of (suc k) ns) → get_or ((i + 1) ∷ ends) m (length nodes) ≡ suc i + size_of m ns
last_end nodes i zero ns ends h = omega arith
last_end nodes i (suc m) ns ends h = h m

pub inner_ends : (nodes : List Node) (i : ℕ) (r : Rule) (ns : List Node) (ends : List ℕ) (end : ℕ) → drop i nodes ≡ Inner r ∷ ns → ((k : ℕ) → get_or ends k (length nodes) ≡ suc i + size_of (suc k) ns) → end ≡ get_or ((i + 1) ∷ ends) (length (right_side r)) (length nodes) → Ends nodes i (end ∷ drop (length (right_side r)) ends)
inner_ends nodes i r ns ends end d h e zero =
    let m = length (right_side r) in
    let z : m + 0 ≡ m = omega arith in
    let s : suc i + size_of m ns ≡ i + suc (size_of m ns) = omega arith in
    e ∙ last_end nodes i m ns ends h ∙ s ∙ ap (λ n. i + suc (size_of n ns)) (sym z) ∙ ap (λ xs. i + size_of 1 xs) (sym d)
inner_ends nodes i r ns ends end d h e (suc k) =
    let m = length (right_side r) in
    let s : suc i + size_of (suc (m + k)) ns ≡ i + suc (size_of (suc (m + k)) ns) = omega arith in
    get_or-drop m ends k (length nodes) ∙ h (m + k) ∙ s ∙ ap (λ n. i + suc (size_of n ns)) (sym (add_suc m k)) ∙ ap (λ xs. i + size_of (suc (suc k)) xs) (sym d)

pub inner_on : (nodes : List Node) (i : ℕ) (r : Rule) (ns : List Node) (ends opened : List ℕ) (end count : ℕ) (back : List Symbol) → drop i nodes ≡ Inner r ∷ ns → ((k : ℕ) → get_or ends k (length nodes) ≡ suc i + size_of (suc k) ns) → back ≡ reverse (right_side r) → count ≡ length back → end ≡ get_or ((i + 1) ∷ ends) count (length nodes) → opened ≡ drop count ends → Ends nodes i (end ∷ opened)
inner_on nodes i r ns ends opened end count back d h b c e o =
    let m : count ≡ length (right_side r) = c ∙ ap length b ∙ length-reverse (right_side r) in
    subst (λ xs. Ends nodes i (end ∷ xs)) (sym (o ∙ ap (λ n. drop n ends) m))
    (inner_ends nodes i r ns ends end d h (e ∙ ap (λ n. get_or ((i + 1) ∷ ends) n (length nodes)) m))

pub before : (nodes : List Node) (i : ℕ) (d node : Node) → 0 < i → i ≤ length nodes → get_or nodes (i - 1) d ≡ node → drop (i - 1) nodes ≡ node ∷ drop i nodes
before nodes i d node some within e =
    drop_more nodes (i - 1) d (omega (arith, some, within))
    ∙ ap (λ x. x ∷ drop (i - 1 + 1) nodes) e ∙ ap (λ n. node ∷ drop n nodes) (let s : i - 1 + 1 ≡ i = omega (arith, some) in s)

-- one end more
pub pushed : (new old : List ℕ) (end : ℕ) → new ≡ old ++ end ∷ [] → reverse new ≡ end ∷ reverse old
pushed new old end e = ap reverse e ∙ reverse-append old (end ∷ [])

pub ends_on : (nodes : List Node) (i : ℕ) (node : Node) (old new opened : List ℕ) (end : ℕ) → 0 < i → drop (i - 1) nodes ≡ node ∷ drop i nodes → reverse old ≡ ends_of i (drop i nodes) → new ≡ old ++ end ∷ [] → Ends nodes (i - 1) (end ∷ opened) → reverse new ≡ ends_of (i - 1) (drop (i - 1) nodes)
ends_on nodes i node old new opened end some d h n e =
    pushed new old end n ∙ ap (λ x. x ∷ reverse old) (e 0 ∙ ap (λ xs. i - 1 + size_of 1 xs) d) ∙ ap (λ xs. (i - 1 + size_of 1 (node ∷ drop i nodes)) ∷ xs) (h ∙ ap (λ n. ends_of n (drop i nodes)) (let s : i ≡ suc (i - 1) = omega (arith, some) in s))
    ∙ ap (ends_of (i - 1)) (sym d)

pub later : (nodes : List Node) (i : ℕ) (ends : List ℕ) → 0 < i → Ends nodes i ends → (k : ℕ) → get_or ends k (length nodes) ≡ suc (i - 1) + size_of (suc k) (drop i nodes)
later nodes i ends some h k = h k ∙ ap (λ n. n + size_of (suc k) (drop i nodes)) (let s : i ≡ suc (i - 1) = omega (arith, some) in s)

-- the first tokens, from the last node to the first
fewer_left : (i : ℕ) (nodes : List Node) → tokens_in (drop i nodes) ≤ tokens_in nodes
fewer_left zero nodes = omega arith
fewer_left (suc i) [] = omega arith
fewer_left (suc i) (Leaf ∷ nodes) = omega (arith, fewer_left i nodes)
fewer_left (suc i) (Inner r ∷ nodes) = fewer_left i nodes

start_left : (m : ℕ) (nodes : List Node) (i d : ℕ) → i < length nodes → get_or (starts_of m nodes) i d + tokens_in (drop i nodes) ≡ m + tokens_in nodes
start_left m [] i d h = omega (arith, h)
start_left m (Leaf ∷ nodes) zero d h = refl
start_left m (Inner r ∷ nodes) zero d h = refl
start_left m (Leaf ∷ nodes) (suc i) d h =
    let f = start_left (suc m) nodes i d (omega (arith, h)) in
    omega (arith, f)
start_left m (Inner r ∷ nodes) (suc i) d h = start_left m nodes i d (omega (arith, h))

first_left : (node : Node) (later : List Node) (t total : ℕ) → tokens_in (node ∷ later) ≤ total → t + tokens_in later ≡ total → first_token node t + tokens_in (node ∷ later) ≡ total
first_left Leaf later t total some h = omega (arith, some, h)
first_left (Inner r) later t total some h = h

-- how many tokens stand before a node and after it
pub tokens_on : (nodes : List Node) (i : ℕ) (node : Node) (t n : ℕ) → drop (i - 1) nodes ≡ node ∷ drop i nodes → t + tokens_in (drop i nodes) ≡ tokens_in nodes → n ≡ first_token node t → n + tokens_in (drop (i - 1) nodes) ≡ tokens_in nodes
tokens_on nodes i node t n a h e =
    let some : tokens_in (node ∷ drop i nodes) ≤ tokens_in nodes = subst (λ ns. tokens_in ns ≤ tokens_in nodes) a (fewer_left (i - 1) nodes) in
    ap (λ k. k + tokens_in (drop (i - 1) nodes)) e ∙ ap (λ ns. first_token node t + tokens_in ns) a ∙ first_left node (drop i nodes) t (tokens_in nodes) some h

pub start_on : (nodes : List Node) (i n d : ℕ) → 0 < i → i ≤ length nodes → n + tokens_in (drop (i - 1) nodes) ≡ tokens_in nodes → get_or (starts_of 0 nodes) (i - 1) d ≡ n
start_on nodes i n d some within h =
    let f = start_left 0 nodes (i - 1) d (omega (arith, some, within)) in
    omega (arith, f, h)
