-- The phrases of a derivation: the tree of each node, by the nodes and the tokens that it takes up.
use Rattle.std.specs.Prelude.{ℕ, zero, suc, ◌+◌, ◌-◌, List, [], ◌∷◌, length}
use Rattle.sml_read.specs.declared.grammar.Node.{Node}
use Rattle.sml_read.specs.declared.grammar.Node.TheVariants.{Leaf, Inner}
use Rattle.sml_read.specs.Grammar.{right_side}

-- how many nodes the first trees take up, so many of them
abbrev pub size_of : ℕ → List Node → ℕ
size_of zero nodes = 0
size_of (suc n) [] = 0
size_of (suc n) (Leaf ∷ nodes) = suc (size_of n nodes)
size_of (suc n) (Inner r ∷ nodes) = suc (size_of (length (right_side r) + n) nodes)

-- for each node, the first of which is the i-th, the number of the node after its tree
abbrev pub ends_of : ℕ → List Node → List ℕ
ends_of i [] = []
ends_of i (node ∷ nodes) = (i + size_of 1 (node ∷ nodes)) ∷ ends_of (suc i) nodes

-- for each node the number of the first token of its tree, or of what comes after where it has none; so many tokens
-- stand before the first node
abbrev pub starts_of : ℕ → List Node → List ℕ
starts_of n [] = []
starts_of n (Leaf ∷ nodes) = n ∷ starts_of (suc n) nodes
starts_of n (Inner r ∷ nodes) = n ∷ starts_of n nodes

-- how many tokens nodes have
abbrev pub tokens_in : List Node → ℕ
tokens_in [] = 0
tokens_in (Leaf ∷ nodes) = suc (tokens_in nodes)
tokens_in (Inner r ∷ nodes) = tokens_in nodes

-- the number of the first token of a node's tree, from that of what is after the node: the nodes taken from their end
abbrev pub first_token : Node → ℕ → ℕ
first_token Leaf after = after - 1
first_token (Inner r) after = after
