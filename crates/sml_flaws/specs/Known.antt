-- What is known of the marks before a mark, which go from the last to the first, and of what sequences stand for.
use Rattle.std.specs.Prelude.{◌≡◌, ℕ, Bool, true, false, ◌&&◌, ◌==◌, List, [], ◌∷◌, Option, Some, None, slice_get, if◌then◌else◌}
use Rattle.std.specs.Str.{bytes_eq}
use Rattle.indexmap.specs.IndexMap.{IndexMap, get}
use Rattle.indexmap.specs.IndexSet.{IndexSet, contains}
use Rattle.sml_tree.specs.Trees.{Id}
use Rattle.sml_fixity.specs.declared.sequences.Step.{Step}
use Rattle.sml_fixity.specs.declared.sequences.Step.TheVariants.{Push, Apply, Combine}
use Rattle.sml_fixity.specs.declared.heads.Head.{Head}
use Rattle.sml_flaws.specs.declared.role.Space.{Space}
use Rattle.sml_flaws.specs.declared.role.Space.TheVariants as S
use Rattle.sml_flaws.specs.declared.mark.Mark.{Mark}
use Rattle.sml_flaws.specs.declared.mark.Mark.TheVariants as M
use Rattle.sml_flaws.specs.declared.known.Key as P
use Rattle.sml_flaws.specs.declared.known.Position.{Position}
use Rattle.sml_fixity.specs.Shapes.{Shape, tree, headed}
use Rattle.sml_reach.specs.Fits.{Fit}

abbrev pub space_number : Space → ℕ
space_number S.Labels = 0
space_number S.Variables = 1
space_number S.Types = 2
space_number S.Constructors = 3
space_number S.Exceptions = 4
space_number S.Structures = 5
space_number S.Signatures = 6
space_number S.Functors = 7
space_number S.Values = 8

-- a name with its space, by number, and its group
pub record Key : Type 0 where
  pub space : ℕ
  pub group : ℕ
  pub name : Id

abbrev pub key_of : P.Key → Key
key_of k = record { space = k.space; group = k.group; name = k.name.now }

abbrev pub same : Key → Key → Bool
same a b = a.space == b.space && (a.group == b.group && bytes_eq a.name b.name)

abbrev pub key_at : (ℕ → Id) → Space → ℕ → ℕ → Key
key_at text space group token = record { space = space_number space; group = group; name = text token }

-- the key that a mark binds
abbrev pub key_in : (ℕ → Id) → Mark → Option Key
key_in text (M.Bound b) = Some (key_at text b.space b.group b.token)
key_in text (M.Listed v) = Some (key_at text S.Variables v.group v.token)
key_in text _ = None

abbrev pub is_key : Option Key → Key → Bool
is_key None key = false
is_key (Some k) key = same k key

-- whether one of these marks binds this
abbrev pub is_bound : (ℕ → Id) → List Mark → Key → Bool
is_bound text [] key = false
is_bound text (m ∷ before) key = if is_key (key_in text m) key then true else is_bound text before key

abbrev pub is_bound_again : (ℕ → Id) → List Mark → Option Key → Bool
is_bound_again text before None = false
is_bound_again text before (Some key) = is_bound text before key

-- whether a mark binds what one before it does
abbrev pub is_again : (ℕ → Id) → List Mark → Mark → Bool
is_again text before m = is_bound_again text before (key_in text m)

abbrev pub is_atom : Mark → Position → Bool
is_atom (M.Identifier a) q = a.sequence == q.sequence && a.index == q.index
is_atom _ q = false

abbrev pub token_in : Mark → ℕ
token_in (M.Bound b) = b.token
token_in (M.Listed v) = v.token
token_in (M.Owned v) = v.token
token_in (M.Identifier a) = a.token
token_in (M.Pun n) = n
token_in (M.Real n) = n
token_in (M.Clause c) = c.sequence

-- the token of the identifier that stands at a place in a sequence
abbrev pub atom_at : List Mark → Position → Option ℕ
atom_at [] q = None
atom_at (m ∷ before) q = if is_atom m q then Some (token_in m) else atom_at before q

abbrev pub is_clause : Mark → ℕ → Bool
is_clause (M.Clause c) n = c.sequence == n
is_clause _ n = false

abbrev pub atoms_in : Mark → ℕ
atoms_in (M.Clause c) = c.atoms
atoms_in _ = 0

-- how many atomic patterns the head of the clause with this first token has
abbrev pub count_at : List Mark → ℕ → Option ℕ
count_at [] n = None
count_at (m ∷ before) n = if is_clause m n then Some (atoms_in m) else count_at before n

-- the atomic phrase that a step takes as an operator or applies, the step after the next one being this
abbrev pub use_of : Step → Option Step → Option ℕ
use_of (Combine index) later = Some index
use_of (Push index) (Some Apply) = Some index
use_of _ later = None

abbrev pub is_at : Option ℕ → ℕ → Position → Bool
is_at None sequence q = false
is_at (Some index) sequence q = sequence == q.sequence && index == q.index

-- whether steps of this sequence take the atomic phrase as an operator or apply it
abbrev pub is_used_in : ℕ → List Step → Position → Bool
is_used_in sequence [] q = false
is_used_in sequence (step ∷ steps) q = if is_at (use_of step (slice_get steps 1)) sequence q then true else is_used_in sequence steps q

abbrev pub steps_of : Shape → List Step
steps_of (tree steps) = steps
steps_of (headed how) = []

-- whether an atomic phrase is an operator of its sequence or is applied in it
abbrev pub is_used : List Fit → Position → Bool
is_used [] q = false
is_used (fit ∷ fits) q = if is_used_in fit.token (steps_of fit.shape) q then true else is_used fits q

abbrev pub head_or : Shape → Bool → Option Head → Option Head
head_or (tree steps) here other = other
head_or (headed how) here other = if here then Some how else other

-- how the head of a clause with this first token is written
abbrev pub head_at : List Fit → ℕ → Option Head
head_at [] n = None
head_at (fit ∷ fits) n = head_or fit.shape (fit.token == n) (head_at fits n)

-- what the program knows of the marks before, and of what sequences stand for
abbrev pub same_key : P.Key → P.Key → Bool
same_key a b = same (key_of a) (key_of b)

abbrev pub same_position : Position → Position → Bool
same_position a b = a.sequence == b.sequence && a.index == b.index

abbrev pub KnowsKeys : {S : Type 0} → (ℕ → Id) → List Mark → IndexSet P.Key S → Type 0
KnowsKeys text before keys = (k : P.Key) → contains same_key keys k ≡ is_bound text before (key_of k)

abbrev pub KnowsAtoms : {S : Type 0} → List Mark → IndexMap Position ℕ S → Type 0
KnowsAtoms before atoms = (q : Position) → get same_position atoms q ≡ atom_at before q

abbrev pub KnowsCounts : {S : Type 0} → List Mark → IndexMap ℕ ℕ S → Type 0
KnowsCounts before counts = (n : ℕ) → get ◌==◌ counts n ≡ count_at before n

abbrev pub KnowsUses : {S : Type 0} → List Fit → IndexSet Position S → Type 0
KnowsUses fits uses = (q : Position) → contains same_position uses q ≡ is_used fits q

abbrev pub KnowsHeads : {S : Type 0} → List Fit → IndexMap ℕ Head S → Type 0
KnowsHeads fits heads = (n : ℕ) → get ◌==◌ heads n ≡ head_at fits n
