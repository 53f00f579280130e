-- Sequences whose items have the same names stand for one tree, or have one fault.
use Rattle.std.proofs.Common.{◌≡◌, ◌⊎◌, inl, inr, ℕ, List, map, refl, sym, ap, ◌∙◌, subst}
use Rattle.std.proofs.lemmas.Bool.{cases_order}
use Rattle.sml_fixity.specs.declared.roles.Role.{Role}
use Rattle.sml_fixity.specs.declared.sequences.Item.{Item}
use Rattle.sml_fixity.specs.declared.sequences.Step.{Step}
use Rattle.sml_fixity.specs.declared.sequences.FixFault.{FixFault}
use Rattle.sml_fixity.specs.declared.sequences.FixFault.TheVariants.{NoOperand, MixedSides, Malformed, Memory}
use Rattle.sml_fixity.specs.declared.heads.Head.{Head}
use Rattle.sml_fixity.specs.Scopes.{Map}
use Rattle.sml_fixity.specs.Infix.{postfix, IsTheTree, FaultStands, StrayAt, MixedAt, NoneBefore, NoTree}
use Rattle.sml_fixity.specs.Patterns.{IsPattern, IsThePattern, IsMalformed, PatternFaultStands, names_of}
use Rattle.sml_fixity.specs.Heads.{IsHead}
use Rattle.sml_fixity.specs.Sequences.{roles_of}
use Rattle.sml_fixity.specs.ItemNames.{name_of}
use Rattle.sml_fixity.proofs.Trees.{same_tree}
use Rattle.sml_fixity.proofs.OneHead.{head_is_unique}
use Rattle.sml_fixity.proofs.NamedItems.{same_roles, same_identifiers, same_head}

-- the faults that a sequence can have
unfoldable pub IsFault : FixFault → Type 0
IsFault (NoOperand k) = Unit {0}
IsFault (MixedSides k) = Unit {0}
IsFault Malformed = Unit {0}
IsFault Memory = ⊥

-- expressions

steps_one : (roles : List Role) (s t : List Step) → IsTheTree roles s → IsTheTree roles t → s ≡ t
steps_one roles s t h k = h.built ∙ ap postfix (same_tree h.tree k.tree h.obeys k.obeys (h.written ∙ sym k.written)) ∙ sym k.built

no_tree : (roles : List Role) (a : FixFault) → FaultStands roles a → IsFault a → NoTree roles
unfolding IsFault
no_tree roles (NoOperand k) h f = h.2
no_tree roles (MixedSides k) h f = h.3
no_tree roles Malformed h f = absurd h
no_tree roles Memory h f = absurd f

-- two places before which nothing stands
one_place : (roles : List Role) (j k : ℕ) → (StrayAt roles j ⊎ MixedAt roles j) → (StrayAt roles k ⊎ MixedAt roles k) → NoneBefore roles j → NoneBefore roles k → j ≡ k
one_place roles j k h g before front = elim (cases_order j k) [
  | inl e ↦ e
  | inr o ↦ elim o [ inl l ↦ absurd (stands roles j h (front j l)) | inr l ↦ absurd (stands roles k g (before k l)) ]
]
  where
    stands : (roles : List Role) (i : ℕ) → (StrayAt roles i ⊎ MixedAt roles i) → (¬ StrayAt roles i) × (¬ MixedAt roles i) → ⊥
    stands roles i h n = elim h [ inl s ↦ n.0 s | inr m ↦ n.1 m ]

fault_one : (roles : List Role) (a b : FixFault) → FaultStands roles a → FaultStands roles b → IsFault a → IsFault b → a ≡ b
unfolding IsFault
fault_one roles (NoOperand j) (NoOperand k) h g f e = ap NoOperand (one_place roles j k (inl h.0) (inl g.0) h.1 g.1)
fault_one roles (NoOperand j) (MixedSides k) h g f e =
    absurd (g.1 (subst (StrayAt roles) (one_place roles j k (inl h.0) (inr g.0) h.1 g.2) h.0))
fault_one roles (MixedSides j) (NoOperand k) h g f e =
    absurd (h.1 (subst (StrayAt roles) (one_place roles k j (inl g.0) (inr h.0) g.1 h.2) g.0))
fault_one roles (MixedSides j) (MixedSides k) h g f e = ap MixedSides (one_place roles j k (inr h.0) (inr g.0) h.2 g.2)
fault_one roles Malformed b h g f e = absurd h
fault_one roles Memory b h g f e = absurd f
fault_one roles a Malformed h g f e = absurd g
fault_one roles a Memory h g f e = absurd e

pub one_expression : (f : Map) (xs ys : List Item) (s t : List Step) → map name_of xs ≡ map name_of ys → IsTheTree (roles_of f xs) s → IsTheTree (roles_of f ys) t → s ≡ t
one_expression f xs ys s t e h k = steps_one (roles_of f ys) s t (subst (λ rs. IsTheTree rs s) (same_roles f xs ys e) h) k

pub expression_or_fault : (f : Map) (xs ys : List Item) (s : List Step) (a : FixFault) → map name_of xs ≡ map name_of ys → IsTheTree (roles_of f xs) s → FaultStands (roles_of f ys) a → IsFault a → ⊥
expression_or_fault f xs ys s a e h g is = no_tree (roles_of f ys) a g is h.tree (h.written ∙ same_roles f xs ys e) h.obeys

pub one_fault : (f : Map) (xs ys : List Item) (a b : FixFault) → map name_of xs ≡ map name_of ys → FaultStands (roles_of f xs) a → FaultStands (roles_of f ys) b → IsFault a → IsFault b → a ≡ b
one_fault f xs ys a b e h g is also = fault_one (roles_of f ys) a b (subst (λ rs. FaultStands rs a) (same_roles f xs ys e) h) g is also

-- patterns

pub one_pattern : (f : Map) (xs ys : List Item) (s t : List Step) → map name_of xs ≡ map name_of ys → IsThePattern xs (roles_of f xs) s → IsThePattern ys (roles_of f ys) t → s ≡ t
one_pattern f xs ys s t e h k = one_expression f xs ys s t e h.the_tree k.the_tree

malformed_or_pattern : (xs ys : List Item) (roles : List Role) (s : List Step) → map name_of xs ≡ map name_of ys → IsThePattern xs roles s → IsMalformed ys roles → ⊥
malformed_or_pattern xs ys roles s e h g =
    let t = h.the_tree in
    let same : t.tree ≡ g.tree = same_tree t.tree g.tree t.obeys g.obeys (t.written ∙ sym g.written) in
    g.no_pattern (subst (IsPattern (names_of ys)) same (subst (λ ns. IsPattern ns t.tree) (same_identifiers xs ys e) h.pattern))

pattern_no_fault : (xs ys : List Item) (roles : List Role) (s : List Step) (a : FixFault) → map name_of xs ≡ map name_of ys → IsThePattern xs roles s → PatternFaultStands ys roles a → IsFault a → ⊥
unfolding IsFault
pattern_no_fault xs ys roles s (NoOperand k) e h g is = g.2 h.the_tree.tree h.the_tree.written h.the_tree.obeys
pattern_no_fault xs ys roles s (MixedSides k) e h g is = g.3 h.the_tree.tree h.the_tree.written h.the_tree.obeys
pattern_no_fault xs ys roles s Malformed e h g is = malformed_or_pattern xs ys roles s e h g
pattern_no_fault xs ys roles s Memory e h g is = is

pub pattern_or_fault : (f : Map) (xs ys : List Item) (s : List Step) (a : FixFault) → map name_of xs ≡ map name_of ys → IsThePattern xs (roles_of f xs) s → PatternFaultStands ys (roles_of f ys) a → IsFault a → ⊥
pattern_or_fault f xs ys s a e h g is = pattern_no_fault xs ys (roles_of f ys) s a e (subst (λ rs. IsThePattern xs rs s) (same_roles f xs ys e) h) g is

no_malformed : (ys : List Item) (roles : List Role) → NoTree roles → IsMalformed ys roles → ⊥
no_malformed ys roles h g = h g.tree g.written g.obeys

pattern_fault_one : (xs ys : List Item) (roles : List Role) (a b : FixFault) → PatternFaultStands xs roles a → PatternFaultStands ys roles b → IsFault a → IsFault b → a ≡ b
unfolding IsFault
pattern_fault_one xs ys roles (NoOperand j) (NoOperand k) h g is also = fault_one roles (NoOperand j) (NoOperand k) h g is also
pattern_fault_one xs ys roles (NoOperand j) (MixedSides k) h g is also = fault_one roles (NoOperand j) (MixedSides k) h g is also
pattern_fault_one xs ys roles (MixedSides j) (NoOperand k) h g is also = fault_one roles (MixedSides j) (NoOperand k) h g is also
pattern_fault_one xs ys roles (MixedSides j) (MixedSides k) h g is also = fault_one roles (MixedSides j) (MixedSides k) h g is also
pattern_fault_one xs ys roles (NoOperand j) Malformed h g is also = absurd (no_malformed ys roles h.2 g)
pattern_fault_one xs ys roles (MixedSides j) Malformed h g is also = absurd (no_malformed ys roles h.3 g)
pattern_fault_one xs ys roles Malformed (NoOperand k) h g is also = absurd (no_malformed xs roles g.2 h)
pattern_fault_one xs ys roles Malformed (MixedSides k) h g is also = absurd (no_malformed xs roles g.3 h)
pattern_fault_one xs ys roles Malformed Malformed h g is also = refl
pattern_fault_one xs ys roles Memory b h g is also = absurd is
pattern_fault_one xs ys roles a Memory h g is also = absurd also

pub one_pattern_fault : (f : Map) (xs ys : List Item) (a b : FixFault) → map name_of xs ≡ map name_of ys → PatternFaultStands xs (roles_of f xs) a → PatternFaultStands ys (roles_of f ys) b → IsFault a → IsFault b → a ≡ b
one_pattern_fault f xs ys a b e h g is also =
    pattern_fault_one xs ys (roles_of f ys) a b (subst (λ rs. PatternFaultStands xs rs a) (same_roles f xs ys e) h) g is also

-- heads of clauses

pub one_head : (f : Map) (xs ys inner others : List Item) (g h : Head) → map name_of xs ≡ map name_of ys → map name_of inner ≡ map name_of others → IsHead f xs inner g → IsHead f ys others h → g ≡ h
one_head f xs ys inner others g h e d p q = head_is_unique f ys others g h (same_head f xs ys inner others e d g p) q
