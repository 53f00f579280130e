-- The kinds of heads exclude each other.
use Rattle.std.proofs.Common.{◌≡◌, Bool, true, false, not, ◌&&◌, IsTrue, List, [], ◌∷◌, refl}
use Rattle.std.proofs.lemmas.Bool.{false≢true}
use Rattle.sml_fixity.specs.declared.sequences.Item.{Item}
use Rattle.sml_fixity.specs.declared.sequences.Item.TheVariants.{Short, Op, Long, Phrase}
use Rattle.sml_fixity.specs.declared.heads.Head.{Head}
use Rattle.sml_fixity.specs.declared.heads.Head.TheVariants.{Prefix, Infix, Bracketed}
use Rattle.sml_fixity.specs.Scopes.{Map}
use Rattle.sml_fixity.specs.Heads.{is_operator, is_function_name, is_phrase, no_operator, infix_head, prefix_head, bracketed_head, IsHead}

apart : (a b c : Bool) → IsTrue (not a && b && not c) → IsTrue (not a && (not b && (not c && true))) → ⊥
apart true b c h k = false≢true h
apart false true c h k = false≢true k
apart false false c h k = false≢true h

front : (a b : Bool) → IsTrue (a && b) → IsTrue a
front true b h = refl
front false b h = h

back : (a b : Bool) → IsTrue (a && b) → IsTrue b
back true b h = h
back false b h = absurd (false≢true h)

infix_no_plain : (f : Map) (xs : List Item) → IsTrue (infix_head f xs) → IsTrue (no_operator f xs) → ⊥
infix_no_plain f [] h k = false≢true h
infix_no_plain f (x ∷ []) h k = false≢true h
infix_no_plain f (x ∷ y ∷ []) h k = false≢true h
infix_no_plain f (x ∷ y ∷ z ∷ []) h k = apart (is_operator f x) (is_operator f y) (is_operator f z) h k
infix_no_plain f (x ∷ y ∷ z ∷ w ∷ xs) h k = false≢true h

prefix_plain : (f : Map) (xs : List Item) → IsTrue (prefix_head f xs) → IsTrue (no_operator f xs)
prefix_plain f [] h = refl
prefix_plain f (x ∷ []) h = absurd (false≢true h)
prefix_plain f (x ∷ y ∷ xs) h = back (is_function_name x) (no_operator f (x ∷ y ∷ xs)) h

bracketed_plain : (f : Map) (b xs : List Item) → IsTrue (bracketed_head f b xs) → IsTrue (no_operator f xs)
bracketed_plain f b [] h = refl
bracketed_plain f b (x ∷ xs) h =
    back (is_phrase x && infix_head f b) (no_operator f (x ∷ xs)) h

name_no_phrase : (x : Item) → IsTrue (is_function_name x) → IsTrue (is_phrase x) → ⊥
name_no_phrase (Short x) h k = false≢true k
name_no_phrase Op h k = false≢true k
name_no_phrase Long h k = false≢true h
name_no_phrase Phrase h k = false≢true h

prefix_no_bracketed : (f : Map) (b xs : List Item) → IsTrue (prefix_head f xs) → IsTrue (bracketed_head f b xs) → ⊥
prefix_no_bracketed f b [] h k = false≢true h
prefix_no_bracketed f b (x ∷ []) h k = false≢true h
prefix_no_bracketed f b (x ∷ y ∷ xs) h k =
    name_no_phrase x (front (is_function_name x) (no_operator f (x ∷ y ∷ xs)) h) (front (is_phrase x) (infix_head f b) (front (is_phrase x && infix_head f b) (no_operator f (x ∷ y ∷ xs)) k))

pub head_is_unique : (f : Map) (xs b : List Item) (g h : Head) → IsHead f xs b g → IsHead f xs b h → g ≡ h
head_is_unique f xs b Prefix Prefix p q = refl
head_is_unique f xs b Prefix Infix p q = absurd (infix_no_plain f xs q (prefix_plain f xs p))
head_is_unique f xs b Prefix Bracketed p q = absurd (prefix_no_bracketed f b xs p q)
head_is_unique f xs b Infix Prefix p q = absurd (infix_no_plain f xs p (prefix_plain f xs q))
head_is_unique f xs b Infix Infix p q = refl
head_is_unique f xs b Infix Bracketed p q = absurd (infix_no_plain f xs p (bracketed_plain f b xs q))
head_is_unique f xs b Bracketed Prefix p q = absurd (prefix_no_bracketed f b xs q p)
head_is_unique f xs b Bracketed Infix p q = absurd (infix_no_plain f xs q (bracketed_plain f b xs p))
head_is_unique f xs b Bracketed Bracketed p q = refl
