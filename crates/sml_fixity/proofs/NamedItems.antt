-- What items are to the operators follows from their names.
use Rattle.std.proofs.Common.{◌≡◌, ℕ, ◌+◌, Bool, true, false, not, ◌&&◌, IsTrue, List, [], ◌∷◌, map, refl, sym, ap, ◌∙◌, subst, slice_index_or}
use Rattle.std.specs.Prelude.{is_some}
use Rattle.std.proofs.Math.Path.{fun_ext}
use Rattle.std.proofs.Math.ListN as list
use Rattle.sml_fixity.specs.declared.roles.Role.{Role}
use Rattle.sml_fixity.specs.declared.roles.Role.TheVariants as R
use Rattle.sml_fixity.specs.declared.sequences.Item.{Item}
use Rattle.sml_fixity.specs.declared.sequences.Item.TheVariants.{Short, Op, Long, Phrase}
use Rattle.sml_fixity.specs.declared.heads.Head.{Head}
use Rattle.sml_fixity.specs.declared.heads.Head.TheVariants.{Prefix, Infix, Bracketed}
use Rattle.sml_fixity.specs.Scopes.{Map}
use Rattle.sml_fixity.specs.Sequences.{role_by, role_at, roles_from, roles_of, is_identifier}
use Rattle.sml_fixity.specs.Patterns.{names_of}
use Rattle.sml_fixity.specs.Heads.{is_operator, is_function_name, is_phrase, no_operator, infix_head, prefix_head, bracketed_head, IsHead}
use Rattle.sml_fixity.specs.ItemNames.{Name, short, after_op, long, phrase, name_of}

-- roles

role_named : Map → ℕ → Name → Role
role_named f i (short x) = role_by i (f x)
role_named f i after_op = R.Atom i
role_named f i long = R.Atom i
role_named f i phrase = R.Atom i

role_is : (f : Map) (i : ℕ) (x : Item) → role_at f i x ≡ role_named f i (name_of x)
unfolding role_named
role_is f i (Short x) = refl
role_is f i Op = refl
role_is f i Long = refl
role_is f i Phrase = refl

roles_named : Map → ℕ → List Name → List Role
roles_named f i [] = []
roles_named f i (x ∷ xs) = role_named f i x ∷ roles_named f (i + 1) xs

roles_are : (f : Map) (i : ℕ) (xs : List Item) → roles_from f i xs ≡ roles_named f i (map name_of xs)
unfolding roles_named
roles_are f i [] = refl
roles_are f i (x ∷ xs) = λ j. role_is f i x j ∷ roles_are f (i + 1) xs j

pub same_roles : (f : Map) (xs ys : List Item) → map name_of xs ≡ map name_of ys → roles_of f xs ≡ roles_of f ys
same_roles f xs ys e = roles_are f 0 xs ∙ ap (roles_named f 0) e ∙ sym (roles_are f 0 ys)

-- identifiers

identifier_named : Name → Bool
identifier_named (short x) = true
identifier_named after_op = true
identifier_named long = true
identifier_named phrase = false

identifier_is : (x : Item) → is_identifier x ≡ identifier_named (name_of x)
unfolding identifier_named
identifier_is (Short x) = refl
identifier_is Op = refl
identifier_is Long = refl
identifier_is Phrase = refl

identifier_at : (xs : List Item) (i : ℕ) → names_of xs i ≡ identifier_named (list.get_or (map name_of xs) i phrase)
identifier_at xs i = identifier_is (slice_index_or xs i Phrase) ∙ ap identifier_named (sym (list.get_or-map name_of xs i Phrase))

pub same_identifiers : (xs ys : List Item) → map name_of xs ≡ map name_of ys → names_of xs ≡ names_of ys
same_identifiers xs ys e = fun_ext (λ i. identifier_at xs i ∙ ap (λ ns. identifier_named (list.get_or ns i phrase)) e ∙ sym (identifier_at ys i))

-- heads of clauses

operator_named : Map → Name → Bool
operator_named f (short x) = is_some (f x)
operator_named f after_op = false
operator_named f long = false
operator_named f phrase = false

function_named : Name → Bool
function_named (short x) = true
function_named after_op = true
function_named long = false
function_named phrase = false

phrase_named : Name → Bool
phrase_named (short x) = false
phrase_named after_op = false
phrase_named long = false
phrase_named phrase = true

operator_is : (f : Map) (x : Item) → is_operator f x ≡ operator_named f (name_of x)
unfolding operator_named
operator_is f (Short x) = refl
operator_is f Op = refl
operator_is f Long = refl
operator_is f Phrase = refl

function_is : (x : Item) → is_function_name x ≡ function_named (name_of x)
unfolding function_named
function_is (Short x) = refl
function_is Op = refl
function_is Long = refl
function_is Phrase = refl

phrase_is : (x : Item) → is_phrase x ≡ phrase_named (name_of x)
unfolding phrase_named
phrase_is (Short x) = refl
phrase_is Op = refl
phrase_is Long = refl
phrase_is Phrase = refl

plain_named : Map → List Name → Bool
plain_named f [] = true
plain_named f (x ∷ xs) = not (operator_named f x) && plain_named f xs

plain_is : (f : Map) (xs : List Item) → no_operator f xs ≡ plain_named f (map name_of xs)
unfolding plain_named
plain_is f [] = refl
plain_is f (x ∷ xs) = λ j. not (operator_is f x j) && plain_is f xs j

infix_named : Map → List Name → Bool
infix_named f (x ∷ g ∷ y ∷ []) = not (operator_named f x) && operator_named f g && not (operator_named f y)
infix_named f xs = false

infix_is : (f : Map) (xs : List Item) → infix_head f xs ≡ infix_named f (map name_of xs)
unfolding infix_named
infix_is f [] = refl
infix_is f (x ∷ []) = refl
infix_is f (x ∷ g ∷ []) = refl
infix_is f (x ∷ g ∷ y ∷ []) = λ j. not (operator_is f x j) && operator_is f g j && not (operator_is f y j)
infix_is f (x ∷ g ∷ y ∷ z ∷ xs) = refl

prefix_named : Map → List Name → Bool
prefix_named f (g ∷ x ∷ xs) = function_named g && plain_named f (g ∷ x ∷ xs)
prefix_named f xs = false

prefix_is : (f : Map) (xs : List Item) → prefix_head f xs ≡ prefix_named f (map name_of xs)
unfolding prefix_named
prefix_is f [] = refl
prefix_is f (g ∷ []) = refl
prefix_is f (g ∷ x ∷ xs) = λ j. function_is g j && plain_is f (g ∷ x ∷ xs) j

bracketed_named : Map → List Name → List Name → Bool
bracketed_named f inner [] = false
bracketed_named f inner (x ∷ xs) = phrase_named x && infix_named f inner && plain_named f (x ∷ xs)

bracketed_is : (f : Map) (inner xs : List Item) → bracketed_head f inner xs ≡ bracketed_named f (map name_of inner) (map name_of xs)
unfolding bracketed_named
bracketed_is f inner [] = refl
bracketed_is f inner (x ∷ xs) = λ j. phrase_is x j && infix_is f inner j && plain_is f (x ∷ xs) j

pub same_head : (f : Map) (xs ys inner others : List Item) → map name_of xs ≡ map name_of ys → map name_of inner ≡ map name_of others → (how : Head) → IsHead f xs inner how → IsHead f ys others how
same_head f xs ys inner others e g Prefix h = subst IsTrue (prefix_is f xs ∙ ap (prefix_named f) e ∙ sym (prefix_is f ys)) h
same_head f xs ys inner others e g Infix h = subst IsTrue (infix_is f xs ∙ ap (infix_named f) e ∙ sym (infix_is f ys)) h
same_head f xs ys inner others e g Bracketed h =
    subst IsTrue (bracketed_is f inner xs ∙ (λ j. bracketed_named f (g j) (e j)) ∙ sym (bracketed_is f others ys)) h
