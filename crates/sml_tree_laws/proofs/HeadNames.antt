-- The names that atomic phrases have, in sequences and in heads, and the patterns that they make.
use Rattle.std.proofs.Common.{◌≡◌, ℕ, suc, ◌+◌, ◌≤◌, List, [], ◌∷◌, Bool, true, false, Option, Some, None, length, drop, map, refl, sym, ap, ◌∙◌, subst, arith}
use Rattle.std.proofs.lemmas.Bool.{false≢true, and_parts}
use Rattle.std.proofs.lemmas.List.{append-nil, length-append}
use Rattle.sml_lex.specs.declared.fault.Place.{Place}
use Rattle.sml_tree.specs.Trees.{Id}
use Rattle.sml_tree.specs.Types.{Tys, no_ty, and_ty}
use Rattle.sml_tree.specs.Patterns.{Pat, Pats, wildcard, pat_constant, pat_name, pat_row, pat_tuple, pat_bracket, pat_apply, pat_typed, pat_as, no_pat, and_pat}
use Rattle.sml_fixity.specs.declared.heads.Head.{Head}
use Rattle.sml_fixity.specs.declared.heads.Head.TheVariants as K
use Rattle.sml_fixity.specs.declared.sequences.Item.{Item}
use Rattle.sml_fixity.specs.declared.sequences.Item.TheVariants.{Short, Op, Long, Phrase}
use Rattle.sml_fixity.specs.declared.sequences.Step.{Step}
use Rattle.sml_fixity.specs.declared.sequences.Step.TheVariants.{Push, Combine}
use Rattle.sml_fixity.specs.ItemNames.{Name, short, after_op, long, phrase, name_of}
use Rattle.sml_fixity.specs.Scopes.{Map}
use Rattle.sml_fixity.specs.Sequences.{roles_of}
use Rattle.sml_fixity.specs.Infix.{Tree, Single, Applied, Joined, yield, postfix, Obeys}
use Rattle.sml_fixity.specs.Patterns.{IsPattern, names_of}
use Rattle.sml_fixity.specs.Heads.{is_operator, is_function_name, infix_head, prefix_head, bracketed_head, IsHead}
use Rattle.sml_fixity.specs.Shapes.{Shape, tree, headed}
use Rattle.sml_reach.specs.Founds.{Atom}
use Rattle.sml_pat_sequences.specs.PatternSequences as Q
use Rattle.sml_bare_decs.specs.FunctionRules.{prefix_head as prefix_heading, infix_head as infix_heading, bracketed_head as bracketed_heading, heading}
use Rattle.sml_flaws.specs.Flaws.{is_reserved}
use Rattle.sml_tree_laws.proofs.UsedNames.{spans}
use Rattle.sml_tree_laws.proofs.SequenceFits.{FitsPattern, FitsHead}

-- a short identifier, with `op` or without
abbrev pub is_named : Name → Bool
is_named (short x) = true
is_named after_op = true
is_named long = false
is_named phrase = false

abbrev pub is_short : Name → Bool
is_short (short x) = true
is_short after_op = false
is_short long = false
is_short phrase = false

short_named : (x : Name) → is_short x ≡ true → is_named x ≡ true
short_named (short x) h = refl
short_named after_op h = refl
short_named long h = h
short_named phrase h = h

-- three atomic phrases, with an identifier in the middle
abbrev pub InfixNames : List Name → Type 0
InfixNames (x ∷ y ∷ z ∷ []) = is_short y ≡ true
InfixNames _ = ⊥

abbrev pub atom_names : List Atom → List Name
atom_names atoms = map (λ a. a.name) atoms

module _ (R : Id → Type 0) where
  -- R of a name, of the operator before its arguments, and of that in brackets
  abbrev pub NameOf : Pat Place → Type 0
  NameOf (pat_name p x) = R x.id.last
  NameOf _ = Unit {0}

  abbrev pub ApplyName : Pat Place → Type 0
  ApplyName (pat_apply p x q) = R x.id.last
  ApplyName _ = Unit {0}

  abbrev pub BracketName : Pat Place → Type 0
  BracketName (pat_bracket p q) = ApplyName q
  BracketName _ = Unit {0}

  abbrev pub OneName : Pats Place → Type 0
  OneName (and_pat q no_pat) = ApplyName q
  OneName _ = Unit {0}

  -- of the first of some atomic patterns
  abbrev pub First : Pats Place → List Atom → Type 0
  First no_pat atoms = Unit {0}
  First (and_pat q qs) [] = Unit {0}
  First (and_pat q qs) (a ∷ atoms) = is_named a.name ≡ true → NameOf q

module _ (R R' : Id → Type 0) (f : (x : Id) → R x → R' x) where
  pub name_more : (q : Pat Place) → NameOf R q → NameOf R' q
  name_more (pat_name p x) h = f x.id.last h
  name_more _ h = tt

  pub apply_more : (q : Pat Place) → ApplyName R q → ApplyName R' q
  apply_more (pat_apply p x q) h = f x.id.last h
  apply_more _ h = tt

  pub bracket_more : (q : Pat Place) → BracketName R q → BracketName R' q
  bracket_more (pat_bracket p q) h = apply_more q h
  bracket_more _ h = tt

  pub one_more : (qs : Pats Place) → OneName R qs → OneName R' qs
  one_more (and_pat q no_pat) h = apply_more q h
  one_more (and_pat q (and_pat r qs)) h = tt
  one_more no_pat h = tt

  pub first_more : (qs : Pats Place) (atoms : List Atom) → First R qs atoms → First R' qs atoms
  first_more no_pat atoms h = tt
  first_more (and_pat q qs) [] h = tt
  first_more (and_pat q qs) (a ∷ atoms) h = λ e. name_more q (h e)

-- the steps of three items as a pattern

abbrev size : Tree → ℕ
size (Single a) = 1
size (Applied f x) = size f + size x
size (Joined o l r) = size l + suc (size r)

some_size : (t : Tree) → 1 ≤ size t
some_size (Single a) = omega arith
some_size (Applied f x) = let h = some_size f in omega (arith, h)
some_size (Joined o l r) = omega arith

size_of_yield : (t : Tree) → length (yield t) ≡ size t
size_of_yield (Single a) = refl
size_of_yield (Applied f x) = let h = size_of_yield f in let k = size_of_yield x in let e = length-append (yield f) (yield x) in omega (arith, h, k, e)
size_of_yield (Joined o l r) = let h = size_of_yield l in let k = size_of_yield r in let e = length-append (yield l) (drop 1 (yield (Joined o (Single 0) r))) in omega (arith, h, k, e)

three_steps : (names : ℕ → Bool) (t : Tree) (m : Map) (x y z : Item) → yield t ≡ roles_of m (x ∷ y ∷ z ∷ []) → Obeys t → IsPattern names t → postfix t ≡ Push 0 ∷ Push 2 ∷ Combine 1 ∷ []
three_steps names (Single a) m x y z e o p = let n = size_of_yield (Single a) in let k = ap length e in absurd (omega (arith, n, k))
three_steps names (Applied (Single a) (Single b)) m x y z e o p = let n = size_of_yield (Applied (Single a) (Single b)) in let k = ap length e in absurd (omega (arith, n, k))
three_steps names (Applied (Single a) (Applied f g)) m x y z e o p = absurd o.2
three_steps names (Applied (Single a) (Joined q l r)) m x y z e o p = absurd o.2
three_steps names (Applied (Applied f g) u) m x y z e o p = absurd p
three_steps names (Applied (Joined q l r) u) m x y z e o p = absurd p
three_steps names (Joined q (Single a) (Single b)) m x y z e o p =
    let s = spans (Joined q (Single a) (Single b)) m 0 (x ∷ y ∷ z ∷ []) [] (append-nil (yield (Joined q (Single a) (Single b))) ∙ e) in
    let h = s.2 in
    let mid = h.1.1 in
    let right = h.3.0 in
    ap (λ i. Push i ∷ Push b ∷ Combine q.index ∷ []) h.1.0
    ∙ ap (λ i. Push 0 ∷ Push i ∷ Combine q.index ∷ []) (let f : b ≡ 2 = omega (arith, mid, right) in f)
    ∙ ap (λ i. Push 0 ∷ Push 2 ∷ Combine i ∷ []) (h.2 ∙ (let f : h.0 ≡ 1 = omega (arith, mid) in f))
three_steps names (Joined q (Single a) (Applied f g)) m x y z e o p =
    let n = size_of_yield (Joined q (Single a) (Applied f g)) in let k = ap length e in let b = some_size f in let c = some_size g in absurd (omega (arith, n, k, b, c))
three_steps names (Joined q (Single a) (Joined q' l r)) m x y z e o p =
    let n = size_of_yield (Joined q (Single a) (Joined q' l r)) in let k = ap length e in let b = some_size l in let c = some_size r in absurd (omega (arith, n, k, b, c))
three_steps names (Joined q (Applied f g) r) m x y z e o p =
    let n = size_of_yield (Joined q (Applied f g) r) in let k = ap length e in let b = some_size f in let c = some_size g in let d = some_size r in absurd (omega (arith, n, k, b, c, d))
three_steps names (Joined q (Joined q' l l') r) m x y z e o p =
    let n = size_of_yield (Joined q (Joined q' l l') r) in let k = ap length e in let b = some_size l in let c = some_size l' in let d = some_size r in absurd (omega (arith, n, k, b, c, d))

-- items with three names
three_items : (items : List Item) (x y z : Name) → map name_of items ≡ x ∷ y ∷ z ∷ [] → (a : Item) × (b : Item) × (c : Item) × (items ≡ a ∷ b ∷ c ∷ []) × (name_of a ≡ x) × (name_of b ≡ y)
three_items [] x y z e = cc
three_items (a ∷ []) x y z e = cc
three_items (a ∷ b ∷ []) x y z e = cc
three_items (a ∷ b ∷ c ∷ []) x y z e = (a, b, c, refl, cc, cc)
three_items (a ∷ b ∷ c ∷ d ∷ items) x y z e = cc

same_steps : {a b : List Step} → tree a ≡ tree b → a ≡ b
same_steps e = cc

module _ (R : Id → Type 0) (nil : R []) where
  three_apply : (q : Pat Place) (qs : Pats Place) (a : Atom) (atoms : List Atom) → is_short a.name ≡ true → First R qs (a ∷ atoms)
      → ApplyName R (Q.pat_of_steps (Push 0 ∷ Push 2 ∷ Combine 1 ∷ []) (record { atoms = q ∷ Q.list_of_pats qs; stack = [] }))
  three_apply q no_pat a atoms e h = nil
  three_apply q (and_pat (pat_name p x) qs) a atoms e h = h (short_named a.name e)
  three_apply q (and_pat (wildcard p) qs) a atoms e h = nil
  three_apply q (and_pat (pat_constant p c) qs) a atoms e h = nil
  three_apply q (and_pat (pat_row p fs b) qs) a atoms e h = nil
  three_apply q (and_pat (pat_tuple p rs) qs) a atoms e h = nil
  three_apply q (and_pat (pat_bracket p r) qs) a atoms e h = nil
  three_apply q (and_pat (pat_apply p x r) qs) a atoms e h = nil
  three_apply q (and_pat (pat_typed p r t) qs) a atoms e h = nil
  three_apply q (and_pat (pat_as p x t r) qs) a atoms e h = nil

  typed_apply : (p : Place) (q : Pat Place) (ts : Tys Place) → ApplyName R q → ApplyName R (Q.typed_by p q ts)
  typed_apply p q no_ty h = h
  typed_apply p q (and_ty t ts) h = typed_apply p (pat_typed p q t) ts tt

  pub sequence_apply : (s : Option Shape) (q : Pat Place) (qs : Pats Place) (ts : Tys Place) (a : Atom) (atoms : List Atom) → ((steps : List Step) → s ≡ Some (tree steps) → FitsPattern (a ∷ atoms) (tree steps))
      → InfixNames (atom_names (a ∷ atoms)) → First R qs atoms → ApplyName R (Q.sequence_pat s (and_pat q qs) ts)
  sequence_apply s q qs ts a [] built i h = absurd i
  sequence_apply s q qs ts a (b ∷ []) built i h = absurd i
  sequence_apply s q qs ts a (b ∷ c ∷ d ∷ atoms) built i h = absurd i
  sequence_apply s q qs ts a (b ∷ c ∷ []) built i h = typed_apply (Q.pat_place (Q.shaped s (and_pat q qs))) (Q.shaped s (and_pat q qs)) ts (by_shape s built)
    where
      by_tree : (steps : List Step) → FitsPattern (a ∷ b ∷ c ∷ []) (tree steps) → ApplyName R (Q.pat_of_steps steps (record { atoms = q ∷ Q.list_of_pats qs; stack = [] }))
      by_tree steps f =
          let k = three_items f.1 a.name b.name c.name f.3 in
          let t = f.4.the_tree in
          let e = three_steps (names_of f.1) t.tree f.0 k.0 k.1 k.2 (t.written ∙ ap (roles_of f.0) k.3) t.obeys f.4.pattern in
          subst (λ ss. ApplyName R (Q.pat_of_steps ss (record { atoms = q ∷ Q.list_of_pats qs; stack = [] }))) (sym (same_steps f.5 ∙ t.built ∙ e)) (three_apply q qs b (c ∷ []) i h)

      by_shape : (s : Option Shape) → ((steps : List Step) → s ≡ Some (tree steps) → FitsPattern (a ∷ b ∷ c ∷ []) (tree steps)) → ApplyName R (Q.shaped s (and_pat q qs))
      by_shape None f = tt
      by_shape (Some (headed how)) f = tt
      by_shape (Some (tree steps)) f = by_tree steps (f steps refl)

-- heads

function_named : (x : Item) → is_function_name x ≡ true → is_named (name_of x) ≡ true
function_named (Short x) h = refl
function_named Op h = refl
function_named Long h = absurd (false≢true h)
function_named Phrase h = absurd (false≢true h)

operator_short : (m : Map) (x : Item) → is_operator m x ≡ true → is_short (name_of x) ≡ true
operator_short m (Short x) h = refl
operator_short m Op h = absurd (false≢true h)
operator_short m Long h = absurd (false≢true h)
operator_short m Phrase h = absurd (false≢true h)

prefix_named : (m : Map) (items : List Item) (a : Atom) (atoms : List Atom) → prefix_head m items ≡ true → map name_of items ≡ atom_names (a ∷ atoms) → is_named a.name ≡ true
prefix_named m [] a atoms h e = absurd (false≢true h)
prefix_named m (f ∷ []) a atoms h e = absurd (false≢true h)
prefix_named m (f ∷ x ∷ xs) a atoms h e = let same : name_of f ≡ a.name = cc in subst (λ n. is_named n ≡ true) same (function_named f (and_parts _ _ h).0)

infix_middle : (m : Map) (items : List Item) → infix_head m items ≡ true → InfixNames (map name_of items)
infix_middle m [] h = absurd (false≢true h)
infix_middle m (x ∷ []) h = absurd (false≢true h)
infix_middle m (x ∷ f ∷ []) h = absurd (false≢true h)
infix_middle m (x ∷ f ∷ y ∷ []) h = operator_short m f (and_parts _ _ (and_parts _ _ h).0).1
infix_middle m (x ∷ f ∷ y ∷ z ∷ items) h = absurd (false≢true h)

bracketed_inner : (m : Map) (inner items : List Item) → bracketed_head m inner items ≡ true → infix_head m inner ≡ true
bracketed_inner m inner [] h = absurd (false≢true h)
bracketed_inner m inner (x ∷ xs) h = (and_parts _ _ (and_parts _ _ h).0).1

same_head : {a b : Head} → headed a ≡ headed b → a ≡ b
same_head e = cc

abbrev Free : Id → Type 0
Free x = is_reserved x ≡ false

pub heading_free : (s : Option Shape) (q : Pat Place) (qs : Pats Place) (a : Atom) (atoms : List Atom) → ((how : Head) → s ≡ Some (headed how) → FitsHead (a ∷ atoms) (headed how))
    → (s ≡ Some (headed K.Prefix) → is_named a.name ≡ true → NameOf Free q) → (s ≡ Some (headed K.Infix) → First Free qs atoms) → (s ≡ Some (headed K.Bracketed) → InfixNames a.inner → BracketName Free q)
    → is_reserved (heading s q qs).name ≡ false
heading_free None q qs a atoms f by_first by_second by_bracket = refl
heading_free (Some (tree steps)) q qs a atoms f by_first by_second by_bracket = refl
heading_free (Some (headed K.Prefix)) q qs a atoms f by_first by_second by_bracket = go q (by_first refl (named (f K.Prefix refl)))
  where
    named : FitsHead (a ∷ atoms) (headed K.Prefix) → is_named a.name ≡ true
    named h = prefix_named h.0 h.1 a atoms (subst (λ k. IsHead h.0 h.1 h.2 k) (sym (same_head h.7)) h.6) h.4

    go : (q : Pat Place) → NameOf Free q → is_reserved (prefix_heading q qs).name ≡ false
    go (pat_name p x) h = h
    go _ h = refl
heading_free (Some (headed K.Infix)) q qs a atoms f by_first by_second by_bracket = go qs atoms (middle (f K.Infix refl)) (by_second refl)
  where
    middle : FitsHead (a ∷ atoms) (headed K.Infix) → InfixNames (atom_names (a ∷ atoms))
    middle h = subst InfixNames h.4 (infix_middle h.0 h.1 (subst (λ k. IsHead h.0 h.1 h.2 k) (sym (same_head h.7)) h.6))

    between_free : (f b : Pat Place) → NameOf Free f → is_reserved (infix_heading q (and_pat f (and_pat b no_pat))).name ≡ false
    between_free (pat_name p x) b h = h
    between_free _ b h = refl

    go : (qs : Pats Place) (atoms : List Atom) → InfixNames (atom_names (a ∷ atoms)) → First Free qs atoms → is_reserved (infix_heading q qs).name ≡ false
    go no_pat atoms i h = refl
    go (and_pat f no_pat) atoms i h = refl
    go (and_pat f (and_pat b (and_pat c qs))) atoms i h = refl
    go (and_pat f (and_pat b no_pat)) [] i h = absurd i
    go (and_pat f (and_pat b no_pat)) (x ∷ []) i h = absurd i
    go (and_pat f (and_pat b no_pat)) (x ∷ y ∷ []) i h = between_free f b (h (short_named x.name i))
    go (and_pat f (and_pat b no_pat)) (x ∷ y ∷ z ∷ atoms) i h = absurd i
heading_free (Some (headed K.Bracketed)) q qs a atoms f by_first by_second by_bracket = go q (by_bracket refl (inside (f K.Bracketed refl)))
  where
    inside : FitsHead (a ∷ atoms) (headed K.Bracketed) → InfixNames a.inner
    inside h = subst InfixNames h.5 (infix_middle h.0 h.2 (bracketed_inner h.0 h.2 h.1 (subst (λ k. IsHead h.0 h.1 h.2 k) (sym (same_head h.7)) h.6)))

    in_brackets : (p : Place) (q : Pat Place) → ApplyName Free q → is_reserved (bracketed_heading (pat_bracket p q) qs).name ≡ false
    in_brackets p (pat_apply r x q) h = h
    in_brackets p _ h = refl

    go : (q : Pat Place) → BracketName Free q → is_reserved (bracketed_heading q qs).name ≡ false
    go (pat_bracket p q) h = in_brackets p q h
    go _ h = refl
