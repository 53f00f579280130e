-- The phrases of a declaration beside its marks, node by node: each name that a phrase binds is marked, in its group.
use Rattle.std.proofs.Common.{◌≡◌, ℕ, zero, suc, ◌+◌, ◌<◌, ◌≤◌, List, [], ◌∷◌, ◌++◌, Bool, true, false, Option, Some, None, length, get_or, drop, refl, sym, ap, ◌∙◌, subst, inl, inr, ◌⊎◌, arith}
use Rattle.std.specs.Prelude.{◌&&◌, ◌||◌, slice_get, slice_range, if◌then◌else◌}
use Rattle.std.specs.List.{cons_option}
use Rattle.std.proofs.lemmas.Bool.{false≢true, ltb-true, and_parts, and_from, eq-eqb}
use Rattle.std.proofs.lemmas.List.{get_or_append_left, get_or-append-add, drop-drop}
use Rattle.std.proofs.lemmas.Slice.Eq.{bytes_eq-Decides}
use Rattle.sml_lex.specs.declared.fault.Place.{Place}
use Rattle.sml_lex.specs.declared.token.Kind.{Kind}
use Rattle.sml_lex.specs.declared.token.Kind.TheVariants as K
use Rattle.sml_lex.specs.declared.token.Token.{Token}
use Rattle.sml_tree.specs.Trees.{Id}
use Rattle.sml_tree.specs.declared.patterns.ConstantKind.TheVariants.{Real}
use Rattle.sml_objects.specs.Appearance.{Stands}
use Rattle.sml_read.specs.declared.grammar.Part.{Part}
use Rattle.sml_read.specs.declared.grammar.Symbol.{Symbol}
use Rattle.sml_read.specs.declared.grammar.Symbol.TheVariants.{Word, Of}
use Rattle.sml_read.specs.declared.grammar.Rule.{Rule}
use Rattle.sml_read.specs.declared.grammar.Rule.TheVariants as G
use Rattle.sml_read.specs.declared.grammar.NameRule.{NameRule}
use Rattle.sml_read.specs.declared.grammar.NameRule.TheVariants as N
use Rattle.sml_read.specs.declared.grammar.Node.{Node}
use Rattle.sml_read.specs.declared.grammar.Node.TheVariants.{Leaf, Inner}
use Rattle.sml_read.specs.Grammar.{right_side}
use Rattle.sml_read.specs.Parts.{part_of}
use Rattle.sml_read.specs.Spelling.{kinds_of}
use Rattle.sml_read.specs.Extents.{starts_of}
use Rattle.sml_read.proofs.Tables.{each_rule, implies, implied}
use Rattle.sml_phrases.specs.Phrases.{Phrase, first, name_in, constant_in, at}
use Rattle.sml_reach.specs.Events.{text_of, text_at}
use Rattle.sml_reach.specs.Fits.{Fit}
use Rattle.sml_flaws.specs.declared.role.Space.{Space}
use Rattle.sml_flaws.specs.declared.role.Space.TheVariants as S
use Rattle.sml_flaws.specs.declared.role.Word.{Word as Wd}
use Rattle.sml_flaws.specs.declared.role.Word.TheVariants as W
use Rattle.sml_flaws.specs.declared.role.Role.{Role}
use Rattle.sml_flaws.specs.declared.role.Role.TheVariants as Q
use Rattle.sml_flaws.specs.declared.role.Entry.{Entry}
use Rattle.sml_flaws.specs.declared.role.Entry.TheVariants as O
use Rattle.sml_flaws.specs.declared.mark.Context.{Context}
use Rattle.sml_flaws.specs.declared.mark.Mark.{Mark}
use Rattle.sml_flaws.specs.declared.mark.Mark.TheVariants as Mk
use Rattle.sml_flaws.specs.Roles.{roles_of, entry_of}
use Rattle.sml_flaws.specs.Marks.{start, entered, in_role, contexts_from, is_constant, word_mark, rule_mark, mark_at, parts_of, marks_of}
use Rattle.sml_flaws.specs.Known.{space_number, same, key_at, key_in, token_in}
use Rattle.sml_flaws.specs.Flaws.{is_reserved, is_it, names_value, names_constructor, flaws_of}
use Rattle.sml_bare.specs.Derivations.{Source, place_at, token_phrase, word_phrase, made_by, phrases_of}
use Rattle.sml_tree_laws.specs.WellBound.{MayBeValue, MayBeConstructor}
use Rattle.sml_tree_laws.proofs.Named.{named_wider}
use Rattle.sml_tree_laws.proofs.PhrasesBound.{plain, class_of, Fits, PhraseBound, phrase_wider}
use Rattle.sml_tree_laws.proofs.PartsBound.{WordBound, RoleBound, PartsBound}
use Rattle.sml_tree_laws.proofs.MadeBound.{made_bound, made_fits, made_same, is_group}
use Rattle.sml_tree_laws.proofs.Clean.{once, no_real, may_bind}
use Rattle.sml_tree_laws.proofs.Walk.{Goes, is_type_variable, below_more, after_more, stands_after, context_in, context_after, entered_word}

-- the tables

-- a name that may be bound
abbrev is_named : Symbol → Bool
is_named (Word K.Alphanumeric) = true
is_named (Word K.Symbolic) = true
is_named (Word K.Star) = true
is_named (Word K.Equals) = true
is_named (Word K.Numeral) = true
is_named (Word K.ZeroNumeral) = true
is_named (Of Part.Vid) = true
is_named (Of Part.TyCon) = true
is_named (Of Part.Lab) = true
is_named _ = false

-- a constant that isn't known to be real
abbrev is_plain : Symbol → Bool
is_plain (Word K.RealConstant) = false
is_plain (Word k) = true
is_plain (Of Part.Constant) = true
is_plain (Of p) = false

abbrev is_any : Symbol → Bool
is_any x = true

-- what may stand where a word has this role
abbrev pub suits : Wd → Symbol → Bool
suits (W.Bound sp) x = is_named x
suits W.Listed x = is_type_variable x
suits W.Constant x = is_plain x
suits _ x = true

abbrev role_suits : (Symbol → Bool) → Role → Symbol → Bool
role_suits f (Q.Word word) x = suits word x
role_suits f _ x = f x

abbrev roles_suit : (Symbol → Bool) → List Role → ℕ → List Symbol → Bool
roles_suit f roles index [] = true
roles_suit f roles index (x ∷ ss) = role_suits f (get_or roles index Q.Same) x && roles_suit f roles (suc index) ss

abbrev of_names : Rule → Bool
of_names (G.Names rule) = true
of_names _ = false

abbrev is_real : Rule → Bool
is_real (G.Names N.ConstantRealConstant) = true
is_real _ = false

named_so : (r : Rule) → is_named (Of (part_of r)) ≡ true → (of_names r && roles_suit is_named (roles_of r) 0 (right_side r)) ≡ true
named_so r = implied _ _ (each_rule (λ r. implies (is_named (Of (part_of r))) (of_names r && roles_suit is_named (roles_of r) 0 (right_side r))) refl r)

plain_so : (r : Rule) → is_plain (Of (part_of r)) ≡ true → (of_names r && (is_real r || roles_suit is_plain (roles_of r) 0 (right_side r))) ≡ true
plain_so r = implied _ _ (each_rule (λ r. implies (is_plain (Of (part_of r))) (of_names r && (is_real r || roles_suit is_plain (roles_of r) 0 (right_side r)))) refl r)

named_only : (r : Rule) → is_named (Of (part_of r)) ≡ true → of_names r ≡ true
named_only r h = (and_parts _ _ (named_so r h)).0

plain_only : (r : Rule) → is_plain (Of (part_of r)) ≡ true → of_names r ≡ true
plain_only r h = (and_parts _ _ (plain_so r h)).0

any_so : (r : Rule) → roles_suit is_any (roles_of r) 0 (right_side r) ≡ true
any_so r = each_rule (λ r. roles_suit is_any (roles_of r) 0 (right_side r)) refl r

-- each context suits its symbol

abbrev pub AllSuit : List Symbol → List Context → Type 0
AllSuit [] cs = Unit {0}
AllSuit (x ∷ ss) [] = ⊥
AllSuit (x ∷ ss) (c ∷ cs) = (suits c.word x ≡ true) × AllSuit ss cs

suit_one : (f : Symbol → Bool) (role : Role) (x : Symbol) (c : Context) → role_suits f role x ≡ true → (f x ≡ true → suits c.word x ≡ true) → suits (in_role role c).word x ≡ true
suit_one f Q.Same x c h k = k h
suit_one f Q.Next x c h k = k h
suit_one f Q.Expression x c h k = k h
suit_one f (Q.Word word) x c h k = h

suit_side : (f : Symbol → Bool) (side : List Symbol) (roles : List Role) (index : ℕ) (c : Context) (ss : List Symbol) (cs : List Context) → roles_suit f roles index side ≡ true
    → ((x : Symbol) → f x ≡ true → suits c.word x ≡ true) → AllSuit ss cs → AllSuit (side ++ ss) (contexts_from roles c index (length side) ++ cs)
suit_side f [] roles index c ss cs h k rest = rest
suit_side f (x ∷ side) roles index c ss cs h k rest =
    (suit_one f (get_or roles index Q.Same) x c (and_parts _ _ h).0 (k x), suit_side f side roles (suc index) c ss cs (and_parts _ _ h).1 k rest)

or_second : (a b : Bool) → (a ≡ true → ⊥) → (a || b) ≡ true → b ≡ true
or_second true b h k = absurd (h refl)
or_second false b h k = k

suit_parts : (r : Rule) (p : Part) (i a : ℕ) (c : Context) (ss : List Symbol) (cs : List Context) → part_of r ≡ p → suits c.word (Of p) ≡ true → (is_real r ≡ true → c.word ≡ W.Constant → ⊥) → AllSuit ss cs
    → AllSuit (right_side r ++ ss) (parts_of i a c (Inner r) ++ cs)
suit_parts r p i a c ss cs same h real rest = go c.word refl h
  where
    side : (f : Symbol → Bool) → roles_suit f (roles_of r) 0 (right_side r) ≡ true → ((x : Symbol) → f x ≡ true → suits c.word x ≡ true) → AllSuit (right_side r ++ ss) (parts_of i a c (Inner r) ++ cs)
    side f e k =
        suit_side f (right_side r) (roles_of r) 0 (entered (entry_of r) i a c) ss cs e (λ x q. subst (λ w. suits w x ≡ true) (sym (entered_word (entry_of r) i a c)) (k x q)) rest

    go : (w : Wd) → c.word ≡ w → suits w (Of p) ≡ true → AllSuit (right_side r ++ ss) (parts_of i a c (Inner r) ++ cs)
    go (W.Bound sp) e k = side is_named (and_parts _ _ (named_so r (subst (λ q. is_named (Of q) ≡ true) (sym same) k))).1 (λ x q. subst (λ w. suits w x ≡ true) (sym e) q)
    go W.Listed e k = absurd (false≢true k)
    go W.Constant e k =
        side is_plain (or_second _ _ (λ q. real q e) (and_parts _ _ (plain_so r (subst (λ q. is_plain (Of q) ≡ true) (sym same) k))).1) (λ x q. subst (λ w. suits w x ≡ true) (sym e) q)
    go W.Plain e k = side is_any (any_so r) (λ x q. subst (λ w. suits w x ≡ true) (sym e) refl)
    go W.Variable e k = side is_any (any_so r) (λ x q. subst (λ w. suits w x ≡ true) (sym e) refl)
    go W.Atom e k = side is_any (any_so r) (λ x q. subst (λ w. suits w x ≡ true) (sym e) refl)

-- how many tokens the first trees take up, so many of them
abbrev pub width_of : ℕ → List Node → ℕ
width_of zero nodes = 0
width_of (suc n) [] = 0
width_of (suc n) (Leaf ∷ nodes) = suc (width_of n nodes)
width_of (suc n) (Inner r ∷ nodes) = width_of (length (right_side r) + n) nodes

pub width_more : (nodes : List Node) (m n : ℕ) → m ≤ n → width_of m nodes ≤ width_of n nodes
width_more nodes zero n h = omega arith
width_more [] (suc m) n h = omega arith
width_more nodes (suc m) zero h = absurd (omega (arith, h))
width_more (Leaf ∷ nodes) (suc m) (suc n) h = let k = width_more nodes m n (omega (arith, h)) in omega (arith, k)
width_more (Inner r ∷ nodes) (suc m) (suc n) h = let k = width_more nodes (length (right_side r) + m) (length (right_side r) + n) (omega (arith, h)) in omega (arith, k)

-- symbols

abbrev pub symbol : List Symbol → ℕ → Symbol
symbol ss k = get_or ss k (Word K.Comma)

role_group : (role : Role) (c : Context) → (in_role role c).group ≡ c.group
role_group Q.Same c = refl
role_group Q.Next c = refl
role_group Q.Expression c = refl
role_group (Q.Word word) c = refl

group_kept : (o : Entry) (i a : ℕ) (c : Context) → is_group o ≡ false → (entered o i a c).group ≡ c.group
group_kept O.Nothing i a c h = refl
group_kept O.Group i a c h = absurd (false≢true (sym h))
group_kept O.Types i a c h = absurd (false≢true (sym h))
group_kept O.Value i a c h = refl
group_kept O.Recursive i a c h = refl
group_kept O.Sequence i a c h = refl
group_kept O.Function i a c h = refl
group_kept O.Clause i a c h = refl

-- what tokens make

named_kind : (k : Kind) → is_named (Word k) ≡ true → (p : Place) (t : List ℕ) → (name_in (word_phrase k p t)).id ≡ t
named_kind K.Alphanumeric h p t = refl
named_kind K.Symbolic h p t = refl
named_kind K.Star h p t = refl
named_kind K.Equals h p t = refl
named_kind K.Numeral h p t = refl
named_kind K.ZeroNumeral h p t = refl
named_kind _ h p t = absurd (false≢true h)

variable_kind : (k : Kind) → is_type_variable (Word k) ≡ true → (p : Place) (t : List ℕ) → (name_in (word_phrase k p t)).id ≡ t
variable_kind K.TypeVariable h p t = refl
variable_kind _ h p t = absurd (false≢true h)

plain_kind : (k : Kind) → is_plain (Word k) ≡ true → (p : Place) (t : List ℕ) → (constant_in (word_phrase k p t)).kind ≡ Real → ⊥
plain_kind K.RealConstant h p t e = false≢true h
plain_kind _ h p t e = cc

either_none : (a b c d : Bool) → a ≡ true → c ≡ true → ((a && b) || (c && d)) ≡ false → (b ≡ false) × (d ≡ false)
either_none true true true d h k e = absurd (false≢true (sym e))
either_none true false true true h k e = absurd (false≢true (sym e))
either_none true false true false h k e = (refl, refl)
either_none false b c d h k e = absurd (false≢true h)
either_none true b false d h k e = absurd (false≢true k)

first_none : (a b c : Bool) → a ≡ true → ((a && b) || c) ≡ false → b ≡ false
first_none true true c h e = absurd (false≢true (sym e))
first_none true false c h e = refl
first_none false b c h e = absurd (false≢true h)

-- The marks are all of a declaration, whose source is s, and have no flaw.
module _ (s : Source) (tokens : List Token) (all : List Mark) (own : (n : ℕ) → slice_get s.tokens n ≡ slice_get tokens (s.begun + n)) (fits : List Fit) (clean : flaws_of (text_at s.unit tokens) fits [] all ≡ []) where
  abbrev text : ℕ → Id
  text = text_at s.unit tokens

  -- the name at a token, bound in a space and a group
  pub record Marked (sp : Space) (g t : ℕ) (x : Id) : Type 0 where
    pub among : Stands (Mk.Bound (record { space = sp; group = g; token = t })) all ⊎ ((sp ≡ S.Variables) × (o : Option ℕ) × Stands (Mk.Listed (record { group = g; owner = o; token = t })) all)
    pub text_is : text t ≡ x

  abbrev Has : Space → ℕ → ℕ → Type 0
  Has sp g t = (m : Mark) × Stands m all × (key_in text m ≡ Some (key_at text sp g t)) × (token_in m ≡ t)

  has : (sp : Space) (g t : ℕ) (x : Id) → Marked sp g t x → Has sp g t
  has sp g t x h = go h.among
    where
      go : Stands (Mk.Bound (record { space = sp; group = g; token = t })) all ⊎ ((sp ≡ S.Variables) × (o : Option ℕ) × Stands (Mk.Listed (record { group = g; owner = o; token = t })) all) → Has sp g t
      go (inl st) = (Mk.Bound (record { space = sp; group = g; token = t }), st, refl, refl)
      go (inr v) = (Mk.Listed (record { group = g; owner = v.1; token = t }), v.2, ap (λ q. Some (key_at text q g t)) (sym v.0), refl)

  same_keys : (sp : Space) (g t u : ℕ) → text t ≡ text u → same (key_at text sp g t) (key_at text sp g u) ≡ true
  same_keys sp g t u e = and_from _ _ (eq-eqb (space_number sp) (space_number sp) refl) (and_from _ _ (eq-eqb g g refl) ((bytes_eq-Decides (text t) (text u)).1 e))

  apart : (sp : Space) (g t u : ℕ) (x : Id) → t < u → Marked sp g t x → Marked sp g u x → ⊥
  apart sp g t u x l h k =
      let a = has sp g t x h in
      let b = has sp g u x k in
      let ta = a.3 in
      let tb = b.3 in
      once text fits all clean a.0 b.0 (key_at text sp g t) (key_at text sp g u) a.1 b.1 (omega (arith, l, ta, tb)) a.2 b.2 (same_keys sp g t u (h.text_is ∙ sym k.text_is)) (same_keys sp g u t (k.text_is ∙ sym h.text_is))

  may_be : (sp : Space) (g t : ℕ) (x : Id) → (sp ≡ S.Constructors) ⊎ (sp ≡ S.Exceptions) → Marked sp g t x → MayBeConstructor x
  may_be sp g t x e h = subst (λ q. (is_reserved q ≡ false) × (is_it q ≡ false)) h.text_is (go h.among)
    where
      value : (sp ≡ S.Constructors) ⊎ (sp ≡ S.Exceptions) → names_value sp ≡ true
      value (inl e) = ap names_value e
      value (inr e) = ap names_value e

      constructor : (sp ≡ S.Constructors) ⊎ (sp ≡ S.Exceptions) → names_constructor sp ≡ true
      constructor (inl e) = ap names_constructor e
      constructor (inr e) = ap names_constructor e

      go : Stands (Mk.Bound (record { space = sp; group = g; token = t })) all ⊎ ((sp ≡ S.Variables) × (o : Option ℕ) × Stands (Mk.Listed (record { group = g; owner = o; token = t })) all)
          → (is_reserved (text t) ≡ false) × (is_it (text t) ≡ false)
      go (inl st) = either_none (names_value sp) (is_reserved (text t)) (names_constructor sp) (is_it (text t)) (value e) (constructor e) (may_bind text fits all clean sp g t st)
      go (inr v) = absurd (false≢true (sym (ap names_value v.0) ∙ value e))

  may_value : (g t : ℕ) (x : Id) → Marked S.Values g t x → MayBeValue x
  may_value g t x h = subst (λ q. is_reserved q ≡ false) h.text_is (go h.among)
    where
      go : Stands (Mk.Bound (record { space = S.Values; group = g; token = t })) all ⊎ ((S.Values ≡ S.Variables) × (o : Option ℕ) × Stands (Mk.Listed (record { group = g; owner = o; token = t })) all)
          → is_reserved (text t) ≡ false
      go (inl st) = first_none (names_value S.Values) (is_reserved (text t)) (names_constructor S.Values && is_it (text t)) refl (may_bind text fits all clean S.Values g t st)
      go (inr v) = absurd (false≢true (sym (ap names_value v.0)))

  abbrev pub Claim : Symbol → Context → ℕ → ℕ → Phrase → Type 0
  Claim x c lo hi v = PhraseBound Marked (class_of x) c.group lo hi v × WordBound Marked c.word c.group lo hi v × Fits (class_of x) v

  word_wider : (w : Wd) (g lo hi lo' hi' : ℕ) (v : Phrase) → lo' ≤ lo → hi ≤ hi' → WordBound Marked w g lo hi v → WordBound Marked w g lo' hi' v
  word_wider (W.Bound sp) g lo hi lo' hi' v a b h = named_wider Marked sp g lo hi lo' hi' ((name_in v).id ∷ []) a b h
  word_wider W.Listed g lo hi lo' hi' v a b h = named_wider Marked S.Variables g lo hi lo' hi' ((name_in v).id ∷ []) a b h
  word_wider W.Constant g lo hi lo' hi' v a b h = h
  word_wider W.Plain g lo hi lo' hi' v a b h = h
  word_wider W.Variable g lo hi lo' hi' v a b h = h
  word_wider W.Atom g lo hi lo' hi' v a b h = h

  -- tokens

  kind_bound : (g lo hi : ℕ) (k : Kind) (p : Place) (t : List ℕ) → PhraseBound Marked plain g lo hi (word_phrase k p t)
  kind_bound g lo hi K.Alphanumeric p t = tt
  kind_bound g lo hi K.Integer p t = tt
  kind_bound g lo hi _ p t = tt

  token_bound : (g lo hi : ℕ) (p : Place) (o : Option Token) → PhraseBound Marked plain g lo hi (token_phrase s.unit p o)
  token_bound g lo hi p None = tt
  token_bound g lo hi p (Some t) = kind_bound g lo hi t.kind p _

  text_of_token : (a : ℕ) (t : Token) → slice_get tokens a ≡ Some t → text a ≡ slice_range s.unit t.span.start t.span.«end»
  text_of_token a t e = ap (λ o. text_of s.unit o) e

  module _ (c : Context) (w : Kind) (a lo hi : ℕ) (p : Place) (o : Option Token) (t : Token) (is : o ≡ Some t) (kind : w ≡ t.kind) (at_text : text a ≡ slice_range s.unit t.span.start t.span.«end»)
      (rest : List Mark) (from : lo ≤ a) (before : a < hi) where
    name_is : ((p : Place) (bytes : List ℕ) → (name_in (word_phrase w p bytes)).id ≡ bytes) → text a ≡ (name_in (token_phrase s.unit p o)).id
    name_is f =
        at_text ∙ sym (ap (λ o. (name_in (token_phrase s.unit p o)).id) is ∙ subst (λ k. (name_in (word_phrase k p (slice_range s.unit t.span.start t.span.«end»))).id ≡ slice_range s.unit t.span.start t.span.«end») kind (f p _))

    leaf_word : suits c.word (Word w) ≡ true → ((m : Mark) → Stands m (cons_option (word_mark c.word a c) rest) → Stands m all) → WordBound Marked c.word c.group lo hi (token_phrase s.unit p o)
    unfolding Stands
    leaf_word h inc = go c.word h inc
      where
        go : (wd : Wd) → suits wd (Word w) ≡ true → ((m : Mark) → Stands m (cons_option (word_mark wd a c) rest) → Stands m all) → WordBound Marked wd c.group lo hi (token_phrase s.unit p o)
        go (W.Bound sp) h inc = (a, from, before, record { among = inl (inc _ (inl refl)); text_is = name_is (named_kind w h) }, tt)
        go W.Listed h inc = (a, from, before, record { among = inr (refl, c.owner, inc _ (inl refl)); text_is = name_is (variable_kind w h) }, tt)
        go W.Constant h inc =
            subst (λ o. (constant_in (token_phrase s.unit p o)).kind ≡ Real → ⊥) (sym is) (subst (λ k. (constant_in (word_phrase k p (slice_range s.unit t.span.start t.span.«end»))).kind ≡ Real → ⊥) kind (plain_kind w h p _))
        go W.Plain h inc = tt
        go W.Variable h inc = tt
        go W.Atom h inc = tt

  -- a real constant in a pattern is marked
  real_marked : (r : Rule) (a : ℕ) (c : Context) (rest : List Mark) → ((m : Mark) → Stands m (cons_option (rule_mark r a c) rest) → Stands m all) → is_real r ≡ true → c.word ≡ W.Constant → ⊥
  unfolding Stands
  real_marked (G.Names rule) a c rest inc h e = go rule inc h
    where
      go : (rule : NameRule) → ((m : Mark) → Stands m (cons_option (rule_mark (G.Names rule) a c) rest) → Stands m all) → is_real (G.Names rule) ≡ true → ⊥
      go N.ConstantRealConstant inc h =
          no_real text fits all clean a (inc (Mk.Real a) (subst (λ w. Stands (Mk.Real a) (cons_option (if is_constant w then Some (Mk.Real a) else None) rest)) (sym e) (inl refl)))
      go _ inc h = false≢true h
  real_marked (G.Units rule) a c rest inc h e = false≢true h
  real_marked (G.Structures rule) a c rest inc h e = false≢true h
  real_marked (G.Signatures rule) a c rest inc h e = false≢true h
  real_marked (G.Specifications rule) a c rest inc h e = false≢true h
  real_marked (G.Declarations rule) a c rest inc h e = false≢true h
  real_marked (G.Expressions rule) a c rest inc h e = false≢true h
  real_marked (G.Patterns rule) a c rest inc h e = false≢true h
  real_marked (G.Types rule) a c rest inc h e = false≢true h

  -- a phrase by a rule, from the phrases after its node

  abbrev pub After : Rule → ℕ → ℕ → Context → List Node → List Phrase → Type 0
  After r i a c nodes vs =
      (k : ℕ) → k < length (right_side r) → Claim (symbol (right_side r) k) (in_role (get_or (roles_of r) k Q.Same) (entered (entry_of r) i a c)) (a + width_of k nodes) (a + width_of (suc k) nodes) (at vs k)

  named_word : (rule : NameRule) (i a n lo hi : ℕ) (c : Context) (nodes : List Node) (vs : List Phrase) → is_named (Of (part_of (G.Names rule))) ≡ true → lo ≤ a + 0 → a + width_of 1 nodes ≤ hi → After (G.Names rule) i a c nodes vs
      → WordBound Marked c.word c.group lo hi (made_by s (G.Names rule) n vs)
  named_word N.VidAlphanumeric i a n lo hi c nodes vs h l r b = word_wider c.word c.group (a + 0) (a + width_of 1 nodes) lo hi (at vs 0) l r (b 0 (omega arith)).1
  named_word N.VidSymbolic i a n lo hi c nodes vs h l r b = word_wider c.word c.group (a + 0) (a + width_of 1 nodes) lo hi (at vs 0) l r (b 0 (omega arith)).1
  named_word N.VidStar i a n lo hi c nodes vs h l r b = word_wider c.word c.group (a + 0) (a + width_of 1 nodes) lo hi (at vs 0) l r (b 0 (omega arith)).1
  named_word N.TyConAlphanumeric i a n lo hi c nodes vs h l r b = word_wider c.word c.group (a + 0) (a + width_of 1 nodes) lo hi (at vs 0) l r (b 0 (omega arith)).1
  named_word N.TyConSymbolic i a n lo hi c nodes vs h l r b = word_wider c.word c.group (a + 0) (a + width_of 1 nodes) lo hi (at vs 0) l r (b 0 (omega arith)).1
  named_word N.LabVid i a n lo hi c nodes vs h l r b = word_wider c.word c.group (a + 0) (a + width_of 1 nodes) lo hi (at vs 0) l r (b 0 (omega arith)).1
  named_word N.LabNumeral i a n lo hi c nodes vs h l r b = word_wider c.word c.group (a + 0) (a + width_of 1 nodes) lo hi (at vs 0) l r (b 0 (omega arith)).1
  named_word _ i a n lo hi c nodes vs h l r b = absurd (false≢true h)

  constant_word : (rule : NameRule) (i a n lo hi : ℕ) (c : Context) (nodes : List Node) (vs : List Phrase) → is_plain (Of (part_of (G.Names rule))) ≡ true → (is_real (G.Names rule) ≡ true → ⊥) → After (G.Names rule) i a c nodes vs
      → c.word ≡ W.Constant → (constant_in (made_by s (G.Names rule) n vs)).kind ≡ Real → ⊥
  constant_word N.ConstantNumeral i a n lo hi c nodes vs h real b e = λ k. cc
  constant_word N.ConstantZeroNumeral i a n lo hi c nodes vs h real b e = λ k. cc
  constant_word N.ConstantInteger i a n lo hi c nodes vs h real b e = subst (λ w. WordBound Marked w c.group (a + 0) (a + width_of 1 nodes) (at vs 0)) e (b 0 (omega arith)).1
  constant_word N.ConstantWordConstant i a n lo hi c nodes vs h real b e = subst (λ w. WordBound Marked w c.group (a + 0) (a + width_of 1 nodes) (at vs 0)) e (b 0 (omega arith)).1
  constant_word N.ConstantRealConstant i a n lo hi c nodes vs h real b e = absurd (real refl)
  constant_word N.ConstantStringConstant i a n lo hi c nodes vs h real b e = subst (λ w. WordBound Marked w c.group (a + 0) (a + width_of 1 nodes) (at vs 0)) e (b 0 (omega arith)).1
  constant_word N.ConstantCharacterConstant i a n lo hi c nodes vs h real b e = subst (λ w. WordBound Marked w c.group (a + 0) (a + width_of 1 nodes) (at vs 0)) e (b 0 (omega arith)).1
  constant_word _ i a n lo hi c nodes vs h real b e = absurd (false≢true h)

  module _ (r : Rule) (p : Part) (i a n lo hi : ℕ) (c : Context) (nodes : List Node) (vs : List Phrase) (same_part : part_of r ≡ p) (suited : suits c.word (Of p) ≡ true)
      (real : is_real r ≡ true → c.word ≡ W.Constant → ⊥) (from : lo ≤ a + 0) (after : a + width_of (length (right_side r) + 0) nodes ≤ hi) (parts_claimed : After r i a c nodes vs) where
    abbrev c' : Context
    c' = entered (entry_of r) i a c

    abbrev t : ℕ → ℕ
    t k = a + width_of k nodes

    mono : (k : ℕ) → t k ≤ t (suc k)
    mono k = let m = width_more nodes k (suc k) (omega arith) in omega (arith, m)

    part_claimed : (role : Role) (x : Symbol) (lo hi : ℕ) (v : Phrase) → Claim x (in_role role c') lo hi v → PhraseBound Marked (class_of x) c'.group lo hi v × RoleBound Marked role c'.group lo hi v × Fits (class_of x) v
    part_claimed Q.Same x lo hi v h = (h.0, tt, h.2)
    part_claimed Q.Next x lo hi v h = (h.0, tt, h.2)
    part_claimed Q.Expression x lo hi v h = (h.0, tt, h.2)
    part_claimed (Q.Word word) x lo hi v h = h

    parts : PartsBound Marked c'.group t r vs
    parts k b = part_claimed (get_or (roles_of r) k Q.Same) (symbol (right_side r) k) (t k) (t (suc k)) (at vs k) (parts_claimed k (ltb-true k (length (right_side r)) b))

    in_group : PhraseBound Marked (class_of (Of (part_of r))) c'.group (t 0) (t (length (right_side r))) (made_by s r n vs)
    in_group = made_bound Marked apart may_be may_value c'.group t mono r _ _ vs parts

    out_of_group : PhraseBound Marked (class_of (Of (part_of r))) c.group (t 0) (t (length (right_side r))) (made_by s r n vs)
    out_of_group = go (is_group (entry_of r)) refl
      where
        go : (b : Bool) → is_group (entry_of r) ≡ b → PhraseBound Marked (class_of (Of (part_of r))) c.group (t 0) (t (length (right_side r))) (made_by s r n vs)
        go true e = made_same Marked c'.group c.group (t 0) (t (length (right_side r))) r _ _ vs e in_group
        go false e = subst (λ g. PhraseBound Marked (class_of (Of (part_of r))) g (t 0) (t (length (right_side r))) (made_by s r n vs)) (group_kept (entry_of r) i a c e) in_group

    end : t (length (right_side r)) ≤ hi
    end = let e = ap (λ q. width_of q nodes) (let f : length (right_side r) + 0 ≡ length (right_side r) = omega arith in f) in omega (arith, after, e)

    by_rule : (r : Rule) → is_named (Of (part_of r)) ≡ true → a + width_of (length (right_side r) + 0) nodes ≤ hi → After r i a c nodes vs → WordBound Marked c.word c.group lo hi (made_by s r n vs)
    by_rule (G.Names rule) h e b = names rule h e b
      where
        names : (rule : NameRule) → is_named (Of (part_of (G.Names rule))) ≡ true → a + width_of (length (right_side (G.Names rule)) + 0) nodes ≤ hi → After (G.Names rule) i a c nodes vs
            → WordBound Marked c.word c.group lo hi (made_by s (G.Names rule) n vs)
        names rule h e b = named_word rule i a n lo hi c nodes vs h from (one rule h e) b
          where
            one : (rule : NameRule) → is_named (Of (part_of (G.Names rule))) ≡ true → a + width_of (length (right_side (G.Names rule)) + 0) nodes ≤ hi → a + width_of 1 nodes ≤ hi
            one N.VidAlphanumeric h e = e
            one N.VidSymbolic h e = e
            one N.VidStar h e = e
            one N.TyConAlphanumeric h e = e
            one N.TyConSymbolic h e = e
            one N.LabVid h e = e
            one N.LabNumeral h e = e
            one _ h e = absurd (false≢true h)
    by_rule (G.Units rule) h e b = absurd (false≢true (named_only (G.Units rule) h))
    by_rule (G.Structures rule) h e b = absurd (false≢true (named_only (G.Structures rule) h))
    by_rule (G.Signatures rule) h e b = absurd (false≢true (named_only (G.Signatures rule) h))
    by_rule (G.Specifications rule) h e b = absurd (false≢true (named_only (G.Specifications rule) h))
    by_rule (G.Declarations rule) h e b = absurd (false≢true (named_only (G.Declarations rule) h))
    by_rule (G.Expressions rule) h e b = absurd (false≢true (named_only (G.Expressions rule) h))
    by_rule (G.Patterns rule) h e b = absurd (false≢true (named_only (G.Patterns rule) h))
    by_rule (G.Types rule) h e b = absurd (false≢true (named_only (G.Types rule) h))

    by_constant : (r : Rule) → is_plain (Of (part_of r)) ≡ true → (is_real r ≡ true → ⊥) → After r i a c nodes vs → c.word ≡ W.Constant → (constant_in (made_by s r n vs)).kind ≡ Real → ⊥
    by_constant (G.Names rule) h real b e = constant_word rule i a n lo hi c nodes vs h real b e
    by_constant (G.Units rule) h real b e = absurd (false≢true (plain_only (G.Units rule) h))
    by_constant (G.Structures rule) h real b e = absurd (false≢true (plain_only (G.Structures rule) h))
    by_constant (G.Signatures rule) h real b e = absurd (false≢true (plain_only (G.Signatures rule) h))
    by_constant (G.Specifications rule) h real b e = absurd (false≢true (plain_only (G.Specifications rule) h))
    by_constant (G.Declarations rule) h real b e = absurd (false≢true (plain_only (G.Declarations rule) h))
    by_constant (G.Expressions rule) h real b e = absurd (false≢true (plain_only (G.Expressions rule) h))
    by_constant (G.Patterns rule) h real b e = absurd (false≢true (plain_only (G.Patterns rule) h))
    by_constant (G.Types rule) h real b e = absurd (false≢true (plain_only (G.Types rule) h))

    word_bound : WordBound Marked c.word c.group lo hi (made_by s r n vs)
    word_bound = go c.word refl suited
      where
        go : (w : Wd) → c.word ≡ w → suits w (Of p) ≡ true → WordBound Marked c.word c.group lo hi (made_by s r n vs)
        go (W.Bound sp) e h = by_rule r (subst (λ q. is_named (Of q) ≡ true) (sym same_part) h) after parts_claimed
        go W.Listed e h = absurd (false≢true h)
        go W.Constant e h =
            subst (λ w. WordBound Marked w c.group lo hi (made_by s r n vs)) (sym e) (by_constant r (subst (λ q. is_plain (Of q) ≡ true) (sym same_part) h) (λ q. real q e) parts_claimed e)
        go W.Plain e h = subst (λ w. WordBound Marked w c.group lo hi (made_by s r n vs)) (sym e) tt
        go W.Variable e h = subst (λ w. WordBound Marked w c.group lo hi (made_by s r n vs)) (sym e) tt
        go W.Atom e h = subst (λ w. WordBound Marked w c.group lo hi (made_by s r n vs)) (sym e) tt

    pub claimed : Claim (Of p) c lo hi (made_by s r n vs)
    claimed = (
      subst (λ q. PhraseBound Marked (class_of (Of q)) c.group lo hi (made_by s r n vs)) same_part (phrase_wider Marked (class_of (Of (part_of r))) c.group (t 0) (t (length (right_side r))) lo hi (made_by s r n vs) from end out_of_group),
      word_bound,
      subst (λ q. Fits (class_of (Of q)) (made_by s r n vs)) same_part (made_fits r _ _ vs),
    )

  -- all phrases that are after a node, each in its context
  pub bounds : (nodes : List Node) (i n a : ℕ) (ss : List Symbol) (cs : List Context) (left : List Token) → a ≡ s.begun + n → Goes nodes ss (kinds_of left) → AllSuit ss cs
      → ((j : ℕ) (t : Token) → slice_get left j ≡ Some t → slice_get s.tokens (n + j) ≡ Some t) → ((m : Mark) → Stands m (marks_of i a cs nodes) → Stands m all)
      → (k : ℕ) → k < length ss → (lo hi : ℕ) → lo ≡ a + width_of k nodes → hi ≡ a + width_of (suc k) nodes
      → Claim (symbol ss k) (get_or cs k start) lo hi (at (phrases_of s nodes (starts_of n nodes)) k)
  bounds [] i n a ss cs left at_token g suit reads inc k h lo hi el eh = absurd (let e : length ss ≡ 0 = ap length g in omega (arith, h, e))
  bounds (Leaf ∷ nodes) i n a [] cs left at_token g suit reads inc k h lo hi el eh = absurd g
  bounds (Leaf ∷ nodes) i n a (Of p ∷ ss) cs left at_token g suit reads inc k h lo hi el eh = absurd g
  bounds (Leaf ∷ nodes) i n a (Word w ∷ ss) [] left at_token g suit reads inc k h lo hi el eh = absurd suit
  bounds (Leaf ∷ nodes) i n a (Word w ∷ ss) (c ∷ cs) [] at_token g suit reads inc k h lo hi el eh = absurd g
  bounds (Leaf ∷ nodes) i n a (Word w ∷ ss) (c ∷ cs) (t ∷ left) at_token g suit reads inc zero h lo hi el eh = (
    token_bound c.group lo hi (place_at s.unit s.tokens n) (slice_get s.tokens n),
    leaf_word c w a lo hi (place_at s.unit s.tokens n) (slice_get s.tokens n) t here g.0 (text_of_token a t there) _ (omega (arith, el)) (omega (arith, eh)) suit.0 inc,
    tt,
  )
    where
      here : slice_get s.tokens n ≡ Some t
      here = ap (slice_get s.tokens) (let e : n ≡ n + 0 = omega arith in e) ∙ reads 0 t refl

      there : slice_get tokens a ≡ Some t
      there = ap (slice_get tokens) at_token ∙ sym (own n) ∙ here
  bounds (Leaf ∷ nodes) i n a (Word w ∷ ss) (c ∷ cs) (t ∷ left) at_token g suit reads inc (suc k) h lo hi el eh =
      bounds nodes (suc i) (suc n) (a + 1) ss cs left (omega (arith, at_token)) g.1 suit.1
      (λ j t e. ap (slice_get s.tokens) (let f : suc n + j ≡ n + suc j = omega arith in f) ∙ reads (suc j) t e)
      (λ m st. inc m (stands_after m (word_mark c.word a c) _ st))
      k (omega (arith, h)) lo hi (omega (arith, el)) (omega (arith, eh))
  bounds (Inner r ∷ nodes) i n a [] cs left at_token g suit reads inc k h lo hi el eh = absurd g
  bounds (Inner r ∷ nodes) i n a (Word w ∷ ss) cs left at_token g suit reads inc k h lo hi el eh = absurd g
  bounds (Inner r ∷ nodes) i n a (Of p ∷ ss) [] left at_token g suit reads inc k h lo hi el eh = absurd suit
  bounds (Inner r ∷ nodes) i n a (Of p ∷ ss) (c ∷ cs) left at_token g suit reads inc k h lo hi el eh =
      by_place
      (bounds nodes (suc i) n a (right_side r ++ ss) (parts_of i a c (Inner r) ++ cs) left at_token g.2 (suit_parts r p i a c ss cs g.0 suit.0 real suit.1) reads (λ m st. inc m (stands_after m (mark_at a c (Inner r)) _ st)))
      k h lo hi el eh
    where
      real : is_real r ≡ true → c.word ≡ W.Constant → ⊥
      real = real_marked r a c _ inc

      len : ℕ
      len = length (right_side r)

      vs : List Phrase
      vs = phrases_of s nodes (starts_of n nodes)

      after : ((k : ℕ) → k < length (right_side r ++ ss) → (lo hi : ℕ) → lo ≡ a + width_of k nodes → hi ≡ a + width_of (suc k) nodes → Claim (symbol (right_side r ++ ss) k) (get_or (parts_of i a c (Inner r) ++ cs) k start) lo hi (at vs k))
          → After r i a c nodes vs
      after deeper k b =
          subst (λ x. Claim x (in_role (get_or (roles_of r) k Q.Same) (entered (entry_of r) i a c)) (a + width_of k nodes) (a + width_of (suc k) nodes) (at vs k)) (get_or_append_left (right_side r) ss (Word K.Comma) k b)
          (subst (λ q. Claim (symbol (right_side r ++ ss) k) q (a + width_of k nodes) (a + width_of (suc k) nodes) (at vs k))
          (context_in (roles_of r) (entered (entry_of r) i a c) 0 len cs k b ∙ ap (λ q. in_role (get_or (roles_of r) q Q.Same) (entered (entry_of r) i a c)) (let e : 0 + k ≡ k = omega arith in e))
          (deeper k (below_more k (right_side r) ss b) (a + width_of k nodes) (a + width_of (suc k) nodes) refl refl))

      by_place : ((k : ℕ) → k < length (right_side r ++ ss) → (lo hi : ℕ) → lo ≡ a + width_of k nodes → hi ≡ a + width_of (suc k) nodes → Claim (symbol (right_side r ++ ss) k) (get_or (parts_of i a c (Inner r) ++ cs) k start) lo hi (at vs k))
          → (k : ℕ) → k < length (Of p ∷ ss) → (lo hi : ℕ) → lo ≡ a + width_of k (Inner r ∷ nodes) → hi ≡ a + width_of (suc k) (Inner r ∷ nodes)
          → Claim (symbol (Of p ∷ ss) k) (get_or (c ∷ cs) k start) lo hi (at (made_by s r n vs ∷ drop len vs) k)
      by_place deeper zero h lo hi el eh = claimed r p i a n lo hi c nodes vs g.0 suit.0 real (omega (arith, el)) (omega (arith, eh)) (after deeper)
      by_place deeper (suc k) h lo hi el eh =
          let next = ap (λ q. width_of q nodes) (let e : len + suc k ≡ suc (len + k) = omega arith in e) in
          let x = deeper (len + k) (after_more k (right_side r) ss (omega (arith, h))) lo hi (omega (arith, el)) (omega (arith, eh, next)) in
          subst (λ q. Claim (symbol ss k) (get_or cs k start) lo hi (first q)) (sym (drop-drop k len vs))
          (subst (λ y. Claim y (get_or cs k start) lo hi (at vs (len + k))) (get_or-append-add (right_side r) ss k (Word K.Comma))
          (subst (λ q. Claim (symbol (right_side r ++ ss) (len + k)) q lo hi (at vs (len + k))) (context_after (roles_of r) (entered (entry_of r) i a c) 0 len cs k (len + k) refl) x))
