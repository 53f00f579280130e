-- The phrases of a declaration beside its marks, node by node: what a phrase has of type variables is marked.
use Rattle.std.proofs.Common.{◌≡◌, ℕ, zero, suc, ◌+◌, ◌<◌, ◌≤◌, List, [], ◌∷◌, ◌++◌, Bool, true, false, Option, Some, None, length, get_or, drop, refl, sym, ap, ◌∙◌, subst, inl, inr, arith}
use Rattle.std.specs.Prelude.{not, nat_lt, ◌&&◌, slice_get, slice_range}
use Rattle.std.specs.List.{cons_option}
use Rattle.std.specs.Option.{option_map, is_some}
use Rattle.std.proofs.lemmas.Bool.{false≢true, lt-ltb, ltb-true, and_parts, and_from}
use Rattle.std.proofs.lemmas.List.{length-append, drop-drop}
use Rattle.std.proofs.lemmas.Slice.Eq.{bytes_eq-Decides}
use Rattle.sml_lex.specs.declared.fault.Place.{Place}
use Rattle.sml_lex.specs.declared.token.Kind.{Kind}
use Rattle.sml_lex.specs.declared.token.Kind.TheVariants as K
use Rattle.sml_lex.specs.declared.token.Token.{Token}
use Rattle.sml_tree.specs.Trees.{Id}
use Rattle.sml_objects.specs.Appearance.{Stands}
use Rattle.sml_read.specs.declared.grammar.Part.{Part}
use Rattle.sml_read.specs.declared.grammar.Symbol.{Symbol}
use Rattle.sml_read.specs.declared.grammar.Symbol.TheVariants.{Word, Of}
use Rattle.sml_read.specs.declared.grammar.Rule.{Rule}
use Rattle.sml_read.specs.declared.grammar.Node.{Node}
use Rattle.sml_read.specs.declared.grammar.Node.TheVariants.{Leaf, Inner}
use Rattle.sml_read.specs.Grammar.{right_side}
use Rattle.sml_read.specs.Parts.{part_of}
use Rattle.sml_read.specs.Spelling.{is_outer, kinds_of}
use Rattle.sml_read.specs.Extents.{size_of, ends_of, starts_of}
use Rattle.sml_read.proofs.Tables.{each_rule, implies, implied}
use Rattle.sml_phrases.specs.Phrases.{Phrase, first, name_in, at}
use Rattle.sml_reach.specs.Events.{text_of, text_at}
use Rattle.sml_flaws.specs.declared.role.Word.{Word as Wd}
use Rattle.sml_flaws.specs.declared.role.Word.TheVariants as W
use Rattle.sml_flaws.specs.declared.role.Role.{Role}
use Rattle.sml_flaws.specs.declared.role.Role.TheVariants as Q
use Rattle.sml_flaws.specs.declared.role.Entry.{Entry}
use Rattle.sml_flaws.specs.declared.role.Entry.TheVariants as O
use Rattle.sml_flaws.specs.declared.mark.Context.{Context}
use Rattle.sml_flaws.specs.declared.mark.Listed.{Listed}
use Rattle.sml_flaws.specs.declared.mark.Mark.{Mark}
use Rattle.sml_flaws.specs.declared.mark.Mark.TheVariants as Mk
use Rattle.sml_flaws.specs.Roles.{roles_of, entry_of}
use Rattle.sml_flaws.specs.Marks.{start, entered, in_role, contexts_from, word_mark, mark_at, parts_of, marks_of}
use Rattle.sml_flaws.specs.Known.{token_in}
use Rattle.sml_flaws.specs.Flaws.{owner_in, lies_in, is_outer as is_round}
use Rattle.sml_bare.specs.Derivations.{Source, place_at, token_phrase, word_phrase, made_by, phrases_of}
use Rattle.sml_tree_laws.proofs.Phrases.{PhraseSits}
use Rattle.sml_tree_laws.proofs.Parts.{WordSits, RoleSits, PartSits, PartsSit, opens_scope, scopes, is_value, is_types, opens_value}
use Rattle.sml_tree_laws.proofs.Values.{phrase_more}
use Rattle.sml_tree_laws.proofs.Made.{lists_names, made_sits, types_sit, scoped_sits}

-- the tables

-- parts round those for lists of signature identifiers
abbrev is_round_names : Part → Bool
is_round_names Part.Start = true
is_round_names Part.AfterTop = true
is_round_names Part.AfterExp = true
is_round_names Part.Top = true
is_round_names Part.Str = true
is_round_names Part.Strs = true
is_round_names Part.Specs = true
is_round_names Part.StrBind = true
is_round_names Part.Seal = true
is_round_names Part.StrBindMore = true
is_round_names Part.Ascription = true
is_round_names Part.StrBindSig = true
is_round_names Part.StrBindWhere = true
is_round_names Part.StrBindAnd = true
is_round_names Part.FunBind = true
is_round_names Part.FunArg = true
is_round_names Part.FunBindMore = true
is_round_names Part.FunBindSig = true
is_round_names Part.FunBindWhere = true
is_round_names Part.FunBindAnd = true
is_round_names Part.StrExp = true
is_round_names Part.StrExpMore = true
is_round_names Part.StrExpSig = true
is_round_names Part.StrExpWhere = true
is_round_names Part.StrAtom = true
is_round_names Part.Actual = true
is_round_names Part.StrArg = true
is_round_names Part.Sig = true
is_round_names Part.SigAtom = true
is_round_names Part.SigBind = true
is_round_names Part.SigBindMore = true
is_round_names Part.SigBindWhere = true
is_round_names Part.SigBindAnd = true
is_round_names Part.Spec = true
is_round_names Part.StrSpec = true
is_round_names Part.StrSpecMore = true
is_round_names Part.StrSpecWhere = true
is_round_names Part.StrSpecAnd = true
is_round_names Part.Include = true
is_round_names Part.IncludeMore = true
is_round_names Part.IncludeIds = true
is_round_names _ = false

abbrev is_core : Symbol → Bool
is_core (Word k) = true
is_core (Of p) = not (is_round_names p)

abbrev all_core : List Symbol → Bool
all_core [] = true
all_core (x ∷ ss) = is_core x && all_core ss

abbrev is_of_core : Rule → Bool
is_of_core r = not (is_round_names (part_of r))

core_so : (r : Rule) → is_of_core r ≡ true → all_core (right_side r) ≡ true
core_so r = implied _ _ (each_rule (λ r. implies (is_of_core r) (all_core (right_side r))) refl r)

-- only these parts list signature identifiers
names_so : (r : Rule) → is_of_core r ≡ true → not (lists_names r) ≡ true
names_so r = implied _ _ (each_rule (λ r. implies (is_of_core r) (not (lists_names r))) refl r)

-- a value declaration inside a declaration is of the core
scopes_so : (r : Rule) → (not (is_outer (part_of r)) && scopes r) ≡ true → is_of_core r ≡ true
scopes_so r = implied _ _ (each_rule (λ r. implies (not (is_outer (part_of r)) && scopes r) (is_of_core r)) refl r)

-- a type variable of a list or of a type stands where the grammar has one
abbrev is_of_variable : Wd → Bool
is_of_variable W.Listed = true
is_of_variable W.Variable = true
is_of_variable _ = false

abbrev pub is_type_variable : Symbol → Bool
is_type_variable (Word K.TypeVariable) = true
is_type_variable _ = false

abbrev role_fits : Role → Symbol → Bool
role_fits (Q.Word word) x = implies (is_of_variable word) (is_type_variable x)
role_fits _ x = true

abbrev roles_fit : List Role → ℕ → List Symbol → Bool
roles_fit roles index [] = true
roles_fit roles index (x ∷ ss) = role_fits (get_or roles index Q.Same) x && roles_fit roles (suc index) ss

roles_so : (r : Rule) → roles_fit (roles_of r) 0 (right_side r) ≡ true
roles_so r = each_rule (λ r. roles_fit (roles_of r) 0 (right_side r)) refl r

-- A whole derivation of these symbols, which spells these kinds of tokens; what stands in it is inside a declaration.
abbrev pub Goes : List Node → List Symbol → List Kind → Type 0
Goes [] ss kinds = ss ≡ []
Goes (Leaf ∷ nodes) (Word k ∷ ss) (x ∷ kinds) = (k ≡ x) × Goes nodes ss kinds
Goes (Inner r ∷ nodes) (Of p ∷ ss) kinds = (part_of r ≡ p) × (not (is_outer p) ≡ true) × Goes nodes (right_side r ++ ss) kinds
Goes (Leaf ∷ nodes) [] kinds = ⊥
Goes (Leaf ∷ nodes) (Word k ∷ ss) [] = ⊥
Goes (Leaf ∷ nodes) (Of p ∷ ss) kinds = ⊥
Goes (Inner r ∷ nodes) [] kinds = ⊥
Goes (Inner r ∷ nodes) (Word k ∷ ss) kinds = ⊥

-- sizes

pub size_more : (nodes : List Node) (m n : ℕ) → m ≤ n → size_of m nodes ≤ size_of n nodes
size_more nodes zero n h = omega arith
size_more [] (suc m) n h = omega arith
size_more nodes (suc m) zero h = absurd (omega (arith, h))
size_more (Leaf ∷ nodes) (suc m) (suc n) h = let k = size_more nodes m n (omega (arith, h)) in omega (arith, k)
size_more (Inner r ∷ nodes) (suc m) (suc n) h = let k = size_more nodes (length (right_side r) + m) (length (right_side r) + n) (omega (arith, h)) in omega (arith, k)

-- lists

pub below_more : {A : Type 0} (k : ℕ) (xs ys : List A) → k < length xs → k < length (xs ++ ys)
below_more k xs ys h = let l = length-append xs ys in omega (arith, h, l)

pub after_more : {A : Type 0} (k : ℕ) (xs ys : List A) → k < length ys → length xs + k < length (xs ++ ys)
after_more k xs ys h = let l = length-append xs ys in omega (arith, h, l)

pub stands_after : (m : Mark) (o : Option Mark) (marks : List Mark) → Stands m marks → Stands m (cons_option o marks)
unfolding Stands
stands_after m None marks h = h
stands_after m (Some x) marks h = inr h

-- contexts

pub context_in : (roles : List Role) (c : Context) (index count : ℕ) (cs : List Context) (k : ℕ) → k < count
    → get_or (contexts_from roles c index count ++ cs) k start ≡ in_role (get_or roles (index + k) Q.Same) c
context_in roles c index zero cs k h = absurd (omega (arith, h))
context_in roles c index (suc count) cs zero h = ap (λ n. in_role (get_or roles n Q.Same) c) (let e : index ≡ index + 0 = omega arith in e)
context_in roles c index (suc count) cs (suc k) h =
    context_in roles c (suc index) count cs k (omega (arith, h)) ∙ ap (λ n. in_role (get_or roles n Q.Same) c) (let e : suc index + k ≡ index + suc k = omega arith in e)

pub context_after : (roles : List Role) (c : Context) (index count : ℕ) (cs : List Context) (k n : ℕ) → n ≡ count + k → get_or (contexts_from roles c index count ++ cs) n start ≡ get_or cs k start
context_after roles c index zero cs k n e = ap (λ j. get_or cs j start) (let f : n ≡ k = omega (arith, e) in f)
context_after roles c index (suc count) cs k zero e = absurd (omega (arith, e))
context_after roles c index (suc count) cs k (suc n) e = context_after roles c (suc index) count cs k n (omega (arith, e))

role_owner : (role : Role) (c : Context) → (in_role role c).owner ≡ c.owner
role_owner Q.Same c = refl
role_owner Q.Next c = refl
role_owner Q.Expression c = refl
role_owner (Q.Word word) c = refl

plain_owner : (o : Entry) (i a : ℕ) (c : Context) → opens_scope o ≡ false → (entered o i a c).owner ≡ c.owner
plain_owner O.Nothing i a c h = refl
plain_owner O.Group i a c h = refl
plain_owner O.Types i a c h = absurd (false≢true (sym h))
plain_owner O.Value i a c h = absurd (false≢true (sym h))
plain_owner O.Recursive i a c h = refl
plain_owner O.Sequence i a c h = refl
plain_owner O.Function i a c h = refl
plain_owner O.Clause i a c h = refl

pub entered_word : (o : Entry) (i a : ℕ) (c : Context) → (entered o i a c).word ≡ c.word
entered_word O.Nothing i a c = refl
entered_word O.Group i a c = refl
entered_word O.Types i a c = refl
entered_word O.Value i a c = refl
entered_word O.Recursive i a c = refl
entered_word O.Sequence i a c = refl
entered_word O.Function i a c = refl
entered_word O.Clause i a c = refl

-- what a context is to the symbol that it is of
pub record Fits (x : Symbol) (c : Context) : Type 0 where
  pub variable : is_of_variable c.word ≡ true → is_type_variable x ≡ true
  pub core : is_some c.owner ≡ true → is_core x ≡ true

abbrev pub FitAll : List Symbol → List Context → Type 0
FitAll [] cs = Unit {0}
FitAll (x ∷ ss) [] = ⊥
FitAll (x ∷ ss) (c ∷ cs) = Fits x c × FitAll ss cs

not_variable : (x : Symbol) (c : Context) → Fits x c → is_type_variable x ≡ false → is_of_variable c.word ≡ false
not_variable x c h e = go (is_of_variable c.word) refl
  where
    go : (b : Bool) → is_of_variable c.word ≡ b → is_of_variable c.word ≡ false
    go true k = absurd (false≢true (sym e ∙ h.variable k))
    go false k = k

fit_one : (role : Role) (x : Symbol) (c : Context) → role_fits role x ≡ true → is_of_variable c.word ≡ false → (is_some c.owner ≡ true → is_core x ≡ true) → Fits x (in_role role c)
fit_one Q.Same x c f n h = record { variable = λ e. absurd (false≢true (sym n ∙ e)); core = h }
fit_one Q.Next x c f n h = record { variable = λ e. absurd (false≢true (sym n ∙ e)); core = h }
fit_one Q.Expression x c f n h = record { variable = λ e. absurd (false≢true (sym n ∙ e)); core = h }
fit_one (Q.Word word) x c f n h = record { variable = λ e. implied _ _ f e; core = h }

fit_side : (side : List Symbol) (roles : List Role) (index : ℕ) (c : Context) (ss : List Symbol) (cs : List Context) → roles_fit roles index side ≡ true → is_of_variable c.word ≡ false
    → (is_some c.owner ≡ true → all_core side ≡ true) → FitAll ss cs → FitAll (side ++ ss) (contexts_from roles c index (length side) ++ cs)
fit_side [] roles index c ss cs f n h rest = rest
fit_side (x ∷ side) roles index c ss cs f n h rest = (
  fit_one (get_or roles index Q.Same) x c (and_parts _ _ f).0 n (λ o. (and_parts _ _ (h o)).0),
  fit_side side roles (suc index) c ss cs (and_parts _ _ f).1 n (λ o. (and_parts _ _ (h o)).1) rest,
)

-- the core's rules are inside value declarations
inside : (r : Rule) (p : Part) (i a : ℕ) (c : Context) → part_of r ≡ p → not (is_outer p) ≡ true → Fits (Of p) c → is_some (entered (entry_of r) i a c).owner ≡ true → is_of_core r ≡ true
inside r p i a c same inner fits h = go (scopes r) refl
  where
    go : (b : Bool) → scopes r ≡ b → is_of_core r ≡ true
    go true e = scopes_so r (and_from _ _ (subst (λ q. not (is_outer q) ≡ true) (sym same) inner) e)
    go false e = subst (λ q. not (is_round_names q) ≡ true) (sym same) (fits.core (subst (λ o. is_some o ≡ true) (plain_owner (entry_of r) i a c e) h))

fit_parts : (r : Rule) (p : Part) (i a : ℕ) (c : Context) (ss : List Symbol) (cs : List Context) → part_of r ≡ p → not (is_outer p) ≡ true → Fits (Of p) c → FitAll ss cs
    → FitAll (right_side r ++ ss) (parts_of i a c (Inner r) ++ cs)
fit_parts r p i a c ss cs same inner fits rest =
    fit_side (right_side r) (roles_of r) 0 (entered (entry_of r) i a c) ss cs (roles_so r)
    (subst (λ w. is_of_variable w ≡ false) (sym (entered_word (entry_of r) i a c)) (not_variable (Of p) c fits refl))
    (λ o. core_so r (inside r p i a c same inner fits o)) rest

-- The marks are all of a declaration, whose source is s; its nodes end so. A value declaration lists no type variable that
-- one round it has, by the marks.
module _ (s : Source) (tokens : List Token) (all : List Mark) (ends : List ℕ) (own : (n : ℕ) → slice_get s.tokens n ≡ slice_get tokens (s.begun + n)) where
  abbrev pub text : ℕ → Id
  text = text_at s.unit tokens

  abbrev pub NoFlaw : Type 0
  NoFlaw = (v : Listed) (d : ℕ) (m : Mark) → Stands (Mk.Listed v) all → v.owner ≡ Some d → Stands m all → is_round text ends d v.token m ≡ false

  -- the value declaration with this node lists the variable
  pub record HasListed (o : ℕ) (x : Id) : Type 0 where
    pub mark : Listed
    pub among : Stands (Mk.Listed mark) all
    pub owner_is : mark.owner ≡ Some o
    pub text_is : text mark.token ≡ x

  -- it lists it, or the variable occurs unguarded in it
  pub record HasOwned (o : ℕ) (x : Id) : Type 0 where
    pub mark : Mark
    pub among : Stands mark all
    pub owner_is : owner_in mark ≡ Some o
    pub text_is : text (token_in mark) ≡ x

  abbrev pub L : Option ℕ → Id → Type 0
  L None x = Unit {0}
  L (Some o) x = HasListed o x

  abbrev pub V : Option ℕ → Id → Type 0
  V None x = Unit {0}
  V (Some o) x = HasOwned o x

  -- a value declaration whose node is one of these lists it
  pub record R (lo hi : ℕ) (x : Id) : Type 0 where
    pub owner : ℕ
    pub from : lo ≤ owner
    pub before : owner < hi
    pub has : HasListed owner x

  pub wider : (lo hi lo' hi' : ℕ) → lo' ≤ lo → hi ≤ hi' → (x : Id) → R lo hi x → R lo' hi' x
  wider lo hi lo' hi' a b x r =
      let f = r.from in
      let l = r.before in
      record { owner = r.owner; from = omega (arith, a, f); before = omega (arith, b, l); has = r.has }

  module _ (no_flaw : NoFlaw) where
    pub clash : (i d e : ℕ) (x : Id) (m : Mark) → i < d → d < e → get_or ends i 0 ≡ e → HasListed d x → Stands m all → owner_in m ≡ Some i → text (token_in m) ≡ x → ⊥
    clash i d e x m l k ended h st o t = false≢true (sym (no_flaw h.mark d m h.among h.owner_is st) ∙ round)
      where
        lies : lies_in ends (owner_in m) d ≡ true
        lies = subst (λ q. lies_in ends q d ≡ true) (sym o) (and_from _ _ (lt-ltb i d l) (subst (λ n. nat_lt d n ≡ true) (sym ended) (lt-ltb d e k)))

        round : is_round text ends d h.mark.token m ≡ true
        round = and_from _ _ lies ((bytes_eq-Decides (text h.mark.token) (text (token_in m))).1 (h.text_is ∙ sym t))

    abbrev pub Claim : Context → ℕ → ℕ → Phrase → Type 0
    Claim c lo hi v = PhraseSits (L c.owner) (V c.owner) (R lo hi) v × WordSits (L c.owner) (V c.owner) (R lo hi) c.word v

    -- tokens

    word_sits : (L' V' R' : Id → Type 0) (k : Kind) (p : Place) (t : List ℕ) → PhraseSits L' V' R' (word_phrase k p t)
    word_sits L' V' R' K.Alphanumeric p t = tt
    word_sits L' V' R' K.Integer p t = tt
    word_sits L' V' R' _ p t = tt

    token_sits : (L' V' R' : Id → Type 0) (p : Place) (o : Option Token) → PhraseSits L' V' R' (token_phrase s.unit p o)
    token_sits L' V' R' p None = tt
    token_sits L' V' R' p (Some t) = word_sits L' V' R' t.kind p _

    name_of : (p : Place) (o : Option Token) (t : Token) → o ≡ Some t → t.kind ≡ K.TypeVariable → (name_in (token_phrase s.unit p o)).id ≡ slice_range s.unit t.span.start t.span.«end»
    name_of p o t e k =
        ap (λ o. (name_in (token_phrase s.unit p o)).id) e ∙ ap (λ k. (name_in (word_phrase k p (slice_range s.unit t.span.start t.span.«end»))).id) k

    text_of_token : (a : ℕ) (t : Token) → slice_get tokens a ≡ Some t → text a ≡ slice_range s.unit t.span.start t.span.«end»
    text_of_token a t e = ap (λ o. text_of s.unit o) e

    leaf_word : (c : Context) (a : ℕ) (R' : Id → Type 0) (v : Phrase) (rest : List Mark) → ((m : Mark) → Stands m (cons_option (word_mark c.word a c) rest) → Stands m all)
        → (is_of_variable c.word ≡ true → text a ≡ (name_in v).id) → WordSits (L c.owner) (V c.owner) R' c.word v
    unfolding Stands
    leaf_word c a R' v rest inc same = go c.word inc same
      where
        listed : ((m : Mark) → Stands m (cons_option (word_mark W.Listed a c) rest) → Stands m all) → text a ≡ (name_in v).id → (o : Option ℕ) → c.owner ≡ o → L o (name_in v).id
        listed inc t None e = tt
        listed inc t (Some o) e = record { mark = record { group = c.group; owner = c.owner; token = a }; among = inc _ (inl refl); owner_is = e; text_is = t }

        loose : ((m : Mark) → Stands m (cons_option (word_mark W.Variable a c) rest) → Stands m all) → text a ≡ (name_in v).id → (o : Option ℕ) → c.owner ≡ o → V o (name_in v).id
        loose inc t None e = tt
        loose inc t (Some o) e =
            let m : Mark = Mk.Owned (record { owner = o; token = a }) in
            record {
              mark = m;
              among = inc m (subst (λ q. Stands m (cons_option (option_map (λ owner. Mk.Owned (record { owner = owner; token = a })) q) rest)) (sym e) (inl refl));
              owner_is = refl;
              text_is = t;
            }

        go : (w : Wd) → ((m : Mark) → Stands m (cons_option (word_mark w a c) rest) → Stands m all) → (is_of_variable w ≡ true → text a ≡ (name_in v).id) → WordSits (L c.owner) (V c.owner) R' w v
        go W.Listed inc same = listed inc (same refl) c.owner refl
        go W.Variable inc same = loose inc (same refl) c.owner refl
        go W.Plain inc same = tt
        go W.Constant inc same = tt
        go W.Atom inc same = tt
        go (W.Bound space) inc same = tt

    plain_word : (L' V' R' : Id → Type 0) (w : Wd) (v : Phrase) → is_of_variable w ≡ false → WordSits L' V' R' w v
    plain_word L' V' R' W.Listed v h = absurd (false≢true (sym h))
    plain_word L' V' R' W.Variable v h = absurd (false≢true (sym h))
    plain_word L' V' R' W.Plain v h = tt
    plain_word L' V' R' W.Constant v h = tt
    plain_word L' V' R' W.Atom v h = tt
    plain_word L' V' R' (W.Bound space) v h = tt

    -- parts

    role_sits : (role : Role) (c : Context) (L' V' R' R'' : Id → Type 0) (v : Phrase) → WordSits L' V' R' (in_role role c).word v → RoleSits L' V' R'' role v
    role_sits Q.Same c L' V' R' R'' v h = tt
    role_sits Q.Next c L' V' R' R'' v h = tt
    role_sits Q.Expression c L' V' R' R'' v h = tt
    role_sits (Q.Word W.Listed) c L' V' R' R'' v h = h
    role_sits (Q.Word W.Variable) c L' V' R' R'' v h = h
    role_sits (Q.Word W.Plain) c L' V' R' R'' v h = tt
    role_sits (Q.Word W.Constant) c L' V' R' R'' v h = tt
    role_sits (Q.Word W.Atom) c L' V' R' R'' v h = tt
    role_sits (Q.Word (W.Bound space)) c L' V' R' R'' v h = tt

    part_sits : (role : Role) (c : Context) (o : Option ℕ) (lo hi lo' hi' : ℕ) (v : Phrase) → c.owner ≡ o → lo' ≤ lo → hi ≤ hi' → Claim (in_role role c) lo hi v
        → PartSits (L o) (V o) (R lo' hi') role v
    part_sits role c o lo hi lo' hi' v e a b h =
        let same = role_owner role c ∙ e in (
          phrase_more (wider lo hi lo' hi' a b) (L o) (V o) v (subst (λ q. PhraseSits (L q) (V q) (R lo hi) v) same h.0),
          role_sits role c (L o) (V o) (R lo hi) (R lo' hi') v (subst (λ q. WordSits (L q) (V q) (R lo hi) (in_role role c).word v) same h.1),
        )

    -- a phrase by a rule, from the phrases after its node

    module _ (r : Rule) (p : Part) (i a n lo hi end : ℕ) (c : Context) (vs : List Phrase) (same : part_of r ≡ p) (inner : not (is_outer p) ≡ true) (fits : Fits (Of p) c)
        (from : lo ≤ i) (past : suc i ≤ end) (after : end ≤ hi) (ended : get_or ends i 0 ≡ end) where
      abbrev c' : Context
      c' = entered (entry_of r) i a c

      -- what holds of its parts
      abbrev pub After : Type 0
      After = (k : ℕ) → k < length (right_side r) → (j : ℕ) × (e : ℕ) × (suc i ≤ j) × (e ≤ end) × Claim (in_role (get_or (roles_of r) k Q.Same) c') j e (at vs k)

      parts : After → (o : Option ℕ) → c'.owner ≡ o → (from : ℕ) → from ≤ suc i → PartsSit (L o) (V o) (R from end) r vs
      parts h o e from l k b =
          let x = h k (ltb-true k (length (right_side r)) b) in
          let y = x.2 in
          part_sits (get_or (roles_of r) k Q.Same) c' o x.0 x.1 from end (at vs k) e (omega (arith, y, l)) x.3 x.4

      plain : After → scopes r ≡ false → PhraseSits (L c.owner) (V c.owner) (R i end) (made_by s r n vs)
      plain h e =
          let same_owner = plain_owner (entry_of r) i a c e in
          made_sits (L c.owner) (V c.owner) (R i end) r _ _ vs e (λ names x. none_listed names x c.owner refl) (parts h c.owner same_owner i (omega arith))
        where
          none_listed : lists_names r ≡ true → (x : Id) → (o : Option ℕ) → c.owner ≡ o → L o x
          none_listed names x None k = tt
          none_listed names x (Some o) k =
              let core = subst (λ q. not (is_round_names q) ≡ true) (sym same) (fits.core (subst (λ q. is_some q ≡ true) (sym k) refl)) in
              absurd (false≢true (subst (λ b. not b ≡ true) names (names_so r core)))

      value : After → opens_value r ≡ true → entry_of r ≡ O.Value → PhraseSits (L c.owner) (V c.owner) (R i end) (made_by s r n vs)
      value h e o =
          let owned : c'.owner ≡ Some i = ap (λ q. (entered q i a c).owner) o in
          scoped_sits (L (Some i)) (V (Some i)) (R (suc i) end) (R i end)
          (λ x l. record { owner = i; from = omega arith; before = omega (arith, past); has = l })
          (wider (suc i) end i end (omega arith) (omega arith))
          (λ x q l. clash i q.owner end x (Mk.Listed l.mark) q.from q.before ended q.has l.among l.owner_is l.text_is)
          (λ x q v. clash i q.owner end x v.mark q.from q.before ended q.has v.among v.owner_is v.text_is)
          (L c.owner) (V c.owner) r _ _ vs e (parts h (Some i) owned (suc i) (omega arith))

      by_entry : After → (o : Entry) → entry_of r ≡ o → PhraseSits (L c.owner) (V c.owner) (R i end) (made_by s r n vs)
      by_entry h O.Value e = value h (ap is_value e) e
      by_entry h O.Types e = types_sit (L c.owner) (V c.owner) (R i end) r _ _ vs (ap is_types e)
      by_entry h O.Nothing e = plain h (ap opens_scope e)
      by_entry h O.Group e = plain h (ap opens_scope e)
      by_entry h O.Recursive e = plain h (ap opens_scope e)
      by_entry h O.Sequence e = plain h (ap opens_scope e)
      by_entry h O.Function e = plain h (ap opens_scope e)
      by_entry h O.Clause e = plain h (ap opens_scope e)

      pub phrase_sits : After → Claim c lo hi (made_by s r n vs)
      phrase_sits h = (
        phrase_more (wider i end lo hi from after) (L c.owner) (V c.owner) (made_by s r n vs) (by_entry h (entry_of r) refl),
        plain_word (L c.owner) (V c.owner) (R lo hi) c.word (made_by s r n vs) (not_variable (Of p) c fits refl),
      )

    type_variable : (w : Kind) → is_type_variable (Word w) ≡ true → w ≡ K.TypeVariable
    type_variable K.TypeVariable h = refl
    type_variable _ h = absurd (false≢true h)

    -- all phrases that are after a node, each in its context
    pub sits : (nodes : List Node) (i n a : ℕ) (ss : List Symbol) (cs : List Context) (left : List Token) → a ≡ s.begun + n → Goes nodes ss (kinds_of left) → FitAll ss cs
        → ((j : ℕ) (t : Token) → slice_get left j ≡ Some t → slice_get s.tokens (n + j) ≡ Some t) → ((m : Mark) → Stands m (marks_of i a cs nodes) → Stands m all)
        → ((j : ℕ) → get_or ends (i + j) 0 ≡ get_or (ends_of i nodes) j 0)
        → (k : ℕ) → k < length ss → (lo hi : ℕ) → lo ≡ i + size_of k nodes → hi ≡ i + size_of (suc k) nodes
        → Claim (get_or cs k start) lo hi (at (phrases_of s nodes (starts_of n nodes)) k)
    sits [] i n a ss cs left at_token g fit reads inc ended k h lo hi el eh = absurd (let e : length ss ≡ 0 = ap length g in omega (arith, h, e))
    sits (Leaf ∷ nodes) i n a [] cs left at_token g fit reads inc ended k h lo hi el eh = absurd g
    sits (Leaf ∷ nodes) i n a (Of p ∷ ss) cs left at_token g fit reads inc ended k h lo hi el eh = absurd g
    sits (Leaf ∷ nodes) i n a (Word w ∷ ss) [] left at_token g fit reads inc ended k h lo hi el eh = absurd fit
    sits (Leaf ∷ nodes) i n a (Word w ∷ ss) (c ∷ cs) [] at_token g fit reads inc ended k h lo hi el eh = absurd g
    sits (Leaf ∷ nodes) i n a (Word w ∷ ss) (c ∷ cs) (t ∷ left) at_token g fit reads inc ended zero h lo hi el eh = (
      token_sits (L c.owner) (V c.owner) (R lo hi) (place_at s.unit s.tokens n) (slice_get s.tokens n),
      leaf_word c a (R lo hi) (token_phrase s.unit (place_at s.unit s.tokens n) (slice_get s.tokens n)) _ inc same,
    )
      where
        here : slice_get s.tokens n ≡ Some t
        here = ap (slice_get s.tokens) (let e : n ≡ n + 0 = omega arith in e) ∙ reads 0 t refl

        there : slice_get tokens a ≡ Some t
        there = ap (slice_get tokens) at_token ∙ sym (own n) ∙ here

        same : is_of_variable c.word ≡ true → text a ≡ (name_in (token_phrase s.unit (place_at s.unit s.tokens n) (slice_get s.tokens n))).id
        same e = text_of_token a t there ∙ sym (name_of (place_at s.unit s.tokens n) (slice_get s.tokens n) t here (sym g.0 ∙ type_variable w (fit.0.variable e)))
    sits (Leaf ∷ nodes) i n a (Word w ∷ ss) (c ∷ cs) (t ∷ left) at_token g fit reads inc ended (suc k) h lo hi el eh =
        sits nodes (suc i) (suc n) (a + 1) ss cs left (omega (arith, at_token)) g.1 fit.1
        (λ j t e. ap (slice_get s.tokens) (let f : suc n + j ≡ n + suc j = omega arith in f) ∙ reads (suc j) t e)
        (λ m st. inc m (stands_after m (word_mark c.word a c) _ st))
        (λ j. ap (λ q. get_or ends q 0) (let e : suc i + j ≡ i + suc j = omega arith in e) ∙ ended (suc j))
        k (omega (arith, h)) lo hi (omega (arith, el)) (omega (arith, eh))
    sits (Inner r ∷ nodes) i n a [] cs left at_token g fit reads inc ended k h lo hi el eh = absurd g
    sits (Inner r ∷ nodes) i n a (Word w ∷ ss) cs left at_token g fit reads inc ended k h lo hi el eh = absurd g
    sits (Inner r ∷ nodes) i n a (Of p ∷ ss) [] left at_token g fit reads inc ended k h lo hi el eh = absurd fit
    sits (Inner r ∷ nodes) i n a (Of p ∷ ss) (c ∷ cs) left at_token g fit reads inc ended k h lo hi el eh =
        by_place
        (sits nodes (suc i) n a (right_side r ++ ss) (parts_of i a c (Inner r) ++ cs) left at_token g.2 (fit_parts r p i a c ss cs g.0 g.1 fit.0 fit.1) reads
        (λ m st. inc m (stands_after m (mark_at a c (Inner r)) _ st))
        (λ j. ap (λ q. get_or ends q 0) (let e : suc i + j ≡ i + suc j = omega arith in e) ∙ ended (suc j)))
        k h lo hi el eh
      where
        len : ℕ
        len = length (right_side r)

        vs : List Phrase
        vs = phrases_of s nodes (starts_of n nodes)

        end : ℕ
        end = suc i + size_of (len + 0) nodes

        after : ((k : ℕ) → k < length (right_side r ++ ss) → (lo hi : ℕ) → lo ≡ suc i + size_of k nodes → hi ≡ suc i + size_of (suc k) nodes → Claim (get_or (parts_of i a c (Inner r) ++ cs) k start) lo hi (at vs k))
            → (k : ℕ) → k < len → (j : ℕ) × (e : ℕ) × (suc i ≤ j) × (e ≤ end) × Claim (in_role (get_or (roles_of r) k Q.Same) (entered (entry_of r) i a c)) j e (at vs k)
        after deeper k b =
            let few = size_more nodes (suc k) (len + 0) (omega (arith, b)) in (
              suc i + size_of k nodes,
              suc i + size_of (suc k) nodes,
              omega arith,
              omega (arith, few),
              subst (λ q. Claim q (suc i + size_of k nodes) (suc i + size_of (suc k) nodes) (at vs k))
                  (context_in (roles_of r) (entered (entry_of r) i a c) 0 len cs k b ∙ ap (λ q. in_role (get_or (roles_of r) q Q.Same) (entered (entry_of r) i a c)) (let e : 0 + k ≡ k = omega arith in e))
                  (deeper k (below_more k (right_side r) ss b) (suc i + size_of k nodes) (suc i + size_of (suc k) nodes) refl refl),
            )

        by_place : ((k : ℕ) → k < length (right_side r ++ ss) → (lo hi : ℕ) → lo ≡ suc i + size_of k nodes → hi ≡ suc i + size_of (suc k) nodes → Claim (get_or (parts_of i a c (Inner r) ++ cs) k start) lo hi (at vs k))
            → (k : ℕ) → k < length (Of p ∷ ss) → (lo hi : ℕ) → lo ≡ i + size_of k (Inner r ∷ nodes) → hi ≡ i + size_of (suc k) (Inner r ∷ nodes)
            → Claim (get_or (c ∷ cs) k start) lo hi (at (made_by s r n vs ∷ drop len vs) k)
        by_place deeper zero h lo hi el eh =
            phrase_sits r p i a n lo hi end c vs g.0 g.1 fit.0 (omega (arith, el)) (omega arith) (omega (arith, eh))
            (ap (λ q. get_or ends q 0) (let e : i ≡ i + 0 = omega arith in e) ∙ ended 0 ∙ (let e : i + suc (size_of (len + 0) nodes) ≡ suc i + size_of (len + 0) nodes = omega arith in e)) (after deeper)
        by_place deeper (suc k) h lo hi el eh =
            let next = ap (λ q. size_of q nodes) (let e : len + suc k ≡ suc (len + k) = omega arith in e) in
            let x = deeper (len + k) (after_more k (right_side r) ss (omega (arith, h))) lo hi (omega (arith, el)) (omega (arith, eh, next)) in
            subst (λ q. Claim (get_or cs k start) lo hi (first q)) (sym (drop-drop k len vs))
            (subst (λ q. Claim q lo hi (at vs (len + k))) (context_after (roles_of r) (entered (entry_of r) i a c) 0 len cs k (len + k) refl) x)
