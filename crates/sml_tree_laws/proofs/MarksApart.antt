-- The identifiers of a declaration's patterns are marked at places of their own: none has the sequence and the index of another.
use Rattle.std.proofs.Common.{◌≡◌, ℕ, suc, ◌+◌, ◌<◌, ◌≤◌, List, [], ◌∷◌, ◌++◌, Bool, true, false, Option, Some, None, length, get_or, refl, sym, ap, ◌∙◌, subst, inl, inr, ◌⊎◌, arith}
use Rattle.std.specs.Prelude.{◌-◌, ◌^◌, not, nat_lt, ◌&&◌, ◌||◌, if◌then◌else◌}
use Rattle.std.specs.List.{cons_option}
use Rattle.std.specs.Option.{option_map}
use Rattle.std.proofs.lemmas.Bool.{false≢true, and_parts, ltb-true}
use Rattle.std.proofs.lemmas.List.{length-append}
use Rattle.sml_objects.specs.Appearance.{Stands}
use Rattle.sml_lex.specs.declared.token.Kind.{Kind}
use Rattle.sml_read.specs.declared.grammar.Part.{Part}
use Rattle.sml_read.specs.declared.grammar.Symbol.{Symbol}
use Rattle.sml_read.specs.declared.grammar.Symbol.TheVariants.{Word, Of}
use Rattle.sml_read.specs.declared.grammar.Rule.{Rule}
use Rattle.sml_read.specs.declared.grammar.Rule.TheVariants as G
use Rattle.sml_read.specs.declared.grammar.NameRule.{NameRule}
use Rattle.sml_read.specs.declared.grammar.NameRule.TheVariants as N
use Rattle.sml_read.specs.declared.grammar.DeclarationRule.{DeclarationRule}
use Rattle.sml_read.specs.declared.grammar.DeclarationRule.TheVariants as D
use Rattle.sml_read.specs.declared.grammar.PatternRule.{PatternRule}
use Rattle.sml_read.specs.declared.grammar.PatternRule.TheVariants as P
use Rattle.sml_read.specs.declared.grammar.Node.{Node}
use Rattle.sml_read.specs.declared.grammar.Node.TheVariants.{Leaf, Inner}
use Rattle.sml_read.specs.Grammar.{right_side}
use Rattle.sml_read.specs.Parts.{part_of, may_be_empty}
use Rattle.sml_read.specs.Spelling.{all_empty}
use Rattle.sml_read.proofs.Tables.{each_rule, implies, implied, empty_so}
use Rattle.sml_flaws.specs.declared.role.Word.{Word as Wd}
use Rattle.sml_flaws.specs.declared.role.Word.TheVariants as W
use Rattle.sml_flaws.specs.declared.role.Role.{Role}
use Rattle.sml_flaws.specs.declared.role.Role.TheVariants as Q
use Rattle.sml_flaws.specs.declared.role.Entry.{Entry}
use Rattle.sml_flaws.specs.declared.role.Entry.TheVariants as O
use Rattle.sml_flaws.specs.declared.mark.Context.{Context}
use Rattle.sml_flaws.specs.declared.mark.Mark.{Mark}
use Rattle.sml_flaws.specs.declared.mark.Mark.TheVariants as Mk
use Rattle.sml_flaws.specs.Roles.{roles_of, entry_of}
use Rattle.sml_flaws.specs.Marks.{entered, in_role, contexts_from, is_constant, word_mark, rule_mark, parts_of, marks_of}
use Rattle.sml_tree_laws.proofs.SequenceTokens.{is_quiet, ahead, more_ahead, ahead_lower}
use Rattle.sml_tree_laws.proofs.BoundWalk.{width_of}
use Rattle.sml_tree_laws.proofs.Walk.{Goes, entered_word}

-- a context for each symbol
abbrev pub Enough : List Symbol → List Context → Type 0
Enough [] cs = Unit {0}
Enough (x ∷ ss) [] = ⊥
Enough (x ∷ ss) (c ∷ cs) = Enough ss cs

pub enough_side : (side : List Symbol) (roles : List Role) (index : ℕ) (c : Context) (ss : List Symbol) (cs : List Context) → Enough ss cs → Enough (side ++ ss) (contexts_from roles c index (length side) ++ cs)
enough_side [] roles index c ss cs h = h
enough_side (x ∷ side) roles index c ss cs h = enough_side side roles (suc index) c ss cs h

-- the tables

abbrev pub is_atom : Wd → Bool
is_atom W.Atom = true
is_atom _ = false

-- a part with an identifier
abbrev is_vid : Symbol → Bool
is_vid (Word k) = true
is_vid (Of Part.Vid) = true
is_vid (Of Part.LongVid) = true
is_vid (Of Part.Qualified) = true
is_vid _ = false

-- one atomic pattern of the sequence that its context is in, and any number of them
abbrev is_single : Symbol → Bool
is_single (Of Part.AtPat) = true
is_single (Of Part.BareAtPat) = true
is_single _ = false

abbrev is_many : Symbol → Bool
is_many (Of Part.AtPats) = true
is_many (Of Part.AtPatMore) = true
is_many (Of Part.AfterVid) = true
is_many (Of Part.OpPat) = true
is_many (Of Part.Clause) = true
is_many (Of Part.FunRound) = true
is_many (Of Part.ValRound) = true
is_many _ = false

abbrev is_part : Symbol → Bool
is_part x = is_single x || is_many x

abbrev pub in_sequence : Symbol → Wd → Bool
in_sequence x w = is_atom w || is_part x

abbrev is_atomic : Symbol → Wd → Bool
is_atomic x w = is_atom w || is_single x

abbrev role_atom : Role → Bool
role_atom (Q.Word w) = is_atom w
role_atom _ = false

abbrev is_next : Role → Bool
is_next Q.Next = true
is_next _ = false

abbrev part_in : Role → Symbol → Bool
part_in role x = role_atom role || is_part x

abbrev any_in : List Role → ℕ → List Symbol → Bool
any_in roles index [] = false
any_in roles index (x ∷ side) = part_in (get_or roles index Q.Same) x || any_in roles (suc index) side

abbrev opens_sequence : Entry → Bool
opens_sequence O.Sequence = true
opens_sequence O.Function = true
opens_sequence O.Clause = true
opens_sequence _ = false

-- a symbol that takes up a token
abbrev step : Symbol → ℕ
step (Word k) = 1
step (Of p) = if may_be_empty p then 0 else 1

abbrev steps : List Symbol → ℕ
steps [] = 0
steps (x ∷ side) = step x + steps side

abbrev is_step : Symbol → Bool
is_step (Word k) = true
is_step (Of p) = not (may_be_empty p)

-- Of a sequence's parts the first may be atomic, and the last may be many, after that or after a token; many says whether.
abbrev part_right : Bool → Bool → Bool → Role → Symbol → Bool → Bool
part_right many seen started role x more =
    if part_in role x then (if role_atom role || is_single x then not seen && not (is_next role) else many && (implies seen (is_next role) && (implies (is_next role) started && not more))) else true

abbrev parts_right : Bool → Bool → Bool → List Role → ℕ → List Symbol → Bool
parts_right many seen started roles index [] = true
parts_right many seen started roles index (x ∷ side) =
    part_right many seen started (get_or roles index Q.Same) x (any_in roles (suc index) side)
    && parts_right many (seen || part_in (get_or roles index Q.Same) x) (started || is_step x) roles (suc index) side

abbrev vids_right : List Role → ℕ → List Symbol → Bool
vids_right roles index [] = true
vids_right roles index (x ∷ side) = implies (role_atom (get_or roles index Q.Same)) (is_vid x) && vids_right roles (suc index) side

abbrev takes_many : Rule → Bool
takes_many r = is_many (Of (part_of r)) || opens_sequence (entry_of r)

right_so : (r : Rule) → parts_right (takes_many r) false false (roles_of r) 0 (right_side r) ≡ true
right_so r = each_rule (λ r. parts_right (takes_many r) false false (roles_of r) 0 (right_side r)) refl r

vids_so : (r : Rule) → vids_right (roles_of r) 0 (right_side r) ≡ true
vids_so r = each_rule (λ r. vids_right (roles_of r) 0 (right_side r)) refl r

inside_so : (r : Rule) → any_in (roles_of r) 0 (right_side r) ≡ true → (is_part (Of (part_of r)) || opens_sequence (entry_of r)) ≡ true
inside_so r = implied _ _ (each_rule (λ r. implies (any_in (roles_of r) 0 (right_side r)) (is_part (Of (part_of r)) || opens_sequence (entry_of r))) refl r)

loud_so : (r : Rule) → opens_sequence (entry_of r) ≡ true → not (is_quiet (part_of r)) ≡ true
loud_so r = implied _ _ (each_rule (λ r. implies (opens_sequence (entry_of r)) (not (is_quiet (part_of r)))) refl r)

abbrev of_names : Rule → Bool
of_names (G.Names rule) = true
of_names _ = false

abbrev is_one : List Symbol → Bool
is_one (x ∷ []) = is_vid x
is_one _ = false

names_so : (r : Rule) → is_vid (Of (part_of r)) ≡ true → (of_names r && is_one (right_side r)) ≡ true
names_so r = implied _ _ (each_rule (λ r. implies (is_vid (Of (part_of r))) (of_names r && is_one (right_side r))) refl r)

or_first : (a b : Bool) → a ≡ true → (a || b) ≡ true
or_first true b h = refl
or_first false b h = absurd (false≢true h)

or_second : (a b : Bool) → b ≡ true → (a || b) ≡ true
or_second true b h = refl
or_second false b h = h

or_either : (a b : Bool) → (a || b) ≡ true → (a ≡ true) ⊎ (b ≡ true)
or_either true b h = inl refl
or_either false b h = inr h

not_true : (b : Bool) → not b ≡ true → b ≡ true → ⊥
not_true true h e = false≢true h
not_true false h e = false≢true e

-- places

-- the mark of an identifier at a place
abbrev pub At : ℕ → ℕ → Mark → Type 0
At n j (Mk.Identifier a) = (a.sequence ≡ n) × (a.index ≡ j)
At n j _ = ⊥

abbrev pub Clear : ℕ → ℕ → List Mark → Type 0
Clear n j [] = Unit {0}
Clear n j (m ∷ ms) = (At n j m → ⊥) × Clear n j ms

abbrev pub Apart : List Mark → Type 0
Apart [] = Unit {0}
Apart (m ∷ ms) = ((n j : ℕ) → At n j m → Clear n j ms) × Apart ms

-- what is still to come has no identifier there, and none of that sequence

abbrev Avoid : ℕ → ℕ → List Symbol → List Context → Type 0
Avoid n j [] cs = Unit {0}
Avoid n j (x ∷ ss) [] = Unit {0}
Avoid n j (x ∷ ss) (c ∷ cs) = (in_sequence x c.word ≡ true → c.sequence ≡ n → (j < c.index) × (c.index ≤ 2 ^ 64 - 1)) × Avoid n j ss cs

abbrev Nowhere : ℕ → List Symbol → List Context → Type 0
Nowhere n [] cs = Unit {0}
Nowhere n (x ∷ ss) [] = Unit {0}
Nowhere n (x ∷ ss) (c ∷ cs) = (in_sequence x c.word ≡ true → c.sequence ≡ n → ⊥) × Nowhere n ss cs

nowhere_avoids : (n j : ℕ) (ss : List Symbol) (cs : List Context) → Nowhere n ss cs → Avoid n j ss cs
nowhere_avoids n j [] cs h = tt
nowhere_avoids n j (x ∷ ss) [] h = tt
nowhere_avoids n j (x ∷ ss) (c ∷ cs) h = ((λ q e. absurd (h.0 q e)), nowhere_avoids n j ss cs h.1)

-- roles

in_word : (role : Role) (x : Symbol) (d : Context) → in_sequence x (in_role role d).word ≡ true → (is_atom d.word || part_in role x) ≡ true
in_word Q.Same x d h = h
in_word Q.Next x d h = h
in_word Q.Expression x d h = h
in_word (Q.Word w) x d h = or_second (is_atom d.word) (is_atom w || is_part x) h

-- contexts entered or not

entered_not : (o : Entry) (i a n : ℕ) (c : Context) → opens_sequence o ≡ true → n < a → (entered o i a c).sequence ≡ n → ⊥
entered_not O.Sequence i a n c h l e = omega (arith, l, e)
entered_not O.Function i a n c h l e = omega (arith, l, e)
entered_not O.Clause i a n c h l e = omega (arith, l, e)
entered_not O.Nothing i a n c h l e = absurd (false≢true h)
entered_not O.Group i a n c h l e = absurd (false≢true h)
entered_not O.Types i a n c h l e = absurd (false≢true h)
entered_not O.Value i a n c h l e = absurd (false≢true h)
entered_not O.Recursive i a n c h l e = absurd (false≢true h)

kept : (o : Entry) (i a : ℕ) (c : Context) → opens_sequence o ≡ false → ((entered o i a c).sequence ≡ c.sequence) × ((entered o i a c).index ≡ c.index)
kept O.Nothing i a c h = (refl, refl)
kept O.Group i a c h = (refl, refl)
kept O.Types i a c h = (refl, refl)
kept O.Value i a c h = (refl, refl)
kept O.Recursive i a c h = (refl, refl)
kept O.Sequence i a c h = absurd (false≢true (sym h))
kept O.Function i a c h = absurd (false≢true (sym h))
kept O.Clause i a c h = absurd (false≢true (sym h))

not_quiet : (r : Rule) (p : Part) (ss : List Symbol) → part_of r ≡ p → opens_sequence (entry_of r) ≡ true → ahead (Of p ∷ ss) ≡ 0
not_quiet r p ss same h = ap (λ b. if b then 1 else 0) (go (is_quiet p) (subst (λ q. not (is_quiet q) ≡ true) same (loud_so r h)))
  where
    go : (b : Bool) → not b ≡ true → b ≡ false
    go true h = absurd (false≢true h)
    go false h = refl

-- what avoids a place goes on to

module _ (n j : ℕ) (d : Context) (flag : Bool) (h : flag ≡ true → d.sequence ≡ n → (j < d.index) × (d.index ≤ 2 ^ 64 - 1)) (atom : is_atom d.word ≡ true → flag ≡ true) where
  avoid_one : (role : Role) (x : Symbol) → (part_in role x ≡ true → flag ≡ true) → in_sequence x (in_role role d).word ≡ true → (in_role role d).sequence ≡ n → (j < (in_role role d).index) × ((in_role role d).index ≤ 2 ^ 64 - 1)
  avoid_one role x f q e = by_role role (flagged (or_either (is_atom d.word) (part_in role x) (in_word role x d q))) e
    where
      flagged : (is_atom d.word ≡ true) ⊎ (part_in role x ≡ true) → flag ≡ true
      flagged (inl k) = atom k
      flagged (inr k) = f k

      by_role : (role : Role) → flag ≡ true → (in_role role d).sequence ≡ n → (j < (in_role role d).index) × ((in_role role d).index ≤ 2 ^ 64 - 1)
      by_role Q.Same k e = h k e
      by_role Q.Next k e = let b = h k e in let l = b.0 in let m = b.1 in (omega (arith, l, m), omega (arith, l, m))
      by_role Q.Expression k e = h k e
      by_role (Q.Word w) k e = h k e

  avoid_side : (side : List Symbol) (roles : List Role) (index : ℕ) (ss : List Symbol) (cs : List Context) → (any_in roles index side ≡ true → flag ≡ true) → Avoid n j ss cs
      → Avoid n j (side ++ ss) (contexts_from roles d index (length side) ++ cs)
  avoid_side [] roles index ss cs f rest = rest
  avoid_side (x ∷ side) roles index ss cs f rest = (
    avoid_one (get_or roles index Q.Same) x (λ k. f (or_first _ _ k)),
    avoid_side side roles (suc index) ss cs (λ k. f (or_second _ _ k)) rest,
  )

avoid_parts : (n j : ℕ) (r : Rule) (p : Part) (i a : ℕ) (c : Context) (ss : List Symbol) (cs : List Context) → part_of r ≡ p → Avoid n j (Of p ∷ ss) (c ∷ cs) → n < a + ahead (Of p ∷ ss)
    → Avoid n j (right_side r ++ ss) (parts_of i a c (Inner r) ++ cs)
avoid_parts n j r p i a c ss cs same h l = go (opens_sequence (entry_of r)) refl
  where
    d : Context
    d = entered (entry_of r) i a c

    inside : opens_sequence (entry_of r) ≡ false → (is_part (Of (part_of r)) || opens_sequence (entry_of r)) ≡ true → in_sequence (Of p) c.word ≡ true
    inside e k = or_second (is_atom c.word) (is_part (Of p)) (subst (λ q. is_part (Of q) ≡ true) same (either (or_either (is_part (Of (part_of r))) (opens_sequence (entry_of r)) k)))
      where
        either : (is_part (Of (part_of r)) ≡ true) ⊎ (opens_sequence (entry_of r) ≡ true) → is_part (Of (part_of r)) ≡ true
        either (inl k) = k
        either (inr k) = absurd (false≢true (sym e ∙ k))

    go : (b : Bool) → opens_sequence (entry_of r) ≡ b → Avoid n j (right_side r ++ ss) (parts_of i a c (Inner r) ++ cs)
    go true e =
        let none = not_quiet r p ss same e in
        avoid_side n j (entered (entry_of r) i a c) true (λ k s. absurd (entered_not (entry_of r) i a n c e (omega (arith, l, none)) s)) (λ k. refl) (right_side r) (roles_of r) 0 ss cs (λ k. refl) h.1
    go false e =
        let k = kept (entry_of r) i a c e in
        avoid_side n j (entered (entry_of r) i a c) (in_sequence (Of p) c.word)
        (λ q s. let f = h.0 q (sym k.0 ∙ s) in let l = f.0 in let m = f.1 in let x = k.1 in (omega (arith, l, x), omega (arith, m, x)))
        (λ q. or_first (is_atom c.word) (is_part (Of p)) (subst (λ w. is_atom w ≡ true) (entered_word (entry_of r) i a c) q))
        (right_side r) (roles_of r) 0 ss cs (λ q. inside e (inside_so r q)) h.1

-- marks

clear_cons : (n j : ℕ) (o : Option Mark) (ms : List Mark) → ((m : Mark) → o ≡ Some m → At n j m → ⊥) → Clear n j ms → Clear n j (cons_option o ms)
clear_cons n j None ms f h = h
clear_cons n j (Some m) ms f h = (f m refl, h)

same_mark : {m m' : Mark} → Some m ≡ Some m' → m ≡ m'
same_mark e = cc

none_mark : {m : Mark} → None ≡ Some m → ⊥
none_mark e = cc

not_there : (n j : ℕ) (x m : Mark) → (At n j x → ⊥) → Some x ≡ Some m → At n j m → ⊥
not_there n j x m f e h = f (subst (At n j) (sym (same_mark e)) h)

pub rule_elsewhere : (n j : ℕ) (r : Rule) (a : ℕ) (c : Context) (m : Mark) → rule_mark r a c ≡ Some m → At n j m → ⊥
rule_elsewhere n j (G.Names rule) a c m e h = names rule e
  where
    go : (b : Bool) → (if b then Some (Mk.Real a) else None) ≡ Some m → ⊥
    go true e = not_there n j (Mk.Real a) m (λ k. k) e h
    go false e = none_mark e

    names : (rule : NameRule) → rule_mark (G.Names rule) a c ≡ Some m → ⊥
    names N.ConstantRealConstant e = go (is_constant c.word) e
    names _ e = none_mark e
rule_elsewhere n j (G.Patterns rule) a c m e h = patterns rule e
  where
    go : (b : Bool) → (if b then Some (Mk.Pun (a - 1)) else None) ≡ Some m → ⊥
    go true e = not_there n j (Mk.Pun (a - 1)) m (λ k. k) e h
    go false e = none_mark e

    patterns : (rule : PatternRule) → rule_mark (G.Patterns rule) a c ≡ Some m → ⊥
    patterns P.RowRestTyped e = go c.binds e
    patterns _ e = none_mark e
rule_elsewhere n j (G.Declarations rule) a c m e h = declarations rule e
  where
    declarations : (rule : DeclarationRule) → rule_mark (G.Declarations rule) a c ≡ Some m → ⊥
    declarations D.AtPatsNone e = not_there n j _ m (λ k. k) e h
    declarations _ e = none_mark e
rule_elsewhere n j (G.Units rule) a c m e h = none_mark e
rule_elsewhere n j (G.Structures rule) a c m e h = none_mark e
rule_elsewhere n j (G.Signatures rule) a c m e h = none_mark e
rule_elsewhere n j (G.Specifications rule) a c m e h = none_mark e
rule_elsewhere n j (G.Expressions rule) a c m e h = none_mark e
rule_elsewhere n j (G.Types rule) a c m e h = none_mark e

word_elsewhere : (n j a : ℕ) (c : Context) (w : Wd) (m : Mark) → (is_atom w ≡ true → c.sequence ≡ n → c.index ≡ j → ⊥) → word_mark w a c ≡ Some m → At n j m → ⊥
word_elsewhere n j a c W.Plain m f e h = none_mark e
word_elsewhere n j a c W.Constant m f e h = none_mark e
word_elsewhere n j a c (W.Bound space) m f e h = not_there n j _ m (λ k. k) e h
word_elsewhere n j a c W.Listed m f e h = not_there n j _ m (λ k. k) e h
word_elsewhere n j a c W.Variable m f e h = go c.owner e
  where
    go : (o : Option ℕ) → option_map (λ owner. Mk.Owned (record { owner = owner; token = a })) o ≡ Some m → ⊥
    go None e = none_mark e
    go (Some o) e = not_there n j _ m (λ k. k) e h
word_elsewhere n j a c W.Atom m f e h = not_there n j _ m (λ k. f refl k.0 k.1) e h

clear : (n j : ℕ) (nodes : List Node) (i a : ℕ) (ss : List Symbol) (cs : List Context) (kinds : List Kind) → Goes nodes ss kinds → Enough ss cs → Avoid n j ss cs → n < a + ahead ss → Clear n j (marks_of i a cs nodes)
clear n j [] i a ss cs kinds g enough h l = tt
clear n j (Leaf ∷ nodes) i a [] cs kinds g enough h l = absurd g
clear n j (Leaf ∷ nodes) i a (Of p ∷ ss) cs kinds g enough h l = absurd g
clear n j (Leaf ∷ nodes) i a (Word w ∷ ss) [] kinds g enough h l = absurd enough
clear n j (Leaf ∷ nodes) i a (Word w ∷ ss) (c ∷ cs) [] g enough h l = absurd g
clear n j (Leaf ∷ nodes) i a (Word w ∷ ss) (c ∷ cs) (k ∷ kinds) g enough h l =
    clear_cons n j (word_mark c.word a c) (marks_of (suc i) (a + 1) cs nodes)
    (λ m. word_elsewhere n j a c c.word m (λ q s e. let b = (h.0 (or_first (is_atom c.word) false q) s).0 in omega (arith, b, e)))
    (clear n j nodes (suc i) (a + 1) ss cs kinds g.1 enough h.1 (omega (arith, l)))
clear n j (Inner r ∷ nodes) i a [] cs kinds g enough h l = absurd g
clear n j (Inner r ∷ nodes) i a (Word w ∷ ss) cs kinds g enough h l = absurd g
clear n j (Inner r ∷ nodes) i a (Of p ∷ ss) [] kinds g enough h l = absurd enough
clear n j (Inner r ∷ nodes) i a (Of p ∷ ss) (c ∷ cs) kinds g enough h l =
    let lower = ahead_lower r p ss g.0 in
    clear_cons n j (rule_mark r a c) (marks_of (suc i) a (parts_of i a c (Inner r) ++ cs) nodes) (λ m. rule_elsewhere n j r a c m)
    (clear n j nodes (suc i) a (right_side r ++ ss) (parts_of i a c (Inner r) ++ cs) kinds g.2 (enough_side (right_side r) (roles_of r) 0 (entered (entry_of r) i a c) ss cs enough)
    (avoid_parts n j r p i a c ss cs g.0 h l) (omega (arith, l, lower)))

-- The contexts of what is still to come: each stands for places that none after it does. Before all sequences that are still to
-- begin is b, and the index is at most the number of tokens that stand before.

abbrev Later : Bool → Context → List Symbol → List Context → Type 0
Later true c ss cs = Avoid c.sequence c.index ss cs
Later false c ss cs = Nowhere c.sequence ss cs

abbrev pub Ordered : ℕ → ℕ → List Symbol → List Context → Type 0
Ordered b base [] cs = Unit {0}
Ordered b base (x ∷ ss) [] = Unit {0}
Ordered b base (x ∷ ss) (c ∷ cs) =
    (in_sequence x c.word ≡ true → (c.sequence < b) × (c.index ≤ base) × Later (is_atomic x c.word) c ss cs) × (is_atom c.word ≡ true → is_vid x ≡ true) × Ordered b (base + step x) ss cs

ordered_more : (b b' base base' : ℕ) (ss : List Symbol) (cs : List Context) → b ≤ b' → base ≤ base' → Ordered b base ss cs → Ordered b' base' ss cs
ordered_more b b' base base' [] cs l m h = tt
ordered_more b b' base base' (x ∷ ss) [] l m h = tt
ordered_more b b' base base' (x ∷ ss) (c ∷ cs) l m h =
    ((λ q. let k = h.0 q in let s = k.0 in let i = k.1 in (omega (arith, l, s), omega (arith, m, i), k.2)), h.1, ordered_more b b' (base + step x) (base' + step x) ss cs l (omega (arith, m)) h.2)

-- all of a sequence that begins later is elsewhere
below_nowhere : (b base n : ℕ) (ss : List Symbol) (cs : List Context) → b ≤ n → Ordered b base ss cs → Nowhere n ss cs
below_nowhere b base n [] cs l h = tt
below_nowhere b base n (x ∷ ss) [] l h = tt
below_nowhere b base n (x ∷ ss) (c ∷ cs) l h = ((λ q e. let s = (h.0 q).0 in omega (arith, l, s, e)), below_nowhere b (base + step x) n ss cs l h.2)

if_true : (a b c : Bool) → a ≡ true → (if a then b else c) ≡ true → b ≡ true
if_true true b c h e = e
if_true false b c h e = absurd (false≢true h)

-- d is the context inside a phrase, n and x its place, and more whether many may stand there
module _ (b m : ℕ) (d : Context) (many : Bool) (ss : List Symbol) (cs : List Context) (few : m ≤ 1048576) (plain : is_atom d.word ≡ false) where
  abbrev Free : Type 0
  Free = (d.sequence < b) × (d.index ≤ m) × Later (not many) d ss cs

  word_part : (role : Role) (x : Symbol) → in_sequence x (in_role role d).word ≡ true → part_in role x ≡ true
  word_part role x q = go (or_either (is_atom d.word) (part_in role x) (in_word role x d q))
    where
      go : (is_atom d.word ≡ true) ⊎ (part_in role x ≡ true) → part_in role x ≡ true
      go (inl k) = absurd (false≢true (sym plain ∙ k))
      go (inr k) = k

  rest_avoids : (f : Bool) → Later f d ss cs → Avoid d.sequence d.index ss cs
  rest_avoids true h = h
  rest_avoids false h = nowhere_avoids d.sequence d.index ss cs h

  -- after an atomic part only many stand, with a greater index
  after_one : (role : Role) (x : Symbol) (started more : Bool) → d.index ≤ m → part_right many true started role x more ≡ true → in_sequence x (in_role role d).word ≡ true → (in_role role d).sequence ≡ d.sequence
      → (d.index < (in_role role d).index) × ((in_role role d).index ≤ 2 ^ 64 - 1)
  after_one role x started more l ok q e = go (role_atom role || is_single x) refl (if_true _ _ _ (word_part role x q) ok)
    where
      of_next : (role : Role) → is_next role ≡ true → (d.index < (in_role role d).index) × ((in_role role d).index ≤ 2 ^ 64 - 1)
      of_next Q.Next k = (omega (arith, l, few), omega (arith, l, few))
      of_next Q.Same k = absurd (false≢true k)
      of_next Q.Expression k = absurd (false≢true k)
      of_next (Q.Word w) k = absurd (false≢true k)

      go : (c : Bool) → (role_atom role || is_single x) ≡ c → (if c then not true && not (is_next role) else many && (implies true (is_next role) && (implies (is_next role) started && not more))) ≡ true
          → (d.index < (in_role role d).index) × ((in_role role d).index ≤ 2 ^ 64 - 1)
      go true k h = absurd (false≢true h)
      go false k h = of_next role (and_parts _ _ (and_parts _ _ h).1).0

  after : (side : List Symbol) (roles : List Role) (index : ℕ) (started : Bool) → d.index ≤ m → parts_right many true started roles index side ≡ true → Avoid d.sequence d.index ss cs
      → Avoid d.sequence d.index (side ++ ss) (contexts_from roles d index (length side) ++ cs)
  after [] roles index started l ok rest = rest
  after (x ∷ side) roles index started l ok rest =
      let both = and_parts _ _ ok in
      (after_one (get_or roles index Q.Same) x started (any_in roles (suc index) side) l both.0, after side roles (suc index) (started || is_step x) l both.1 rest)

  nothing_in : (side : List Symbol) (roles : List Role) (index : ℕ) → any_in roles index side ≡ false → Nowhere d.sequence ss cs → Nowhere d.sequence (side ++ ss) (contexts_from roles d index (length side) ++ cs)
  nothing_in [] roles index none rest = rest
  nothing_in (x ∷ side) roles index none rest = (
    (λ q e. false≢true (sym none ∙ or_first _ _ (word_part (get_or roles index Q.Same) x q))),
    nothing_in side roles (suc index) (second_no _ _ none) rest,
  )
    where
      second_no : (a b : Bool) → (a || b) ≡ false → b ≡ false
      second_no true b h = absurd (false≢true (sym h))
      second_no false b h = h

  role_sequence : (role : Role) → (in_role role d).sequence ≡ d.sequence
  role_sequence Q.Same = refl
  role_sequence Q.Next = refl
  role_sequence Q.Expression = refl
  role_sequence (Q.Word w) = refl

  role_atomic : (role : Role) (x : Symbol) → is_atomic x (in_role role d).word ≡ (role_atom role || is_single x)
  role_atomic Q.Same x = ap (λ q. q || is_single x) plain
  role_atomic Q.Next x = ap (λ q. q || is_single x) plain
  role_atomic Q.Expression x = ap (λ q. q || is_single x) plain
  role_atomic (Q.Word w) x = refl

  role_index : (role : Role) (started : Bool) (base : ℕ) → d.index ≤ m → m ≤ base → (started ≡ true → suc m ≤ base) → (is_next role ≡ true → started ≡ true) → (in_role role d).index ≤ base
  role_index Q.Same started base l k f g = omega (arith, l, k)
  role_index Q.Next started base l k f g = let n = f (g refl) in omega (arith, l, n)
  role_index Q.Expression started base l k f g = omega (arith, l, k)
  role_index (Q.Word w) started base l k f g = omega (arith, l, k)

  role_not_next : (role : Role) → is_next role ≡ false → (in_role role d).index ≡ d.index
  role_not_next Q.Same h = refl
  role_not_next Q.Next h = absurd (false≢true (sym h))
  role_not_next Q.Expression h = refl
  role_not_next (Q.Word w) h = refl

  abbrev Here : Role → Symbol → ℕ → List Symbol → List Context → Type 0
  Here role x base ss' cs' = ((in_role role d).sequence < b) × ((in_role role d).index ≤ base) × Later (is_atomic x (in_role role d).word) (in_role role d) ss' cs'

  part_here : (role : Role) (x : Symbol) (seen started more : Bool) (base : ℕ) (ss' : List Symbol) (cs' : List Context) → part_in role x ≡ true → part_right many seen started role x more ≡ true → Free → m ≤ base → (started ≡ true → suc m ≤ base)
      → Avoid d.sequence d.index ss' cs' → (more ≡ false → Nowhere d.sequence ss cs → Nowhere d.sequence ss' cs') → Here role x base ss' cs'
  part_here role x seen started more base ss' cs' q ok free l f avoids nowhere = go (role_atom role || is_single x) refl (if_true _ _ _ q ok)
    where
      sequence : (in_role role d).sequence < b
      sequence = let e = role_sequence role in let k = free.0 in omega (arith, e, k)

      no : (c : Bool) → not c ≡ true → c ≡ false
      no true h = absurd (false≢true h)
      no false h = refl

      rest : many ≡ true → Nowhere d.sequence ss cs
      rest k = subst (λ q. Later (not q) d ss cs) k free.2

      go : (c : Bool) → (role_atom role || is_single x) ≡ c → (if c then not seen && not (is_next role) else many && (implies seen (is_next role) && (implies (is_next role) started && not more))) ≡ true → Here role x base ss' cs'
      go true k h =
          let same = role_not_next role (no (is_next role) (and_parts (not seen) (not (is_next role)) h).1) in
          let i = free.1 in (
            sequence,
            omega (arith, same, i, l),
            subst (λ c. Later c (in_role role d) ss' cs') (sym (role_atomic role x ∙ k)) (subst (λ n. Avoid n (in_role role d).index ss' cs') (sym (role_sequence role)) (subst (λ j. Avoid d.sequence j ss' cs') (sym same) avoids)),
          )
      go false k h =
          let parts = and_parts _ _ (and_parts _ _ (and_parts _ _ h).1).1 in (
            sequence,
            role_index role started base free.1 l f (implied _ _ parts.0),
            subst (λ c. Later c (in_role role d) ss' cs') (sym (role_atomic role x ∙ k)) (subst (λ n. Nowhere n ss' cs') (sym (role_sequence role)) (nowhere (no more parts.1) (rest (and_parts _ _ h).0))),
          )

  ordered_side : (side : List Symbol) (roles : List Role) (index base : ℕ) (seen started : Bool) → parts_right many seen started roles index side ≡ true → vids_right roles index side ≡ true → (any_in roles index side ≡ true → Free)
      → m ≤ base → (started ≡ true → suc m ≤ base) → Ordered b (base + steps side) ss cs → Ordered b base (side ++ ss) (contexts_from roles d index (length side) ++ cs)
  ordered_side [] roles index base seen started ok vids free l f rest = subst (λ n. Ordered b n ss cs) (let e : base + 0 ≡ base = omega arith in e) rest
  ordered_side (x ∷ side) roles index base seen started ok vids free l f rest =
      let both = and_parts _ _ ok in
      let named = and_parts _ _ vids in (
        (λ q.
            let part = word_part (get_or roles index Q.Same) x q in
            let fr = free (or_first _ _ part) in
            part_here (get_or roles index Q.Same) x seen started (any_in roles (suc index) side) base (side ++ ss) (contexts_from roles d (suc index) (length side) ++ cs) part both.0 fr l f
            (after side roles (suc index) (started || is_step x) fr.1 (subst (λ c. parts_right many c (started || is_step x) roles (suc index) side ≡ true) (or_second seen _ part) both.1) (rest_avoids (not many) fr.2))
            (λ none k. nothing_in side roles (suc index) none k)),
        vid_here (get_or roles index Q.Same) named.0,
        ordered_side side roles (suc index) (base + step x) (seen || part_in (get_or roles index Q.Same) x) (started || is_step x) both.1 named.1 (λ k. free (or_second _ _ k)) (omega (arith, l)) (go x)
            (subst (λ n. Ordered b n ss cs) (let e : base + (step x + steps side) ≡ base + step x + steps side = omega arith in e) rest),
      )
    where
      vid_here : (role : Role) → implies (role_atom role) (is_vid x) ≡ true → is_atom (in_role role d).word ≡ true → is_vid x ≡ true
      vid_here Q.Same h q = absurd (false≢true (sym plain ∙ q))
      vid_here Q.Next h q = absurd (false≢true (sym plain ∙ q))
      vid_here Q.Expression h q = absurd (false≢true (sym plain ∙ q))
      vid_here (Q.Word w) h q = implied _ _ h q

      taken : (x : Symbol) → is_step x ≡ true → 1 ≤ step x
      taken (Word k) h = omega arith
      taken (Of p) h = by (may_be_empty p) h
        where
          by : (c : Bool) → not c ≡ true → 1 ≤ (if c then 0 else 1)
          by true h = absurd (false≢true h)
          by false h = omega arith

      go : (x : Symbol) → (started || is_step x) ≡ true → suc m ≤ base + step x
      go x k = either (or_either started (is_step x) k)
        where
          either : (started ≡ true) ⊎ (is_step x ≡ true) → suc m ≤ base + step x
          either (inl e) = let n = f e in omega (arith, n)
          either (inr e) = let n = taken x e in omega (arith, n, l)

abbrev entered_number : Entry → ℕ
entered_number O.Clause = 1
entered_number _ = 0

number_so : (r : Rule) → opens_sequence (entry_of r) ≡ true → nat_lt (entered_number (entry_of r)) (ahead (right_side r)) ≡ true
number_so r = implied _ _ (each_rule (λ r. implies (opens_sequence (entry_of r)) (nat_lt (entered_number (entry_of r)) (ahead (right_side r)))) refl r)

single_so : (r : Rule) → is_many (Of (part_of r)) ≡ true → not (is_single (Of (part_of r))) ≡ true
single_so r = implied _ _ (each_rule (λ r. implies (is_many (Of (part_of r))) (not (is_single (Of (part_of r))))) refl r)

entered_at : (o : Entry) (i a : ℕ) (c : Context) → opens_sequence o ≡ true → ((entered o i a c).sequence ≡ a + entered_number o) × ((entered o i a c).index ≡ 0)
entered_at O.Sequence i a c h = (omega arith, refl)
entered_at O.Function i a c h = (omega arith, refl)
entered_at O.Clause i a c h = (refl, refl)
entered_at O.Nothing i a c h = absurd (false≢true h)
entered_at O.Group i a c h = absurd (false≢true h)
entered_at O.Types i a c h = absurd (false≢true h)
entered_at O.Value i a c h = absurd (false≢true h)
entered_at O.Recursive i a c h = absurd (false≢true h)

some_step : (side : List Symbol) → all_empty side ≡ false → 1 ≤ steps side
some_step [] h = absurd (false≢true (sym h))
some_step (Word k ∷ side) h = omega arith
some_step (Of p ∷ side) h = go (may_be_empty p) h (some_step side)
  where
    go : (b : Bool) → (b && all_empty side) ≡ false → (all_empty side ≡ false → 1 ≤ steps side) → 1 ≤ (if b then 0 else 1) + steps side
    go true h f = let n = f h in omega (arith, n)
    go false h f = omega arith

steps_more : (r : Rule) (p : Part) → part_of r ≡ p → step (Of p) ≤ steps (right_side r)
steps_more r p same = go (may_be_empty p) refl
  where
    empty : (b : Bool) → all_empty (right_side r) ≡ b → may_be_empty p ≡ false → b ≡ false
    empty false e h = refl
    empty true e h = absurd (false≢true (sym h ∙ subst (λ q. may_be_empty q ≡ true) same (empty_so r e)))

    go : (b : Bool) → may_be_empty p ≡ b → (if b then 0 else 1) ≤ steps (right_side r)
    go true e = omega arith
    go false e = let n = some_step (right_side r) (empty (all_empty (right_side r)) refl e) in omega (arith, n)

ordered_parts : (r : Rule) (p : Part) (i a m : ℕ) (c : Context) (ss : List Symbol) (cs : List Context) → part_of r ≡ p → m ≤ 1048576 → Ordered (a + ahead (Of p ∷ ss)) m (Of p ∷ ss) (c ∷ cs)
    → Ordered (a + ahead (right_side r ++ ss)) m (right_side r ++ ss) (parts_of i a c (Inner r) ++ cs)
ordered_parts r p i a m c ss cs same few h = by_word (is_atom c.word) refl
  where
    rest : Ordered (a + ahead (right_side r ++ ss)) (m + steps (right_side r)) ss cs
    rest =
        let lower = ahead_lower r p ss same in
        let more = steps_more r p same in
        ordered_more (a + ahead (Of p ∷ ss)) (a + ahead (right_side r ++ ss)) (m + step (Of p)) (m + steps (right_side r)) ss cs (omega (arith, lower)) (omega (arith, more)) h.2

    names : (r' : Rule) → r ≡ r' → is_atom c.word ≡ true → of_names r' ≡ true → is_one (right_side r') ≡ true → Ordered (a + ahead (right_side r' ++ ss)) m (right_side r' ++ ss) (parts_of i a c (Inner r') ++ cs)
    names (G.Names rule) e w n o = one (right_side (G.Names rule)) o (subst (λ q. Ordered (a + ahead (right_side q ++ ss)) (m + steps (right_side q)) ss cs) e rest) (subst (λ q. ahead (Of p ∷ ss) ≤ ahead (right_side q ++ ss)) e (ahead_lower r p ss same))
      where
        one : (side : List Symbol) → is_one side ≡ true → Ordered (a + ahead (side ++ ss)) (m + steps side) ss cs → ahead (Of p ∷ ss) ≤ ahead (side ++ ss) → Ordered (a + ahead (side ++ ss)) m (side ++ ss) (contexts_from [] c 0 (length side) ++ cs)
        one [] o k lower = absurd (false≢true o)
        one (y ∷ []) o k lower = (
          (λ q.
              let f = h.0 (or_first _ (is_part (Of p)) w) in
              let s = f.0 in (
                omega (arith, s, lower),
                f.1,
                subst (λ z. Later z c ss cs) (ap (λ z. z || is_single (Of p)) w ∙ sym (ap (λ z. z || is_single y) w)) f.2,
              )),
          (λ q. o),
          subst (λ z. Ordered (a + ahead (y ∷ ss)) z ss cs) (let e : m + (step y + 0) ≡ m + step y = omega arith in e) k,
        )
        one (y ∷ z ∷ side) o k lower = absurd (false≢true o)
    names (G.Units rule) e w n o = absurd (false≢true n)
    names (G.Structures rule) e w n o = absurd (false≢true n)
    names (G.Signatures rule) e w n o = absurd (false≢true n)
    names (G.Specifications rule) e w n o = absurd (false≢true n)
    names (G.Declarations rule) e w n o = absurd (false≢true n)
    names (G.Expressions rule) e w n o = absurd (false≢true n)
    names (G.Patterns rule) e w n o = absurd (false≢true n)
    names (G.Types rule) e w n o = absurd (false≢true n)

    free : is_atom c.word ≡ false → (o : Bool) → opens_sequence (entry_of r) ≡ o → any_in (roles_of r) 0 (right_side r) ≡ true
        → ((entered (entry_of r) i a c).sequence < a + ahead (right_side r ++ ss)) × ((entered (entry_of r) i a c).index ≤ m) × Later (not (takes_many r)) (entered (entry_of r) i a c) ss cs
    free w true e q =
        let at = entered_at (entry_of r) i a c e in
        let s = at.0 in
        let j = at.1 in
        let none = not_quiet r p ss same e in
        let number = ltb-true _ _ (number_so r e) in
        let more = more_ahead (right_side r) ss in (
          omega (arith, s, number, more),
          omega (arith, j),
          subst (λ z. Later (not z) (entered (entry_of r) i a c) ss cs) (sym (or_second (is_many (Of (part_of r))) (opens_sequence (entry_of r)) e))
              (below_nowhere (a + ahead (Of p ∷ ss)) (m + step (Of p)) (entered (entry_of r) i a c).sequence ss cs (omega (arith, s, none)) h.2),
        )
    free w false e q =
        let k = kept (entry_of r) i a c e in
        let s = k.0 in
        let j = k.1 in
        let part = part_so (is_part (Of (part_of r))) (inside_so r q) in
        let f = h.0 (or_second (is_atom c.word) (is_part (Of p)) (subst (λ q. is_part (Of q) ≡ true) same part)) in
        let l = f.0 in
        let n = f.1 in
        let lower = ahead_lower r p ss same in (
          omega (arith, s, l, lower),
          omega (arith, j, n),
          moved (not (takes_many r)) (entered (entry_of r) i a c) s j (subst (λ z. Later z c ss cs) (ap (λ z. z || is_single (Of p)) w ∙ subst (λ q. is_single (Of q) ≡ not (takes_many r)) same (single_or_many (is_single (Of (part_of r))) (is_many (Of (part_of r))) part (single_so r))) f.2),
        )
      where
        part_so : (z : Bool) → (z || opens_sequence (entry_of r)) ≡ true → z ≡ true
        part_so true k = refl
        part_so false k = absurd (false≢true (sym e ∙ k))

        single_or_many : (x y : Bool) → (x || y) ≡ true → (y ≡ true → not x ≡ true) → x ≡ not (y || opens_sequence (entry_of r))
        single_or_many true true k f = absurd (false≢true (f refl))
        single_or_many true false k f = ap not (sym e)
        single_or_many false true k f = refl
        single_or_many false false k f = absurd (false≢true k)

        moved : (z : Bool) (e : Context) → e.sequence ≡ c.sequence → e.index ≡ c.index → Later z c ss cs → Later z e ss cs
        moved true e s j k = subst (λ n. Avoid n e.index ss cs) (sym s) (subst (λ x. Avoid c.sequence x ss cs) (sym j) k)
        moved false e s j k = subst (λ n. Nowhere n ss cs) (sym s) k

    by_word : (w : Bool) → is_atom c.word ≡ w → Ordered (a + ahead (right_side r ++ ss)) m (right_side r ++ ss) (parts_of i a c (Inner r) ++ cs)
    by_word true e = let n = and_parts _ _ (names_so r (subst (λ q. is_vid (Of q) ≡ true) (sym same) (h.1 e))) in names r refl e n.0 n.1
    by_word false e =
        ordered_side (a + ahead (right_side r ++ ss)) m (entered (entry_of r) i a c) (takes_many r) ss cs few (subst (λ w. is_atom w ≡ false) (sym (entered_word (entry_of r) i a c)) e)
        (right_side r) (roles_of r) 0 m false false (right_so r) (vids_so r) (free e (opens_sequence (entry_of r)) refl) (omega arith) (λ k. absurd (false≢true k)) rest

apart_cons : (o : Option Mark) (ms : List Mark) → ((m : Mark) → o ≡ Some m → (n j : ℕ) → At n j m → Clear n j ms) → Apart ms → Apart (cons_option o ms)
apart_cons None ms f h = h
apart_cons (Some m) ms f h = (f m refl, h)

word_at : (n j a : ℕ) (c : Context) (w : Wd) (m : Mark) → word_mark w a c ≡ Some m → At n j m → (is_atom w ≡ true) × (c.sequence ≡ n) × (c.index ≡ j)
word_at n j a c W.Plain m e h = absurd (none_mark e)
word_at n j a c W.Constant m e h = absurd (none_mark e)
word_at n j a c (W.Bound space) m e h = absurd (not_there n j _ m (λ k. k) e h)
word_at n j a c W.Listed m e h = absurd (not_there n j _ m (λ k. k) e h)
word_at n j a c W.Variable m e h = absurd (word_elsewhere n j a c W.Variable m (λ q s x. false≢true q) e h)
word_at n j a c W.Atom m e h = let k = subst (At n j) (sym (same_mark e)) h in (refl, k.0, k.1)

pub marks_apart : (nodes : List Node) (i a m : ℕ) (ss : List Symbol) (cs : List Context) (kinds : List Kind) → Goes nodes ss kinds → Enough ss cs → Ordered (a + ahead ss) m ss cs → m + width_of (length ss) nodes ≤ 1048576
    → Apart (marks_of i a cs nodes)
marks_apart [] i a m ss cs kinds g enough h few = tt
marks_apart (Leaf ∷ nodes) i a m [] cs kinds g enough h few = absurd g
marks_apart (Leaf ∷ nodes) i a m (Of p ∷ ss) cs kinds g enough h few = absurd g
marks_apart (Leaf ∷ nodes) i a m (Word w ∷ ss) [] kinds g enough h few = absurd enough
marks_apart (Leaf ∷ nodes) i a m (Word w ∷ ss) (c ∷ cs) [] g enough h few = absurd g
marks_apart (Leaf ∷ nodes) i a m (Word w ∷ ss) (c ∷ cs) (k ∷ kinds) g enough h few =
    apart_cons (word_mark c.word a c) (marks_of (suc i) (a + 1) cs nodes)
    (λ x e n j q.
    let at = word_at n j a c c.word x e q in
    let f = h.0 (or_first (is_atom c.word) false at.0) in
    let below = f.0 in
    let s = at.1 in
    clear n j nodes (suc i) (a + 1) ss cs kinds g.1 enough
    (subst (λ z. Avoid z j ss cs) at.1 (subst (λ z. Avoid c.sequence z ss cs) at.2 (subst (λ z. Later z c ss cs) (or_first (is_atom c.word) false at.0) f.2))) (omega (arith, below, s)))
    (marks_apart nodes (suc i) (a + 1) (m + 1) ss cs kinds g.1 enough (ordered_more (a + suc (ahead ss)) (a + 1 + ahead ss) (m + 1) (m + 1) ss cs (omega arith) (omega arith) h.2) (omega (arith, few)))
marks_apart (Inner r ∷ nodes) i a m [] cs kinds g enough h few = absurd g
marks_apart (Inner r ∷ nodes) i a m (Word w ∷ ss) cs kinds g enough h few = absurd g
marks_apart (Inner r ∷ nodes) i a m (Of p ∷ ss) [] kinds g enough h few = absurd enough
marks_apart (Inner r ∷ nodes) i a m (Of p ∷ ss) (c ∷ cs) kinds g enough h few =
    apart_cons (rule_mark r a c) (marks_of (suc i) a (parts_of i a c (Inner r) ++ cs) nodes) (λ x e n j q. absurd (rule_elsewhere n j r a c x e q))
    (marks_apart nodes (suc i) a m (right_side r ++ ss) (parts_of i a c (Inner r) ++ cs) kinds g.2 (enough_side (right_side r) (roles_of r) 0 (entered (entry_of r) i a c) ss cs enough)
    (ordered_parts r p i a m c ss cs g.0 (omega (arith, few)) h) (let e = ap (λ q. width_of q nodes) (length-append (right_side r) ss) in omega (arith, few, e)))

-- two identifiers at one place are one

clear_none : (n j : ℕ) (ms : List Mark) (y : Mark) → Clear n j ms → Stands y ms → At n j y → ⊥
unfolding Stands
clear_none n j [] y h s q = absurd s
clear_none n j (m ∷ ms) y h (inl e) q = h.0 (subst (At n j) e q)
clear_none n j (m ∷ ms) y h (inr s) q = clear_none n j ms y h.1 s q

pub one_place : (n j : ℕ) (ms : List Mark) (x y : Mark) → Apart ms → Stands x ms → Stands y ms → At n j x → At n j y → x ≡ y
unfolding Stands
one_place n j [] x y h s t q k = absurd s
one_place n j (m ∷ ms) x y h (inl e) (inl f) q k = e ∙ sym f
one_place n j (m ∷ ms) x y h (inl e) (inr t) q k = absurd (clear_none n j ms y (h.0 n j (subst (At n j) e q)) t k)
one_place n j (m ∷ ms) x y h (inr s) (inl f) q k = absurd (clear_none n j ms x (h.0 n j (subst (At n j) f k)) s q)
one_place n j (m ∷ ms) x y h (inr s) (inr t) q k = one_place n j ms x y h.1 s t q k
