-- Each fault of what a declaration binds stands in its declaration.
use Rattle.std.proofs.Common.{◌≡◌, ℕ, suc, ◌+◌, ◌-◌, ◌<◌, List, [], ◌∷◌, ◌++◌, Bool, true, false, Option, Some, None, drop, cond, refl, sym, ap, ◌∙◌, subst, arith, IfSome}
use Rattle.std.specs.Prelude.{not, ◌&&◌, nat_le, nat_lt, if◌then◌else◌, slice_get}
use Rattle.std.specs.List.{cons_option, before_first}
use Rattle.std.proofs.lemmas.Bool.{and_parts, leb-true, ltb-true}
use Rattle.std.proofs.lemmas.List.Sums.{take_while-cons}
use Rattle.sml_lex.specs.declared.fault.Code.{Code}
use Rattle.sml_lex.specs.declared.token.Token.{Token}
use Rattle.sml_tree.specs.Trees.{Id}
use Rattle.sml_read.specs.declared.grammar.Rule.{Rule}
use Rattle.sml_read.specs.declared.grammar.Node.{Node}
use Rattle.sml_read.specs.declared.grammar.Node.TheVariants.{Leaf, Inner}
use Rattle.sml_read.proofs.Tables.{each_rule}
use Rattle.sml_flaws.specs.declared.mark.Mark.{Mark}
use Rattle.sml_flaws.specs.declared.mark.Mark.TheVariants as M
use Rattle.sml_flaws.specs.declared.flaw.Flaw.{Flaw}
use Rattle.sml_reach.specs.declared.reach.Misfit.{Misfit}
use Rattle.sml_reach.specs.Fits.{Fit, Fitted}
use Rattle.sml_read.specs.Extents.{ends_of, tokens_in}
use Rattle.sml_flaws.specs.Marks.{start, marks_of}
use Rattle.sml_flaws.specs.Known.{is_again, token_in}
use Rattle.sml_flaws.specs.Flaws.{flaw_if, name_at, arity_at, unlike_by, unlike, uneven_by, uneven, barred_value, barred, real, flaws_by, flaws_of, scoped_by, scoped_at, scoped_of, flaws_in, flaw_precedes, earlier_flaw, first_flaw}
use Rattle.sml_flaws.specs.Flawed.{begins_at, ends_at, own_nodes, own_token, flaw_in, flaw_here, or_else, first_flawed}
use Rattle.sml_parse.specs.Within.{Extent, of_phrases, reason_of, ends_before, begins_next, tokens_before, extents_of}
use Rattle.sml_parse.proofs.Extents.{agree, agreed}
use Rattle.sml_parse.proofs.Nonempty.{HaveTokens}
use Rattle.sml_parse.proofs.FoundsWithin.{IsIn}
use Rattle.sml_parse.proofs.MisfitsWithin.{IsPlaced}

-- codes

abbrev IsOfPhrases : Flaw → Type 0
IsOfPhrases flaw = reason_of flaw.code ≡ of_phrases

abbrev AllOfPhrases : List Flaw → Type 0
AllOfPhrases [] = Unit {0}
AllOfPhrases (flaw ∷ flaws) = IsOfPhrases flaw × AllOfPhrases flaws

abbrev MaybeOfPhrases : Option Flaw → Type 0
MaybeOfPhrases o = IfSome o IsOfPhrases

if_of : (here : Bool) (token : ℕ) (code : Code) → reason_of code ≡ of_phrases → MaybeOfPhrases (flaw_if here token code)
if_of true token code e = e
if_of false token code e = tt

put : (o : Option Flaw) (flaws : List Flaw) → MaybeOfPhrases o → AllOfPhrases flaws → AllOfPhrases (cons_option o flaws)
put None flaws h k = k
put (Some flaw) flaws h k = (h, k)

joined : (xs ys : List Flaw) → AllOfPhrases xs → AllOfPhrases ys → AllOfPhrases (xs ++ ys)
joined [] ys h k = k
joined (x ∷ xs) ys h k = (h.0, joined xs ys h.1 k)

unlike_of : (text : ℕ → Id) (own first : Option ℕ) → MaybeOfPhrases (unlike_by text own first)
unlike_of text None first = tt
unlike_of text (Some own) None = tt
unlike_of text (Some own) (Some first) = if_of _ _ _ refl

uneven_of : (token : ℕ) (own first : Option ℕ) → MaybeOfPhrases (uneven_by token own first)
uneven_of token None first = tt
uneven_of token (Some own) None = tt
uneven_of token (Some own) (Some first) = if_of _ _ _ refl

barred_of : (text : ℕ → Id) (token : Option ℕ) → MaybeOfPhrases (barred_value text token)
barred_of text None = tt
barred_of text (Some token) = if_of _ _ _ refl

module _ (text : ℕ → Id) (fits : List Fit) (before : List Mark) where
  unlike_at : (m : Mark) → MaybeOfPhrases (unlike text fits before m)
  unlike_at (M.Clause c) = unlike_of text (name_at fits before c.sequence) (name_at fits before c.function)
  unlike_at (M.Bound b) = tt
  unlike_at (M.Listed v) = tt
  unlike_at (M.Owned v) = tt
  unlike_at (M.Identifier a) = tt
  unlike_at (M.Pun n) = tt
  unlike_at (M.Real n) = tt

  uneven_at : (m : Mark) → MaybeOfPhrases (uneven fits before m)
  uneven_at (M.Clause c) = uneven_of c.sequence (arity_at fits before c.sequence) (arity_at fits before c.function)
  uneven_at (M.Bound b) = tt
  uneven_at (M.Listed v) = tt
  uneven_at (M.Owned v) = tt
  uneven_at (M.Identifier a) = tt
  uneven_at (M.Pun n) = tt
  uneven_at (M.Real n) = tt

  if_barred : (b : Bool) (token : ℕ) → MaybeOfPhrases (if b then barred_value text (Some token) else None)
  if_barred true token = barred_of text (Some token)
  if_barred false token = tt

  barred_at : (m : Mark) → MaybeOfPhrases (barred text fits before m)
  barred_at (M.Clause c) = barred_of text _
  barred_at (M.Bound b) = if_of _ _ _ refl
  barred_at (M.Listed v) = tt
  barred_at (M.Owned v) = tt
  barred_at (M.Identifier a) = if_barred _ _
  barred_at (M.Pun n) = barred_of text (Some n)
  barred_at (M.Real n) = tt

  real_at : (m : Mark) → MaybeOfPhrases (real m)
  real_at (M.Clause c) = tt
  real_at (M.Bound b) = tt
  real_at (M.Listed v) = tt
  real_at (M.Owned v) = tt
  real_at (M.Identifier a) = tt
  real_at (M.Pun n) = tt
  real_at (M.Real n) = refl

  at_mark : (m : Mark) (again : Bool) → AllOfPhrases (flaws_by text fits before m again)
  at_mark m again = put _ _ (if_of again (token_in m) _ refl) (put _ _ (unlike_at m) (put _ _ (uneven_at m) (put _ _ (barred_at m) (put _ _ (real_at m) tt))))

at_marks : (text : ℕ → Id) (fits : List Fit) (before marks : List Mark) → AllOfPhrases (flaws_of text fits before marks)
at_marks text fits before [] = tt
at_marks text fits before (m ∷ marks) = joined _ _ (at_mark text fits (m ∷ before) m (is_again text before m)) (at_marks text fits (m ∷ before) marks)

module _ (text : ℕ → Id) (ends : List ℕ) (all : List Mark) where
  scoped_or_not : (token : ℕ) (node : Option ℕ) → MaybeOfPhrases (scoped_by text ends all token node)
  scoped_or_not token None = tt
  scoped_or_not token (Some node) = if_of _ _ _ refl

  scoped_mark : (m : Mark) → MaybeOfPhrases (scoped_at text ends all m)
  scoped_mark (M.Listed v) = scoped_or_not v.token v.owner
  scoped_mark (M.Bound b) = tt
  scoped_mark (M.Owned v) = tt
  scoped_mark (M.Identifier a) = tt
  scoped_mark (M.Pun n) = tt
  scoped_mark (M.Real n) = tt
  scoped_mark (M.Clause c) = tt

  scoped_marks : (marks : List Mark) → AllOfPhrases (scoped_of text ends all marks)
  scoped_marks [] = tt
  scoped_marks (m ∷ marks) = put _ _ (scoped_mark m) (scoped_marks marks)

all_of : (text : ℕ → Id) (fits : List Fit) (nodes : List Node) (marks : List Mark) → AllOfPhrases (flaws_in text fits nodes marks)
all_of text fits nodes marks = joined _ _ (at_marks text fits [] marks) (scoped_marks text (ends_of 0 nodes) marks marks)

earlier_of : (a : Flaw) (o : Option Flaw) → IsOfPhrases a → MaybeOfPhrases o → IsOfPhrases (earlier_flaw a o)
earlier_of a None h k = h
earlier_of a (Some b) h k = by_test (flaw_precedes a b)
  where
    by_test : (c : Bool) → IsOfPhrases (if c then a else b)
    by_test true = h
    by_test false = k

first_of : (flaws : List Flaw) → AllOfPhrases flaws → MaybeOfPhrases (first_flaw flaws)
first_of [] h = tt
first_of (a ∷ flaws) h = earlier_of a (first_flaw flaws) h.0 (first_of flaws h.1)

-- tokens

pub begins_same : (r : Rule) → begins_at r ≡ begins_next r
begins_same r = agreed _ _ (each_rule (λ r. agree (begins_at r) (begins_next r)) refl r)

pub ends_same : (r : Rule) → ends_at (Inner r) ≡ ends_before r
ends_same r = agreed _ _ (each_rule (λ r. agree (ends_at (Inner r)) (ends_before r)) refl r)

own_count : (nodes : List Node) → tokens_in (before_first ends_at nodes) ≡ tokens_before nodes
own_count [] = refl
own_count (Leaf ∷ nodes) = ap tokens_in (take_while-cons (λ node. not (ends_at node)) Leaf nodes) ∙ ap suc (own_count nodes)
own_count (Inner r ∷ nodes) =
    ap tokens_in (take_while-cons (λ node. not (ends_at node)) (Inner r) nodes)
    ∙ subst (λ (b : Bool). tokens_in (cond (not (ends_at (Inner r))) (Inner r ∷ before_first ends_at nodes) []) ≡ (if b then 0 else tokens_before nodes)) (ends_same r) (by_end (own_count nodes) (ends_at (Inner r)))
  where
    by_end : tokens_in (before_first ends_at nodes) ≡ tokens_before nodes → (b : Bool) → tokens_in (cond (not b) (Inner r ∷ before_first ends_at nodes) []) ≡ (if b then 0 else tokens_before nodes)
    by_end h true = refl
    by_end h false = h

own_in : (first : ℕ) (nodes : List Node) (token : ℕ) → 0 < tokens_in nodes → IsIn first (first + tokens_in nodes) (own_token first nodes token)
own_in first nodes token some = by_test (nat_le first token && nat_lt token (first + tokens_in nodes)) refl
  where
    by_test : (b : Bool) → (nat_le first token && nat_lt token (first + tokens_in nodes)) ≡ b → IsIn first (first + tokens_in nodes) (if b then token else first)
    by_test true e = let both = and_parts _ _ e in (leb-true _ _ both.0, ltb-true _ _ both.1)
    by_test false e = (omega arith, omega (arith, some))

-- places

module _ (text : ℕ → Id) (extents : List Extent) (most : ℕ) where
  abbrev MaybePlaced : Option Misfit → Type 0
  MaybePlaced m = IfSome m (IsPlaced extents)

  -- these extents are left after so many
  abbrev AreLeft : ℕ → List Extent → Type 0
  AreLeft count left = (i : ℕ) → slice_get extents (count + i) ≡ slice_get left i

  either : (a b : Option Misfit) → MaybePlaced a → MaybePlaced b → MaybePlaced (or_else a b)
  either None b h k = k
  either (Some m) b h k = h

  here_placed : (r : Rule) (n count : ℕ) (nodes : List Node) (left : List Extent) (flaw : Option Flaw) → n < n + tokens_before nodes → AreLeft count (record { first = n; after = n + tokens_before nodes } ∷ left) → MaybeOfPhrases flaw
      → MaybePlaced (flaw_in (suc count) n (own_nodes (Inner r ∷ nodes)) flaw)
  here_placed r n count nodes left None some l h = tt
  here_placed r n count nodes left (Some flaw) some l h =
      let c = own_count nodes in (
        record { first = n; after = n + tokens_before nodes },
        ap (slice_get extents) (let e : suc count - 1 ≡ count + 0 = omega arith in e) ∙ l 0,
        omega arith,
        refl,
        subst (λ k. IsIn n (n + k) (own_token n (own_nodes (Inner r ∷ nodes)) flaw.token)) c (own_in n (own_nodes (Inner r ∷ nodes)) flaw.token (omega (arith, c, some))),
        h,
      )

  flawed_here : (r : Rule) (n count : ℕ) (nodes : List Node) (left : List Extent) (fitted : List Fitted) → n < n + tokens_before nodes → AreLeft count (record { first = n; after = n + tokens_before nodes } ∷ left)
      → MaybePlaced (flaw_here text (suc count) n (own_nodes (Inner r ∷ nodes)) fitted)
  flawed_here r n count nodes left [] some l = tt
  flawed_here r n count nodes left (f ∷ fitted) some l = here_placed r n count nodes left _ some l (first_of _ (all_of text f.fits (own_nodes (Inner r ∷ nodes)) (marks_of 0 n (start ∷ []) (own_nodes (Inner r ∷ nodes)))))

  pub flawed_placed : (nodes : List Node) (n count : ℕ) (tokens : List Token) (fitted : List Fitted) → HaveTokens most (extents_of n nodes) → AreLeft count (extents_of n nodes)
      → MaybePlaced (first_flawed text n count nodes tokens fitted)
  flawed_placed [] n count tokens fitted h l = tt
  flawed_placed (Leaf ∷ nodes) n count [] fitted h l = tt
  flawed_placed (Leaf ∷ nodes) n count (token ∷ tokens) fitted h l = flawed_placed nodes (suc n) count tokens fitted h l
  flawed_placed (Inner r ∷ nodes) n count tokens fitted h l =
      subst (λ (b : Bool). MaybePlaced (if b then or_else (flaw_here text (suc count) n (own_nodes (Inner r ∷ nodes)) fitted) (first_flawed text n (suc count) nodes tokens (drop 1 fitted)) else first_flawed text n count nodes tokens fitted)) (sym (begins_same r))
      (by_begin (begins_next r) h l (flawed_placed nodes n (suc count) tokens (drop 1 fitted)) (flawed_placed nodes n count tokens fitted))
    where
      extent : Extent
      extent = record { first = n; after = n + tokens_before nodes }

      by_begin : (b : Bool) → HaveTokens most (if b then extent ∷ extents_of n nodes else extents_of n nodes) → AreLeft count (if b then extent ∷ extents_of n nodes else extents_of n nodes)
          → (HaveTokens most (extents_of n nodes) → AreLeft (suc count) (extents_of n nodes) → MaybePlaced (first_flawed text n (suc count) nodes tokens (drop 1 fitted)))
          → (HaveTokens most (extents_of n nodes) → AreLeft count (extents_of n nodes) → MaybePlaced (first_flawed text n count nodes tokens fitted))
          → MaybePlaced (if b then or_else (flaw_here text (suc count) n (own_nodes (Inner r ∷ nodes)) fitted) (first_flawed text n (suc count) nodes tokens (drop 1 fitted)) else first_flawed text n count nodes tokens fitted)
      by_begin true h l more same = either _ _ (flawed_here r n count nodes (extents_of n nodes) fitted h.0.0 l) (more h.1 (λ i. ap (slice_get extents) (let e : suc count + i ≡ count + suc i = omega arith in e) ∙ l (suc i)))
      by_begin false h l more same = same h l
