-- In each declaration before the last fault no value declaration lists a type variable that one round it scopes.
use Rattle.std.proofs.Common.{◌≡◌, ℕ, zero, suc, ◌+◌, List, [], ◌∷◌, ◌++◌, Bool, true, false, Option, Some, None, get_or, drop, append_assoc, refl, sym, ap, ◌∙◌, subst, inl, inr, arith}
use Rattle.std.specs.Prelude.{not, ◌||◌, slice_get}
use Rattle.std.specs.List.{before_first, cons_option, list_any}
use Rattle.std.proofs.lemmas.Bool.{false≢true, and_parts, cond-true, cond-false}
use Rattle.std.proofs.lemmas.List.Sums.{take_while-cons}
use Rattle.sml_lex.specs.declared.fault.Place.{Place}
use Rattle.sml_lex.specs.declared.token.Kind.{Kind}
use Rattle.sml_lex.specs.declared.token.Token.{Token}
use Rattle.sml_tree.specs.Trees.{Id}
use Rattle.sml_objects.specs.Appearance.{Stands}
use Rattle.sml_read.specs.declared.grammar.Part.{Part}
use Rattle.sml_read.specs.declared.grammar.Part.TheVariants.{Top, Exp}
use Rattle.sml_read.specs.declared.grammar.Symbol.{Symbol}
use Rattle.sml_read.specs.declared.grammar.Symbol.TheVariants.{Word, Of}
use Rattle.sml_read.specs.declared.grammar.Rule.{Rule}
use Rattle.sml_read.specs.declared.grammar.Rule.TheVariants.{Names, Units, Structures, Signatures, Specifications, Declarations, Expressions, Patterns, Types}
use Rattle.sml_read.specs.declared.grammar.UnitRule.{UnitRule}
use Rattle.sml_read.specs.declared.grammar.UnitRule.TheVariants as U
use Rattle.sml_read.specs.declared.grammar.Node.{Node}
use Rattle.sml_read.specs.declared.grammar.Node.TheVariants.{Leaf, Inner}
use Rattle.sml_read.specs.Grammar.{right_side}
use Rattle.sml_read.specs.Parts.{part_of}
use Rattle.sml_read.specs.Spelling.{is_outer, kinds_of, Leads}
use Rattle.sml_read.specs.Extents.{size_of, ends_of, starts_of}
use Rattle.sml_read.proofs.Tables.{each_rule, implies, implied}
use Rattle.sml_phrases.specs.Phrases.{Phrase, of_exp, of_top, first}
use Rattle.sml_reach.specs.Events.{text_at}
use Rattle.sml_flaws.specs.declared.mark.Context.{Context}
use Rattle.sml_flaws.specs.declared.mark.Listed.{Listed}
use Rattle.sml_flaws.specs.declared.mark.Mark.{Mark}
use Rattle.sml_flaws.specs.declared.mark.Mark.TheVariants as Mk
use Rattle.sml_flaws.specs.declared.flaw.Flaw.{Flaw}
use Rattle.sml_flaws.specs.declared.role.Entry.TheVariants as O
use Rattle.sml_flaws.specs.Marks.{start, entered, marks_of}
use Rattle.sml_flaws.specs.Known.{token_in}
use Rattle.sml_flaws.specs.Flaws.{owner_in, is_outer as is_round, flaw_if, scoped_by, scoped_at, scoped_of, flaws_of, flaws, first_flaw}
use Rattle.sml_flaws.specs.Flawed.{ends_at}
use Rattle.sml_bare.specs.RulePhrases.{rule_phrase, declaration}
use Rattle.sml_bare.specs.Derivations.{Source, place_at, made_by, phrases_of}
use Rattle.sml_reach.specs.Fits.{Fit}
use Rattle.sml_parse.proofs.Nonempty.{all_inner, inner_so, when_not, inner_append}
use Rattle.sml_tree_laws.specs.Scoped.{TopScoped}
use Rattle.sml_tree_laws.proofs.Phrases.{PhraseSits, top_sits}
use Rattle.sml_tree_laws.proofs.Values.{it_scoped}
use Rattle.sml_tree_laws.proofs.Walk.{Goes, FitAll, size_more, NoFlaw, HasListed, HasOwned, L, V, R, wider, clash, Claim, sits}

-- what stands of a declaration is a whole derivation of its part

no_more : (x : Symbol) (a ss : List Symbol) (q : Part) (rest : Part) → x ∷ (a ++ Of q ∷ ss) ≡ Of rest ∷ [] → ⊥
no_more x [] ss q rest e = cc
no_more x (y ∷ a) ss q rest e = cc

ends_so : (r : Rule) → ends_at (Inner r) ≡ is_outer (part_of r)
ends_so r = go (ends_at (Inner r)) (is_outer (part_of r)) (each_rule (λ r. same (ends_at (Inner r)) (is_outer (part_of r))) refl r)
  where
    same : Bool → Bool → Bool
    same true b = b
    same false b = not b

    go : (a b : Bool) → same a b ≡ true → a ≡ b
    go true true h = refl
    go true false h = absurd (false≢true h)
    go false true h = absurd (false≢true h)
    go false false h = refl

pub go_on : (node : Node) (nodes : List Node) → ends_at node ≡ false → before_first ends_at (node ∷ nodes) ≡ node ∷ before_first ends_at nodes
go_on node nodes e = take_while-cons (λ x. not (ends_at x)) node nodes ∙ cond-true _ _ _ (ap not e)

pub stop : (node : Node) (nodes : List Node) → ends_at node ≡ true → before_first ends_at (node ∷ nodes) ≡ []
stop node nodes e = take_while-cons (λ x. not (ends_at x)) node nodes ∙ cond-false _ _ _ (ap not e)

pub goes_of : (nodes : List Node) (a ss : List Symbol) (q rest : Part) (kinds : List Kind) (next : Option Kind) → all_inner a ≡ true → is_outer q ≡ true
    → Leads nodes (a ++ Of q ∷ ss) kinds next (Of rest ∷ []) → Goes (before_first ends_at nodes) a kinds
goes_of [] [] ss q rest kinds next i o h = refl
goes_of [] (x ∷ a) ss q rest [] next i o h = absurd (no_more x a ss q rest h)
goes_of [] (x ∷ a) ss q rest (k ∷ kinds) next i o h = absurd h
goes_of (Leaf ∷ nodes) [] ss q rest kinds next i o h = absurd h
goes_of (Leaf ∷ nodes) (Word w ∷ a) ss q rest [] next i o h = absurd h
goes_of (Leaf ∷ nodes) (Word w ∷ a) ss q rest (k ∷ kinds) next i o h =
    subst (λ ns. Goes ns (Word w ∷ a) (k ∷ kinds)) (sym (go_on Leaf nodes refl)) (h.0, goes_of nodes a ss q rest kinds next i o h.1)
goes_of (Leaf ∷ nodes) (Of p ∷ a) ss q rest kinds next i o h = absurd h
goes_of (Inner r ∷ nodes) [] ss q rest kinds next i o h =
    subst (λ ns. Goes ns [] kinds) (sym (stop (Inner r) nodes (ends_so r ∙ ap is_outer h.0 ∙ o))) refl
goes_of (Inner r ∷ nodes) (Word w ∷ a) ss q rest kinds next i o h = absurd h
goes_of (Inner r ∷ nodes) (Of p ∷ a) ss q rest kinds next i o h =
    let both = and_parts _ _ i in
    let inner = subst (λ p. not (is_outer p) ≡ true) (sym h.0) both.0 in
    subst (λ ns. Goes ns (Of p ∷ a) kinds) (sym (go_on (Inner r) nodes (ends_so r ∙ when_not (is_outer (part_of r)) inner))) (
      h.0,
      both.0,
      goes_of nodes (right_side r ++ a) ss q rest kinds next (inner_append (right_side r) a (inner_so r inner) both.1) o
          (subst (λ x. Leads nodes x kinds next (Of rest ∷ [])) (sym (append_assoc (right_side r) a (Of q ∷ ss))) h.2),
    )

-- no flaw

pub none_or : (fl : List Flaw) → first_flaw fl ≡ None → fl ≡ []
none_or [] e = refl
none_or (a ∷ fl) e = cc

after_none : {A : Type 0} (xs ys : List A) → xs ++ ys ≡ [] → ys ≡ []
after_none [] ys e = e
after_none (x ∷ xs) ys e = cc

any_none : (f : Mark → Bool) (ms : List Mark) (m : Mark) → list_any f ms ≡ false → Stands m ms → f m ≡ false
unfolding Stands
any_none f [] m e s = absurd s
any_none f (x ∷ ms) m e (inl same) = ap f same ∙ first_no (f x) (list_any f ms) e
  where
    first_no : (a b : Bool) → (a || b) ≡ false → a ≡ false
    first_no true b h = h
    first_no false b h = refl
any_none f (x ∷ ms) m e (inr s) = any_none f ms m (rest_no (f x) (list_any f ms) e) s
  where
    rest_no : (a b : Bool) → (a || b) ≡ false → b ≡ false
    rest_no true b h = cc
    rest_no false b h = h

pub if_none : (b : Bool) (token : ℕ) (code : _) → flaw_if b token code ≡ None → b ≡ false
if_none true token code e = cc
if_none false token code e = refl

module _ (text : ℕ → Id) (ends : List ℕ) (all : List Mark) where
  none_scoped : (v : Listed) (d : ℕ) (m : Mark) → scoped_at text ends all (Mk.Listed v) ≡ None → v.owner ≡ Some d → Stands m all → is_round text ends d v.token m ≡ false
  none_scoped v d m e o s =
      any_none (is_round text ends d v.token) all m (if_none _ v.token _ (subst (λ q. scoped_by text ends all v.token q ≡ None) o e)) s

  first_of_none : {A : Type 0} (o : Option A) (xs : List A) → cons_option o xs ≡ [] → (o ≡ None) × (xs ≡ [])
  first_of_none None xs e = (refl, e)
  first_of_none (Some x) xs e = cc

  none_of : (marks : List Mark) → scoped_of text ends all marks ≡ [] → (v : Listed) (d : ℕ) (m : Mark) → Stands (Mk.Listed v) marks → v.owner ≡ Some d → Stands m all
      → is_round text ends d v.token m ≡ false
  unfolding Stands
  none_of [] e v d m l o s = absurd l
  none_of (x ∷ marks) e v d m (inl same) o s = none_scoped v d m (ap (scoped_at text ends all) same ∙ (first_of_none (scoped_at text ends all x) (scoped_of text ends all marks) e).0) o s
  none_of (x ∷ marks) e v d m (inr l) o s = none_of marks (first_of_none (scoped_at text ends all x) (scoped_of text ends all marks) e).1 v d m l o s

-- what is made at the top

abbrev is_top : Phrase → Bool
is_top (of_top d) = true
is_top _ = false

abbrev makes_top : Rule → Bool
makes_top (Units U.TopStr) = true
makes_top (Units U.TopSignature) = true
makes_top (Units U.TopFunctor) = true
makes_top _ = false

abbrev is_top_part : Part → Bool
is_top_part Top = true
is_top_part _ = false

tops_so : (r : Rule) → is_top_part (part_of r) ≡ true → makes_top r ≡ true
tops_so r = implied _ _ (each_rule (λ r. implies (is_top_part (part_of r)) (makes_top r)) refl r)

unit_top : (rule : UnitRule) (p : Place) (vs : List Phrase) → makes_top (Units rule) ≡ true → is_top (rule_phrase (Units rule) p None vs) ≡ true
unit_top U.TopStr p vs h = refl
unit_top U.TopSignature p vs h = refl
unit_top U.TopFunctor p vs h = refl
unit_top _ p vs h = absurd (false≢true h)

top_declared : (L' V' R' : Id → Type 0) (p : Place) (v : Phrase) → PhraseSits L' V' R' v → is_top v ≡ true → TopScoped (declaration p v)
top_declared L' V' R' p (of_top d) h t = h
top_declared L' V' R' p _ h t = absurd (false≢true t)

rule_top : (r : Rule) (s : Source) (n : ℕ) (vs : List Phrase) → makes_top r ≡ true → is_top (made_by s r n vs) ≡ true
rule_top (Units rule) s n vs h = unit_top rule (place_at s.unit s.tokens n) vs h
rule_top (Names rule) s n vs h = absurd (false≢true h)
rule_top (Structures rule) s n vs h = absurd (false≢true h)
rule_top (Signatures rule) s n vs h = absurd (false≢true h)
rule_top (Specifications rule) s n vs h = absurd (false≢true h)
rule_top (Declarations rule) s n vs h = absurd (false≢true h)
rule_top (Expressions rule) s n vs h = absurd (false≢true h)
rule_top (Patterns rule) s n vs h = absurd (false≢true h)
rule_top (Types rule) s n vs h = absurd (false≢true h)

no_symbol : {x : Symbol} → x ∷ [] ≡ [] → ⊥
no_symbol e = cc

first_top : (s : Source) (nodes : List Node) (kinds : List Kind) → Goes nodes (Of Top ∷ []) kinds → is_top (first (phrases_of s nodes (starts_of 0 nodes))) ≡ true
first_top s [] kinds g = absurd (no_symbol g)
first_top s (Leaf ∷ nodes) kinds g = absurd g
first_top s (Inner r ∷ nodes) kinds g = rule_top r s 0 _ (tops_so r (ap is_top_part g.0))

slice_drop : {A : Type 0} (n j : ℕ) (xs : List A) (k : ℕ) → k ≡ n + j → slice_get (drop n xs) j ≡ slice_get xs k
slice_drop zero j xs k e = ap (slice_get xs) (let f : j ≡ k = omega (arith, e) in f)
slice_drop (suc n) j [] k e = refl
slice_drop (suc n) j (x ∷ xs) zero e = absurd (omega (arith, e))
slice_drop (suc n) j (x ∷ xs) (suc k) e = slice_drop n j xs k (omega (arith, e))

-- A declaration that has no flaw. So many tokens stand before it, and these from its first one on.
module _ (unit : List ℕ) (tokens : List Token) (n : ℕ) (fits : List Fit) (own : List Node) (left : List Token)
    (reads : (j : ℕ) (t : Token) → slice_get left j ≡ Some t → slice_get (drop n tokens) (0 + j) ≡ Some t) where
  abbrev pub source : Source
  source = record { unit = unit; tokens = drop n tokens; begun = n; fits = fits }

  abbrev pub made : Phrase
  made = first (phrases_of source own (starts_of 0 own))

  pub counted : (j : ℕ) → slice_get source.tokens j ≡ slice_get tokens (source.begun + j)
  counted j = slice_drop n j tokens (n + j) refl

  module _ (rule : UnitRule) (clean : flaws (text_at unit tokens) fits n (Inner (Units rule) ∷ own) ≡ []) where
    abbrev marks : List Mark
    marks = marks_of 0 n (start ∷ []) (Inner (Units rule) ∷ own)

    abbrev ends : List ℕ
    ends = ends_of 0 (Inner (Units rule) ∷ own)

    no_flaw : NoFlaw source tokens marks ends counted
    no_flaw v d m l o st = none_of (text_at unit tokens) ends marks marks (after_none (flaws_of (text_at unit tokens) fits [] marks) (scoped_of (text_at unit tokens) ends marks marks) clean) v d m l o st

    later : (j : ℕ) → get_or ends (1 + j) 0 ≡ get_or (ends_of 1 own) j 0
    later j = ap (λ q. get_or ends q 0) (let e : 1 + j ≡ suc j = omega arith in e)

    -- the first phrase, in the first of these contexts
    first_sits : (q : Part) (c : Context) (cs : List Context) → Goes own (Of q ∷ []) (kinds_of left) → FitAll (Of q ∷ []) (c ∷ cs) → ((m : Mark) → Stands m (marks_of 1 n (c ∷ cs) own) → Stands m marks)
        → Claim source tokens marks ends counted no_flaw c (1 + size_of 0 own) (1 + size_of 1 own) made
    first_sits q c cs g fit inc = sits source tokens marks ends counted no_flaw own 1 0 n (Of q ∷ []) (c ∷ cs) left (omega arith) g fit reads inc later 0 (omega arith) (1 + size_of 0 own) (1 + size_of 1 own) refl refl

  pub top_scoped : flaws (text_at unit tokens) fits n (Inner (Units U.StartTop) ∷ own) ≡ [] → Goes own (Of Top ∷ []) (kinds_of left) → (p : Place) → TopScoped (declaration p made)
  top_scoped clean g p =
      let h = first_sits U.StartTop clean Top start (start ∷ []) g (record { variable = λ e. absurd (false≢true e); core = λ e. absurd (false≢true e) }, tt) (λ m s. s) in
      top_declared _ _ _ p made h.0 (first_top source own (kinds_of left) g)

  pub next_scoped : flaws (text_at unit tokens) fits n (Inner (Units U.AfterTopTop) ∷ own) ≡ [] → Goes own (Of Top ∷ []) (kinds_of left) → (p : Place) → TopScoped (declaration p made)
  next_scoped clean g p =
      let h = first_sits U.AfterTopTop clean Top start (start ∷ []) g (record { variable = λ e. absurd (false≢true e); core = λ e. absurd (false≢true e) }, tt) (λ m s. s) in
      top_declared _ _ _ p made h.0 (first_top source own (kinds_of left) g)

  pub exp_scoped : flaws (text_at unit tokens) fits n (Inner (Units U.StartExp) ∷ own) ≡ [] → Goes own (Of Exp ∷ []) (kinds_of left) → (p : Place) → TopScoped (declaration p made)
  exp_scoped clean g p = by_phrase made h.0
    where
      all : List Mark
      all = marks U.StartExp clean

      stops : List ℕ
      stops = ends U.StartExp clean

      end : ℕ
      end = suc (size_of 2 own)

      c : Context
      c = entered O.Value 0 n start

      h : Claim source tokens all stops counted (no_flaw U.StartExp clean) c (1 + size_of 0 own) (1 + size_of 1 own) made
      h = first_sits U.StartExp clean Exp c (c ∷ []) g (record { variable = λ e. absurd (false≢true e); core = λ e. refl }, tt) (λ m s. s)

      by_phrase : (v : Phrase) → PhraseSits (L source tokens all stops counted (Some 0)) (V source tokens all stops counted (Some 0)) (R source tokens all stops counted (1 + size_of 0 own) (1 + size_of 1 own)) v
          → TopScoped (declaration p v)
      by_phrase (of_exp e) k =
          it_scoped (HasListed source tokens all stops counted 0) (HasOwned source tokens all stops counted 0) (R source tokens all stops counted (1 + size_of 0 own) (1 + size_of 1 own)) (R source tokens all stops counted 0 end)
          (λ x l. record { owner = 0; from = omega arith; before = omega arith; has = l })
          (wider source tokens all stops counted (1 + size_of 0 own) (1 + size_of 1 own) 0 end (omega arith) (let few = size_more own 1 2 (omega arith) in omega (arith, few)))
          (λ x q l. apart x q (Mk.Listed l.mark) l.among l.owner_is l.text_is)
          (λ x q v. apart x q v.mark v.among v.owner_is v.text_is)
          p e k
        where
          apart : (x : Id) → R source tokens all stops counted (1 + size_of 0 own) (1 + size_of 1 own) x → (m : Mark) → Stands m all → owner_in m ≡ Some 0 → text_at unit tokens (token_in m) ≡ x → ⊥
          apart x q m st o t =
              let few = size_more own 1 2 (omega arith) in
              let f = q.from in
              let b = q.before in
              clash source tokens all stops counted (no_flaw U.StartExp clean) 0 q.owner end x m (omega (arith, f)) (omega (arith, b, few)) (let e : 0 + suc (size_of 2 own) ≡ suc (size_of 2 own) = omega arith in e) q.has st o t
      by_phrase v k = top_sits (L source tokens all stops counted (Some 0)) (V source tokens all stops counted (Some 0)) (R source tokens all stops counted (1 + size_of 0 own) (1 + size_of 1 own)) v k
