-- The declarations of a unit, one after the other: those before the last fault have no flaw.
use Rattle.std.proofs.Common.{◌≡◌, ℕ, zero, suc, ◌+◌, ◌-◌, ◌<◌, ◌≤◌, List, [], ◌∷◌, ◌++◌, Bool, true, false, Option, Some, None, IfSome, length, take, drop, refl, sym, ap, ◌∙◌, subst, arith}
use Rattle.std.specs.Prelude.{slice_get, if◌then◌else◌}
use Rattle.std.specs.List.{All, before_first, cons_option}
use Rattle.std.specs.Option.{option_map}
use Rattle.std.proofs.lemmas.Bool.{false≢true}
use Rattle.std.proofs.lemmas.List.{take_all}
use Rattle.std.proofs.lemmas.List.Elements.{All-nil, All-cons, All-weaker}
use Rattle.sml_lex.specs.declared.fault.Place.{Place}
use Rattle.sml_lex.specs.declared.token.Kind.{Kind}
use Rattle.sml_lex.specs.declared.token.Token.{Token}
use Rattle.sml_tree.specs.Trees.{Id}
use Rattle.sml_tree.specs.Heights.{top_height}
use Rattle.sml_tree.specs.Structures.{TopDec}
use Rattle.sml_read.specs.declared.grammar.Part.{Part}
use Rattle.sml_read.specs.declared.grammar.Part.TheVariants.{Start, Top, Exp, AfterTop, AfterExp}
use Rattle.sml_read.specs.declared.grammar.Symbol.{Symbol}
use Rattle.sml_read.specs.declared.grammar.Symbol.TheVariants.{Word, Of}
use Rattle.sml_read.specs.declared.grammar.Rule.{Rule}
use Rattle.sml_read.specs.declared.grammar.Rule.TheVariants as G
use Rattle.sml_read.specs.declared.grammar.UnitRule.{UnitRule}
use Rattle.sml_read.specs.declared.grammar.UnitRule.TheVariants as U
use Rattle.sml_read.specs.declared.grammar.Node.{Node}
use Rattle.sml_read.specs.declared.grammar.Node.TheVariants.{Leaf, Inner}
use Rattle.sml_read.specs.Grammar.{right_side}
use Rattle.sml_read.specs.Spelling.{first_of, is_outer, kinds_of, Leads}
use Rattle.sml_read.specs.Extents.{starts_of}
use Rattle.sml_phrases.specs.Phrases.{first}
use Rattle.sml_phrases.specs.PhraseHeights.{low}
use Rattle.sml_reach.specs.declared.sense.Deed.{Deed}
use Rattle.sml_reach.specs.declared.sense.Deed.TheVariants as D
use Rattle.sml_reach.specs.declared.reach.Misfit.{Misfit}
use Rattle.sml_reach.specs.Senses.{deed_of, opens, closes}
use Rattle.sml_reach.specs.Events.{Event, begins, enters, leaves, directs, expression, pattern, head, are_itself, asked_of, text_at, found_at, scope_event, event_of, event_from, events_of, founds_of}
use Rattle.sml_reach.specs.Fits.{Fit, Fitted}
use Rattle.sml_reach.specs.Founds.{Atom, Found, nothing, word, one, several, within, directed, sequence_in}
use Rattle.sml_reach.specs.Reach as Reach
use Rattle.sml_reach.specs.Reach.{AreFitted, Outcome, declares, idle, stands, fails, Outcomes, State, declarations_in, before_misfit, up_to}
use Rattle.sml_flaws.specs.declared.flaw.Flaw.{Flaw}
use Rattle.sml_flaws.specs.Flaws.{flaws, first_flaw}
use Rattle.sml_flaws.specs.Flawed.{begins_at, ends_at, own_nodes, flaw_in, flaw_here, or_else, first_flawed}
use Rattle.sml_bare.specs.RulePhrases.{declaration}
use Rattle.sml_bare.specs.Derivations.{Source, place_at, phrases_of, are_low, top_if_low, bare_dec_at, bare_decs, before_none}
use Rattle.sml_tree_laws.specs.Scoped.{TopScoped, VariablesAreScopedOnce}
use Rattle.sml_tree_laws.proofs.Declared.{stop, go_on, goes_of, none_or, made, top_scoped, next_scoped, exp_scoped}
use Rattle.sml_lex.specs.declared.token.End.{End}
use Rattle.sml_lex.specs.Faults.{Fault}
use Rattle.sml_tree.specs.Trees as Piece
use Rattle.sml_parse.specs.Trees.{AreTrees}
use Rattle.sml_tree_laws.specs.WellBound.{TopBound, TreesAreWellBound}
use Rattle.sml_tree_laws.proofs.WellDeclared.{top_well, next_well, exp_well}
use Rattle.sml_lex.specs.Pieces.{Spells}
use Rattle.sml_read.proofs.Tables.{each_rule, implies, implied}
use Rattle.sml_tree_laws.specs.Recursive.{TopRec, RecursiveNamesMayBeBound}
use Rattle.sml_tree_laws.proofs.SequenceTokens.{events_rise}
use Rattle.sml_tree_laws.proofs.SequenceFits.{FitsRise, AreBuilt, FitsWell, AllCome, Tells, tells_none, all_fit}
use Rattle.sml_tree_laws.proofs.RecDeclared.{fewer, top_recursive, next_recursive, exp_recursive}

-- what is proved of a declaration, where K holds of its unit
abbrev TopLawful : Type 0 → TopDec Place → Type 0
TopLawful K d = TopScoped d × TopBound d × (K → TopRec d)

-- there are as many events of declarations as declarations

abbrev declared : List Node → ℕ
declared [] = 0
declared (Leaf ∷ nodes) = declared nodes
declared (Inner rule ∷ nodes) = if begins_at rule then suc (declared nodes) else declared nodes

abbrev begun_in : List Event → ℕ
begun_in [] = 0
begun_in (begins token ∷ events) = suc (begun_in events)
begun_in (event ∷ events) = begun_in events

unit_deed : (rule : UnitRule) → begins_at (G.Units rule) ≡ true → deed_of (G.Units rule) ≡ D.Begins
unit_deed U.StartTop h = refl
unit_deed U.StartExp h = refl
unit_deed U.AfterTopTop h = refl
unit_deed _ h = absurd (false≢true h)

begins_deed : (rule : Rule) → begins_at rule ≡ true → deed_of rule ≡ D.Begins
begins_deed (G.Units rule) h = unit_deed rule h
begins_deed (G.Names rule) h = absurd (false≢true h)
begins_deed (G.Structures rule) h = absurd (false≢true h)
begins_deed (G.Signatures rule) h = absurd (false≢true h)
begins_deed (G.Specifications rule) h = absurd (false≢true h)
begins_deed (G.Declarations rule) h = absurd (false≢true h)
begins_deed (G.Expressions rule) h = absurd (false≢true h)
begins_deed (G.Patterns rule) h = absurd (false≢true h)
begins_deed (G.Types rule) h = absurd (false≢true h)

more_begun : (o : Option Event) (events : List Event) → begun_in events ≤ begun_in (cons_option o events)
more_begun None events = omega arith
more_begun (Some (begins token)) events = omega arith
more_begun (Some enters) events = omega arith
more_begun (Some leaves) events = omega arith
more_begun (Some (directs directive level atoms)) events = omega arith
more_begun (Some (expression atoms)) events = omega arith
more_begun (Some (pattern atoms)) events = omega arith
more_begun (Some (head atoms)) events = omega arith

few_begun : (unit : List ℕ) (tokens : List Token) (nodes : List Node) (n : ℕ) → declared nodes ≤ begun_in (events_of unit tokens nodes (starts_of n nodes))
few_begun unit tokens [] n = omega arith
few_begun unit tokens (Leaf ∷ nodes) n =
    let h = few_begun unit tokens nodes (suc n) in
    let m = more_begun (event_from unit tokens Leaf n (founds_of (text_at unit tokens) nodes (starts_of (suc n) nodes))) (events_of unit tokens nodes (starts_of (suc n) nodes)) in
    omega (arith, h, m)
few_begun unit tokens (Inner rule ∷ nodes) n = go (few_begun unit tokens nodes n) (begins_at rule) refl
  where
    found : Found
    found = found_at (text_at unit tokens) n rule (founds_of (text_at unit tokens) nodes (starts_of n nodes))

    go : declared nodes ≤ begun_in (events_of unit tokens nodes (starts_of n nodes)) → (b : Bool) → begins_at rule ≡ b
        → (if b then suc (declared nodes) else declared nodes) ≤ begun_in (cons_option (event_of (deed_of rule) n found) (events_of unit tokens nodes (starts_of n nodes)))
    go rest true e = subst (λ d. suc (declared nodes) ≤ begun_in (cons_option (event_of d n found) (events_of unit tokens nodes (starts_of n nodes)))) (sym (begins_deed rule e)) (omega (arith, rest))
    go rest false e = let m = more_begun (event_of (deed_of rule) n found) (events_of unit tokens nodes (starts_of n nodes)) in omega (arith, rest, m)

more_declared : (o : Outcome) (os : List Outcome) → length (declarations_in os) ≤ length (declarations_in (o ∷ os))
more_declared (declares token) os = omega arith
more_declared idle os = omega arith
more_declared (stands fit) os = omega arith
more_declared (fails m) os = omega arith

other : (text : ℕ → Id) (o : Outcome) (os all : List Outcome) (events : List Event) → begun_in events ≤ length (declarations_in os) → all ≡ o ∷ os → begun_in events ≤ length (declarations_in all)
other text o os all events h e = subst (λ all. begun_in events ≤ length (declarations_in all)) (sym e) (let m = more_declared o os in omega (arith, h, m))

few_declared : (text : ℕ → Id) (s : State) (events : List Event) (all : List Outcome) → Outcomes text s events all → begun_in events ≤ length (declarations_in all)
few_declared text s [] all h = omega arith
few_declared text s (begins token ∷ events) all h =
    let rest = few_declared text h.1 events h.2 h.4 in
    subst (λ os. suc (begun_in events) ≤ length (declarations_in os)) (sym h.5) (subst (λ o. suc (begun_in events) ≤ length (declarations_in (o ∷ h.2))) (sym h.3.0) (omega (arith, rest)))
few_declared text s (enters ∷ events) all h = other text h.0 h.2 all events (few_declared text h.1 events h.2 h.4) h.5
few_declared text s (leaves ∷ events) all h = other text h.0 h.2 all events (few_declared text h.1 events h.2 h.4) h.5
few_declared text s (directs directive level atoms ∷ events) all h = other text h.0 h.2 all events (few_declared text h.1 events h.2 h.4) h.5
few_declared text s (expression atoms ∷ events) all h = other text h.0 h.2 all events (few_declared text h.1 events h.2 h.4) h.5
few_declared text s (pattern atoms ∷ events) all h = other text h.0 h.2 all events (few_declared text h.1 events h.2 h.4) h.5
few_declared text s (head atoms ∷ events) all h = other text h.0 h.2 all events (few_declared text h.1 events h.2 h.4) h.5

-- what is told of the declarations after an event

abbrev is_begins : Deed → Bool
is_begins D.Begins = true
is_begins _ = false

not_begun : (rule : Rule) → begins_at rule ≡ false → is_begins (deed_of rule) ≡ false
not_begun rule h = go (is_begins (deed_of rule)) refl
  where
    go : (b : Bool) → is_begins (deed_of rule) ≡ b → b ≡ false
    go false e = refl
    go true e = absurd (false≢true (sym h ∙ implied _ _ (each_rule (λ r. implies (is_begins (deed_of r)) (begins_at r)) refl rule) e))

tells_scope : (o : Option Token) (es : List Event) (ds : List Fitted) → Tells (cons_option (scope_event o) es) ds → Tells es ds
tells_scope None es ds h = h
tells_scope (Some token) es ds h = go (opens token.kind) (closes token.kind) h
  where
    go : (a b : Bool) → Tells (cons_option (if a then Some enters else if b then Some leaves else None) es) ds → Tells es ds
    go true b h = h
    go false true h = h
    go false false h = h

tells_other : (d : Deed) (n : ℕ) (f : Found) (es : List Event) (ds : List Fitted) → is_begins d ≡ false → Tells (cons_option (event_of d n f) es) ds → Tells es ds
tells_other D.Nothing n f es ds b h = h
tells_other D.Begins n f es ds b h = absurd (false≢true (sym b))
tells_other (D.Directs directive) n (directed level atoms) es ds b h = h
tells_other (D.Directs directive) n nothing es ds b h = h
tells_other (D.Directs directive) n (word k) es ds b h = h
tells_other (D.Directs directive) n (one a) es ds b h = h
tells_other (D.Directs directive) n (several atoms typed) es ds b h = h
tells_other (D.Directs directive) n (within names) es ds b h = h
tells_other D.Expression n f es ds b h = go (sequence_in f) h
  where
    by_test : (b : Bool) (atoms : List Atom) → Tells (cons_option (if b then None else Some (expression atoms)) es) ds → Tells es ds
    by_test true atoms h = h
    by_test false atoms h = h

    go : (o : Option (List Atom)) → Tells (cons_option (asked_of o) es) ds → Tells es ds
    go None h = h
    go (Some atoms) h = by_test (are_itself atoms) atoms h
tells_other D.Pattern n f es ds b h = go (sequence_in f) h
  where
    go : (o : Option (List Atom)) → Tells (cons_option (option_map pattern o) es) ds → Tells es ds
    go None h = h
    go (Some atoms) h = h
tells_other D.Head n f es ds b h = go (sequence_in f) h
  where
    go : (o : Option (List Atom)) → Tells (cons_option (option_map head o) es) ds → Tells es ds
    go None h = h
    go (Some atoms) h = h

tells_drop : (n : ℕ) (es : List Event) (ds : List Fitted) → Tells (begins n ∷ es) ds → Tells es (drop 1 ds)
tells_drop n es [] h = tells_none es
tells_drop n es (d ∷ ds) h = h.1

-- the nodes of a declaration, and those after it

after_first : List Node → List Node
after_first nodes = drop (length (before_first ends_at nodes)) nodes

first_and_after : (nodes : List Node) → before_first ends_at nodes ++ after_first nodes ≡ nodes
unfolding after_first
first_and_after [] = refl
first_and_after (node ∷ nodes) = go (ends_at node) refl (first_and_after nodes)
  where
    go : (b : Bool) → ends_at node ≡ b → before_first ends_at nodes ++ drop (length (before_first ends_at nodes)) nodes ≡ nodes
        → before_first ends_at (node ∷ nodes) ++ drop (length (before_first ends_at (node ∷ nodes))) (node ∷ nodes) ≡ node ∷ nodes
    go true e h = ap (λ q. q ++ drop (length q) (node ∷ nodes)) (stop node nodes e)
    go false e h = ap (λ q. q ++ drop (length q) (node ∷ nodes)) (go_on node nodes e) ∙ ap (λ q. node ∷ q) h

-- declarations before the fault

abbrev IsBefore : ℕ → Option Misfit → Type 0
IsBefore number None = Unit {0}
IsBefore number (Some m) = number < m.number

abbrev EachGood : Type 0 → ℕ → Option Misfit → List Fitted → List (Option (TopDec Place)) → Type 0
EachGood K count m fitted [] = Unit {0}
EachGood K count m fitted (d ∷ ds) = (IsBefore (suc count) m → 0 < length fitted → IfSome d (TopLawful K)) × EachGood K (suc count) m (drop 1 fitted) ds

abbrev AllGood : Type 0 → List (Option (TopDec Place)) → Type 0
AllGood K [] = Unit {0}
AllGood K (d ∷ ds) = IfSome d (TopLawful K) × AllGood K ds

none_before : (K : Type 0) (ds : List (Option (TopDec Place))) → AllGood K ds → All (TopLawful K) (before_none ds)
none_before K [] h = All-nil (TopLawful K)
none_before K (None ∷ ds) h = All-nil (TopLawful K)
none_before K (Some d ∷ ds) h = All-cons (TopLawful K) d (before_none ds) h.0 (none_before K ds h.1)

fewer_fitted : (q : ℕ) (fitted : List Fitted) → suc q < length fitted → q < length (drop 1 fitted)
fewer_fitted q [] h = absurd (omega (arith, h))
fewer_fitted q (f ∷ fitted) h = omega (arith, h)

good_take : (K : Type 0) (n count : ℕ) (m : Option Misfit) (fitted : List Fitted) (ds : List (Option (TopDec Place))) → EachGood K count m fitted ds
    → ((q : ℕ) → q < n → q < length ds → IsBefore (suc (count + q)) m × (q < length fitted)) → AllGood K (take n ds)
good_take K zero count m fitted ds h k = tt
good_take K (suc n) count m fitted [] h k = tt
good_take K (suc n) count m fitted (d ∷ ds) h k =
    let first = k 0 (omega arith) (omega arith) in (
      h.0 (subst (λ q. IsBefore (suc q) m) (let e : count + 0 ≡ count = omega arith in e) first.0) first.1,
      good_take K n (suc count) m (drop 1 fitted) ds h.1
          (λ q a b. let x = k (suc q) (omega (arith, a)) (omega (arith, b)) in (subst (λ j. IsBefore (suc j) m) (let e : count + suc q ≡ suc count + q = omega arith in e) x.0, fewer_fitted q fitted x.1)),
    )

within_take : {A : Type 0} (n q : ℕ) (xs : List A) → q < n → q < length xs → q < length (take n xs)
within_take zero q xs h k = absurd (omega (arith, h))
within_take (suc n) q [] h k = absurd (omega (arith, k))
within_take (suc n) zero (x ∷ xs) h k = omega arith
within_take (suc n) (suc q) (x ∷ xs) h k = let l = within_take n q xs (omega (arith, h)) (omega (arith, k)) in omega (arith, l)

good_weaker : (K : Type 0) (count : ℕ) (m m' : Option Misfit) (fitted : List Fitted) (ds : List (Option (TopDec Place))) → ((k : ℕ) → count < k → IsBefore k m' → IsBefore k m) → EachGood K count m fitted ds
    → EachGood K count m' fitted ds
good_weaker K count m m' fitted [] f h = tt
good_weaker K count m m' fitted (d ∷ ds) f h =
    ((λ b l. h.0 (f (suc count) (omega arith) b) l), good_weaker K (suc count) m m' (drop 1 fitted) ds (λ k l. f k (omega (arith, l))) h.1)

low_good : (K : Type 0) (d : TopDec Place) (b : Bool) → TopLawful K d → IfSome (top_if_low d b) (TopLawful K)
low_good K d false h = tt
low_good K d true h = by_height (low (top_height d))
  where
    by_height : (b : Bool) → IfSome (if b then Some d else None) (TopLawful K)
    by_height true = h
    by_height false = tt

drop_next : {A : Type 0} (n : ℕ) (xs ys : List A) (x : A) → x ∷ ys ≡ drop n xs → ys ≡ drop (suc n) xs
drop_next zero [] ys x e = cc
drop_next zero (z ∷ xs) ys x e = cc
drop_next (suc n) [] ys x e = cc
drop_next (suc n) (z ∷ xs) ys x e = drop_next n xs ys x e

slice_take : {A : Type 0} (b j : ℕ) (xs : List A) (x : A) → slice_get (take b xs) j ≡ Some x → slice_get xs j ≡ Some x
slice_take zero j xs x e = cc
slice_take (suc b) j [] x e = cc
slice_take (suc b) zero (y ∷ xs) x e = e
slice_take (suc b) (suc j) (y ∷ xs) x e = slice_take b j xs x e

kinds_taken : (b : ℕ) (tokens : List Token) → kinds_of (take b tokens) ≡ take b (kinds_of tokens)
kinds_taken zero tokens = refl
kinds_taken (suc b) [] = refl
kinds_taken (suc b) (t ∷ tokens) = ap (λ ks. t.kind ∷ ks) (kinds_taken b tokens)

-- the misfit of a declaration's flaw
number_of : (text : ℕ → Id) (count n : ℕ) (nodes : List Node) (flaw : Option Flaw) (f : Misfit) → flaw_in count n nodes flaw ≡ Some f → f.number ≡ count
number_of text count n nodes None f e = cc
number_of text count n nodes (Some flaw) f e = cc

other_some : {f : Misfit} → None ≡ Some f → ⊥
other_some e = cc

flawed_within : (text : ℕ → Id) (nodes : List Node) (n count : ℕ) (toks : List Token) (fitted : List Fitted) (f : Misfit) → first_flawed text n count nodes toks fitted ≡ Some f
    → (count < f.number) × (f.number ≤ count + length fitted)
flawed_within text [] n count toks fitted f e = absurd (other_some e)
flawed_within text (Leaf ∷ nodes) n count [] fitted f e = absurd (other_some e)
flawed_within text (Leaf ∷ nodes) n count (t ∷ toks) fitted f e = flawed_within text nodes (suc n) count toks fitted f e
flawed_within text (Inner rule ∷ nodes) n count toks fitted f e =
    go fitted (begins_at rule) (flawed_within text nodes n (suc count) toks (drop 1 fitted) f) (flawed_within text nodes n count toks fitted f) e
  where
    own : List Node
    own = own_nodes (Inner rule ∷ nodes)

    by_flaw : (x : Fitted) (fitted : List Fitted) (flaw : Option Flaw) → (first_flawed text n (suc count) nodes toks fitted ≡ Some f → (suc count < f.number) × (f.number ≤ suc count + length fitted))
        → or_else (flaw_in (suc count) n own flaw) (first_flawed text n (suc count) nodes toks fitted) ≡ Some f → (count < f.number) × (f.number ≤ count + length (x ∷ fitted))
    by_flaw x fitted None more e = let m = more e in let a = m.0 in let b = m.1 in (omega (arith, a), omega (arith, b))
    by_flaw x fitted (Some flaw) more e = let m = number_of text (suc count) n own (Some flaw) f e in (omega (arith, m), omega (arith, m))

    go : (fitted : List Fitted) (b : Bool) → (first_flawed text n (suc count) nodes toks (drop 1 fitted) ≡ Some f → (suc count < f.number) × (f.number ≤ suc count + length (drop 1 fitted)))
        → (first_flawed text n count nodes toks fitted ≡ Some f → (count < f.number) × (f.number ≤ count + length fitted))
        → (if b then or_else (flaw_here text (suc count) n own fitted) (first_flawed text n (suc count) nodes toks (drop 1 fitted)) else first_flawed text n count nodes toks fitted) ≡ Some f
        → (count < f.number) × (f.number ≤ count + length fitted)
    go fitted false more same e = same e
    go [] true more same e = let m = more e in let a = m.0 in let b = m.1 in absurd (omega (arith, a, b))
    go (x ∷ fitted) true more same e = by_flaw x fitted (first_flaw (flaws text x.fits n own)) more e

as_many : (unit : List ℕ) (tokens : List Token) (nodes : List Node) (n : ℕ) (fitted : List Fitted) → length (bare_decs unit tokens n nodes fitted) ≡ declared nodes
as_many unit tokens [] n fitted = refl
as_many unit tokens (Leaf ∷ nodes) n fitted = as_many unit tokens nodes (suc n) fitted
as_many unit tokens (Inner rule ∷ nodes) n fitted = go (begins_at rule) (as_many unit tokens nodes n (drop 1 fitted)) (as_many unit tokens nodes n fitted)
  where
    go : (b : Bool) → length (bare_decs unit tokens n nodes (drop 1 fitted)) ≡ declared nodes → length (bare_decs unit tokens n nodes fitted) ≡ declared nodes
        → length (if b then bare_dec_at unit tokens n (before_first ends_at nodes) fitted ∷ bare_decs unit tokens n nodes (drop 1 fitted) else bare_decs unit tokens n nodes fitted) ≡ (if b then suc (declared nodes) else declared nodes)
    go true more same = ap suc more
    go false more same = same

module _ (unit : List ℕ) (tokens : List Token) (end : End) where
  -- what is known of a unit
  abbrev K : Type 0
  K = Spells unit tokens end

  text : ℕ → Id
  text = text_at unit tokens

  reads : (n b : ℕ) (toks : List Token) → toks ≡ drop n tokens → (j : ℕ) (t : Token) → slice_get (take b toks) j ≡ Some t → slice_get (drop n tokens) (0 + j) ≡ Some t
  reads n b toks same j t e = ap (slice_get (drop n tokens)) (let f : 0 + j ≡ j = omega arith in f) ∙ ap (λ xs. slice_get xs j) (sym same) ∙ slice_take b j toks t e

  module _ (n b : ℕ) (toks : List Token) (same : toks ≡ drop n tokens) (fits : List Fit) (nodes : List Node) (old : List Symbol) (next : Option Kind) (rest : Part) (outer : is_outer rest ≡ true)
      (p : Place) (rise : FitsRise 0 fits) (built : AreBuilt fits) (come : AllCome fits (events_of unit tokens nodes (starts_of n nodes))) where
    abbrev own : List Node
    own = before_first ends_at nodes

    own_come : AllCome fits (events_of unit tokens (own ++ after_first nodes) (starts_of n (own ++ after_first nodes)))
    own_come = subst (λ ns. AllCome fits (events_of unit tokens ns (starts_of n ns))) (sym (first_and_after nodes)) come

    own_leads : (q : Part) (more : List Symbol) → Leads nodes (Of q ∷ more) (kinds_of (take b toks)) next (Of rest ∷ []) → Leads (own ++ after_first nodes) (Of q ∷ more) (kinds_of (take b toks)) next (Of rest ∷ [])
    own_leads q more leads = subst (λ ns. Leads ns (Of q ∷ more) (kinds_of (take b toks)) next (Of rest ∷ [])) (sym (first_and_after nodes)) leads

    unit_good : (rule : UnitRule) → begins_at (G.Units rule) ≡ true → Leads nodes (right_side (G.Units rule) ++ old) (kinds_of (take b toks)) next (Of rest ∷ [])
        → flaws (text_at unit tokens) fits n (Inner (G.Units rule) ∷ own) ≡ [] → TopLawful K (declaration p (made unit tokens n fits own (take b toks) (reads n b toks same)))
    unit_good U.StartTop h leads clean =
        let goes = goes_of nodes (Of Top ∷ []) old AfterTop rest (kinds_of (take b toks)) next refl refl leads in (
          top_scoped unit tokens n fits own (take b toks) (reads n b toks same) clean goes p,
          top_well unit tokens n fits own (take b toks) (reads n b toks same) clean goes p,
          (λ spells. top_recursive unit tokens n fits own (take b toks) (reads n b toks same) rise built end spells (fewer b n toks tokens same) (Of AfterTop ∷ old) (after_first nodes) next rest outer own_come (kinds_of (take b toks)) (own_leads Top (Of AfterTop ∷ old) leads) clean goes p),
        )
    unit_good U.AfterTopTop h leads clean =
        let goes = goes_of nodes (Of Top ∷ []) old AfterTop rest (kinds_of (take b toks)) next refl refl leads in (
          next_scoped unit tokens n fits own (take b toks) (reads n b toks same) clean goes p,
          next_well unit tokens n fits own (take b toks) (reads n b toks same) clean goes p,
          (λ spells. next_recursive unit tokens n fits own (take b toks) (reads n b toks same) rise built end spells (fewer b n toks tokens same) (Of AfterTop ∷ old) (after_first nodes) next rest outer own_come (kinds_of (take b toks)) (own_leads Top (Of AfterTop ∷ old) leads) clean goes p),
        )
    unit_good U.StartExp h leads clean =
        let goes = goes_of nodes (Of Exp ∷ []) old AfterExp rest (kinds_of (take b toks)) next refl refl leads in (
          exp_scoped unit tokens n fits own (take b toks) (reads n b toks same) clean goes p,
          exp_well unit tokens n fits own (take b toks) (reads n b toks same) clean goes p,
          (λ spells. exp_recursive unit tokens n fits own (take b toks) (reads n b toks same) rise built end spells (fewer b n toks tokens same) (Of AfterExp ∷ old) (after_first nodes) next rest outer own_come (kinds_of (take b toks)) (own_leads Exp (Of AfterExp ∷ old) leads) clean goes p),
        )
    unit_good _ h leads clean = absurd (false≢true h)

    rule_good : (rule : Rule) → begins_at rule ≡ true → Leads nodes (right_side rule ++ old) (kinds_of (take b toks)) next (Of rest ∷ [])
        → flaws (text_at unit tokens) fits n (Inner rule ∷ own) ≡ [] → TopLawful K (declaration p (made unit tokens n fits own (take b toks) (reads n b toks same)))
    rule_good (G.Units rule) h leads clean = unit_good rule h leads clean
    rule_good (G.Names rule) h leads clean = absurd (false≢true h)
    rule_good (G.Structures rule) h leads clean = absurd (false≢true h)
    rule_good (G.Signatures rule) h leads clean = absurd (false≢true h)
    rule_good (G.Specifications rule) h leads clean = absurd (false≢true h)
    rule_good (G.Declarations rule) h leads clean = absurd (false≢true h)
    rule_good (G.Expressions rule) h leads clean = absurd (false≢true h)
    rule_good (G.Patterns rule) h leads clean = absurd (false≢true h)
    rule_good (G.Types rule) h leads clean = absurd (false≢true h)

  -- a declaration with this flaw or none, and those after it
  module _ (rule : Rule) (n count b : ℕ) (toks : List Token) (same : toks ≡ drop n tokens) (nodes : List Node) (old : List Symbol) (next : Option Kind) (rest : Part) (outer : is_outer rest ≡ true)
      (begin : begins_at rule ≡ true) (leads : Leads nodes (right_side rule ++ old) (kinds_of (take b toks)) next (Of rest ∷ [])) (later : Option Misfit) where
    here : (x : Fitted) (fitted : List Fitted) (flaw : Option Flaw) → FitsWell x × AllCome x.fits (events_of unit tokens nodes (starts_of n nodes)) → first_flaw (flaws (text_at unit tokens) x.fits n (Inner rule ∷ before_first ends_at nodes)) ≡ flaw
        → IsBefore (suc count) (or_else (flaw_in (suc count) n (own_nodes (Inner rule ∷ nodes)) flaw) later) → IfSome (bare_dec_at unit tokens n (before_first ends_at nodes) (x ∷ fitted)) (TopLawful K)
    here x fitted None well e h =
        let own = before_first ends_at nodes in
        let s : Source = record { unit = unit; tokens = drop n tokens; begun = n; fits = x.fits } in
        let p = place_at s.unit s.tokens 0 in
        low_good K (declaration p (first (phrases_of s own (starts_of 0 own)))) (are_low s own (starts_of 0 own))
        (rule_good n b toks same x.fits nodes old next rest outer p well.0.0 well.0.1 well.1 rule begin leads (none_or (flaws (text_at unit tokens) x.fits n (Inner rule ∷ own)) e))
    here x fitted (Some flaw) well e h = absurd (omega (arith, h))

    not_earlier : (flaw : Option Flaw) → (k : ℕ) → suc count < k → IsBefore k (or_else (flaw_in (suc count) n (own_nodes (Inner rule ∷ nodes)) flaw) later) → IsBefore k later
    not_earlier None k l h = h
    not_earlier (Some flaw) k l h = absurd (omega (arith, l, h))

    own_good : (fitted : List Fitted) (ds : List (Option (TopDec Place))) → Tells (begins n ∷ events_of unit tokens nodes (starts_of n nodes)) fitted → EachGood K (suc count) later (drop 1 fitted) ds
        → EachGood K count (or_else (flaw_here (text_at unit tokens) (suc count) n (own_nodes (Inner rule ∷ nodes)) fitted) later) fitted (bare_dec_at unit tokens n (before_first ends_at nodes) fitted ∷ ds)
    own_good [] ds well more = ((λ h l. absurd (omega (arith, l))), more)
    own_good (x ∷ fitted) ds well more =
        let flaw = first_flaw (flaws (text_at unit tokens) x.fits n (Inner rule ∷ before_first ends_at nodes)) in (
          (λ h l. here x fitted flaw well.0 refl h),
          good_weaker K (suc count) later (or_else (flaw_in (suc count) n (own_nodes (Inner rule ∷ nodes)) flaw) later) fitted ds (not_earlier flaw) more,
        )

  each_good : (nodes : List Node) (n count b : ℕ) (old : List Symbol) (toks : List Token) (next : Option Kind) (rest : Part) (fitted : List Fitted) → Tells (events_of unit tokens nodes (starts_of n nodes)) fitted → toks ≡ drop n tokens → is_outer rest ≡ true
      → Leads nodes old (kinds_of (take b toks)) next (Of rest ∷ []) → EachGood K count (first_flawed (text_at unit tokens) n count nodes toks fitted) fitted (bare_decs unit tokens n nodes fitted)
  each_good [] n count b old toks next rest fitted well same outer leads = tt
  each_good (Leaf ∷ nodes) n count b [] toks next rest fitted well same outer leads = absurd leads
  each_good (Leaf ∷ nodes) n count b (Of p ∷ old) toks next rest fitted well same outer leads = absurd leads
  each_good (Leaf ∷ nodes) n count zero (Word w ∷ old) toks next rest fitted well same outer leads = absurd leads
  each_good (Leaf ∷ nodes) n count (suc b) (Word w ∷ old) [] next rest fitted well same outer leads = absurd leads
  each_good (Leaf ∷ nodes) n count (suc b) (Word w ∷ old) (t ∷ toks) next rest fitted well same outer leads =
      each_good nodes (suc n) count b old toks next rest fitted (tells_scope (slice_get tokens n) (events_of unit tokens nodes (starts_of (suc n) nodes)) fitted well) (drop_next n tokens toks t same) outer leads.1
  each_good (Inner rule ∷ nodes) n count b [] toks next rest fitted well same outer leads = absurd leads
  each_good (Inner rule ∷ nodes) n count b (Word w ∷ old) toks next rest fitted well same outer leads = absurd leads
  each_good (Inner rule ∷ nodes) n count b (Of p ∷ old) toks next rest fitted well same outer leads =
      go (begins_at rule) refl
      (λ w. each_good nodes n (suc count) b (right_side rule ++ old) toks next rest (drop 1 fitted) w same outer leads.2)
      (λ w. each_good nodes n count b (right_side rule ++ old) toks next rest fitted w same outer leads.2)
    where
      later : Option Misfit
      later = first_flawed (text_at unit tokens) n (suc count) nodes toks (drop 1 fitted)

      events : List Event
      events = events_of unit tokens nodes (starts_of n nodes)

      found : Found
      found = found_at (text_at unit tokens) n rule (founds_of (text_at unit tokens) nodes (starts_of n nodes))

      told : begins_at rule ≡ true → Tells (begins n ∷ events) fitted
      told e = subst (λ d. Tells (cons_option (event_of d n found) events) fitted) (begins_deed rule e) well

      go : (c : Bool) → begins_at rule ≡ c → (Tells events (drop 1 fitted) → EachGood K (suc count) later (drop 1 fitted) (bare_decs unit tokens n nodes (drop 1 fitted)))
          → (Tells events fitted → EachGood K count (first_flawed (text_at unit tokens) n count nodes toks fitted) fitted (bare_decs unit tokens n nodes fitted))
          → EachGood K count (if c then or_else (flaw_here (text_at unit tokens) (suc count) n (own_nodes (Inner rule ∷ nodes)) fitted) later else first_flawed (text_at unit tokens) n count nodes toks fitted) fitted
          (if c then bare_dec_at unit tokens n (before_first ends_at nodes) fitted ∷ bare_decs unit tokens n nodes (drop 1 fitted) else bare_decs unit tokens n nodes fitted)
      go true e more others =
          own_good rule n count b toks same nodes old next rest outer e leads.2 later fitted (bare_decs unit tokens n nodes (drop 1 fitted)) (told e) (more (tells_drop n events fitted (told e)))
      go false e more others = others (tells_other (deed_of rule) n found events fitted (not_begun rule e) well)

  -- those before the last fault
  module _ (nodes : List Node) (fitted : List Fitted) (unfit : Option Misfit) (fit : AreFitted (text_at unit tokens) (events_of unit tokens nodes (starts_of 0 nodes)) fitted unfit)
      (each : EachGood K 0 (first_flawed (text_at unit tokens) 0 0 nodes tokens fitted) fitted (bare_decs unit tokens 0 nodes fitted)) where
    all : List (Option (TopDec Place))
    all = bare_decs unit tokens 0 nodes fitted

    known : (q : ℕ) → q < length (bare_decs unit tokens 0 nodes fitted) → q < length (declarations_in fit.outcomes)
    known q h =
        let a = as_many unit tokens nodes 0 fitted in
        let e = few_begun unit tokens nodes 0 in
        let d = few_declared (text_at unit tokens) Reach.start (events_of unit tokens nodes (starts_of 0 nodes)) fit.outcomes fit.happen in
        omega (arith, h, a, e, d)

    no_flaw : (u : Option Misfit) → unfit ≡ u → EachGood K 0 None fitted (bare_decs unit tokens 0 nodes fitted) → AllGood K (up_to (before_misfit u) (bare_decs unit tokens 0 nodes fitted))
    no_flaw None e good =
        subst (AllGood K) (take_all (length (bare_decs unit tokens 0 nodes fitted)) (bare_decs unit tokens 0 nodes fitted) (omega arith))
        (good_take K (length (bare_decs unit tokens 0 nodes fitted)) 0 None fitted (bare_decs unit tokens 0 nodes fitted) good
        (λ q a b. (tt, subst (λ f. q < length f) (sym (fit.are_fitted ∙ ap (λ u. up_to (before_misfit u) (declarations_in fit.outcomes)) e)) (known q b))))
    no_flaw (Some m) e good =
        good_take K (m.number - 1) 0 None fitted (bare_decs unit tokens 0 nodes fitted) good
        (λ q a b. (
          tt,
          subst (λ f. q < length f) (sym (fit.are_fitted ∙ ap (λ u. up_to (before_misfit u) (declarations_in fit.outcomes)) e)) (within_take (m.number - 1) q (declarations_in fit.outcomes) a (known q b)),
        ))

    by_flaw : (f : Option Misfit) → first_flawed (text_at unit tokens) 0 0 nodes tokens fitted ≡ f → AllGood K (up_to (before_misfit (or_else f unfit)) (bare_decs unit tokens 0 nodes fitted))
    by_flaw None e = no_flaw unfit refl (subst (λ m. EachGood K 0 m fitted (bare_decs unit tokens 0 nodes fitted)) e each)
    by_flaw (Some m) e =
        let within = flawed_within (text_at unit tokens) nodes 0 0 tokens fitted m e in
        let few = within.1 in
        good_take K (m.number - 1) 0 (Some m) fitted (bare_decs unit tokens 0 nodes fitted) (subst (λ m. EachGood K 0 m fitted (bare_decs unit tokens 0 nodes fitted)) e each)
        (λ q a b. (omega (arith, a), omega (arith, a, few)))

all_lawful : (unit : List ℕ) (tokens : List Token) (end : End) (tops : List (TopDec Place)) (decs : List (Piece.Dec Place)) (fault : Option (Fault Place)) → AreTrees unit tokens end tops decs fault
    → All (TopLawful (Spells unit tokens end)) tops
all_lawful unit tokens end tops decs fault trees =
    let whole = trees.reading.whole in
    let next = first_of (drop trees.begun (kinds_of tokens)) in
    let leads = subst (λ ks. Leads trees.nodes (Of Start ∷ []) ks next (Of whole.part ∷ [])) (sym (kinds_taken trees.begun tokens)) whole.leads in
    let events = events_of unit tokens trees.nodes (starts_of 0 trees.nodes) in
    let rise = events_rise unit tokens next whole.part whole.outer trees.nodes 0 (Of Start ∷ []) (kinds_of (take trees.begun tokens)) leads in
    let well = subst (Tells events) (sym trees.fits.are_fitted) (all_fit (text_at unit tokens) Reach.start events trees.fits.outcomes _ trees.unfit trees.fits.happen rise) in
    let each = each_good unit tokens end trees.nodes 0 0 trees.begun (Of Start ∷ []) tokens next whole.part trees.fitted well refl whole.outer leads in
    let good = by_flaw unit tokens end trees.nodes trees.fitted trees.unfit trees.fits each (first_flawed (text_at unit tokens) 0 0 trees.nodes tokens trees.fitted) refl in
    subst (All (TopLawful (Spells unit tokens end))) (sym trees.made)
    (none_before (Spells unit tokens end) _ (subst (λ m. AllGood (Spells unit tokens end) (up_to (before_misfit m) (bare_decs unit tokens 0 trees.nodes trees.fitted))) (sym trees.is_first) good))

pub scoped_once : VariablesAreScopedOnce
scoped_once unit tokens end tops decs fault trees = All-weaker (TopLawful (Spells unit tokens end)) TopScoped (λ d h. h.0) tops (all_lawful unit tokens end tops decs fault trees)

pub well_bound : TreesAreWellBound
well_bound unit tokens end tops decs fault trees = All-weaker (TopLawful (Spells unit tokens end)) TopBound (λ d h. h.1) tops (all_lawful unit tokens end tops decs fault trees)

pub recursive_names : RecursiveNamesMayBeBound
recursive_names unit tokens end tops decs fault spells trees = All-weaker (TopLawful (Spells unit tokens end)) TopRec (λ d h. h.2 spells) tops (all_lawful unit tokens end tops decs fault trees)
