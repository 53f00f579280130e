-- Each fault of fixity stands in its declaration.
use Rattle.std.proofs.Common.{◌≡◌, ℕ, suc, ◌+◌, ◌-◌, ◌<◌, ◌≤◌, List, [], ◌∷◌, ◌++◌, Bool, true, false, Option, Some, None, append-nil, refl, sym, ap, ◌∙◌, subst, arith, IfSome}
use Rattle.std.specs.Prelude.{not, ◌&&◌, if◌then◌else◌, slice_get, ◌==◌}
use Rattle.std.specs.List.{cons_option}
use Rattle.std.proofs.lemmas.Bool.{and_parts, and_from, false≢true}
use Rattle.sml_lex.specs.declared.token.Kind.{Kind}
use Rattle.sml_lex.specs.declared.token.Token.{Token}
use Rattle.sml_tree.specs.Trees.{Id}
use Rattle.sml_read.specs.declared.grammar.Part.{Part}
use Rattle.sml_read.specs.declared.grammar.Part.TheVariants.{Start}
use Rattle.sml_read.specs.declared.grammar.Symbol.{Symbol}
use Rattle.sml_read.specs.declared.grammar.Symbol.TheVariants.{Word, Of}
use Rattle.sml_read.specs.declared.grammar.Rule.{Rule}
use Rattle.sml_read.specs.declared.grammar.Node.{Node}
use Rattle.sml_read.specs.declared.grammar.Node.TheVariants.{Leaf, Inner}
use Rattle.sml_read.specs.Grammar.{right_side}
use Rattle.sml_read.specs.Parts.{part_of}
use Rattle.sml_read.specs.Spelling.{all_empty, is_outer, Leads}
use Rattle.sml_read.specs.Extents.{starts_of}
use Rattle.sml_read.proofs.Tables.{each_rule, implies, implied}
use Rattle.sml_reach.specs.declared.sense.Deed.{Deed}
use Rattle.sml_reach.specs.declared.sense.Deed.TheVariants as D
use Rattle.sml_reach.specs.declared.reach.Misfit.{Misfit}
use Rattle.sml_reach.specs.Senses.{deed_of, opens, closes}
use Rattle.sml_reach.specs.Founds.{Found}
use Rattle.sml_reach.specs.Events.{Event, enters, leaves, text_at, found_at, founds_of, scope_event, event_of, events_of}
use Rattle.sml_reach.specs.Fits.{Fitted}
use Rattle.sml_reach.specs.Reach.{State, Outcome, start, Outcomes, misfit_in, misfits_in, misfit_precedes, earlier_misfit, first_misfit_in, first_misfit, AreFitted}
use Rattle.sml_parse.specs.Within.{Extent, of_phrases, reason_of, ends_before, is_part_first, begins_next, tokens_before, extents_of}
use Rattle.sml_parse.proofs.Nonempty.{all_inner, inner_so, not_both, when_not, some_token}
use Rattle.sml_parse.proofs.FoundsWithin.{IsIn, is_idle, phrase_in, founds_in}
use Rattle.sml_parse.proofs.EventsWithin.{EventIn, is_beginning, event_in, IsOwn, happens_in}

-- the table

-- whether a part of a declaration stands first among the parts
abbrev goes_in : List Symbol → Bool
goes_in [] = false
goes_in (Word k ∷ ss) = goes_in ss
goes_in (Of p ∷ ss) = not (is_outer p)

abbrev is_none : List Symbol → Bool
is_none [] = true
is_none (s ∷ ss) = false

-- what is left of a unit stands last
abbrev is_tidy : List Symbol → Bool
is_tidy [] = true
is_tidy (Word k ∷ ss) = is_tidy ss
is_tidy (Of p ∷ ss) = if is_outer p then is_none ss else is_tidy ss

outer_tidy : (r : Rule) → is_outer (part_of r) ≡ true → is_tidy (right_side r) ≡ true
outer_tidy r = implied _ _ (each_rule (λ r. implies (ends_before r) (is_tidy (right_side r))) refl r)

-- a declaration begins where an extent does
next_begins : (r : Rule) → begins_next r ≡ true → is_beginning (deed_of r) ≡ true
next_begins r = implied _ _ (each_rule (λ r. implies (begins_next r) (is_beginning (deed_of r))) refl r)

beginning_outer : (r : Rule) → is_beginning (deed_of r) ≡ true → is_outer (part_of r) ≡ true
beginning_outer r = implied _ _ (each_rule (λ r. implies (is_beginning (deed_of r)) (ends_before r)) refl r)

-- elsewhere what is left of a unit does nothing, and no declaration is after it
abbrev is_rest : Rule → Bool
is_rest r = not (goes_in (right_side r)) && is_idle (deed_of r)

outer_rest : (r : Rule) → is_outer (part_of r) ≡ true → begins_next r ≡ false → is_rest r ≡ true
outer_rest r q e = implied (ends_before r && not (begins_next r)) (is_rest r) (each_rule (λ r. implies (ends_before r && not (begins_next r)) (is_rest r)) refl r) (and_from _ _ q (ap not e))

inner_begins : (r : Rule) → not (is_outer (part_of r)) ≡ true → is_beginning (deed_of r) ≡ false
inner_begins r q = by_test (is_beginning (deed_of r)) refl
  where
    by_test : (b : Bool) → is_beginning (deed_of r) ≡ b → b ≡ false
    by_test true e = absurd (not_both (is_outer (part_of r)) q (beginning_outer r e))
    by_test false e = refl

inner_next : (r : Rule) → not (is_outer (part_of r)) ≡ true → begins_next r ≡ false
inner_next r q = ap (λ b. b && is_part_first (right_side r)) (when_not (ends_before r) q)

tidy_append : (a b : List Symbol) → all_inner a ≡ true → is_tidy b ≡ true → is_tidy (a ++ b) ≡ true
tidy_append [] b i t = t
tidy_append (Word k ∷ a) b i t = tidy_append a b i t
tidy_append (Of p ∷ a) b i t =
    let both = and_parts _ _ i in
    subst (λ (c : Bool). (if c then is_none (a ++ b) else is_tidy (a ++ b)) ≡ true) (sym (when_not (is_outer p) both.0)) (tidy_append a b both.1 t)

tidy_rest : (p : Part) (ss : List Symbol) → not (is_outer p) ≡ true → is_tidy (Of p ∷ ss) ≡ true → is_tidy ss ≡ true
tidy_rest p ss q t = subst (λ (c : Bool). (if c then is_none ss else is_tidy ss) ≡ true) (when_not (is_outer p) q) t

none_so : (ss : List Symbol) → is_none ss ≡ true → ss ≡ []
none_so [] t = refl
none_so (s ∷ ss) t = absurd (false≢true t)

outer_last : (p : Part) (ss : List Symbol) → is_outer p ≡ true → is_tidy (Of p ∷ ss) ≡ true → ss ≡ []
outer_last p ss q t = none_so ss (subst (λ (c : Bool). (if c then is_none ss else is_tidy ss) ≡ true) q t)

-- a fault of fixity in the extent of its declaration
abbrev pub IsPlaced : List Extent → Misfit → Type 0
IsPlaced extents m = (extent : Extent) × (slice_get extents (m.number - 1) ≡ Some extent) × (0 < m.number) × (m.begun ≡ extent.first) × IsIn extent.first extent.after m.token × (reason_of m.code ≡ of_phrases)

abbrev AllPlaced : List Extent → List Misfit → Type 0
AllPlaced extents [] = Unit {0}
AllPlaced extents (m ∷ ms) = IsPlaced extents m × AllPlaced extents ms

-- no fault stands where there is no token
none_here : (extents : List Extent) (s : State) (n : ℕ) (m : Misfit) → IsOwn s n n m → IsPlaced extents m
none_here extents s n m own = let a = own.0.0 in let b = own.0.1 in absurd (omega (arith, a, b))

module _ (unit : List ℕ) (tokens : List Token) (extents : List Extent) where
  abbrev text : ℕ → Id
  text = text_at unit tokens

  -- each fault among outcomes is placed
  abbrev EachPlaced : List Outcome → Type 0
  EachPlaced all = AllPlaced extents (misfits_in all)

  put : (s : State) (n e : ℕ) (m : Option Misfit) (more : List Misfit) → IfSome m (IsOwn s n e) → ((m : Misfit) → IsOwn s n e m → IsPlaced extents m) → AllPlaced extents more → AllPlaced extents (cons_option m more)
  put s n e None more own f h = h
  put s n e (Some m) more own f h = (f m own, h)

  -- one event
  step : (s : State) (n e : ℕ) (o : Option Event) (events : List Event) (all : List Outcome) → IfSome o (EventIn n e) → Outcomes text s (cons_option o events) all
      → (t : State) × (more : List Outcome) × Outcomes text t events more × (t.count ≡ s.count) × (t.begun ≡ s.begun) × (((m : Misfit) → IsOwn s n e m → IsPlaced extents m) → EachPlaced more → EachPlaced all)
  step s n e None events all i h = (s, all, h, refl, refl, λ f k. k)
  step s n e (Some event) events all i h =
      let x = happens_in text s h.1 n e event h.0 i h.3 in
      (h.1, h.2, h.4, x.1, x.2, λ f k. subst EachPlaced (sym h.5) (put s n e (misfit_in h.0) (misfits_in h.2) x.0 f k))

  scope_in : (n : ℕ) (token : Option Token) → IfSome (scope_event token) (EventIn n n)
  scope_in n None = tt
  scope_in n (Some token) = by_tests (opens token.kind) (closes token.kind)
    where
      by_tests : (a b : Bool) → IfSome (if a then Some enters else if b then Some leaves else None) (EventIn n n)
      by_tests true b = tt
      by_tests false true = tt
      by_tests false false = tt

  idle : (s : State) (deed : Deed) (n : ℕ) (f : Found) (events : List Event) (all : List Outcome) → is_idle deed ≡ true → Outcomes text s (cons_option (event_of deed n f) events) all → Outcomes text s events all
  idle s D.Nothing n f events all i h = h
  idle s D.Begins n f events all i h = absurd (false≢true i)
  idle s (D.Directs directive) n f events all i h = absurd (false≢true i)
  idle s D.Expression n f events all i h = absurd (false≢true i)
  idle s D.Pattern n f events all i h = absurd (false≢true i)
  idle s D.Head n f events all i h = absurd (false≢true i)

  -- the state where a declaration has begun
  abbrev begun : State → ℕ → State
  begun s n = record { here = s.here; outer = s.outer; count = suc s.count; begun = n }

  beginning : (s : State) (deed : Deed) (n : ℕ) (f : Found) (events : List Event) (all : List Outcome) → is_beginning deed ≡ true → Outcomes text s (cons_option (event_of deed n f) events) all → (more : List Outcome) × Outcomes text (begun s n) events more × (misfits_in all ≡ misfits_in more)
  beginning s D.Begins n f events all i h = (h.2, subst (λ (t : State). Outcomes text t events h.2) h.3.1 h.4, ap misfits_in (h.5 ∙ ap (λ (o : Outcome). o ∷ h.2) h.3.0))
  beginning s D.Nothing n f events all i h = absurd (false≢true i)
  beginning s (D.Directs directive) n f events all i h = absurd (false≢true i)
  beginning s D.Expression n f events all i h = absurd (false≢true i)
  beginning s D.Pattern n f events all i h = absurd (false≢true i)
  beginning s D.Head n f events all i h = absurd (false≢true i)

  -- these nodes are of the declaration that began last, up to its end
  abbrev IsOpen : State → ℕ → ℕ → Type 0
  IsOpen s n size = (extent : Extent) × (slice_get extents (s.count - 1) ≡ Some extent) × (0 < s.count) × (s.begun ≡ extent.first) × (extent.first ≤ n) × (n + size ≤ extent.after)

  open_on : (s t : State) (n m size rest : ℕ) → n ≤ m → m + rest ≤ n + size → t.count ≡ s.count → t.begun ≡ s.begun → IsOpen s n size → IsOpen t m rest
  open_on s t n m size rest l k c b x =
      let f = x.4 in
      let e = x.5 in
      let p = x.2 in
      (x.0, ap (λ c. slice_get extents (c - 1)) c ∙ x.1, omega (arith, c, p), b ∙ x.3, omega (arith, l, f), omega (arith, k, e))

  own_placed : (s : State) (n size : ℕ) → IsOpen s n size → (m : Misfit) → IsOwn s n (n + size) m → IsPlaced extents m
  own_placed s n size x m own =
      let f = x.4 in
      let e = x.5 in
      let p = x.2 in
      let c = own.1 in
      let low = own.0.0 in
      let high = own.0.1 in
      (x.0, ap (λ c. slice_get extents (c - 1)) c ∙ x.1, omega (arith, c, p), own.2 ∙ x.3, (omega (arith, f, low), omega (arith, high, e)), own.3)

  -- these extents are left
  abbrev AreLeft : State → List Extent → Type 0
  AreLeft s left = (i : ℕ) → slice_get extents (s.count + i) ≡ slice_get left i

  still_left : (s t : State) (left : List Extent) → t.count ≡ s.count → AreLeft s left → AreLeft t left
  still_left s t left c f i = ap (λ c. slice_get extents (c + i)) c ∙ f i

  fewer_left : (s : State) (n : ℕ) (extent : Extent) (left : List Extent) → AreLeft s (extent ∷ left) → AreLeft (begun s n) left
  fewer_left s n extent left f i = ap (slice_get extents) (omega arith) ∙ f (suc i)

  next_open : (s : State) (n size : ℕ) (left : List Extent) → AreLeft s (record { first = n; after = n + size } ∷ left) → IsOpen (begun s n) n size
  next_open s n size left f = (record { first = n; after = n + size }, ap (slice_get extents) (omega arith) ∙ f 0, omega arith, refl, omega arith, omega arith)

  -- the all from these nodes on are in their extents, whatever the state
  abbrev GoesOn : List Node → List Symbol → ℕ → Type 0
  GoesOn nodes old n =
      (s : State) (all : List Outcome) → is_tidy old ≡ true → (goes_in old ≡ true → IsOpen s n (tokens_before nodes)) → AreLeft s (extents_of n nodes)
      → Outcomes text s (events_of unit tokens nodes (starts_of n nodes)) all → EachPlaced all

  module _ (r : Rule) (nodes : List Node) (old : List Symbol) (n : ℕ) (more : GoesOn nodes (right_side r ++ old) n) where
    abbrev found : Found
    found = found_at text n r (founds_of text nodes (starts_of n nodes))

    abbrev next_events : List Event
    next_events = events_of unit tokens nodes (starts_of n nodes)

    abbrev lefts : Bool → List Extent
    lefts b = if b then record { first = n; after = n + tokens_before nodes } ∷ extents_of n nodes else extents_of n nodes

    -- a phrase of a declaration
    inside : (kinds : List Kind) (next : Option Kind) (rest : Part) → is_outer rest ≡ true → Leads nodes (right_side r ++ old) kinds next (Of rest ∷ []) → (s : State) (all : List Outcome) → not (is_outer (part_of r)) ≡ true → is_tidy old ≡ true
        → IsOpen s n (if ends_before r then 0 else tokens_before nodes) → AreLeft s (lefts (begins_next r)) → Outcomes text s (cons_option (event_of (deed_of r) n found) next_events) all → EachPlaced all
    inside kinds next rest o l s all q t g f h =
        let e = n + tokens_before nodes in
        let i = inner_so r q in
        let here : IsOpen s n (tokens_before nodes) = subst (λ (b : Bool). IsOpen s n (if b then 0 else tokens_before nodes)) (when_not (ends_before r) q) g in
        let has : not (all_empty (right_side r)) ≡ true → n < e = λ c. let k = some_token nodes (right_side r) old kinds next rest i (not_both (all_empty (right_side r)) c) o l in omega (arith, k) in
        let own = event_in text n e r _ (inner_begins r q) (phrase_in text n e r _ (founds_in text nodes (right_side r) old n kinds next rest i o l) has) in
        let x = step s n e (event_of (deed_of r) n found) next_events all own h in
        x.5 (own_placed s n (tokens_before nodes) here)
        (more x.0 x.1 (tidy_append (right_side r) old i t) (λ _. open_on s x.0 n n (tokens_before nodes) (tokens_before nodes) (omega arith) (omega arith) x.3 x.4 here) (still_left s x.0 _ x.3 (subst (λ b. AreLeft s (lefts b)) (inner_next r q) f)) x.2)

    -- what is left of a unit
    outside : (s : State) (all : List Outcome) → is_outer (part_of r) ≡ true → old ≡ [] → AreLeft s (lefts (begins_next r)) → Outcomes text s (cons_option (event_of (deed_of r) n found) next_events) all → EachPlaced all
    outside s all q none f h = by_next (begins_next r) refl
      where
        last : right_side r ++ old ≡ right_side r
        last = ap (λ ss. right_side r ++ ss) none ∙ append-nil (right_side r)

        tidy : is_tidy (right_side r ++ old) ≡ true
        tidy = ap is_tidy last ∙ outer_tidy r q

        by_next : (b : Bool) → begins_next r ≡ b → EachPlaced all
        by_next true e =
            let left = subst (λ b. AreLeft s (lefts b)) e f in
            let x = beginning s (deed_of r) n found next_events all (next_begins r e) h in
            subst (AllPlaced extents) (sym x.2) (more (begun s n) x.0 tidy (λ _. next_open s n (tokens_before nodes) (extents_of n nodes) left) (fewer_left s n (record { first = n; after = n + tokens_before nodes }) (extents_of n nodes) left) x.1)
        by_next false e =
            let both = and_parts _ _ (outer_rest r q e) in
            more s all tidy (λ k. absurd (not_both (goes_in (right_side r)) both.0 (sym (ap goes_in last) ∙ k))) (subst (λ b. AreLeft s (lefts b)) e f) (idle s (deed_of r) n found next_events all both.1 h)

  walk : (nodes : List Node) (old : List Symbol) (n : ℕ) (kinds : List Kind) (next : Option Kind) (rest : Part) → is_outer rest ≡ true → Leads nodes old kinds next (Of rest ∷ []) → GoesOn nodes old n
  walk [] old n kinds next rest o l s all t g f h = subst EachPlaced (sym h) tt
  walk (Leaf ∷ nodes) [] n kinds next rest o l s all t g f h = absurd l
  walk (Leaf ∷ nodes) (Word k ∷ old) n [] next rest o l s all t g f h = absurd l
  walk (Leaf ∷ nodes) (Of p ∷ old) n kinds next rest o l s all t g f h = absurd l
  walk (Leaf ∷ nodes) (Word k ∷ old) n (kind ∷ kinds) next rest o l s all t g f h =
      let x = step s n n (scope_event (slice_get tokens n)) (events_of unit tokens nodes (starts_of (suc n) nodes)) all (scope_in n (slice_get tokens n)) h in
      x.5 (none_here extents s n) (walk nodes old (suc n) kinds next rest o l.1 x.0 x.1 t (λ q. open_on s x.0 n (suc n) (suc (tokens_before nodes)) (tokens_before nodes) (omega arith) (omega arith) x.3 x.4 (g q)) (still_left s x.0 _ x.3 f) x.2)
  walk (Inner r ∷ nodes) [] n kinds next rest o l s all t g f h = absurd l
  walk (Inner r ∷ nodes) (Word k ∷ old) n kinds next rest o l s all t g f h = absurd l
  walk (Inner r ∷ nodes) (Of p ∷ old) n kinds next rest o l s all t g f h = by_part (walk nodes (right_side r ++ old) n kinds next rest o l.2) (is_outer p) refl
    where
      same : is_outer (part_of r) ≡ is_outer p
      same = ap is_outer l.0

      by_part : GoesOn nodes (right_side r ++ old) n → (b : Bool) → is_outer p ≡ b → EachPlaced all
      by_part more true q = outside r nodes old n more s all (same ∙ q) (outer_last p old q t) f h
      by_part more false q = inside r nodes old n more kinds next rest o l.2 s all (ap not (same ∙ q)) (tidy_rest p old (ap not q) t) (g (ap not q)) f h

-- the first of them

earlier_placed : (extents : List Extent) (m : Misfit) (first : Option Misfit) → IsPlaced extents m → IfSome first (IsPlaced extents) → IsPlaced extents (earlier_misfit m first)
earlier_placed extents m None a b = a
earlier_placed extents m (Some other) a b = by_test (misfit_precedes m other)
  where
    by_test : (c : Bool) → IsPlaced extents (if c then m else other)
    by_test true = a
    by_test false = b

first_misfit_in_placed : (extents : List Extent) (number : ℕ) (faults : List Misfit) → AllPlaced extents faults → IfSome (first_misfit_in number faults) (IsPlaced extents)
first_misfit_in_placed extents number [] h = tt
first_misfit_in_placed extents number (m ∷ ms) h = by_test (first_misfit_in_placed extents number ms h.1) (m.number == number)
  where
    by_test : IfSome (first_misfit_in number ms) (IsPlaced extents) → (c : Bool) → IfSome (if c then Some (earlier_misfit m (first_misfit_in number ms)) else first_misfit_in number ms) (IsPlaced extents)
    by_test k true = earlier_placed extents m (first_misfit_in number ms) h.0 k
    by_test k false = k

first_placed : (extents : List Extent) (faults : List Misfit) → AllPlaced extents faults → IfSome (first_misfit faults) (IsPlaced extents)
first_placed extents [] h = tt
first_placed extents (m ∷ ms) h = first_misfit_in_placed extents m.number (m ∷ ms) h

pub misfit_placed : (unit : List ℕ) (tokens : List Token) (nodes : List Node) (kinds : List Kind) (next : Option Kind) (rest : Part) (fitted : List Fitted) (first : Option Misfit) → is_outer rest ≡ true → Leads nodes (Of Start ∷ []) kinds next (Of rest ∷ [])
    → AreFitted (text_at unit tokens) (events_of unit tokens nodes (starts_of 0 nodes)) fitted first → IfSome first (IsPlaced (extents_of 0 nodes))
misfit_placed unit tokens nodes kinds next rest fitted first o l x =
    let extents = extents_of 0 nodes in
    let all = walk unit tokens extents nodes (Of Start ∷ []) 0 kinds next rest o l start x.outcomes refl (λ e. absurd (false≢true e)) (λ i. ap (slice_get extents) (omega arith)) x.happen in
    subst (λ (m : Option Misfit). IfSome m (IsPlaced extents)) (sym x.is_first) (first_placed extents (misfits_in x.outcomes) all)
