-- Where the sequences of a declaration begin: node by node, those that begin at a node's first token or after it are of the
-- nodes from there on.
use Rattle.std.proofs.Common.{◌≡◌, ℕ, suc, ◌+◌, ◌≤◌, List, [], ◌∷◌, ◌++◌, Bool, true, false, Option, Some, None, refl, sym, ◌∙◌, inl, inr, ◌⊎◌, arith}
use Rattle.std.specs.Prelude.{slice_get, if◌then◌else◌}
use Rattle.std.specs.List.{cons_option}
use Rattle.std.specs.Option.{option_map}
use Rattle.sml_lex.specs.declared.token.Kind.{Kind}
use Rattle.sml_lex.specs.declared.token.Token.{Token}
use Rattle.sml_rules.specs.Every.{Every}
use Rattle.sml_rules.proofs.EveryItem.{every_more}
use Rattle.sml_read.specs.declared.grammar.Part.{Part}
use Rattle.sml_read.specs.declared.grammar.Symbol.{Symbol}
use Rattle.sml_read.specs.declared.grammar.Symbol.TheVariants.{Word, Of}
use Rattle.sml_read.specs.declared.grammar.Rule.{Rule}
use Rattle.sml_read.specs.declared.grammar.Node.{Node}
use Rattle.sml_read.specs.declared.grammar.Node.TheVariants.{Leaf, Inner}
use Rattle.sml_read.specs.Grammar.{right_side}
use Rattle.sml_read.specs.Parts.{part_of}
use Rattle.sml_read.specs.Spelling.{is_outer, Leads}
use Rattle.sml_read.specs.Extents.{starts_of}
use Rattle.sml_reach.specs.declared.sense.Deed.{Deed}
use Rattle.sml_reach.specs.declared.sense.Deed.TheVariants as Deeds
use Rattle.sml_reach.specs.Senses.{deed_of, opens, closes}
use Rattle.sml_reach.specs.Founds.{Atom, Found, nothing, word, one, several, within, directed, sequence_in}
use Rattle.sml_reach.specs.Events.{Event, begins, enters, leaves, directs, expression, pattern, head, are_itself, asked_of, text_at, found_at, founds_of, scope_event, event_of, events_of}
use Rattle.sml_reach.specs.Fits.{Fit}
use Rattle.sml_reach.specs.Reach.{token_of}
use Rattle.sml_bare.specs.Derivations.{before_sequence}
use Rattle.sml_tree_laws.proofs.SequenceTokens.{ahead, is_sequence, EventsRise, ahead_lower, quiet_before, own_token, before_next, events_rise}
use Rattle.sml_tree_laws.proofs.SequenceFits.{Comes, ComesFrom}

comes_later : (fit : Fit) (es : List Event) (lo : ℕ) → EventsRise lo es → ComesFrom fit es → lo ≤ fit.token
comes_later fit [] lo h c = absurd c
comes_later fit (expression atoms ∷ es) lo h (inl c) = let l = h.0 in omega (arith, l, c)
comes_later fit (expression atoms ∷ es) lo h (inr c) = let l = h.0 in let k = comes_later fit es (suc (token_of atoms 0)) h.1 c in omega (arith, l, k)
comes_later fit (pattern atoms ∷ es) lo h (inl c) = let l = h.0 in let e = c.0 in omega (arith, l, e)
comes_later fit (pattern atoms ∷ es) lo h (inr c) = let l = h.0 in let k = comes_later fit es (suc (token_of atoms 0)) h.1 c in omega (arith, l, k)
comes_later fit (head atoms ∷ es) lo h (inl c) = let l = h.0 in let e = c.0 in omega (arith, l, e)
comes_later fit (head atoms ∷ es) lo h (inr c) = let l = h.0 in let k = comes_later fit es (suc (token_of atoms 0)) h.1 c in omega (arith, l, k)
comes_later fit (begins token ∷ es) lo h (inl c) = absurd c
comes_later fit (begins token ∷ es) lo h (inr c) = comes_later fit es lo h c
comes_later fit (enters ∷ es) lo h (inl c) = absurd c
comes_later fit (enters ∷ es) lo h (inr c) = comes_later fit es lo h c
comes_later fit (leaves ∷ es) lo h (inl c) = absurd c
comes_later fit (leaves ∷ es) lo h (inr c) = comes_later fit es lo h c
comes_later fit (directs directive level atoms ∷ es) lo h (inl c) = absurd c
comes_later fit (directs directive level atoms ∷ es) lo h (inr c) = comes_later fit es lo h c

not_scope : (fit : Fit) (o : Option Token) (es : List Event) → ComesFrom fit (cons_option (scope_event o) es) → ComesFrom fit es
not_scope fit None es c = c
not_scope fit (Some token) es c = go (opens token.kind) (closes token.kind) c
  where
    go : (a b : Bool) → ComesFrom fit (cons_option (if a then Some enters else if b then Some leaves else None) es) → ComesFrom fit es
    go true b (inl c) = absurd c
    go true b (inr c) = c
    go false true (inl c) = absurd c
    go false true (inr c) = c
    go false false c = c

-- the event of a deed
abbrev pub deed_event : Deed → List Atom → Event
deed_event Deeds.Expression atoms = expression atoms
deed_event Deeds.Pattern atoms = pattern atoms
deed_event Deeds.Head atoms = head atoms
deed_event _ atoms = enters

abbrev pub Own : Deed → Found → Fit → Type 0
Own d f fit = (is_sequence d ≡ true) × (atoms : List Atom) × (sequence_in f ≡ Some atoms) × Comes fit (deed_event d atoms)

own_or_later : (fit : Fit) (d : Deed) (n : ℕ) (f : Found) (es : List Event) → ComesFrom fit (cons_option (event_of d n f) es) → Own d f fit ⊎ ComesFrom fit es
own_or_later fit Deeds.Nothing n f es c = inr c
own_or_later fit Deeds.Begins n f es (inl c) = absurd c
own_or_later fit Deeds.Begins n f es (inr c) = inr c
own_or_later fit (Deeds.Directs directive) n (directed level atoms) es (inl c) = absurd c
own_or_later fit (Deeds.Directs directive) n (directed level atoms) es (inr c) = inr c
own_or_later fit (Deeds.Directs directive) n nothing es c = inr c
own_or_later fit (Deeds.Directs directive) n (word k) es c = inr c
own_or_later fit (Deeds.Directs directive) n (one a) es c = inr c
own_or_later fit (Deeds.Directs directive) n (several others typed) es c = inr c
own_or_later fit (Deeds.Directs directive) n (within names) es c = inr c
own_or_later fit Deeds.Expression n f es c = go (sequence_in f) refl c
  where
    by_test : (b : Bool) (atoms : List Atom) → sequence_in f ≡ Some atoms → ComesFrom fit (cons_option (if b then None else Some (expression atoms)) es) → Own Deeds.Expression f fit ⊎ ComesFrom fit es
    by_test true atoms e c = inr c
    by_test false atoms e (inl c) = inl (refl, atoms, e, c)
    by_test false atoms e (inr c) = inr c

    go : (o : Option (List Atom)) → sequence_in f ≡ o → ComesFrom fit (cons_option (asked_of o) es) → Own Deeds.Expression f fit ⊎ ComesFrom fit es
    go None e c = inr c
    go (Some atoms) e c = by_test (are_itself atoms) atoms e c
own_or_later fit Deeds.Pattern n f es c = go (sequence_in f) refl c
  where
    go : (o : Option (List Atom)) → sequence_in f ≡ o → ComesFrom fit (cons_option (option_map pattern o) es) → Own Deeds.Pattern f fit ⊎ ComesFrom fit es
    go None e c = inr c
    go (Some atoms) e (inl c) = inl (refl, atoms, e, c)
    go (Some atoms) e (inr c) = inr c
own_or_later fit Deeds.Head n f es c = go (sequence_in f) refl c
  where
    go : (o : Option (List Atom)) → sequence_in f ≡ o → ComesFrom fit (cons_option (option_map head o) es) → Own Deeds.Head f fit ⊎ ComesFrom fit es
    go None e c = inr c
    go (Some atoms) e (inl c) = inl (refl, atoms, e, c)
    go (Some atoms) e (inr c) = inr c

event_token : (fit : Fit) (d : Deed) (atoms : List Atom) → is_sequence d ≡ true → Comes fit (deed_event d atoms) → fit.token ≡ token_of atoms 0
event_token fit Deeds.Expression atoms h c = c
event_token fit Deeds.Pattern atoms h c = c.0
event_token fit Deeds.Head atoms h c = c.0
event_token fit Deeds.Nothing atoms h c = absurd c
event_token fit Deeds.Begins atoms h c = absurd c
event_token fit (Deeds.Directs directive) atoms h c = absurd c

module _ (unit : List ℕ) (tokens : List Token) (next : Option Kind) (rest : Part) (outer : is_outer rest ≡ true) (fits : List Fit) where
  -- a sequence that begins where the next may, or after that, comes from the nodes
  abbrev pub Coming : ℕ → List Symbol → List Node → Type 0
  Coming n ss nodes = Every (λ fit. n + ahead ss ≤ fit.token → ComesFrom fit (events_of unit tokens nodes (starts_of n nodes))) fits

  pub coming_leaf : (n : ℕ) (w : Kind) (ss : List Symbol) (nodes : List Node) → Coming n (Word w ∷ ss) (Leaf ∷ nodes) → Coming (suc n) ss nodes
  coming_leaf n w ss nodes h =
      every_more (λ fit. n + suc (ahead ss) ≤ fit.token → ComesFrom fit (events_of unit tokens (Leaf ∷ nodes) (starts_of n (Leaf ∷ nodes)))) (λ fit. suc n + ahead ss ≤ fit.token → ComesFrom fit (events_of unit tokens nodes (starts_of (suc n) nodes)))
      (λ fit k l. not_scope fit (slice_get tokens n) (events_of unit tokens nodes (starts_of (suc n) nodes)) (k (omega (arith, l)))) fits h

  module _ (r : Rule) (p : Part) (n : ℕ) (ss : List Symbol) (nodes : List Node) (kinds : List Kind) (same : part_of r ≡ p) (leads : Leads nodes (right_side r ++ ss) kinds next (Of rest ∷ [])) (coming : Coming n (Of p ∷ ss) (Inner r ∷ nodes)) where
    abbrev pub found : Found
    found = found_at (text_at unit tokens) n r (founds_of (text_at unit tokens) nodes (starts_of n nodes))

    own_at : (fit : Fit) → Own (deed_of r) found fit → fit.token ≡ n + before_sequence r
    own_at fit o = let e = event_token fit (deed_of r) o.1 o.0 o.3 in let t = own_token unit tokens next rest outer nodes n r ss kinds leads o.0 o.1 o.2 in omega (arith, e, t)

    pub coming_inner : Coming n (right_side r ++ ss) nodes
    coming_inner =
        every_more (λ fit. n + ahead (Of p ∷ ss) ≤ fit.token → ComesFrom fit (events_of unit tokens (Inner r ∷ nodes) (starts_of n (Inner r ∷ nodes)))) (λ fit. n + ahead (right_side r ++ ss) ≤ fit.token → ComesFrom fit (events_of unit tokens nodes (starts_of n nodes)))
        (λ fit k l. let a = ahead_lower r p ss same in go fit l (own_or_later fit (deed_of r) n found (events_of unit tokens nodes (starts_of n nodes)) (k (omega (arith, l, a))))) fits coming
      where
        go : (fit : Fit) → n + ahead (right_side r ++ ss) ≤ fit.token → Own (deed_of r) found fit ⊎ ComesFrom fit (events_of unit tokens nodes (starts_of n nodes)) → ComesFrom fit (events_of unit tokens nodes (starts_of n nodes))
        go fit l (inl o) = let t = own_at fit o in let b = before_next r ss o.0 in absurd (omega (arith, l, t, b))
        go fit l (inr c) = c

    -- what begins where this node's sequence does is its own
    pub own_only : is_sequence (deed_of r) ≡ true → Every (λ fit. fit.token ≡ n + before_sequence r → Own (deed_of r) found fit) fits
    own_only d =
        every_more (λ fit. n + ahead (Of p ∷ ss) ≤ fit.token → ComesFrom fit (events_of unit tokens (Inner r ∷ nodes) (starts_of n (Inner r ∷ nodes)))) (λ fit. fit.token ≡ n + before_sequence r → Own (deed_of r) found fit)
        (λ fit k e. let q = quiet_before r p ss same d in go fit e (own_or_later fit (deed_of r) n found (events_of unit tokens nodes (starts_of n nodes)) (k (omega (arith, e, q))))) fits coming
      where
        go : (fit : Fit) → fit.token ≡ n + before_sequence r → Own (deed_of r) found fit ⊎ ComesFrom fit (events_of unit tokens nodes (starts_of n nodes)) → Own (deed_of r) found fit
        go fit e (inl o) = o
        go fit e (inr c) =
            let l = comes_later fit (events_of unit tokens nodes (starts_of n nodes)) (n + ahead (right_side r ++ ss)) (events_rise unit tokens next rest outer nodes n (right_side r ++ ss) kinds leads) c in
            let b = before_next r ss d in
            absurd (omega (arith, e, l, b))

    -- where it is none, none begins there
    pub none_only : is_sequence (deed_of r) ≡ true → sequence_in found ≡ None → Every (λ fit. fit.token ≡ n + before_sequence r → ⊥) fits
    none_only d e = every_more (λ fit. fit.token ≡ n + before_sequence r → Own (deed_of r) found fit) (λ fit. fit.token ≡ n + before_sequence r → ⊥) (λ fit k t. no (sym e ∙ (k t).2)) fits (own_only d)
      where
        no : {xs : List Atom} → None ≡ Some xs → ⊥
        no e = cc
