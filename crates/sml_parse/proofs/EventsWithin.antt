-- The tokens that faults of fixity name stand in the declaration that is at hand.
use Rattle.std.proofs.Common.{◌≡◌, ℕ, zero, suc, ◌+◌, ◌<◌, List, [], ◌∷◌, ◌++◌, Bool, true, false, Option, Some, None, length, refl, sym, ap, ◌∙◌, subst, arith, inl, IfSome, if◌then◌else◌}
use Rattle.std.proofs.lemmas.Bool.{false≢true}
use Rattle.std.proofs.lemmas.List.{length-map, length-append}
use Rattle.sml_lex.specs.declared.fault.Code.{Code}
use Rattle.sml_lex.specs.declared.fault.Code.TheVariants as C
use Rattle.sml_tree.specs.Trees.{Id}
use Rattle.sml_fixity.specs.declared.sequences.Item.{Item}
use Rattle.sml_fixity.specs.declared.sequences.FixFault.{FixFault}
use Rattle.sml_fixity.specs.declared.sequences.FixFault.TheVariants.{NoOperand, MixedSides, Malformed, Memory}
use Rattle.sml_fixity.specs.declared.scopes.Directive.{Directive}
use Rattle.sml_fixity.specs.declared.scopes.Directive.TheVariants as R
use Rattle.sml_fixity.specs.declared.scopes.Fixity.{Fixity}
use Rattle.sml_fixity.specs.declared.scopes.Side.TheVariants.{Left, Right}
use Rattle.sml_fixity.specs.Scopes.{Map, Gives, fixity_of}
use Rattle.sml_fixity.specs.Infix.{StrayAt, MixedAt, FaultStands}
use Rattle.sml_fixity.specs.Patterns.{PatternFaultStands}
use Rattle.sml_fixity.specs.Sequences.{roles_from, roles_of}
use Rattle.sml_read.specs.declared.grammar.Rule.{Rule}
use Rattle.sml_read.proofs.Tables.{each_rule, implies, implied}
use Rattle.sml_reach.specs.declared.sense.Sense.{Sense}
use Rattle.sml_reach.specs.declared.sense.Sense.TheVariants as S
use Rattle.sml_reach.specs.declared.sense.Deed.{Deed}
use Rattle.sml_reach.specs.declared.sense.Deed.TheVariants as D
use Rattle.sml_reach.specs.declared.reach.Misfit.{Misfit}
use Rattle.sml_reach.specs.Senses.{sense_of, deed_of}
use Rattle.sml_reach.specs.Founds.{Atom, Found, nothing, word, one, several, within, directed, from, found_by}
use Rattle.sml_fixity.specs.ItemNames.{name_of}
use Rattle.sml_reach.specs.Events.{Event, begins, enters, leaves, directs, expression, pattern, head, are_itself, found_at, event_of}
use Rattle.sml_reach.specs.Reach.{State, Outcome, declares, idle, stands, fails, misfit, token_of, AreItems, misfit_of, misfit_in, IsExpression, IsPattern, IsClauseHead, Happens}
use Rattle.sml_parse.specs.Within.{of_phrases, reason_of}
use Rattle.sml_parse.proofs.FoundsWithin.{IsIn, AtomsIn, LevelIn, FoundIn}

-- events

-- of a phrase, where no declaration begins
abbrev pub EventIn : ℕ → ℕ → Event → Type 0
EventIn n e (begins token) = ⊥
EventIn n e enters = Unit {0}
EventIn n e leaves = Unit {0}
EventIn n e (directs directive level atoms) = LevelIn n e level
EventIn n e (expression atoms) = AtomsIn n e atoms
EventIn n e (pattern atoms) = AtomsIn n e atoms
EventIn n e (head atoms) = AtomsIn n e atoms × (0 < length atoms)

abbrev pub is_beginning : Deed → Bool
is_beginning D.Begins = true
is_beginning _ = false

abbrev is_head : Deed → Bool
is_head D.Head = true
is_head _ = false

-- the head of a clause has an atomic phrase

abbrev is_full : Found → Bool
is_full (several [] typed) = false
is_full _ = true

abbrev gives_full : Sense → Bool
gives_full S.More = true
gives_full S.MoreAfter = true
gives_full S.After = true
gives_full _ = false

heads_are : (r : Rule) → is_head (deed_of r) ≡ true → gives_full (sense_of r) ≡ true
heads_are r = implied _ _ (each_rule (λ r. implies (is_head (deed_of r)) (gives_full (sense_of r))) refl r)

from_full : (n : ℕ) (f : Found) → is_full (from n f) ≡ true
from_full n nothing = refl
from_full n (word token) = refl
from_full n (one a) = refl
from_full n (several [] typed) = refl
from_full n (several (a ∷ atoms) typed) = refl
from_full n (within names) = refl
from_full n (directed level atoms) = refl

full_by : (text : ℕ → Id) (n : ℕ) (sense : Sense) (a b c d : Found) → gives_full sense ≡ true → is_full (found_by text n sense a b c d) ≡ true
full_by text n S.More a b c d q = refl
full_by text n S.MoreAfter a b c d q = refl
full_by text n S.After a b c d q = from_full n b
full_by text n S.Nothing a b c d q = absurd (false≢true q)
full_by text n S.Passed a b c d q = absurd (false≢true q)
full_by text n S.Short a b c d q = absurd (false≢true q)
full_by text n S.Long a b c d q = absurd (false≢true q)
full_by text n S.Op a b c d q = absurd (false≢true q)
full_by text n S.Phrase a b c d q = absurd (false≢true q)
full_by text n S.Round a b c d q = absurd (false≢true q)
full_by text n S.Empty a b c d q = absurd (false≢true q)
full_by text n S.Typed a b c d q = absurd (false≢true q)
full_by text n S.Third a b c d q = absurd (false≢true q)
full_by text n S.Named a b c d q = absurd (false≢true q)
full_by text n S.OpNamed a b c d q = absurd (false≢true q)
full_by text n S.RoundMore a b c d q = absurd (false≢true q)
full_by text n S.OpenRoundMore a b c d q = absurd (false≢true q)
full_by text n S.Inner a b c d q = absurd (false≢true q)
full_by text n S.Level a b c d q = absurd (false≢true q)
full_by text n S.NoLevel a b c d q = absurd (false≢true q)

by_deed : (deed : Deed) (n e : ℕ) (f : Found) → is_beginning deed ≡ false → (is_head deed ≡ true → is_full f ≡ true) → FoundIn n e f → IfSome (event_of deed n f) (EventIn n e)
by_deed D.Nothing n e f b q h = tt
by_deed D.Begins n e f b q h = absurd (false≢true (sym b))
by_deed (D.Directs directive) n e nothing b q h = tt
by_deed (D.Directs directive) n e (word token) b q h = tt
by_deed (D.Directs directive) n e (one a) b q h = tt
by_deed (D.Directs directive) n e (several atoms typed) b q h = tt
by_deed (D.Directs directive) n e (within names) b q h = tt
by_deed (D.Directs directive) n e (directed level atoms) b q h = h
by_deed D.Expression n e nothing b q h = tt
by_deed D.Expression n e (word token) b q h = tt
by_deed D.Expression n e (one a) b q h = tt
by_deed D.Expression n e (several atoms typed) b q h = asked_in (are_itself atoms)
  where
    asked_in : (b : Bool) → IfSome (if b then None else Some (expression atoms)) (EventIn n e)
    asked_in true = tt
    asked_in false = h
by_deed D.Expression n e (within names) b q h = tt
by_deed D.Expression n e (directed level atoms) b q h = tt
by_deed D.Pattern n e nothing b q h = tt
by_deed D.Pattern n e (word token) b q h = tt
by_deed D.Pattern n e (one a) b q h = tt
by_deed D.Pattern n e (several atoms typed) b q h = h
by_deed D.Pattern n e (within names) b q h = tt
by_deed D.Pattern n e (directed level atoms) b q h = tt
by_deed D.Head n e nothing b q h = tt
by_deed D.Head n e (word token) b q h = tt
by_deed D.Head n e (one a) b q h = tt
by_deed D.Head n e (several [] typed) b q h = absurd (false≢true (q refl))
by_deed D.Head n e (several (a ∷ atoms) typed) b q h = (h, omega arith)
by_deed D.Head n e (within names) b q h = tt
by_deed D.Head n e (directed level atoms) b q h = tt

pub event_in : (text : ℕ → Id) (n e : ℕ) (r : Rule) (founds : List Found) → is_beginning (deed_of r) ≡ false → FoundIn n e (found_at text n r founds) → IfSome (event_of (deed_of r) n (found_at text n r founds)) (EventIn n e)
event_in text n e r founds b h = by_deed (deed_of r) n e _ b (λ (q : is_head (deed_of r) ≡ true). full_by text n (sense_of r) _ _ _ _ (heads_are r q)) h

-- faults

-- of fixity, in the declaration at hand, at a token in these bounds
abbrev pub IsOwn : State → ℕ → ℕ → Misfit → Type 0
IsOwn s n e m = IsIn n e m.token × (m.number ≡ s.count) × (m.begun ≡ s.begun) × (reason_of m.code ≡ of_phrases)

token_in : (n e : ℕ) (atoms : List Atom) (index : ℕ) → AtomsIn n e atoms → index < length atoms → IsIn n e (token_of atoms index)
token_in n e [] index h l = absurd (omega (arith, l))
token_in n e (a ∷ atoms) zero h l = h.0
token_in n e (a ∷ atoms) (suc index) h l = token_in n e atoms index h.1 (omega (arith, l))

some_same : {A : Type 0} {x y : A} → Some x ≡ Some y → x ≡ y
some_same e = cc

none_some : {A : Type 0} {x : A} → None ≡ Some x → ⊥
none_some e = cc

length-roles : (fixities : Map) (index : ℕ) (items : List Item) → length (roles_from fixities index items) ≡ length items
length-roles fixities index [] = refl
length-roles fixities index (x ∷ items) = ap suc (length-roles fixities (index + 1) items)

same_many : (items : List Item) (atoms : List Atom) → AreItems items atoms → length items ≡ length atoms
same_many items atoms e = sym (length-map items name_of) ∙ ap length e ∙ length-map atoms (λ (a : Atom). a.name)

split_below : {A : Type 0} (roles before after : List A) (r : A) → roles ≡ before ++ r ∷ after → length before < length roles
split_below roles before after r e =
    let l = ap length e ∙ length-append before (r ∷ after) in
    omega (arith, l)

module _ (s : State) (n e : ℕ) (atoms : List Atom) (h : AtomsIn n e atoms) where
  at_index : (index : ℕ) (code : Code) (m : Misfit) → reason_of code ≡ of_phrases → index < length atoms → Some (misfit s (token_of atoms index) code) ≡ Some m → IsOwn s n e m
  at_index index code m r l q = subst (IsOwn s n e) (some_same q) (token_in n e atoms index h l, refl, refl, r)

  place_below : (fixities : Map) (items : List Item) (place before : ℕ) → AreItems items atoms → before < length (roles_of fixities items) → before ≡ place → place < length atoms
  place_below fixities items place before are l p =
      let x = length-roles fixities 0 items in
      let y = same_many items atoms are in
      omega (arith, l, p, x, y)

  stray_below : (fixities : Map) (items : List Item) (place : ℕ) → AreItems items atoms → StrayAt (roles_of fixities items) place → place < length atoms
  stray_below fixities items place are x = place_below fixities items place (length x.before) are (split_below _ x.before _ _ x.split) x.place_is

  mixed_below : (fixities : Map) (items : List Item) (place : ℕ) → AreItems items atoms → MixedAt (roles_of fixities items) place → place < length atoms
  mixed_below fixities items place are x = place_below fixities items place (length x.before) are (split_below _ x.before _ _ x.split) x.place_is

  of_expression : (items : List Item) (fault : FixFault) (m : Misfit) → AreItems items atoms → FaultStands (roles_of s.here items) fault → misfit_of s atoms fault ≡ Some m → IsOwn s n e m
  of_expression items (NoOperand index) m are f q = at_index index C.F1 m refl (stray_below s.here items index are f.0) q
  of_expression items (MixedSides index) m are f q = at_index index C.F2 m refl (mixed_below s.here items index are f.0) q
  of_expression items Malformed m are f q = absurd f
  of_expression items Memory m are f q = absurd (none_some q)

  of_pattern : (items : List Item) (fault : FixFault) (m : Misfit) → 0 < length atoms → AreItems items atoms → PatternFaultStands items (roles_of s.here items) fault → misfit_of s atoms fault ≡ Some m → IsOwn s n e m
  of_pattern items (NoOperand index) m l are f q = at_index index C.F1 m refl (stray_below s.here items index are f.0) q
  of_pattern items (MixedSides index) m l are f q = at_index index C.F2 m refl (mixed_below s.here items index are f.0) q
  of_pattern items Malformed m l are f q = at_index 0 C.F4 m refl l q
  of_pattern items Memory m l are f q = absurd (none_some q)

-- a directive without a level gives a fixity
without_level : (directive : Directive) → ((fixity : Option Fixity) → ¬ Gives directive [] fixity) → ⊥
without_level R.Infix h = h (Some (fixity_of 0 Left)) (0, inl (refl, refl), refl)
without_level R.Infixr h = h (Some (fixity_of 0 Right)) (0, inl (refl, refl), refl)
without_level R.Nonfix h = h None refl

abbrev IsOwnFault : State → ℕ → ℕ → Outcome → Type 0
IsOwnFault s n e o = IfSome (misfit_in o) (IsOwn s n e)

no_fault : (s : State) (n e : ℕ) (o : Outcome) → o ≡ idle → IsOwnFault s n e o
no_fault s n e o q = subst (IsOwnFault s n e) (sym q) tt

expression_in : (s : State) (n e : ℕ) (atoms : List Atom) (o : Outcome) → AtomsIn n e atoms → IsExpression s atoms o → IsOwnFault s n e o
expression_in s n e atoms (declares token) i h = tt
expression_in s n e atoms idle i h = tt
expression_in s n e atoms (stands fit) i h = tt
expression_in s n e atoms (fails m) i h = of_expression s n e atoms i h.0 h.1 m h.2 h.3 h.4

pattern_in : (s : State) (n e : ℕ) (atoms : List Atom) (o : Outcome) → AtomsIn n e atoms → 0 < length atoms → IsPattern s atoms o → IsOwnFault s n e o
pattern_in s n e atoms (declares token) i l h = tt
pattern_in s n e atoms idle i l h = tt
pattern_in s n e atoms (stands fit) i l h = tt
pattern_in s n e atoms (fails m) i l h = of_pattern s n e atoms i h.0 h.1 m l h.2 h.3 h.4

head_in : (s : State) (n e : ℕ) (atoms : List Atom) (o : Outcome) → AtomsIn n e atoms → 0 < length atoms → IsClauseHead s atoms o → IsOwnFault s n e o
head_in s n e atoms (declares token) i l h = tt
head_in s n e atoms idle i l h = tt
head_in s n e atoms (stands fit) i l h = tt
head_in s n e atoms (fails m) i l h = at_index s n e atoms i 0 C.F4 m refl l h.5

pub happens_in : (text : ℕ → Id) (s t : State) (n e : ℕ) (event : Event) (o : Outcome) → EventIn n e event → Happens text s event o t → IfSome (misfit_in o) (IsOwn s n e) × (t.count ≡ s.count) × (t.begun ≡ s.begun)
happens_in text s t n e (begins token) o i h = absurd i
happens_in text s t n e enters o i h = (no_fault s n e o h.0, ap (λ (t : State). t.count) h.1, ap (λ (t : State). t.begun) h.1)
happens_in text s t n e leaves o i h = (no_fault s n e o h.0, h.1, h.2)
happens_in text s t n e (directs directive level atoms) (declares token) i h = absurd h
happens_in text s t n e (directs directive level atoms) idle i h = (tt, ap (λ (t : State). t.count) h.2, ap (λ (t : State). t.begun) h.2)
happens_in text s t n e (directs directive level atoms) (stands fit) i h = absurd h
happens_in text s t n e (directs directive None atoms) (fails m) i h = absurd (without_level directive h.0)
happens_in text s t n e (directs directive (Some token) atoms) (fails m) i h = (subst (IsOwn s n e) (sym h.1) (i, refl, refl, refl), ap (λ (t : State). t.count) h.2, ap (λ (t : State). t.begun) h.2)
happens_in text s t n e (expression []) o i h = (no_fault s n e o (h.0 refl), ap (λ (t : State). t.count) h.2, ap (λ (t : State). t.begun) h.2)
happens_in text s t n e (expression (a ∷ atoms)) o i h = (expression_in s n e (a ∷ atoms) o i (h.1 (omega arith)), ap (λ (t : State). t.count) h.2, ap (λ (t : State). t.begun) h.2)
happens_in text s t n e (pattern []) o i h = (no_fault s n e o (h.0 refl), ap (λ (t : State). t.count) h.2, ap (λ (t : State). t.begun) h.2)
happens_in text s t n e (pattern (a ∷ atoms)) o i h = (pattern_in s n e (a ∷ atoms) o i (omega arith) (h.1 (omega arith)), ap (λ (t : State). t.count) h.2, ap (λ (t : State). t.begun) h.2)
happens_in text s t n e (head atoms) o i h = (head_in s n e atoms o i.0 i.1 h.0, ap (λ (t : State). t.count) h.1, ap (λ (t : State). t.begun) h.1)
