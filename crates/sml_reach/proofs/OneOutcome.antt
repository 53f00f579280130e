-- Events come to one thing.
use Rattle.std.proofs.Common.{◌≡◌, ℕ, inl, inr, arith, List, [], ◌∷◌, Option, Some, refl, sym, ap, ◌∙◌, subst}
use Rattle.sml_tree.specs.Trees.{Id}
use Rattle.sml_fixity.specs.declared.sequences.FixFault.{FixFault}
use Rattle.sml_fixity.specs.declared.sequences.FixFault.TheVariants.{NoOperand, MixedSides, Malformed, Memory}
use Rattle.sml_fixity.specs.declared.scopes.Fixity.{Fixity}
use Rattle.sml_fixity.specs.declared.scopes.Directive.{Directive}
use Rattle.sml_fixity.specs.declared.scopes.Directive.TheVariants.{Infix, Infixr, Nonfix}
use Rattle.sml_fixity.specs.declared.scopes.Side.TheVariants.{Left, Right}
use Rattle.sml_fixity.specs.Scopes.{Map, Gives, IsLevel, fixity_of, changed_all}
use Rattle.sml_fixity.specs.Shapes.{tree, headed}
use Rattle.sml_fixity.proofs.NamedItems.{same_head}
use Rattle.sml_fixity.proofs.Alike.{IsFault, one_expression, expression_or_fault, one_fault, one_pattern, pattern_or_fault, one_pattern_fault, one_head}
use Rattle.sml_reach.specs.declared.reach.Misfit.{Misfit}
use Rattle.sml_reach.specs.Founds.{Atom}
use Rattle.sml_reach.specs.Events.{Event, begins, enters, leaves, directs, expression, pattern, head}
use Rattle.sml_reach.specs.Fits.{Fitted}
use Rattle.sml_reach.specs.Reach.{State, start, Outcome, declares, idle, stands, fails, misfit_of, fit_at, ids_of, level_text, IsExpression, IsPattern, IsClauseHead, Happens, Outcomes, AreFitted, first_misfit, misfits_in, up_to, before_misfit, declarations_in}

-- a fault of a sequence is one that it can have
is_fault : (s : State) (atoms : List Atom) (f : FixFault) (m : Misfit) → misfit_of s atoms f ≡ Some m → IsFault f
unfolding IsFault
is_fault s atoms (NoOperand k) m e = tt
is_fault s atoms (MixedSides k) m e = tt
is_fault s atoms Malformed m e = tt
is_fault s atoms Memory m e = cc

some_one : {A : Type 0} {x y : A} → Some x ≡ Some y → x ≡ y
some_one e = cc

-- the same fault stands at the same place
one_misfit : (s : State) (atoms : List Atom) (f g : FixFault) (m n : Misfit) → f ≡ g → misfit_of s atoms f ≡ Some m → misfit_of s atoms g ≡ Some n → m ≡ n
one_misfit s atoms f g m n e h k = some_one (sym h ∙ ap (misfit_of s atoms) e ∙ k)

-- what a sequence of expressions comes to
expression_one : (s : State) (atoms : List Atom) (o q : Outcome) → IsExpression s atoms o → IsExpression s atoms q → o ≡ q
expression_one s atoms (stands x) (stands y) h k =
    ap stands (h.4 ∙ ap (λ steps. fit_at atoms (tree steps)) (one_expression s.here h.0 k.0 h.1 k.1 (h.2 ∙ sym k.2) h.3 k.3) ∙ sym k.4)
expression_one s atoms (stands x) (fails n) h k =
    absurd (expression_or_fault s.here h.0 k.0 h.1 k.1 (h.2 ∙ sym k.2) h.3 k.3 (is_fault s atoms k.1 n k.4))
expression_one s atoms (fails m) (stands y) h k =
    absurd (expression_or_fault s.here k.0 h.0 k.1 h.1 (k.2 ∙ sym h.2) k.3 h.3 (is_fault s atoms h.1 m h.4))
expression_one s atoms (fails m) (fails n) h k =
    ap fails (one_misfit s atoms h.1 k.1 m n (one_fault s.here h.0 k.0 h.1 k.1 (h.2 ∙ sym k.2) h.3 k.3 (is_fault s atoms h.1 m h.4) (is_fault s atoms k.1 n k.4)) h.4 k.4)
expression_one s atoms (declares t) q h k = absurd h
expression_one s atoms idle q h k = absurd h
expression_one s atoms o (declares t) h k = absurd k
expression_one s atoms o idle h k = absurd k

pattern_one : (s : State) (atoms : List Atom) (o q : Outcome) → IsPattern s atoms o → IsPattern s atoms q → o ≡ q
pattern_one s atoms (stands x) (stands y) h k =
    ap stands (h.4 ∙ ap (λ steps. fit_at atoms (tree steps)) (one_pattern s.here h.0 k.0 h.1 k.1 (h.2 ∙ sym k.2) h.3 k.3) ∙ sym k.4)
pattern_one s atoms (stands x) (fails n) h k =
    absurd (pattern_or_fault s.here h.0 k.0 h.1 k.1 (h.2 ∙ sym k.2) h.3 k.3 (is_fault s atoms k.1 n k.4))
pattern_one s atoms (fails m) (stands y) h k =
    absurd (pattern_or_fault s.here k.0 h.0 k.1 h.1 (k.2 ∙ sym h.2) k.3 h.3 (is_fault s atoms h.1 m h.4))
pattern_one s atoms (fails m) (fails n) h k =
    ap fails (one_misfit s atoms h.1 k.1 m n (one_pattern_fault s.here h.0 k.0 h.1 k.1 (h.2 ∙ sym k.2) h.3 k.3 (is_fault s atoms h.1 m h.4) (is_fault s atoms k.1 n k.4)) h.4 k.4)
pattern_one s atoms (declares t) q h k = absurd h
pattern_one s atoms idle q h k = absurd h
pattern_one s atoms o (declares t) h k = absurd k
pattern_one s atoms o idle h k = absurd k

-- what the head of a clause comes to
head_one : (s : State) (atoms : List Atom) (o q : Outcome) → IsClauseHead s atoms o → IsClauseHead s atoms q → o ≡ q
head_one s atoms (stands x) (stands y) h k =
    ap stands (h.6 ∙ ap (λ how. fit_at atoms (headed how)) (one_head s.here h.0 k.0 h.1 k.1 h.2 k.2 (h.3 ∙ sym k.3) (h.4 ∙ sym k.4) h.5 k.5) ∙ sym k.6)
head_one s atoms (stands x) (fails n) h k =
    absurd (k.4 h.2 (same_head s.here h.0 k.0 h.1 k.1 (h.3 ∙ sym k.2) (h.4 ∙ sym k.3) h.2 h.5))
head_one s atoms (fails m) (stands y) h k =
    absurd (h.4 k.2 (same_head s.here k.0 h.0 k.1 h.1 (k.3 ∙ sym h.2) (k.4 ∙ sym h.3) k.2 k.5))
head_one s atoms (fails m) (fails n) h k = ap fails (some_one (sym h.5 ∙ k.5))
head_one s atoms (declares t) q h k = absurd h
head_one s atoms idle q h k = absurd h
head_one s atoms o (declares t) h k = absurd k
head_one s atoms o idle h k = absurd k

-- directives

no_byte : {b : ℕ} → [] ≡ b ∷ [] → ⊥
no_byte e = cc

one_byte : {b c : ℕ} → b ∷ [] ≡ c ∷ [] → b ≡ c
one_byte e = cc

level_one : (text : List ℕ) (d e : ℕ) → IsLevel text d → IsLevel text e → d ≡ e
level_one text d e h k = elim h [
  | inl a ↦ elim k [ inl b ↦ a.1 ∙ sym b.1 | inr b ↦ absurd (no_byte (sym a.0 ∙ b.0)) ]
  | inr a ↦ elim k [ inl b ↦ absurd (no_byte (sym b.0 ∙ a.0)) | inr b ↦ (let same = one_byte (sym a.0 ∙ b.0) in omega (arith, same)) ]
]

gives_one : (directive : Directive) (text : List ℕ) (a b : Option Fixity) → Gives directive text a → Gives directive text b → a ≡ b
gives_one Infix text a b h k = h.2 ∙ ap (λ d. Some (fixity_of d Left)) (level_one text h.0 k.0 h.1 k.1) ∙ sym k.2
gives_one Infixr text a b h k = h.2 ∙ ap (λ d. Some (fixity_of d Right)) (level_one text h.0 k.0 h.1 k.1) ∙ sym k.2
gives_one Nonfix text a b h k = h ∙ sym k

-- states

same_state : (t u : State) → t.here ≡ u.here → t.outer ≡ u.outer → t.count ≡ u.count → t.begun ≡ u.begun → t ≡ u
same_state t u a b c d = λ i. record { here = a i; outer = b i; count = c i; begun = d i }

abbrev Closes : State → State → Type 0
Closes s t = ((before : Map) (others : List Map) → s.outer ≡ before ∷ others → (t.here ≡ before) × (t.outer ≡ others)) × (s.outer ≡ [] → (t.here ≡ s.here) × (t.outer ≡ []))

closed_one : (s t u : State) (ms : List Map) → s.outer ≡ ms → Closes s t → Closes s u → (t.here ≡ u.here) × (t.outer ≡ u.outer)
closed_one s t u [] e h k =
    let a = h.1 e in
    let b = k.1 e in
    (a.0 ∙ sym b.0, a.1 ∙ sym b.1)
closed_one s t u (m ∷ ms) e h k =
    let a = h.0 m ms e in
    let b = k.0 m ms e in
    (a.0 ∙ sym b.0, a.1 ∙ sym b.1)

abbrev Same : Outcome → Outcome → State → State → Type 0
Same o q t u = (o ≡ q) × (t ≡ u)

directed_one : (text : ℕ → Id) (s t u : State) (directive : Directive) (level : Option ℕ) (atoms : List Atom) (o q : Outcome)
    → Happens text s (directs directive level atoms) o t → Happens text s (directs directive level atoms) q u → Same o q t u
directed_one text s t u directive level atoms idle idle h k =
    (refl, h.2 ∙ ap (λ f. record { here = changed_all s.here (ids_of atoms) f; outer = s.outer; count = s.count; begun = s.begun }) (gives_one directive (level_text text level) h.0 k.0 h.1 k.1) ∙ sym k.2)
directed_one text s t u directive level atoms idle (fails n) h k = absurd (k.0 h.0 h.1)
directed_one text s t u directive level atoms (fails m) idle h k = absurd (h.0 k.0 k.1)
directed_one text s t u directive level atoms (fails m) (fails n) h k = (ap fails (h.1 ∙ sym k.1), h.2 ∙ sym k.2)
directed_one text s t u directive level atoms (declares x) q h k = absurd h
directed_one text s t u directive level atoms (stands x) q h k = absurd h
directed_one text s t u directive level atoms o (declares x) h k = absurd k
directed_one text s t u directive level atoms o (stands x) h k = absurd k

happens_one : (text : ℕ → Id) (s t u : State) (event : Event) (o q : Outcome) → Happens text s event o t → Happens text s event q u → Same o q t u
happens_one text s t u (begins token) o q h k = (h.0 ∙ sym k.0, h.1 ∙ sym k.1)
happens_one text s t u enters o q h k = (h.0 ∙ sym k.0, h.1 ∙ sym k.1)
happens_one text s t u leaves o q h k =
    let c = closed_one s t u s.outer refl (h.3, h.4) (k.3, k.4) in
    (h.0 ∙ sym k.0, same_state t u c.0 c.1 (h.1 ∙ sym k.1) (h.2 ∙ sym k.2))
happens_one text s t u (directs directive level atoms) o q h k = directed_one text s t u directive level atoms o q h k
happens_one text s t u (expression []) o q h k = (h.0 refl ∙ sym (k.0 refl), h.2 ∙ sym k.2)
happens_one text s t u (expression (a ∷ atoms)) o q h k =
    (expression_one s (a ∷ atoms) o q (h.1 (omega arith)) (k.1 (omega arith)), h.2 ∙ sym k.2)
happens_one text s t u (pattern []) o q h k = (h.0 refl ∙ sym (k.0 refl), h.2 ∙ sym k.2)
happens_one text s t u (pattern (a ∷ atoms)) o q h k =
    (pattern_one s (a ∷ atoms) o q (h.1 (omega arith)) (k.1 (omega arith)), h.2 ∙ sym k.2)
happens_one text s t u (head atoms) o q h k = (head_one s atoms o q h.0 k.0, h.1 ∙ sym k.1)

outcomes_one : (text : ℕ → Id) (s t : State) (events : List Event) (os qs : List Outcome) → s ≡ t → Outcomes text s events os → Outcomes text t events qs → os ≡ qs
outcomes_one text s t [] os qs e h k = h ∙ sym k
outcomes_one text s t (event ∷ events) os qs e h k =
    let same = happens_one text t h.1 k.1 event h.0 k.0 (subst (λ s. Happens text s event h.0 h.1) e h.3) k.3 in
    h.5 ∙ (λ i. same.0 i ∷ outcomes_one text h.1 k.1 events h.2 k.2 same.1 h.4 k.4 i) ∙ sym k.5

pub fitting_one : (text : ℕ → Id) (events : List Event) (fitted others : List Fitted) (first other : Option Misfit)
    → AreFitted text events fitted first → AreFitted text events others other → (fitted ≡ others) × (first ≡ other)
fitting_one text events fitted others first other h k =
    let os = outcomes_one text start start events h.outcomes k.outcomes refl h.happen k.happen in
    let first_is = h.is_first ∙ ap (λ os. first_misfit (misfits_in os)) os ∙ sym k.is_first in
    (h.are_fitted ∙ (λ i. up_to (before_misfit (first_is i)) (declarations_in (os i))) ∙ sym k.are_fitted, first_is)
