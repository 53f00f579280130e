-- Scopes change nothing where no directive is read.
use Rattle.std.proofs.Common.{◌≡◌, ℕ, zero, suc, Bool, true, false, ◌||◌, List, [], ◌∷◌, Option, Some, None, map, replicate, refl, sym, ap, ◌∙◌, subst, if◌then◌else◌}
use Rattle.std.specs.List.{cons_option, list_any}
use Rattle.std.specs.Option.{option_map}
use Rattle.sml_lex.specs.declared.token.Token.{Token}
use Rattle.sml_tree.specs.Trees.{Id}
use Rattle.sml_fixity.specs.declared.sequences.FixFault.{FixFault}
use Rattle.sml_fixity.specs.declared.sequences.FixFault.TheVariants.{NoOperand, MixedSides, Malformed, Memory}
use Rattle.sml_fixity.specs.Scopes.{Map, initial_map}
use Rattle.sml_read.specs.declared.grammar.Node.{Node}
use Rattle.sml_read.specs.declared.grammar.Node.TheVariants.{Leaf, Inner}
use Rattle.sml_reach.specs.declared.sense.Deed.{Deed}
use Rattle.sml_reach.specs.declared.sense.Deed.TheVariants as D
use Rattle.sml_reach.specs.declared.reach.Misfit.{Misfit}
use Rattle.sml_reach.specs.declared.reach.Gathered.{Gathered}
use Rattle.sml_reach.specs.Senses.{opens, closes, deed_of}
use Rattle.sml_reach.specs.Founds.{Found, Atom, nothing, word, one, several, within, directed, sequence_in}
use Rattle.sml_reach.specs.Events.{Event, begins, enters, leaves, directs, expression, pattern, head, are_itself, asked_of, text_at, scope_event, event_of, event_from, founds_of, events_of}
use Rattle.sml_reach.specs.Fits.{Fitted, fit_of, fitted_of}
use Rattle.sml_reach.specs.Reach.{State, start, Outcome, declares, idle, stands, fails, misfit_of, misfit_in, misfits_in, fits_before, declarations_in, first_misfit, before_misfit, up_to, IsExpression, IsPattern, IsClauseHead, Happens, Outcomes, AreFitted}
use Rattle.sml_reach.specs.CodeGathered.{AreDeclared, AreGathered, ComesOf}
use Rattle.sml_reach.specs.CodeKept.{kept, all_kept, reads_directive, is_directive, AreUndirected}
use Rattle.sml_reach.proofs.Gathering.{same_first, same_rest}

-- which events are kept

all_of_them : (es : List Event) → all_kept true es ≡ es
all_of_them [] = refl
all_of_them (e ∷ es) = ap (λ xs. e ∷ xs) (all_of_them es)

kept_on : (scoped : Bool) (e : Option Event) (es : List Event) → all_kept scoped (cons_option e es) ≡ cons_option (kept scoped e) (all_kept scoped es)
kept_on true None es = refl
kept_on false None es = refl
kept_on scoped (Some e) es = refl

pub scope_left : (t : Option Token) → kept false (scope_event t) ≡ None
scope_left None = refl
scope_left (Some t) = by_test (opens t.kind) (closes t.kind)
  where
    by_test : (a b : Bool) → kept false (if a then Some enters else if b then Some leaves else None) ≡ None
    by_test true b = refl
    by_test false true = refl
    by_test false false = refl

expression_kept : (s : Option (List Atom)) → kept false (asked_of s) ≡ asked_of s
expression_kept None = refl
expression_kept (Some atoms) = by_test (are_itself atoms)
  where
    by_test : (b : Bool) → kept false (if b then None else Some (expression atoms)) ≡ (if b then None else Some (expression atoms))
    by_test true = refl
    by_test false = refl

pattern_kept : (s : Option (List Atom)) → kept false (option_map pattern s) ≡ option_map pattern s
pattern_kept None = refl
pattern_kept (Some atoms) = refl

head_kept : (s : Option (List Atom)) → kept false (option_map head s) ≡ option_map head s
head_kept None = refl
head_kept (Some atoms) = refl

pub deed_kept : (scoped : Bool) (d : Deed) (n : ℕ) (f : Found) → kept scoped (event_of d n f) ≡ event_of d n f
deed_kept true d n f = refl
deed_kept false D.Nothing n f = refl
deed_kept false D.Begins n f = refl
deed_kept false (D.Directs directive) n (directed level atoms) = refl
deed_kept false (D.Directs directive) n nothing = refl
deed_kept false (D.Directs directive) n (word token) = refl
deed_kept false (D.Directs directive) n (one atom) = refl
deed_kept false (D.Directs directive) n (several atoms typed) = refl
deed_kept false (D.Directs directive) n (within names) = refl
deed_kept false D.Expression n f = expression_kept (sequence_in f)
deed_kept false D.Pattern n f = pattern_kept (sequence_in f)
deed_kept false D.Head n f = head_kept (sequence_in f)

pub events_on : (scoped : Bool) (unit : List ℕ) (tokens : List Token) (nodes more : List Node) (starts later : List ℕ) (node : Node) (n : ℕ) (new old : List Event) (founds : List Found) → nodes ≡ node ∷ more → starts ≡ n ∷ later → new ≡ cons_option (kept scoped (event_from unit tokens node n founds)) old → founds ≡ founds_of (text_at unit tokens) more later → old ≡ all_kept scoped (events_of unit tokens more later) → new ≡ all_kept scoped (events_of unit tokens nodes starts)
events_on scoped unit tokens nodes more starts later node n new old founds a b e f h =
    let event = event_from unit tokens node n (founds_of (text_at unit tokens) more later) in
    e ∙ ap (λ fs. cons_option (kept scoped (event_from unit tokens node n fs)) old) f
    ∙ ap (λ es. cons_option (kept scoped event) es) h
    ∙ sym (kept_on scoped event (events_of unit tokens more later))
    ∙ ap (λ ns. all_kept scoped (events_of unit tokens (node ∷ more) ns)) (sym b)
    ∙ ap (λ ns. all_kept scoped (events_of unit tokens ns starts)) (sym a)

-- no node with a directive, no such event

neither : (a b : Bool) → (a || b) ≡ false → (a ≡ false) × (b ≡ false)
neither true b e = cc
neither false b e = (refl, e)

abbrev IsUndirected : Option Event → Type 0
IsUndirected None = Unit {0}
IsUndirected (Some (directs directive level atoms)) = ⊥
IsUndirected (Some event) = Unit {0}

undirected_on : (e : Option Event) (es : List Event) → IsUndirected e → AreUndirected es → AreUndirected (cons_option e es)
undirected_on None es h k = k
undirected_on (Some (begins token)) es h k = k
undirected_on (Some enters) es h k = k
undirected_on (Some leaves) es h k = k
undirected_on (Some (directs directive level atoms)) es h k = absurd h
undirected_on (Some (expression atoms)) es h k = k
undirected_on (Some (pattern atoms)) es h k = k
undirected_on (Some (head atoms)) es h k = k

scope_undirected : (t : Option Token) → IsUndirected (scope_event t)
scope_undirected None = tt
scope_undirected (Some t) = by_test (opens t.kind) (closes t.kind)
  where
    by_test : (a b : Bool) → IsUndirected (if a then Some enters else if b then Some leaves else None)
    by_test true b = tt
    by_test false true = tt
    by_test false false = tt

expression_undirected : (s : Option (List Atom)) → IsUndirected (asked_of s)
expression_undirected None = tt
expression_undirected (Some atoms) = by_test (are_itself atoms)
  where
    by_test : (b : Bool) → IsUndirected (if b then None else Some (expression atoms))
    by_test true = tt
    by_test false = tt

pattern_undirected : (s : Option (List Atom)) → IsUndirected (option_map pattern s)
pattern_undirected None = tt
pattern_undirected (Some atoms) = tt

head_undirected : (s : Option (List Atom)) → IsUndirected (option_map head s)
head_undirected None = tt
head_undirected (Some atoms) = tt

deed_undirected : (d : Deed) (n : ℕ) (f : Found) → reads_directive d ≡ false → IsUndirected (event_of d n f)
deed_undirected D.Nothing n f e = tt
deed_undirected D.Begins n f e = tt
deed_undirected (D.Directs directive) n f e = cc
deed_undirected D.Expression n f e = expression_undirected (sequence_in f)
deed_undirected D.Pattern n f e = pattern_undirected (sequence_in f)
deed_undirected D.Head n f e = head_undirected (sequence_in f)

node_undirected : (unit : List ℕ) (tokens : List Token) (node : Node) (n : ℕ) (founds : List Found) → is_directive node ≡ false → IsUndirected (event_from unit tokens node n founds)
node_undirected unit tokens Leaf n founds e = scope_undirected _
node_undirected unit tokens (Inner rule) n founds e = deed_undirected (deed_of rule) n _ e

pub undirected : (unit : List ℕ) (tokens : List Token) (nodes : List Node) (starts : List ℕ) → list_any is_directive nodes ≡ false → AreUndirected (events_of unit tokens nodes starts)
undirected unit tokens [] starts e = tt
undirected unit tokens (node ∷ nodes) [] e = tt
undirected unit tokens (node ∷ nodes) (n ∷ starts) e =
    let both = neither (is_directive node) (list_any is_directive nodes) e in
    undirected_on _ _ (node_undirected unit tokens node n _ both.0) (undirected unit tokens nodes starts both.1)

-- What all events come to, of which some are kept: the same declarations and faults.
record Same (text : ℕ → Id) (s : State) (all : List Event) (os : List Outcome) : Type 0 where
  pub outcomes : List Outcome
  pub happen : Outcomes text s all outcomes
  pub declared : declarations_in outcomes ≡ declarations_in os
  pub stood : fits_before outcomes ≡ fits_before os
  pub failed : misfits_in outcomes ≡ misfits_in os

same_idle : (text : ℕ → Id) (s t : State) (event : Event) (all : List Event) (os : List Outcome) → Happens text s event idle t → Same text t all os → Same text s (event ∷ all) os
same_idle text s t event all os h k = record { outcomes = idle ∷ k.outcomes; happen = (idle, t, k.outcomes, h, k.happen, refl); declared = k.declared; stood = k.stood; failed = k.failed }

declared_on : (o : Outcome) (xs ys : List Outcome) → declarations_in xs ≡ declarations_in ys → fits_before xs ≡ fits_before ys → declarations_in (o ∷ xs) ≡ declarations_in (o ∷ ys)
declared_on (declares token) xs ys d f = λ i. record { begun = token; fits = f i } ∷ d i
declared_on idle xs ys d f = d
declared_on (stands fit) xs ys d f = d
declared_on (fails m) xs ys d f = d

stood_on : (o : Outcome) (xs ys : List Outcome) → fits_before xs ≡ fits_before ys → fits_before (o ∷ xs) ≡ fits_before (o ∷ ys)
stood_on (declares token) xs ys f = refl
stood_on idle xs ys f = f
stood_on (stands fit) xs ys f = ap (λ fs. fit ∷ fs) f
stood_on (fails m) xs ys f = f

same_more : (text : ℕ → Id) (s t : State) (event : Event) (all : List Event) (o : Outcome) (more os : List Outcome) → Happens text s event o t → Same text t all more → os ≡ o ∷ more → Same text s (event ∷ all) os
same_more text s t event all o more os h k e = record {
  outcomes = o ∷ k.outcomes;
  happen = (o, t, k.outcomes, h, k.happen, refl);
  declared = declared_on o k.outcomes more k.declared k.stood ∙ ap declarations_in (sym e);
  stood = stood_on o k.outcomes more k.stood ∙ ap fits_before (sym e);
  failed = ap (cons_option (misfit_in o)) k.failed ∙ ap misfits_in (sym e);
}

abbrev at : Map → List Map → ℕ → ℕ → State
at here outer count begun = record { here = here; outer = outer; count = count; begun = begun }

same_misfit : (here : Map) (a b : List Map) (c n : ℕ) (atoms : List Atom) (f : FixFault) → misfit_of (at here a c n) atoms f ≡ misfit_of (at here b c n) atoms f
same_misfit here a b c n atoms (NoOperand k) = refl
same_misfit here a b c n atoms (MixedSides k) = refl
same_misfit here a b c n atoms Malformed = refl
same_misfit here a b c n atoms Memory = refl

expression_same : (here : Map) (a b : List Map) (c n : ℕ) (atoms : List Atom) (o : Outcome) → IsExpression (at here a c n) atoms o → IsExpression (at here b c n) atoms o
expression_same here a b c n atoms (stands fit) h = h
expression_same here a b c n atoms (fails m) h = (h.0, h.1, h.2, h.3, sym (same_misfit here a b c n atoms h.1) ∙ h.4)
expression_same here a b c n atoms (declares token) h = absurd h
expression_same here a b c n atoms idle h = absurd h

pattern_same : (here : Map) (a b : List Map) (c n : ℕ) (atoms : List Atom) (o : Outcome) → IsPattern (at here a c n) atoms o → IsPattern (at here b c n) atoms o
pattern_same here a b c n atoms (stands fit) h = h
pattern_same here a b c n atoms (fails m) h = (h.0, h.1, h.2, h.3, sym (same_misfit here a b c n atoms h.1) ∙ h.4)
pattern_same here a b c n atoms (declares token) h = absurd h
pattern_same here a b c n atoms idle h = absurd h

head_same : (here : Map) (a b : List Map) (c n : ℕ) (atoms : List Atom) (o : Outcome) → IsClauseHead (at here a c n) atoms o → IsClauseHead (at here b c n) atoms o
head_same here a b c n atoms (stands fit) h = h
head_same here a b c n atoms (fails m) h = h
head_same here a b c n atoms (declares token) h = absurd h
head_same here a b c n atoms idle h = absurd h

-- where no directive is read, each open scope began with the fixities in force
all_happen : (text : ℕ → Id) (here : Map) (other : List Map) (all : List Event) → AreUndirected all → (n count begun : ℕ) (os : List Outcome) → Outcomes text (at here other count begun) (all_kept false all) os → Same text (at here (replicate n here) count begun) all os
all_happen text here other [] u n c b os e = record { outcomes = []; happen = refl; declared = ap declarations_in (sym e); stood = ap fits_before (sym e); failed = ap misfits_in (sym e) }
all_happen text here other (enters ∷ all) u n c b os h =
    same_idle text _ (at here (here ∷ replicate n here) c b) enters all os (refl, refl) (all_happen text here other all u (suc n) c b os h)
all_happen text here other (leaves ∷ all) u zero c b os h =
    same_idle text _ (at here [] c b) leaves all os (refl, refl, refl, (λ before others e. cc), (λ e. (refl, refl))) (all_happen text here other all u 0 c b os h)
all_happen text here other (leaves ∷ all) u (suc n) c b os h =
    same_idle text _ (at here (replicate n here) c b) leaves all os (refl, refl, refl, (λ before others e. (same_first e, same_rest e)), (λ e. cc)) (all_happen text here other all u n c b os h)
all_happen text here other (begins token ∷ all) u n c b os (o, t, more, h, rest, e) =
    same_more text _ (at here (replicate n here) (suc c) token) (begins token) all o more os (h.0, refl)
    (all_happen text here other all u n (suc c) token more (subst (λ t. Outcomes text t (all_kept false all) more) h.1 rest)) e
all_happen text here other (directs directive level atoms ∷ all) u n c b os h = absurd u
all_happen text here other (expression atoms ∷ all) u n c b os (o, t, more, h, rest, e) =
    same_more text _ (at here (replicate n here) c b) (expression atoms) all o more os (h.0, (λ l. expression_same here other (replicate n here) c b atoms o (h.1 l)), refl)
    (all_happen text here other all u n c b more (subst (λ t. Outcomes text t (all_kept false all) more) h.2 rest)) e
all_happen text here other (pattern atoms ∷ all) u n c b os (o, t, more, h, rest, e) =
    same_more text _ (at here (replicate n here) c b) (pattern atoms) all o more os (h.0, (λ l. pattern_same here other (replicate n here) c b atoms o (h.1 l)), refl)
    (all_happen text here other all u n c b more (subst (λ t. Outcomes text t (all_kept false all) more) h.2 rest)) e
all_happen text here other (head atoms ∷ all) u n c b os (o, t, more, h, rest, e) =
    same_more text _ (at here (replicate n here) c b) (head atoms) all o more os (head_same here other (replicate n here) c b atoms o h.0, refl)
    (all_happen text here other all u n c b more (subst (λ t. Outcomes text t (all_kept false all) more) h.1 rest)) e

same_outcomes : (text : ℕ → Id) (scoped : Bool) (all : List Event) → (scoped ≡ false → AreUndirected all) → (os : List Outcome) → Outcomes text start (all_kept scoped all) os → Same text start all os
same_outcomes text true all u os h = record { outcomes = os; happen = subst (λ es. Outcomes text start es os) (all_of_them all) h; declared = refl; stood = refl; failed = refl }
same_outcomes text false all u os h = all_happen text initial_map [] all (u refl) 0 0 0 os h

pub comes_of_all : (text : ℕ → Id) (some : List Event) (scoped : Bool) (all : List Event) (g : Gathered) → some ≡ all_kept scoped all → (scoped ≡ false → AreUndirected all) → ComesOf text some g → ComesOf text all g
comes_of_all text some scoped all g e u (os, h, gathered) =
    let s = same_outcomes text scoped all u os (subst (λ es. Outcomes text start es os) e h) in
    (s.outcomes, s.happen, (subst (AreDeclared (map fitted_of g.declarations.items) g.begun (map fit_of g.fits.items)) (sym s.declared) gathered.0, gathered.1 ∙ sym s.failed))

pub fits_all : (text : ℕ → Id) (all : List Event) (g : Gathered) (fitted : List Fitted) (first : Option Misfit) → ComesOf text all g → first ≡ first_misfit g.misfits.items → ((os : List Outcome) → AreGathered g os → fitted ≡ up_to (before_misfit first) (declarations_in os)) → AreFitted text all fitted first
fits_all text all g fitted first (os, h, gathered) e f = record { outcomes = os; happen = h; is_first = e ∙ ap first_misfit gathered.1; are_fitted = f os gathered }
