-- What the sequences of a declaration stand for: each is known by its first token, and steps are those of the tree that obeys.
use Rattle.std.proofs.Common.{◌≡◌, ℕ, zero, suc, ◌<◌, ◌≤◌, List, [], ◌∷◌, Bool, true, false, Option, Some, None, length, map, take, refl, sym, ap, ◌∙◌, subst, inl, inr, ◌⊎◌, arith}
use Rattle.std.specs.Prelude.{◌&&◌, ◌==◌, slice_get, if◌then◌else◌, ◌-◌}
use Rattle.std.proofs.lemmas.Option.{same_Some}
use Rattle.std.proofs.lemmas.Bool.{eqb-true}
use Rattle.sml_tree.specs.Trees.{Id}
use Rattle.sml_rules.specs.Every.{Every}
use Rattle.sml_fixity.specs.declared.sequences.Item.{Item}
use Rattle.sml_fixity.specs.declared.sequences.Step.{Step}
use Rattle.sml_fixity.specs.declared.scopes.Directive.{Directive}
use Rattle.sml_fixity.specs.Scopes.{Map}
use Rattle.sml_fixity.specs.Sequences.{roles_of}
use Rattle.sml_fixity.specs.Infix.{Tree, yield, postfix, Obeys, IsTheTree}
use Rattle.sml_fixity.specs.declared.heads.Head.{Head}
use Rattle.sml_fixity.specs.Heads.{IsHead}
use Rattle.sml_fixity.specs.Patterns.{IsThePattern}
use Rattle.sml_fixity.specs.ItemNames.{name_of}
use Rattle.sml_fixity.specs.Shapes.{Shape, tree, headed}
use Rattle.sml_reach.specs.declared.reach.Misfit.{Misfit}
use Rattle.sml_reach.specs.Founds.{Atom}
use Rattle.sml_reach.specs.Events.{Event, begins, enters, leaves, directs, expression, pattern, head}
use Rattle.sml_reach.specs.Fits.{Fit, Fitted}
use Rattle.sml_reach.specs.Reach.{State, Outcome, declares, idle, stands, fails, token_of, first_inner, AreItems, IsExpression, IsPattern, IsClauseHead, Happens, Outcomes, fits_before, declarations_in, before_misfit, up_to}
use Rattle.sml_flaws.specs.Known.{use_of, is_at, is_used_in, steps_of, is_used}
use Rattle.sml_flaws.specs.Flaws.{position}
use Rattle.sml_bare.specs.Derivations.{shape_from}
use Rattle.sml_tree_laws.proofs.SequenceTokens.{EventsRise}

-- the tokens go up from lo on
abbrev pub FitsRise : ℕ → List Fit → Type 0
FitsRise lo [] = Unit {0}
FitsRise lo (fit ∷ fits) = (lo ≤ fit.token) × FitsRise (suc fit.token) fits

-- steps are those of a tree that obeys, and is written as the roles of some items
abbrev pub IsBuilt : Shape → Type 0
IsBuilt (tree steps) = (t : Tree) × (m : Map) × (items : List Item) × (steps ≡ postfix t) × Obeys t × (yield t ≡ roles_of m items)
IsBuilt (headed how) = Unit {0}

abbrev pub AreBuilt : List Fit → Type 0
AreBuilt [] = Unit {0}
AreBuilt (fit ∷ fits) = IsBuilt fit.shape × AreBuilt fits

abbrev pub FitsWell : Fitted → Type 0
FitsWell d = FitsRise 0 d.fits × AreBuilt d.fits

fits_lower : (fits : List Fit) (lo lo' : ℕ) → lo' ≤ lo → FitsRise lo fits → FitsRise lo' fits
fits_lower [] lo lo' l h = tt
fits_lower (fit ∷ fits) lo lo' l h = let a = h.0 in (omega (arith, l, a), h.1)

-- the event at which a sequence begins that stands for this

abbrev pub FitsPattern : List Atom → Shape → Type 0
FitsPattern atoms shape = (m : Map) × (items : List Item) × (steps : List Step) × AreItems items atoms × IsThePattern items (roles_of m items) steps × (shape ≡ tree steps)

abbrev pub FitsHead : List Atom → Shape → Type 0
FitsHead atoms shape = (m : Map) × (items : List Item) × (inner : List Item) × (how : Head) × AreItems items atoms × (map name_of inner ≡ first_inner atoms) × IsHead m items inner how × (shape ≡ headed how)

abbrev pub Comes : Fit → Event → Type 0
Comes fit (expression atoms) = fit.token ≡ token_of atoms 0
Comes fit (pattern atoms) = (fit.token ≡ token_of atoms 0) × FitsPattern atoms fit.shape
Comes fit (head atoms) = (fit.token ≡ token_of atoms 0) × FitsHead atoms fit.shape
Comes fit (begins token) = ⊥
Comes fit enters = ⊥
Comes fit leaves = ⊥
Comes fit (directs directive level atoms) = ⊥

abbrev pub ComesFrom : Fit → List Event → Type 0
ComesFrom fit [] = ⊥
ComesFrom fit (e ∷ es) = Comes fit e ⊎ ComesFrom fit es

abbrev pub AllCome : List Fit → List Event → Type 0
AllCome fits es = Every (λ fit. ComesFrom fit es) fits

more_come : (fits : List Fit) (e : Event) (es : List Event) → AllCome fits es → AllCome fits (e ∷ es)
more_come [] e es h = tt
more_come (fit ∷ fits) e es h = (inr h.0, more_come fits e es h.1)

-- of the declarations that begin with these events
abbrev pub Tells : List Event → List Fitted → Type 0
Tells [] ds = Unit {0}
Tells (begins token ∷ es) [] = Unit {0}
Tells (begins token ∷ es) (d ∷ ds) = (FitsWell d × AllCome d.fits es) × Tells es ds
Tells (expression atoms ∷ es) ds = Tells es ds
Tells (pattern atoms ∷ es) ds = Tells es ds
Tells (head atoms ∷ es) ds = Tells es ds
Tells (enters ∷ es) ds = Tells es ds
Tells (leaves ∷ es) ds = Tells es ds
Tells (directs directive level atoms ∷ es) ds = Tells es ds

-- what is known of outcomes, whose sequences begin at lo or after it
abbrev Known : ℕ → List Event → List Outcome → Type 0
Known lo es os = (FitsRise lo (fits_before os) × AreBuilt (fits_before os) × AllCome (fits_before os) es) × Tells es (declarations_in os)

-- an event at which no declaration begins
abbrev Passes : Event → Type 0
Passes e = (es : List Event) (ds : List Fitted) → Tells es ds → Tells (e ∷ es) ds

known_lower : (e : Event) (es : List Event) (os : List Outcome) (lo lo' : ℕ) → Passes e → lo' ≤ lo → Known lo es os → Known lo' (e ∷ es) os
known_lower e es os lo lo' passes l h = ((fits_lower (fits_before os) lo lo' l h.0.0, h.0.1, more_come (fits_before os) e es h.0.2), passes es (declarations_in os) h.1)

stands_known : (e : Event) (es : List Event) (fit : Fit) (os : List Outcome) (lo t : ℕ) → Passes e → fit.token ≡ t → lo ≤ t → IsBuilt fit.shape → Comes fit e → Known (suc t) es os → Known lo (e ∷ es) (stands fit ∷ os)
stands_known e es fit os lo t passes same l b come h =
    ((((omega (arith, same, l)), fits_lower (fits_before os) (suc t) (suc fit.token) (omega (arith, same)) h.0.0), (b, h.0.1), (inl come, more_come (fits_before os) e es h.0.2)), passes es (declarations_in os) h.1)

idle_known : (e : Event) (es : List Event) (o : Outcome) (os : List Outcome) (lo lo' : ℕ) → Passes e → lo' ≤ lo → o ≡ idle → Known lo es os → Known lo' (e ∷ es) (o ∷ os)
idle_known e es o os lo lo' passes l same h = subst (λ o. Known lo' (e ∷ es) (o ∷ os)) (sym same) (known_lower e es os lo lo' passes l h)

tree_built : (fit : Fit) (steps : List Step) (m : Map) (items : List Item) → fit.shape ≡ tree steps → IsTheTree (roles_of m items) steps → IsBuilt fit.shape
tree_built fit steps m items e h = subst IsBuilt (sym e) (h.tree, m, items, h.built, h.obeys, h.written)

expression_known : (s : State) (es : List Event) (atoms : List Atom) (o : Outcome) (os : List Outcome) (lo : ℕ) → lo ≤ token_of atoms 0 → IsExpression s atoms o → Known (suc (token_of atoms 0)) es os → Known lo (expression atoms ∷ es) (o ∷ os)
expression_known s es atoms (stands fit) os lo l h k =
    let t = ap (λ (f : Fit). f.token) h.4 in
    stands_known (expression atoms) es fit os lo (token_of atoms 0) (λ es ds x. x) t l (tree_built fit h.1 s.here h.0 (ap (λ (f : Fit). f.shape) h.4) h.3) t k
expression_known s es atoms (fails m) os lo l h k = known_lower (expression atoms) es os (suc (token_of atoms 0)) lo (λ es ds x. x) (omega (arith, l)) k
expression_known s es atoms idle os lo l h k = absurd h
expression_known s es atoms (declares token) os lo l h k = absurd h

pattern_known : (s : State) (es : List Event) (atoms : List Atom) (o : Outcome) (os : List Outcome) (lo : ℕ) → lo ≤ token_of atoms 0 → IsPattern s atoms o → Known (suc (token_of atoms 0)) es os → Known lo (pattern atoms ∷ es) (o ∷ os)
pattern_known s es atoms (stands fit) os lo l h k =
    let t = ap (λ (f : Fit). f.token) h.4 in
    let shape = ap (λ (f : Fit). f.shape) h.4 in
    stands_known (pattern atoms) es fit os lo (token_of atoms 0) (λ es ds x. x) t l (tree_built fit h.1 s.here h.0 shape h.3.the_tree) (t, (s.here, h.0, h.1, h.2, h.3, shape)) k
pattern_known s es atoms (fails m) os lo l h k = known_lower (pattern atoms) es os (suc (token_of atoms 0)) lo (λ es ds x. x) (omega (arith, l)) k
pattern_known s es atoms idle os lo l h k = absurd h
pattern_known s es atoms (declares token) os lo l h k = absurd h

head_known : (s : State) (es : List Event) (atoms : List Atom) (o : Outcome) (os : List Outcome) (lo : ℕ) → lo ≤ token_of atoms 0 → IsClauseHead s atoms o → Known (suc (token_of atoms 0)) es os → Known lo (head atoms ∷ es) (o ∷ os)
head_known s es atoms (stands fit) os lo l h k =
    let t = ap (λ (f : Fit). f.token) h.6 in
    let shape = ap (λ (f : Fit). f.shape) h.6 in
    stands_known (head atoms) es fit os lo (token_of atoms 0) (λ es ds x. x) t l (subst IsBuilt (sym shape) tt) (t, (s.here, h.0, h.1, h.2, h.3, h.4, h.5, shape)) k
head_known s es atoms (fails m) os lo l h k = known_lower (head atoms) es os (suc (token_of atoms 0)) lo (λ es ds x. x) (omega (arith, l)) k
head_known s es atoms idle os lo l h k = absurd h
head_known s es atoms (declares token) os lo l h k = absurd h

-- a sequence of patterns or expressions: there is none where no atomic phrase is
expressions_known : (s : State) (es : List Event) (atoms : List Atom) (o : Outcome) (os : List Outcome) (lo : ℕ) → lo ≤ token_of atoms 0 → (atoms ≡ [] → o ≡ idle) → (0 < length atoms → IsExpression s atoms o)
    → Known (suc (token_of atoms 0)) es os → Known lo (expression atoms ∷ es) (o ∷ os)
expressions_known s es [] o os lo l none some k = idle_known (expression []) es o os (suc (token_of [] 0)) lo (λ es ds x. x) (omega (arith, l)) (none refl) k
expressions_known s es (a ∷ atoms) o os lo l none some k = expression_known s es (a ∷ atoms) o os lo l (some (omega arith)) k

patterns_known : (s : State) (es : List Event) (atoms : List Atom) (o : Outcome) (os : List Outcome) (lo : ℕ) → lo ≤ token_of atoms 0 → (atoms ≡ [] → o ≡ idle) → (0 < length atoms → IsPattern s atoms o)
    → Known (suc (token_of atoms 0)) es os → Known lo (pattern atoms ∷ es) (o ∷ os)
patterns_known s es [] o os lo l none some k = idle_known (pattern []) es o os (suc (token_of [] 0)) lo (λ es ds x. x) (omega (arith, l)) (none refl) k
patterns_known s es (a ∷ atoms) o os lo l none some k = pattern_known s es (a ∷ atoms) o os lo l (some (omega arith)) k

directs_known : (text : ℕ → Id) (s t : State) (es : List Event) (directive : Directive) (level : Option ℕ) (atoms : List Atom) (o : Outcome) (os : List Outcome) (lo : ℕ) → Happens text s (directs directive level atoms) o t
    → Known lo es os → Known lo (directs directive level atoms ∷ es) (o ∷ os)
directs_known text s t es directive level atoms idle os lo h k = known_lower (directs directive level atoms) es os lo lo (λ es ds x. x) (omega arith) k
directs_known text s t es directive level atoms (fails m) os lo h k = known_lower (directs directive level atoms) es os lo lo (λ es ds x. x) (omega arith) k
directs_known text s t es directive level atoms (stands fit) os lo h k = absurd h
directs_known text s t es directive level atoms (declares token) os lo h k = absurd h

outcomes_known : (text : ℕ → Id) (s : State) (events : List Event) (all : List Outcome) (lo : ℕ) → Outcomes text s events all → EventsRise lo events → Known lo events all
outcomes_known text s [] all lo h r = subst (Known lo []) (sym h) ((tt, tt, tt), tt)
outcomes_known text s (begins token ∷ events) all lo h r =
    let rest = outcomes_known text h.1 events h.2 lo h.4 r in
    subst (Known lo (begins token ∷ events)) (sym h.5) (subst (λ o. Known lo (begins token ∷ events) (o ∷ h.2)) (sym h.3.0) ((tt, tt, tt), (((fits_lower (fits_before h.2) lo 0 (omega arith) rest.0.0, rest.0.1), rest.0.2), rest.1)))
outcomes_known text s (enters ∷ events) all lo h r =
    subst (Known lo (enters ∷ events)) (sym h.5) (idle_known enters events h.0 h.2 lo lo (λ es ds x. x) (omega arith) h.3.0 (outcomes_known text h.1 events h.2 lo h.4 r))
outcomes_known text s (leaves ∷ events) all lo h r =
    subst (Known lo (leaves ∷ events)) (sym h.5) (idle_known leaves events h.0 h.2 lo lo (λ es ds x. x) (omega arith) h.3.0 (outcomes_known text h.1 events h.2 lo h.4 r))
outcomes_known text s (directs directive level atoms ∷ events) all lo h r =
    subst (Known lo (directs directive level atoms ∷ events)) (sym h.5) (directs_known text s h.1 events directive level atoms h.0 h.2 lo h.3 (outcomes_known text h.1 events h.2 lo h.4 r))
outcomes_known text s (expression atoms ∷ events) all lo h r =
    subst (Known lo (expression atoms ∷ events)) (sym h.5) (expressions_known s events atoms h.0 h.2 lo r.0 h.3.0 h.3.1 (outcomes_known text h.1 events h.2 (suc (token_of atoms 0)) h.4 r.1))
outcomes_known text s (pattern atoms ∷ events) all lo h r =
    subst (Known lo (pattern atoms ∷ events)) (sym h.5) (patterns_known s events atoms h.0 h.2 lo r.0 h.3.0 h.3.1 (outcomes_known text h.1 events h.2 (suc (token_of atoms 0)) h.4 r.1))
outcomes_known text s (head atoms ∷ events) all lo h r =
    subst (Known lo (head atoms ∷ events)) (sym h.5) (head_known s events atoms h.0 h.2 lo r.0 h.3.0 (outcomes_known text h.1 events h.2 (suc (token_of atoms 0)) h.4 r.1))

tells_taken : (es : List Event) (n : ℕ) (ds : List Fitted) → Tells es ds → Tells es (take n ds)
tells_taken [] n ds h = tt
tells_taken (begins token ∷ es) zero ds h = tt
tells_taken (begins token ∷ es) (suc n) [] h = tt
tells_taken (begins token ∷ es) (suc n) (d ∷ ds) h = (h.0, tells_taken es n ds h.1)
tells_taken (expression atoms ∷ es) n ds h = tells_taken es n ds h
tells_taken (pattern atoms ∷ es) n ds h = tells_taken es n ds h
tells_taken (head atoms ∷ es) n ds h = tells_taken es n ds h
tells_taken (enters ∷ es) n ds h = tells_taken es n ds h
tells_taken (leaves ∷ es) n ds h = tells_taken es n ds h
tells_taken (directs directive level atoms ∷ es) n ds h = tells_taken es n ds h

pub tells_none : (es : List Event) → Tells es []
tells_none [] = tt
tells_none (begins token ∷ es) = tt
tells_none (expression atoms ∷ es) = tells_none es
tells_none (pattern atoms ∷ es) = tells_none es
tells_none (head atoms ∷ es) = tells_none es
tells_none (enters ∷ es) = tells_none es
tells_none (leaves ∷ es) = tells_none es
tells_none (directs directive level atoms ∷ es) = tells_none es

-- those before a misfit
pub all_fit : (text : ℕ → Id) (s : State) (events : List Event) (all : List Outcome) (lo : ℕ) (m : Option Misfit) → Outcomes text s events all → EventsRise lo events
    → Tells events (up_to (before_misfit m) (declarations_in all))
all_fit text s events all lo None h r = (outcomes_known text s events all lo h r).1
all_fit text s events all lo (Some m) h r = tells_taken events (m.number - 1) (declarations_in all) (outcomes_known text s events all lo h r).1

-- the sequence with a token, among fits that go up

pub built_of : (fits : List Fit) (n : ℕ) (shape : Shape) → AreBuilt fits → shape_from fits n ≡ Some shape → IsBuilt shape
built_of [] n shape h e = cc
built_of (fit ∷ fits) n shape h e = go (fit.token == n) e (built_of fits n shape h.1)
  where
    go : (b : Bool) → (if b then Some fit.shape else shape_from fits n) ≡ Some shape → (shape_from fits n ≡ Some shape → IsBuilt shape) → IsBuilt shape
    go true e more = subst IsBuilt (same_Some _ _ e) h.0
    go false e more = more e

module _ (n i : ℕ) where
  other_uses : (m : ℕ) (steps : List Step) → (m == n) ≡ false → is_used_in m steps (position n i) ≡ false
  other_uses m [] e = refl
  other_uses m (step ∷ steps) e = go (use_of step (slice_get steps 1)) (other_uses m steps e)
    where
      go : (o : Option ℕ) → is_used_in m steps (position n i) ≡ false → (if is_at o m (position n i) then true else is_used_in m steps (position n i)) ≡ false
      go None more = more
      go (Some k) more = subst (λ b. (if b && (k == i) then true else is_used_in m steps (position n i)) ≡ false) (sym e) more

  apart : (m : ℕ) → n < m → (m == n) ≡ false
  apart m l = go (m == n) refl
    where
      go : (b : Bool) → (m == n) ≡ b → b ≡ false
      go true e = let s = eqb-true m n e in absurd (omega (arith, l, s))
      go false e = refl

  later_uses : (fits : List Fit) (lo : ℕ) → n < lo → FitsRise lo fits → is_used fits (position n i) ≡ false
  later_uses [] lo l h = refl
  later_uses (fit ∷ fits) lo l h =
      let a = h.0 in
      ap (λ b. if b then true else is_used fits (position n i)) (other_uses fit.token (steps_of fit.shape) (apart fit.token (omega (arith, l, a))))
      ∙ later_uses fits (suc fit.token) (omega (arith, l, a)) h.1

  -- what its steps don't use isn't used
  pub not_used : (fits : List Fit) (lo : ℕ) (steps : List Step) → FitsRise lo fits → shape_from fits n ≡ Some (tree steps) → is_used_in n steps (position n i) ≡ false → is_used fits (position n i) ≡ false
  not_used [] lo steps h e k = cc
  not_used (fit ∷ fits) lo steps h e k = go (fit.token == n) refl e (λ f. not_used fits (suc fit.token) steps h.1 f k)
    where
      go : (b : Bool) → (fit.token == n) ≡ b → (if b then Some fit.shape else shape_from fits n) ≡ Some (tree steps) → (shape_from fits n ≡ Some (tree steps) → is_used fits (position n i) ≡ false)
          → is_used (fit ∷ fits) (position n i) ≡ false
      go true same e more =
          let t = eqb-true fit.token n same in
          ap (λ b. if b then true else is_used fits (position n i)) (ap (λ m. is_used_in m (steps_of fit.shape) (position n i)) t ∙ ap (λ q. is_used_in n (steps_of q) (position n i)) (same_Some _ _ e) ∙ k)
          ∙ later_uses fits (suc fit.token) (omega (arith, t)) h.1
      go false same e more = ap (λ b. if b then true else is_used fits (position n i)) (other_uses fit.token (steps_of fit.shape) same) ∙ more e

-- where no sequence begins nothing is used
pub none_used : (fits : List Fit) (n i : ℕ) → Every (λ fit. fit.token ≡ n → ⊥) fits → is_used fits (position n i) ≡ false
none_used [] n i h = refl
none_used (fit ∷ fits) n i h = ap (λ b. if b then true else is_used fits (position n i)) (other_uses n i fit.token (steps_of fit.shape) (unlike fit.token h.0)) ∙ none_used fits n i h.1
  where
    unlike : (m : ℕ) → (m ≡ n → ⊥) → (m == n) ≡ false
    unlike m f = go (m == n) refl
      where
        go : (b : Bool) → (m == n) ≡ b → b ≡ false
        go true e = absurd (f (eqb-true m n e))
        go false e = refl
