-- A type is the same in every case where it has a scheme without variables, nothing being bound.
use Rattle.std.proofs.Common.{◌≡◌, ◌⊎◌, ◌<◌, ◌≤◌, ◌+◌, ◌^◌, ℕ, zero, suc, Bool, true, false, cond, Option, Some, None, Result, Ok, Err, Global, List, [], ◌∷◌, map, slice_index_or, inl, inr, sym, ◌∙◌, ap, subst, refl, arith, nat_eq}
use Rattle.std.specs.Prelude.{option_map}
use Rattle.std.specs.List.{AllByRecursion}
use Rattle.std.proofs.lemmas.Bool.{eqb-true, eq-eqb}
use Rattle.sml_lex.specs.declared.fault.Place.{Place}
use Rattle.sml_objects.specs.Appearance.{Stands}
use Rattle.sml_objects.specs.Fates.{close_as, substitutes, standing_for, type_or}
use Rattle.sml_objects.specs.Initial.{Name, initial, naming}
use Rattle.sml_objects.specs.Names.{int}
use Rattle.sml_objects.specs.Objects.{MlType, MlTypes, Scheme, bound, free, app, no_type, and_type, named}
use Rattle.sml_objects.specs.Sizes.{type_size}
use Rattle.sml_objects.specs.Types.{assign, replace_type, replace_types, variables_after, index_among}
use Rattle.sml_objects.specs.Views.{type_of, scheme_of}
use Rattle.sml_objects.specs.declared.fates.Fate.{Fate}
use Rattle.sml_objects.specs.declared.fates.Fate.TheVariants.{Bind, Keep, Default}
use Rattle.sml_objects.specs.declared.objects.Scheme as Q
use Rattle.sml_layers.specs.declared.layer.Layer.TheVariants.{Finiteness, Classes, Rigidity}
use Rattle.sml_layers.specs.Worlds.{Assignment, finite}
use Rattle.sml_graph.specs.Asked.{Asked}
use Rattle.sml_graph.specs.Interned.{IsOver, AreOver}
use Rattle.sml_graph.specs.Said.{by_list}
use Rattle.sml_schemes.specs.Left.{IsMadeOf, AreMadeOf, IsMostGeneral}
use Rattle.sml_solve.proofs.Uniqueness.{variables-made}
use Rattle.sml_core_rules.proofs.Lower.{lower}
use Rattle.sml_core_rules.proofs.Schemes.{variables-left}
use Rattle.sml_core_rules.specs.Scopes.{run_scope}
use Rattle.sml_core_rules.specs.Solutions as C
use Rattle.sml_core_rules.specs.Solutions.{Meets}
use Rattle.sml_core_rules.specs.States.{State}
use Rattle.sml_asks.specs.Closings.{IsSchemeUpTo, AsksScheme}
use Rattle.sml_asks.specs.Determined.{AsksOutcome, IsOutcome, IsSameOrSeveral, LeavesNone}
use Rattle.sml_asks.specs.Solvers.{SolverIs}
use Rattle.sml_asks.specs.declared.outcomes.Outcome.{Outcome}
use Rattle.sml_asks.specs.declared.outcomes.Outcome.TheVariants.{Same, Large, Several}
use Rattle.sml_asks.proofs.Choosing.{one-of-several}
use Rattle.sml_asks.proofs.Leaving.{lowered}
use Rattle.sml_asks.proofs.Variables.{back}

-- what stands for a variable, by its fate

abbrev image : ℕ → Fate → Option (MlType Name)
image k (Bind e) = Some (bound k)
image k Keep = None
image k Default = Some (named (initial int))

abbrev later : ℕ → Fate → ℕ
later k (Bind e) = suc k
later k Keep = k
later k Default = k

first-image : (k : ℕ) (f : Fate) (fs : List Fate) → substitutes (named (initial int)) k (f ∷ fs) ≡ image k f ∷ substitutes (named (initial int)) (later k f) fs
first-image k (Bind e) fs = refl
first-image k Keep fs = refl
first-image k Default fs = refl

module _ (fate : ℕ → Fate) (w : ℕ) (found : Option (MlType Name)) (so : (k : ℕ) → image k (fate w) ≡ found) where
  image-at : (k : ℕ) (vs : List ℕ) → Stands w vs → slice_index_or (substitutes (named (initial int)) k (map fate vs)) (index_among w vs) None ≡ found
  unfolding Stands index_among
  image-at k [] h = absurd h
  image-at k (v ∷ vs) h =
      ap (λ ts. slice_index_or ts (cond (nat_eq w v) 0 (suc (index_among w vs))) None) (first-image k (fate v) (map fate vs)) ∙ go (nat_eq w v) refl h (λ s. image-at (later k (fate v)) vs s)
    where
      go : (b : Bool) → nat_eq w v ≡ b → (w ≡ v) ⊎ Stands w vs
          → (Stands w vs → slice_index_or (substitutes (named (initial int)) (later k (fate v)) (map fate vs)) (index_among w vs) None ≡ found)
          → slice_index_or (image k (fate v) ∷ substitutes (named (initial int)) (later k (fate v)) (map fate vs)) (cond b 0 (suc (index_among w vs))) None ≡ found
      go true e s rest = ap (λ u. image k (fate u)) (sym (eqb-true w v e)) ∙ so k
      go false e (inl q) rest = absurd (let f : false ≡ true = sym e ∙ eq-eqb w v q in cc)
      go false e (inr s) rest = rest s

module _ (sub : Assignment Name finite) where
  mutual
    unfolding replace_type replace_types IsOver AreOver IsMadeOf AreMadeOf

    over-made : (n : ℕ) (r : MlType Name) → IsOver n (assign sub r) → IsMadeOf (λ w. IsOver n (sub w)) r
    over-made n (bound k) h = h
    over-made n (free w) h = h
    over-made n (app f ts) h = all-over-made n ts h

    all-over-made : (n : ℕ) (ts : MlTypes Name) → AreOver n (replace_types bound sub ts) → AreMadeOf (λ w. IsOver n (sub w)) ts
    all-over-made n no_type h = tt
    all-over-made n (and_type t ts) h = (over-made n t h.0, all-over-made n ts h.1)

all-at : (P : ℕ → Type 0) (vs : List ℕ) → AllByRecursion P vs → (w : ℕ) → Stands w vs → P w
unfolding Stands
all-at P [] a w h = absurd h
all-at P (v ∷ vs) a w (inl e) = subst P (sym e) a.0
all-at P (v ∷ vs) a w (inr h) = all-at P vs a.1 w h

abbrev ints : Assignment Name finite
ints w = named (initial int)

module _ (unit : ℕ) (s : State Place Name) where
  mutual
    unfolding replace_type replace_types IsOver AreOver C.IsOfLeft C.AreOfLeft

    ints-over : (r : MlType Name) → C.IsOfLeft (run_scope unit) s r → IsOver 0 (assign ints r)
    ints-over (bound k) h = h
    ints-over (free w) h = tt
    ints-over (app f ts) h = all-ints-over ts h

    all-ints-over : (ts : MlTypes Name) → C.AreOfLeft (run_scope unit) s ts → AreOver 0 (replace_types bound ints ts)
    all-ints-over no_type h = tt
    all-ints-over (and_type t ts) h = (ints-over t h.0, all-ints-over ts h.1)

  module _ (n : ℕ) (r : MlType Name) (fate : ℕ → Fate) (fates : AllByRecursion (λ v. C.IsFateOf (run_scope unit) s n true v (fate v)) (variables_after [] r)) where
    sub : Assignment Name finite
    sub w = standing_for (variables_after [] r) (substitutes (named (initial int)) 0 (map fate (variables_after [] r))) w

    kept-so : (w : ℕ) → Stands w (variables_after [] r) → fate w ≡ Keep → sub w ≡ free w
    unfolding sub
    kept-so w h e = ap (type_or (free w)) (image-at fate w None (λ k. ap (image k) e) 0 (variables_after [] r) h)

    default-so : (w : ℕ) → Stands w (variables_after [] r) → fate w ≡ Default → sub w ≡ named (initial int)
    unfolding sub
    default-so w h e = ap (type_or (free w)) (image-at fate w (Some (named (initial int))) (λ k. ap (image k) e) 0 (variables_after [] r) h)

    is-fate : (w : ℕ) → Stands w (variables_after [] r) → C.IsFateOf (run_scope unit) s n true w (fate w)
    is-fate w h = all-at (λ v. C.IsFateOf (run_scope unit) s n true v (fate v)) (variables_after [] r) fates w h

    -- where no variable stands in the scheme

    ground-agrees : IsOver 0 (assign sub r) → (σ : Assignment Name finite) → Meets (run_scope unit) s Rigidity σ → (w : ℕ) → Stands w (variables_after [] r) → σ w ≡ sub w
    unfolding IsOver C.IsInt naming
    ground-agrees over σ met w h = go (fate w) refl (is-fate w h)
      where
        go : (f : Fate) → fate w ≡ f → C.IsFateOf (run_scope unit) s n true w f → σ w ≡ sub w
        go (Bind e) q i = let x : true ≡ false = i.1 in absurd cc
        go Keep q i =
            let x : IsOver 0 (sub w) = all-at (λ w. IsOver 0 (sub w)) (variables_after [] r) (variables-made (λ w. IsOver 0 (sub w)) [] r tt (over-made sub 0 r over)) w h in
            let y : w < 0 = subst (IsOver 0) (kept-so w h q) x in absurd (omega (arith, y))
        go Default q i = i σ (lower by_list Classes Rigidity (omega arith) σ s.demands met) ∙ sym (default-so w h q)

    -- a variable that stays, or none

    one-kept : (vs : List ℕ) → ((w : ℕ) → Stands w vs → Stands w (variables_after [] r))
        → ((w : ℕ) × Stands w (variables_after [] r) × (fate w ≡ Keep)) ⊎ ((w : ℕ) → Stands w vs → fate w ≡ Default)
    unfolding Stands
    one-kept [] in-them = inr (λ w h. absurd h)
    one-kept (v ∷ vs) in-them = go (fate v) refl (is-fate v (in-them v (inl refl))) (one-kept vs (λ w h. in-them w (inr h)))
      where
        go : (f : Fate) → fate v ≡ f → C.IsFateOf (run_scope unit) s n true v f
            → ((w : ℕ) × Stands w (variables_after [] r) × (fate w ≡ Keep)) ⊎ ((w : ℕ) → Stands w vs → fate w ≡ Default)
            → ((w : ℕ) × Stands w (variables_after [] r) × (fate w ≡ Keep)) ⊎ ((w : ℕ) → Stands w (v ∷ vs) → fate w ≡ Default)
        go (Bind e) q i rest = let x : true ≡ false = i.1 in absurd cc
        go Keep q i rest = inl (v, in-them v (inl refl), q)
        go Default q i (inl x) = inl x
        go Default q i (inr x) = inr (λ w h. elim h [ inl e ↦ ap fate e ∙ q | inr k ↦ x w k ])

    some-kept : C.IsOfLeft (run_scope unit) s r → (IsOver 0 (assign sub r) → ⊥) → (w : ℕ) × Stands w (variables_after [] r) × (fate w ≡ Keep)
    some-kept left not-ground = go (one-kept (variables_after [] r) (λ w h. h))
      where
        go : ((w : ℕ) × Stands w (variables_after [] r) × (fate w ≡ Keep)) ⊎ ((w : ℕ) → Stands w (variables_after [] r) → fate w ≡ Default)
            → (w : ℕ) × Stands w (variables_after [] r) × (fate w ≡ Keep)
        go (inl x) = x
        go (inr x) = absurd (not-ground (subst (IsOver 0) (sym (back sub ints r [] (λ w h. default-so w h (x w h))).0) (ints-over r left)))

  -- the body of the scheme is this type
  body-is : (r : MlType Name) (fate : ℕ → Fate) (θ : Scheme Name) → θ ≡ close_as (named (initial int)) (map fate (variables_after [] r)) r
      → θ.body ≡ assign (λ w. standing_for (variables_after [] r) (substitutes (named (initial int)) 0 (map fate (variables_after [] r))) w) r
  unfolding close_as
  body-is r fate θ e = ap (λ (θ : Scheme Name). θ.body) e

  pub ground-always : (n : ℕ) (t : MlType Name) (θ : Scheme Name) → C.IsScheme (run_scope unit) s n true t θ → IsOver 0 θ.body → C.IsAlways (run_scope unit) s t θ.body
  unfolding C.IsScheme C.StandsFor C.IsAlways sub naming
  ground-always n t θ (r, stands, fate, fates, e) over σ met =
      let b : θ.body ≡ assign (sub n r fate fates) r = body-is r fate θ e in
      sym (stands.1 σ (lower by_list Finiteness Rigidity (omega arith) σ s.demands met))
      ∙ ((back σ (sub n r fate fates) r [] (ground-agrees n r fate fates (subst (IsOver 0) b over) σ met)).0 ∙ sym b)

  pub not-always : (next : ℕ) (solver : Asked) (n : ℕ) (t : MlType Name) (θ : Scheme Name) → SolverIs unit next solver s → IsMostGeneral solver → C.IsScheme (run_scope unit) s n true t θ
      → (IsOver 0 θ.body → ⊥) → LeavesNone unit s t → (u : MlType Name) → C.IsAlways (run_scope unit) s t u → ⊥
  unfolding C.IsScheme C.StandsFor sub naming
  not-always next solver n t θ is general (r, stands, fate, fates, e) not-ground leaves u always =
      let b : θ.body ≡ assign (sub n r fate fates) r = body-is r fate θ e in
      let x : (w : ℕ) × Stands w (variables_after [] r) × (fate w ≡ Keep) = some-kept n r fate fates stands.0 (λ over. not-ground (subst (IsOver 0) (sym b) over)) in
      let left : C.IsLeft (run_scope unit) s x.0 = all-at (C.IsLeft (run_scope unit) s) (variables_after [] r) (variables-left (run_scope unit) s [] r tt stands.0) x.0 x.1 in
      one-of-several unit next solver s is general t r leaves stands x.0 x.1 left u always

-- the call

large-outcome : (unit next : ℕ) (solver : Asked) (s : State Place Name) (t : MlType Name) (limit : ℕ) → SolverIs unit next solver s
    → ((σ : Assignment Name finite) → Meets (run_scope unit) s Finiteness σ → limit < type_size (assign σ t)) → IsOutcome unit s t limit Large
unfolding C.IsAlways
large-outcome unit next solver s t limit is large u always =
    subst (λ r. limit < type_size r) (always is.met.0 is.met.1) (large is.met.0 (lowered unit next solver s is is.met.0 is.met.1))

pub large-after : (old new : Asked) (t : MlType Name) (flags : List Bool) (limit : ℕ) → AsksScheme old t flags true limit None new → AsksOutcome old t limit Large new
unfolding AsksScheme AsksOutcome
large-after old new t flags limit asked unit next s is over small =
    let x : IsSchemeUpTo unit s 0 true t limit None × SolverIs unit next new s = asked unit next 0 s is over (λ e. let f : true ≡ false = e in absurd cc) small in
    (large-outcome unit next new s t limit x.1 x.0.2, x.1)

outcome : (unit next : ℕ) (new : Asked) (s : State Place Name) (t : MlType Name) (limit : ℕ) (θ : Scheme Name) (found : Outcome) → IsSameOrSeveral θ.body found → SolverIs unit next new s
    → IsMostGeneral new → C.IsScheme (run_scope unit) s 0 true t θ → type_size θ.body ≤ limit → IsOutcome unit s t limit found
outcome unit next new s t limit θ (Same u) same is general scheme within =
    subst (λ r. C.IsAlways (run_scope unit) s t r × (type_size r ≤ limit)) (sym same.0) (ground-always unit s 0 t θ scheme same.1, within)
outcome unit next new s t limit θ Large same is general scheme within = absurd same
outcome unit next new s t limit θ Several same is general scheme within = λ leaves u always. not-always unit s next new 0 t θ is general scheme same leaves u always

pub outcome-after : (old new : Asked) (t : MlType Name) (flags : List Bool) (limit : ℕ) (θ : Scheme Name) (found : Outcome) → AsksScheme old t flags true limit (Some θ) new
    → IsMostGeneral new → IsSameOrSeveral θ.body found → AsksOutcome old t limit found new
unfolding AsksScheme AsksOutcome
outcome-after old new t flags limit θ found asked general same unit next s is over small =
    let x : IsSchemeUpTo unit s 0 true t limit (Some θ) × SolverIs unit next new s = asked unit next 0 s is over (λ e. let f : true ≡ false = e in absurd cc) small in
    (outcome unit next new s t limit θ found same x.1 general x.0.0 x.0.1, x.1)
