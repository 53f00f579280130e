-- What a solver leaves of unknown types is what its state leaves of them.
use Rattle.std.proofs.Common.{◌≡◌, ◌≢◌, ◌↔◌, ◌⊎◌, ◌<◌, ℕ, List, [], ◌∷◌, map, inl, inr, sym, ◌∙◌, ap, subst, arith}
use Rattle.std.specs.List.{AllByRecursion}
use Rattle.sml_lex.specs.declared.fault.Place.{Place}
use Rattle.sml_objects.specs.Initial.{Name, initial, naming}
use Rattle.sml_objects.specs.Names.{Initial, int}
use Rattle.sml_objects.specs.Objects.{MlType, MlTypes, bound, free, app, row, no_type, and_type, named, types_of}
use Rattle.sml_objects.specs.Types.{assign, replace_type}
use Rattle.sml_layers.specs.declared.layer.Layer.{Layer}
use Rattle.sml_layers.specs.declared.layer.Layer.TheVariants.{Finiteness, Equality, Classes, Rigidity}
use Rattle.sml_layers.specs.Demands.{AllHold}
use Rattle.sml_layers.specs.Worlds.{Assignment, finite, world}
use Rattle.sml_graph.specs.Asked.{Asked, Permits}
use Rattle.sml_graph.specs.Said.{demand_of, by_number, by_list, Says}
use Rattle.sml_graph.proofs.Rowing.{list_of, types-list_of}
use Rattle.sml_schemes.specs.Left as L
use Rattle.sml_schemes.specs.Fixed as F
use Rattle.sml_schemes.specs.Schemes as S
use Rattle.sml_demands.specs.Overloaded as O
use Rattle.sml_core_rules.specs.Scopes.{run_scope}
use Rattle.sml_core_rules.specs.Solutions as C
use Rattle.sml_core_rules.specs.Solutions.{Meets}
use Rattle.sml_core_rules.specs.States.{State}
use Rattle.sml_core_rules.proofs.Lower.{lower}
use Rattle.sml_asks.specs.Solvers.{SolverIs, IsTypeIn}
use Rattle.sml_asks.proofs.Giving.{given-assigned, given-named}
use Rattle.sml_asks.proofs.Moving.{away, moved-admits, was-named, was-row}
use Rattle.sml_asks.proofs.Rebinding.{moves, mentions-kept, initial-kept, kept, to-list, to-number, to-finite}

module _ (unit next : ℕ) (solver : Asked) (s : State Place Name) (is : SolverIs unit next solver s) where
  move : MlType Name → MlType Name
  move t = moves unit next s.names is.known is.counted t

  says : (l : Layer) (σ : Assignment Name (world l)) → Permits l solver σ ↔ AllHold (by_number unit) (world l) l σ (map demand_of is.demands)
  unfolding Says
  says l σ = subst (λ u. Permits l solver σ ↔ AllHold (by_number u) (world l) l σ (map demand_of is.demands)) is.maker (is.says l σ)

  -- which types are permitted

  pub permits : (l : Layer) (σ : Assignment Name (world l)) → Meets (run_scope unit) s l σ → Permits l solver σ
  permits l σ h = (says l σ).1 (to-number unit next s.names is.known is.counted s.made (world l) is.demands s.demands is.same l σ h)

  pub meets-finite : (σ : Assignment Name finite) → Permits Finiteness solver σ → Meets (run_scope unit) s Finiteness σ
  meets-finite σ h = to-finite unit next s.names is.known is.counted s.made is.demands s.demands is.same σ ((says Finiteness σ).0 h)

  meets-equality : (σ : Assignment Name finite) → Permits Equality solver σ → Meets (run_scope unit) s Equality (λ v. move (σ v))
  unfolding move
  meets-equality σ h = to-list unit next s.names is.known is.counted s.made is.demands s.demands is.same Equality σ ((says Equality σ).0 h)

  meets-classes : (σ : Assignment Name finite) → Permits Classes solver σ → Meets (run_scope unit) s Classes (λ v. move (σ v))
  unfolding move
  meets-classes σ h = to-list unit next s.names is.known is.counted s.made is.demands s.demands is.same Classes σ ((says Classes σ).0 h)

  meets-rigidity : (σ : Assignment Name finite) → Permits Rigidity solver σ → Meets (run_scope unit) s Rigidity (λ v. move (σ v))
  unfolding move
  meets-rigidity σ h = to-list unit next s.names is.known is.counted s.made is.demands s.demands is.same Rigidity σ ((says Rigidity σ).0 h)

  pub lowered : (σ : Assignment Name finite) → Meets (run_scope unit) s Rigidity σ → Meets (run_scope unit) s Finiteness σ
  lowered σ h = lower by_list Finiteness Rigidity (omega arith) σ s.demands h

  -- what they leave by the equations

  may-be : (v : ℕ) (t : MlType Name) → C.MayBe (run_scope unit) s v t ↔ L.MayBe Finiteness solver v t
  unfolding C.MayBe L.MayBe
  may-be v t = (λ m. (m.0, permits Finiteness m.0 m.1, m.2), λ m. (m.0, meets-finite m.0 m.1, m.2))

  pub free-same : (v : ℕ) → C.IsFree (run_scope unit) s v ↔ L.IsFree solver v
  free-same v = (λ f t. (may-be v t).0 (f t), λ f t. (may-be v t).1 (f t))

  labels-same : (t : MlType Name) → C.HasOneSetOfLabels (run_scope unit) s Finiteness t ↔ L.HasOneSetOfLabels Finiteness solver t
  unfolding C.HasOneSetOfLabels L.HasOneSetOfLabels
  labels-same t = (λ o. (o.0, λ σ h. o.1 σ (meets-finite σ h)), λ o. (o.0, λ σ h. o.1 σ (permits Finiteness σ h)))

  pub flexible-same : (v : ℕ) → C.IsFlexible (run_scope unit) s v ↔ L.IsFlexible solver v
  flexible-same v = (
    λ f. record { is_row = λ σ h. f.0 σ (meets-finite σ h); several = λ o. f.1 ((labels-same (free v)).1 o) },
    λ f. ((λ σ h. f.is_row σ (permits Finiteness σ h)), λ o. f.several ((labels-same (free v)).0 o)),
  )

  pub undetermined-same : (v : ℕ) → (C.IsFree (run_scope unit) s v ⊎ C.IsFlexible (run_scope unit) s v) ↔ L.IsUndetermined solver v
  undetermined-same v = (there, back)
    where
      there : C.IsFree (run_scope unit) s v ⊎ C.IsFlexible (run_scope unit) s v → L.IsUndetermined solver v
      there (inl f) = inl ((free-same v).0 f)
      there (inr f) = inr ((flexible-same v).0 f)

      back : L.IsUndetermined solver v → C.IsFree (run_scope unit) s v ⊎ C.IsFlexible (run_scope unit) s v
      back (inl f) = inl ((free-same v).1 f)
      back (inr f) = inr ((flexible-same v).1 f)

  pub left-same : (v : ℕ) → C.IsLeft (run_scope unit) s v ↔ L.IsLeft solver v
  left-same v = (
    λ h. record {
      known = subst (λ n. v < n) (sym is.unknowns) h.0;
      undetermined = (undetermined-same v).0 h.1;
      first = λ u k. let x : (σ : Assignment Name finite) × Meets (run_scope unit) s Finiteness σ × (σ u ≢ σ v) = h.2 u k in (x.0, permits Finiteness x.0 x.1, x.2);
    },
    λ h. (
      subst (λ n. v < n) is.unknowns h.known,
      (undetermined-same v).1 h.undetermined,
      λ u k.
          let x : (σ : Assignment Name finite) × Permits Finiteness solver σ × (σ u ≢ σ v) = h.first u k in (x.0, meets-finite x.0 x.1, x.2),
    ),
  )

  mutual
    unfolding C.IsOfLeft C.AreOfLeft L.IsMadeOf L.AreMadeOf

    made-same : (t : MlType Name) → C.IsOfLeft (run_scope unit) s t ↔ L.IsMadeOf (L.IsLeft solver) t
    made-same (bound k) = (λ h. h, λ h. h)
    made-same (free v) = left-same v
    made-same (app h ts) = all-made-same ts

    all-made-same : (ts : MlTypes Name) → C.AreOfLeft (run_scope unit) s ts ↔ L.AreMadeOf (L.IsLeft solver) ts
    all-made-same no_type = (λ h. h, λ h. h)
    all-made-same (and_type t ts) = (λ h. ((made-same t).0 h.0, (all-made-same ts).0 h.1), λ h. ((made-same t).1 h.0, (all-made-same ts).1 h.1))

  pub reading-same : (t r : MlType Name) → C.StandsFor (run_scope unit) s t r ↔ L.IsReading solver t r
  unfolding C.StandsFor L.IsReading
  reading-same t r = (
    λ h. ((made-same r).0 h.0, λ σ k. h.1 σ (meets-finite σ k)),
    λ h. ((made-same r).1 h.0, λ σ k. h.1 σ (permits Finiteness σ k)),
  )

  free-all : (σ τ : Assignment Name finite) (ws : List ℕ)
      → AllByRecursion (λ t. assign σ t ≡ assign τ t) (map free ws) ↔ AllByRecursion (λ w. σ w ≡ τ w) ws
  unfolding replace_type
  free-all σ τ [] = (λ h. tt, λ h. tt)
  free-all σ τ (w ∷ ws) = (λ h. (h.0, (free-all σ τ ws).0 h.1), λ h. (h.0, (free-all σ τ ws).1 h.1))

  pub fixed-same : (n : ℕ) (ws : List ℕ) (v : ℕ) → C.IsFixed (run_scope unit) s n (map free ws) v ↔ F.IsFixed solver n ws v
  unfolding C.IsFixed F.IsFixed
  fixed-same n ws v = (
    λ f σ τ h k low others. f σ τ (meets-finite σ h) (meets-finite τ k) low ((free-all σ τ ws).1 others),
    λ f σ τ h k low others. f σ τ (permits Finiteness σ h) (permits Finiteness τ k) low ((free-all σ τ ws).0 others),
  )

  -- and by what is asked of types

  pub int-same : (v : ℕ) → C.IsInt (run_scope unit) s v ↔ S.IsInt solver v
  unfolding C.IsInt S.IsInt naming move
  int-same v = (
    λ f σ h. was-named (kept unit next s.names is.known is.counted) (σ v) (initial int) (f (λ v. move (σ v)) (meets-classes σ h)),
    λ f σ h. f σ (permits Classes σ h),
  )

  pub equality-same : (v : ℕ) → C.AsksEquality (run_scope unit) s v ↔ S.AsksEquality solver v
  unfolding C.AsksEquality S.AsksEquality move
  equality-same v = (
    λ f σ h. sym (moved-admits (kept unit next s.names is.known is.counted) (initial-kept unit next s.names is.known is.counted) (σ v)) ∙ f (λ v. move (σ v)) (meets-equality σ h),
    λ f σ h. f σ (permits Equality σ h),
  )

  same-initial : (t : MlType Name) → (k : Initial) × (t ≡ named (initial k)) → move t ≡ t
  unfolding move
  same-initial t (k, e) =
      subst (λ t. moves unit next s.names is.known is.counted t ≡ t) (sym e) (given-named (kept unit next s.names is.known is.counted) away (initial k) (initial-kept unit next s.names is.known is.counted k))

  pub overloaded-same : (v : ℕ) → C.IsOverloaded (run_scope unit) s v ↔ O.IsOverloaded solver v
  unfolding C.IsOverloaded naming move
  overloaded-same v = (
    λ f. record {
      named_so = λ σ h. let x : (k : Initial) × (move (σ v) ≡ named (initial k)) = f.0 (λ v. move (σ v)) (meets-rigidity σ h) in
          (x.0, was-named (kept unit next s.names is.known is.counted) (σ v) (initial x.0) x.1);
      one = f.1;
      other = f.2;
      may_be_one = permits Rigidity f.1 f.3;
      may_be_other = permits Rigidity f.2 f.4;
      apart = f.5;
    },
    λ f. (
      (λ σ h. f.named_so σ (permits Rigidity σ h)),
      (λ v. move (f.one v)),
      (λ v. move (f.other v)),
      meets-rigidity f.one f.may_be_one,
      meets-rigidity f.other f.may_be_other,
      λ e. f.apart (sym (same-initial (f.one v) (f.named_so f.one f.may_be_one)) ∙ (e ∙ same-initial (f.other v) (f.named_so f.other f.may_be_other))),
    ),
  )

  -- rows

  pub labels-ok : (t : MlType Name) → L.HasOneSetOfLabels Finiteness solver t → C.HasOneSetOfLabels (run_scope unit) s Rigidity t
  unfolding C.HasOneSetOfLabels L.HasOneSetOfLabels
  labels-ok t o = (o.0, λ σ h. o.1 σ (permits Finiteness σ (lowered σ h)))

  pub labels-back : (t : MlType Name) → IsTypeIn s.made s.names t → C.HasOneSetOfLabels (run_scope unit) s Rigidity t → L.HasOneSetOfLabels Rigidity solver t
  unfolding C.HasOneSetOfLabels L.HasOneSetOfLabels move
  labels-back t k o = (
    o.0,
    λ σ h.
        let x : (ts : List (MlType Name)) × (assign (λ v. move (σ v)) t ≡ app (row o.0) (types_of ts)) = o.1 (λ v. move (σ v)) (meets-rigidity σ h) in
        let keep = kept unit next s.names is.known is.counted in
        let y : (ts : MlTypes Name) × (assign σ t ≡ app (row o.0) ts) = was-row keep (assign σ t) o.0 (types_of x.0)
        (given-assigned keep away σ t (mentions-kept unit next s.names is.known is.counted t k.1) ∙ x.1) in
        (list_of y.0, y.1 ∙ ap (app (row o.0)) (sym (types-list_of y.0))),
  )
