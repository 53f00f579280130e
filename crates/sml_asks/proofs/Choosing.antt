-- An unknown that is left, and of which nothing is asked but equality and bounds, may be int and may be bool.
use Rattle.std.proofs.Common.{◌≡◌, ◌<◌, ℕ, Bool, true, false, cond, ◌&&◌, ◌||◌, List, [], ◌∷◌, map, Some, inl, inr, sym, ◌∙◌, ap, subst, refl, arith, nat_eq}
use Rattle.std.specs.Prelude.{option_map}
use Rattle.std.specs.List.{AllByRecursion}
use Rattle.std.proofs.lemmas.Bool.{eqb-true, eq-eqb}
use Rattle.std.proofs.lemmas.List.{length-map}
use Rattle.sml_lex.specs.declared.fault.Place.{Place}
use Rattle.sml_tree.specs.Trees.{Id}
use Rattle.sml_objects.specs.Appearance.{Stands}
use Rattle.sml_objects.specs.Equality.{admits, all_admit, admits_by, all_admit_by, is_ref, has_equality}
use Rattle.sml_objects.specs.Initial.{Name, initial, naming}
use Rattle.sml_objects.specs.Labels.{with_labels}
use Rattle.sml_objects.specs.Maps.{lookup}
use Rattle.sml_objects.specs.Names.{Initial, int, bool}
use Rattle.sml_objects.specs.Objects.{MlType, MlTypes, bound, free, app, arrow, row, name, no_type, and_type, named, types_of}
use Rattle.sml_objects.specs.Types.{assign, replace_type, replace_types, variables_after}
use Rattle.sml_layers.specs.declared.layer.Layer.TheVariants.{Finiteness, Rigidity}
use Rattle.sml_layers.specs.Demands as D
use Rattle.sml_layers.specs.Demands.{Ask, within, equality, of_class, variable, Demand, equal, has_fields, asks, AllHold, Mentions, AllMention}
use Rattle.sml_layers.specs.Explicit.{variable_name}
use Rattle.sml_layers.specs.Rows.{HasFields, fields_at}
use Rattle.sml_layers.specs.Worlds.{Assignment, finite}
use Rattle.sml_graph.specs.Asked as R
use Rattle.sml_graph.specs.Asked.{Asked, Permits, count}
use Rattle.sml_graph.specs.Interned.{IsOver}
use Rattle.sml_graph.specs.Said.{demand_of, by_list}
use Rattle.sml_graph.proofs.Rowing.{labels-map, lookup-at}
use Rattle.sml_schemes.specs.Left as L
use Rattle.sml_schemes.specs.Left.{IsMostGeneral, KeepsFields}
use Rattle.sml_demands.proofs.Owning.{row-not-free}
use Rattle.sml_solve.proofs.Renaming.{assign-then}
use Rattle.sml_core_rules.specs.Scopes.{run_scope}
use Rattle.sml_core_rules.specs.Solutions as C
use Rattle.sml_core_rules.specs.Solutions.{Meets}
use Rattle.sml_core_rules.specs.States.{State}
use Rattle.sml_asks.specs.Determined.{TellsNames, LeavesNone}
use Rattle.sml_asks.specs.Solvers.{SolverIs, IsBound, IsReboundAsk, IsRebound, IsDemandIn, AreDemands}
use Rattle.sml_asks.proofs.Leaving.{free-same, left-same, lowered, meets-finite, permits}
use Rattle.sml_asks.proofs.Rebinding.{late}
use Rattle.sml_asks.proofs.Scoping.{assigned-same}
use Rattle.sml_asks.proofs.Variables.{there}

-- types for the unknowns of the types of unknowns: the equations hold still

module _ (ρ : Assignment Name finite) where
  list-assigned : (ts : List (MlType Name)) → replace_types bound ρ (types_of ts) ≡ types_of (map (assign ρ) ts)
  unfolding replace_types
  list-assigned [] = refl
  list-assigned (t ∷ ts) = ap (and_type (assign ρ t)) (list-assigned ts)

  row-assigned : (ls : List Id) (ts : List (MlType Name)) → assign ρ (app (row ls) (types_of ts)) ≡ app (row ls) (types_of (map (assign ρ) ts))
  unfolding replace_type
  row-assigned ls ts = ap (app (row ls)) (list-assigned ts)

  fields-assigned : (ls : List Id) (ts : List (MlType Name)) (fs : List (Id × MlType Name)) → AllByRecursion (λ f. lookup f.0 (with_labels ls ts) ≡ Some f.1) fs
      → AllByRecursion (λ f. lookup f.0 (with_labels ls (map (assign ρ) ts)) ≡ Some f.1) (fields_at (assign ρ) fs)
  fields-assigned ls ts [] h = tt
  fields-assigned ls ts (f ∷ fs) h =
      (ap (lookup f.0) (labels-map (assign ρ) ls ts) ∙ (sym (lookup-at (assign ρ) f.0 (with_labels ls ts)) ∙ ap (option_map (assign ρ)) h.0), fields-assigned ls ts fs h.1)

  has-assigned : (t : MlType Name) (fs : List (Id × MlType Name)) → HasFields Name finite t fs → HasFields Name finite (assign ρ t) (fields_at (assign ρ) fs)
  has-assigned t fs h = record {
    labels = h.labels;
    types = map (assign ρ) h.types;
    rising = h.rising;
    count = length-map h.types (assign ρ) ∙ h.count;
    is_row = ap (assign ρ) h.is_row ∙ row-assigned h.labels h.types;
    fields = fields-assigned h.labels h.types fs h.fields;
  }

  module _ (g : Assignment Name finite) where
    fields-then : (fs : List (Id × MlType Name)) → fields_at (assign ρ) (fields_at (assign g) fs) ≡ fields_at (assign (λ v. assign ρ (g v))) fs
    fields-then [] = refl
    fields-then (f ∷ fs) = λ i. (f.0, assign-then g ρ f.1 i) ∷ fields-then fs i

    holds-then : (e : Demand Name (List Name)) → D.Holds by_list finite Finiteness g e → D.Holds by_list finite Finiteness (λ v. assign ρ (g v)) e
    holds-then (equal t u) h = sym (assign-then g ρ t) ∙ (ap (assign ρ) h ∙ assign-then g ρ u)
    holds-then (has_fields t fs) h =
        subst (λ u. HasFields Name finite u (fields_at (assign (λ v. assign ρ (g v))) fs)) (assign-then g ρ t)
        (subst (HasFields Name finite (assign ρ (assign g t))) (fields-then fs) (has-assigned (assign g t) (fields_at (assign g) fs) h))
    holds-then (asks a t) h = λ p. absurd (late a p)

    all-hold-then : (es : List (Demand Name (List Name))) → AllHold by_list finite Finiteness g es → AllHold by_list finite Finiteness (λ v. assign ρ (g v)) es
    all-hold-then [] h = tt
    all-hold-then (e ∷ es) h = (holds-then e h.0, all-hold-then es h.1)

-- what is asked of a type is so where other types stand for its unknowns

or-and : (a e x y : Bool) → (x ≡ true → y ≡ true) → (a || (e && x)) ≡ true → (a || (e && y)) ≡ true
or-and true e x y k h = refl
or-and false true x y k h = k h
or-and false false x y k h = h

both-and : (a b c d : Bool) → (a ≡ true → c ≡ true) → (b ≡ true → d ≡ true) → (a && b) ≡ true → (c && d) ≡ true
both-and true b c d k l h = ap (λ x. x && d) (k refl) ∙ l h
both-and false b c d k l h = cc

module _ (σ τ : Assignment Name finite) where
  module _ (P : Name → Type 0) (same : (w : ℕ) → Mentions P (σ w) → Mentions P (τ w)) where
    mutual
      unfolding replace_type replace_types Mentions AllMention

      mentions-other : (t : MlType Name) → Mentions P (assign σ t) → Mentions P (assign τ t)
      mentions-other (bound k) h = tt
      mentions-other (free w) h = same w h
      mentions-other (app f ts) h = (h.0, all-mention-other ts h.1)

      all-mention-other : (ts : MlTypes Name) → AllMention P (replace_types bound σ ts) → AllMention P (replace_types bound τ ts)
      all-mention-other no_type h = tt
      all-mention-other (and_type t ts) h = (mentions-other t h.0, all-mention-other ts h.1)

  module _ (same : (w : ℕ) → admits naming (σ w) ≡ true → admits naming (τ w) ≡ true) where
    mutual
      unfolding replace_type replace_types admits_by all_admit_by

      admits-other : (t : MlType Name) → admits naming (assign σ t) ≡ true → admits naming (assign τ t) ≡ true
      admits-other (bound k) h = h
      admits-other (free w) h = same w h
      admits-other (app arrow ts) h = h
      admits-other (app (row ls) ts) h = all-admit-other ts h
      admits-other (app (name n) ts) h =
          or-and (is_ref naming n) (has_equality naming n) (all_admit naming (replace_types bound σ ts)) (all_admit naming (replace_types bound τ ts)) (all-admit-other ts) h

      all-admit-other : (ts : MlTypes Name) → all_admit naming (replace_types bound σ ts) ≡ true → all_admit naming (replace_types bound τ ts) ≡ true
      all-admit-other no_type h = h
      all-admit-other (and_type t ts) h =
          both-and (admits naming (assign σ t)) (all_admit naming (replace_types bound σ ts)) (admits naming (assign τ t)) (all_admit naming (replace_types bound τ ts)) (admits-other t)
          (all-admit-other ts) h

  named-other : (n : Name) (t : MlType Name) → ((w : ℕ) → t ≡ free w → τ w ≡ σ w) → assign σ t ≡ named n → assign τ t ≡ named n
  unfolding replace_type replace_types
  named-other n (bound k) same e = e
  named-other n (free w) same e = same w refl ∙ e
  named-other n (app f no_type) same e = e
  named-other n (app f (and_type t ts)) same e = let q : app f (and_type (assign σ t) (replace_types bound σ ts)) ≡ app (name n) no_type = e in absurd cc

module _ (unit next : ℕ) (solver : Asked) (s : State Place Name) (is : SolverIs unit next solver s) (general : IsMostGeneral solver)
    (rows : (v : ℕ) → C.IsLeft (run_scope unit) s v → C.IsFree (run_scope unit) s v) where
  -- whatever types are chosen for the unknowns that are left, one assignment gives them these

  any-type : (v : ℕ) → L.IsLeft solver v → L.IsFree solver v
  any-type v left = (free-same unit next solver s is v).0 (rows v ((left-same unit next solver s is v).1 left))

  keeps-fields : (ρ : Assignment Name finite) → KeepsFields finite solver ρ
  unfolding KeepsFields L.MayBe
  keeps-fields ρ v fs left made h =
      let m : (σ : Assignment Name finite) × Permits Finiteness solver σ × (σ v ≡ free 0) = any-type v left (free 0) in
      absurd (row-not-free (fields_at (assign m.0) fs) 0 (m.0 v) (h m.0 m.1) m.2)

  choice : (ρ : Assignment Name finite) → (σ : Assignment Name finite) × Permits Finiteness solver σ × ((v : ℕ) → L.IsLeft solver v → σ v ≡ ρ v)
      × ((τ : Assignment Name finite) → Permits Finiteness solver τ → ((v : ℕ) → L.IsLeft solver v → τ v ≡ ρ v) → (v : ℕ) → v < count solver → τ v ≡ σ v)
  unfolding IsMostGeneral
  choice ρ = general Finiteness (omega arith) ρ (λ v left. any-type v left (ρ v)) (keeps-fields ρ)

  -- that which gives them themselves

  abbrev g : Assignment Name finite
  g v = (choice free).0 v

  g-left : (v : ℕ) → C.IsLeft (run_scope unit) s v → g v ≡ free v
  g-left v left = (choice free).2 v ((left-same unit next solver s is v).0 left)

  then-met : (σ : Assignment Name finite) → Meets (run_scope unit) s Finiteness (λ v. assign σ (g v))
  then-met σ = all-hold-then σ g s.demands (meets-finite unit next solver s is g (choice free).1)

  factors : (σ : Assignment Name finite) → Meets (run_scope unit) s Finiteness σ → (v : ℕ) → v < s.made → σ v ≡ assign σ (g v)
  unfolding replace_type
  factors σ h v k =
      let c = choice σ in
      let b : v < count solver = subst (λ n. v < n) (sym is.unknowns) k in
      c.3 σ (permits unit next solver s is Finiteness σ h) (λ w left. refl) v b
      ∙ sym (c.3 (λ w. assign σ (g w)) (permits unit next solver s is Finiteness (λ w. assign σ (g w)) (then-met σ)) (λ w left. ap (assign σ) ((choice free).2 w left)) v b)

  read : (σ : Assignment Name finite) → Meets (run_scope unit) s Finiteness σ → (t : MlType Name) → IsOver s.made t → assign σ t ≡ assign σ (assign g t)
  read σ h t over = assigned-same s.made σ (λ v. assign σ (g v)) (factors σ h) t over ∙ sym (assign-then g σ t)

  stands-for : (u : MlType Name) → IsOver s.made u → (v : ℕ) → C.IsLeft (run_scope unit) s v → assign g u ≡ free v → C.StandsFor (run_scope unit) s u (free v)
  unfolding C.StandsFor C.IsOfLeft replace_type
  stands-for u over v left e = (left, λ σ h. sym (read σ h u over ∙ ap (assign σ) e))

  -- another type for one that is left

  module _ (v : ℕ) (left : C.IsLeft (run_scope unit) s v)
      (unasked : (a : Ask (List Name)) (u : MlType Name) → Stands (asks a u) s.demands → TellsNames a → C.StandsFor (run_scope unit) s u (free v) → ⊥)
      (σ : Assignment Name finite) (met : Meets (run_scope unit) s Rigidity σ) (k : Initial) (with_equality : admits naming (named (initial k)) ≡ true) where
    other : Assignment Name finite
    other w = cond (nat_eq w v) (named (initial k)) (σ w)

    other-here : other v ≡ named (initial k)
    unfolding other
    other-here = ap (λ b. cond b (named (initial k)) (σ v)) (eq-eqb v v refl)

    other-there : (w : ℕ) → (w ≡ v → ⊥) → other w ≡ σ w
    unfolding other
    other-there w n = go (nat_eq w v) refl
      where
        go : (b : Bool) → nat_eq w v ≡ b → cond (nat_eq w v) (named (initial k)) (σ w) ≡ σ w
        go true e = absurd (n (eqb-true w v e))
        go false e = ap (λ b. cond b (named (initial k)) (σ w)) e

    other-so : (Q : MlType Name → Type 0) → Q (named (initial k)) → (w : ℕ) → Q (σ w) → Q (other w)
    unfolding other
    other-so Q q w h = elim (nat_eq w v) as (λ b. Q (cond b (named (initial k)) (σ w))) [ true ↦ q | false ↦ h ]

    abbrev changed : Assignment Name finite
    changed w = assign other (g w)

    by-reading : (b : Ask (List Name)) (u : MlType Name) → IsOver s.made u → (D.IsAsAsked by_list b (assign σ (assign g u)) → D.IsAsAsked by_list b (assign other (assign g u)))
        → D.IsAsAsked by_list b (assign σ u) → D.IsAsAsked by_list b (assign changed u)
    by-reading b u over f h =
        subst (D.IsAsAsked by_list b) (assign-then g other u) (f (subst (D.IsAsAsked by_list b) (read σ (lowered unit next solver s is σ met) u over) h))

    initial-mentions : (P : Name → Type 0) → P (initial k) → Mentions P (named (initial k))
    unfolding Mentions AllMention
    initial-mentions P h = (h, tt)

    same-where-named : (b : Ask (List Name)) (u : MlType Name) → IsOver s.made u → Stands (asks b u) s.demands → TellsNames b → (w : ℕ) → assign g u ≡ free w → other w ≡ σ w
    same-where-named b u over st tells w e = other-there w (λ q. unasked b u st tells (stands-for u over v left (e ∙ ap free q)))

    asked-other : (a : Ask ℕ) (b : Ask (List Name)) (u : MlType Name) → IsReboundAsk (IsBound unit next s.names) a b → IsOver s.made u → Stands (asks b u) s.demands
        → D.IsAsAsked by_list b (assign σ u) → D.IsAsAsked by_list b (assign changed u)
    unfolding naming
    asked-other (within j n) b u (T, bounds, e) over st =
        by-reading b u over (λ h. subst (λ b. D.IsAsAsked by_list b (assign other (assign g u))) (sym e)
        (mentions-other σ other (by_list.Allows T) (other-so (Mentions (by_list.Allows T)) (initial-mentions (by_list.Allows T) (inl ((bounds.lists (initial k)).1 (is.known.initials k, tt)))))
        (assign g u) (subst (λ b. D.IsAsAsked by_list b (assign σ (assign g u))) e h)))
    asked-other equality b u e over st =
        by-reading b u over (λ h. subst (λ b. D.IsAsAsked by_list b (assign other (assign g u))) (sym e)
        (admits-other σ other (other-so (λ t. admits naming t ≡ true) with_equality) (assign g u) (subst (λ b. D.IsAsAsked by_list b (assign σ (assign g u))) e h)))
    asked-other (of_class c) b u e over st =
        by-reading b u over (λ h. subst (λ b. D.IsAsAsked by_list b (assign other (assign g u))) (sym e)
        (let x : D.IsAsAsked by_list (of_class c) (assign σ (assign g u)) = subst (λ b. D.IsAsAsked by_list b (assign σ (assign g u))) e h in
        (x.0, x.1, named-other σ other (naming.initial x.0) (assign g u) (same-where-named b u over st (subst TellsNames (sym e) tt)) x.2)))
    asked-other (variable x) b u e over st =
        by-reading b u over (λ h. subst (λ b. D.IsAsAsked by_list b (assign other (assign g u))) (sym e)
        (named-other σ other (variable_name x) (assign g u) (same-where-named b u over st (subst TellsNames (sym e) tt)) (subst (λ b. D.IsAsAsked by_list b (assign σ (assign g u))) e h)))

    holds-other : (d : Demand Name ℕ) (e : Demand Name (List Name)) → IsDemandIn s.made s.names d → IsRebound (IsBound unit next s.names) d e → Stands e s.demands
        → D.Holds by_list finite Finiteness changed e → D.Holds by_list finite Rigidity σ e → D.Holds by_list finite Rigidity changed e
    holds-other (equal t u) e k r st f h = subst (D.Holds by_list finite Rigidity changed) (sym r) (subst (D.Holds by_list finite Finiteness changed) r f)
    holds-other (has_fields t fs) e k r st f h = subst (D.Holds by_list finite Rigidity changed) (sym r) (subst (D.Holds by_list finite Finiteness changed) r f)
    holds-other (asks a t) e k r st f h =
        let asked : D.HoldsUpTo by_list Rigidity σ r.0 t = subst (D.Holds by_list finite Rigidity σ) r.2 h in
        subst (D.Holds by_list finite Rigidity changed) (sym r.2) (λ p. asked-other a r.0 t r.1 k.0 (subst (λ e. Stands e s.demands) r.2 st) (asked p))

    all-hold-other : (ds : List R.Demand) (es : List (Demand Name (List Name))) → AreDemands unit next s.made s.names ds es
        → ((e : Demand Name (List Name)) → Stands e es → Stands e s.demands) → AllHold by_list finite Finiteness changed es → AllHold by_list finite Rigidity σ es
        → AllHold by_list finite Rigidity changed es
    unfolding Stands
    all-hold-other [] [] r st f h = tt
    all-hold-other (d ∷ ds) (e ∷ es) r st f h =
        (holds-other (demand_of d) e r.0.known r.0.same (st e (inl refl)) f.0 h.0, all-hold-other ds es r.1 (λ e' k. st e' (inr k)) f.1 h.1)
    all-hold-other [] (e ∷ es) r st f h = absurd r
    all-hold-other (d ∷ ds) [] r st f h = absurd r

    changed-met : Meets (run_scope unit) s Rigidity changed
    changed-met = all-hold-other is.demands s.demands is.same (λ e st. st) (then-met other) met

    changed-here : changed v ≡ named (initial k)
    unfolding replace_type
    changed-here = ap (assign other) (g-left v left) ∙ other-here

-- So a type that stands for one in which it stands isn't the same in every case.
pub one-of-several : (unit next : ℕ) (solver : Asked) (s : State Place Name) (is : SolverIs unit next solver s) → IsMostGeneral solver → (t r : MlType Name)
    → LeavesNone unit s t → C.StandsFor (run_scope unit) s t r → (v : ℕ) → Stands v (variables_after [] r) → C.IsLeft (run_scope unit) s v
    → (u : MlType Name) → C.IsAlways (run_scope unit) s t u → ⊥
unfolding C.StandsFor C.IsAlways Stands naming admits_by all_admit_by
one-of-several unit next solver s is general t r leaves stands v inside left u always =
    let unasked = leaves.names r stands v inside in
    let one : Assignment Name finite = changed unit next solver s is general leaves.rows v left unasked is.met.0 is.met.1 int refl in
    let two : Assignment Name finite = changed unit next solver s is general leaves.rows v left unasked is.met.0 is.met.1 bool refl in
    let one-met : Meets (run_scope unit) s Rigidity one = changed-met unit next solver s is general leaves.rows v left unasked is.met.0 is.met.1 int refl in
    let two-met : Meets (run_scope unit) s Rigidity two = changed-met unit next solver s is general leaves.rows v left unasked is.met.0 is.met.1 bool refl in
    let same : assign one r ≡ assign two r =
    stands.1 one (lowered unit next solver s is one one-met) ∙ (always one one-met ∙ (sym (always two two-met) ∙ sym (stands.1 two (lowered unit next solver s is two two-met)))) in
    let here : one v ≡ two v = there one two r [] (λ w h. absurd h) same v inside in
    let clash : named (initial int) ≡ named (initial bool) =
    sym (changed-here unit next solver s is general leaves.rows v left unasked is.met.0 is.met.1 int refl)
    ∙ (here ∙ changed-here unit next solver s is general leaves.rows v left unasked is.met.0 is.met.1 bool refl) in
    absurd cc
