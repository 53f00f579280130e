-- The demands of a solver can be met just where those of its state can: a bound as a number allows of the names made so far those
-- that stand in its list.
use Rattle.std.proofs.Common.{◌≡◌, ◌↔◌, ◌⊎◌, ◌<◌, ◌≤◌, ℕ, zero, suc, Bool, true, false, ◌||◌, List, [], ◌∷◌, map, inl, inr, sym, ap, ◌∙◌, subst, refl, arith}
use Rattle.std.specs.List.{AllByRecursion}
use Rattle.sml_tree.specs.Trees.{Id}
use Rattle.sml_objects.specs.Appearance.{Stands, stands}
use Rattle.sml_objects.specs.Initial as N
use Rattle.sml_objects.specs.Initial.{Name, initial, naming}
use Rattle.sml_objects.specs.Objects.{MlType, named}
use Rattle.sml_objects.specs.Names.{Initial}
use Rattle.sml_objects.specs.Types.{assign}
use Rattle.sml_objects.proofs.Standing.{found, was_found}
use Rattle.sml_layers.specs.declared.layer.Bound.TheVariants as K
use Rattle.sml_layers.specs.declared.layer.Layer.{Layer}
use Rattle.sml_layers.specs.declared.layer.Layer.TheVariants.{Finiteness}
use Rattle.sml_layers.specs.declared.variable.Variable.{Variable}
use Rattle.sml_layers.specs.Demands as D
use Rattle.sml_layers.specs.Demands.{Ask, within, equality, of_class, variable, Demand, equal, has_fields, asks, AllHold, CanBeMet, IsFirstUnmet, Mentions, layer_of}
use Rattle.sml_layers.specs.Explicit.{variable_name}
use Rattle.sml_layers.specs.Layers.{index_of}
use Rattle.sml_layers.specs.Rows.{HasFields, fields_at}
use Rattle.sml_layers.specs.Worlds.{World, Assignment, finite, infinite, world}
use Rattle.sml_graph.specs.Asked as R
use Rattle.sml_graph.specs.Bounds.{IsNameWithin}
use Rattle.sml_graph.specs.Said.{demand_of, by_number, by_list}
use Rattle.sml_graph.proofs.Rebounds.{mentions-more}
use Rattle.sml_asks.specs.Solvers.{AreNames, IsBound, IsReboundAsk, IsRebound, IsTypeIn, IsDemandIn, AreDemands}
use Rattle.sml_asks.proofs.Giving.{given-assigned, given-named, given-fields, fields-assigned}
use Rattle.sml_asks.proofs.Moving.{away, moved, moved-mentions, moved-admits}

-- the names that are kept: those made so far, and those of explicit variables

is_variable : Name → Bool
is_variable (N.made zero k zero q) = true
is_variable n = false

or-left : (a b : Bool) → a ≡ true → (a || b) ≡ true
or-left true b h = refl
or-left false b h = cc

or-right : (a b : Bool) → b ≡ true → (a || b) ≡ true
or-right true b h = refl
or-right false b h = h

or-cases : (a b : Bool) → (a || b) ≡ true → (a ≡ true) ⊎ (b ≡ true)
or-cases true b h = inl refl
or-cases false b h = inr h

was-variable : (n : Name) → is_variable n ≡ true → (x : Variable) × (n ≡ variable_name x)
unfolding is_variable
was-variable (initial k) h = cc
was-variable (N.made zero k zero q) h = (record { number = k; equality = q }, refl)
was-variable (N.made zero k (suc a) q) h = cc
was-variable (N.made (suc u) k a q) h = cc

-- the layer of finite types asks for nothing more
pub late : (a : Ask (List Name)) → index_of (layer_of a) ≤ index_of Finiteness → ⊥
late (within K.Newness T) h = omega (arith, h)
late (within K.Locality T) h = omega (arith, h)
late equality h = omega (arith, h)
late (of_class c) h = omega (arith, h)
late (variable x) h = omega (arith, h)

module _ (unit next : ℕ) (names : List Name) (known : AreNames unit next names) (counted : 0 < unit) where
  pub kept : Name → Bool
  kept n = stands naming n names || is_variable n

  abbrev pub IsKept : Name → Type 0
  IsKept n = Stands n names ⊎ ((x : Variable) × (n ≡ variable_name x))

  pub named-kept : (n : Name) → Stands n names → kept n ≡ true
  unfolding kept
  named-kept n s = or-left (stands naming n names) (is_variable n) (found naming n names s)

  pub variable-kept : (x : Variable) → kept (variable_name x) ≡ true
  unfolding kept is_variable
  variable-kept x = or-right (stands naming (variable_name x) names) (is_variable (variable_name x)) refl

  pub initial-kept : (k : Initial) → kept (initial k) ≡ true
  initial-kept k = named-kept (initial k) (known.initials k)

  pub was-kept : (n : Name) → kept n ≡ true → IsKept n
  unfolding kept
  was-kept n h = go (or-cases (stands naming n names) (is_variable n) h)
    where
      go : (stands naming n names ≡ true) ⊎ (is_variable n ≡ true) → IsKept n
      go (inl s) = inl (was_found naming n names s)
      go (inr v) = inr (was-variable n v)

  abbrev pub moves : MlType Name → MlType Name
  moves t = moved kept t

  pub mentions-kept : (t : MlType Name) → Mentions (λ n. Stands n names) t → Mentions (λ n. kept n ≡ true) t
  mentions-kept t m = mentions-more kept (λ n. Stands n names) (λ n. kept n ≡ true) named-kept t m

  -- what is asked of a type

  abbrev W : List Name → Name → Type 0
  W T n = Stands n T ⊎ ((x : Variable) × (n ≡ variable_name x))

  allowed-list : (most : ℕ) (T : List Name) → IsBound unit next names most T → (n : Name) → IsNameWithin unit most n → IsKept n → W T n
  allowed-list most T b n w (inl h) = inl ((b.lists n).1 (h, w))
  allowed-list most T b n w (inr v) = inr v

  allowed-number : (most : ℕ) (T : List Name) → IsBound unit next names most T → (n : Name) → W T n → IsNameWithin unit most n
  allowed-number most T b n (inl h) = ((b.lists n).0 h).1
  allowed-number most T b n (inr v) = subst (IsNameWithin unit most) (sym v.1) (λ e. absurd (omega (arith, counted, e)))

  asked-list : (a : Ask ℕ) (b : Ask (List Name)) → IsReboundAsk (IsBound unit next names) a b → (t : MlType Name)
      → D.IsAsAsked (by_number unit) a t → D.IsAsAsked by_list b (moves t)
  unfolding naming
  asked-list (within k most) b h t q =
      subst (λ b. D.IsAsAsked by_list b (moves t)) (sym h.2)
      (mentions-more kept (λ n. IsNameWithin unit most n × (kept n ≡ true)) (W h.0) (λ n x. allowed-list most h.0 h.1 n x.0 (was-kept n x.1)) (moves t)
      (moved-mentions kept (IsNameWithin unit most) (λ k. tt) initial-kept t q))
  asked-list equality b h t q = subst (λ b. D.IsAsAsked by_list b (moves t)) (sym h) (moved-admits kept initial-kept t ∙ q)
  asked-list (of_class c) b h t q = subst (λ b. D.IsAsAsked by_list b (moves t)) (sym h) (q.0, q.1, ap moves q.2 ∙ initial-named q.0)
    where
      initial-named : (k : Initial) → moves (named (naming.initial k)) ≡ named (naming.initial k)
      initial-named k = given-named kept away (initial k) (initial-kept k)
  asked-list (variable x) b h t q = subst (λ b. D.IsAsAsked by_list b (moves t)) (sym h) (ap moves q ∙ given-named kept away (variable_name x) (variable-kept x))

  asked-number : (a : Ask ℕ) (b : Ask (List Name)) → IsReboundAsk (IsBound unit next names) a b → (t : MlType Name)
      → D.IsAsAsked by_list b t → D.IsAsAsked (by_number unit) a t
  asked-number (within k most) b h t q =
      let m : Mentions (W h.0) t = subst (λ b. D.IsAsAsked by_list b t) h.2 q in
      mentions-more kept (W h.0) (IsNameWithin unit most) (allowed-number most h.0 h.1) t m
  asked-number equality b h t q = subst (λ b. D.IsAsAsked by_list b t) h q
  asked-number (of_class c) b h t q = subst (λ b. D.IsAsAsked by_list b t) h q
  asked-number (variable x) b h t q = subst (λ b. D.IsAsAsked by_list b t) h q

  same-layer : (a : Ask ℕ) (b : Ask (List Name)) → IsReboundAsk (IsBound unit next names) a b → layer_of b ≡ layer_of a
  same-layer (within K.Newness most) b h = ap layer_of h.2
  same-layer (within K.Locality most) b h = ap layer_of h.2
  same-layer equality b h = ap layer_of h
  same-layer (of_class c) b h = ap layer_of h
  same-layer (variable x) b h = ap layer_of h

  -- demands

  fields-kept : (m : ℕ) (fs : List (Id × MlType Name)) → AllByRecursion (λ f. IsTypeIn m names f.1) fs → AllByRecursion (λ f. Mentions (λ n. kept n ≡ true) f.1) fs
  fields-kept m [] h = tt
  fields-kept m (f ∷ fs) h = (mentions-kept f.1 h.0.1, fields-kept m fs h.1)

  holds-list : (m : ℕ) (l : Layer) (σ : Assignment Name finite) (d : Demand Name ℕ) (e : Demand Name (List Name)) → IsDemandIn m names d
      → IsRebound (IsBound unit next names) d e → D.Holds (by_number unit) finite l σ d → D.Holds by_list finite l (λ v. moves (σ v)) e
  holds-list m l σ (equal t u) e k s h =
      subst (D.Holds by_list finite l (λ v. moves (σ v))) (sym s)
      (sym (given-assigned kept away σ t (mentions-kept t k.0.1)) ∙ (ap moves h ∙ given-assigned kept away σ u (mentions-kept u k.1.1)))
  holds-list m l σ (has_fields t fs) e k s h =
      subst (D.Holds by_list finite l (λ v. moves (σ v))) (sym s)
      (subst (λ u. HasFields Name finite u (fields_at (assign (λ v. moves (σ v))) fs)) (given-assigned kept away σ t (mentions-kept t k.0.1))
      (subst (HasFields Name finite (moves (assign σ t))) (fields-assigned kept away σ fs (fields-kept m fs k.1)) (given-fields kept away (assign σ t) (fields_at (assign σ) fs) h)))
  holds-list m l σ (asks a t) e k s h =
      subst (D.Holds by_list finite l (λ v. moves (σ v))) (sym s.2)
      (λ p. subst (D.IsAsAsked by_list s.0) (given-assigned kept away σ t (mentions-kept t k.1))
      (asked-list a s.0 s.1 (assign σ t) (h (subst (λ n. index_of n ≤ index_of l) (same-layer a s.0 s.1) p))))

  holds-number : (w : World) (l : Layer) (σ : Assignment Name w) (d : Demand Name ℕ) (e : Demand Name (List Name)) → IsRebound (IsBound unit next names) d e
      → D.Holds by_list w l σ e → D.Holds (by_number unit) w l σ d
  holds-number w l σ (equal t u) e s h = subst (D.Holds by_list w l σ) s h
  holds-number w l σ (has_fields t fs) e s h = subst (D.Holds by_list w l σ) s h
  holds-number finite l σ (asks a t) e s h =
      let k : D.HoldsUpTo by_list l σ s.0 t = subst (D.Holds by_list finite l σ) s.2 h in
      λ p. asked-number a s.0 s.1 (assign σ t) (k (subst (λ n. index_of n ≤ index_of l) (sym (same-layer a s.0 s.1)) p))
  holds-number infinite l σ (asks a t) e s h = tt

  holds-infinite : (l : Layer) (σ : Assignment Name infinite) (d : Demand Name ℕ) (e : Demand Name (List Name)) → IsRebound (IsBound unit next names) d e
      → D.Holds (by_number unit) infinite l σ d → D.Holds by_list infinite l σ e
  holds-infinite l σ (equal t u) e s h = subst (D.Holds by_list infinite l σ) (sym s) h
  holds-infinite l σ (has_fields t fs) e s h = subst (D.Holds by_list infinite l σ) (sym s) h
  holds-infinite l σ (asks a t) e s h = subst (D.Holds by_list infinite l σ) (sym s.2) tt

  holds-finite : (σ : Assignment Name finite) (d : Demand Name ℕ) (e : Demand Name (List Name)) → IsRebound (IsBound unit next names) d e
      → D.Holds (by_number unit) finite Finiteness σ d → D.Holds by_list finite Finiteness σ e
  holds-finite σ (equal t u) e s h = subst (D.Holds by_list finite Finiteness σ) (sym s) h
  holds-finite σ (has_fields t fs) e s h = subst (D.Holds by_list finite Finiteness σ) (sym s) h
  holds-finite σ (asks a t) e s h = subst (D.Holds by_list finite Finiteness σ) (sym s.2) (λ p. absurd (late s.0 p))

  module _ (m : ℕ) where
    -- The types by number, moved, meet the demands by list, and types by list those by number. Where nothing is asked of names,
    -- they are the same.
    pub to-list : (ds : List R.Demand) (es : List (Demand Name (List Name))) → AreDemands unit next m names ds es → (l : Layer) (σ : Assignment Name finite)
        → AllHold (by_number unit) finite l σ (map demand_of ds) → AllHold by_list finite l (λ v. moves (σ v)) es
    to-list [] [] s l σ h = tt
    to-list (d ∷ ds) (e ∷ es) s l σ h = (holds-list m l σ (demand_of d) e s.0.known s.0.same h.0, to-list ds es s.1 l σ h.1)
    to-list [] (e ∷ es) s l σ h = absurd s
    to-list (d ∷ ds) [] s l σ h = absurd s

    pub to-number : (w : World) (ds : List R.Demand) (es : List (Demand Name (List Name))) → AreDemands unit next m names ds es → (l : Layer) (σ : Assignment Name w)
        → AllHold by_list w l σ es → AllHold (by_number unit) w l σ (map demand_of ds)
    to-number w [] [] s l σ h = tt
    to-number w (d ∷ ds) (e ∷ es) s l σ h = (holds-number w l σ (demand_of d) e s.0.same h.0, to-number w ds es s.1 l σ h.1)
    to-number w [] (e ∷ es) s l σ h = absurd s
    to-number w (d ∷ ds) [] s l σ h = absurd s

    to-infinite : (ds : List R.Demand) (es : List (Demand Name (List Name))) → AreDemands unit next m names ds es → (l : Layer) (σ : Assignment Name infinite)
        → AllHold (by_number unit) infinite l σ (map demand_of ds) → AllHold by_list infinite l σ es
    to-infinite [] [] s l σ h = tt
    to-infinite (d ∷ ds) (e ∷ es) s l σ h = (holds-infinite l σ (demand_of d) e s.0.same h.0, to-infinite ds es s.1 l σ h.1)
    to-infinite [] (e ∷ es) s l σ h = absurd s
    to-infinite (d ∷ ds) [] s l σ h = absurd s

    pub to-finite : (ds : List R.Demand) (es : List (Demand Name (List Name))) → AreDemands unit next m names ds es → (σ : Assignment Name finite)
        → AllHold (by_number unit) finite Finiteness σ (map demand_of ds) → AllHold by_list finite Finiteness σ es
    to-finite [] [] s σ h = tt
    to-finite (d ∷ ds) (e ∷ es) s σ h = (holds-finite σ (demand_of d) e s.0.same h.0, to-finite ds es s.1 σ h.1)
    to-finite [] (e ∷ es) s σ h = absurd s
    to-finite (d ∷ ds) [] s σ h = absurd s

    module _ (ds : List R.Demand) (es : List (Demand Name (List Name))) (s : AreDemands unit next m names ds es) where
      met-list : (w : World) (l : Layer) (σ : Assignment Name w) → AllHold (by_number unit) w l σ (map demand_of ds) → (τ : Assignment Name w) × AllHold by_list w l τ es
      met-list finite l σ h = ((λ v. moves (σ v)), to-list ds es s l σ h)
      met-list infinite l σ h = (σ, to-infinite ds es s l σ h)

      pub met-both : (l : Layer) → CanBeMet (by_number unit) l (map demand_of ds) ↔ CanBeMet by_list l es
      met-both l = (λ x. met-list (world l) l x.0 x.1, λ x. (x.0, to-number (world l) ds es s l x.0 x.1))

      pub first-both : (l : Layer) → IsFirstUnmet (by_number unit) l (map demand_of ds) → IsFirstUnmet by_list l es
      first-both l f = (λ x. f.0 ((met-both l).1 x), λ k p. (met-both k).0 (f.1 k p))
