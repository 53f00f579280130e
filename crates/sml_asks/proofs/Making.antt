-- Steps by which nothing is asked.
use Rattle.std.proofs.Common.{◌≡◌, ◌⊎◌, ◌<◌, ◌≤◌, ◌+◌, ℕ, true, Result, Ok, Err, OnOk, Global, List, [], ◌∷◌, ◌++◌, length, inl, inr, sym, ◌∙◌, ap, subst, refl, arith}
use Rattle.std.specs.Prelude.{IfOk}
use Rattle.std.specs.List.{AllByRecursion}
use Rattle.std.specs.declared.rc.Rc.{Rc}
use Rattle.sml_tree.specs.Trees.{Id}
use Rattle.sml_lex.specs.Faults.{Fault}
use Rattle.sml_lex.specs.declared.fault.Place.{Place}
use Rattle.sml_objects.specs.Appearance.{Stands}
use Rattle.sml_objects.specs.Initial as N
use Rattle.sml_objects.specs.Initial.{Name, initial}
use Rattle.sml_objects.specs.Objects.{MlType, Scheme}
use Rattle.sml_objects.specs.Views.{type_of}
use Rattle.sml_objects.specs.declared.objects.MlType as P
use Rattle.sml_objects.specs.Types.{instance_from}
use Rattle.sml_objects.proofs.Standing.{right, either}
use Rattle.sml_layers.specs.declared.layer.Layer.{Layer}
use Rattle.sml_layers.specs.Demands.{Ask, within, equality, of_class, variable, Demand, equal, has_fields, asks}
use Rattle.sml_layers.specs.Explicit.{variable_name}
use Rattle.sml_layers.specs.Layers.{code_of}
use Rattle.sml_graph.specs.declared.demand.Halt.{Halt}
use Rattle.sml_graph.specs.declared.demand.Halt.TheVariants as H
use Rattle.sml_graph.specs.declared.demand.Refusal.TheVariants as R
use Rattle.sml_graph.specs.Asked as A
use Rattle.sml_graph.specs.Asked.{Asked, IsSchemeOf, count, IsMet, PermitsSame}
use Rattle.sml_graph.specs.Bounds.{IsNameWithin}
use Rattle.sml_graph.specs.Interned.{IsBodyOver}
use Rattle.sml_graph.specs.Said.{demand_of, by_list}
use Rattle.sml_graph.proofs.Rebounds.{mentions-more}
use Rattle.sml_graph.proofs.Saying.{says-its-demands}
use Rattle.sml_rules.specs.Answers.{Answer, refused, fault}
use Rattle.sml_solve.specs.Calls.{Returns}
use Rattle.sml_core_rules.specs.Scopes.{run_scope}
use Rattle.sml_core_rules.specs.Scripts.{Script, requires, requires_or, IsAnswer}
use Rattle.sml_core_rules.specs.States.{State, with_demand}
use Rattle.sml_core_rules.proofs.Lower.{can-lower}
use Rattle.sml_asks.specs.Solvers.{AreNames, IsBound, IsReboundAsk, IsRebound, IsTypeIn, IsDemandIn, AreDemands}
use Rattle.sml_asks.specs.Steps.{Answers, AnswersAreOfScripts, Makes, Instantiates, UnknownsAreSteps, IsNew, NamesAreSteps, NamesAreBounds}
use Rattle.sml_asks.proofs.Overs.{over-more}

-- what a script goes on with

module _ {X : Type 0} (unit next : ℕ) (s : State Place Name) (e : Demand Name (List Name)) (p : Place) (k : Script Place Name X) (new : Asked) where
  pub answer-ok : Answers unit next s e new (Ok tt) → (o : Answer Place (X × State Place Name)) → IsAnswer (run_scope unit) k (with_demand e s) o
      → IsAnswer (run_scope unit) (requires e p k) s o
  unfolding IsAnswer
  answer-ok is o a = inl (is.met, a)

  pub answer-or : Answers unit next s e new (Ok tt) → (f : Fault Place) (o : Answer Place (X × State Place Name)) → IsAnswer (run_scope unit) k (with_demand e s) o
      → IsAnswer (run_scope unit) (requires_or e f k) s o
  unfolding IsAnswer
  answer-or is f o a = inl (is.met, a)

  pub answer-or-unmet : (l : Layer) → Answers unit next s e new (Err (R.Unmet l)) → (f : Fault Place) → IsAnswer (run_scope unit) (requires_or e f k) s (refused f)
  unfolding IsAnswer
  answer-or-unmet l u f = inr ((λ m. u.0 (can-lower by_list l (e ∷ s.demands) m)), refl)

  pub answer-unmet : (l : Layer) → Answers unit next s e new (Err (R.Unmet l)) → IsAnswer (run_scope unit) (requires e p k) s (refused (fault (code_of l) p))
  unfolding IsAnswer
  answer-unmet l f = inr (l, f, refl)

pub answers-are-of-scripts : AnswersAreOfScripts
unfolding IsAnswer
answers-are-of-scripts = record {
  ok = λ unit next s e p new is. inl (is.met, refl);
  unmet = λ unit next s e p new l f. inr (l, f, refl);
  or_ok = λ unit next s e f new is. inl (is.met, refl);
  or_unmet = λ unit next s e f new l u. inr ((λ m. u.0 (can-lower by_list l (e ∷ s.demands) m)), refl);
}

-- more unknowns, and more names

module _ (m n : ℕ) (ms ns : List Name) (le : m ≤ n) (more : (x : Name) → Stands x ms → Stands x ns) where
  type-more : (t : MlType Name) → IsTypeIn m ms t → IsTypeIn n ns t
  type-more t h = (over-more m n le t h.0, mentions-more (λ x. true) (λ x. Stands x ms) (λ x. Stands x ns) more t h.1)

  fields-more : (fs : List (Id × MlType Name)) → AllByRecursion (λ f. IsTypeIn m ms f.1) fs → AllByRecursion (λ f. IsTypeIn n ns f.1) fs
  fields-more [] h = tt
  fields-more (f ∷ fs) h = (type-more f.1 h.0, fields-more fs h.1)

  demand-more : (d : Demand Name ℕ) → IsDemandIn m ms d → IsDemandIn n ns d
  demand-more (equal t u) h = (type-more t h.0, type-more u h.1)
  demand-more (has_fields t fs) h = (type-more t h.0, fields-more fs h.1)
  demand-more (asks a t) h = type-more t h

module _ (unit next last m n : ℕ) (ms ns : List Name) (le : m ≤ n) (more : (x : Name) → Stands x ms → Stands x ns)
    (bounds : (most : ℕ) (list : List Name) → IsBound unit next ms most list → IsBound unit last ns most list) where
  ask-more : (a : Ask ℕ) (b : Ask (List Name)) → IsReboundAsk (IsBound unit next ms) a b → IsReboundAsk (IsBound unit last ns) a b
  ask-more (within k most) b h = (h.0, bounds most h.0 h.1, h.2)
  ask-more equality b h = h
  ask-more (of_class c) b h = h
  ask-more (variable x) b h = h

  rebound-more : (d : Demand Name ℕ) (e : Demand Name (List Name)) → IsRebound (IsBound unit next ms) d e → IsRebound (IsBound unit last ns) d e
  rebound-more (equal t u) e h = h
  rebound-more (has_fields t fs) e h = h
  rebound-more (asks a t) e h = (h.0, ask-more a h.0 h.1, h.2)

  demands-more : (ds : List A.Demand) (es : List (Demand Name (List Name))) → AreDemands unit next m ms ds es → AreDemands unit last n ns ds es
  demands-more [] [] h = tt
  demands-more (d ∷ ds) (e ∷ es) h = (
    record { known = demand-more m n ms ns le more (demand_of d) h.0.known; same = rebound-more (demand_of d) e h.0.same },
    demands-more ds es h.1,
  )
  demands-more [] (e ∷ es) h = absurd h
  demands-more (d ∷ ds) [] h = absurd h

-- unknowns

pub unknowns-are-steps : UnknownsAreSteps
unfolding Makes
unknowns-are-steps old new n e p q r unit next s is = (
  is.unknowns,
  record {
    counted = is.counted;
    maker = q ∙ is.maker;
    spent = r;
    unknowns = e ∙ ap (λ m. m + n) is.unknowns;
    known = is.known;
    demands = is.demands;
    says = says-its-demands.kept old new is.demands q p is.says;
    same = demands-more unit next next s.made (s.made + n) s.names s.names (omega arith) (λ x h. h) (λ most list b. b) is.demands s.demands is.same;
    met = is.met;
  },
)

-- so is a call of a solver that makes one
pub fresh-makes : (old new : Asked) (result : Result ℕ Halt) → IfOk result (λ v. v ≡ count old) → OnOk result (count new ≡ count old + 1) → OnOk result (PermitsSame old new)
    → Returns old new result H.Spent → IfOk result (λ v. Makes old v 1 new)
fresh-makes old new (Err h) v n p r = tt
fresh-makes old new (Ok u) v n p r = subst (λ w. Makes old w 1 new) (sym v) (unknowns-are-steps old new 1 n p r.unit r.kept)

pub instances-are-steps : (old new : Asked) (σ : Scheme Name) (t : MlType Name) → (IsBodyOver (length σ.variables) (count old) σ.body → t ≡ instance_from (count old) σ.body)
    → (IsBodyOver (length σ.variables) (count old) σ.body → Makes old (count old) (length σ.variables) new) → Instantiates old σ t new
unfolding Makes Instantiates
instances-are-steps old new σ t e step unit next s is over =
    let k : IsBodyOver (length σ.variables) (count old) σ.body = subst (λ n. IsBodyOver (length σ.variables) n σ.body) (sym is.unknowns) over in
    (e k ∙ ap (λ n. instance_from n σ.body) is.unknowns, (step k unit next s is).1)

pub instance-asked : (old mid new : Asked) (σ : Scheme Name) (made : Result (Unit {0}) Halt) (result : Result (Rc P.MlType Global) Halt)
    → (IsSchemeOf old σ → (made ≡ Ok tt) × (mid ≡ old)) → IfOk result (λ t. type_of t.value ≡ instance_from (count mid) σ.body)
    → OnOk result (count new ≡ count mid + length σ.variables) → OnOk result (PermitsSame mid new) → Returns mid new result H.Spent
    → IfOk result (λ t. Instantiates old σ (type_of t.value) new)
instance-asked old mid new σ made (Err h) same t n p r = tt
instance-asked old mid new σ made (Ok x) same t n p r =
    instances-are-steps old new σ (type_of x.value) (λ k. t ∙ ap (λ m. instance_from (count m) σ.body) (same k).1) (λ k.
    let e : mid ≡ old = (same k).1 in
    unknowns-are-steps old new (length σ.variables) (n ∙ ap (λ m. count m + length σ.variables) e) (subst (λ m. PermitsSame m new) e p) (r.unit ∙ ap (λ m. m.unit) e) r.kept)

-- names

module _ (unit next last : ℕ) (names ns : List Name) (known : AreNames unit next names) (counted : 0 < unit) (le : next ≤ last) where
  one-of : (ns : List Name) → AllByRecursion (IsNew unit next last) ns → (n : Name) → Stands n ns → IsNew unit next last n
  unfolding Stands
  one-of [] a n h = absurd h
  one-of (m ∷ ms) a n (inl e) = subst (IsNew unit next last) (sym e) a.0
  one-of (m ∷ ms) a n (inr h) = one-of ms a.1 n h

  within-last : (n : Name) → IsNameWithin unit next n → IsNameWithin unit last n
  within-last (N.initial k) h = tt
  within-last (N.made u k a q) h = λ e. omega (arith, h e, le)

  new-within : (n : Name) → IsNew unit next last n → IsNameWithin unit last n
  new-within n new = subst (IsNameWithin unit last) (sym new.is) (λ e. new.below)

  names-more : AllByRecursion (IsNew unit next last) ns → AreNames unit last (ns ++ names)
  names-more new = record {
    initials = λ k. right (initial k) ns names (known.initials k);
    within = λ n h. within n (either n ns names h);
    apart = λ x h. apart x (either (variable_name x) ns names h);
  }
    where
      within : (n : Name) → Stands n ns ⊎ Stands n names → IsNameWithin unit last n
      within n (inl h) = new-within n (one-of ns new n h)
      within n (inr h) = within-last n (known.within n h)

      maker : Name → ℕ
      maker (N.initial k) = 0
      maker (N.made u k a q) = u

      apart : (x : _) → Stands (variable_name x) ns ⊎ Stands (variable_name x) names → ⊥
      apart x (inl h) = let e : 0 ≡ unit = ap maker (one-of ns new (variable_name x) h).is in omega (arith, counted, e)
      apart x (inr h) = known.apart x h

  bound-more : AllByRecursion (IsNew unit next last) ns → (most : ℕ) (list : List Name) → IsBound unit next names most list → IsBound unit last (ns ++ names) most list
  bound-more new most list b = record {
    past = omega (arith, b.past, le);
    lists = λ n. (λ h. let k : Stands n names × IsNameWithin unit most n = (b.lists n).0 h in (right n ns names k.0, k.1), λ h. back n (either n ns names h.0) h.1);
  }
    where
      outside : (n : Name) → IsNew unit next last n → IsNameWithin unit most n → ⊥
      outside n w h = let k : w.number < most = subst (IsNameWithin unit most) w.is h refl in omega (arith, k, w.from, b.past)

      back : (n : Name) → Stands n ns ⊎ Stands n names → IsNameWithin unit most n → Stands n list
      back n (inl h) w = absurd (outside n (one-of ns new n h) w)
      back n (inr h) w = (b.lists n).1 (h, w)

pub names-are-steps : NamesAreSteps
names-are-steps unit next last solver s ns is le new = (
  record {
    counted = is.counted;
    maker = is.maker;
    spent = is.spent;
    unknowns = is.unknowns;
    known = names-more unit next last s.names ns is.known is.counted le new;
    demands = is.demands;
    says = is.says;
    same = demands-more unit next last s.made s.made s.names (ns ++ s.names) (omega arith) (λ x h. right x ns s.names h)
        (bound-more unit next last s.names ns is.known is.counted le new) is.demands s.demands is.same;
    met = is.met;
  },
  bound-more unit next last s.names ns is.known is.counted le new,
)

pub names-are-bounds : NamesAreBounds
names-are-bounds unit next names known = record { past = omega arith; lists = λ n. ((λ h. (h, known.within n h)), λ h. h.0) }
