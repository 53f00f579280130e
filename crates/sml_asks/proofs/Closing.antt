-- Steps of the end of a value declaration.
use Rattle.std.proofs.Common.{◌≡◌, ◌<◌, ◌≤◌, ℕ, Bool, true, false, Result, Ok, Err, OnOk, Vec, Global, List, [], ◌∷◌, map, inl, inr, sym, ◌∙◌, ap, subst, refl}
use Rattle.std.specs.Prelude.{IfOk}
use Rattle.std.specs.List.{AllByRecursion}
use Rattle.sml_lex.specs.declared.fault.Place.{Place}
use Rattle.sml_objects.specs.Appearance.{Stands}
use Rattle.sml_objects.specs.Initial.{Name}
use Rattle.sml_objects.specs.Objects.{MlType, free}
use Rattle.sml_layers.specs.declared.layer.Layer.{Layer}
use Rattle.sml_layers.specs.declared.layer.Layer.TheVariants.{Finiteness, Rigidity}
use Rattle.sml_graph.specs.declared.demand.Halt.{Halt}
use Rattle.sml_graph.specs.declared.demand.Halt.TheVariants as H
use Rattle.sml_graph.specs.declared.demand.Refusal.{Refusal}
use Rattle.sml_graph.specs.declared.demand.Refusal.TheVariants as R
use Rattle.sml_graph.specs.Asked.{Asked, IsOf, count, PermitsSame}
use Rattle.sml_graph.specs.Interned.{IsOver}
use Rattle.sml_graph.proofs.Saying.{says-its-demands}
use Rattle.sml_schemes.specs.Left as L
use Rattle.sml_schemes.specs.Fixed as F
use Rattle.sml_solve.specs.Calls.{Keeps}
use Rattle.sml_core_rules.specs.Scopes.{run_scope}
use Rattle.sml_core_rules.specs.Solutions as C
use Rattle.sml_core_rules.specs.States.{State}
use Rattle.sml_asks.specs.Solvers.{SolverIs, IsTypeIn}
use Rattle.sml_asks.specs.Closings.{AnswersTest, AsksLabels, AsksGeneral, AreFlags, AsksFixed}
use Rattle.sml_asks.proofs.Leaving.{free-same, undetermined-same, fixed-same, labels-ok, labels-back}

-- the solver stays that of the state where the same types are permitted
stays : (unit next : ℕ) (old new : Asked) (s : State Place Name) → SolverIs unit next old s → PermitsSame old new → count new ≡ count old → new.unit ≡ old.unit
    → new.spent ≡ false → SolverIs unit next new s
stays unit next old new s is p n u q = record {
  counted = is.counted;
  maker = u ∙ is.maker;
  spent = q;
  unknowns = n ∙ is.unknowns;
  known = is.known;
  demands = is.demands;
  says = says-its-demands.kept old new is.demands u p is.says;
  same = is.same;
  met = is.met;
}

pub kept-stays : (unit next : ℕ) (old mid new : Asked) (s : State Place Name) → SolverIs unit next old s → mid ≡ old → PermitsSame mid new → count new ≡ count mid
    → new.unit ≡ mid.unit → new.spent ≡ false → SolverIs unit next new s
kept-stays unit next old mid new s is e p n u q =
    stays unit next old new s is (subst (λ m. PermitsSame m new) e p) (n ∙ ap count e) (u ∙ ap (λ m. m.unit) e) q

-- rows

labels-answer : (old new : Asked) (t : MlType Name) (unit next : ℕ) (s : State Place Name) → SolverIs unit next old s → IsTypeIn s.made s.names t
    → (result : Result (Unit {0}) Refusal) → OnOk result (L.HasOneSetOfLabels Finiteness old t) → (result ≡ Err R.Labels → L.HasOneSetOfLabels Rigidity old t → ⊥)
    → ((l : Layer) → result ≡ Err (R.Unmet l) → ⊥) → Keeps old new result R.Spent
    → AnswersTest unit next s (C.HasOneSetOfLabels (run_scope unit) s Rigidity t) R.Labels new result
labels-answer old new t unit next s is k (Ok x) one several unmet c = (labels-ok unit next old s is t one, stays unit next old new s is c.same c.count c.returns.unit c.returns.kept)
labels-answer old new t unit next s is k (Err (R.Unmet l)) one several unmet c = absurd (unmet l refl)
labels-answer old new t unit next s is k (Err R.Labels) one several unmet c = inr (refl, λ o. several refl (labels-back unit next old s is t k o))
labels-answer old new t unit next s is k (Err R.Memory) one several unmet c = inl refl
labels-answer old new t unit next s is k (Err R.Spent) one several unmet c = absurd (let e : old.spent ≡ true = c.returns.spent.0 refl in let f : old.spent ≡ false = is.spent in cc)

known-type : (old : Asked) (m : ℕ) (names : List Name) (t : MlType Name) → count old ≡ m → IsTypeIn m names t → IsOf old t
known-type old m names t e k = subst (λ n. IsOver n t) (sym e) k.0

pub labels-after : (old mid new : Asked) (t : MlType Name) (made : Result (Unit {0}) Halt) (result : Result (Unit {0}) Refusal)
    → (IsOf old t → (made ≡ Ok tt) × (mid ≡ old)) → OnOk result (L.HasOneSetOfLabels Finiteness mid t) → (result ≡ Err R.Labels → L.HasOneSetOfLabels Rigidity mid t → ⊥)
    → ((l : Layer) → result ≡ Err (R.Unmet l) → ⊥) → Keeps mid new result R.Spent → AsksLabels old t new result
unfolding AsksLabels
labels-after old mid new t made result same one several unmet c unit next s is k =
    let e : mid ≡ old = (same (known-type old s.made s.names t is.unknowns k)).1 in
    labels-answer old new t unit next s is k result (subst (λ m. OnOk result (L.HasOneSetOfLabels Finiteness m t)) e one)
    (subst (λ m. result ≡ Err R.Labels → L.HasOneSetOfLabels Rigidity m t → ⊥) e several) unmet (subst (λ m. Keeps m new result R.Spent) e c)

pub labels-halted : (old mid new : Asked) (t : MlType Name) (made : Result (Unit {0}) Halt) (h : Halt) (result : Result (Unit {0}) Refusal)
    → (IsOf old t → (made ≡ Ok tt) × (mid ≡ old)) → made ≡ Err h → AsksLabels old t new result
unfolding AsksLabels
labels-halted old mid new t made h result same e unit next s is k =
    absurd (let p : made ≡ Ok tt = (same (known-type old s.made s.names t is.unknowns k)).0 in cc)

-- explicit variables

abbrev IsGeneral : Asked → List ℕ → ℕ → List ℕ → Type 0
IsGeneral m vs first others = AllByRecursion (λ v. L.IsFree m v → F.IsFixed m first others v → ⊥) vs

abbrev IsFixedOne : Asked → List ℕ → ℕ → List ℕ → Type 0
IsFixedOne m vs first others = (v : ℕ) × Stands v vs × F.IsFixed m first others v

module _ (old new : Asked) (first : ℕ) (others : List ℕ) (unit next : ℕ) (s : State Place Name) (is : SolverIs unit next old s) where
  none-fixed : (vs : List ℕ) → AllByRecursion (C.IsFree (run_scope unit) s) vs → IsGeneral old vs first others
      → AllByRecursion (λ v. ¬ (C.IsFixed (run_scope unit) s first (map free others) v)) vs
  none-fixed [] f g = tt
  none-fixed (v ∷ vs) f g = ((λ x. g.0 ((free-same unit next old s is v).0 f.0) ((fixed-same unit next old s is first others v).0 x)), none-fixed vs f.1 g.1)

  one-fixed : (vs : List ℕ) → IsFixedOne old vs first others → AllByRecursion (λ v. ¬ (C.IsFixed (run_scope unit) s first (map free others) v)) vs → ⊥
  unfolding Stands
  one-fixed [] x a = x.1
  one-fixed (w ∷ vs) (v, inl e, x) a = a.0 ((fixed-same unit next old s is first others w).1 (subst (F.IsFixed old first others) e x))
  one-fixed (w ∷ vs) (v, inr h, x) a = one-fixed vs (v, h, x) a.1

  general-answer : (vs : List ℕ) → AllByRecursion (C.IsFree (run_scope unit) s) vs → (result : Result (Unit {0}) Refusal) → OnOk result (IsGeneral old vs first others)
      → ((l : Layer) → result ≡ Err (R.Unmet l) → (l ≡ Rigidity) × (v : ℕ) × Stands v vs × F.IsFixed old first others v) → (result ≡ Err R.Labels → ⊥) → Keeps old new result R.Spent
      → AnswersTest unit next s (AllByRecursion (λ v. ¬ (C.IsFixed (run_scope unit) s first (map free others) v)) vs) (R.Unmet Rigidity) new result
  general-answer vs f (Ok x) general unmet labels c = (none-fixed vs f general, stays unit next old new s is c.same c.count c.returns.unit c.returns.kept)
  general-answer vs f (Err (R.Unmet l)) general unmet labels c =
      let u : (l ≡ Rigidity) × (v : ℕ) × Stands v vs × F.IsFixed old first others v = unmet l refl in inr (ap R.Unmet u.0, one-fixed vs (u.1, u.2, u.3))
  general-answer vs f (Err R.Labels) general unmet labels c = absurd (labels refl)
  general-answer vs f (Err R.Memory) general unmet labels c = inl refl
  general-answer vs f (Err R.Spent) general unmet labels c = absurd (let e : old.spent ≡ true = c.returns.spent.0 refl in let q : old.spent ≡ false = is.spent in cc)

abbrev pub AreBelow : ℕ → List ℕ → Type 0
AreBelow n vs = AllByRecursion (λ v. v < n) vs

pub general-after : (old mid new : Asked) (vs : List ℕ) (first low : ℕ) (others : List ℕ) (made : Result (Unit {0}) Halt) (result : Result (Unit {0}) Refusal)
    → (AreBelow (count old) vs × AreBelow (count old) others → (made ≡ Ok tt) × (mid ≡ old)) → (first ≤ count mid → low ≡ first)
    → OnOk result (IsGeneral mid vs low others) → ((l : Layer) → result ≡ Err (R.Unmet l) → (l ≡ Rigidity) × (v : ℕ) × Stands v vs × F.IsFixed mid low others v)
    → (result ≡ Err R.Labels → ⊥) → Keeps mid new result R.Spent → AsksGeneral old vs first others new result
unfolding AsksGeneral
general-after old mid new vs first low others made result same lower general unmet labels c unit next s is le below vs-below any =
    let b : AreBelow (count old) vs × AreBelow (count old) others = (subst (λ n. AreBelow n vs) (sym is.unknowns) vs-below, subst (λ n. AreBelow n others) (sym is.unknowns) below) in
    let e : mid ≡ old = (same b).1 in
    let q : low ≡ first = lower (subst (λ n. first ≤ n) (sym (ap count e ∙ is.unknowns)) le) in
    general-answer old new first others unit next s is vs any result
    (subst (λ n. OnOk result (IsGeneral old vs n others)) q (subst (λ m. OnOk result (IsGeneral m vs low others)) e general))
    (λ l h. let u : (l ≡ Rigidity) × (v : ℕ) × Stands v vs × F.IsFixed mid low others v = unmet l h in
    (u.0, u.1, u.2, subst (λ n. F.IsFixed old n others u.1) q (subst (λ m. F.IsFixed m low others u.1) e u.3)))
    labels (subst (λ m. Keeps m new result R.Spent) e c)

pub general-never : (old new : Asked) (vs : List ℕ) (first : ℕ) (others : List ℕ) (result : Result (Unit {0}) Refusal)
    → (AreBelow (count old) vs × AreBelow (count old) others → ⊥) → AsksGeneral old vs first others new result
unfolding AsksGeneral
general-never old new vs first others result never unit next s is le below vs-below any =
    absurd (never (subst (λ n. AreBelow n vs) (sym is.unknowns) vs-below, subst (λ n. AreBelow n others) (sym is.unknowns) below))

-- flags

flags-same : (old : Asked) (first : ℕ) (others : List ℕ) (unit next : ℕ) (s : State Place Name) → SolverIs unit next old s → (flags : List Bool) → F.AreFixed old first others flags
    → AreFlags unit s first others flags
flags-same old first others unit next s is flags f = record {
  len = f.len ∙ is.unknowns;
  fixes = λ v k m. (fixed-same unit next old s is first others v).1 (f.fixes v (subst (λ n. v < n) (sym is.unknowns) k) m);
  all = λ v k u x. f.all v (subst (λ n. v < n) (sym is.unknowns) k) ((undetermined-same unit next old s is v).0 u) ((fixed-same unit next old s is first others v).0 x);
}

pub fixed-after : (old mid new : Asked) (first low : ℕ) (others : List ℕ) (made : Result (Unit {0}) Halt) (result : Result (Vec Bool Global) Halt)
    → (AreBelow (count old) others → (made ≡ Ok tt) × (mid ≡ old)) → (first ≤ count mid → low ≡ first)
    → IfOk result (λ flags. F.AreFixed mid low others flags.items) → Keeps mid new result H.Spent → IfOk result (λ flags. AsksFixed old first others flags.items new)
unfolding AsksFixed
fixed-after old mid new first low others made (Err h) same lower flags c = tt
fixed-after old mid new first low others made (Ok bs) same lower flags c = λ unit next s is le below.
    let e : mid ≡ old = (same (subst (λ n. AreBelow n others) (sym is.unknowns) below)).1 in
    let q : low ≡ first = lower (subst (λ n. first ≤ n) (sym (ap count e ∙ is.unknowns)) le) in (
      flags-same old first others unit next s is bs.items (subst (λ n. F.AreFixed old n others bs.items) q (subst (λ m. F.AreFixed m low others bs.items) e flags)),
      stays unit next old new s is (subst (λ m. PermitsSame m new) e c.same) (c.count ∙ ap count e) (c.returns.unit ∙ ap (λ m. m.unit) e) c.returns.kept,
    )
