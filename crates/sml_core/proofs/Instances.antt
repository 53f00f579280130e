-- Instances of values, with what their attributes and statuses ask.
use Rattle.std.proofs.Common.{slice_index_or, drop, take, ◌≡◌, ◌≤◌, ◌<◌, ◌+◌, ℕ, suc, Bool, true, false, Some, None, Result, Ok, Err, List, [], ◌∷◌, ◌++◌, length, length-append, Vec, subst, sym, refl, ap, ◌∙◌, inl, inr, arith}
use Rattle.std.specs.Global.{Global}
use Rattle.std.specs.declared.rc.Rc.{Rc}
use Rattle.std.proofs.lemmas.List.{append_assoc, length-take-le, take-append-drop}
use Rattle.std.proofs.lemmas.Grind.{take_at_read}
use Rattle.sml_lex.specs.Faults.{fault_of}
use Rattle.sml_lex.specs.declared.fault.Code.{Code}
use Rattle.sml_lex.specs.declared.fault.Place.{Place}
use Rattle.sml_objects.specs.Appearance.{Stands}
use Rattle.sml_objects.specs.Initial.{Name}
use Rattle.sml_objects.specs.Objects.{MlType, MlTypes, bound, free, app, no_type, and_type}
use Rattle.sml_objects.specs.Types.{instance_from, replace_type, replace_types}
use Rattle.sml_objects.specs.Views.{type_of}
use Rattle.sml_objects.specs.declared.objects.MlType as P
use Rattle.sml_layers.specs.declared.class.Class.{Class}
use Rattle.sml_layers.specs.Demands as D
use Rattle.sml_layers.specs.Demands.{Demand, CanBeMet, Mentions, AllMention}
use Rattle.sml_graph.specs.Asked as A
use Rattle.sml_graph.specs.Asked.{Asked}
use Rattle.sml_graph.specs.Interned.{IsOver}
use Rattle.sml_graph.specs.Refusals.{refusal_code}
use Rattle.sml_graph.specs.declared.demand.Ask.TheVariants as Ask
use Rattle.sml_graph.specs.declared.demand.Refusal.{Refusal}
use Rattle.sml_graph.proofs.Interning.{instance-over}
use Rattle.sml_rules.specs.Answers.{Answer, accepted, refused}
use Rattle.sml_core_rules.specs.Objects.{Value, Status, variable, constructor, exception, overloaded}
use Rattle.sml_core_rules.specs.Scopes.{run_scope}
use Rattle.sml_core_rules.specs.Scripts.{Script, IsAnswer, give, require, new_overloaded, new_unknowns, ◌>>=◌}
use Rattle.sml_core_rules.specs.States.{State, Window, with_demand, with_unknowns, with_window}
use Rattle.sml_core_rules.specs.Values.{instance, require_attributes, require_status}
use Rattle.sml_types.specs.Answered.{IsFault}
use Rattle.sml_types.specs.declared.fault.CoreFault.{CoreFault}
use Rattle.sml_types.specs.declared.fault.CoreFault.TheVariants as F
use Rattle.sml_asks.specs.Solvers.{IsTypeIn}
use Rattle.sml_asks.specs.Steps.{Answers, Asks, Instantiates}
use Rattle.sml_asks.proofs.Stepping.{ask-answer}
use Rattle.sml_core.specs.declared.context.Context.{Context}
use Rattle.sml_core.specs.Answered.{IsAt, Reaches, Does, unit_of, AsksAttributes, AsksStatus, MakesInstance}
use Rattle.sml_core.specs.Seen.{IsValueIn, WhereOverloaded}
use Rattle.sml_core.proofs.Sequences.{keeps-more, type-later, then-reaches, then-refused, first-refused}
use Rattle.sml_core.proofs.Steps.{asked_with, demanded, refused-so}
use Rattle.sml_core.proofs.Applying.{given-reaches}

-- attributes, one after the other

state_of : State Place Name → Answer Place ((Unit {0}) × State Place Name) → State Place Name
state_of s (refused f) = s
state_of s (accepted r) = r.1

module _ (unit : ℕ) (p : Place) (fs : List Bool) (t : State Place Name) (o : Answer Place ((Unit {0}) × State Place Name)) (m : ℕ)
    (b : IsAnswer (run_scope unit) (require_attributes p m fs) t o) where
  -- the first ones, and those after them
  more-asked : (k : ℕ) (es : List Bool) (s : State Place Name) → m ≡ k + length es → IsAnswer (run_scope unit) (require_attributes p k es) s (accepted (tt, t))
      → IsAnswer (run_scope unit) (require_attributes p k (es ++ fs)) s o
  unfolding IsAnswer ◌>>=◌ state_of
  more-asked k [] s e a =
      subst (λ k. IsAnswer (run_scope unit) (require_attributes p k fs) s o) (omega (arith, e)) (subst (λ s. IsAnswer (run_scope unit) (require_attributes p m fs) s o) (ap (state_of s) a) b)
  more-asked k (false ∷ es) s e a = more-asked (suc k) es s (omega (arith, e)) a
  more-asked k (true ∷ es) s e (inl (c, a)) = inl (c, more-asked (suc k) es _ (omega (arith, e)) a)
  more-asked k (true ∷ es) s e (inr (l, f, a)) = absurd cc

pub attributes-more : (old mid new : Context) (p : Place) (k m : ℕ) (es fs : List Bool) (result : Result (Unit {0}) CoreFault) → m ≡ k + length es → AsksAttributes old p k es mid (Ok tt)
    → AsksAttributes mid p m fs new result → AsksAttributes old p k (es ++ fs) new result
unfolding AsksAttributes
attributes-more old mid new p k m es fs result e first then = λ around s is le.
    let len : length (es ++ fs) ≡ length es + length fs = length-append es fs in
    let q = first around s is (omega (arith, le, len)) in
    let rest = then around q.0 q.1.at (omega (arith, le, len, e, q.1.later.made)) in
    go around s q.0 q.1 result rest
  where
    go : (around : Window Place Name) (s t : State Place Name) → Reaches around old (require_attributes p k es) s mid tt t → (result : Result (Unit {0}) CoreFault)
        → Does around mid (require_attributes p m fs) t new result → Does around old (require_attributes p k (es ++ fs)) s new result
    go around s t q (Ok x) rest = (
      rest.0,
      record {
        answer = more-asked (unit_of old) p fs t (accepted (tt, rest.0)) m (subst (λ u. IsAnswer (run_scope u) (require_attributes p m fs) t (accepted (tt, rest.0))) q.unit rest.1.answer) k es s e q.answer;
        at = rest.1.at;
        unit = rest.1.unit ∙ q.unit;
        seen = keeps-more q.seen rest.1.seen;
        later = record { made = omega (arith, q.later.made, rest.1.later.made); names = λ n h. rest.1.later.names n (q.later.names n h) };
      },
      tt,
    )
    go around s t q (Err F.Memory) rest = tt
    go around s t q (Err (F.Fault f)) rest =
        more-asked (unit_of old) p fs t (refused (fault_of f)) m (subst (λ u. IsAnswer (run_scope u) (require_attributes p m fs) t (refused (fault_of f))) q.unit rest) k es s e q.answer

-- no attribute, and one that asks nothing
pub attributes-none : (old : Context) (p : Place) (k : ℕ) → AsksAttributes old p k [] old (Ok tt)
unfolding AsksAttributes
attributes-none old p k = λ around s is le. (s, given-reaches around old s is tt, tt)

pub attribute-free : (old : Context) (p : Place) (k : ℕ) → AsksAttributes old p k (false ∷ []) old (Ok tt)
unfolding AsksAttributes
attribute-free old p k = λ around s is le. (s, given-reaches around old s is tt, tt)

-- what follows a refused one doesn't matter
pub attributes-refused : (old new : Context) (p : Place) (k : ℕ) (es fs : List Bool) (f : CoreFault) → AsksAttributes old p k es new (Err f) → AsksAttributes old p k (es ++ fs) new (Err f)
unfolding AsksAttributes IsAnswer ◌>>=◌
attributes-refused old new p k es fs F.Memory asks = λ around s is le. tt
attributes-refused old new p k es fs (F.Fault f) asks = λ around s is le.
    let len : length (es ++ fs) ≡ length es + length fs = length-append es fs in
    still (unit_of old) k es s (asks around s is (omega (arith, le, len)))
  where
    still : (unit k : ℕ) (es : List Bool) (s : State Place Name) → IsAnswer (run_scope unit) (require_attributes p k es) s (refused (fault_of f))
        → IsAnswer (run_scope unit) (require_attributes p k (es ++ fs)) s (refused (fault_of f))
    still unit k [] s a = absurd cc
    still unit k (false ∷ es) s a = still unit (suc k) es s a
    still unit k (true ∷ es) s (inl (c, a)) = inl (c, still unit (suc k) es _ a)
    still unit k (true ∷ es) s (inr (l, g, a)) = inr (l, g, cc)

-- one more of a list
module _ (old mid new : Context) (p : Place) (k i : ℕ) (es : List Bool) (inside : i < length es) (asked : AsksAttributes old p k (take i es) mid (Ok tt)) where
  pub attributes-step : (result : Result (Unit {0}) CoreFault) → AsksAttributes mid p (k + i) (slice_index_or es i false ∷ []) new result → AsksAttributes old p k (take (i + 1) es) new result
  attributes-step result then =
      subst (λ fs. AsksAttributes old p k fs new result) (sym (take_at_read es i false inside).1)
      (attributes-more old mid new p k (k + i) (take i es) (slice_index_or es i false ∷ []) result
      (omega (arith, length-take-le i es (omega (arith, inside)))) asked then)

  pub attributes-stopped : (f : CoreFault) → AsksAttributes mid p (k + i) (slice_index_or es i false ∷ []) new (Err f) → AsksAttributes old p k es new (Err f)
  attributes-stopped f then =
      subst (λ fs. AsksAttributes old p k fs new (Err f)) (take-append-drop (i + 1) es) (attributes-refused old new p k (take (i + 1) es) (drop (i + 1) es) f (attributes-step (Err f) then))

module _ (old : Context) (p : Place) (k : ℕ) (solver : Asked) where
  over-unknown : (s : State Place Name) → k < s.made → IsTypeIn s.made s.names (free k)
  unfolding IsOver Mentions
  over-unknown s le = (le, tt)

  -- one that asks for equality

  pub attribute-asked : (result : Result (Unit {0}) Refusal) → Asks old.solver (A.asks Ask.Equality (free k)) solver result → result ≡ Ok tt
      → AsksAttributes old p k (true ∷ []) (asked_with old solver old.recorder) (Ok tt)
  unfolding AsksAttributes ◌>>=◌
  attribute-asked (Ok x) asks e = λ around s is le.
      demanded around old s is (D.asks D.equality (free k)) p solver old.recorder is.quiet
      (ask-answer (unit_of old) old.new.next old.solver solver s is.solver (Ok x) Ask.Equality D.equality (free k) asks refl (over-unknown s (omega (arith, le))))
  attribute-asked (Err r) asks e = absurd cc

  pub attribute-refused : (new : Context) (result : Result (Unit {0}) Refusal) (refusal : Refusal) (fault : CoreFault) → Asks old.solver (A.asks Ask.Equality (free k)) solver result
      → result ≡ Err refusal → ((c : Code) → refusal_code refusal ≡ Some c → IsFault fault (record { code = c; place = p; detail = None })) → (refusal_code refusal ≡ None → fault ≡ F.Memory)
      → AsksAttributes old p k (true ∷ []) new (Err fault)
  unfolding AsksAttributes ◌>>=◌
  attribute-refused new result refusal fault asks e faulty memory = λ around s is le.
      refused-so around old s is (D.asks D.equality (free k)) p solver refusal fault new faulty memory
      (subst (Answers (unit_of old) old.new.next s (D.asks D.equality (free k)) solver) e
      (ask-answer (unit_of old) old.new.next old.solver solver s is.solver result Ask.Equality D.equality (free k) asks refl (over-unknown s (omega (arith, le)))))

  -- the class of an overloaded identifier, which is among those of the declaration

  pub class-asked : (c : Class) (result : Result (Unit {0}) Refusal) (new : Context) → Asks old.solver (A.asks (Ask.Class c) (free k)) solver result → result ≡ Ok tt
      → (items : Vec ℕ Global) → items.items ≡ old.overloaded.items ++ k ∷ [] → new ≡ record old { solver = solver; overloaded = items } → AsksStatus old p k (overloaded c) new (Ok tt)
  unfolding AsksStatus IsAnswer ◌>>=◌
  class-asked c (Ok x) new asks e items pushed same = λ around s is le.
      let a = ask-answer (unit_of old) old.new.next old.solver solver s is.solver (Ok x) (Ask.Class c) (D.of_class c) (free k) asks refl (over-unknown s le) in
      let w : Window Place Name = record { rows = s.window.rows; overloaded = s.window.overloaded ++ k ∷ [] } in (
        with_window w (with_demand (D.asks (D.of_class c) (free k)) s),
        subst (λ n. Reaches around old (require_status p k (overloaded c)) s n tt (with_window w (with_demand (D.asks (D.of_class c) (free k)) s))) (sym same) (record {
          answer = inl (a.met, refl);
          at = record {
            solver = a;
            rows = is.rows;
            overloaded = pushed ∙ (ap (λ ks. ks ++ k ∷ []) is.overloaded ∙ append_assoc around.overloaded s.window.overloaded (k ∷ []));
            quiet = is.quiet;
          };
          unit = refl;
          seen = record { means = λ C h. h; around = λ C m h. h; scoped = λ vs h. h };
          later = record { made = omega arith; names = λ n h. h };
        }),
        tt,
      )
  class-asked c (Err r) new asks e items pushed same = absurd cc

  pub class-refused : (c : Class) (new : Context) (result : Result (Unit {0}) Refusal) (refusal : Refusal) (fault : CoreFault) → Asks old.solver (A.asks (Ask.Class c) (free k)) solver result
      → result ≡ Err refusal → ((c : Code) → refusal_code refusal ≡ Some c → IsFault fault (record { code = c; place = p; detail = None })) → (refusal_code refusal ≡ None → fault ≡ F.Memory)
      → AsksStatus old p k (overloaded c) new (Err fault)
  unfolding AsksStatus ◌>>=◌
  class-refused c new result refusal F.Memory asks e faulty memory = λ around s is le. tt
  class-refused c new result refusal (F.Fault f) asks e faulty memory = λ around s is le.
      first-refused old (require (D.asks (D.of_class c) (free k)) p) (λ _. new_overloaded k) s (fault_of f)
      (refused-so around old s is (D.asks (D.of_class c) (free k)) p solver refusal (F.Fault f) new faulty memory
      (subst (Answers (unit_of old) old.new.next s (D.asks (D.of_class c) (free k)) solver) e
      (ask-answer (unit_of old) old.new.next old.solver solver s is.solver result (Ask.Class c) (D.of_class c) (free k) asks refl (over-unknown s le))))

-- a status that asks nothing
pub status-asked : (old : Context) (p : Place) (k : ℕ) (w : Status) → ((c : Class) → w ≡ overloaded c → ⊥) → AsksStatus old p k w old (Ok tt)
unfolding AsksStatus
status-asked old p k variable none = λ around s is h. (s, given-reaches around old s is tt, tt)
status-asked old p k (constructor i n) none = λ around s is le. (s, given-reaches around old s is tt, tt)
status-asked old p k exception none = λ around s is le. (s, given-reaches around old s is tt, tt)
status-asked old p k (overloaded c) none = absurd (none c refl)

-- an instance

mutual
  unfolding Mentions AllMention replace_type replace_types

  instance-mentions : (P : Name → Type 0) (k : ℕ) (t : MlType Name) → Mentions P t → Mentions P (instance_from k t)
  instance-mentions P k (bound i) m = tt
  instance-mentions P k (free v) m = tt
  instance-mentions P k (app h ts) m = (m.0, instances-mention P k ts m.1)

  instances-mention : (P : Name → Type 0) (k : ℕ) (ts : MlTypes Name) → AllMention P ts → AllMention P (replace_types (λ j. free (k + j)) free ts)
  instances-mention P k no_type m = tt
  instances-mention P k (and_type t ts) m = (instance-mentions P k t m.0, instances-mention P k ts m.1)

where-so : {A B : Type 0} (w : Status) → (A → B) → WhereOverloaded w A → WhereOverloaded w B
where-so variable f h = tt
where-so (constructor i n) f h = tt
where-so exception f h = tt
where-so (overloaded c) f h = f h

module _ (old mid last : Context) (p : Place) (v : Value Name) (solver : Asked) (k : ℕ) (from : k ≡ A.count old.solver) (t : Rc P.MlType Global) (is_mid : mid ≡ record old { solver = solver })
    (instantiates : Instantiates old.solver v.scheme (type_of t.value) solver) where
  module _ (around : Window Place Name) (s : State Place Name) (is : IsAt around old s) (known : IsValueIn s.made s.names v) where
    first_unknown : k ≡ s.made
    first_unknown = from ∙ is.solver.unknowns

    begun : Reaches around old (new_unknowns (length v.scheme.variables)) s mid s.made (with_unknowns (length v.scheme.variables) s)
    unfolding Instantiates IsAnswer
    begun = let m = instantiates (unit_of old) old.new.next s is.solver known.unknowns in
        subst (λ c. Reaches around old (new_unknowns (length v.scheme.variables)) s c s.made (with_unknowns (length v.scheme.variables) s)) (sym is_mid) (record {
          answer = refl;
          at = record { solver = m.1; rows = is.rows; overloaded = is.overloaded; quiet = is.quiet };
          unit = refl;
          seen = record { means = λ C h. h; around = λ C m h. h; scoped = λ vs h. h };
          later = record { made = omega arith; names = λ n h. h };
        })

    instance_is : type_of t.value ≡ instance_from s.made v.scheme.body
    unfolding Instantiates
    instance_is = (instantiates (unit_of old) old.new.next s is.solver known.unknowns).0

    is_in : IsTypeIn (s.made + length v.scheme.variables) s.names (type_of t.value)
    is_in = subst (IsTypeIn (s.made + length v.scheme.variables) s.names) (sym instance_is)
        (instance-over (length v.scheme.variables) s.made v.scheme.body known.unknowns, instance-mentions (λ n. Stands n s.names) s.made v.scheme.body known.mentions)

    -- the first unknown is there, where there is a variable
    first-there : (u : State Place Name) → s.made + length v.scheme.variables ≤ u.made → WhereOverloaded v.status (k < u.made)
    first-there u le = where-so v.status (λ n. omega (arith, n, le, first_unknown)) known.status

    abbrev after_unknowns : ℕ → Script Place Name (MlType Name)
    after_unknowns k = require_attributes p k v.scheme.variables >>= λ _. require_status p k v.status >>= λ _. give (instance_from k v.scheme.body)

  pub attributes-fault : (new : Context) (f : CoreFault) → AsksAttributes mid p k v.scheme.variables new (Err f) → MakesInstance old p v new (Err f)
  unfolding AsksAttributes MakesInstance
  attributes-fault new F.Memory asks = λ around s is known. tt
  attributes-fault new (F.Fault f) asks = λ around s is known.
      let b = begun around s is known in
      then-refused around old mid (new_unknowns (length v.scheme.variables)) (after_unknowns around s is known) s (with_unknowns (length v.scheme.variables) s) s.made b (fault_of f)
      (first-refused mid (require_attributes p s.made v.scheme.variables) (λ _. require_status p s.made v.status >>= λ _. give (instance_from s.made v.scheme.body)) _ (fault_of f)
      (subst (λ j. IsAnswer (run_scope (unit_of mid)) (require_attributes p j v.scheme.variables) (with_unknowns (length v.scheme.variables) s) (refused (fault_of f))) (first_unknown around s is known)
      (asks around (with_unknowns (length v.scheme.variables) s) b.at (omega (arith, first_unknown around s is known)))))

  module _ (asks : AsksAttributes mid p k v.scheme.variables last (Ok tt)) where
    module _ (around : Window Place Name) (s : State Place Name) (is : IsAt around old s) (known : IsValueIn s.made s.names v) where
      asked : (u : State Place Name) × Reaches around mid (require_attributes p s.made v.scheme.variables) (with_unknowns (length v.scheme.variables) s) last tt u
      unfolding AsksAttributes
      asked =
          let q = asks around (with_unknowns (length v.scheme.variables) s) (begun around s is known).at (omega (arith, first_unknown around s is known)) in
          (q.0, subst (λ j. Reaches around mid (require_attributes p j v.scheme.variables) (with_unknowns (length v.scheme.variables) s) last tt q.0) (first_unknown around s is known) q.1)

    pub status-fault : (new : Context) (f : CoreFault) → AsksStatus last p k v.status new (Err f) → MakesInstance old p v new (Err f)
    unfolding AsksStatus MakesInstance
    status-fault new F.Memory asks = λ around s is known. tt
    status-fault new (F.Fault f) status = λ around s is known.
        let q = asked around s is known in
        let next : (Unit {0}) → Script Place Name (MlType Name) = λ _. require_status p s.made v.status >>= λ _. give (instance_from s.made v.scheme.body) in
        then-refused around old mid (new_unknowns (length v.scheme.variables)) (after_unknowns around s is known) s (with_unknowns (length v.scheme.variables) s) s.made (begun around s is known) (fault_of f)
        (then-refused around mid last (require_attributes p s.made v.scheme.variables) next (with_unknowns (length v.scheme.variables) s) q.0 tt q.1 (fault_of f)
        (first-refused last (require_status p s.made v.status) (λ _. give (instance_from s.made v.scheme.body)) q.0 (fault_of f)
        (subst (λ j. IsAnswer (run_scope (unit_of last)) (require_status p j v.status) q.0 (refused (fault_of f))) (first_unknown around s is known)
        (status around q.0 q.1.at (first-there around s is known q.0 q.1.later.made)))))

    pub instance-made : (new : Context) → AsksStatus last p k v.status new (Ok tt) → MakesInstance old p v new (Ok t)
    unfolding AsksStatus MakesInstance
    instance-made new status = λ around s is known.
        let q = asked around s is known in
        let r = status around q.0 q.1.at (first-there around s is known q.0 q.1.later.made) in
        let u = r.0 in
        let body = instance_from s.made v.scheme.body in
        let next : (Unit {0}) → Script Place Name (MlType Name) = λ _. require_status p s.made v.status >>= λ _. give body in
        let third : Reaches around last (require_status p s.made v.status) q.0 new tt u =
        subst (λ j. Reaches around last (require_status p j v.status) q.0 new tt u) (first_unknown around s is known) r.1 in
        let whole : Reaches around old (instance p v) s new body u =
        then-reaches around old mid (new_unknowns (length v.scheme.variables)) (after_unknowns around s is known) s (with_unknowns (length v.scheme.variables) s) s.made (begun around s is known) new body u
        (then-reaches around mid last (require_attributes p s.made v.scheme.variables) next (with_unknowns (length v.scheme.variables) s) q.0 tt q.1 new body u
        (then-reaches around last new (require_status p s.made v.status) (λ _. give body) q.0 u tt third new body u (given-reaches around new u third.at body))) in (
          u,
          subst (λ t. Reaches around old (instance p v) s new t u) (sym (instance_is around s is known)) whole,
          type-later (with_unknowns (length v.scheme.variables) s) u
              (record { made = omega (arith, q.1.later.made, third.later.made); names = λ n h. third.later.names n (q.1.later.names n h) }) (type_of t.value) (is_in around s is known),
        )

-- want of memory

pub attributes-memory : (old new : Context) (p : Place) (k : ℕ) (es : List Bool) → AsksAttributes old p k es new (Err F.Memory)
unfolding AsksAttributes
attributes-memory old new p k es = λ around s is le. tt

pub status-memory : (old new : Context) (p : Place) (k : ℕ) (w : Status) → AsksStatus old p k w new (Err F.Memory)
unfolding AsksStatus
status-memory old new p k w = λ around s is h. tt

pub instance-memory : (old new : Context) (p : Place) (v : Value Name) → MakesInstance old p v new (Err F.Memory)
unfolding MakesInstance
instance-memory old new p v = λ around s is known. tt
