-- Calls of the solver as answers of scripts, of a context around it.
use Rattle.std.proofs.Common.{Bool, true, false, ◌≡◌, ◌+◌, ℕ, Some, None, Result, Ok, Err, List, sym, subst, refl, arith, ap, ◌∙◌}
use Rattle.std.specs.Global.{Global}
use Rattle.std.specs.declared.rc.Rc.{Rc}
use Rattle.sml_lex.specs.declared.fault.Code.{Code}
use Rattle.sml_lex.specs.declared.fault.Place.{Place}
use Rattle.sml_objects.specs.Initial.{Name}
use Rattle.sml_objects.specs.Objects.{MlType, free}
use Rattle.sml_objects.specs.Views.{type_of}
use Rattle.sml_objects.specs.declared.objects.MlType as P
use Rattle.sml_layers.specs.Demands.{Demand, Mentions, equal}
use Rattle.sml_layers.specs.Layers.{code_of}
use Rattle.sml_graph.specs.Asked as A
use Rattle.sml_graph.specs.Asked.{Asked}
use Rattle.sml_graph.specs.Interned.{IsOver}
use Rattle.sml_graph.specs.Refusals.{refusal_code}
use Rattle.sml_graph.specs.declared.demand.Refusal.{Refusal}
use Rattle.sml_graph.specs.declared.demand.Refusal.TheVariants as R
use Rattle.sml_rules.specs.Answers.{accepted, refused, fault}
use Rattle.sml_core_rules.specs.Scopes.{run_scope}
use Rattle.sml_core_rules.specs.Scripts.{Script, IsAnswer, new_unknown, require}
use Rattle.sml_core_rules.specs.Values.{require_equal}
use Rattle.sml_core_rules.specs.States.{State, Window, with_demand, with_unknowns}
use Rattle.sml_types.specs.Answered.{IsFault}
use Rattle.sml_types.specs.declared.fault.CoreFault.{CoreFault}
use Rattle.sml_types.specs.declared.fault.CoreFault.TheVariants as F
use Rattle.sml_asks.specs.Solvers.{IsTypeIn}
use Rattle.sml_asks.specs.Steps.{Answers, Asks, Makes}
use Rattle.sml_asks.proofs.Making.{answers-are-of-scripts}
use Rattle.sml_asks.proofs.Stepping.{equal-answer}
use Rattle.sml_core.specs.declared.context.Context.{Context}
use Rattle.sml_core.specs.declared.recorder.Recorder.{Recorder}
use Rattle.sml_core.specs.Answered.{IsAt, Reaches, Does, unit_of, MakesUnknown, Equates, Watches}

-- the context with another solver and recorder
abbrev pub asked_with : Context → Asked → Recorder → Context
asked_with c solver recorder = record c { solver = solver; recorder = recorder }

module _ (around : Window Place Name) (old : Context) (s : State Place Name) (is : IsAt around old s) where
  -- a new unknown

  pub unknown-made : (solver : Asked) (v : ℕ) (t : P.MlType) → Makes old.solver v 1 solver → type_of t ≡ free v
      → (u : State Place Name) × Reaches around old new_unknown s (record old { solver = solver }) (type_of t) u × IsTypeIn u.made u.names (type_of t)
  unfolding Makes IsAnswer IsOver Mentions
  unknown-made solver v t makes e =
      let m = makes (unit_of old) old.new.next s is.solver in
      let f : type_of t ≡ free s.made = e ∙ ap free m.0 in (
        with_unknowns 1 s,
        record {
          answer = ap (λ t. accepted (t, with_unknowns 1 s)) f;
          at = record { solver = m.1; rows = is.rows; overloaded = is.overloaded; quiet = is.quiet };
          unit = refl;
          seen = record { means = λ C h. h; around = λ C m h. h; scoped = λ vs h. h };
          later = record { made = omega arith; names = λ n h. h };
        },
        subst (IsTypeIn (s.made + 1) s.names) (sym f) (omega arith, tt),
      )

  -- a demand

  pub demanded : (e : Demand Name (List Name)) (p : Place) (solver : Asked) (recorder : Recorder) → recorder.wanted ≡ None → Answers (unit_of old) old.new.next s e solver (Ok tt)
      → (u : State Place Name) × Reaches around old (require e p) s (asked_with old solver recorder) tt u × (Unit {0})
  demanded e p solver recorder quiet a = (
    with_demand e s,
    record {
      answer = answers-are-of-scripts.ok (unit_of old) old.new.next s e p solver a;
      at = record { solver = a; rows = is.rows; overloaded = is.overloaded; quiet = quiet };
      unit = refl;
      seen = record { means = λ C h. h; around = λ C m h. h; scoped = λ vs h. h };
      later = record { made = omega arith; names = λ n h. h };
    },
    tt,
  )

  pub refused-so : (e : Demand Name (List Name)) (p : Place) (solver : Asked) (refusal : Refusal) (fault : CoreFault) (new : Context)
      → ((c : Code) → refusal_code refusal ≡ Some c → IsFault fault (record { code = c; place = p; detail = None })) → (refusal_code refusal ≡ None → fault ≡ F.Memory)
      → Answers (unit_of old) old.new.next s e solver (Err refusal) → Does around old (require e p) s new (Err fault)
  refused-so e p solver (R.Unmet l) F.Memory new faulty memory a = tt
  refused-so e p solver (R.Unmet l) (F.Fault f) new faulty memory a =
      subst (λ g. IsAnswer (run_scope (unit_of old)) (require e p) s (refused g)) (sym (faulty (code_of l) refl)) (answers-are-of-scripts.unmet (unit_of old) old.new.next s e p solver l a)
  refused-so e p solver R.Labels fault new faulty memory a = absurd a
  refused-so e p solver R.Memory fault new faulty memory a = subst (λ f. Does around old (require e p) s new (Err f)) (sym (memory refl)) tt
  refused-so e p solver R.Spent fault new faulty memory a = absurd a

pub unknown-is : (old : Context) (solver : Asked) (v : ℕ) (t : Rc P.MlType Global) → Makes old.solver v 1 solver → type_of t.value ≡ free v → MakesUnknown old (record old { solver = solver }) (Ok t)
unfolding MakesUnknown
unknown-is old solver v t makes e = λ around s is. unknown-made around old s is solver v t.value makes e

-- equal types

equal-ok : (old : Context) (p : Place) (t u : MlType Name) (solver : Asked) (result : Result (Unit {0}) Refusal) → Asks old.solver (A.equal t u) solver result → result ≡ Ok tt
    → Equates old p t u (asked_with old solver old.recorder) (Ok tt)
unfolding Equates
equal-ok old p t u solver (Ok x) asks e = λ around s is k l.
    demanded around old s is (equal t u) p solver old.recorder is.quiet (equal-answer (unit_of old) old.new.next old.solver solver s is.solver (Ok x) t u asks k l)
equal-ok old p t u solver (Err r) asks e = absurd cc

equal-refused : (old : Context) (p : Place) (t u : MlType Name) (solver : Asked) (new : Context) (result : Result (Unit {0}) Refusal) (refusal : Refusal) (fault : CoreFault)
    → Asks old.solver (A.equal t u) solver result → result ≡ Err refusal
    → ((c : Code) → refusal_code refusal ≡ Some c → IsFault fault (record { code = c; place = p; detail = None })) → (refusal_code refusal ≡ None → fault ≡ F.Memory)
    → Equates old p t u new (Err fault)
unfolding Equates
equal-refused old p t u solver new result refusal fault asks e faulty memory = λ around s is k l.
    refused-so around old s is (equal t u) p solver refusal fault new faulty memory
    (subst (Answers (unit_of old) old.new.next s (equal t u) solver) e (equal-answer (unit_of old) old.new.next old.solver solver s is.solver result t u asks k l))

-- where nothing is wanted, nothing is kept

pub watches-quiet : (old : Context) (recorder : Recorder) (next : Bool) → next ≡ false → (old.recorder.wanted ≡ None → (next ≡ false) × (recorder.wanted ≡ None))
    → Watches old (record old { recorder = recorder }) (Ok tt)
unfolding Watches
watches-quiet old recorder next e quiet = λ q. (refl, refl, (quiet q).1)

pub watches-never : (old new : Context) (result : Result (Unit {0}) CoreFault) (recorder : Recorder) (next : Bool) → next ≡ true → (old.recorder.wanted ≡ None → (next ≡ false) × (recorder.wanted ≡ None))
    → Watches old new result
unfolding Watches
watches-never old new result recorder true e quiet = λ q. let f : true ≡ false = (quiet q).0 in absurd cc
watches-never old new result recorder false e quiet = absurd cc

-- what was answered from a context is answered from the same one with another recorder
pub with-recorder : (around : Window Place Name) (old new : Context) (recorder : Recorder) (k : Script Place Name (Unit {0})) (s : State Place Name) (result : Result (Unit {0}) CoreFault)
    → Does around (record old { recorder = recorder }) k s new result → Does around old k s new result
with-recorder around old new recorder k s (Ok x) a = (a.0, record { answer = a.1.answer; at = a.1.at; unit = a.1.unit; seen = record { means = a.1.seen.means; around = a.1.seen.around; scoped = a.1.seen.scoped }; later = a.1.later }, tt)
with-recorder around old new recorder k s (Err F.Memory) a = tt
with-recorder around old new recorder k s (Err (F.Fault f)) a = a

watched : (old mid new : Context) (p : Place) (t u : MlType Name) (result : Result (Unit {0}) CoreFault) → Watches old mid (Ok tt) → Equates mid p t u new result → Equates old p t u new result
unfolding Equates Watches
watched old mid new p t u result watches equates = λ around s is k l.
    let w = watches is.quiet in
    let at : IsAt around (record old { recorder = mid.recorder }) s = record { solver = is.solver; rows = is.rows; overloaded = is.overloaded; quiet = w.2 } in
    with-recorder around old new mid.recorder (require_equal p t u) s result
    (subst (λ m. Does around m (require_equal p t u) s new result) w.1 (equates around s (subst (λ m. IsAt around m s) (sym w.1) at) k l))

module _ (old mid : Context) (p : Place) (t u : MlType Name) (watch : Result (Unit {0}) CoreFault) (watches : Watches old mid watch) where
  pub equal-unwatched : (new : Context) (f : CoreFault) (result : Result (Unit {0}) CoreFault) → watch ≡ Err f → Equates old p t u new result
  unfolding Equates Watches
  equal-unwatched new f result e = λ around s is k l. let g : Err f ≡ Ok tt = sym e ∙ (watches is.quiet).0 in absurd cc

  module _ (there : watch ≡ Ok tt) (solver : Asked) (result : Result (Unit {0}) Refusal) (asks : Asks mid.solver (A.equal t u) solver result) where
    pub equal-is : result ≡ Ok tt → Equates old p t u (record mid { solver = solver }) (Ok tt)
    equal-is e = watched old mid (record mid { solver = solver }) p t u (Ok tt) (subst (Watches old mid) there watches) (equal-ok mid p t u solver result asks e)

    pub equal-not : (new : Context) (refusal : Refusal) (fault : CoreFault) → result ≡ Err refusal
        → ((c : Code) → refusal_code refusal ≡ Some c → IsFault fault (record { code = c; place = p; detail = None })) → (refusal_code refusal ≡ None → fault ≡ F.Memory)
        → Equates old p t u new (Err fault)
    equal-not new refusal fault e faulty memory =
        watched old mid new p t u (Err fault) (subst (Watches old mid) there watches) (equal-refused mid p t u solver new result refusal fault asks e faulty memory)

-- want of memory

pub unknown-memory : (old new : Context) → MakesUnknown old new (Err F.Memory)
unfolding MakesUnknown
unknown-memory old new = λ around s is. tt
