-- Demands that a type mentions only names with lower numbers.
use Rattle.std.proofs.Common.{◌≡◌, ℕ, Some, None, Result, Ok, Err, sym, subst, refl, ◌∙◌}
use Rattle.sml_lex.specs.declared.fault.Code.{Code}
use Rattle.sml_lex.specs.declared.fault.Place.{Place}
use Rattle.sml_objects.specs.Initial.{Name}
use Rattle.sml_objects.specs.Objects.{MlType}
use Rattle.sml_layers.specs.declared.layer.Bound.{Bound}
use Rattle.sml_layers.specs.Demands.{asks, within}
use Rattle.sml_graph.specs.Asked as A
use Rattle.sml_graph.specs.Asked.{Asked}
use Rattle.sml_graph.specs.Refusals.{refusal_code}
use Rattle.sml_graph.specs.declared.demand.Ask.TheVariants as Ask
use Rattle.sml_graph.specs.declared.demand.Refusal.{Refusal}
use Rattle.sml_core_rules.specs.Scripts.{require}
use Rattle.sml_types.specs.Answered.{IsFault}
use Rattle.sml_types.specs.declared.fault.CoreFault.{CoreFault}
use Rattle.sml_types.specs.declared.fault.CoreFault.TheVariants as F
use Rattle.sml_asks.specs.Solvers.{IsBound}
use Rattle.sml_asks.specs.Steps.{Answers, Asks}
use Rattle.sml_asks.proofs.Stepping.{ask-answer}
use Rattle.sml_core.specs.declared.context.Context.{Context}
use Rattle.sml_core.specs.Answered.{Does, IsAt, Limits, Watches, unit_of}
use Rattle.sml_core.proofs.Steps.{asked_with, demanded, refused-so, with-recorder}

limits-ok : (old : Context) (p : Place) (t : MlType Name) (b : Bound) (most : ℕ) (solver : Asked) (result : Result (Unit {0}) Refusal)
    → Asks old.solver (A.asks (Ask.Within b most) t) solver result → result ≡ Ok tt → Limits old p t b most (asked_with old solver old.recorder) (Ok tt)
unfolding Limits
limits-ok old p t b most solver (Ok x) requested e = λ around s list is k l.
    demanded around old s is (asks (within b list) t) p solver old.recorder is.quiet
    (ask-answer (unit_of old) old.new.next old.solver solver s is.solver (Ok x) (Ask.Within b most) (within b list) t requested (list, l, refl) k)
limits-ok old p t b most solver (Err r) requested e = absurd cc

limits-refused : (old : Context) (p : Place) (t : MlType Name) (b : Bound) (most : ℕ) (solver : Asked) (new : Context) (result : Result (Unit {0}) Refusal) (refusal : Refusal) (fault : CoreFault)
    → Asks old.solver (A.asks (Ask.Within b most) t) solver result → result ≡ Err refusal
    → ((c : Code) → refusal_code refusal ≡ Some c → IsFault fault (record { code = c; place = p; detail = None })) → (refusal_code refusal ≡ None → fault ≡ F.Memory)
    → Limits old p t b most new (Err fault)
unfolding Limits
limits-refused old p t b most solver new result refusal fault requested e faulty memory = λ around s list is k l.
    refused-so around old s is (asks (within b list) t) p solver refusal fault new faulty memory
    (subst (Answers (unit_of old) old.new.next s (asks (within b list) t) solver) e
    (ask-answer (unit_of old) old.new.next old.solver solver s is.solver result (Ask.Within b most) (within b list) t requested (list, l, refl) k))

limits-watched : (old mid new : Context) (p : Place) (t : MlType Name) (b : Bound) (most : ℕ) (result : Result (Unit {0}) CoreFault) → Watches old mid (Ok tt) → Limits mid p t b most new result
    → Limits old p t b most new result
unfolding Limits Watches
limits-watched old mid new p t b most result watches limits = λ around s list is k l.
    let w = watches is.quiet in
    let at : IsAt around (record old { recorder = mid.recorder }) s = record { solver = is.solver; rows = is.rows; overloaded = is.overloaded; quiet = w.2 } in
    with-recorder around old new mid.recorder (require (asks (within b list) t) p) s result
    (subst (λ m. IsAt around m s → IsBound (unit_of m) m.new.next s.names most list → Does around m (require (asks (within b list) t) p) s new result) w.1 (λ a c. limits around s list a k c) at l)

module _ (old mid : Context) (p : Place) (t : MlType Name) (b : Bound) (most : ℕ) (watch : Result (Unit {0}) CoreFault) (watches : Watches old mid watch) where
  pub limit-unwatched : (new : Context) (f : CoreFault) (result : Result (Unit {0}) CoreFault) → watch ≡ Err f → Limits old p t b most new result
  unfolding Limits Watches
  limit-unwatched new f result e = λ around s list is k l. let g : Err f ≡ Ok tt = sym e ∙ (watches is.quiet).0 in absurd cc

  module _ (there : watch ≡ Ok tt) (solver : Asked) (result : Result (Unit {0}) Refusal) (requested : Asks mid.solver (A.asks (Ask.Within b most) t) solver result) where
    pub limit-is : result ≡ Ok tt → Limits old p t b most (record mid { solver = solver }) (Ok tt)
    limit-is e = limits-watched old mid (record mid { solver = solver }) p t b most (Ok tt) (subst (Watches old mid) there watches) (limits-ok mid p t b most solver result requested e)

    pub limit-not : (new : Context) (refusal : Refusal) (fault : CoreFault) → result ≡ Err refusal
        → ((c : Code) → refusal_code refusal ≡ Some c → IsFault fault (record { code = c; place = p; detail = None })) → (refusal_code refusal ≡ None → fault ≡ F.Memory)
        → Limits old p t b most new (Err fault)
    limit-not new refusal fault e faulty memory =
        limits-watched old mid new p t b most (Err fault) (subst (Watches old mid) there watches) (limits-refused mid p t b most solver new result refusal fault requested e faulty memory)
