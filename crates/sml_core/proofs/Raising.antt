-- What is raised.
use Rattle.std.proofs.Common.{◌≡◌, Result, Ok, Err, subst, sym}
use Rattle.std.specs.Global.{Global}
use Rattle.std.specs.declared.rc.Rc.{Rc}
use Rattle.sml_lex.specs.Faults.{fault_of}
use Rattle.sml_lex.specs.declared.fault.Place.{Place}
use Rattle.sml_tree.specs.Expressions.{Exp, raise}
use Rattle.sml_objects.specs.Initial as I
use Rattle.sml_objects.specs.Initial.{Name, naming}
use Rattle.sml_objects.specs.Names.{exn}
use Rattle.sml_objects.specs.Objects.{MlType, named}
use Rattle.sml_objects.specs.Views.{type_of}
use Rattle.sml_objects.specs.declared.objects.MlType as P
use Rattle.sml_layers.specs.Demands.{Mentions, AllMention}
use Rattle.sml_graph.specs.Interned.{IsOver, AreOver}
use Rattle.sml_rules.specs.Answers.{refused}
use Rattle.sml_core_rules.specs.Scopes.{run_scope}
use Rattle.sml_core_rules.specs.Scripts.{IsAnswer, new_unknown, ◌>>=◌}
use Rattle.sml_core_rules.specs.States.{State, Window}
use Rattle.sml_core_rules.specs.Values.{require_equal}
use Rattle.sml_core_rules.specs.Expressions.{exn_type, read_exp}
use Rattle.sml_types.specs.declared.fault.CoreFault.{CoreFault}
use Rattle.sml_types.specs.declared.fault.CoreFault.TheVariants as F
use Rattle.sml_asks.specs.Solvers.{IsTypeIn}
use Rattle.sml_core.specs.declared.context.Context.{Context}
use Rattle.sml_core.specs.Answered.{IsAt, Reaches, unit_of, MakesUnknown, Equates, Raises, IsPlain, Reads}
use Rattle.sml_core.proofs.Sequences.{then-reaches, then-refused, first-refused}

pub raises-memory : (old new : Context) (p : Place) (t : MlType Name) → Raises old p t new (Err F.Memory)
unfolding Raises
raises-memory old new p t = λ around s is k. tt

module _ (old mid : Context) (p : Place) (t : MlType Name) (exception : P.MlType) (is_exception : type_of exception ≡ named (I.initial exn)) where
  exception-in : (around : Window Place Name) (s : State Place Name) → IsAt around old s → IsTypeIn s.made s.names (type_of exception)
  unfolding IsOver AreOver Mentions AllMention
  exception-in around s is = subst (IsTypeIn s.made s.names) (sym is_exception) (tt, (is.solver.known.initials exn, tt))

  pub raise-unequal : (f : CoreFault) → Equates old p t (type_of exception) mid (Err f) → Raises old p t mid (Err f)
  unfolding Equates Raises naming
  raise-unequal F.Memory equates = λ around s is k. tt
  raise-unequal (F.Fault f) equates = λ around s is k.
      let q : IsAnswer (run_scope (unit_of old)) (require_equal p t (named (I.initial exn))) s (refused (fault_of f)) =
      subst (λ u. IsAnswer (run_scope (unit_of old)) (require_equal p t u) s (refused (fault_of f))) is_exception (equates around s is k (exception-in around s is)) in
      first-refused old (require_equal p t (named (I.initial exn))) (λ u. new_unknown) s (fault_of f) q

  pub raise-equal : (new : Context) (result : Result (Rc P.MlType Global) CoreFault) → Equates old p t (type_of exception) mid (Ok tt) → MakesUnknown mid new result → Raises old p t new result
  unfolding Equates Raises MakesUnknown naming
  raise-equal new (Err F.Memory) equates makes = λ around s is k. tt
  raise-equal new (Err (F.Fault f)) equates makes = λ around s is k.
      let q = equates around s is k (exception-in around s is) in
      let first : Reaches around old (require_equal p t (named (I.initial exn))) s mid tt q.0 = subst (λ u. Reaches around old (require_equal p t u) s mid tt q.0) is_exception q.1 in
      then-refused around old mid (require_equal p t (named (I.initial exn))) (λ u. new_unknown) s q.0 tt first (fault_of f) (makes around q.0 q.1.at)
  raise-equal new (Ok b) equates makes = λ around s is k.
      let q = equates around s is k (exception-in around s is) in
      let first : Reaches around old (require_equal p t (named (I.initial exn))) s mid tt q.0 = subst (λ u. Reaches around old (require_equal p t u) s mid tt q.0) is_exception q.1 in
      let m = makes around q.0 q.1.at in
      (m.0, then-reaches around old mid (require_equal p t (named (I.initial exn))) (λ u. new_unknown) s q.0 tt first new (type_of b.value) m.0 m.1, m.2)

pub raise-refused : (old new : Context) (p : Place) (e : Exp Place) (f : CoreFault) → Reads old e new (Err f) → Reads old (raise p e) new (Err f)
unfolding Reads IsPlain read_exp
raise-refused old new p e F.Memory reads = λ h C vs around s is sees. tt
raise-refused old new p e (F.Fault f) reads = λ h C vs around s is sees.
    let scope = run_scope (unit_of old) in
    first-refused old (read_exp scope C vs e) (λ t. require_equal p t (exn_type scope) >>= λ u. new_unknown) s (fault_of f) (reads h C vs around s is sees)

pub raise-read : (old mid new : Context) (p : Place) (e : Exp Place) (t : Rc P.MlType Global) (result : Result (Rc P.MlType Global) CoreFault) → Reads old e mid (Ok t) → Raises mid p (type_of t.value) new result
    → Reads old (raise p e) new result
unfolding Reads IsPlain read_exp Raises
raise-read old mid new p e t (Err F.Memory) reads raises = λ h C vs around s is sees. tt
raise-read old mid new p e t (Err (F.Fault f)) reads raises = λ h C vs around s is sees.
    let scope = run_scope (unit_of old) in
    let m = reads h C vs around s is sees in
    then-refused around old mid (read_exp scope C vs e) (λ t. require_equal p t (exn_type scope) >>= λ u. new_unknown) s m.0 (type_of t.value) m.1 (fault_of f) (raises around m.0 m.1.at m.2)
raise-read old mid new p e t (Ok b) reads raises = λ h C vs around s is sees.
    let scope = run_scope (unit_of old) in
    let m = reads h C vs around s is sees in
    let n = raises around m.0 m.1.at m.2 in
    (n.0, then-reaches around old mid (read_exp scope C vs e) (λ t. require_equal p t (exn_type scope) >>= λ u. new_unknown) s m.0 (type_of t.value) m.1 new (type_of b.value) n.0 n.1, n.2)
