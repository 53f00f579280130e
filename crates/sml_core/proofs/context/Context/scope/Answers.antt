use Rattle.std.proofs.Common.{Ok, subst}
use Rattle.sml_tree.specs.Views.{ident_of}
use Rattle.sml_objects.specs.Objects.{free}
use Rattle.sml_objects.specs.Views.{type_of}
use Rattle.sml_objects.specs.declared.objects.MlType.TheVariants as M
use Rattle.sml_objects.proofs.TypeViews.{type_of-free}
use Rattle.sml_graph.specs.Asked as A
use Rattle.sml_graph.specs.declared.demand.Ask.TheVariants as Ask
use Rattle.sml_types.specs.declared.fault.CoreFault.TheVariants as F
use Rattle.sml_asks.specs.Steps.{Asks}
use Rattle.sml_asks.proofs.Making.{fresh-makes}
use Rattle.sml_core.proofs.Begun.{scoped-equality, scoped-plain, variable-memory, variable-scoped}
use Rattle.sml_core.proofs.Sequences.{by-err}
use Rattle.sml_core.specs.Begun.{ScopesVariable}
use Rattle.sml_core.proofs.context.Context.scope.Goals as goal
use Rattle.sml_core.proofs.context.Context.scope.Goals.{then-equality+in_default-ask_equality, else-equality}

pub returns-in_default : goal.returns-in_default
returns-in_default c = variable-memory c.args.self.now _ (ident_of c.args.name.now)

pub returns-in-Err : goal.returns-in-Err
returns-in-Err c = variable-memory c.args.self.now _ (ident_of c.args.name.now)

pub returns-in-Err-ask_equality : goal.returns-in-Err-ask_equality
returns-in-Err-ask_equality c = variable-memory c.args.self.now _ (ident_of c.args.name.now)

pub returns-in_err-add : goal.returns-in_err-add
returns-in_err-add c =
    by-err (ScopesVariable c.args.self.now (ident_of c.args.name.now) _) c.from_residual.result F.Memory c.from_residual.ensures.1 (variable-memory c.args.self.now _ (ident_of c.args.name.now))

pub returns : goal.returns
returns c =
    let old = c.args.self.now in
    let k = c.in-Ok.unknown in
    let b = c.is_equality_variable-equality.result in
    let one = c.fresh.new.self in
    let two = c.ask_variable.new.solver in
    let made = fresh-makes old.solver one (Ok k) c.in-Ok.ensures.new c.in-Ok.ensures.count c.in-Ok.ensures.same c.in-Ok.ensures.call in
    let asked : Asks one (A.asks (Ask.Variable (record { number = k; equality = b })) (free k)) two (Ok tt) =
    subst (λ t. Asks one (A.asks (Ask.Variable (record { number = k; equality = b })) t) two (Ok tt)) (type_of-free k)
    (subst (Asks one (A.asks (Ask.Variable (record { number = k; equality = b })) (type_of (M.Free k))) two) c.in_default-ask_variable.is c.ask_variable.ensures) in
    elim c.if-equality.branch [
      | then-equality+in_default-ask_equality w ↦
          let three = w.ask_equality.new.solver in
          variable-scoped old c.if-equality.self (ident_of c.args.name.now) b k three c.add.new.self c.is_equality_variable-equality.ensures w.self-is
          (scoped-equality old b k one two made asked three w.if-equality.true (subst (λ t. Asks two (A.asks Ask.Equality t) three (Ok tt)) (type_of-free k)
          (subst (Asks two (A.asks Ask.Equality (type_of (M.Free k))) three) w.in_default-ask_equality.is w.ask_equality.ensures))) c.in_ok-add.ensures
      | else-equality w ↦
          variable-scoped old c.if-equality.self (ident_of c.args.name.now) b k two c.add.new.self c.is_equality_variable-equality.ensures w.self-is
          (scoped-plain old b k one two made asked w.if-equality.false) c.in_ok-add.ensures
    ]
