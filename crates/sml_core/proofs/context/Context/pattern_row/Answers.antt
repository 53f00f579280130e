use Rattle.std.proofs.Common.{Ok, Err, [], ◌∷◌, ◌++◌, ap, subst, sym, refl, ◌∙◌}
use Rattle.std.proofs.lemmas.List.{map-append}
use Rattle.std.proofs.lemmas.Map.Iter.{iter_end}
use Rattle.sml_objects.specs.Initial.{Name}
use Rattle.sml_objects.specs.Objects.{MlType}
use Rattle.sml_objects.specs.Views.{type_of}
use Rattle.sml_graph.specs.Asked as A
use Rattle.sml_types.specs.declared.fault.CoreFault.TheVariants as F
use Rattle.sml_asks.specs.Steps.{Asks}
use Rattle.sml_core.proofs.Sequences.{by-err}
use Rattle.sml_core.proofs.Rows.{row_types}
use Rattle.sml_core.proofs.PatternRows.{demanded-are, not-refused, plain-row, row-made, row-memory, row-not-made, row-refused}
use Rattle.sml_core.specs.Answered.{Row}
use Rattle.sml_core.specs.Patterns.{MakesRow}
use Rattle.sml_core.proofs.context.Context.pattern_row.Goals as goal

pub returns-in_err-row_of : goal.returns-in_err-row_of
returns-in_err-row_of c = λ ranked.
    let fs = row_types c.args.fields.entries in
    by-err (MakesRow c.args.self.now c.args.place c.args.flexible fs c.args.self.now) c.from_residual.result F.Memory c.from_residual.ensures.1 (row-memory c.args.self.now c.args.self.now c.args.place c.args.flexible fs)

pub returns-then-not-flexible : goal.returns-then-not-flexible
returns-then-not-flexible c = λ ranked.
    let fs = row_types c.args.fields.entries in
    let t = c.in_ok-row_of.field-0 in
    subst (λ b. MakesRow c.args.self.now c.args.place b fs c.args.self.now (Ok t)) (sym c.if-not-flexible.true) (plain-row c.args.self.now c.args.place fs t (c.in_ok-row_of.ensures ranked))

pub loop-label-init : goal.loop-label-init
loop-label-init c = c.new-demanded.ensures.items

pub loop-label-preserved : goal.loop-label-preserved
loop-label-preserved c = c.in_ok-push.ensures.items ∙ (ap (λ ds. ds ++ (c.in-Some.label, c.in-Some.ty) ∷ []) c.loop-label.invariant ∙ sym (map-append (λ e. (e.0.1, e.1)) c.loop-label.yielded (((c.in-Some.field-0-0-0, c.in-Some.label), c.in-Some.ty) ∷ [])))

pub returns-in_err-push : goal.returns-in_err-push
returns-in_err-push c = λ ranked.
    let fs = row_types c.args.fields.entries in
    by-err (MakesRow c.args.self.now c.args.place c.args.flexible fs c.args.self.now) c.from_residual-in_err-push.result F.Memory c.from_residual-in_err-push.ensures.1
    (row-memory c.args.self.now c.args.self.now c.args.place c.args.flexible fs)

pub returns-in_err-row : goal.returns-in_err-row
returns-in_err-row c = λ ranked.
    let fs = row_types c.args.fields.entries in
    let f = c.in_err-row.field-0.0 in
    by-err (MakesRow c.args.self.now c.args.place c.args.flexible fs c.unknown.new.self) c.from_residual-in_err-row.result f c.from_residual-in_err-row.ensures.1
    (subst (λ b. MakesRow c.args.self.now c.args.place b fs c.unknown.new.self (Err f)) (sym c.if-not-flexible.false) (row-not-made c.args.self.now c.unknown.new.self c.args.place fs f c.in_err-row.ensures))

pub returns-in-Err : goal.returns-in-Err
returns-in-Err c = λ ranked.
    let mid = c.unknown.new.self in
    let row = c.in_ok-row.row in
    let es = c.args.fields.entries in
    let given = c.into_iter-label-iterator.ensures.into_iter_gives in
    let end = iter_end (λ e. e) es c.loop-label.yielded c.into_iter-label-iterator.result c.loop-label.label-iterator c.next.new.self c.next.result given.0 c.loop-label.yielded_by c.in-None.is c.next.ensures.steps in
    let labels = demanded-are c.deref-2.result.now c.loop-label.yielded es (c.deref-2.ensures.value ∙ c.loop-label.invariant) end.0 in
    subst (λ b. MakesRow c.args.self.now c.args.place b (row_types es) (record mid { solver = c.ask_row.new.solver }) (Err c.refused.result)) (sym c.if-not-flexible.false)
    (row-refused c.args.self.now mid c.args.place (row_types es) row c.in_ok-row.ensures c.ask_row.new.solver c.ask_row.result
    (subst (λ (z : MlType Name × Row). Asks mid.solver (A.has_fields z.0 z.1) c.ask_row.new.solver c.ask_row.result) (λ i. (type_of (c.deref.ensures i), labels i)) c.ask_row.ensures)
    (record mid { solver = c.ask_row.new.solver }) c.in-Err.refusal c.refused.result c.in-Err.is c.refused.ensures.fault c.refused.ensures.memory)

pub returns-in_err-clone : goal.returns-in_err-clone
returns-in_err-clone c = λ ranked.
    let fs = row_types c.args.fields.entries in
    by-err (MakesRow c.args.self.now c.args.place c.args.flexible fs _) c.from_residual-in_err-clone.result F.Memory c.from_residual-in_err-clone.ensures.1 (row-memory c.args.self.now _ c.args.place c.args.flexible fs)

pub returns-in_err-push-2 : goal.returns-in_err-push-2
returns-in_err-push-2 c = λ ranked.
    let fs = row_types c.args.fields.entries in
    by-err (MakesRow c.args.self.now c.args.place c.args.flexible fs _) c.from_residual-in_err-push-2.result F.Memory c.from_residual-in_err-push-2.ensures.1 (row-memory c.args.self.now _ c.args.place c.args.flexible fs)

pub returns : goal.returns
returns c = λ ranked.
    let mid = c.unknown.new.self in
    let row = c.in_ok-row.row in
    let es = c.args.fields.entries in
    let new = record mid { solver = c.ask_row.new.solver; rows = c.push-2.new.self } in
    let given = c.into_iter-label-iterator.ensures.into_iter_gives in
    let end = iter_end (λ e. e) es c.loop-label.yielded c.into_iter-label-iterator.result c.loop-label.label-iterator c.next.new.self c.next.result given.0 c.loop-label.yielded_by c.in-None.is c.next.ensures.steps in
    let labels = demanded-are c.deref-2.result.now c.loop-label.yielded es (c.deref-2.ensures.value ∙ c.loop-label.invariant) end.0 in
    subst (λ b. MakesRow c.args.self.now c.args.place b (row_types es) new (Ok row)) (sym c.if-not-flexible.false)
    (row-made c.args.self.now mid c.args.place (row_types es) row c.in_ok-row.ensures c.ask_row.new.solver c.ask_row.result
    (subst (λ (z : MlType Name × Row). Asks mid.solver (A.has_fields z.0 z.1) c.ask_row.new.solver c.ask_row.result) (λ i. (type_of (c.deref.ensures i), labels i)) c.ask_row.ensures)
    new c.push-2.new.self c.in_ok-clone.field-0 (not-refused c.ask_row.result (λ r e. c.in_default.not-Err r e)) c.in_ok-clone.ensures.cases c.in_ok-push-2.ensures.items refl)
