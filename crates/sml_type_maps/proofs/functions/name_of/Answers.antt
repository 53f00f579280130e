use Rattle.std.proofs.Common.{◌≡◌, ◌&&◌, true, false, nat_eq, cond, Some, None, length, ap, sym, ◌∙◌, eq-eqb}
use Rattle.std.proofs.lemmas.Bool.{ne_eqb}
use Rattle.sml_objects.specs.Views as V
use Rattle.sml_objects.specs.Views.{type_of}
use Rattle.sml_core_rules.specs.Functions.{named_type}
use Rattle.sml_type_maps.proofs.FunctionViews.{in_order, named-by}
use Rattle.sml_type_maps.proofs.functions.name_of.Goals as goal
use Rattle.sml_type_maps.proofs.functions.name_of.Goals.{else-len-via-then-len+else-are_variables, else-len-via-else-len}

pub returns-then-are_variables : goal.returns-then-are_variables
returns-then-are_variables c =
    let n = V.name_of c.in-Name.name in
    let ts = c.in-Name.parts in
    let qs = c.args.function.now.variables in
    let k = length qs.items in
    let many : nat_eq (length ts.items) k ≡ true = eq-eqb (length ts.items) k (sym ts.ok.0 ∙ sym c.len.ensures ∙ c.if-len.true ∙ c.len-in-Name.ensures ∙ qs.ok.0) in
    let order : in_order 0 ts.items ≡ true = ap (in_order 0) (sym c.deref-then-len.ensures.value) ∙ sym c.are_variables.ensures ∙ c.if-are_variables.true in
    sym (ap (λ t. named_type k (type_of t)) (sym c.deref.ensures ∙ c.in-Name.is) ∙ named-by k c.in-Name.name ts ∙ (λ i. cond (many i && order i) (Some n) None))

pub returns-else-len : goal.returns-else-len
returns-else-len c =
    let n = V.name_of c.in-Name.name in
    let ts = c.in-Name.parts in
    let qs = c.args.function.now.variables in
    let k = length qs.items in
    let whole = ap (λ t. named_type k (type_of t)) (sym c.deref.ensures ∙ c.in-Name.is) ∙ named-by k c.in-Name.name ts in
    elim c.else-len.branch [
      | else-len-via-then-len+else-are_variables w ↦
          (let many : nat_eq (length ts.items) k ≡ true = eq-eqb (length ts.items) k (sym ts.ok.0 ∙ sym c.len.ensures ∙ w.if-len.true ∙ c.len-in-Name.ensures ∙ qs.ok.0) in
          let order : in_order 0 ts.items ≡ false = ap (in_order 0) (sym w.deref-then-len.ensures.value) ∙ sym w.are_variables.ensures ∙ w.if-are_variables.false in
          sym (whole ∙ (λ i. cond (many i && order i) (Some n) None)))
      | else-len-via-else-len w ↦
          (let many : nat_eq (length ts.items) k ≡ false = ne_eqb (length ts.items) k (λ e. w.if-len.false (c.len.ensures ∙ ts.ok.0 ∙ e ∙ sym qs.ok.0 ∙ sym c.len-in-Name.ensures)) in
          sym (whole ∙ (λ i. cond (many i && in_order 0 ts.items) (Some n) None)))
    ]
