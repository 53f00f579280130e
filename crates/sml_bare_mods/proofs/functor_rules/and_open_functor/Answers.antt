use Rattle.std.proofs.Common.{◌≡◌, ℕ, ◌+◌, ◌∷◌, map, reverse, ap, ◌∙◌, arith}
use Rattle.sml_tree.specs.Heights.{fun_bind_height, highest}
use Rattle.sml_tree.specs.SignatureViews.{spec_of, specs_of}
use Rattle.sml_tree.specs.StructureViews.{fun_bind_of, str_of}
use Rattle.sml_tree.specs.TypeViews.{name_of}
use Rattle.sml_derived.specs.Derived.{open_functor}
use Rattle.sml_phrases.specs.declared.low.LowFunBinds.{LowFunBinds}
use Rattle.sml_phrases.proofs.Failures.{fails}
use Rattle.sml_bare_mods.proofs.Bindings.{functor_high, functor_measured}
use Rattle.sml_bare_mods.proofs.Pushes.{pushed}
use Rattle.sml_bare_mods.proofs.functor_rules.and_open_functor.Goals as goal

pub returns-in_err-height : goal.returns-in_err-height
returns-in_err-height c =
    let ss = specs_of (map spec_of (reverse c.args.specs.trees.items)) in
    let bs = map fun_bind_of (reverse c.args.binds.trees.items) in
    fails (λ (h : ℕ). h) (λ h. h) (λ (bs : LowFunBinds). map fun_bind_of (reverse bs.trees.items)) (highest fun_bind_height) (c.max-highest.result + 1) (open_functor (name_of c.args.name) ss (str_of c.args.body.tree) ∷ bs) c.in_err-height.field-0.0 c.from_residual.result c.in_err-height.ensures.sum c.from_residual.ensures.1
    (functor_high (name_of c.args.name) ss (str_of c.args.body.tree) bs _ _ _ _ c.args.specs.measured c.args.body.measured c.max.ensures c.max-highest.ensures)

pub returns : goal.returns
returns c =
    pushed fun_bind_of _ _ _ c.in_ok-push.ensures.items
    ∙ ap (λ b. b ∷ map fun_bind_of (reverse c.args.binds.trees.items)) (c.in_ok-open_functor.ensures ∙ ap (λ ss. open_functor (name_of c.args.name) (specs_of (map spec_of ss)) (str_of c.args.body.tree)) c.reverse.ensures.items)

pub invariant_of-result : goal.invariant_of-result
invariant_of-result c =
    let ss = specs_of (map spec_of (reverse c.args.specs.trees.items)) in
    let bs = map fun_bind_of (reverse c.args.binds.trees.items) in
    let made : map fun_bind_of (reverse c.push.new.self.items) ≡ open_functor (name_of c.args.name) ss (str_of c.args.body.tree) ∷ bs =
    pushed fun_bind_of _ _ _ c.in_ok-push.ensures.items
    ∙ ap (λ b. b ∷ bs) (c.in_ok-open_functor.ensures ∙ ap (λ ss. open_functor (name_of c.args.name) (specs_of (map spec_of ss)) (str_of c.args.body.tree)) c.reverse.ensures.items) in
    record {
      measured = functor_measured _ _ _ _ _ _ _ _ _ _ _ _ made c.args.binds.measured c.args.specs.measured c.args.body.measured c.max.ensures c.max-highest.ensures c.in_ok-height.ensures.sum c.max-2.ensures;
      low = omega arith;
    }
