use Rattle.std.proofs.Common.{◌++◌, replicate, sym, ap, ◌∙◌, arith}
use Rattle.sml_flaws.specs.CodeContexts.{contexts_of}
use Rattle.sml_flaws.proofs.Marking.{after_roles}
use Rattle.sml_flaws.proofs.mark.push_parts.Goals as goal

pub loop-index-init : goal.loop-index-init
loop-index-init c =
    let others = contexts_of c.args.runs.now in
    let inside = c.entered-inside.result in
    record {
      kept =
          c.in_ok-push_run.ensures
          ∙ ap (λ count. replicate count inside ++ others) c.saturating_sub.ensures
          ∙ ap (λ cs. cs ++ others) (sym (after_roles c.args.roles.now inside c.min-index.result c.args.count c.min-index.ensures));
      within = omega (arith, c.min-index.ensures);
    }
