use Rattle.std.proofs.Common.{◌≡◌, ◌≤◌, ◌+◌, length, ◌∙◌, arith}
use Rattle.sml_lex.specs.declared.fault.Code.TheVariants.{Q3}
use Rattle.sml_lex.specs.Faults.{first_place}
use Rattle.sml_rules.specs.Answers.{fault}
use Rattle.sml_piece.proofs.Answering.{refused_by, fails, passes}
use Rattle.sml_piece.proofs.modules.few_names.Goals as goal
use Rattle.sml_piece.proofs.modules.few_names.Goals.{then-more-gt-MOST_NAMES-via-then-more-gt-MOST_NAMES, then-more-gt-MOST_NAMES-via-else-more-gt-MOST_NAMES+then-len-more}

pub returns-then-more-gt-MOST_NAMES : goal.returns-then-more-gt-MOST_NAMES
returns-then-more-gt-MOST_NAMES c =
    let before = c.args.basis.now.names.ok.0 in
    let many : ¬ (length c.args.basis.now.names.items + c.args.more ≤ 1048576) = elim c.then-more-gt-MOST_NAMES.branch [
      | then-more-gt-MOST_NAMES-via-then-more-gt-MOST_NAMES w ↦ λ h. let more = w.if-more-gt-MOST_NAMES.true in omega (arith, h, more)
      | then-more-gt-MOST_NAMES-via-else-more-gt-MOST_NAMES+then-len-more w ↦ λ h.
          let few = w.if-more-gt-MOST_NAMES.false in
          let more = w.if-len-more.true in
          let all = w.len.ensures ∙ before in
          omega (arith, h, few, more, all)
    ] in
    refused_by (λ u. u) _ c.plain_fault.result (fault Q3 first_place) c.plain_fault.ensures (fails _ (fault Q3 first_place) many)

pub returns : goal.returns
returns c =
    let before = c.args.basis.now.names.ok.0 in
    let few = c.if-more-gt-MOST_NAMES.false in
    let some = c.if-len-more.false in
    let all = c.len.ensures ∙ before in
    passes _ (fault Q3 first_place) (omega (arith, few, some, all))
