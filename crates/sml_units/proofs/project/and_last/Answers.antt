use Rattle.std.proofs.Common.{[], ◌∷◌, ◌+◌, ◌++◌, length, ap, append-nil, sym, subst, arith}
use Rattle.std.specs.Option.{option_map, option_to_list}
use Rattle.sml_lex.specs.Faults.{fault_of}
use Rattle.sml_rules.specs.Answers.{refused}
use Rattle.sml_units.specs.Checked.{AreRepliesTo, IsReplyTo, with_last}
use Rattle.sml_units.proofs.Replying.{replies_push}
use Rattle.sml_units.proofs.project.and_last.Goals as goal

pub returns-in_ok-push-in-Some-clause-last : goal.returns-in_ok-push-in-Some-clause-last
returns-in_ok-push-in-Some-clause-last c = λ os h.
    let rs = c.args.replies in
    let o = refused (fault_of c.in-Some.fault) in
    let a = c.len.ensures in
    let b = rs.ok.0 in
    let n = c.in_ok-number-in-Some.ensures in
    let reply : IsReplyTo c.in_ok-number-in-Some.number o c.refused.result = record { printed = c.refused.ensures.text; unwarned = c.refused.ensures.warnings; accepting = c.refused.ensures.refused; numbered = c.refused.ensures.number } in
    subst (λ f. AreRepliesTo 1 (with_last os (option_map fault_of f)) c.push.new.self.items) (sym c.in-Some.is)
    (subst (AreRepliesTo 1 (os ++ o ∷ [])) (sym c.in_ok-push-in-Some.ensures.items)
    (replies_push 1 os rs.items o c.refused.result h (subst (λ n. IsReplyTo n o c.refused.result) (omega (arith, a, b, n)) reply)))

pub returns-in_ok-push-in-Some-clause-more : goal.returns-in_ok-push-in-Some-clause-more
returns-in_ok-push-in-Some-clause-more c =
    let rs = c.args.replies in
    let o = refused (fault_of c.in-Some.fault) in
    let a = c.len.ensures in
    let b = rs.ok.0 in
    let n = c.in_ok-number-in-Some.ensures in
    let reply : IsReplyTo c.in_ok-number-in-Some.number o c.refused.result = record { printed = c.refused.ensures.text; unwarned = c.refused.ensures.warnings; accepting = c.refused.ensures.refused; numbered = c.refused.ensures.number } in (
      c.refused.result ∷ [],
      c.in_ok-push-in-Some.ensures.items,
      ap (λ f. length (option_to_list f)) (sym c.in-Some.is),
      subst (λ f. AreRepliesTo (length rs.items + 1) (with_last [] (option_map fault_of f)) (c.refused.result ∷ [])) (sym c.in-Some.is)
          (subst (λ n. IsReplyTo n o c.refused.result) (omega (arith, a, b, n)) reply, tt),
    )

pub returns-in-None-clause-more : goal.returns-in-None-clause-more
returns-in-None-clause-more c =
    let rs = c.args.replies.items in (
      [],
      sym (append-nil rs),
      ap (λ f. length (option_to_list f)) (sym c.in-None.is),
      subst (λ f. AreRepliesTo (length rs + 1) (with_last [] (option_map fault_of f)) []) (sym c.in-None.is) tt,
    )
