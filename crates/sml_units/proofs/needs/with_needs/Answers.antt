use Rattle.std.proofs.Common.{refl, ap, sym, subst, ◌≡◌, ◌∙◌, true}
use Rattle.std.proofs.lemmas.List.{take_all}
use Rattle.std.proofs.lemmas.List.Folds.{list_all_at}
use Rattle.std.specs.List.{list_all}
use Rattle.sml_objects.specs.Initial.{initial_basis}
use Rattle.sml_objects.specs.Views.{env_of}
use Rattle.sml_units.specs.Runs.{needed, flag_at}
use Rattle.sml_units.proofs.Several.{ready_more, needed_more}
use Rattle.sml_units.proofs.needs.with_needs.Goals as goal

pub loop-need-init : goal.loop-need-init
unfolding needed
loop-need-init c = ((λ fs Ss kept env. (refl, sym env)), refl, refl)

pub loop-need-preserved : goal.loop-need-preserved
loop-need-preserved c =
    let ks = c.args.needs.now in
    let i = c.loop-need.need-index in
    let v = c.loop-need.invariant in
    let within = c.loop-need-test.true in
    let done = c.in_ok-is_whole.ensures in (
      (λ fs Ss kept env.
          let w = v.0 fs Ss kept env in
          let flag = sym (done.is fs Ss kept) ∙ c.if-not-is_whole.false in
          (ready_more fs ks i within w.0 flag, needed_more Ss ks i within _ w.1 ∙ sym (done.env fs Ss kept c.if-not-is_whole.false))),
      done.names ∙ v.1,
      done.unit ∙ v.2,
    )

pub returns-then-not-is_whole : goal.returns-then-not-is_whole
returns-then-not-is_whole c = λ fs Ss kept env none.
    list_all_at (flag_at fs) c.args.needs.now c.loop-need.need-index 0 c.loop-need-test.true (sym (c.in_ok-is_whole.ensures.is fs Ss kept) ∙ c.if-not-is_whole.true)

pub returns : goal.returns
returns c = λ fs Ss kept env none.
    let v = c.loop-need.invariant in
    let w = v.0 fs Ss kept env in
    let all = take_all c.loop-need.need-index c.args.needs.now c.loop-need-test.false in
    (subst (λ ks. list_all (flag_at fs) ks ≡ true) all w.0, subst (λ ks. (needed initial_basis Ss ks).body ≡ env_of c.loop-need.basis.env) all w.1, v.1 ∙ none, v.2)
