use Rattle.std.proofs.Common.{◌+◌, sym, ap, ◌∙◌, length, subst}
use Rattle.std.proofs.lemmas.List.{length_push}
use Rattle.sml_derived.specs.CodeHidden.{AreHidden}
use Rattle.sml_derived.proofs.Hiding.{one_more, none_hidden}
use Rattle.sml_derived.proofs.expander.first_hidden.Goals as goal

pub loop-number-init : goal.loop-number-init
loop-number-init c = record {
  kept = subst AreHidden (sym c.new-idents.ensures.items) none_hidden;
  count = ap length c.new-idents.ensures.items;
}

pub loop-number-preserved : goal.loop-number-preserved
loop-number-preserved c =
    let inv = c.loop-number.invariant in
    record {
      kept = subst AreHidden (sym c.in_ok-push.ensures.items) (one_more c.loop-number.idents.items _ c.loop-number.number inv.count c.in_ok-hidden.ensures inv.kept);
      count = ap length c.in_ok-push.ensures.items ∙ length_push c.loop-number.idents.items _ ∙ ap (λ k. k + 1) inv.count;
    }
