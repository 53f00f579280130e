use Rattle.std.proofs.Common.{ap, sym, ◌∙◌}
use Rattle.sml_objects.specs.Views.{maker_of}
use Rattle.sml_core.specs.Bound.{IsAnew}
use Rattle.sml_core.proofs.Beginning.{begun}
use Rattle.sml_core.proofs.context.Context.new.Goals as goal

pub returns-clause-begins : goal.returns-clause-begins
returns-clause-begins c = λ C ns means values functions names.
    let anew : IsAnew (maker_of c.new-3.result.unit) c.new-2.result = record {
      count = c.new-2.ensures.count;
      unit = c.new-2.ensures.unit ∙ ap maker_of (sym c.new-3.ensures.unit);
      met = c.new-2.ensures.met;
      spent = c.new-2.ensures.spent;
    } in
    begun _ C ns anew c.new-7.ensures.items c.new-8.ensures.items c.new-5.ensures c.new-6.ensures (c.new.ensures C means) values functions names
