use Rattle.std.proofs.Common.{[], ap, ◌∙◌, lit<}
use Rattle.std.specs.List.{fold}
use Rattle.std.proofs.lemmas.Iterator.Consumers.{YieldsList-end}
use Rattle.std.proofs.lemmas.Iterator.Splits.{YieldsList-from_str_split}
use Rattle.sml_client.specs.Paths.{with_part}
use Rattle.sml_client.proofs.paths.parts_of.Goals as goal

pub returns : goal.returns
returns c =
    let all = YieldsList-end (YieldsList-from_str_split 47 c.args.path.now (lit< tt) (cc) (cc) (cc)) c.loop-part.yielded _ c.loop-part.yielded_by _ _ c.in-None.is c.next.ensures.steps in
    c.loop-part.invariant ∙ ap (fold (with_part c.args.is_absolute) []) all.0
