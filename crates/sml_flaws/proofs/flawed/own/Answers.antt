use Rattle.std.proofs.Common.{◌≡◌, suc, ◌+◌, ◌-◌, ◌∷◌, take, drop, get_or, sym, ap, ◌∙◌, subst, arith}
use Rattle.std.specs.List.{before_first}
use Rattle.std.proofs.lemmas.List.{drop_more}
use Rattle.sml_read.specs.declared.grammar.Node.TheVariants.{Leaf}
use Rattle.sml_flaws.specs.Flawed.{ends_at, own_nodes}
use Rattle.sml_reach.proofs.UpTo.{all_left}
use Rattle.sml_flaws.proofs.flawed.own.Goals as goal

pub returns : goal.returns
returns c =
    let nodes = c.args.nodes.now in
    let n = c.args.number in
    let end = c.up_to_end-end.result in
    let here = drop_more nodes n Leaf c.requires in
    let kept = subst (λ ns. take end ns ≡ before_first ends_at ns) (all_left nodes (n + 1)) c.up_to_end-end.ensures.kept in
    ap (λ k. take k (drop n nodes)) (let e : n + 1 + end - n ≡ suc end = omega arith in e)
    ∙ ap (take (suc end)) here ∙ ap (λ ns. get_or nodes n Leaf ∷ ns) kept ∙ sym (ap own_nodes here)
