use Rattle.std.proofs.Common.{[], Vec, Global, ℕ, map, get_or, ap, ◌∙◌}
use Rattle.std.proofs.lemmas.List.{map-set, get_or-set_other}
use Rattle.sml_projects.proofs.project.text_at.Goals as goal

pub returns-then-index-len-clause-others : goal.returns-then-index-len-clause-others
returns-then-index-len-clause-others c = λ j h.
    let xs = c.args.texts.now.items in
    ap (λ l. get_or l j []) (map-set (λ (t : Vec ℕ Global). t.items) xs c.args.index c.replace.new.dest)
    ∙ get_or-set_other (map (λ (t : Vec ℕ Global). t.items) xs) c.args.index j c.replace.new.dest.items [] h
