use Rattle.std.proofs.Common.{◌∙◌}
use Rattle.sml_pat_sequences.specs.LowViews.{low_ty_of}
use Rattle.sml_bare_pats.proofs.TypeChains.{product-others}
use Rattle.sml_bare_pats.proofs.type_rules.product.Goals as goal

pub returns : goal.returns
returns c =
    rw (product-others c.args.place (low_ty_of c.args.first) c.args.others.trees.items (λ e. c.if-len-eq0.false (c.len.ensures ∙ c.args.others.trees.ok.0 ∙ e)))
    c.several.ensures
