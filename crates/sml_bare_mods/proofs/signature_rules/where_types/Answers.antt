use Rattle.sml_tree.specs.SignatureViews.{sig_of}
use Rattle.sml_phrases.specs.PhraseViews.{low_where_of}
use Rattle.sml_phrases.specs.declared.low.LowSig.{LowSig}
use Rattle.sml_bare_mods.proofs.Chains.{failed_equation}
use Rattle.sml_bare_mods.proofs.signature_rules.where_types.Goals as goal

pub returns-in-Err : goal.returns-in-Err
returns-in-Err c =
    failed_equation (λ (s : LowSig). sig_of s.tree) low_where_of c.args.place (sig_of c.loop-equation.whole.tree) _ c.loop-equation.left.items c.pop.new.self.items c.in-Some.equation c.in-Err.failure c.in-Some.ensures.items c.in-Err.ensures c.loop-equation.invariant
