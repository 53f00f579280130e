use Rattle.std.proofs.Common.{[]}
use Rattle.sml_tree.specs.Signatures.{sig_end}
use Rattle.sml_tree.specs.SignatureViews.{sig_of}
use Rattle.sml_phrases.specs.Phrases.{at, specs_in, wheres_in}
use Rattle.sml_phrases.specs.PhraseViews.{seen}
use Rattle.sml_phrases.specs.declared.low.LowSig.{LowSig}
use Rattle.sml_bare_mods.proofs.Chains.{failed_signature}
use Rattle.sml_bare_mods.proofs.specification_rules.included_sig.Goals as goal

pub returns-in-Err : goal.returns-in-Err
returns-in-Err c =
    failed_signature (λ (s : LowSig). sig_of s.tree) c.args.place (sig_end c.args.place (specs_in (at (seen c.args.stack.now) 1))) (wheres_in (at (seen c.args.stack.now) 3)) 0 [] [] c.in-Err.failure c.in-Err.ensures.made
