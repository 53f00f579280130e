use Rattle.std.proofs.Common.{◌≡◌, drop}
use Rattle.sml_phrases.specs.PhraseViews.{seen}
use Rattle.sml_bare_decs.proofs.declaration_rules.skip_all.Given as goal

abbrev pub invariant-loop-part : goal.invariant-loop-part
invariant-loop-part l = seen l.stack ≡ drop l._part (seen l.fn.stack)
