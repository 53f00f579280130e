use Rattle.std.proofs.Common.{ap, sym, ◌∙◌}
use Rattle.std.proofs.lemmas.Bool.{false≢true}
use Rattle.sml_tree.specs.Views.{dec_of}
use Rattle.sml_rules.specs.Readings.{is_specified}
use Rattle.sml_piece.proofs.Sealing.{core_own}
use Rattle.sml_piece.proofs.modules.own_basis.Goals as goal

pub returns-in-Core-clause-names : goal.returns-in-Core-clause-names
returns-in-Core-clause-names c = λ B basis. core_own c.args.basis.now B basis _ c.core_basis.result (c.core_basis.ensures.answer B basis.body_is) c.core_basis.ensures.unit c.core_basis.ensures.names

pub unreachable-requires : goal.unreachable-requires
unreachable-requires c = false≢true (ap (λ d. is_specified (dec_of d)) (sym c.in-Other.is) ∙ c.requires)
