use Rattle.sml_piece.proofs.Realising.{sent_none}
use Rattle.sml_piece.proofs.realisations.Realisation.new.Goals as goal

pub returns : goal.returns
returns c = sent_none c.new.result.entries c.new.ensures.empty
