use Rattle.std.proofs.Common.{ap, ◌∙◌, unwrap_or}
use Rattle.sml_objects.specs.Views.{name_of}
use Rattle.sml_objects.proofs.RenamingPairs.{looked-up}
use Rattle.sml_objects.proofs.renamings.Renaming.name.Goals as goal

pub returns-in-Some : goal.returns-in-Some
returns-in-Some c =
    ap (λ o. name_of (unwrap_or o c.args.name)) c.in-Some.ensures.value ∙ looked-up c.args.self.now.pairs.entries c.args.name

pub returns-in-None : goal.returns-in-None
returns-in-None c =
    ap (λ o. name_of (unwrap_or o c.args.name)) c.in-None.ensures.value ∙ looked-up c.args.self.now.pairs.entries c.args.name
