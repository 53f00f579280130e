use Rattle.sml_tree.specs.Views.{long_of}
use Rattle.sml_types.proofs.Paths.{leads-fault}
use Rattle.sml_types.proofs.scope.path_of.Goals as goal

pub returns-in-Err : goal.returns-in-Err
returns-in-Err g c = λ C tells. leads-fault C c.args.long.now.place (long_of c.args.long.now) c.in-Err.fault (c.in-Err.ensures C tells)
