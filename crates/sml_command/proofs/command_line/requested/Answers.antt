use Rattle.clap.specs.Simple.{app_of}
use Rattle.sml_command.proofs.Commands.{faulted}
use Rattle.sml_command.proofs.command_line.requested.Goals as goal

pub returns-in_err-matches-clause-fault : goal.returns-in_err-matches-clause-fault
returns-in_err-matches-clause-fault c =
    faulted _ (app_of c.in_ok-command.field-0) c.in_err-matches.field-0.0 c.from_residual-in_err-matches.result c.in_ok-command.ensures c.in_err-matches.ensures.kinds c.from_residual-in_err-matches.ensures.1

pub returns-clause-request : goal.returns-clause-request
returns-clause-request c = record {
  app = app_of c.in_ok-command.field-0;
  smlcheck = c.in_ok-command.ensures;
  matches = c.in_ok-matches.matches;
  in_words = c.in_ok-matches.ensures.matches;
  found = c.in_ok-request_of.ensures;
}
