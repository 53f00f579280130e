use Rattle.sml_reach.proofs.Gathering.{stands_gathered, idle_gathered, fails_gathered}
use Rattle.sml_reach.proofs.reach.Gathered.add.Goals as goal

pub returns-in_ok-push-in-Stands : goal.returns-in_ok-push-in-Stands
returns-in_ok-push-in-Stands c = λ os h. stands_gathered os c.args.self.now c.in-Stands.fit c.push.new.self.items c.args.outcome c.in-Stands.is c.in_ok-push-in-Stands.ensures.items h

pub returns-in-Idle : goal.returns-in-Idle
returns-in-Idle c = λ os h. idle_gathered os c.args.self.now c.args.outcome c.in-Idle.is h

pub returns-in_ok-push-in-Fails : goal.returns-in_ok-push-in-Fails
returns-in_ok-push-in-Fails c = λ os h. fails_gathered os c.args.self.now c.in-Fails.misfit c.push-in-Fails.new.self.items c.args.outcome c.in-Fails.is c.in_ok-push-in-Fails.ensures.items h
