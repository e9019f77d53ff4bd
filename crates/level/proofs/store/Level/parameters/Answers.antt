use Rattle.std.proofs.Common.{ap, ◌∙◌}
use Rattle.level.specs.Levels.{signal_parameters}
use Rattle.level.proofs.Held.{held_signals}
use Rattle.level.proofs.store.Level.parameters.Goals as goal

pub returns : goal.returns
returns c = c.get.ensures ∙ ap (λ ss. signal_parameters ss c.args.signal) (held_signals c.args.self.now)
