use Rattle.std.proofs.Common.{rules}
use Rattle.level.specs.Levels.{meaning}
use Rattle.evaluator.proofs.Messages.{parameters_are}
use Rattle.evaluator.proofs.effects.parameters.Goals as goal

pub returns : goal.returns
returns c = let k = parameters_are (meaning c.args.level.now).signals c.args.signal in search (rules, k)
