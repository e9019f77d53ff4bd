use Rattle.rules.proofs.Single.{fire_is_a_step}
use Rattle.rules.proofs.fire_is_a_step.Goals as goal

pub returns : goal.returns
returns c = fire_is_a_step
