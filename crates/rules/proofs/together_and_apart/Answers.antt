use Rattle.rules.proofs.Example.{together_and_apart}
use Rattle.rules.proofs.together_and_apart.Goals as goal

pub returns : goal.returns
returns c = together_and_apart
