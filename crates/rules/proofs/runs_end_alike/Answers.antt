use Rattle.rules.proofs.Law.{runs_end_alike}
use Rattle.rules.proofs.runs_end_alike.Goals as goal

pub returns : goal.returns
returns c = runs_end_alike
