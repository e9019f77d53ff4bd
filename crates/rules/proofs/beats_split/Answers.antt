use Rattle.rules.proofs.Theorems.{beats_split}
use Rattle.rules.proofs.beats_split.Goals as goal

pub returns : goal.returns
returns c = beats_split
