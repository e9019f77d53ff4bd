use Rattle.rules.proofs.Theorems.{depends_on_reads}
use Rattle.rules.proofs.moves_depend_on_reads.Goals as goal

pub returns : goal.returns
returns c = depends_on_reads
