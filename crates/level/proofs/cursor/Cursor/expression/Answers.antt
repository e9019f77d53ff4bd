use Rattle.level.specs.Sound.{deepest}
use Rattle.level.proofs.cursor.Cursor.expression.Goals as goal

pub returns : goal.returns
unfolding deepest
returns c = c.nested.ensures
