use Rattle.level.specs.Sound.{most_statements}
use Rattle.level.proofs.cursor.Cursor.effect.Goals as goal

pub returns : goal.returns
unfolding most_statements
returns c = c.statements.ensures
