use Rattle.level.specs.Sound.{most_statements}
use Rattle.evaluator.proofs.turn.Turn.effect.Goals as goal

pub statements-requires : goal.statements-requires
unfolding most_statements
statements-requires g c = c.requires

pub returns : goal.returns
unfolding most_statements
returns g c = c.statements.ensures
