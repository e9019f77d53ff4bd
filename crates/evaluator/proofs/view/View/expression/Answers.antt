use Rattle.std.proofs.Common.{rules}
use Rattle.level.specs.Sound.{deepest}
use Rattle.evaluator.proofs.view.View.expression.Goals as goal

pub nested-requires : goal.nested-requires
unfolding deepest
nested-requires c = c.requires

pub returns-in-Ok : goal.returns-in-Ok
unfolding deepest
returns-in-Ok c = search rules

pub returns-in-Err : goal.returns-in-Err
unfolding deepest
returns-in-Err c = search rules
