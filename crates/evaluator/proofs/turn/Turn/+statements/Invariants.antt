use Rattle.evaluator.proofs.turn.Turn.+statements.Given as goal

abbrev pub decreases-statements : goal.decreases-statements
decreases-statements g l = l.left
