use Rattle.level.proofs.cursor.Cursor.+statements.Given as goal

abbrev pub decreases-statements : goal.decreases-statements
decreases-statements l = l.left
