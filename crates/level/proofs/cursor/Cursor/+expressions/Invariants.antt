use Rattle.level.proofs.cursor.Cursor.+expressions.Given as goal

abbrev pub decreases-expressions : goal.decreases-expressions
decreases-expressions l = l.count
