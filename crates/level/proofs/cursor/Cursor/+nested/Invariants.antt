use Rattle.level.proofs.cursor.Cursor.+nested.Given as goal

abbrev pub decreases-nested : goal.decreases-nested
decreases-nested l = l.depth
