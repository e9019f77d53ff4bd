use Rattle.level.specs.Levels.{meaning}
use Rattle.game.proofs.Rows.{SetOut}
use Rattle.game.proofs.board.Game.set_out.Given as goal

abbrev pub invariant-loop-piece : goal.invariant-loop-piece
invariant-loop-piece g l = SetOut (meaning l.level) l.self.table l.piece
