use Rattle.std.proofs.Common.{◌≡◌}
use Rattle.level.specs.Levels.{meaning}
use Rattle.evaluator.specs.Reckoning.{board_of}
use Rattle.evaluator.specs.Rows.{states_of}
use Rattle.evaluator.specs.Trails.{held}
use Rattle.evaluator.proofs.Trying.{from}
use Rattle.evaluator.proofs.turn.Turn.discard.Given as goal

abbrev pub invariant-loop-found : goal.invariant-loop-found
invariant-loop-found g l =
    from (meaning l.self.level.now) (board_of l.self.table.now) l.self.mover (held l.changes) l.kind (states_of l.self.table.now l.self.mover) l.message l.found-index
    ≡ from (meaning l.self.level.now) (board_of l.self.table.now) l.self.mover (held l.changes) l.kind (states_of l.self.table.now l.self.mover) l.message 0
