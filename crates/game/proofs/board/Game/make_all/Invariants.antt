use Rattle.std.proofs.Common.{◌≡◌}
use Rattle.level.specs.Levels.{meaning}
use Rattle.rules.specs.Calls.{front_moves}
use Rattle.game.specs.Games.{means}
use Rattle.game.specs.Settling.{made_all}
use Rattle.game.proofs.board.Game.make_all.Given as goal

abbrev pub invariant-loop-moving : goal.invariant-loop-moving
invariant-loop-moving g l = made_all (meaning l.level) (means g.M.Mail l.self) l.moving-iterator ≡ made_all (meaning l.level) (means g.M.Mail l.initial.self) (front_moves l.moves)
