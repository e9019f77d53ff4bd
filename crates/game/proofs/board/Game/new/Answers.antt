use Rattle.game.proofs.Rows.{unset}
use Rattle.game.proofs.board.Game.new.Goals as goal

pub returns : goal.returns
returns g c = unset c.new.result (g.M.Mail.trays c.clear.new.self) c.clear.ensures c.new.ensures
