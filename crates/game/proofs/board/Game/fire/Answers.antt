use Rattle.evaluator.specs.Trails.{lists, places}
use Rattle.game.specs.Games.{means, setting}
use Rattle.game.proofs.Strikes.{fired_step, enabled_fires}
use Rattle.game.proofs.board.Game.fire.Goals as goal

pub returns-clause-step : goal.returns-clause-step
returns-clause-step g c =
    fired_step (setting g.M.Mail c.args.level.now) (means g.M.Mail c.args.self.now) (means g.M.Mail c.strike.new.self)
    (places c.args.trails.now) c.args.piece c.args.transition c.strike.result (lists c.strike.new.trails) c.strike.ensures.call

pub returns-clause-enabled : goal.returns-clause-enabled
returns-clause-enabled g c =
    enabled_fires (setting g.M.Mail c.args.level.now) (means g.M.Mail c.args.self.now) (means g.M.Mail c.strike.new.self)
    (places c.args.trails.now) c.args.piece c.args.transition c.strike.result (lists c.strike.new.trails) c.strike.ensures.call
