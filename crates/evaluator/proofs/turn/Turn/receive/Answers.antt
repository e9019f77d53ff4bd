use Rattle.std.proofs.Common.{rules}
use Rattle.evaluator.specs.Trails.{held, room}
use Rattle.evaluator.proofs.turn.Turn.receive.Goals as goal

pub returns-clause-lists : goal.returns-clause-lists
returns-clause-lists g c =
    let met = c.write.ensures.lists (held c.args.trails.now.parcels) (room c.args.trails.now.parcels) in
    search (rules, met, c.own_change.ensures, c.in-Some.is)
