use Rattle.std.proofs.Common.{rules}
use Rattle.evaluator.specs.Trails.{held, room}
use Rattle.evaluator.proofs.Stated.{assign_halts, assign_refused, assign_told, refused_with}
use Rattle.evaluator.proofs.turn.Turn.assign.Goals as goal

pub returns-in_err-value-clause-lists : goal.returns-in_err-value-clause-lists
returns-in_err-value-clause-lists g c =
    refused_with _ _ c.from_residual.ensures.1 (assign_halts g.M.Mail c.args.self.now c.args.trails.now c.args.at c.requires.legible c.requires.byte c.in_err-value.ensures)

pub returns-in_err-write-clause-lists : goal.returns-in_err-write-clause-lists
returns-in_err-write-clause-lists g c =
    let met = c.in_err-write.ensures.lists (held c.args.trails.now.parcels) (room c.args.trails.now.parcels) in
    refused_with _ _ c.from_residual-in_err-write.ensures.1 (assign_refused g.M.Mail c.args.self.now c.args.trails.now c.args.at c.requires.legible c.requires.byte c.in_ok-value.ensures (search (rules, met, c.own_change.ensures, c.code.ensures)))

pub returns-clause-lists : goal.returns-clause-lists
returns-clause-lists g c =
    let met = c.in_ok-write.ensures.lists (held c.args.trails.now.parcels) (room c.args.trails.now.parcels) in
    assign_told g.M.Mail c.args.self.now c.args.trails.now c.args.at c.requires.legible c.requires.byte c.in_ok-value.ensures (search (rules, met, c.own_change.ensures, c.code.ensures))
