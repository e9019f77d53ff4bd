use Rattle.std.proofs.Common.{Err, ap, ◌∙◌, rules}
use Rattle.rules.specs.declared.fault.Why.TheVariants.{Stumbles}
use Rattle.evaluator.specs.Trails.{held, room}
use Rattle.evaluator.proofs.Stated.{store_halts, store_second, store_stops, store_misses, store_refused, store_told, found_named, missing_named, refused_with}
use Rattle.evaluator.proofs.turn.Turn.store.Goals as goal

pub returns-in_err-named-clause-lists : goal.returns-in_err-named-clause-lists
returns-in_err-named-clause-lists g c =
    refused_with _ _ c.from_residual.ensures.1 (store_halts g.M.Mail c.args.self.now c.args.trails.now c.args.at c.requires.legible c.requires.byte c.in_err-named.ensures)

pub expression-requires-2 : goal.expression-requires-2
expression-requires-2 g c = store_second g.M.Mail c.args.self.now c.args.trails.now c.args.at c.requires.legible c.requires.byte c.in_ok-named.ensures

pub returns-in_err-value-clause-lists : goal.returns-in_err-value-clause-lists
returns-in_err-value-clause-lists g c =
    refused_with _ _ c.from_residual-in_err-value.ensures.1 (store_stops g.M.Mail c.args.self.now c.args.trails.now c.args.at c.requires.legible c.requires.byte c.in_ok-named.ensures c.in_err-value.ensures)

pub returns-in_err-piece-clause-lists : goal.returns-in_err-piece-clause-lists
returns-in_err-piece-clause-lists g c =
    let m = missing_named _ _ _ c.in_err-piece.ensures in
    refused_with _ _ c.from_residual-in_err-piece.ensures.1 (ap (λ s. Err (Stumbles s)) m.1 ∙ store_misses g.M.Mail c.args.self.now c.args.trails.now c.args.at c.requires.legible c.requires.byte c.in_ok-named.ensures c.in_ok-value.ensures (search (rules, m.0, c.cell_named.ensures, c.code.ensures)))

pub returns-in_err-write-clause-lists : goal.returns-in_err-write-clause-lists
returns-in_err-write-clause-lists g c =
    let met = c.in_err-write.ensures.lists (held c.args.trails.now.parcels) (room c.args.trails.now.parcels) in
    let k = found_named _ _ _ c.in_ok-piece.ensures in
    refused_with _ _ c.from_residual-in_err-write.ensures.1 (store_refused g.M.Mail c.args.self.now c.args.trails.now c.args.at c.requires.legible c.requires.byte c.in_ok-named.ensures c.in_ok-value.ensures c.in_ok-piece.piece (search (rules, k, c.cell_named.ensures, c.code.ensures)) (search (rules, met, c.code.ensures)))

pub returns-clause-lists : goal.returns-clause-lists
returns-clause-lists g c =
    let met = c.in_ok-write.ensures.lists (held c.args.trails.now.parcels) (room c.args.trails.now.parcels) in
    let k = found_named _ _ _ c.in_ok-piece.ensures in
    store_told g.M.Mail c.args.self.now c.args.trails.now c.args.at c.requires.legible c.requires.byte c.in_ok-named.ensures c.in_ok-value.ensures c.in_ok-piece.piece (search (rules, k, c.cell_named.ensures, c.code.ensures)) (search (rules, met, c.code.ensures))
