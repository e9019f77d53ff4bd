use Rattle.std.proofs.Common.{Err, ap, ◌∙◌, rules}
use Rattle.rules.specs.declared.fault.Why.TheVariants.{Stumbles}
use Rattle.evaluator.specs.Trails.{held, room}
use Rattle.evaluator.proofs.Stated.{send_halts, message_reads, send_stops, send_misses, send_refused, send_told, found_named, missing_named, refused_with}
use Rattle.evaluator.proofs.turn.Turn.post.Goals as goal

pub returns-in_err-named-clause-lists : goal.returns-in_err-named-clause-lists
returns-in_err-named-clause-lists g c =
    refused_with _ _ c.from_residual.ensures.1 (send_halts g.M.Mail c.args.self.now c.args.trails.now c.args.at c.requires.legible c.requires.byte c.in_err-named.ensures)

pub message-requires : goal.message-requires
message-requires g c = message_reads g.M.Mail c.args.self.now c.args.trails.now c.args.at c.requires.legible c.requires.byte c.code.ensures c.in_ok-named.ensures

pub returns-in_err-message-clause-lists : goal.returns-in_err-message-clause-lists
returns-in_err-message-clause-lists g c =
    refused_with _ _ c.from_residual-in_err-message.ensures.1 (send_stops g.M.Mail c.args.self.now c.args.trails.now c.args.at c.requires.legible c.requires.byte c.code.ensures c.in_ok-named.ensures c.in_err-message.ensures)

pub returns-in_err-piece-clause-lists : goal.returns-in_err-piece-clause-lists
returns-in_err-piece-clause-lists g c =
    let m = missing_named _ _ _ c.in_err-piece.ensures in
    refused_with _ _ c.from_residual-in_err-piece.ensures.1 (ap (λ s. Err (Stumbles s)) m.1 ∙ send_misses g.M.Mail c.args.self.now c.args.trails.now c.args.at c.requires.legible c.requires.byte c.code.ensures c.in_ok-named.ensures c.in_ok-message.ensures (search (rules, m.0, c.piece_named.ensures)))

pub returns-in_err-send-clause-lists : goal.returns-in_err-send-clause-lists
returns-in_err-send-clause-lists g c =
    let k = found_named _ _ _ c.in_ok-piece.ensures in
    refused_with _ _ c.from_residual-in_err-send.ensures.1 (send_refused g.M.Mail c.args.self.now c.args.trails.now c.args.at c.requires.legible c.requires.byte c.code.ensures c.in_ok-named.ensures c.in_ok-message.ensures (search (rules, k, c.piece_named.ensures)) (c.in_err-send.ensures.lists (held c.args.trails.now.changes) (room c.args.trails.now.changes)))

pub returns-clause-lists : goal.returns-clause-lists
returns-clause-lists g c =
    let k = found_named _ _ _ c.in_ok-piece.ensures in
    send_told g.M.Mail c.args.self.now c.args.trails.now c.args.at c.requires.legible c.requires.byte c.code.ensures c.in_ok-named.ensures c.in_ok-message.ensures (search (rules, k, c.piece_named.ensures)) (c.in_ok-send.ensures.lists (held c.args.trails.now.changes) (room c.args.trails.now.changes))
