use Rattle.std.proofs.Common.{◌≡◌, is_ok, Err, sym, ap, ◌∙◌, arith}
use Rattle.std.proofs.lemmas.Result.{err_from_is_err_and}
use Rattle.level.proofs.Held.{few_pieces}
use Rattle.rules.specs.declared.fault.TapFault.TheVariants.{NoSignal, TrayFull}
use Rattle.game.specs.Games.{after_tap, means, setting}
use Rattle.game.proofs.Taps.{is_piece, no_signal, unused, tray_full, tray_open}
use Rattle.game.proofs.board.Game.tap.Goals as goal

pub returns-in_err-parameters : goal.returns-in_err-parameters
returns-in_err-parameters g c =
    let p = err_from_is_err_and c.from_residual.result c.from_residual.ensures.1 in
    let why : p.0 ≡ NoSignal = grind arith in
    let G = means g.M.Mail c.args.self.now in
    let there = is_piece _ _ _ c.pieces.ensures c.if-piece-pieces.false in
    record { call = ap (λ r. after_tap r G) (p.1 ∙ ap Err why) ∙ no_signal (setting g.M.Mail c.args.level.now) G c.args.piece c.args.message there (sym c.in_err-parameters.ensures.ok_part ∙ c.parameters.ensures) }

pub returns-then-not-fits : goal.returns-then-not-fits
returns-then-not-fits g c =
    let there = is_piece _ _ _ c.pieces.ensures c.if-piece-pieces.false in
    let known = sym c.in_ok-parameters.ensures.ok_part ∙ c.parameters.ensures in
    record { call = unused (setting g.M.Mail c.args.level.now) (means g.M.Mail c.args.self.now) c.args.piece c.args.message there c.in_ok-parameters.parameters known c.if-not-fits.ensures }

pub returns-in_err-map_err : goal.returns-in_err-map_err
returns-in_err-map_err g c =
    let p = err_from_is_err_and c.from_residual-in_err-map_err.result c.from_residual-in_err-map_err.ensures.1 in
    let why : p.0 ≡ TrayFull = grind arith in
    let G = means g.M.Mail c.args.self.now in
    let there = is_piece _ _ _ c.pieces.ensures c.if-piece-pieces.false in
    let known = sym c.in_ok-parameters.ensures.ok_part ∙ c.parameters.ensures in
    record { call = ap (λ r. after_tap r (record { states = G.states; numbers = G.numbers; trays = g.M.Mail.trays c.put.new.self })) (p.1 ∙ ap Err why) ∙ tray_full (setting g.M.Mail c.args.level.now) G c.args.piece c.args.message there c.in_ok-parameters.parameters known c.if-not-fits.ensures (few_pieces c.args.level.now) _ c.put.ensures.after (c.in_err-map_err.ensures.variant ∙ ap is_ok c.put.ensures.answer) }

pub returns : goal.returns
returns g c =
    let there = is_piece _ _ _ c.pieces.ensures c.if-piece-pieces.false in
    let known = sym c.in_ok-parameters.ensures.ok_part ∙ c.parameters.ensures in
    record { call = tray_open (setting g.M.Mail c.args.level.now) (means g.M.Mail c.args.self.now) c.args.piece c.args.message there c.in_ok-parameters.parameters known c.if-not-fits.ensures (few_pieces c.args.level.now) _ c.put.ensures.after (c.in_ok-map_err.ensures.variant ∙ ap is_ok c.put.ensures.answer) }
