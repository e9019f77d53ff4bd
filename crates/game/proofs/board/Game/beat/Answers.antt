use Rattle.std.proofs.Common.{Ok, Err, sym, ap, ◌∙◌}
use Rattle.std.proofs.lemmas.Result.{err_from_is_err_and}
use Rattle.level.proofs.Held.{held_sound}
use Rattle.evaluator.specs.Trails.{lists, places}
use Rattle.game.specs.Games.{after_strike, means, setting}
use Rattle.game.specs.Judged.{left_after}
use Rattle.game.proofs.Strikes.{few, stopped, made}
use Rattle.game.proofs.board.Game.beat.Goals as goal

pub judge_all-requires-clause-few : goal.judge_all-requires-clause-few
judge_all-requires-clause-few g c =
    few (setting g.M.Mail c.args.level.now) (means g.M.Mail c.args.self.now) (places c.args.trails.now) c.args.moves.now
    (sym c.if-not-full.ensures) c.in_ok-made.made c.in_ok-made.ensures

pub returns-in_err-judge_all-clause-call : goal.returns-in_err-judge_all-clause-call
returns-in_err-judge_all-clause-call g c =
    let p = err_from_is_err_and c.from_residual-in_err-judge_all.result c.from_residual-in_err-judge_all.ensures.1 in
    let G = means g.M.Mail c.args.self.now in
    ap (λ r. after_strike r G (left_after r (lists c.judge_all.new.trails))) (p.1 ∙ ap Err p.2)
    ∙ stopped (setting g.M.Mail c.args.level.now) G (places c.args.trails.now) c.args.moves.now
    (sym c.if-not-full.ensures) c.in_ok-made.made c.in_ok-made.ensures _ c.in_err-judge_all.ensures.lists

pub returns-clause-call : goal.returns-clause-call
returns-clause-call g c =
    let u = lists c.judge_all.new.trails in
    ap (λ h. after_strike (Ok c.in_ok-made.made) h u) c.settle.ensures
    ∙ made (setting g.M.Mail c.args.level.now) (means g.M.Mail c.args.self.now) (places c.args.trails.now) c.args.moves.now
    (sym c.if-not-full.ensures) c.in_ok-made.made c.in_ok-made.ensures (held_sound c.args.level.now) (g.met.M.Mail.bounded c.args.self.now.mail) u c.in_ok-judge_all.ensures.lists
