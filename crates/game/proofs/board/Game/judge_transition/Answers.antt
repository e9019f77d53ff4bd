use Rattle.std.proofs.Common.{sym, refl, ◌∙◌}
use Rattle.game.proofs.Verdicts.{transition_judgement}
use Rattle.game.proofs.board.Game.judge_transition.Goals as goal

pub returns : goal.returns
returns g c =
    let v = transition_judgement g.M.Mail c.args.level.now c.args.self.now c.args.listed.now c.note.new.self c.args.trails.now c.args.piece c.len.result c.len-2.result
    c.len.ensures c.len-2.ensures c.requires c.if-has_moved.ensures c.args.number c.in-Some.found c.in-Some.ensures _ refl c.note.ensures.moved c.note.ensures.took
    (sym c.state.ensures ∙ c.if-state-found.false) c.in_ok-message.message c.in_ok-message.ensures c.transit.result c.transit.new.trails c.transit.ensures.lists in
    record { lists = v.0; earlier = v.1; kept = c.transit.ensures.kept }
