use Rattle.std.proofs.Common.{◌≡◌, false, ltb, ap, ◌∙◌, le-ltb, arith}
use Rattle.evaluator.specs.Lookup.{parcels_to}
use Rattle.evaluator.specs.Trails.{held}
use Rattle.game.proofs.Verdicts.{discard_judgement}
use Rattle.game.proofs.board.Game.judge_discard.Goals as goal

pub returns : goal.returns
returns g c =
    let n = c.parcels_to.ensures.count ∙ ap (λ l. parcels_to l c.args.piece) c.entries.ensures in
    let free : ltb 0 (parcels_to (held c.args.trails.now.parcels) c.args.piece) ≡ false = le-ltb 0 _ (omega arith) in
    let v = discard_judgement g.M.Mail c.args.level.now c.args.self.now c.args.listed.now c.note.new.self c.args.trails.now c.args.piece c.len.result c.len-2.result
    c.len.ensures c.len-2.ensures c.requires c.if-has_moved.ensures c.in-Some.entry c.in-Some.ensures c.note.ensures.moved c.note.ensures.took
    c.in-Some-look.message c.in-Some-look.ensures free c.discard.result c.discard.ensures in
    record { lists = v.0; earlier = v.1 }
