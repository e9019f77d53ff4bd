use Rattle.std.proofs.Common.{◌≡◌, arith}
use Rattle.level.specs.Levels.{meaning}
use Rattle.level.proofs.Held.{few_pieces}
use Rattle.rules.proofs.Law.{runs_end_alike}
use Rattle.game.proofs.Rows.{one_more, all_set}
use Rattle.game.specs.Games.{setting}
use Rattle.game.proofs.board.Game.set_out.Goals as goal

pub loop-piece-init : goal.loop-piece-init
loop-piece-init g c = λ p h. absurd (omega arith)

pub loop-piece-preserved : goal.loop-piece-preserved
loop-piece-preserved g c = one_more (meaning c.args.level.now) c.loop-piece.self.table c.place.new.self c.loop-piece.piece _ c.loop-piece.invariant (omega arith) c.first_numbers-numbers.ensures c.place.ensures

pub returns : goal.returns
returns g c = record {
  game =
      let e : c.loop-piece.piece ≡ 32 = omega arith in
      all_set (meaning c.args.level.now) c.loop-piece.self.table (few_pieces c.args.level.now) (λ p h. c.loop-piece.invariant p (omega arith)) _ c.clear.ensures;
  law =
      let mail = g.met.M.Mail in
      runs_end_alike.law (setting g.M.Mail c.args.level.now) (record { least = mail.range.0; most = mail.range.1; placed = mail.within });
}
