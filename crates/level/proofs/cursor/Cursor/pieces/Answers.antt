use Rattle.std.proofs.Common.{refl, ◌∙◌}
use Rattle.level.specs.Readers.{nothing}
use Rattle.level.proofs.Fills.{holds_none, seen, unseen}
use Rattle.level.proofs.OnePiece.{pieces_broke, pieces_again, pieces_less, pieces_done}
use Rattle.level.proofs.Turns.{done, refused}
use Rattle.level.proofs.cursor.Cursor.pieces.Goals as goal

pub returns-in_err-entry : goal.returns-in_err-entry
returns-in_err-entry c =
    let g = pieces_broke _ _ _ _ c.loop-self.invariant.0 (seen c.loop-self-test.ensures) _ _ c.in_err-entry.ensures.gives in
    record { read = refused c.from_residual.ensures.1 g (c.in_err-entry.ensures.stays ∙ c.loop-self.invariant.1); table = holds_none nothing _ _ _ _ g }

pub loop-self-smaller : goal.loop-self-smaller
loop-self-smaller c = pieces_less _ _ _ _ c.loop-self.invariant.0 (seen c.loop-self-test.ensures) _ _ c.in_ok-entry.ensures.gives c.loop-self.self.octets

pub loop-self-preserved : goal.loop-self-preserved
loop-self-preserved c = (
  pieces_again _ _ _ _ c.loop-self.invariant.0 (seen c.loop-self-test.ensures) _ _ c.in_ok-entry.ensures.gives _ c.push.ensures.items,
  c.in_ok-entry.ensures.stays ∙ c.loop-self.invariant.1,
)

pub returns-clause-read : goal.returns-clause-read
returns-clause-read c =
    let e = pieces_done _ _ _ _ c.loop-self.invariant.0 (unseen c.loop-self-test.ensures) in
    record { gives = done nothing _ _ _ e _ _ refl refl; stays = c.loop-self.invariant.1 }
