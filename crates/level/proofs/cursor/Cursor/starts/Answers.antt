use Rattle.std.proofs.Common.{refl, ◌∙◌}
use Rattle.level.specs.Entries.{starting}
use Rattle.level.proofs.Starting.{starts_broke, starts_again, starts_done}
use Rattle.level.proofs.Turns.{done, refused}
use Rattle.level.proofs.Fills.{seen, unseen}
use Rattle.level.proofs.cursor.Cursor.starts.Goals as goal

pub returns-in_err-number : goal.returns-in_err-number
returns-in_err-number c =
    let g = starts_broke _ _ _ _ c.loop-self.invariant.0 (seen c.loop-self-test.ensures) starting _ _ c.in_err-number.ensures.gives in
    refused c.from_residual.ensures.1 g (c.in_err-number.ensures.stays ∙ c.loop-self.invariant.1)

pub loop-self-preserved : goal.loop-self-preserved
loop-self-preserved c = (
  starts_again _ _ _ _ c.loop-self.invariant.0 (seen c.loop-self-test.ensures) c.loop-self.self.octets _ _ c.in_ok-number.ensures.gives,
  c.in_ok-number.ensures.stays ∙ c.loop-self.invariant.1,
)

pub returns : goal.returns
returns c =
    let e = starts_done _ _ _ _ c.loop-self.invariant.0 (unseen c.loop-self-test.ensures) in
    record { gives = done starting _ _ _ e _ _ c.loop-self.invariant.0.known.1 refl; stays = c.loop-self.invariant.1 }
