use Rattle.std.proofs.Common.{refl, ◌∙◌}
use Rattle.level.specs.Readers.{nothing}
use Rattle.level.proofs.Fills.{holds_none, seen, unseen}
use Rattle.level.proofs.Growing.{kinds_broke, kinds_again, kinds_less, kinds_done}
use Rattle.level.proofs.Turns.{done, refused}
use Rattle.level.proofs.cursor.Cursor.kinds.Goals as goal

pub returns-in_err-shape : goal.returns-in_err-shape
returns-in_err-shape c =
    let g = kinds_broke _ c.args.signals.now.few _ _ c.args.self.now.within _ _ _ c.loop-self.invariant.0 (seen c.loop-self-test.ensures) _ _ c.in_err-shape.ensures.read.gives in
    record {
      read = refused c.from_residual.ensures.1 g (c.in_err-shape.ensures.read.stays ∙ c.loop-self.invariant.1);
      kinds = holds_none nothing _ _ _ _ g;
      transitions = holds_none nothing _ _ _ _ g;
    }

pub loop-self-smaller : goal.loop-self-smaller
loop-self-smaller c = kinds_less _ c.args.signals.now.few _ _ c.args.self.now.within _ _ _ c.loop-self.invariant.0 (seen c.loop-self-test.ensures) c.loop-self.self.octets _ _ c.in_ok-shape.ensures.read.gives

pub loop-self-preserved : goal.loop-self-preserved
loop-self-preserved c =
    let t = c.in_ok-shape.ensures.table in
    let f = kinds_again _ c.args.signals.now.few _ _ c.args.self.now.within _ _ _ c.loop-self.invariant.0 (seen c.loop-self-test.ensures) c.loop-self.self.octets _ _ c.in_ok-shape.ensures.read.gives _ _ c.push.ensures (rw c.loop-self.invariant.1 at t) in
    (f, c.in_ok-shape.ensures.read.stays ∙ c.loop-self.invariant.1)

pub returns-clause-read : goal.returns-clause-read
returns-clause-read c =
    let e = kinds_done _ c.args.signals.now.few _ _ c.args.self.now.within _ _ _ c.loop-self.invariant.0 (unseen c.loop-self-test.ensures) in
    record { gives = done nothing _ _ _ e _ _ refl refl; stays = c.loop-self.invariant.1 }
