use Rattle.std.proofs.Common.{refl, ◌∙◌}
use Rattle.level.specs.Readers.{nothing}
use Rattle.level.proofs.Fills.{holds_none, seen, unseen}
use Rattle.level.proofs.Growing.{transitions_broke, transitions_again, transitions_less, transitions_done}
use Rattle.level.proofs.Turns.{done, refused}
use Rattle.level.proofs.cursor.Cursor.transitions.Goals as goal

pub returns-in_err-entry : goal.returns-in_err-entry
returns-in_err-entry c =
    let i = c.in_err-entry.ensures.gives in
    let g = transitions_broke _ c.args.scope.now.signals.now.few _ _ _ _ _ _ c.args.self.now.within _ _ c.loop-self.invariant.0 (seen c.loop-self-test.ensures) _ _ (rw c.loop-self.invariant.1 at i) in
    record { read = refused c.from_residual.ensures.1 g (c.in_err-entry.ensures.stays ∙ c.loop-self.invariant.1); table = holds_none nothing _ _ _ _ g }

pub loop-self-preserved : goal.loop-self-preserved
loop-self-preserved c =
    let i = c.in_ok-entry.ensures.gives in
    let f = transitions_again _ c.args.scope.now.signals.now.few _ _ _ _ _ _ c.args.self.now.within _ _ c.loop-self.invariant.0 (seen c.loop-self-test.ensures) c.loop-self.self.octets _ _ (rw c.loop-self.invariant.1 at i) _ c.push.ensures.items in
    (f, c.in_ok-entry.ensures.stays ∙ c.loop-self.invariant.1)

pub loop-self-smaller : goal.loop-self-smaller
loop-self-smaller c =
    let i = c.in_ok-entry.ensures.gives in
    transitions_less _ c.args.scope.now.signals.now.few _ _ _ _ _ _ c.args.self.now.within _ _ c.loop-self.invariant.0 (seen c.loop-self-test.ensures) c.loop-self.self.octets _ _ (rw c.loop-self.invariant.1 at i)

pub returns : goal.returns
returns c =
    let e = transitions_done _ c.args.scope.now.signals.now.few _ _ _ _ _ _ c.args.self.now.within _ _ c.loop-self.invariant.0 (unseen c.loop-self-test.ensures) in
    record { read = record { gives = done nothing _ _ _ e _ _ refl refl; stays = c.loop-self.invariant.1 }; table = rw e c.loop-self.invariant.0.known.1 }
