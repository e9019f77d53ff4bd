use Rattle.std.proofs.Common.{rules}
use Rattle.level.proofs.Transitions.{made}
use Rattle.level.proofs.cursor.Cursor.transition.Goals as goal

pub returns : goal.returns
returns c =
    let h = c.in_ok-head.ensures.gives in
    let k = c.place-effect.ensures in
    let g = made _ _ _ _ _ _ _ _ c.in_ok-opens.ensures.gives c.args.self.now.octets c.args.self.now.within
    _ _ (rw c.in_ok-opens.ensures.stays at h) _ c.in_ok-expression.ensures.gives _ c.in_ok-effect.ensures.gives _ (rw (c.in_ok-expression.ensures.stays, c.in_ok-head.ensures.stays, c.in_ok-opens.ensures.stays) at k) in
    record { gives = g; stays = search rules }
