use Rattle.std.proofs.Common.{◌<◌, ◌≤◌, length, arith, rules}
use Rattle.mail.specs.Laws.{laid_beyond}
use Rattle.mail.proofs.LaidTrays.{tray_taken}
use Rattle.mail.proofs.Outcomes.{none_taken}
use Rattle.mail.proofs.placed.PlacedMailMail.take.Goals as goal

pub returns-then-piece-gt31-clause-after : goal.returns-then-piece-gt31-clause-after
returns-then-piece-gt31-clause-after g c =
    none_taken _ _ (laid_beyond _ _ _ c.args.self.now.counts _ c.if-piece-gt31.true)

pub returns-clause-after : goal.returns-clause-after
returns-clause-after g c =
    let s = c.args.self.now in
    let here : c.args.piece ≤ 31 = omega arith in
    let some : 0 < length c.tray-waiting.result.now = search rules in
    rw c.from.ensures (rw c.start-start.ensures.at
    (tray_taken _ _ _ s.places s.counts s.few c.args.piece here _ c.first_out.new.messages (omega arith) (omega arith)
    (rw c.start-start.ensures.at at c.first_out.ensures)))
