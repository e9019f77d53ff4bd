use Rattle.std.proofs.Common.{◌≡◌, ◌+◌, ◌-◌, ◌*◌, ◌≤◌, length, sym, ap, ◌∙◌, arith}
use Rattle.mail.specs.Laid.{laid_trays}
use Rattle.mail.proofs.LaidTrays.{tray_pushed, tray_put}
use Rattle.mail.proofs.placed.PlacedMailMail.put.Goals as goal

pub returns-clause-after : goal.returns-clause-after
returns-clause-after g c =
    let s = c.args.self.now in
    let r = g.R.Placing in
    let p = c.args.piece in
    let m = c.args.message in
    let here : p ≤ 31 = omega arith in
    let n = length c.tray-waiting.result.now in
    let k = p * r.LIMIT + n + 1 - p * r.LIMIT in
    let counted = ap length c.tray-waiting.ensures.tray in
    let room : n ≡ r.LIMIT → ⊥ = λ e. c.if-count-LIMIT.false (e ∙ sym c.LIMIT.ensures) in
    let pushed = tray_pushed _ _ _ s.places s.counts s.few p here n k m counted room (omega arith) in
    let put = c.last_to.ensures (laid_trays r.LIMIT s.table.places s.table.counts p) m (rw c.start-start.ensures.at pushed) in
    let placed = c.place-at.ensures ∙ ap (λ l. r.place l m) c.tray-waiting.ensures.tray in
    rw c.from.ensures (rw c.start-start.ensures.at
    (tray_put _ _ _ s.places s.counts s.few p here n k m counted room (omega arith) r.place c.place-at.result c.last_to.new.messages g.met.R.Placing.within placed put))
