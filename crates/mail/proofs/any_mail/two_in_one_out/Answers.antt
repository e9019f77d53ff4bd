use Rattle.std.proofs.Common.{◌<◌, length, sym, ap, ◌∙◌, arith, rules}
use Rattle.mail.specs.Trays.{Trays}
use Rattle.mail.proofs.Lengths.{put_longer, take_some, take_shorter}
use Rattle.mail.proofs.any_mail.two_in_one_out.Goals as goal

pub returns : goal.returns
returns g c =
    let m = g.M.Mail in
    let p = c.args.piece in
    let at_p = λ (t : Trays). length (t p) in
    let one = c.in_ok-put.ensures in
    let two = c.in_ok-put-2.ensures in
    let grown = ap at_p one.after ∙ put_longer m.LIMIT m.place _ p _ g.met.M.Mail.within one.answer in
    let grown-2 = ap at_p two.after ∙ put_longer m.LIMIT m.place _ p _ g.met.M.Mail.within two.answer in
    let t = m.trays c.put-2.new.self in
    let some : 0 < length (t p) = omega (arith, grown-2) in
    record {
      answer = search rules;
      after = search rules;
      taken = λ e. take_some t p some (sym c.take.ensures.answer ∙ e);
      longer = λ _. omega (arith, grown, grown-2, ap at_p c.take.ensures.after, take_shorter t p some);
    }
