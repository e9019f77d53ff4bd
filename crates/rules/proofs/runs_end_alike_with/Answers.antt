use Rattle.rules.proofs.Law.{runs_end_alike}
use Rattle.rules.proofs.runs_end_alike_with.Goals as goal

pub returns : goal.returns
returns g c = λ L. runs_end_alike.law (record { level = L; limit = g.M.Mail.LIMIT; place = g.M.Mail.place })
    (record { least = g.met.M.Mail.range.0; most = g.met.M.Mail.range.1; placed = g.met.M.Mail.within })
