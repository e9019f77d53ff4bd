use Rattle.std.proofs.Common.{arith, rules}
use Rattle.std.proofs.lemmas.Nat.{row_fits}
use Rattle.mail.proofs.placed.PlacedMail.start.Goals as goal

pub returns-clause-within : goal.returns-clause-within
returns-clause-within g c =
    let e = row_fits c.from.result c.LIMIT.result 32 c.LIMIT.result (omega arith) (omega arith) in
    search rules
