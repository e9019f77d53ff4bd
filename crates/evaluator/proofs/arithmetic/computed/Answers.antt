use Rattle.std.proofs.Common.{rules}
use Rattle.std.proofs.lemmas.Int.{wraps}
use Rattle.evaluator.proofs.arithmetic.computed.Goals as goal

pub returns-in-20 : goal.returns-in-20
returns-in-20 c = let b = c.in-20.is in rw b (search (rules, wraps))

pub returns-in-21 : goal.returns-in-21
returns-in-21 c = let b = c.in-21.is in rw b (search (rules, wraps))

pub returns-in-22 : goal.returns-in-22
returns-in-22 c = let b = c.in-22.is in rw b (search (rules, wraps))
