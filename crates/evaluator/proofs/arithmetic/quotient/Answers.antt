use Rattle.std.proofs.Common.{rules}
use Rattle.evaluator.proofs.Quotients.{quotient_wrapped}
use Rattle.evaluator.proofs.arithmetic.quotient.Goals as goal

pub returns : goal.returns
returns c = search (rules, quotient_wrapped)
