use Rattle.std.proofs.Common.{refl, rules}
use Rattle.evaluator.proofs.Noting.{never_noted}
use Rattle.evaluator.proofs.listed.Listed.new.Goals as goal

pub returns-clause-moved : goal.returns-clause-moved
returns-clause-moved c = never_noted (λ n. n.moved) c.default.result (search rules) refl 32

pub returns-clause-took : goal.returns-clause-took
returns-clause-took c = never_noted (λ n. n.took) c.default.result (search rules) refl 32
