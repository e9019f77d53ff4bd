use Rattle.std.proofs.Common.{arith, refl, ◌∙◌}
use Rattle.std.proofs.lemmas.List.{length-replicate}
use Rattle.mail.proofs.LaidTrays.{new_few, laid_new}
use Rattle.mail.proofs.placed.PlacedMail.new.Goals as goal

pub invariant_of-result : goal.invariant_of-result
invariant_of-result g c =
    record { places = length-replicate _ _ ∙ g.met.R.Placing.places; counts = refl; few = new_few _ _ (omega (arith, g.met.R.Placing.range.0)) }

pub returns-clause-empty : goal.returns-clause-empty
returns-clause-empty g c = laid_new _ _ _ (omega arith)
