use Rattle.std.proofs.Common.{refl, arith}
use Rattle.mail.proofs.LaidTrays.{new_few, laid_new}
use Rattle.mail.proofs.placed.PlacedMailMail.clear.Goals as goal

pub way_repeat-self : goal.way_repeat-self
way_repeat-self g c = (tt, (c.args.self.now.places, (refl, (new_few _ _ (omega (arith, g.met.R.Placing.range.0)), tt))))

pub returns : goal.returns
returns g c = laid_new _ _ _ (omega arith)
