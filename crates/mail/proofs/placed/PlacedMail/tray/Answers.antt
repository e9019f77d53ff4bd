use Rattle.std.proofs.Common.{rules}
use Rattle.mail.specs.Laid.{laid_trays}
use Rattle.mail.specs.Laws.{none_counted}
use Rattle.mail.proofs.placed.PlacedMail.tray.Goals as goal

pub returns-in_default-clause-tray : goal.returns-in_default-clause-tray
returns-in_default-clause-tray g c = search (rules, none_counted)

pub overflow_add-result : goal.overflow_add-result
overflow_add-result g c = let b = c.args.self.now.few c.args.piece in search rules

pub returns-clause-tray : goal.returns-clause-tray
unfolding laid_trays
returns-clause-tray g c = search rules

pub returns-clause-within : goal.returns-clause-within
returns-clause-within g c = let b = c.args.self.now.few c.args.piece in search rules
