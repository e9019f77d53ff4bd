use Rattle.std.proofs.Common.{ap, ◌∙◌}
use Rattle.std.specs.Option.{unwrap_or}
use Rattle.level.proofs.Listing.{declared_parameters}
use Rattle.level.proofs.tables.Signals.parameters.Goals as goal

pub returns : goal.returns
returns c = c.unwrap_or.ensures ∙ (ap (λ o. unwrap_or o 0) c.get.ensures ∙ declared_parameters c.args.self.now.counts.items c.args.signal)
