use Rattle.std.proofs.Common.{◌∙◌}
use Rattle.level.proofs.Held.{held_transitions}
use Rattle.level.proofs.store.Level.transitions.Goals as goal

pub returns : goal.returns
returns c = c.as_slice.ensures.value ∙ held_transitions c.args.self.now
