use Rattle.level.proofs.Listing.{small_push}
use Rattle.level.proofs.tables.Kinds.push.Goals as goal

pub invariant_of-self : goal.invariant_of-self
invariant_of-self c = record { small = rw c.push.ensures.items (small_push c.args.self.now.entries.items c.args.entry c.args.self.now.small c.requires.small) }
