use Rattle.std.proofs.Common.{rules}
use Rattle.std.proofs.lemmas.Option.{gets}
use Rattle.level.proofs.Held.{held_kinds}
use Rattle.level.proofs.store.Level.kind.Goals as goal

pub returns : goal.returns
returns c = let held = held_kinds c.args.self.now in search (rules, gets, held)
