use Rattle.std.proofs.Common.{rules}
use Rattle.std.proofs.lemmas.Option.{gets}
use Rattle.level.proofs.Held.{held_pieces}
use Rattle.level.proofs.store.Level.piece.Goals as goal

pub returns : goal.returns
returns c = let held = held_pieces c.args.self.now in search (rules, gets, held)
