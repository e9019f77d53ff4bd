use Rattle.std.proofs.Common.{length, ap, ◌∙◌}
use Rattle.std.proofs.lemmas.List.{length-map}
use Rattle.level.specs.Entries.{piece_entry}
use Rattle.level.specs.Levels.{meaning}
use Rattle.level.specs.Sound.{counts}
use Rattle.level.proofs.Held.{held_pieces}
use Rattle.level.proofs.store.Level.pieces.Goals as goal

pub returns : goal.returns
returns c =
    let L = meaning c.args.self.now in
    c.len.ensures.value ∙ (ap length (held_pieces c.args.self.now) ∙ length-map L.pieces (piece_entry (counts L.kinds)))
