use Rattle.std.proofs.Common.{◌≡◌, map, length}
use Rattle.level.specs.Entries.{piece_entry}
use Rattle.level.specs.Reading.{read_piece, read_pieces}
use Rattle.level.specs.Tables.{entry_counts}
use Rattle.level.specs.Sound.{most_pieces}
use Rattle.level.proofs.Fills.{Filled}
use Rattle.level.proofs.cursor.Cursor.pieces.Given as goal

abbrev pub invariant-loop-self : goal.invariant-loop-self
invariant-loop-self l =
    Filled 0x04 2 most_pieces (λ _. read_piece (entry_counts l.kinds.entries.items)) (λ ps. l.pieces.items ≡ map (piece_entry (entry_counts l.kinds.entries.items)) ps)
    (read_pieces (entry_counts l.kinds.entries.items) l.initial.self.rest.now) l.self.rest.now
    × (l.self.total ≡ l.initial.self.total)

abbrev pub decreases-loop-self : goal.decreases-loop-self
decreases-loop-self l = length l.self.rest.now
