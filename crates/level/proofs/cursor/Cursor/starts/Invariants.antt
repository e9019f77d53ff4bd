use Rattle.std.proofs.Common.{◌≡◌, ◌+◌, ◌++◌, length}
use Rattle.level.specs.Entries.{starting}
use Rattle.level.specs.Reading.{read_start, read_starts}
use Rattle.level.specs.Spelling.{all, start}
use Rattle.level.proofs.Fills.{Filled}
use Rattle.level.proofs.cursor.Cursor.starts.Given as goal

abbrev pub invariant-loop-self : goal.invariant-loop-self
invariant-loop-self l =
    Filled 0x05 6 (length l.initial.self.rest.now + 2) (λ _. read_start l.numbers)
    (λ ss. (l.initial.self.rest.now ≡ all start ss ++ l.self.rest.now) × (l.row ≡ starting ss))
    (read_starts l.numbers (length l.initial.self.rest.now + 2) l.initial.self.rest.now) l.self.rest.now
    × (l.self.total ≡ l.initial.self.total)

abbrev pub decreases-loop-self : goal.decreases-loop-self
decreases-loop-self l = length l.self.rest.now
