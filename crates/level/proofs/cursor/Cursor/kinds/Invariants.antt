use Rattle.std.proofs.Common.{◌≡◌, length}
use Rattle.level.specs.Reading.{read_kind, read_kinds}
use Rattle.level.specs.Sound.{count, most_kinds}
use Rattle.level.proofs.Fills.{Filled}
use Rattle.level.proofs.Growing.{GrownKinds}
use Rattle.level.proofs.cursor.Cursor.kinds.Given as goal

abbrev pub invariant-loop-self : goal.invariant-loop-self
invariant-loop-self l =
    Filled 0x02 3 most_kinds (λ ks. read_kind l.signals.counts.items (count ks)) (GrownKinds l.initial.self.total l.initial.self.rest.now l.kinds.entries.items l.transitions.items l.self.rest.now)
    (read_kinds l.signals.counts.items l.initial.self.rest.now) l.self.rest.now
    × (l.self.total ≡ l.initial.self.total)

abbrev pub decreases-loop-self : goal.decreases-loop-self
decreases-loop-self l = length l.self.rest.now
