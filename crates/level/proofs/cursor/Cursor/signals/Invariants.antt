use Rattle.std.proofs.Common.{◌≡◌, length}
use Rattle.level.specs.Reading.{read_signal, read_signals}
use Rattle.level.proofs.Fills.{Filled}
use Rattle.level.specs.Sound.{most_signals}
use Rattle.level.proofs.cursor.Cursor.signals.Given as goal

abbrev pub invariant-loop-self : goal.invariant-loop-self
invariant-loop-self l =
    Filled 0x01 2 most_signals (λ _. read_signal) (λ ss. l.signals.counts.items ≡ ss) (read_signals l.initial.self.rest.now) l.self.rest.now
    × (l.self.total ≡ l.initial.self.total)

abbrev pub decreases-loop-self : goal.decreases-loop-self
decreases-loop-self l = length l.self.rest.now
