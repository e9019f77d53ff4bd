use Rattle.std.proofs.Common.{◌≡◌, ◌-◌, ◌++◌, map, length}
use Rattle.level.specs.Entries.{transition_entry}
use Rattle.level.specs.Places.{in_kind}
use Rattle.level.specs.Reading.{read_transition, read_transitions}
use Rattle.level.specs.Spelling.{all, transition}
use Rattle.level.proofs.Fills.{Filled}
use Rattle.level.proofs.cursor.Cursor.transitions.Given as goal

abbrev pub invariant-loop-self : goal.invariant-loop-self
invariant-loop-self l =
    Filled 0x03 6 (128 - length l.initial.transitions.items) (λ _. read_transition l.scope.signals.now.counts.items l.scope.shape.numbers l.scope.shape.states)
    (λ ts. (l.initial.self.rest.now ≡ all transition ts ++ l.self.rest.now)
    × (l.transitions.items ≡ l.initial.transitions.items ++ map transition_entry (in_kind l.scope.kind l.scope.shape.numbers (l.initial.self.total - length l.initial.self.rest.now) ts)))
    (read_transitions l.scope.signals.now.counts.items l.scope.shape.numbers l.scope.shape.states (128 - length l.initial.transitions.items) l.initial.self.rest.now) l.self.rest.now
    × (l.self.total ≡ l.initial.self.total)

abbrev pub decreases-loop-self : goal.decreases-loop-self
decreases-loop-self l = length l.self.rest.now
