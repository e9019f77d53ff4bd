use Rattle.std.proofs.Common.{◌≡◌, drop}
use Rattle.evaluator.specs.Rows.{states_of, numbers_of}
use Rattle.game.specs.Settling.{written_all}
use Rattle.game.proofs.settling.write_all.Given as goal

abbrev pub invariant-loop-change : goal.invariant-loop-change
invariant-loop-change l =
    (states_of l.table ≡ states_of l.initial.table)
    × (written_all (numbers_of l.table) (drop l.change-index l.changes) ≡ written_all (numbers_of l.initial.table) l.changes)
