use Rattle.std.proofs.Common.{◌≡◌, ◌+◌, ◌*◌, ◌≤◌, length}
use Rattle.std.specs.Iterator.Adapters.{enumerate_count, enumerate_source}
use Rattle.level.specs.Levels.{meaning}
use Rattle.rules.specs.Beat.{nothing}
use Rattle.rules.specs.Calls.{front_moves}
use Rattle.evaluator.specs.Trails.{KeptBoth, held, lists}
use Rattle.game.specs.Games.{means}
use Rattle.game.specs.Judged.{before, empty, all_judged_by}
use Rattle.game.proofs.board.Game.judge_all.Given as goal

abbrev pub invariant-loop-place : goal.invariant-loop-place
invariant-loop-place g l =
    record {
      same : all_judged_by g.M.Mail.LIMIT (meaning l.level) (means g.M.Mail l.self) (before l.listed l.trails) (lists l.trails) (enumerate_count l.place-iterator) (enumerate_source l.place-iterator)
          ≡ all_judged_by g.M.Mail.LIMIT (meaning l.level) (means g.M.Mail l.self) nothing empty 0 (front_moves l.moves);
      few : enumerate_count l.place-iterator + length (enumerate_source l.place-iterator) ≤ 16;
      changes : length (held l.trails.changes) ≤ 10 * enumerate_count l.place-iterator;
      parcels : length (held l.trails.parcels) ≤ 8 * enumerate_count l.place-iterator;
      kept : KeptBoth l.initial.trails l.trails;
    }
