-- The law at work.
use Rattle.std.proofs.Common.{List, [], ◌∷◌, refl, arith}
use Rattle.std.specs.Int.{int_wrap}
use Rattle.level.specs.Sound.{deepest, most_statements, most_signals, most_kinds, most_transitions, most_pieces, most_bytes}
use Rattle.rules.specs.declared.moves.Move.{Move}
use Rattle.rules.specs.Game.{Game, set_out}
use Rattle.rules.specs.Calls.{fire, move_of}
use Rattle.rules.specs.Law.{ShowsMail}
use Rattle.rules.specs.Order.{here, there, none, first}
use Rattle.rules.specs.Runs.{Part, Altered, end, keep, recut, leave, after, KeepsOrder}
use Rattle.rules.specs.Cases.{full_trails, tap_lamp}
use Rattle.rules.specs.Example.{setting, together, apart, TogetherAndApart}
use Rattle.rules.proofs.Words.{keeps_order}
use Rattle.rules.proofs.Law.{runs_end_alike}

abbrev lamp : Move
lamp = move_of 0 0

abbrev bell : Move
bell = move_of 1 1

abbrev other_bell : Move
other_bell = move_of 2 1

abbrev parts : List Part
parts =
    record { trails = full_trails; bytes = 0x51 ∷ 2 ∷ 1 ∷ []; moves = other_bell ∷ []; long = refl; spelt = refl; some = omega arith }
    ∷ (record { trails = full_trails; bytes = 0x51 ∷ 1 ∷ 1 ∷ 0x51 ∷ 0 ∷ 0 ∷ []; moves = bell ∷ lamp ∷ []; long = refl; spelt = refl; some = omega arith }
    ∷ [])

abbrev tapped : Game
tapped = after setting (set_out setting.level) tap_lamp

kept : KeepsOrder setting.level tapped (other_bell ∷ bell ∷ lamp ∷ [])
unfolding int_wrap deepest most_statements most_signals most_kinds most_transitions most_pieces most_bytes
kept = keeps_order setting.level tapped (other_bell ∷ bell ∷ lamp ∷ []) ((refl, (refl, tt)), ((refl, tt), (tt, tt)))

altered : Altered setting (set_out setting.level) together apart
unfolding int_wrap deepest most_statements most_signals most_kinds most_transitions most_pieces most_bytes
altered = keep tap_lamp (recut full_trails _ (bell ∷ other_bell ∷ lamp ∷ []) 3 parts refl refl
    (first (there here) (first here (first here none))) kept
    (leave (fire full_trails 1 1) _ refl end))

queue_shows : ShowsMail setting.limit setting.place
queue_shows = record { least = omega arith; most = omega arith; placed = λ l m. omega arith }

pub together_and_apart : TogetherAndApart
together_and_apart = record { altered = altered; alike = (runs_end_alike.law setting queue_shows).runs (set_out setting.level) (λ p. omega arith) altered }
