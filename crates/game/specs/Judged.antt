-- What the code's judging answers, step by step. This is scaffolding between the rules and the code: no public promise speaks of it.
use Rattle.std.specs.Prelude.{ℕ, ◌+◌, ◌≤◌, Bool, cond, ◌&&◌, List, [], ◌++◌, map, length, Some, None, Ok, Err, Option, Result, ◌==◌, nat_le}
use Rattle.mail.specs.declared.Mail.{Ghosts}
use Rattle.mail.specs.declared.message.Message.{Message}
use Rattle.level.specs.declared.entry.TransitionEntry.{TransitionEntry}
use Rattle.level.specs.Entries.{transition_entry}
use Rattle.level.specs.Places.{Placed}
use Rattle.level.specs.declared.store.Level as memory
use Rattle.level.specs.Levels.{meaning}
use Rattle.level.specs.Syntax.{Level}
use Rattle.rules.specs.declared.fault.StrikeFault.{StrikeFault}
use Rattle.rules.specs.declared.fault.StrikeFault.TheVariants.{NotMoves}
use Rattle.rules.specs.declared.fault.MoveFault.{MoveFault}
use Rattle.rules.specs.declared.fault.Why.{Why}
use Rattle.rules.specs.declared.fault.Why.TheVariants.{NoMessage, Clash}
use Rattle.rules.specs.declared.moves.Move.{Move}
use Rattle.rules.specs.Beat.{Earlier, judge, judge_all, nothing, changes, parcels}
use Rattle.rules.specs.Checks.{Check, pass, fail}
use Rattle.rules.specs.Deed.{Deed, deed}
use Rattle.rules.specs.Game.{Game}
use Rattle.evaluator.specs.declared.listed.Listed.{Listed}
use Rattle.evaluator.specs.declared.trail.Trails.{Trails}
use Rattle.evaluator.specs.Judging.{checked, earlier_of, grown}
use Rattle.evaluator.specs.Listing.{moved_in, took_in}
use Rattle.evaluator.specs.Trails.{Lists, held, lists, room}
use Rattle.game.specs.declared.board.Game as memory_game
use Rattle.game.specs.Games.{means}

-- what the index holds of a transition, if there is one
abbrev pub entry_of : Option Placed → Option TransitionEntry
entry_of None = None
entry_of (Some x) = Some (transition_entry x)

-- the message that a transition on a signal takes: none for signal 0, else the first in the tray, which must bear the signal, and
-- to which no earlier move may have sent
abbrev pub bearing : ℕ → Bool → Option Message → Result (Option Message) Why
bearing s sent None = Err NoMessage
bearing s sent (Some m) = cond (s == m.signal) (cond sent (Err Clash) (Ok (Some m))) (Err NoMessage)

abbrev pub awaited : ℕ → Bool → Option Message → Result (Option Message) Why
awaited s sent o = cond (s == 0) (Ok None) (bearing s sent o)

abbrev pub lists_if : {F : Type 0} → Check F → Lists → Result Lists F
lists_if pass t = Ok t
lists_if (fail f) t = Err f

-- an answer with what the trails hold after it: a refusal says nothing of them
abbrev pub with_trails : {A F : Type 0} → Result A F → Lists → Result Lists F
with_trails (Ok x) t = Ok t
with_trails (Err f) t = Err f

-- trails without entries
abbrev pub empty : Lists
empty = record { changes = []; parcels = [] }

-- what a beat is to leave in the trails: nothing if it is refused
abbrev pub left_after : Result ℕ StrikeFault → Lists → Lists
left_after (Ok n) t = t
left_after (Err f) t = empty

-- what is noted and what the trails hold tell of the moves listed before
abbrev pub before : Listed → Trails → Earlier
before n t = earlier_of (moved_in n) (took_in n) (lists t)

-- the trails have places for all that one move may write and send: a condition, since it holds only while moves are judged
abbrev pub Roomy : Trails → Type 0
Roomy t = (length (held t.changes) + 10 ≤ room t.changes) × (length (held t.parcels) + 8 ≤ room t.parcels)

-- the trails after all moves of a list
abbrev pub all_lists : Level → Game → Lists → List Move → Lists
all_lists L g t ms = record { changes = t.changes ++ changes (map (deed L g) ms); parcels = t.parcels ++ parcels (map (deed L g) ms) }

-- a move after earlier ones that left t in the trails: refused, or what is then in them
abbrev pub judged_by : ℕ → Level → Game → Earlier → Lists → Move → Result Lists Why
judged_by limit L g s t m = checked (judge limit g s (deed L g m)) (grown t (deed L g m).events)

-- the same for a list of moves, the first of which has place i
abbrev pub all_judged_by : ℕ → Level → Game → Earlier → Lists → ℕ → List Move → Result Lists MoveFault
all_judged_by limit L g s t i ms = lists_if (judge_all limit g L s i ms) (all_lists L g t ms)

module _ {M : Type 0} (mail : Ghosts M) (level : memory.Level) (game : memory_game.Game M) where
  -- what a move comes to on the game in memory, and how it is judged there; and how a whole list is, with nothing before it
  abbrev pub deed_of : Move → Deed
  deed_of m = deed (meaning level) (means mail game) m

  abbrev pub judged : Listed → Trails → Move → Result Lists Why
  judged n t m = judged_by mail.LIMIT (meaning level) (means mail game) (before n t) (lists t) m

  abbrev pub all_judged : List Move → Result Lists MoveFault
  all_judged ms = all_judged_by mail.LIMIT (meaning level) (means mail game) nothing empty 0 ms

-- how many moves there are, 1 to 16
abbrev pub counted : Option (List Move) → Result ℕ StrikeFault
counted None = Err NotMoves
counted (Some ms) = cond (nat_le 1 (length ms) && nat_le (length ms) 16) (Ok (length ms)) (Err NotMoves)
