-- What a game in memory means, and what a call on it answers.
use Rattle.std.specs.Prelude.{◌≡◌, ℕ, List, [], replicate, ℤ, pos, Some, None, Ok, Err, Option, Result}
use Rattle.mail.specs.declared.Mail.{Ghosts}
use Rattle.mail.specs.Trays.{no_messages}
use Rattle.level.specs.Entries.{starting}
use Rattle.level.specs.declared.store.Level as memory
use Rattle.level.specs.Levels.{meaning}
use Rattle.level.specs.Syntax.{Piece}
use Rattle.evaluator.specs.Rows.{states_of, numbers_of}
use Rattle.evaluator.specs.Trails.{Lists}
use Rattle.rules.specs.declared.fault.CallFault.TheVariants.{Tap, Strike}
use Rattle.rules.specs.declared.fault.StrikeFault.{StrikeFault}
use Rattle.rules.specs.declared.fault.TapFault.{TapFault}
use Rattle.rules.specs.declared.moves.Move.{Move}
use Rattle.rules.specs.Game as rules
use Rattle.rules.specs.Game.{Setting}
use Rattle.rules.specs.Single.{Step}
use Rattle.rules.specs.Calls.{After, Answer, accepted, refused}
use Rattle.game.specs.declared.board.Game.{Game}

-- the states and numbers of its rows, and the trays that its mail means. `mail` is what the trait says of that kind of mail
abbrev pub means : {M : Type 0} → Ghosts M → Game M → rules.Game
means mail g = record { states = states_of g.table; numbers = numbers_of g.table; trays = mail.trays g.mail }

-- the eight numbers of a row as they start; a row without a piece has zeros
abbrev pub row_start : Option Piece → List ℤ
row_start None = replicate 8 (pos 0)
row_start (Some x) = starting x.starts

-- the level lent, and the mail's limit and rule of placing
abbrev pub setting : {M : Type 0} → Ghosts M → memory.Level → Setting
setting mail level = record { level = meaning level; limit = mail.LIMIT; place = mail.place }

abbrev pub tap_answer : Result ℕ TapFault → Answer
tap_answer (Ok n) = accepted n
tap_answer (Err f) = refused (Tap f)

-- what a tap leaves: its answer, the game, and no trails
abbrev pub after_tap : Result ℕ TapFault → rules.Game → After
after_tap r g = record { answer = tap_answer r; game = g; changes = []; parcels = [] }

-- every piece in state 0 with all numbers 0, and no messages
abbrev pub unmoved : rules.Game
unmoved = record { states = λ p. 0; numbers = λ p a. pos 0; trays = no_messages }

abbrev pub strike_answer : Result ℕ StrikeFault → Answer
strike_answer (Ok n) = accepted n
strike_answer (Err f) = refused (Strike f)

-- what a fire or a strike leaves: its answer, the game, and what the two trails hold
abbrev pub after_strike : Result ℕ StrikeFault → rules.Game → Lists → After
after_strike r g t = record { answer = strike_answer r; game = g; changes = t.changes; parcels = t.parcels }

-- wherever the published semantics enables a move and leads to h, the answer is 1 and the game ends as h
abbrev pub EndsAsEnabled : Setting → rules.Game → Move → Result ℕ StrikeFault → rules.Game → Type 0
EndsAsEnabled S g m r g' = (h : rules.Game) → Step S g m h → (r ≡ Ok 1) × (g' ≡ h)
