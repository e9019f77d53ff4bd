-- The worked cases, as one table: what is done, what it answers and how it ends.
use Rattle.std.specs.Prelude.{◌≡◌, ℕ, zero, suc, List, [], ◌∷◌, map, length, ℤ, pos, neg_ℤ, Some, Ok, Err, Result}
use Rattle.mail.specs.declared.message.Message.{Message}
use Rattle.mail.specs.Queue.{last_place}
use Rattle.mail.specs.Urgent.{urgent_place}
use Rattle.level.specs.declared.fault.LevelFault.{LevelFault}
use Rattle.level.specs.Syntax.{Operator, quotient, remainder, Piece, Level}
use Rattle.level.specs.Sound.{numbers_of}
use Rattle.level.specs.Faults.{number, byte}
use Rattle.level.specs.Reading.{read, tree}
use Rattle.rules.specs.declared.fault.CallFault.{CallFault}
use Rattle.rules.specs.declared.fault.CallFault.TheVariants.{Tap, Strike}
use Rattle.rules.specs.declared.fault.StrikeFault.TheVariants.{ShortTrail, NotMoves, AtMove}
use Rattle.rules.specs.declared.fault.Why.{Why}
use Rattle.rules.specs.declared.fault.Why.TheVariants.{Unknown, MovesAlready, OtherState, NoMessage, Clash, Stumbles, Guard, TrayFull}
use Rattle.rules.specs.Arithmetic.{computed}
use Rattle.rules.specs.Game.{Game, set_out, message, Setting}
use Rattle.rules.specs.Faults.{cause_number, why_number, call_number}
use Rattle.rules.specs.Calls.{Lent, Call, tap, fire, strike, Answer, accepted, refused, call}
use Rattle.rules.specs.Runs.{after, play}

-- an answer as the table shows it
pub data Shown : Type 0 where
  yes : ℕ → Shown  -- accepted, with a number
  no : ℕ → Shown  -- refused, with a number
  no_at : ℕ → ℕ → Shown  -- refused, with a number and the place of the move
  stumbles_at : ℕ → ℕ → ℕ → Shown  -- refused for a stumble: the place of the move, the cause, and the place in the level

abbrev pub shown_why : ℕ → Why → Shown
shown_why i Unknown = no_at (why_number Unknown) i
shown_why i MovesAlready = no_at (why_number MovesAlready) i
shown_why i OtherState = no_at (why_number OtherState) i
shown_why i NoMessage = no_at (why_number NoMessage) i
shown_why i Clash = no_at (why_number Clash) i
shown_why i (Stumbles s) = stumbles_at i (cause_number s.cause) s.place
shown_why i Guard = no_at (why_number Guard) i
shown_why i TrayFull = no_at (why_number TrayFull) i

abbrev pub shown_fault : CallFault → Shown
shown_fault (Tap f) = no (call_number (Tap f))
shown_fault (Strike ShortTrail) = no (call_number (Strike ShortTrail))
shown_fault (Strike NotMoves) = no (call_number (Strike NotMoves))
shown_fault (Strike (AtMove f)) = shown_why f.place f.why

abbrev pub shown : Answer → Shown
shown (accepted n) = yes n
shown (refused f) = shown_fault f

abbrev pub answers : Setting → Game → List Call → List Shown
answers S g [] = []
answers S g (c ∷ cs) = shown (call S g c).answer ∷ answers S (after S g c) cs

-- how a piece stands: its state, its numbers, and how many messages wait
pub record Line : Type 0 where
  pub state : ℕ
  pub numbers : List ℤ
  pub waiting : ℕ

abbrev pub row : Game → ℕ → ℕ → ℕ → List ℤ
row g p a zero = []
row g p a (suc n) = g.numbers p a ∷ row g p (suc a) n

abbrev pub lines_from : Level → Game → ℕ → List Piece → List Line
lines_from L g p [] = []
lines_from L g p (x ∷ xs) =
    record { state = g.states p; numbers = row g p 0 (numbers_of L.kinds x.kind); waiting = length (g.trays p) } ∷ lines_from L g (suc p) xs

abbrev pub lines : Level → Game → List Line
lines L g = lines_from L g 0 L.pieces

abbrev pub verdict : Result Level LevelFault → Shown
verdict (Ok L) = yes (length L.pieces)
verdict (Err f) = no_at (number f) (byte f)

-- what each kind of row says
pub data Row : Type 0 where
  plays : List ℕ → List Call → List Shown → List Line → Row  -- level bytes and calls, with the queue mail from the game set out; the answers; the pieces at the end
  computes : Operator → ℤ → ℤ → ℤ → Row  -- operator and two numbers; the number
  places : List ℕ → ℕ → ℕ → Row  -- signals waiting in a tray of the urgent mail and the signal put; the place where it comes to stand
  reads : List ℕ → Shown → Row  -- level bytes; accepted with a number of pieces, or refused with a number at a byte

abbrev pub queue : List ℕ → Setting
queue bytes = record { level = tree bytes; limit = 4; place = last_place }

abbrev pub bearing : ℕ → Message
bearing s = message s []

abbrev pub Says : Row → Type 0
Says (plays bytes cs ss ls) =
    (answers (queue bytes) (set_out (tree bytes)) cs ≡ ss) × (lines (tree bytes) (play (queue bytes) (set_out (tree bytes)) cs) ≡ ls)
Says (computes op v w z) = computed op v w ≡ Some z
Says (places ss s n) = urgent_place (map bearing ss) (bearing s) ≡ n
Says (reads bytes s) = verdict (read bytes) ≡ s

abbrev pub All : List Row → Type 0
All [] = Unit
All (r ∷ rs) = Says r × All rs

-- The lamp, piece 0, starts with 2; on signal 1 it receives its number and goes from state 0 to state 1 (transition 0). The bell, piece
-- 1, starts with 7; if the lamp's number is less than 5, it adds that to its own (transition 1)
abbrev pub lamp_and_bell : List ℕ
lamp_and_bell =
    0x01 ∷ 0x01
    ∷ 0x02 ∷ 0x01 ∷ 0x02
    ∷ 0x03 ∷ 0x00 ∷ 0x01 ∷ 0x01 ∷ 0x00 ∷ 0xFF
    ∷ 0x10 ∷ 0x00 ∷ 0x00 ∷ 0x00 ∷ 0x01
    ∷ 0x00
    ∷ 0x02 ∷ 0x01 ∷ 0x01
    ∷ 0x03 ∷ 0x00 ∷ 0x00 ∷ 0x00 ∷ 0xFF ∷ 0xFF
    ∷ 0x1A ∷ 0x13 ∷ 0x00 ∷ 0x10 ∷ 0x00 ∷ 0x00 ∷ 0x00 ∷ 0x00 ∷ 0x10 ∷ 0x00 ∷ 0x00 ∷ 0x00 ∷ 0x05
    ∷ 0x20 ∷ 0x00 ∷ 0x14 ∷ 0x12 ∷ 0x00 ∷ 0x13 ∷ 0x00 ∷ 0x10 ∷ 0x00 ∷ 0x00 ∷ 0x00 ∷ 0x00
    ∷ 0x00
    ∷ 0x04 ∷ 0x00
    ∷ 0x05 ∷ 0x00 ∷ 0x00 ∷ 0x00 ∷ 0x00 ∷ 0x02
    ∷ 0x04 ∷ 0x01
    ∷ 0x05 ∷ 0x00 ∷ 0x00 ∷ 0x00 ∷ 0x00 ∷ 0x07
    ∷ 0x06 ∷ []

abbrev pub full_trails : Lent
full_trails = record { changes = 160; parcels = 128 }

-- tap the lamp with 30
abbrev pub tap_lamp : Call
tap_lamp = tap 0 (message 1 (pos 30 ∷ []))

abbrev pub line : ℕ → ℤ → ℕ → Line
line s v n = record { state = s; numbers = v ∷ []; waiting = n }

abbrev pub minus : ℕ → ℤ
minus n = neg_ℤ (pos n)

-- struck together, the bell rings with the lamp's old number
abbrev pub bell_and_lamp : Row
bell_and_lamp = plays lamp_and_bell
    (tap_lamp ∷ strike full_trails (0x51 ∷ 1 ∷ 1 ∷ 0x51 ∷ 0 ∷ 0 ∷ []) ∷ [])
    (yes 1 ∷ yes 2 ∷ [])
    (line 1 (pos 30) 0 ∷ line 0 (pos 9) 0 ∷ [])

-- exchanged, the bell would read what the lamp writes
abbrev pub lamp_and_then_bell : Row
lamp_and_then_bell = plays lamp_and_bell
    (tap_lamp ∷ strike full_trails (0x51 ∷ 0 ∷ 0 ∷ 0x51 ∷ 1 ∷ 1 ∷ []) ∷ [])
    (yes 1 ∷ no_at 36 1 ∷ [])
    (line 0 (pos 2) 1 ∷ line 0 (pos 7) 0 ∷ [])

-- fired one after the other, the bell sees 30, which is not less than 5
abbrev pub one_by_one : Row
one_by_one = plays lamp_and_bell
    (tap_lamp ∷ fire full_trails 0 0 ∷ fire full_trails 1 1 ∷ [])
    (yes 1 ∷ yes 1 ∷ no_at 38 0 ∷ [])
    (line 1 (pos 30) 0 ∷ line 0 (pos 7) 0 ∷ [])

-- the lamp may not discard a message that a transition of it wants
abbrev pub no_discard : Row
no_discard = plays lamp_and_bell
    (tap_lamp ∷ fire full_trails 0 0xFF ∷ [])
    (yes 1 ∷ no_at 38 0 ∷ [])
    (line 0 (pos 2) 1 ∷ line 0 (pos 7) 0 ∷ [])

-- a tray of the queue mail holds four
abbrev pub five_taps : Row
five_taps = plays lamp_and_bell
    (tap_lamp ∷ tap_lamp ∷ tap_lamp ∷ tap_lamp ∷ tap_lamp ∷ [])
    (yes 1 ∷ yes 1 ∷ yes 1 ∷ yes 1 ∷ no 23 ∷ [])
    (line 0 (pos 2) 4 ∷ line 0 (pos 7) 0 ∷ [])

-- Two pieces of one kind. On signal 1 (transition 0) a piece receives its number and, if that is true, sends it on to piece 1.
-- Spontaneously (transition 1) its number becomes 7 by its number: the quotient stands at byte 36
abbrev pub relay : List ℕ
relay =
    0x01 ∷ 0x01
    ∷ 0x02 ∷ 0x01 ∷ 0x01
    ∷ 0x03 ∷ 0x00 ∷ 0x00 ∷ 0x01 ∷ 0x00 ∷ 0xFF
    ∷ 0x12 ∷ 0x00
    ∷ 0x22 ∷ 0x01 ∷ 0x10 ∷ 0x00 ∷ 0x00 ∷ 0x00 ∷ 0x01 ∷ 0x12 ∷ 0x00
    ∷ 0x00
    ∷ 0x03 ∷ 0x00 ∷ 0x00 ∷ 0x00 ∷ 0xFF ∷ 0xFF
    ∷ 0x10 ∷ 0x00 ∷ 0x00 ∷ 0x00 ∷ 0x01
    ∷ 0x20 ∷ 0x00 ∷ 0x17 ∷ 0x10 ∷ 0x00 ∷ 0x00 ∷ 0x00 ∷ 0x07 ∷ 0x12 ∷ 0x00
    ∷ 0x00
    ∷ 0x04 ∷ 0x00
    ∷ 0x04 ∷ 0x00
    ∷ 0x06 ∷ []

abbrev pub tap_with : ℕ → ℕ → Call
tap_with p n = tap p (message 1 (pos n ∷ []))

-- a divisor of 0 is a stumble, with its cause and its place in the level
abbrev pub stumble : Row
stumble = plays relay
    (fire full_trails 0 1 ∷ tap_with 0 5 ∷ fire full_trails 0 0 ∷ fire full_trails 0 1 ∷ [])
    (stumbles_at 0 1 36 ∷ yes 1 ∷ yes 1 ∷ yes 1 ∷ [])
    (line 0 (pos 1) 0 ∷ line 0 (pos 0) 1 ∷ [])

-- a discard's guard sees the received 0 in place of the 5, and the 5 stays
abbrev pub trial : Row
trial = plays relay
    (tap_with 0 5 ∷ fire full_trails 0 0 ∷ tap_with 0 0 ∷ fire full_trails 0 0 ∷ fire full_trails 0 0xFF ∷ [])
    (yes 1 ∷ yes 1 ∷ yes 1 ∷ no_at 38 0 ∷ yes 1 ∷ [])
    (line 0 (pos 5) 0 ∷ line 0 (pos 0) 1 ∷ [])

-- who takes from a tray comes before who sends to it
abbrev pub taker_first : Row
taker_first = plays relay
    (tap_with 0 5 ∷ tap_with 1 0 ∷ strike full_trails (0x51 ∷ 0 ∷ 0 ∷ 0x51 ∷ 1 ∷ 0xFF ∷ []) ∷ strike full_trails (0x51 ∷ 1 ∷ 0xFF ∷ 0x51 ∷ 0 ∷ 0 ∷ []) ∷ [])
    (yes 1 ∷ yes 1 ∷ no_at 36 1 ∷ yes 2 ∷ [])
    (line 0 (pos 5) 0 ∷ line 0 (pos 0) 1 ∷ [])

-- a full tray takes no message, unless its first is taken earlier in the beat
abbrev pub full_tray : Row
full_tray = plays relay
    (tap_with 0 5
    ∷ tap_with 1 0 ∷ tap_with 1 0 ∷ tap_with 1 0 ∷ tap_with 1 0
    ∷ fire full_trails 0 0 ∷ strike full_trails (0x51 ∷ 1 ∷ 0xFF ∷ 0x51 ∷ 0 ∷ 0 ∷ []) ∷ [])
    (yes 1 ∷ yes 1 ∷ yes 1 ∷ yes 1 ∷ yes 1 ∷ no_at 39 0 ∷ yes 2 ∷ [])
    (line 0 (pos 5) 0 ∷ line 0 (pos 0) 4 ∷ [])

-- trails of one place less are too short, however little a move needs
abbrev pub short_trails : Row
short_trails = plays lamp_and_bell
    (fire (record { changes = 159; parcels = 128 }) 1 1 ∷ fire (record { changes = 160; parcels = 127 }) 1 1 ∷ fire full_trails 1 1 ∷ [])
    (no 30 ∷ no 30 ∷ yes 1 ∷ [])
    (line 0 (pos 2) 0 ∷ line 0 (pos 9) 0 ∷ [])

abbrev pub cases : List Row
cases =
    bell_and_lamp
    ∷ lamp_and_then_bell
    ∷ one_by_one
    ∷ no_discard
    ∷ five_taps
    -- a quotient drops its fraction towards zero; one alone wraps
    ∷ computes quotient (minus 7) (pos 2) (minus 3)
    ∷ computes remainder (minus 7) (pos 2) (minus 1)
    ∷ computes quotient (minus 2147483648) (minus 1) (minus 2147483648)
    ∷ computes remainder (minus 2147483648) (minus 1) (pos 0)
    -- before the first greater signal, else last
    ∷ places (1 ∷ 3 ∷ 3 ∷ []) 2 1
    ∷ places (1 ∷ 3 ∷ 3 ∷ []) 3 3
    -- the shortest level, and a byte that is no command
    ∷ reads (0x06 ∷ []) (yes 0)
    ∷ reads (0x07 ∷ []) (no_at 12 0)
    ∷ stumble
    ∷ trial
    ∷ taker_first
    ∷ full_tray
    ∷ short_trails
    ∷ []
