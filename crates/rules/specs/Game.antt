-- Games: how the pieces of a level stand, and what waits for them.
use Rattle.std.specs.Prelude.{ℕ, ◌≤◌, Bool, cond, ◌&&◌, List, [], ◌∷◌, length, ℤ, pos, Some, None, Option, ◌==◌, slice_index_or}
use Rattle.std.specs.List.{insert}
use Rattle.mail.specs.declared.message.Message.{Message}
use Rattle.mail.specs.Trays.{Trays, no_messages, with_tray}
use Rattle.level.specs.Syntax.{Piece, Level}
use Rattle.level.specs.Entries.{starting}
use Rattle.level.specs.Tables.{nth}

-- the numbers of all pieces, by piece and index. A cell is a piece with one of its numbers
abbrev pub Numbers : Type 0
Numbers = ℕ → ℕ → ℤ

-- a configuration: the state of each piece (an object), its numbers (attributes) and its tray (input queue)
pub record Game : Type 0 where
  pub states : ℕ → ℕ
  pub numbers : Numbers
  pub trays : Trays

-- where a game is played: a level, and of the mail its limit and its rule of placing
pub record Setting : Type 0 where
  pub level : Level
  pub limit : ℕ
  pub place : List Message → Message → ℕ

-- no tray is longer than the mail's limit
abbrev pub Within : ℕ → Game → Type 0
Within limit g = (p : ℕ) → length (g.trays p) ≤ limit

-- two cells are one
abbrev pub same : ℕ → ℕ → ℕ → ℕ → Bool
same p a q b = p == q && a == b

-- the same states but for piece p
abbrev pub with_state : (ℕ → ℕ) → ℕ → ℕ → ℕ → ℕ
with_state f p s q = cond (p == q) s (f q)

-- the same numbers but for one cell
abbrev pub with_number : Numbers → ℕ → ℕ → ℤ → Numbers
with_number f p a v q b = cond (same p a q b) v (f q b)

-- the same trays with a message put into that of q, at the place that the mail gives it
abbrev pub put_in : (List Message → Message → ℕ) → Trays → ℕ → Message → Trays
put_in place t q m = with_tray t q (insert (t q) (place (t q) m) m)

-- a message of signal s with the values of its parameters; numbers without a parameter are 0
abbrev pub message : ℕ → List ℤ → Message
message s [] = record { signal = s; first = pos 0; second = pos 0 }
message s (v ∷ []) = record { signal = s; first = v; second = pos 0 }
message s (v ∷ w ∷ vs) = record { signal = s; first = v; second = w }

-- what a piece's numbers start with; a row without a piece has zeros
abbrev pub first_numbers : Option Piece → List ℤ
first_numbers None = []
first_numbers (Some p) = starting p.starts

-- every piece in state 0 with its starting numbers, every tray empty
abbrev pub set_out : Level → Game
set_out L = record { states = λ p. 0; numbers = λ p a. slice_index_or (first_numbers (nth L.pieces p)) a (pos 0); trays = no_messages }
