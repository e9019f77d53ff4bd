-- What settling does to a game, move by move and entry by entry. This is scaffolding between the rules and the code: no public
-- promise speaks of it.
use Rattle.std.specs.Prelude.{ℕ, cond, not, List, [], ◌∷◌, Some, None, Option, ◌==◌}
use Rattle.mail.specs.declared.message.Message.{Message}
use Rattle.mail.specs.Trays.{Trays, put_trays, take_trays}
use Rattle.level.specs.Places.{Placed, placed}
use Rattle.level.specs.Syntax.{Level}
use Rattle.level.specs.Tables.{nth}
use Rattle.evaluator.specs.Rows.{entered, written}
use Rattle.evaluator.specs.Trails.{Lists}
use Rattle.rules.specs.declared.moves.Act.{Act}
use Rattle.rules.specs.declared.moves.Act.TheVariants.{Transition, Discard}
use Rattle.rules.specs.declared.moves.Move.{Move}
use Rattle.rules.specs.declared.trail.Change.{Change}
use Rattle.rules.specs.declared.trail.Parcel.{Parcel}
use Rattle.rules.specs.Game.{Numbers, Game, Setting}

-- the changes one after the other
abbrev pub written_all : Numbers → List Change → Numbers
written_all f [] = f
written_all f (c ∷ cs) = written_all (written f c) cs

-- a parcel is put, unless the mail refuses it
abbrev pub put_all : ℕ → (List Message → Message → ℕ) → Trays → List Parcel → Trays
put_all limit place t [] = t
put_all limit place t (c ∷ cs) = put_all limit place (put_trays limit place t c.piece c.message) cs

-- a transition leaves its piece in its target state, and takes a message if it has a trigger; a discard takes one
abbrev pub state_by : (ℕ → ℕ) → ℕ → Option Placed → ℕ → ℕ
state_by f p None = f
state_by f p (Some x) = entered f p x.transition.target

abbrev pub trays_by : Trays → ℕ → Option Placed → Trays
trays_by t p None = t
trays_by t p (Some x) = cond (not (x.transition.signal == 0)) (take_trays t p) t

module _ (L : Level) where
  abbrev pub moved_by : (ℕ → ℕ) → ℕ → Act → ℕ → ℕ
  moved_by f p (Transition n) = state_by f p (nth (placed L) n)
  moved_by f p Discard = f

  abbrev pub taken_by : Trays → ℕ → Act → Trays
  taken_by t p (Transition n) = trays_by t p (nth (placed L) n)
  taken_by t p Discard = take_trays t p

  abbrev pub moved_all : (ℕ → ℕ) → List Move → ℕ → ℕ
  moved_all f [] = f
  moved_all f (m ∷ ms) = moved_all (moved_by f m.piece m.act) ms

  abbrev pub taken_all : Trays → List Move → Trays
  taken_all t [] = t
  taken_all t (m ∷ ms) = taken_all (taken_by t m.piece m.act) ms

  -- a game after one move is made, and after all of a list: what they write and send is left out
  abbrev pub made : Game → Move → Game
  made g m = record { states = moved_by g.states m.piece m.act; numbers = g.numbers; trays = taken_by g.trays m.piece m.act }

  abbrev pub made_all : Game → List Move → Game
  made_all g ms = record { states = moved_all g.states ms; numbers = g.numbers; trays = taken_all g.trays ms }

-- the moves, then the changes and the parcels
abbrev pub settled : Setting → Game → List Move → Lists → Game
settled S g ms t = record {
  states = moved_all S.level g.states ms;
  numbers = written_all g.numbers t.changes;
  trays = put_all S.limit S.place (taken_all S.level g.trays ms) t.parcels;
}
