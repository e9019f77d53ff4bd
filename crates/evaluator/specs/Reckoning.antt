-- What an expression comes to for a move that sees the changes of earlier moves. This is scaffolding between the rules and the
-- code: no public promise speaks of it.
use Rattle.std.specs.Prelude.{ℕ, ◌+◌, Bool, true, false, cond, List, [], ◌∷◌, ℤ, is_some, Some, None, Ok, Err, Option, Result}
use Rattle.mail.specs.Trays.{no_messages}
use Rattle.level.specs.Levels.{code, meaning}
use Rattle.level.specs.Reading.{Read, got, bad}
use Rattle.level.specs.Spelling.{size}
use Rattle.level.specs.Syntax.{Expr, Level}
use Rattle.rules.specs.declared.fault.Why.{Why}
use Rattle.rules.specs.declared.fault.Why.TheVariants.{Clash, Stumbles, Guard}
use Rattle.rules.specs.declared.trail.Change.{Change}
use Rattle.rules.specs.Game.{Game}
use Rattle.rules.specs.Trace.{Event, reads, writes, sends, Trace, evaluate}
use Rattle.evaluator.specs.declared.halt.Halt.{Halt}
use Rattle.evaluator.specs.declared.halt.Halt.TheVariants as halt
use Rattle.evaluator.specs.declared.table.Table.{Table}
use Rattle.evaluator.specs.declared.view.View.{View}
use Rattle.evaluator.specs.Lookup.{last_change}
use Rattle.evaluator.specs.Rows.{states_of, numbers_of}

-- the states and numbers of the rows, with no messages
abbrev pub board_of : Table → Game
board_of t = record { states = states_of t; numbers = numbers_of t; trays = no_messages }

pub record Sight : Type 0 where
  pub level : Level
  pub code : List ℕ
  pub board : Game
  pub earlier : List Change
  pub own : List Change
  pub mover : ℕ

abbrev pub sight : View → Sight
sight v = record {
  level = meaning v.level.now;
  code = code v.level.now;
  board = board_of v.table.now;
  earlier = v.earlier.now;
  own = v.own.now;
  mover = v.mover;
}

-- one after the other, until something is refused
abbrev pub follow : {A B F : Type 0} → Result A F → (A → Result B F) → Result B F
follow (Ok x) k = k x
follow (Err f) k = Err f

-- a read of a cell that an earlier move has changed is a clash
abbrev pub clear_of : {A : Type 0} → List Change → List Event → Result A Why → Result A Why
clear_of E [] r = r
clear_of E (reads p a ∷ es) r = cond (is_some (last_change E p a)) (Err Clash) (clear_of E es r)
clear_of E (writes p a v ∷ es) r = clear_of E es r
clear_of E (sends q m ∷ es) r = clear_of E es r

abbrev pub valued : {A : Type 0} → List Change → Trace A → Result A Why
valued E t = clear_of E t.events t.out

-- what was read is there
abbrev pub legible : {A : Type 0} → Read A → Bool
legible (got a l) = true
legible (bad f) = false

-- the expression that stands at a place, with the place after it
abbrev pub value_at : Sight → ℕ → Read Expr → Result (ℤ × ℕ) Why
value_at s i (got e l) = follow (valued s.earlier (evaluate s.level s.board s.mover (last_change s.own) i e)) (λ v. Ok (v, i + size e))
value_at s i (bad f) = Err Guard

-- the own value, a clash, or the value of the rows
abbrev pub own_or : Option ℤ → Option ℤ → ℤ → Result ℤ Halt
own_or (Some v) e z = Ok v
own_or None (Some v) z = Err halt.Clash
own_or None None z = Ok z

abbrev pub cell_value : Sight → ℕ → ℕ → Result ℤ Halt
cell_value s p a = own_or (last_change s.own p a) (last_change s.earlier p a) (s.board.numbers p a)

-- a halt with the place where the reading of the code stopped
abbrev pub faulted : Halt → ℕ → Why
faulted halt.Clash i = Clash
faulted (halt.Stumbles c) i = Stumbles (record { cause = c; place = i })

abbrev pub told : {A : Type 0} → Result A Halt → ℕ → Result (A × ℕ) Why
told (Ok v) i = Ok (v, i)
told (Err h) i = Err (faulted h i)
