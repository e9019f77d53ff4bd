-- The states and numbers that a table of rows means, by piece.
use Rattle.std.specs.Prelude.{ℕ, cond, ◌&&◌, [], ℤ, pos, nat_lt, slice_index_or}
use Rattle.rules.specs.declared.trail.Change.{Change}
use Rattle.rules.specs.Game.{Numbers, with_state, with_number}
use Rattle.evaluator.specs.declared.table.Row.{Row}
use Rattle.evaluator.specs.declared.table.Table.{Table}

-- a row where there is none
abbrev pub no_row : Row
no_row = record { state = 0; numbers = [] }

abbrev pub row_of : Table → ℕ → Row
row_of t p = slice_index_or t.rows p no_row

abbrev pub states_of : Table → ℕ → ℕ
states_of t p = (row_of t p).state

abbrev pub numbers_of : Table → ℕ → ℕ → ℤ
numbers_of t p a = slice_index_or (row_of t p).numbers a (pos 0)

-- a piece that has a row gets a state, a cell that has a place a value
abbrev pub entered : (ℕ → ℕ) → ℕ → ℕ → ℕ → ℕ
entered f p s = cond (nat_lt p 32) (with_state f p s) f

abbrev pub written : Numbers → Change → Numbers
written f c = cond (nat_lt c.piece 32 && nat_lt c.number 8) (with_number f c.piece c.number c.value) f
