-- What is noted of the moves listed before: which pieces moved, and from which trays a message was taken.
use Rattle.std.specs.Prelude.{ℕ, Bool, false, ◌&&◌, ◌||◌, ◌==◌, nat_lt, slice_index_or}
use Rattle.evaluator.specs.declared.listed.Listed.{Listed}
use Rattle.evaluator.specs.declared.listed.Note.{Note}

abbrev pub blank : Note
blank = record { moved = false; took = false }

abbrev pub note_of : Listed → ℕ → Note
note_of l p = slice_index_or l.notes p blank

abbrev pub moved_in : Listed → ℕ → Bool
moved_in l p = (note_of l p).moved

abbrev pub took_in : Listed → ℕ → Bool
took_in l p = (note_of l p).took

-- one piece more; only the pieces 0 to 31 are noted
abbrev pub noted : (ℕ → Bool) → ℕ → ℕ → Bool
noted f p q = f q || (nat_lt p 32 && p == q)
