-- What the index of a level holds of each signal, kind, transition and piece.
use Rattle.std.specs.Prelude.{ℕ, List, [], ◌∷◌, map, replicate, ℤ, pos, slice_index, slice_set}
use Rattle.level.specs.declared.entry.KindEntry.{KindEntry}
use Rattle.level.specs.declared.entry.TransitionEntry.{TransitionEntry}
use Rattle.level.specs.declared.entry.PieceEntry.{PieceEntry}
use Rattle.level.specs.Syntax.{Kind, Start, Piece, Level}
use Rattle.level.specs.Sound.{counts}
use Rattle.level.specs.Places.{Placed, effect_place, placed}
use Rattle.level.specs.Tables.{nth}

abbrev pub kind_entry : Kind → KindEntry
kind_entry k = record { numbers = k.numbers; states = k.states }

abbrev pub transition_entry : Placed → TransitionEntry
transition_entry x = record {
  kind = x.kind;
  source = x.transition.source;
  target = x.transition.target;
  signal = x.transition.signal;
  first = nth x.transition.receives 0;
  second = nth x.transition.receives 1;
  guard = x.guard;
  effect = effect_place x;
}

-- eight numbers with the starting values laid over them, of two for one number the last
abbrev pub laid : List ℤ → List Start → List ℤ
laid row [] = row
laid row (s ∷ ss) = laid (slice_set row s.number s.value) ss

abbrev pub starting : List Start → List ℤ
starting ss = laid (replicate 8 (pos 0)) ss

-- where the kinds have so many numbers
abbrev pub piece_entry : List ℕ → Piece → PieceEntry
piece_entry counts p = record { kind = p.kind; numbers = slice_index counts p.kind; starts = starting p.starts }

-- the four lists of an index
pub record Index : Type 0 where
  pub signals : List ℕ
  pub kinds : List KindEntry
  pub transitions : List TransitionEntry
  pub pieces : List PieceEntry

abbrev pub index_of : Level → Index
index_of L = record {
  signals = L.signals;
  kinds = map kind_entry L.kinds;
  transitions = map transition_entry (placed L);
  pieces = map (piece_entry (counts L.kinds)) L.pieces;
}
