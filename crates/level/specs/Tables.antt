-- Lists by number.
use Rattle.std.specs.Prelude.{ℕ, List, [], ◌∷◌, Option, slice_get}
use Rattle.level.specs.declared.entry.KindEntry.{KindEntry}

-- the entry at a place of a list, if there is one
abbrev pub nth : {T : Type 0} → List T → ℕ → Option T
nth xs i = slice_get xs i

-- how many numbers the pieces of each kind have, as a table says
abbrev pub entry_counts : List KindEntry → List ℕ
entry_counts [] = []
entry_counts (e ∷ es) = e.numbers ∷ entry_counts es
