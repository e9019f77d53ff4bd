-- What the entries of the trails say of a cell and of a tray.
use Rattle.std.specs.Prelude.{ℕ, suc, cond, List, [], ◌∷◌, ◌==◌}
use Rattle.rules.specs.declared.trail.Change.{Change}
use Rattle.rules.specs.declared.trail.Parcel.{Parcel}
use Rattle.rules.specs.Trace.{Own, no_writes, over}

-- changes laid over what was written before them, one after the other
abbrev pub laid_on : List Change → Own → Own
laid_on [] o = o
laid_on (c ∷ cs) o = laid_on cs (over o c.piece c.number c.value)

-- the value of the last change to a cell, or none
abbrev pub last_change : List Change → Own
last_change cs = laid_on cs no_writes

-- how many parcels go to a piece
abbrev pub parcels_to : List Parcel → ℕ → ℕ
parcels_to [] q = 0
parcels_to (c ∷ cs) q = cond (c.piece == q) (suc (parcels_to cs q)) (parcels_to cs q)
