-- What trails hold, and how many entries they can hold.
use Rattle.std.specs.Prelude.{◌≡◌, ℕ, List, length, take}
use Rattle.rules.specs.declared.trail.Change.{Change}
use Rattle.rules.specs.declared.trail.Parcel.{Parcel}
use Rattle.rules.specs.Calls.{Lent}
use Rattle.evaluator.specs.declared.trail.Trail.{Trail}
use Rattle.evaluator.specs.declared.trail.Trails.{Trails}

abbrev pub held : {T : Type 0} → Trail T → List T
held t = take t.count t.places.now

abbrev pub room : {T : Type 0} → Trail T → ℕ
room t = length t.places.now

-- the memory that is lent stays the same
abbrev pub Kept : {T : Type 0} → Trail T → Trail T → Type 0
Kept t u = (room u ≡ room t) × (u.places.ghost_name ≡ t.places.ghost_name)

-- the same of both trails. It stands in clauses and not in an invariant, which sees one moment and not what was before
abbrev pub KeptBoth : Trails → Trails → Type 0
KeptBoth t u = Kept t.changes u.changes × Kept t.parcels u.parcels

-- both trails as lists
pub record Lists : Type 0 where
  pub changes : List Change
  pub parcels : List Parcel

abbrev pub lists : Trails → Lists
lists t = record { changes = held t.changes; parcels = held t.parcels }

-- how many entries each can hold
abbrev pub places : Trails → Lent
places t = record { changes = room t.changes; parcels = room t.parcels }

-- the same of two trails that are lent each by itself
abbrev pub both : Trail Change → Trail Parcel → Lists
both c p = record { changes = held c; parcels = held p }

abbrev pub lent : Trail Change → Trail Parcel → Lent
lent c p = record { changes = room c; parcels = room p }
