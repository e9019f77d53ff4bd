-- What the trails hold after a move that is judged, and what they say of the moves listed before. This is scaffolding between the
-- rules and the code: no public promise speaks of it.
use Rattle.std.specs.Prelude.{ℕ, Bool, List, ◌++◌, is_some, Ok, Err, Result, nat_lt}
use Rattle.rules.specs.declared.fault.Why.{Why}
use Rattle.rules.specs.Beat.{Earlier, changes_of, parcels_of}
use Rattle.rules.specs.Checks.{Check, pass, fail}
use Rattle.rules.specs.Trace.{Event}
use Rattle.evaluator.specs.Lookup.{last_change, parcels_to}
use Rattle.evaluator.specs.Trails.{Lists}

-- all writes and sends entered
abbrev pub grown : Lists → List Event → Lists
grown t es = record { changes = t.changes ++ changes_of es; parcels = t.parcels ++ parcels_of es }

-- the lists, if the check is passed
abbrev pub checked : Check Why → Lists → Result Lists Why
checked pass t = Ok t
checked (fail w) t = Err w

-- which pieces moved and from which trays was taken is noted; what was written and sent stands in the trails
abbrev pub earlier_of : (ℕ → Bool) → (ℕ → Bool) → Lists → Earlier
earlier_of moved took t = record {
  moved = moved;
  wrote = λ p a. is_some (last_change t.changes p a);
  sent = λ q. nat_lt 0 (parcels_to t.parcels q);
  took = took;
}
