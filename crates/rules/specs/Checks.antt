-- Tests made one after the other, of which the first that fails counts.
use Rattle.std.specs.Prelude.{Bool, true, false, Ok, Err, Result}

-- passed, or failed with a fault
pub data Check (F : Type 0) : Type 0 where
  pass : Check F
  fail : F → Check F

-- a test, and the next if it is passed
abbrev pub and_then : {F : Type 0} → Check F → Check F → Check F
and_then pass k = k
and_then (fail f) k = fail f

-- this must not be
abbrev pub never : {F : Type 0} → Bool → F → Check F
never true f = fail f
never false f = pass

-- an evaluation ran to its end
abbrev pub ended_by : {A F : Type 0} → Result A F → Check F
ended_by (Ok x) = pass
ended_by (Err f) = fail f
