-- Both trails stay in the memory that is lent.
use Rattle.std.proofs.Common.{◌≡◌}
use Rattle.evaluator.specs.declared.trail.Trails.{Trails}
use Rattle.evaluator.specs.Trails.{KeptBoth, places}

pub places_kept : (t u : Trails) → KeptBoth t u → places u ≡ places t
places_kept t u k = λ j. record { changes = k.0.0 j; parcels = k.1.0 j }
