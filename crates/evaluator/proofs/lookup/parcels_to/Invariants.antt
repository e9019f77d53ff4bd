use Rattle.std.proofs.Common.{◌≡◌, ◌+◌, ◌≤◌, drop}
use Rattle.evaluator.specs.Lookup.{parcels_to}
use Rattle.evaluator.proofs.lookup.parcels_to.Given as goal

abbrev pub invariant-loop-parcel : goal.invariant-loop-parcel
invariant-loop-parcel l = (l.count + parcels_to (drop l.parcel-index l.parcels) l.piece ≡ parcels_to l.parcels l.piece) × (l.count ≤ l.parcel-index)
