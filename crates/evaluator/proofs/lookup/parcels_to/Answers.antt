use Rattle.std.proofs.Common.{rules}
use Rattle.evaluator.proofs.Looking.{parcels_more, parcels_all}
use Rattle.evaluator.proofs.lookup.parcels_to.Goals as goal

pub loop-parcel-preserved : goal.loop-parcel-preserved
loop-parcel-preserved c = search (rules, parcels_more, parcels_all)

pub returns : goal.returns
returns c = search (rules, parcels_more, parcels_all)
