use Rattle.std.proofs.Common.{◌≡◌, drop}
use Rattle.game.specs.Settling.{put_all}
use Rattle.game.proofs.settling.put_all.Given as goal

abbrev pub invariant-loop-parcel : goal.invariant-loop-parcel
invariant-loop-parcel g l =
    put_all g.M.Mail.LIMIT g.M.Mail.place (g.M.Mail.trays l.mail) (drop l.parcel-index l.parcels)
    ≡ put_all g.M.Mail.LIMIT g.M.Mail.place (g.M.Mail.trays l.initial.mail) l.parcels
