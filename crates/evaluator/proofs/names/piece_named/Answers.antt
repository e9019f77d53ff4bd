use Rattle.std.proofs.Common.{◌≡◌, false, is_ok, is_some, ◌∙◌, sym, ap}
use Rattle.std.proofs.lemmas.Int.{to_z-of_z}
use Rattle.level.specs.Levels.{meaning}
use Rattle.level.proofs.Held.{few_pieces}
use Rattle.evaluator.proofs.Naming.{no_byte, refused_for}
use Rattle.evaluator.proofs.names.piece_named.Goals as goal

pub returns-in_err-piece : goal.returns-in_err-piece
returns-in_err-piece c =
    let f = c.ranges.value in
    let t = simp to_z-of_z at c.try_from.ensures in
    let e : is_ok c.try_from.result ≡ false = sym c.ok.ensures.variant ∙ ap is_some c.in_err-piece.was in
    let n = no_byte (meaning c.args.level.now) c.args.value (few_pieces c.args.level.now) (refused_for _ _ t e) in
    c.from_residual.ensures ∙ n
