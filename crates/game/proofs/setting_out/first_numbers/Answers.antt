use Rattle.std.proofs.Common.{replicate, pos, ap, ◌∙◌}
use Rattle.std.specs.Option.{option_map_or}
use Rattle.level.specs.Levels.{meaning}
use Rattle.level.specs.Sound.{counts}
use Rattle.game.proofs.Rows.{start_of}
use Rattle.game.proofs.setting_out.first_numbers.Goals as goal

pub returns-in_default : goal.returns-in_default
returns-in_default c =
    let L = meaning c.args.level.now in
    ap (λ o. option_map_or (λ e. e.starts) o (replicate 8 (pos 0))) c.in_default.ensures ∙ start_of (counts L.kinds) L.pieces c.args.piece

pub returns : goal.returns
returns c =
    let L = meaning c.args.level.now in
    ap (λ o. option_map_or (λ e. e.starts) o (replicate 8 (pos 0))) c.in-Some.ensures ∙ start_of (counts L.kinds) L.pieces c.args.piece
