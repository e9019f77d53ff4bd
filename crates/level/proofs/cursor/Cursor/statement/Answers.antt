use Rattle.std.proofs.Common.{drop, sym, ◌∙◌, arith, rules}
use Rattle.level.specs.Reading.{at, read_expr, read_exprs}
use Rattle.level.specs.Sound.{deepest}
use Rattle.level.specs.Syntax.{send}
use Rattle.level.proofs.Listing.{declared_some}
use Rattle.level.proofs.Turns.{two}
use Rattle.level.proofs.Arms.{send_is}
use Rattle.level.proofs.cursor.Cursor.statement.Goals as goal

pub returns-in_ok-expression-in-34 : goal.returns-in_ok-expression-in-34
returns-in_ok-expression-in-34 c =
    let n = c.args.scope.now.shape.numbers in
    let signals = c.args.scope.now.signals.now.counts.items in
    let p = c.in_ok-parameters-in-34.parameters in
    let bs = c.args.self.now.rest.now in
    let k = declared_some signals (at bs 1) p (sym c.get-signal.ensures ∙ c.in_ok-parameters-in-34.ensures.ok_part) in
    let g = two _ (read_expr deepest n) (read_exprs p n) (send (at bs 1)) _ (drop 2 bs) (send_is signals n bs (omega arith) (omega arith) c.in-34.is p k.0 k.1 k.2) c.advance-in-34.ensures.rest
    _ c.in_ok-expression-in-34.ensures.gives _ _ c.expressions.ensures.gives in
    record { gives = g; stays = search rules }
