use Rattle.std.proofs.Common.{◌-◌, ◌∷◌, refl, ◌∙◌, arith}
use Rattle.level.specs.Reading.{read_stmt, read_effect}
use Rattle.level.specs.Readers.{nothing}
use Rattle.level.proofs.Turns.{broke, two, handed}
use Rattle.level.proofs.Arms.{effect_more}
use Rattle.level.proofs.cursor.Cursor.+statements.Goals as goal

pub returns-in_err-statement-in-32-to-34-2 : goal.returns-in_err-statement-in-32-to-34-2
returns-in_err-statement-in-32-to-34-2 t c =
    let n = c.args.scope.now.shape.numbers in
    let signals = c.args.scope.now.signals.now.counts.items in
    let g = broke _ (read_stmt signals n) _ _ c.args.self.now.rest.now (effect_more signals n c.args.self.now.rest.now c.args.left (omega arith) (omega arith) (omega arith) (omega arith)) refl
    nothing nothing _ _ c.in_err-statement-in-32-to-34-2.ensures.gives _ (handed _ c.from_residual.ensures.1) in
    record { gives = g; stays = c.in_err-statement-in-32-to-34-2.ensures.stays }

pub returns-in_ok-statement-in-32-to-34-2 : goal.returns-in_ok-statement-in-32-to-34-2
returns-in_ok-statement-in-32-to-34-2 t c =
    let n = c.args.scope.now.shape.numbers in
    let signals = c.args.scope.now.signals.now.counts.items in
    let g = two _ (read_stmt signals n) (read_effect signals n (c.args.left - 1)) ◌∷◌ _ c.args.self.now.rest.now
    (effect_more signals n c.args.self.now.rest.now c.args.left (omega arith) (omega arith) (omega arith) (omega arith)) refl _ c.in_ok-statement-in-32-to-34-2.ensures.gives _ _ c.statements.ensures.gives in
    record { gives = g; stays = c.statements.ensures.stays ∙ c.in_ok-statement-in-32-to-34-2.ensures.stays }
