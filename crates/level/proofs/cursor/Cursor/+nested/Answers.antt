use Rattle.std.proofs.Common.{◌-◌, arith, rules}
use Rattle.level.specs.Reading.{read_expr}
use Rattle.level.specs.Readers.{nothing}
use Rattle.level.specs.Syntax.{binary}
use Rattle.level.proofs.Turns.{cut_off, broke, tail, two, handed}
use Rattle.level.proofs.Arms.{constant_short, other_short, other_is, binary_is, negation_is}
use Rattle.level.proofs.cursor.Cursor.+nested.Goals as goal

pub returns-in-16 : goal.returns-in-16
returns-in-16 t c =
    let k = constant_short c.args.depth c.args.numbers c.args.self.now.rest.now (omega arith) (omega arith) c.in-16.is (omega arith) in
    cut_off k c.truncated-in-16.ensures.answer c.truncated-in-16.ensures.rest c.truncated-in-16.ensures.stays

pub returns-in-19 : goal.returns-in-19
returns-in-19 t c =
    let k = other_short c.args.depth c.args.numbers c.args.self.now.rest.now (omega arith) (omega arith) c.in-19.is (omega arith) in
    cut_off k c.truncated-in-19.ensures.answer c.truncated-in-19.ensures.rest c.truncated-in-19.ensures.stays

pub returns-in-19-3 : goal.returns-in-19-3
returns-in-19-3 t c =
    let k = other_is c.args.depth c.args.numbers c.args.self.now.rest.now (omega arith) (omega arith) c.in-19.is (omega arith) (omega arith) in
    record { gives = tail _ (read_expr (c.args.depth - 1) c.args.numbers) _ _ _ k c.advance-in-19-3.ensures.rest _ _ c.nested.ensures.gives; stays = search rules }

pub returns-in_err-nested-in-20-to-28 : goal.returns-in_err-nested-in-20-to-28
returns-in_err-nested-in-20-to-28 t c =
    let b = binary_is c.args.depth c.args.numbers c.args.self.now.rest.now (omega arith) (omega arith) (omega (arith, c.in-20-to-28)) (omega (arith, c.in-20-to-28)) in
    let g = broke _ (read_expr (c.args.depth - 1) c.args.numbers) _ _ _ b.1 c.advance-in-20-to-28.ensures.rest nothing nothing _ _ c.in_err-nested-in-20-to-28.ensures.gives _ (handed _ c.from_residual.ensures.1) in
    record { gives = g; stays = search rules }

pub returns-in_ok-nested-in-20-to-28 : goal.returns-in_ok-nested-in-20-to-28
returns-in_ok-nested-in-20-to-28 t c =
    let b = binary_is c.args.depth c.args.numbers c.args.self.now.rest.now (omega arith) (omega arith) (omega (arith, c.in-20-to-28)) (omega (arith, c.in-20-to-28)) in
    let g = two _ (read_expr (c.args.depth - 1) c.args.numbers) (read_expr (c.args.depth - 1) c.args.numbers) (binary b.0) _ _ b.1 c.advance-in-20-to-28.ensures.rest _ c.in_ok-nested-in-20-to-28.ensures.gives _ _ c.nested-in-20-to-28-2.ensures.gives in
    record { gives = g; stays = search rules }

pub returns-in-29 : goal.returns-in-29
returns-in-29 t c =
    let k = negation_is c.args.depth c.args.numbers c.args.self.now.rest.now (omega arith) (omega arith) c.in-29.is in
    record { gives = tail _ (read_expr (c.args.depth - 1) c.args.numbers) _ _ _ k c.advance-in-29.ensures.rest _ _ c.nested-in-29.ensures.gives; stays = search rules }
