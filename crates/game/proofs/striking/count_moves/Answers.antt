use Rattle.std.proofs.Common.{ap, ◌∙◌, length, arith, inl}
use Rattle.game.proofs.Counting.{front_fits, drained, count_all, count_left, count_wrong}
use Rattle.game.proofs.striking.count_moves.Goals as goal

pub count-count-requires-clause-fits : goal.count-count-requires-clause-fits
count-count-requires-clause-fits c = let few = front_fits c.args.bytes.now in inl (rw c.new.ensures (omega arith))

pub returns-in-1-to-16 : goal.returns-in-1-to-16
returns-in-1-to-16 c =
    let (xs, run, counted) = c.count-count.ensures.ran in
    count_all c.args.bytes.now c.count-count.result (counted ∙ ap length (drained _ xs run ∙ c.new.ensures)) (omega arith) (omega arith) (omega arith)

pub returns-in_default-2 : goal.returns-in_default-2
returns-in_default-2 c =
    let (xs, run, counted) = c.count-count.ensures.ran in
    count_left c.args.bytes.now c.count-count.result (counted ∙ ap length (drained _ xs run ∙ c.new.ensures)) (λ e. omega arith)

pub returns-in_default-3 : goal.returns-in_default-3
returns-in_default-3 c =
    let (xs, run, counted) = c.count-count.ensures.ran in
    count_wrong c.args.bytes.now c.count-count.result (counted ∙ ap length (drained _ xs run ∙ c.new.ensures)) (λ a b. omega arith)
