use Rattle.std.proofs.Common.{◌≡◌, length, arith, w32, SFits, rules}
use Rattle.std.proofs.lemmas.Int.{to_z-of_z}
use Rattle.evaluator.specs.Rows.{row_of}
use Rattle.evaluator.proofs.Cells.{number_written}
use Rattle.evaluator.proofs.table.Table.write.Goals as goal

pub returns-clause-numbers : goal.returns-clause-numbers
returns-clause-numbers c =
    let eight : length (row_of c.args.self.now c.args.change.piece).numbers ≡ 8 = omega arith in
    let fits : SFits w32 c.args.change.value = search rules in
    number_written c.args.self.now c.args.change (omega arith) (omega arith) eight _ (to_z-of_z w32 c.args.change.value fits)
