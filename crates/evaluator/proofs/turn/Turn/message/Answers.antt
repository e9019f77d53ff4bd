use Rattle.std.proofs.Common.{◌∙◌, arith, rules}
use Rattle.evaluator.proofs.Messages.{none_told, one_halts, one_told, first_halts, second_reads, second_halts, two_told}
use Rattle.evaluator.proofs.Following.{passed_on}
use Rattle.evaluator.proofs.turn.Turn.message.Goals.{in-0, in-1+in_ok-first-in-1, in_default+in_ok-first-in_default+in_ok-second-in_default}
use Rattle.evaluator.proofs.turn.Turn.message.Goals as goal

pub returns-in_err-first-in-1 : goal.returns-in_err-first-in-1
returns-in_err-first-in-1 g c =
    passed_on _ _ c.from_residual.ensures.1 ∙ one_halts c.args.self.now c.args.trails.now c.args.signal c.args.at c.requires c.parameters.ensures c.in-1.is c.in_err-first-in-1.ensures

pub returns-in_err-first-in_default : goal.returns-in_err-first-in_default
returns-in_err-first-in_default g c =
    passed_on _ _ c.from_residual-in_err-first-in_default.ensures.1 ∙ first_halts c.args.self.now c.args.trails.now c.args.signal c.args.at c.requires c.parameters.ensures (omega arith) c.in_err-first-in_default.ensures

pub expression-requires-in_default-2 : goal.expression-requires-in_default-2
expression-requires-in_default-2 g c =
    second_reads c.args.self.now c.args.trails.now c.args.signal c.args.at c.requires c.parameters.ensures (omega arith) c.in_ok-first-in_default.ensures

pub returns-in_err-second-in_default : goal.returns-in_err-second-in_default
returns-in_err-second-in_default g c =
    passed_on _ _ c.from_residual-in_err-second-in_default.ensures.1 ∙ second_halts c.args.self.now c.args.trails.now c.args.signal c.args.at c.requires c.parameters.ensures (omega arith) c.in_ok-first-in_default.ensures c.in_err-second-in_default.ensures

pub returns : goal.returns
returns g c =
    elim c.match-parameters.branch [
      | in-0 w ↦ let k = none_told c.args.self.now c.args.trails.now c.args.signal c.args.at c.requires c.parameters.ensures w.in-0.is in search (rules, k, w.first-is)
      | in-1+in_ok-first-in-1 w ↦ let k = one_told c.args.self.now c.args.trails.now c.args.signal c.args.at c.requires c.parameters.ensures w.in-1.is w.in_ok-first-in-1.ensures in search (rules, k, w.first-is)
      | in_default+in_ok-first-in_default+in_ok-second-in_default w ↦
          let k = two_told c.args.self.now c.args.trails.now c.args.signal c.args.at c.requires c.parameters.ensures (omega arith) w.in_ok-first-in_default.ensures w.in_ok-second-in_default.ensures in search (rules, k, w.first-is)
    ]
