use Rattle.std.proofs.Common.{Some, None, ap, ◌∙◌, arith, rules}
use Rattle.evaluator.specs.Reckoning.{told}
use Rattle.evaluator.proofs.Following.{passed_on}
use Rattle.evaluator.proofs.Reckoned.{deeper, at_constant, at_own_piece, at_own, other_long, other_legible, other_halts, other_told, negation_legible, negation_halts, negation_told, left_reads, left_halts, right_reads, right_halts, both_told, at_none}
use Rattle.evaluator.proofs.view.View.+nested.Goals as goal

pub number_at-requires : goal.number_at-requires
number_at-requires t c = let k = (at_constant c.args.self.now c.args.depth c.args.at.now c.requires c.code-code.ensures c.in-16.is).0 in omega arith

pub returns-in-16 : goal.returns-in-16
returns-in-16 t c = let k = (at_constant c.args.self.now c.args.depth c.args.at.now c.requires c.code-code.ensures c.in-16.is).1 in search (rules, k)

pub returns-in-17 : goal.returns-in-17
returns-in-17 t c = let k = at_own_piece c.args.self.now c.args.depth c.args.at.now c.requires c.code-code.ensures c.in-17.is in search (rules, k)

pub bounds-code-here-in-18 : goal.bounds-code-here-in-18
bounds-code-here-in-18 t c = let k = (at_own c.args.self.now c.args.depth c.args.at.now c.requires c.code-code.ensures c.in-18.is).0 in omega arith

pub returns-in-18 : goal.returns-in-18
returns-in-18 t c = let k = (at_own c.args.self.now c.args.depth c.args.at.now c.requires c.code-code.ensures c.in-18.is).1 in search (rules, k)

pub bounds-code-here-in-19 : goal.bounds-code-here-in-19
bounds-code-here-in-19 t c = let k = other_long c.args.self.now c.args.depth c.args.at.now c.requires c.code-code.ensures c.in-19.is in omega arith

pub nested-requires : goal.nested-requires
nested-requires t c = let d = deeper c.args.self.now c.args.depth c.args.at.now c.requires c.code-code.ensures in (omega arith, other_legible c.args.self.now c.args.depth c.args.at.now c.requires c.code-code.ensures c.in-19.is)

pub returns-in_err-named-in-19 : goal.returns-in_err-named-in-19
returns-in_err-named-in-19 t c =
    rw (passed_on _ _ c.from_residual.ensures.1) (other_halts c.args.self.now c.args.depth c.args.at.now c.requires c.code-code.ensures c.in-19.is c.in_err-named-in-19.ensures)

pub returns-in-Some : goal.returns-in-Some
returns-in-Some t c =
    ap (λ r. told r c.nested.new.at) c.read-in-19.ensures ∙ other_told c.args.self.now c.args.depth c.args.at.now c.requires c.code-code.ensures c.in-19.is c.in_ok-named-in-19.ensures (Some c.in-Some.piece) (search rules)

pub returns-in_default-cell_named : goal.returns-in_default-cell_named
returns-in_default-cell_named t c =
    other_told c.args.self.now c.args.depth c.args.at.now c.requires c.code-code.ensures c.in-19.is c.in_ok-named-in-19.ensures None (search rules)

pub nested-requires-in-20-to-28 : goal.nested-requires-in-20-to-28
nested-requires-in-20-to-28 t c = let d = deeper c.args.self.now c.args.depth c.args.at.now c.requires c.code-code.ensures in (omega arith, left_reads c.args.self.now c.args.depth c.args.at.now c.requires c.code-code.ensures (search rules))

pub returns-in_err-left-in-20-to-28 : goal.returns-in_err-left-in-20-to-28
returns-in_err-left-in-20-to-28 t c =
    rw (passed_on _ _ c.from_residual-in_err-left-in-20-to-28.ensures.1) (left_halts c.args.self.now c.args.depth c.args.at.now c.requires c.code-code.ensures (search rules) c.in_err-left-in-20-to-28.ensures)

pub nested-requires-in-20-to-28-2 : goal.nested-requires-in-20-to-28-2
nested-requires-in-20-to-28-2 t c =
    let d = deeper c.args.self.now c.args.depth c.args.at.now c.requires c.code-code.ensures in
    (omega arith, right_reads c.args.self.now c.args.depth c.args.at.now c.requires c.code-code.ensures (search rules) c.in_ok-left-in-20-to-28.ensures)

pub returns-in_err-right-in-20-to-28 : goal.returns-in_err-right-in-20-to-28
returns-in_err-right-in-20-to-28 t c =
    rw (passed_on _ _ c.from_residual-in_err-right-in-20-to-28.ensures.1) (right_halts c.args.self.now c.args.depth c.args.at.now c.requires c.code-code.ensures (search rules) c.in_ok-left-in-20-to-28.ensures c.in_err-right-in-20-to-28.ensures)

pub returns-in-Some-computed : goal.returns-in-Some-computed
returns-in-Some-computed t c =
    let k = both_told c.args.self.now c.args.depth c.args.at.now c.requires c.code-code.ensures (search rules) c.in_ok-left-in-20-to-28.ensures c.in_ok-right-in-20-to-28.ensures (Some c.in-Some-computed.value) (search rules) in
    search (rules, k)

pub returns-in_default-computed : goal.returns-in_default-computed
returns-in_default-computed t c =
    let k = both_told c.args.self.now c.args.depth c.args.at.now c.requires c.code-code.ensures (search rules) c.in_ok-left-in-20-to-28.ensures c.in_ok-right-in-20-to-28.ensures None (search rules) in
    search (rules, k)

pub nested-requires-in-29 : goal.nested-requires-in-29
nested-requires-in-29 t c = let d = deeper c.args.self.now c.args.depth c.args.at.now c.requires c.code-code.ensures in (omega arith, negation_legible c.args.self.now c.args.depth c.args.at.now c.requires c.code-code.ensures c.in-29.is)

pub returns-in_err-value-in-29 : goal.returns-in_err-value-in-29
returns-in_err-value-in-29 t c =
    rw (passed_on _ _ c.from_residual-in_err-value-in-29.ensures.1) (negation_halts c.args.self.now c.args.depth c.args.at.now c.requires c.code-code.ensures c.in-29.is c.in_err-value-in-29.ensures)

pub returns-in_ok-value-in-29 : goal.returns-in_ok-value-in-29
returns-in_ok-value-in-29 t c =
    let k = negation_told c.args.self.now c.args.depth c.args.at.now c.requires c.code-code.ensures c.in-29.is c.in_ok-value-in-29.ensures in
    search (rules, k)

pub unreachable-requires : goal.unreachable-requires
unreachable-requires t c = at_none c.args.self.now c.args.depth c.args.at.now c.requires c.code-code.ensures (λ l u. omega arith)
