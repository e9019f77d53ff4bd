use Rattle.std.proofs.Common.{◌≡◌, ◌-◌, get_or, ap, ◌∙◌, arith}
use Rattle.level.specs.Levels.{code}
use Rattle.evaluator.specs.Meeting.{around, steps_at}
use Rattle.evaluator.specs.Standing.{effect_at}
use Rattle.evaluator.specs.Trails.{lists}
use Rattle.evaluator.proofs.Keeping.{places_kept}
use Rattle.evaluator.proofs.Stated.{refused_or}
use Rattle.evaluator.proofs.Effected.{effect_left, head_reads, effect_halts, tail_reads, effect_goes}
use Rattle.evaluator.proofs.turn.Turn.+statements.Goals as goal

pub statement-requires : goal.statement-requires
statement-requires g t c =
    let z : get_or (code c.args.self.now.level.now) c.args.at 0 ≡ 0 → ⊥ = λ e. c.if-code-at-eq0.false (ap (λ l. get_or l c.args.at 0) c.code.ensures ∙ e) in
    head_reads g.M.Mail c.args.self.now c.args.trails.now c.args.left c.args.at c.requires z

pub returns-in_err-next-clause-lists : goal.returns-in_err-next-clause-lists
returns-in_err-next-clause-lists g t c =
    let z : get_or (code c.args.self.now.level.now) c.args.at 0 ≡ 0 → ⊥ = λ e. c.if-code-at-eq0.false (ap (λ l. get_or l c.args.at 0) c.code.ensures ∙ e) in
    refused_or _ _ c.from_residual.ensures.1 (effect_halts g.M.Mail c.args.self.now c.args.trails.now c.args.left c.args.at c.requires z _ c.in_err-next.ensures.lists)

pub statements-requires : goal.statements-requires
statements-requires g t c κs within =
    let z : get_or (code c.args.self.now.level.now) c.args.at 0 ≡ 0 → ⊥ = λ e. c.if-code-at-eq0.false (ap (λ l. get_or l c.args.at 0) c.code.ensures ∙ e) in
    let k = effect_left g.M.Mail c.args.self.now c.args.trails.now c.args.left c.args.at c.requires z in
    (omega arith, (within, tail_reads g.M.Mail c.args.self.now c.args.trails.now c.args.left c.args.at c.requires z (lists c.statement.new.trails) c.in_ok-next.next c.in_ok-next.ensures.lists))

pub returns-clause-lists : goal.returns-clause-lists
returns-clause-lists g t c =
    let z : get_or (code c.args.self.now.level.now) c.args.at 0 ≡ 0 → ⊥ = λ e. c.if-code-at-eq0.false (ap (λ l. get_or l c.args.at 0) c.code.ensures ∙ e) in
    let v = c.statement.new.trails in
    c.statements.ensures.lists
    ∙ ap (λ p. steps_at (around g.M.Mail c.args.self.now p) (lists v) c.in_ok-next.next (effect_at c.args.self.now.level.now (c.args.left - 1) c.in_ok-next.next)) (places_kept c.args.trails.now v c.statement.ensures.kept)
    ∙ effect_goes g.M.Mail c.args.self.now c.args.trails.now c.args.left c.args.at c.requires z (lists v) c.in_ok-next.next c.in_ok-next.ensures.lists
