use Rattle.std.proofs.Common.{Ok, sym, ap, ◌∙◌}
use Rattle.evaluator.specs.Trails.{held}
use Rattle.evaluator.proofs.Following.{passed_on}
use Rattle.evaluator.proofs.Trying.{try_legible, try_halts, try_refuses, try_passes}
use Rattle.evaluator.proofs.turn.Turn.discard.Goals as goal

pub wanted-requires : goal.wanted-requires
wanted-requires g c = try_legible c.args.self.now (held c.args.changes.now) c.args.kind c.args.message c.transitions-found-items.result.now c.transitions-found-items.ensures _ c.loop-found.found-index c.loop-found-test.true

pub returns-in_err-wanted : goal.returns-in_err-wanted
returns-in_err-wanted g c = passed_on _ _ c.from_residual.ensures.1 ∙ try_halts c.args.self.now (held c.args.changes.now) c.args.kind c.args.message c.transitions-found-items.result.now c.transitions-found-items.ensures _ c.loop-found.found-index c.loop-found-test.true _ c.in_err-wanted.ensures ∙ c.loop-found.invariant

pub returns-then-branch : goal.returns-then-branch
returns-then-branch g c = try_refuses c.args.self.now (held c.args.changes.now) c.args.kind c.args.message c.transitions-found-items.result.now c.transitions-found-items.ensures _ c.loop-found.found-index c.loop-found-test.true (ap Ok (sym c.if-branch.true) ∙ c.in_ok-wanted.ensures) ∙ c.loop-found.invariant

pub loop-found-preserved : goal.loop-found-preserved
loop-found-preserved g c = try_passes c.args.self.now (held c.args.changes.now) c.args.kind c.args.message c.transitions-found-items.result.now c.transitions-found-items.ensures _ c.loop-found.found-index c.loop-found-test.true (ap Ok (sym c.if-branch.false) ∙ c.in_ok-wanted.ensures) ∙ c.loop-found.invariant
