use Rattle.std.proofs.Common.{sym, ap, ◌∙◌, w32, SFits, rules}
use Rattle.std.proofs.lemmas.Int.{to_z-of_z}
use Rattle.level.specs.Sound.{most_statements}
use Rattle.evaluator.specs.Meeting.{around, steps_at}
use Rattle.evaluator.specs.Standing.{effect_at}
use Rattle.evaluator.specs.Trails.{held, lists, places}
use Rattle.evaluator.proofs.Keeping.{places_kept}
use Rattle.evaluator.proofs.Stated.{refused_or}
use Rattle.evaluator.proofs.Trying.{guard_legible, effect_legible}
use Rattle.evaluator.proofs.Transiting.{transit_stops, transit_fails, transit_goes}
use Rattle.evaluator.proofs.turn.Turn.transit.Goals as goal

pub expression-requires : goal.expression-requires
expression-requires g c = guard_legible c.args.self.now (held c.args.trails.now.changes) c.args.number c.in-Some.found c.in-Some.ensures

pub returns-in_err-value-clause-lists : goal.returns-in_err-value-clause-lists
returns-in_err-value-clause-lists g c =
    refused_or _ _ c.from_residual-in_err-value.ensures.1 (transit_stops g.M.Mail c.args.self.now (places c.args.trails.now) c.args.number c.in-Some.found c.in-Some.ensures (lists c.args.trails.now) c.args.message (lists c.received.new.trails) c.in_ok-received.ensures.lists _ c.in_err-value.ensures)

pub returns-then-not-holds-clause-lists : goal.returns-then-not-holds-clause-lists
returns-then-not-holds-clause-lists g c =
    let f : SFits w32 c.in_ok-value.value = search rules in
    let z = simp to_z-of_z at c.if-not-holds.ensures in
    transit_fails g.M.Mail c.args.self.now (places c.args.trails.now) c.args.number c.in-Some.found c.in-Some.ensures (lists c.args.trails.now) c.args.message (lists c.received.new.trails) c.in_ok-received.ensures.lists c.in_ok-value.value _ c.in_ok-value.ensures (sym z)

pub effect-requires : goal.effect-requires
effect-requires g c = effect_legible c.args.self.now (held c.args.trails.now.changes) c.args.number c.in-Some.found c.in-Some.ensures

pub returns-clause-lists : goal.returns-clause-lists
returns-clause-lists g c =
    let f : SFits w32 c.in_ok-value.value = search rules in
    let z = simp to_z-of_z at c.if-not-holds.ensures in
    let v = c.received.new.trails in
    c.effect.ensures.lists
    ∙ ap (λ p. steps_at (around g.M.Mail c.args.self.now p) (lists v) c.in-Some.found.effect (effect_at c.args.self.now.level.now most_statements c.in-Some.found.effect)) (places_kept c.args.trails.now v c.received.ensures.kept)
    ∙ transit_goes g.M.Mail c.args.self.now (places c.args.trails.now) c.args.number c.in-Some.found c.in-Some.ensures (lists c.args.trails.now) c.args.message (lists c.received.new.trails) c.in_ok-received.ensures.lists c.in_ok-value.value _ c.in_ok-value.ensures (sym z)
