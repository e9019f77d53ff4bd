use Rattle.std.proofs.Common.{◌≡◌, ◌+◌, true, length, is_ok, Err, ap, sym, ◌∙◌, add-one, rules, arith}
use Rattle.std.specs.Iterator.Adapters.{enumerate_count, enumerate_source}
use Rattle.std.proofs.lemmas.Result.{err_from_is_err_and}
use Rattle.level.specs.Levels.{meaning}
use Rattle.level.proofs.Held.{held_sound}
use Rattle.rules.specs.Calls.{front_moves}
use Rattle.evaluator.specs.Listing.{moved_in, took_in}
use Rattle.evaluator.specs.Trails.{lists}
use Rattle.game.specs.Games.{means}
use Rattle.game.specs.Judged.{before, all_judged_by, with_trails}
use Rattle.game.proofs.Beats.{at_first, stops, goes_on, few_more, refused}
use Rattle.game.proofs.board.Game.judge_all.Goals as goal

pub loop-place-init : goal.loop-place-init
loop-place-init g c =
    let source : enumerate_source c.into_iter-place-iterator.result ≡ front_moves c.args.moves.now = search rules in
    let count : enumerate_count c.into_iter-place-iterator.result ≡ 0 = search rules in
    let first = at_first (moved_in c.new-listed.result) (took_in c.new-listed.result) (lists c.args.trails.now) c.new-listed.ensures.moved c.new-listed.ensures.took c.requires.empty in
    let few = c.requires.few in
    let changes = ap (λ t. length t.changes) c.requires.empty in
    let parcels = ap (λ t. length t.parcels) c.requires.empty in
    record {
      same = λ j. all_judged_by g.M.Mail.LIMIT (meaning c.args.level.now) (means g.M.Mail c.args.self.now) (first j) (c.requires.empty j) (count j) (source j);
      few = rw (source, count) (omega arith);
      changes = omega arith;
      parcels = omega arith;
      kept = search rules;
    }

pub loop-place-preserved : goal.loop-place-preserved
loop-place-preserved g c =
    let i = c.loop-place.invariant in
    let next = c.in-Some.ensures.steps in
    let ok : is_ok c.judge.result ≡ true = sym c.in_ok-map_err.ensures.variant in
    let t = lists c.loop-place.trails in
    let u = lists c.judge.new.trails in
    let limit = g.M.Mail.LIMIT in
    let L = meaning c.args.level.now in
    let G = means g.M.Mail c.args.self.now in
    let s = before c.loop-place.listed c.loop-place.trails in
    let at = enumerate_count c.loop-place.place-iterator in
    let left = enumerate_source c.next.new.self in
    let on = goes_on limit L G s t at c.in-Some.moving left c.judge.result u c.judge.ensures.lists ok in
    let few = few_more limit L G s t at c.in-Some.moving left c.judge.result u c.judge.ensures.lists ok (held_sound c.args.level.now) in
    let one = ap length next.0 in
    let (changes, parcels) = few in
    let counted : enumerate_count c.next.new.self ≡ at + 1 = next.2 in
    let before = i.few in
    let written = i.changes in
    let sent = i.parcels in
    record {
      same = (λ j. all_judged_by limit L G (c.judge.ensures.earlier ok j) u ((counted ∙ add-one at) j) left) ∙ sym on ∙ ap (all_judged_by limit L G s t at) (sym next.0) ∙ i.same;
      few = omega arith;
      changes = omega arith;
      parcels = omega arith;
      kept = search rules;
    }

pub returns-in_err-map_err-clause-lists : goal.returns-in_err-map_err-clause-lists
returns-in_err-map_err-clause-lists g c =
    let p = err_from_is_err_and c.from_residual.result c.from_residual.ensures.1 in
    let next = c.in-Some.ensures.steps in
    let (w, is) = refused c.judge.result (sym c.in_err-map_err.ensures.variant) in
    let fault : c.in_err-map_err.field-0.0 ≡ record { place = c.in-Some.place; moving = c.in-Some.moving; why = w } = grind arith in
    let u = lists c.judge.new.trails in
    let limit = g.M.Mail.LIMIT in
    let L = meaning c.args.level.now in
    let G = means g.M.Mail c.args.self.now in
    let s = before c.loop-place.listed c.loop-place.trails in
    let t = lists c.loop-place.trails in
    let at = enumerate_count c.loop-place.place-iterator in
    ap (λ r. with_trails r u) (p.1 ∙ ap Err (p.2 ∙ fault ∙ (λ j. record { place = next.1 j; moving = c.in-Some.moving; why = w })))
    ∙ stops limit L G s t at c.in-Some.moving (enumerate_source c.next.new.self) c.judge.result u c.judge.ensures.lists w is
    ∙ ap (all_judged_by limit L G s t at) (sym next.0) ∙ c.loop-place.invariant.same
