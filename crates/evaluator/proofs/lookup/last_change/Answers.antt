use Rattle.std.proofs.Common.{◌&&◌, ◌==◌, rules, tests}
use Rattle.std.proofs.lemmas.Iterator.Search.{find_from_yields_List}
use Rattle.std.proofs.lemmas.Iterator.Adapters.{YieldsList-from_rev_slice}
use Rattle.evaluator.proofs.Looking.{found_last}
use Rattle.evaluator.proofs.lookup.last_change.Goals as goal

pub returns : goal.returns
returns c =
    let k = find_from_yields_List (λ d. d.piece == c.args.piece && d.number == c.args.number) _ _ c.find.result c.find.ensures.ran (YieldsList-from_rev_slice c.args.changes.now cc) (λ x b q k. search (rules, tests)) in
    let f = found_last c.args.changes.now c.args.piece c.args.number in
    search (rules, k, f)
