use Rattle.std.proofs.Common.{◌≡◌, suc, ◌+◌, ◌≤◌, List, length, cond, ltb, refl, ap, arith, rules, tests}
use Rattle.std.specs.List.{position_or_len}
use Rattle.std.proofs.lemmas.Iterator.{YieldsList-from_slice}
use Rattle.std.proofs.lemmas.Iterator.Search.{position_from_yields_List}
use Rattle.std.proofs.lemmas.List.Recursion.{is_position_or_len}
use Rattle.std.proofs.lemmas.List.Sums.{prefix_len-le-length}
use Rattle.mail.specs.declared.message.Message.{Message}
use Rattle.mail.specs.Urgent.{urgent_place}
use Rattle.mail.proofs.urgent.BySignalPlacing192.place.Goals as goal

pub returns : goal.returns
returns c =
    let m = c.args.message in
    let l : List Message = c.args.waiting.now in
    let greater = λ (x : Message). ltb m.signal x.signal in
    let found = position_from_yields_List greater _ _ c.position.result c.position.ensures.ran (YieldsList-from_slice l cc) (λ x b q k. search (rules, tests)) in
    let placed : urgent_place l m ≡ position_or_len greater l =
    is_position_or_len (λ xs. urgent_place xs m) greater refl (λ x xs. let e : suc (urgent_place xs m) ≡ 1 + urgent_place xs m = omega arith in ap (cond (greater x) 0) e) l in
    let within : position_or_len greater l ≤ length l = prefix_len-le-length _ l in
    let answered = c.unwrap_or.ensures in
    grind (arith, tests)
