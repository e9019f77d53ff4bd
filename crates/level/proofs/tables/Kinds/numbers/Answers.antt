use Rattle.std.proofs.Common.{◌≡◌, slice_get, MatchOption, rules}
use Rattle.std.specs.Option.{option_copied}
use Rattle.std.proofs.lemmas.Option.{gets}
use Rattle.level.proofs.Listing.{counts_found}
use Rattle.level.proofs.tables.Kinds.numbers.Goals as goal

pub returns : goal.returns
returns c =
    let found : option_copied c.get.result ≡ slice_get c.args.self.now.entries.items c.args.kind = search (rules, gets) in
    let m : MatchOption c.get.result (c.map_or.result ≡ 0) (λ x. c.map_or.result ≡ x.now.numbers) = search rules in
    let e = counts_found c.args.self.now.entries.items c.args.kind c.get.result found c.map_or.result m in
    record { value = e; small = rw e (c.args.self.now.small c.args.kind) }
