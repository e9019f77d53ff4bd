use Rattle.std.proofs.Common.{Ok, sym, ap, ◌∙◌, arith, rules}
use Rattle.level.specs.Contents.{contents}
use Rattle.level.specs.Levels.{loaded}
use Rattle.level.proofs.Loading.{level_law, too_long, refused, found, legible, indexed, pieces_counted}
use Rattle.level.proofs.store.Level.load.Goals as goal

pub returns-then-total-gt8192 : goal.returns-then-total-gt8192
returns-then-total-gt8192 c =
    let k = too_long c.args.bytes.now (omega arith) in
    record { answer = rw k; after = rw k; law = level_law }

pub invariant_of-self : goal.invariant_of-self
invariant_of-self c =
    let s = found c.args.bytes.now (omega arith) _ c.in_default.ensures.read.gives (contents c.read.new.self) c.in_default.ensures.index in
    record { octets = search rules; legible = legible _ _ s; indexed = ∣ indexed _ _ s ∣₁ }

pub returns : goal.returns
returns c =
    let s = found c.args.bytes.now (omega arith) _ c.in_default.ensures.read.gives (contents c.read.new.self) c.in_default.ensures.index in
    record {
      answer = ap Ok (c.len-pieces.ensures.value ∙ pieces_counted _ _ s) ∙ sym (ap loaded s.reads);
      after = rw s.reads;
      law = level_law;
    }

pub returns-in-Err : goal.returns-in-Err
returns-in-Err c =
    let k = refused c.args.bytes.now (omega arith) _ _ c.in-Err.ensures.read.gives in
    let stays = c.in-Err.ensures.read.stays in
    record { answer = search (rules, k, stays); after = rw k; law = level_law }
