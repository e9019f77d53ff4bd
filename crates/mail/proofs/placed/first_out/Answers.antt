use Rattle.std.proofs.Common.{arith}
use Rattle.mail.proofs.Laying.{remove_more, remove_all}
use Rattle.mail.proofs.placed.first_out.Goals as goal

pub loop-i-preserved : goal.loop-i-preserved
loop-i-preserved c = remove_more c.args.messages.now _ c.loop-i.i c.requires c.loop-i.invariant _ (omega arith)

pub returns : goal.returns
returns c = remove_all c.args.messages.now _ c.loop-i.i c.requires c.loop-i.invariant (omega arith)
