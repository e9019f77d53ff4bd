use Rattle.std.proofs.Common.{◌≡◌, drop}
use Rattle.mail.proofs.Laying.{laid}
use Rattle.mail.proofs.placed.first_out.Given as goal

abbrev pub invariant-loop-i : goal.invariant-loop-i
invariant-loop-i l = l.messages ≡ laid (drop 1 l.initial.messages) l.initial.messages l.i
