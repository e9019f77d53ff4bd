-- The worked cases hold, by computing.
use Rattle.std.proofs.Common.{refl}
use Rattle.std.specs.Int.{int_wrap}
use Rattle.level.specs.Sound.{deepest, most_statements, most_signals, most_kinds, most_transitions, most_pieces, most_bytes}
use Rattle.rules.specs.Cases.{All, cases}

pub cases_hold : All cases
unfolding int_wrap deepest most_statements most_signals most_kinds most_transitions most_pieces most_bytes
cases_hold = ((refl, refl), ((refl, refl), ((refl, refl), ((refl, refl), ((refl, refl), (refl, (refl, (refl, (refl, (refl, (refl, (refl, (refl, ((refl, refl), ((refl, refl), ((refl, refl), ((refl, refl), ((refl, refl), tt))))))))))))))))))
