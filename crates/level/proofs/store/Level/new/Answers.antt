use Rattle.std.proofs.Common.{refl, rules}
use Rattle.level.specs.Sound.{most_signals, most_kinds, most_pieces, most_bytes}
use Rattle.level.proofs.store.Level.new.Goals as goal

pub invariant_of-result : goal.invariant_of-result
unfolding most_signals most_kinds most_pieces most_bytes
invariant_of-result c = record { octets = search rules; legible = refl; indexed = ∣ c.new.ensures ∣₁ }
