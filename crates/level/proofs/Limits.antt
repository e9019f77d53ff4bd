-- The limits of a level, as the code's tables have them.
use Rattle.std.proofs.Common.{◌≡◌, refl}
use Rattle.level.specs.Sound.{most_signals, most_kinds, most_transitions, most_pieces, most_bytes}

pub record Limits : Type 0 where
  pub signals : 32 ≡ most_signals
  pub kinds : 16 ≡ most_kinds
  pub transitions : 128 ≡ most_transitions
  pub pieces : 32 ≡ most_pieces
  pub bytes : 8192 ≡ most_bytes

pub limits : Limits
unfolding most_signals most_kinds most_transitions most_pieces most_bytes
limits = record { signals = refl; kinds = refl; transitions = refl; pieces = refl; bytes = refl }
