-- The law of the level format. Reading is not its own judge: it is held to spelling and soundness.
use Rattle.std.specs.Prelude.{◌≡◌, ℕ, ◌<◌, ◌≤◌, List, ◌++◌, length, Ok, Err, ◌≢◌, slice_index}
use Rattle.level.specs.declared.fault.LevelFault.{LevelFault}
use Rattle.level.specs.Syntax.{Level}
use Rattle.level.specs.Spelling.{level}
use Rattle.level.specs.Sound.{Each, Sound, most_bytes}
use Rattle.level.specs.Faults.{number}
use Rattle.level.specs.Reading.{read}
use Rattle.level.specs.Places.{placed, Stands}

abbrev pub Bytes : List ℕ → Type 0
Bytes bs = (k : ℕ) → slice_index bs k < 256

pub record LevelLaw : Type 0 where
  -- bytes that are accepted spell a sound level
  pub faithful : (bs : List ℕ) (L : Level) → Bytes bs → read bs ≡ Ok L → (level L ≡ bs) × Sound L
  -- what a sound level spells is accepted, and reading gives that level back
  pub complete : (L : Level) → Sound L → read (level L) ≡ Ok L
  -- each guard and each effect stands at its place
  pub stands : (L : Level) → Sound L → Each (Stands L.signals (level L)) (placed L)
  -- a refusal but for missing bytes is settled by the bytes up to it: whatever follows, it stays, so it is the first from the left
  pub settled : (bs cs : List ℕ) (f : LevelFault) → read bs ≡ Err f → (number f ≢ 11) → length (bs ++ cs) ≤ most_bytes → read (bs ++ cs) ≡ Err f
