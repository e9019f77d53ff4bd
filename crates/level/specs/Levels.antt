-- What a level in memory means: the level that its bytes spell.
use Rattle.std.specs.Prelude.{ℕ, zero, suc, List, length, None, Ok, Err, Option, Result}
use Rattle.level.specs.declared.fault.LevelFault.{LevelFault}
use Rattle.level.specs.declared.store.Level.{Level}
use Rattle.level.specs.Syntax as syntax
use Rattle.level.specs.Reading.{tree}
use Rattle.level.specs.Tables.{nth}

abbrev pub code : Level → List ℕ
code l = l.bytes.now

abbrev pub meaning : Level → syntax.Level
meaning l = tree (code l)

-- what loading answers: how many pieces there are, or the refusal
abbrev pub loaded : Result syntax.Level LevelFault → Result ℕ LevelFault
loaded (Ok L) = Ok (length L.pieces)
loaded (Err f) = Err f

-- how many parameters a signal has, if it is declared: signals are numbered from 1
abbrev pub signal_parameters : List ℕ → ℕ → Option ℕ
signal_parameters signals zero = None
signal_parameters signals (suc s) = nth signals s
