-- The number and the byte of a refusal.
use Rattle.std.specs.Prelude.{ℕ}
use Rattle.level.specs.declared.fault.Reason.{Reason}
use Rattle.level.specs.declared.fault.Reason.TheVariants.{TooLong, Truncated, NotCommand, Operand, TooDeep, TooManyStatements}
use Rattle.level.specs.declared.fault.LevelFault.{LevelFault}

abbrev pub number_of_reason : Reason → ℕ
number_of_reason TooLong = 10
number_of_reason Truncated = 11
number_of_reason NotCommand = 12
number_of_reason (Operand f) = 13
number_of_reason TooDeep = 14
number_of_reason TooManyStatements = 14

-- A refusal of a level carries its number and the byte that it names.
abbrev pub number : LevelFault → ℕ
number f = number_of_reason f.reason

abbrev pub byte : LevelFault → ℕ
byte f = f.byte
