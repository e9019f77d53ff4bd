-- The operator of a command byte.
use Rattle.std.specs.Prelude.{ℕ, ℤ, Some, None, Option}
use Rattle.level.specs.Reading.{Form, a_constant, an_own_piece, an_own, an_other, a_binary, a_negation, form}
use Rattle.rules.specs.Arithmetic.{computed}

abbrev pub applied : Option Form → ℤ → ℤ → Option ℤ
applied None v w = None
applied (Some a_constant) v w = None
applied (Some an_own_piece) v w = None
applied (Some an_own) v w = None
applied (Some an_other) v w = None
applied (Some (a_binary op)) v w = computed op v w
applied (Some a_negation) v w = None

abbrev pub result_of : ℕ → ℤ → ℤ → Option ℤ
result_of b v w = applied (form b) v w
