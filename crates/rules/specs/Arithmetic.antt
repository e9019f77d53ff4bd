-- What an operator makes of two numbers.
use Rattle.std.specs.Prelude.{zero, suc, Bool, true, false, cond, not, ◌&&◌, ◌||◌, ℤ, pos, negsuc, ◌+ℤ◌, ◌-ℤ◌, ◌*ℤ◌, Some, None, Option, int_div, int_lt, int_rem}
use Rattle.std.specs.Int.{int_wrap, w32}
use Rattle.level.specs.Syntax.{Operator, sum, difference, product, quotient, remainder, equal, less, and, or}

-- true is any number but 0
abbrev pub holds : ℤ → Bool
holds (pos zero) = false
holds (pos (suc n)) = true
holds (negsuc n) = true

abbrev pub truth : Bool → ℤ
truth b = cond b (pos 1) (pos 0)

-- a number by another; by 0 there is none
abbrev pub divided : ℤ → ℤ → Option ℤ
divided w z = cond (holds w) (Some z) None

-- `int_wrap w32` takes a result modulo 2^32 into the range of the signed numbers of 32 bits. `int_div` drops the fraction towards
-- zero and `int_rem` has the dividend's sign, so that only -2147483648 by -1 has a quotient that wraps
abbrev pub computed : Operator → ℤ → ℤ → Option ℤ
computed sum v w = Some (int_wrap w32 (v +ℤ w))
computed difference v w = Some (int_wrap w32 (v -ℤ w))
computed product v w = Some (int_wrap w32 (v *ℤ w))
computed quotient v w = divided w (int_wrap w32 (int_div v w))
computed remainder v w = divided w (int_rem v w)
computed equal v w = Some (truth (not (int_lt v w) && not (int_lt w v)))
computed less v w = Some (truth (int_lt v w))
computed and v w = Some (truth (holds v && holds w))
computed or v w = Some (truth (holds v || holds w))
