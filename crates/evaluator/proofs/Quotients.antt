-- A quotient of numbers of 32 bits, wrapped.
use Rattle.std.proofs.Common.{◌≡◌, ℕ, zero, suc, ◌/◌, ◌<◌, ℤ, pos, negsuc, neg_ℤ, sym, refl, ap, mod-eq_of_lt, div-le_self, arith, w32, SFits, to_z, of_z}
use lib.Signed.{quot_z}
use Rattle.std.specs.Int.{int_wrap}

pos_wrapped : (n : ℕ) → n < 4294967296 → to_z w32 (of_z w32 (pos n)) ≡ int_wrap w32 (pos n)
unfolding int_wrap
pos_wrapped n h = ap (to_z w32) (sym (mod-eq_of_lt h))

neg_wrapped : (n : ℕ) → n < 4294967296 → to_z w32 (of_z w32 (neg_ℤ (pos n))) ≡ int_wrap w32 (neg_ℤ (pos n))
unfolding int_wrap
neg_wrapped zero h = refl
neg_wrapped (suc n) h = ap (to_z w32) (omega arith)

pub quotient_wrapped : (v w : ℤ) → SFits w32 v → to_z w32 (of_z w32 (quot_z v w)) ≡ int_wrap w32 (quot_z v w)
quotient_wrapped (pos a) (pos b) f = let k = div-le_self a b in pos_wrapped (a / b) (omega arith)
quotient_wrapped (pos a) (negsuc b) f = let k = div-le_self a (suc b) in neg_wrapped (a / suc b) (omega arith)
quotient_wrapped (negsuc a) (pos b) f = let k = div-le_self (suc a) b in neg_wrapped (suc a / b) (omega arith)
quotient_wrapped (negsuc a) (negsuc b) f = let k = div-le_self (suc a) (suc b) in pos_wrapped (suc a / suc b) (omega arith)
