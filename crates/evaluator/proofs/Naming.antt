-- Values that name no piece.
use Rattle.std.proofs.Common.{◌≡◌, ℕ, ◌<◌, ◌≤◌, false, length, ℤ, pos, negsuc, Ok, Err, None, Result, OkIff, is_ok, ⊎_elim, refl, arith}
use Rattle.std.proofs.lemmas.Bool.{le-ltb, cases_lt}
use Rattle.std.specs.Int.{FitsUnsignedBits}
use Rattle.level.specs.Syntax.{Level}
use Rattle.rules.specs.Names.{piece_named}

-- one that is no byte, in a level with so few pieces
pub no_byte : (L : Level) (v : ℤ) → length L.pieces ≤ 32 → (FitsUnsignedBits 8 v → ⊥) → None ≡ piece_named L v
no_byte L (negsuc n) few h = refl
no_byte L (pos n) few h =
    let m : length L.pieces ≤ n = ⊎_elim (λ (k : n < 256). absurd (h k)) (λ (k : 256 ≤ n). omega arith) (cases_lt n 256) in
    rw (le-ltb n (length L.pieces) m) refl

pub refused_for : {T E P : Type 0} (x : T) (r : Result T E) → OkIff r P x → is_ok r ≡ false → P → ⊥
refused_for x (Ok y) h e p = absurd (let z : ◌≡◌ {A = ℕ} 0 1 = cc in omega arith)
refused_for x (Err y) h e p = h p
