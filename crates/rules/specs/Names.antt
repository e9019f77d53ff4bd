-- Which pieces, numbers and transitions a level has.
use Rattle.std.specs.Prelude.{ℕ, cond, length, ℤ, pos, negsuc, Some, None, Option, ◌==◌, nat_lt}
use Rattle.level.specs.Syntax.{Piece, Level}
use Rattle.level.specs.Sound.{numbers_of}
use Rattle.level.specs.Places.{Placed, placed}
use Rattle.level.specs.Tables.{nth}

-- one after the other, as far as there is something
abbrev pub then : {A B : Type 0} → Option A → (A → Option B) → Option B
then None k = None
then (Some x) k = k x

-- the piece that a value names
abbrev pub piece_named : Level → ℤ → Option ℕ
piece_named L (pos n) = cond (nat_lt n (length L.pieces)) (Some n) None
piece_named L (negsuc n) = None

-- how many numbers a piece has
abbrev pub numbers_in : Level → Option Piece → ℕ
numbers_in L None = 0
numbers_in L (Some x) = numbers_of L.kinds x.kind

-- the piece that a value names, if it has number a
abbrev pub cell_named : Level → ℤ → ℕ → Option ℕ
cell_named L v a = then (piece_named L v) (λ q. cond (nat_lt a (numbers_in L (nth L.pieces q))) (Some q) None)

-- transition n, if it belongs to the kind (class) of piece p
abbrev pub transition_of : Level → ℕ → ℕ → Option Placed
transition_of L p n = then (nth L.pieces p) (λ x. then (nth (placed L) n) (λ t. cond (t.kind == x.kind) (Some t) None))
