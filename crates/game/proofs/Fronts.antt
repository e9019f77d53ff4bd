-- The moves at the front of some bytes.
use Rattle.std.proofs.Common.{◌≡◌, ℕ, Bool, true, false, cond, eqb, List, [], ◌∷◌, Some, None, Option, refl}
use Rattle.rules.specs.declared.moves.Move.{Move}
use Rattle.rules.specs.Calls.{move_of, moves_of, front_moves}
use Rattle.rules.specs.Names.{then}

-- bytes that are moves throughout are those at their front
one_front : (b : Bool) (o : Option (List Move)) (m : Move) (fs ms : List Move)
    → cond b (then o (λ ns. Some (m ∷ ns))) None ≡ Some ms → ((ns : List Move) → o ≡ Some ns → fs ≡ ns) → cond b (m ∷ fs) [] ≡ ms
one_front true (Some ns) m fs ms e f = let k = f ns refl in cc
one_front true None m fs ms e f = cc
one_front false o m fs ms e f = cc

pub moves_front : (bs : List ℕ) (ms : List Move) → moves_of bs ≡ Some ms → front_moves bs ≡ ms
moves_front [] ms e = cc
moves_front (c ∷ []) ms e = cc
moves_front (c ∷ p ∷ []) ms e = cc
moves_front (c ∷ p ∷ t ∷ bs) ms e = one_front (eqb c 0x51) (moves_of bs) (move_of p t) (front_moves bs) ms e (moves_front bs)
