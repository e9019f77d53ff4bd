-- The transition of a number that belongs to a piece's kind, as the index has it.
use Rattle.std.proofs.Common.{◌≡◌, ℕ, Bool, true, false, cond, eqb, map, Some, None, Option, refl, ap, arith}
use Rattle.level.specs.declared.entry.PieceEntry.{PieceEntry}
use Rattle.level.specs.declared.entry.TransitionEntry.{TransitionEntry}
use Rattle.level.specs.Entries.{piece_entry, transition_entry}
use Rattle.level.specs.Places.{Placed, placed}
use Rattle.level.specs.Sound.{counts}
use Rattle.level.specs.Syntax.{Piece, Level}
use Rattle.level.specs.Tables.{nth}
use Rattle.rules.specs.Names.{then, transition_of}
use Rattle.evaluator.proofs.Trying.{nth_of}
use Rattle.game.specs.Judged.{entry_of}

-- a transition that the index has stands in the level
pub entry_some : (o : Option Placed) (f : TransitionEntry) → Some f ≡ entry_of o → (x : Placed) × (o ≡ Some x) × (f ≡ transition_entry x)
entry_some None f e = absurd (let z : ◌≡◌ {A = ℕ} 0 1 = cc in omega arith)
entry_some (Some x) f e = (x, refl, cc)

pub piece_some : (L : Level) (p : ℕ) (entry : PieceEntry) → Some entry ≡ nth (map (piece_entry (counts L.kinds)) L.pieces) p
    → (x : Piece) × (nth L.pieces p ≡ Some x) × (entry.kind ≡ x.kind)
piece_some L p entry e = let k = nth_of (piece_entry (counts L.kinds)) L.pieces p entry e in (k.0, k.1, ap (λ z. z.kind) k.2)

-- a transition of a piece stands in the level, and the piece is one of its pieces
placed_of : (o : Option Piece) (q : Option Placed) (x : Placed) → then o (λ y. then q (λ t. cond (eqb t.kind y.kind) (Some t) None)) ≡ Some x → (q ≡ Some x) × ((y : Piece) × (o ≡ Some y))
placed_of None q x e = absurd (let z : ◌≡◌ {A = ℕ} 0 1 = cc in omega arith)
placed_of (Some y) None x e = absurd (let z : ◌≡◌ {A = ℕ} 0 1 = cc in omega arith)
placed_of (Some y) (Some t) x e = (go (eqb t.kind y.kind) e, (y, refl))
  where
    go : (b : Bool) → cond b (Some t) None ≡ Some x → Some t ≡ Some x
    go true k = k
    go false k = absurd (let z : ◌≡◌ {A = ℕ} 0 1 = cc in omega arith)

pub stands_in : (L : Level) (p n : ℕ) (x : Placed) → transition_of L p n ≡ Some x → nth (placed L) n ≡ Some x
stands_in L p n x e = (placed_of (nth L.pieces p) (nth (placed L) n) x e).0

pub has_piece : (L : Level) (p n : ℕ) (x : Placed) → transition_of L p n ≡ Some x → (y : Piece) × (nth L.pieces p ≡ Some y)
has_piece L p n x e = (placed_of (nth L.pieces p) (nth (placed L) n) x e).1
