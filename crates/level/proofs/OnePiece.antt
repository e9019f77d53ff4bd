-- One piece, as the code reads it, and the loop over the pieces.
use Rattle.std.proofs.Common.{◌≡◌, ℕ, ◌+◌, ◌<◌, ◌≤◌, List, [], ◌∷◌, ◌++◌, map, length, get_or, drop, ℤ, Ok, Err, Result, sym, refl, ap, ◌∙◌, arith, length-append, length-drop}
use Rattle.std.proofs.lemmas.List.{length-map, map-append}
use Rattle.level.specs.declared.entry.PieceEntry.{PieceEntry}
use Rattle.level.specs.declared.fault.OperandFault.{OperandFault}
use Rattle.level.specs.declared.fault.Reason.{Reason}
use Rattle.level.specs.declared.fault.Reason.TheVariants.{Operand}
use Rattle.level.specs.Entries.{kind_entry, piece_entry, starting}
use Rattle.level.specs.Law.{Bytes}
use Rattle.level.specs.Reading.{Read, got, then, at, read_starts, read_piece, read_pieces}
use Rattle.level.specs.Readers.{Gives, nothing, turn, opened}
use Rattle.level.specs.Tables.{entry_counts}
use Rattle.level.specs.Sound.{most_pieces, counts}
use Rattle.level.specs.Spelling.{piece}
use Rattle.level.specs.Syntax.{Kind, Start, Piece}
use Rattle.level.proofs.Fills.{Filled, ends, breaks, again, turn_at, turn_got, turn_in}
use Rattle.level.proofs.Operands.{Checked, value, passes, fails}
use Rattle.level.proofs.Limits.{limits}
use Rattle.level.proofs.Sections.{ShapedPiece, shaped_reads}
use Rattle.level.proofs.Steps.{spelled}
use Rattle.level.proofs.Turns.{stops, done, went, broke, goes_on}

module _ (cs : List ℕ) (n : ℕ) (bs l0 : List ℕ) (o : Gives nothing (opened 2 32 n bs) (Ok tt) l0) (limit : ℕ) (j : limit ≡ length cs) where
  abbrev W : Read Piece
  W = turn 2 32 n bs (read_piece cs bs)

  there : (2 ≤ length bs) × (n < 32) × (bs ≡ l0)
  there =
      let w = went nothing (opened 2 32 n bs) tt l0 o in
      let t = turn_got 2 32 n bs (got tt bs) w.0 l0 w.1 in
      (t.0, t.1, let e = t.2 in cc)

  begun : W ≡ read_piece cs l0
  begun = turn_in 2 32 n bs (read_piece cs bs) there.0 there.1 ∙ ap (read_piece cs) there.2

  pub kind_refused : (f : OperandFault) → Checked l0 1 0 limit (at l0 1) (Err f) → (w : Reason) → w ≡ Operand f → Gives (piece_entry cs) W (Err w) l0
  kind_refused f c w q = stops (piece_entry cs) W _ _ (begun ∙ fails l0 1 0 (length cs) (at l0 1) f (rw j at c) _) w l0 q refl

  module _ (k : ℕ) (c : Checked l0 1 0 limit (at l0 1) (Ok k)) (numbers : ℕ) (m : numbers ≡ get_or cs k 0) where
    abbrev its : List ℕ → Read (List Start)
    its x = read_starts numbers (length x + 2) x

    abbrev made_of : List Start → Piece
    made_of ss = record { kind = k; starts = ss }

    kind_is : k ≡ at l0 1
    kind_is = value l0 1 0 limit (at l0 1) k c

    kind_passed : W ≡ then (its (drop 2 l0)) (λ ss l. got (made_of ss) l)
    kind_passed =
        let h : 2 ≤ length l0 = rw there.2 at there.0 in
        let z : length (drop 2 l0) + 2 ≡ length l0 = let e = length-drop 2 l0 in omega arith in
        begun ∙ (passes l0 1 0 (length cs) (at l0 1) k (rw j at c) _ ∙ rw (← kind_is, ← m, z))

    module _ (x : List ℕ) (p : x ≡ drop 2 l0) where
      pub starts_refused : (e : Reason) (l : List ℕ) → Gives starting (its x) (Err e) l → (s : Result PieceEntry Reason) → s ≡ Err e → Gives (piece_entry cs) W s l
      starts_refused e l h s q = broke W its (λ ss l. got (made_of ss) l) x (drop 2 l0) kind_passed p starting (piece_entry cs) e l h s q

      pub piece_made : (row : List ℤ) (l : List ℕ) → Gives starting (its x) (Ok row) l → Gives (piece_entry cs) W (Ok (record { kind = k; numbers = numbers; starts = row })) l
      piece_made row l h =
          let w = goes_on W its (λ ss l. got (made_of ss) l) x (drop 2 l0) kind_passed p starting row l h in
          done (piece_entry cs) W (made_of w.0) l w.1 _ l (same (get_or cs k 0) row (starting w.0) m w.2) refl
        where
          same : (n : ℕ) (r s : List ℤ) → numbers ≡ n → r ≡ s → ◌≡◌ {A = PieceEntry} (record { kind = k; numbers = numbers; starts = r }) (record { kind = k; numbers = n; starts = s })
          same n r s p q = rw (p, q)

-- the table of kinds says how many numbers each has
pub entry_counts_map : (ks : List Kind) → entry_counts (map kind_entry ks) ≡ counts ks
entry_counts_map [] = refl
entry_counts_map (k ∷ ks) = ap (λ l. k.numbers ∷ l) (entry_counts_map ks)

-- the loop over the pieces; `bs₀` were its bytes
module _ (cs bs₀ : List ℕ) (table : List PieceEntry) (bs : List ℕ) where
  abbrev item : List Piece → List ℕ → Read Piece
  item _ = read_piece cs

  abbrev whole : Read (List Piece)
  whole = read_pieces cs bs₀

  abbrev Tabled : List PieceEntry → List Piece → Type 0
  Tabled rows ps = rows ≡ map (piece_entry cs) ps

  abbrev one : Read Piece
  one = turn 2 32 (length table) bs (read_piece cs bs)

  module _ (s : Filled 0x04 2 most_pieces item (Tabled table) whole bs) where
    beside : (r : Result PieceEntry Reason) (l : List ℕ) → Gives (piece_entry cs) one r l → Gives (piece_entry cs) (turn 2 most_pieces (length s.so_far) bs (read_piece cs bs)) r l
    beside r l g = turn_at (piece_entry cs) 2 32 most_pieces (length table) (length s.so_far) bs _ limits.pieces (ap length s.known ∙ length-map s.so_far (piece_entry cs)) r l g

    module _ (b : at bs 0 ≡ 0x04) where
      pub pieces_broke : (e : Reason) (l : List ℕ) → Gives (piece_entry cs) one (Err e) l → Gives nothing whole (Err e) l
      pieces_broke e l g = breaks 0x04 2 most_pieces item (Tabled table) whole bs s (piece_entry cs) b nothing e l (beside (Err e) l g)

      module _ (v : PieceEntry) (l : List ℕ) (g : Gives (piece_entry cs) one (Ok v) l) where
        pub pieces_again : (after : List PieceEntry) → after ≡ table ++ (v ∷ []) → Filled 0x04 2 most_pieces item (Tabled after) whole l
        pieces_again after p = again 0x04 2 most_pieces item (Tabled table) whole bs s (piece_entry cs) b (Tabled after) v l (beside (Ok v) l g) (λ x h _ e q.
            p ∙ rw (s.known, q) (sym (map-append (piece_entry cs) s.so_far (x ∷ []))))

        pub pieces_less : Bytes bs → length l < length bs
        pieces_less y =
            let w = went (piece_entry cs) one v l g in
            let t = turn_got 2 32 (length table) bs (read_piece cs bs) w.0 l w.1 in
            let e = ap length (spelled (ShapedPiece cs) piece bs _ (shaped_reads cs bs y t.0 b) w.0 l t.2) ∙ length-append (piece w.0) l in
            omega arith

    pub pieces_done : (at bs 0 ≡ 0x04 → ⊥) → whole ≡ got s.so_far bs
    pieces_done h = ends 0x04 2 most_pieces item (Tabled table) whole bs s h
