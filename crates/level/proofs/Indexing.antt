-- The whole index, as the code reads it section by section.
use Rattle.std.proofs.Common.{◌≡◌, ℕ, ◌+◌, ◌-◌, ◌≤◌, List, ◌++◌, map, length, Ok, Err, Result, sym, refl, ap, ◌∙◌, subst, arith, length-append}
use Rattle.level.specs.declared.entry.KindEntry.{KindEntry}
use Rattle.level.specs.declared.entry.PieceEntry.{PieceEntry}
use Rattle.level.specs.declared.entry.TransitionEntry.{TransitionEntry}
use Rattle.level.specs.declared.fault.Reason.{Reason}
use Rattle.level.specs.Entries.{Index, kind_entry, transition_entry, piece_entry, index_of}
use Rattle.level.specs.Law.{Bytes}
use Rattle.level.specs.Places.{in_kinds}
use Rattle.level.specs.Reading.{Read, got, bad, then, read_signals, read_kinds, read_pieces, read_end, read_sections}
use Rattle.level.specs.Readers.{Gives, Holds, nothing}
use Rattle.level.specs.Tables.{entry_counts}
use Rattle.level.specs.Sound.{Each, most_signals, counts}
use Rattle.level.specs.Spelling.{all, signal}
use Rattle.level.specs.Syntax.{Kind, Piece, Level}
use Rattle.level.proofs.OnePiece.{entry_counts_map}
use Rattle.level.proofs.Sections.{signals_reads}
use Rattle.level.proofs.Steps.{Reads}
use Rattle.level.proofs.Turns.{broke, goes_on, tail}

-- what holds of what was read, at what was read
holds_at : {A : Type 0} (R : Read A) (a : A) (l : List ℕ) (P : A → Type 0) → R ≡ got a l → Holds R P → P a
holds_at R a l P e h = subst (λ X. Holds X P) e h

-- the end, once all is known
ended : (L : Level) (x : Index) (X : Read Unit) → x ≡ index_of L → Holds (then X (λ _ e. got L e)) (λ M. x ≡ index_of M)
ended L x (got u l) h = h
ended L x (bad f) h = tt

module _ (bs : List ℕ) (y : Bytes bs) (total : ℕ) (same : total ≡ length bs) where
  abbrev R : Read Level
  R = read_sections bs

  abbrev from_end : List ℕ → List Kind → List Piece → List ℕ → Read Level
  from_end ss ks ps r = then (read_end r) (λ _ e. got (record { signals = ss; kinds = ks; pieces = ps }) e)

  abbrev from_pieces : List ℕ → List Kind → List ℕ → Read Level
  from_pieces ss ks m = then (read_pieces (counts ks) m) (from_end ss ks)

  abbrev from_kinds : List ℕ → List ℕ → Read Level
  from_kinds ss l = then (read_kinds ss l) (from_pieces ss)

  module _ (ss : List ℕ) (l1 : List ℕ) (g1 : Gives nothing (read_signals bs) (Ok tt) l1) (h1 : Holds (read_signals bs) (λ xs. ss ≡ xs)) where
    signals_are : (read_signals bs ≡ got ss l1) × (R ≡ from_kinds ss l1)
    signals_are =
        let w = goes_on R read_signals from_kinds bs bs refl refl nothing tt l1 g1 in
        let e : ss ≡ w.0 = holds_at (read_signals bs) w.0 l1 (λ xs. ss ≡ xs) w.3 h1 in
        (w.3 ∙ ap (λ z. got z l1) (sym e), w.1 ∙ ap (λ z. from_kinds z l1) (sym e))

    spelled_signals : (bs ≡ all signal ss ++ l1) × ((length ss ≤ most_signals) × Each (λ n. n ≤ 2) ss)
    spelled_signals = subst (Reads (λ xs. (length xs ≤ most_signals) × Each (λ n. n ≤ 2) xs) (all signal) bs) signals_are.0 (signals_reads most_signals bs y)

    lengths : length bs ≡ length (all signal ss) + length l1
    lengths = ap length spelled_signals.0 ∙ length-append (all signal ss) l1

    starts_at : total - length l1 ≡ length (all signal ss)
    starts_at = let e = lengths in omega arith

    module _ (rows : List KindEntry) (table : List TransitionEntry) (l2 : List ℕ) (g2 : Gives nothing (read_kinds ss l1) (Ok tt) l2)
        (h2 : Holds (read_kinds ss l1) (λ ks. rows ≡ map kind_entry ks)) (t2 : Holds (read_kinds ss l1) (λ ks. table ≡ map transition_entry (in_kinds 0 (total - length l1) ks))) where
      kinds_are : (ks : List Kind) × (R ≡ from_pieces ss ks l2) × (tt ≡ nothing ks) × (read_kinds ss l1 ≡ got ks l2)
      kinds_are = goes_on R (read_kinds ss) (from_pieces ss) l1 l1 signals_are.1 refl nothing tt l2 g2

      rows_are : rows ≡ map kind_entry kinds_are.0
      rows_are = holds_at (read_kinds ss l1) kinds_are.0 l2 _ kinds_are.3 h2

      counts_are : entry_counts rows ≡ counts kinds_are.0
      counts_are = ap entry_counts rows_are ∙ entry_counts_map kinds_are.0

      pieces_next : R ≡ then (read_pieces (entry_counts rows) l2) (from_end ss kinds_are.0)
      pieces_next = kinds_are.1 ∙ ap (λ cs. then (read_pieces cs l2) (from_end ss kinds_are.0)) (sym counts_are)

      pub pieces_refused : (e : Reason) (l : List ℕ) → Gives nothing (read_pieces (entry_counts rows) l2) (Err e) l → (s : Result Unit Reason) → s ≡ Err e → Gives nothing R s l
      pieces_refused e l h s q = broke R (read_pieces (entry_counts rows)) (from_end ss kinds_are.0) l2 l2 pieces_next refl nothing nothing e l h s q

      module _ (prows : List PieceEntry) (l3 : List ℕ) (g3 : Gives nothing (read_pieces (entry_counts rows) l2) (Ok tt) l3)
          (h3 : Holds (read_pieces (entry_counts rows) l2) (λ ps. prows ≡ map (piece_entry (entry_counts rows)) ps)) where
        pieces_are : (ps : List Piece) × (R ≡ from_end ss kinds_are.0 ps l3) × (tt ≡ nothing ps) × (read_pieces (entry_counts rows) l2 ≡ got ps l3)
        pieces_are = goes_on R (read_pieces (entry_counts rows)) (from_end ss kinds_are.0) l2 l2 pieces_next refl nothing tt l3 g3

        pub sections_read : (r : Result Unit Reason) (l : List ℕ) → Gives nothing (read_end l3) r l → Gives nothing R r l
        sections_read r l h = tail R read_end (λ _. record { signals = ss; kinds = kinds_are.0; pieces = pieces_are.0 }) l3 l3 pieces_are.1 refl r l h

        pub sections_indexed : Holds R (λ L. ◌≡◌ {A = Index} (record { signals = ss; kinds = rows; transitions = table; pieces = prows }) (index_of L))
        sections_indexed =
            let L : Level = record { signals = ss; kinds = kinds_are.0; pieces = pieces_are.0 } in
            let p : prows ≡ map (piece_entry (counts kinds_are.0)) pieces_are.0
            = holds_at (read_pieces (entry_counts rows) l2) pieces_are.0 l3 _ pieces_are.3 h3 ∙ ap (λ cs. map (piece_entry cs) pieces_are.0) counts_are in
            let t : table ≡ map transition_entry (in_kinds 0 (length (all signal ss)) kinds_are.0)
            = holds_at (read_kinds ss l1) kinds_are.0 l2 _ kinds_are.3 t2 ∙ ap (λ i. map transition_entry (in_kinds 0 i kinds_are.0)) starts_at in
            subst (λ X. Holds X (λ M. ◌≡◌ {A = Index} (record { signals = ss; kinds = rows; transitions = table; pieces = prows }) (index_of M))) (sym pieces_are.1)
            (ended L _ (read_end l3) (joined rows _ table _ prows _ rows_are t p))
          where
            joined : (a b : List KindEntry) (c d : List TransitionEntry) (e f : List PieceEntry) → a ≡ b → c ≡ d → e ≡ f
                → ◌≡◌ {A = Index} (record { signals = ss; kinds = a; transitions = c; pieces = e }) (record { signals = ss; kinds = b; transitions = d; pieces = f })
            joined a b c d e f p q r = rw (p, q, r)
