-- Whole levels: what is read is spelled, and what is spelled is read.
use Rattle.std.proofs.Common.{◌≡◌, ℕ, ◌≤◌, Bool, true, false, eqb, leb, List, [], ◌∷◌, ◌++◌, length, Ok, refl, ap, arith, eqb-true, le-leb, leb-true}
use Rattle.level.specs.Syntax.{Kind, Piece, Level}
use Rattle.level.specs.Spelling.{all, signal, kind, piece, level}
use Rattle.level.specs.Sound.{Each, Sound, SoundPiece, most_signals, most_kinds, most_pieces, most_bytes, counts}
use Rattle.level.specs.Reading.{Read, got, bad, then, when, at, read_signals, read_kinds, read_pieces, read_end, read_level, verdict, read}
use Rattle.level.specs.Law.{Bytes}
use Rattle.level.proofs.Steps.{reads_on}
use Rattle.level.proofs.Sections.{SoundKinds, most_two, signals_reads, signals_read, kinds_reads, kinds_read, pieces_reads, pieces_read}

-- a level that was read is sound, and its spelling was all there was
abbrev Whole : List ℕ → Read Level → Type 0
Whole bs (got L l) = (level L ≡ bs) × Sound L
Whole bs (bad f) = Unit

whole_if : (bs : List ℕ) (t : Bool) (r f : Read Level) → (t ≡ true → Whole bs r) → Whole bs f → Whole bs (when t r f)
whole_if bs true r f h g = h refl
whole_if bs false r f h g = g

-- the end is the one byte 06
abbrev Ends : List ℕ → Read Unit → Type 0
Ends bs (got x l) = bs ≡ 0x06 ∷ []
Ends bs (bad f) = Unit

ends_if : (bs : List ℕ) (t : Bool) (r f : Read Unit) → (t ≡ true → Ends bs r) → Ends bs f → Ends bs (when t r f)
ends_if bs true r f h g = h refl
ends_if bs false r f h g = g

end_ends : (bs : List ℕ) → Ends bs (read_end bs)
end_ends bs = ends_if bs (leb 1 (length bs)) _ _ (λ h. ends_if bs (eqb (at bs 0) 0x06) _ _ (λ t. ends_if bs (eqb (length bs) 1) _ _ (λ u. one bs (eqb-true _ _ t) (eqb-true _ _ u)) tt) tt) tt
  where
    one : (bs : List ℕ) → at bs 0 ≡ 0x06 → length bs ≡ 1 → bs ≡ 0x06 ∷ []
    one [] a h = absurd (omega arith)
    one (b ∷ []) a h = rw a
    one (b ∷ (c ∷ bs)) a h = absurd (omega arith)

end_on : (bs : List ℕ) (L : Level) (r : List ℕ) (x : Read Unit) → Ends r x → (r ≡ 0x06 ∷ [] → (level L ≡ bs) × Sound L) → Whole bs (then x (λ _ e. got L e))
end_on bs L r (got x l) h f = f h
end_on bs L r (bad x) h f = tt

level_whole : (bs : List ℕ) → Bytes bs → Whole bs (read_level bs)
level_whole bs y = whole_if bs (leb (length bs) most_bytes) _ _ (λ t.
    reads_on (λ xs. (length xs ≤ most_signals) × Each (λ n. n ≤ 2) xs) (all signal) (Whole bs) (λ f. tt) bs (read_signals bs) _ y (signals_reads most_signals bs y) (λ ss l w q v.
    reads_on (λ ks. (length ks ≤ most_kinds) × SoundKinds ss ks) (all kind) (Whole bs) (λ f. tt) l (read_kinds ss l) _ w (kinds_reads ss (most_two ss v.1) most_kinds l w) (λ ks m w' q' v'.
    reads_on (λ ps. (length ps ≤ most_pieces) × Each (SoundPiece ks) ps) (all piece) (Whole bs) (λ f. tt) m (read_pieces (counts ks) m) _ w' (pieces_reads ks most_pieces m w') (λ ps r w'' q'' v''.
    end_on bs (record { signals = ss; kinds = ks; pieces = ps }) r (read_end r) (end_ends r) (λ e.
    let s : level (record { signals = ss; kinds = ks; pieces = ps }) ≡ bs = rw (← e, ← q'', ← q', ← q) in
    (s, record { few_signals = v.0; signals = v.1; few_kinds = v'.0; few_transitions = v'.1.0; kinds = v'.1.1; few_pieces = v''.0; pieces = v''.1; few_bytes = rw s (leb-true _ _ t) })))))) tt

-- what follows the signals, and the kinds
after_signals : (ks : List Kind) (ps : List Piece) → eqb (at (all kind ks ++ (all piece ps ++ (0x06 ∷ []))) 0) 0x01 ≡ false
after_signals [] [] = refl
after_signals [] (p ∷ ps) = refl
after_signals (k ∷ ks) ps = refl

after_kinds : (ps : List Piece) → (eqb (at (all piece ps ++ (0x06 ∷ [])) 0) 0x03 ≡ false) × (eqb (at (all piece ps ++ (0x06 ∷ [])) 0) 0x02 ≡ false)
after_kinds [] = (refl, refl)
after_kinds (p ∷ ps) = (refl, refl)

level_read : (L : Level) → Sound L → read_level (level L) ≡ got L []
level_read L s =
    let e = le-leb (length (level L)) most_bytes s.few_bytes in
    let a = signals_read most_signals L.signals (all kind L.kinds ++ (all piece L.pieces ++ (0x06 ∷ []))) s.few_signals s.signals (after_signals L.kinds L.pieces) in
    let b = kinds_read L.signals (most_two L.signals s.signals) most_kinds L.kinds (all piece L.pieces ++ (0x06 ∷ [])) s.few_kinds s.few_transitions s.kinds (after_kinds L.pieces).0 (after_kinds L.pieces).1 in
    let c = pieces_read L.kinds most_pieces L.pieces (0x06 ∷ []) s.few_pieces s.pieces refl refl in
    rw (e, a, b, c)

whole_verdict : (n : ℕ) (bs : List ℕ) (r : Read Level) (L : Level) → Whole bs r → verdict n r ≡ Ok L → (level L ≡ bs) × Sound L
whole_verdict n bs (got M l) L w h = let e : M ≡ L = cc in rw e at w
whole_verdict n bs (bad f) L w h = absurd (let z : ◌≡◌ {A = ℕ} 0 1 = cc in omega arith)

pub faithful : (bs : List ℕ) (L : Level) → Bytes bs → read bs ≡ Ok L → (level L ≡ bs) × Sound L
faithful bs L y h = whole_verdict (length bs) bs (read_level bs) L (level_whole bs y) h

pub complete : (L : Level) → Sound L → read (level L) ≡ Ok L
complete L s = ap (verdict (length (level L))) (level_read L s)
