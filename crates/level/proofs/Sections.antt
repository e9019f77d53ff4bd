-- The sections of a level: what is read is spelled, and what is spelled is read.
use Rattle.std.proofs.Common.{◌≡◌, ℕ, zero, suc, ◌+◌, ◌-◌, ◌<◌, ◌≤◌, true, false, eqb, List, [], ◌∷◌, ◌++◌, length, get_or, drop, sym, refl, ap, ◌∙◌, subst, append_assoc, append-nil, arith, length-append, w32, of_z, eq-eqb, eqb-true, le-leb}
use Rattle.level.specs.Syntax.{Transition, Kind, Start, Piece}
use Rattle.level.specs.Spelling.{all, expression, effect, signal, transition, kind, start, piece, receivers}
use Rattle.level.specs.Sound.{Each, most_transitions, parameters, counts, numbers_of, count, SoundTransition, SoundKind, SoundStart, SoundPiece}
use Rattle.level.specs.Reading.{Read, got, at, many, read_transition, read_transitions, read_signal, read_kind, read_start, read_starts, read_piece}
use Rattle.level.specs.Law.{Bytes}
use Rattle.level.proofs.Fronts.{front, bytes_drop, word_number, fits_number, number_word, inside}
use Rattle.level.proofs.Steps.{Reads, reads_then, reads_when, reads_operand, reads_room, reads_weaker}
use Rattle.level.proofs.Effects.{transition_reads, transition_read}

pub each_push : {A : Type 0} (P : A → Type 0) (xs : List A) (x : A) → Each P xs → P x → Each P (xs ++ (x ∷ []))
each_push P [] x e p = (p, tt)
each_push P (y ∷ xs) x e p = (e.0, each_push P xs x e.1 p)

pub all_push : {A : Type 0} (s : A → List ℕ) (xs : List A) (x : A) (l : List ℕ) → all s (xs ++ (x ∷ [])) ++ l ≡ all s xs ++ (s x ++ l)
all_push s [] x l = rw append-nil
all_push s (y ∷ xs) x l = append_assoc (s y) (all s (xs ++ (x ∷ []))) l ∙ (ap (λ z. s y ++ z) (all_push s xs x l) ∙ sym (append_assoc (s y) (all s xs) (s x ++ l)))

-- As many items as follow. I: what holds of the items so far.
module _ {A : Type 0} (I : List A → Type 0) (s : A → List ℕ) (c k : ℕ) (item : List A → List ℕ → Read A)
    (ih : (xs : List A) (bs : List ℕ) → Bytes bs → k ≤ length bs → at bs 0 ≡ c → I xs → Reads (λ x. I (xs ++ (x ∷ []))) s bs (item xs bs)) where
  abbrev Few : ℕ → List A → Type 0
  Few most xs = (length xs ≤ most) × I xs

  from_reads : (left : ℕ) (xs : List A) (bs : List ℕ) → Bytes bs → I xs → Reads (Few (length xs + left)) (all s) (all s xs ++ bs) (many c k item left xs bs)
  from_reads zero xs bs y i = reads_when _ _ _ (eqb (at bs 0) c) _ _ (λ t. reads_room (Few (length xs + 0)) (all s) k bs _ _ (λ h. tt)) (refl, (omega arith, i))
  from_reads (suc left) xs bs y i = reads_when _ _ _ (eqb (at bs 0) c) _ _ (λ t. reads_room _ _ k bs _ _ (λ h.
      reads_then (λ x. I (xs ++ (x ∷ []))) s (Few (length xs + suc left)) (all s) bs (all s xs ++ bs) (item xs bs) _ y (ih xs bs y h (eqb-true _ _ t) i) (λ x m w q v.
      let e : all s (xs ++ (x ∷ [])) ++ m ≡ all s xs ++ bs = all_push s xs x m ∙ ap (λ z. all s xs ++ z) (sym q) in
      let n : length (xs ++ (x ∷ [])) + left ≡ length xs + suc left = let j = length-append xs (x ∷ []) in omega arith in
      subst (λ z. Reads (Few z) (all s) (all s xs ++ bs) (many c k item left (xs ++ (x ∷ [])) m)) n
      (subst (λ z. Reads (Few (length (xs ++ (x ∷ [])) + left)) (all s) z (many c k item left (xs ++ (x ∷ [])) m)) e (from_reads left (xs ++ (x ∷ [])) m w v))))) (refl, (omega arith, i))

  pub many_reads : (most : ℕ) (bs : List ℕ) → Bytes bs → I [] → Reads (Few most) (all s) bs (many c k item most [] bs)
  many_reads most bs y i = let e : 0 + most ≡ most = omega arith in subst (λ z. Reads (Few z) (all s) bs (many c k item most [] bs)) e (from_reads most [] bs y i)

-- where an item does not depend on those before it
each_reads : {A : Type 0} (P : A → Type 0) (s : A → List ℕ) (c k : ℕ) (item : List ℕ → Read A)
    → ((bs : List ℕ) → Bytes bs → k ≤ length bs → at bs 0 ≡ c → Reads P s bs (item bs))
    → (most : ℕ) (bs : List ℕ) → Bytes bs → Reads (λ xs. (length xs ≤ most) × Each P xs) (all s) bs (many c k (λ _. item) most [] bs)
each_reads P s c k item f most bs y = many_reads (Each P) s c k (λ _. item) (λ xs bs y h b i. reads_weaker P _ s (λ x v. each_push P xs x i v) bs _ (f bs y h b)) most bs y tt

-- of each item after those before it
abbrev pub Along : {A : Type 0} → (List A → A → Type 0) → List A → List A → Type 0
Along G xs [] = Unit
Along G xs (y ∷ ys) = G xs y × Along G (xs ++ (y ∷ [])) ys

along_each : {A : Type 0} (P : A → Type 0) (xs ys : List A) → Each P ys → Along (λ _. P) xs ys
along_each P xs [] e = tt
along_each P xs (y ∷ ys) e = (e.0, along_each P (xs ++ (y ∷ [])) ys e.1)

-- G: what must hold of an item after those before it; F: what may follow an item
module _ {A : Type 0} (G : List A → A → Type 0) (F : List ℕ → Type 0) (s : A → List ℕ) (c k : ℕ) (item : List A → List ℕ → Read A)
    (follows : (x : A) (l : List ℕ) → F (s x ++ l)) (leads : (x : A) (l : List ℕ) → at (s x ++ l) 0 ≡ c) (wide : (x : A) (l : List ℕ) → k ≤ length (s x ++ l))
    (ih : (xs : List A) (x : A) (l : List ℕ) → G xs x → F l → item xs (s x ++ l) ≡ got x l) where
  next : (ys : List A) (l : List ℕ) → F l → F (all s ys ++ l)
  next [] l f = f
  next (y ∷ ys) l f = rw append_assoc (follows y (all s ys ++ l))

  from_read : (left : ℕ) (xs ys : List A) (l : List ℕ) → length ys ≤ left → Along G xs ys → F l → eqb (at l 0) c ≡ false → many c k item left xs (all s ys ++ l) ≡ got (xs ++ ys) l
  from_read zero xs [] l h g f b = rw (b, append-nil)
  from_read zero xs (y ∷ ys) l h g f b = absurd (omega arith)
  from_read (suc left) xs [] l h g f b = rw (b, append-nil)
  from_read (suc left) xs (y ∷ ys) l h g f b =
      let t : eqb (at (s y ++ (all s ys ++ l)) 0) c ≡ true = eq-eqb _ _ (leads y (all s ys ++ l)) in
      let w = le-leb k (length (s y ++ (all s ys ++ l))) (wide y (all s ys ++ l)) in
      let r : item xs (s y ++ (all s ys ++ l)) ≡ got y (all s ys ++ l) = ih xs y (all s ys ++ l) g.0 (next ys l f) in
      rw (append_assoc, t, w, r) (from_read left (xs ++ (y ∷ [])) ys l (omega arith) g.1 f b ∙ ap (λ z. got z l) (append_assoc xs (y ∷ []) ys))

  pub many_read : (most : ℕ) (ys : List A) (l : List ℕ) → length ys ≤ most → Along G [] ys → F l → eqb (at l 0) c ≡ false → many c k item most [] (all s ys ++ l) ≡ got ys l
  many_read most ys l h g f b = from_read most [] ys l h g f b

-- signals
abbrev SoundSignal : ℕ → Type 0
SoundSignal n = n ≤ 2

pub signal_reads : (bs : List ℕ) → Bytes bs → 2 ≤ length bs → at bs 0 ≡ 0x01 → Reads (λ n. n ≤ 2) signal bs (read_signal bs)
signal_reads bs y h b = reads_operand SoundSignal signal bs 1 0 3 bs _ (λ z u. (front 2 bs h ∙ rw b, omega arith))

pub signals_reads : (most : ℕ) (bs : List ℕ) → Bytes bs → Reads (λ xs. (length xs ≤ most) × Each (λ n. n ≤ 2) xs) (all signal) bs (many 0x01 2 (λ _. read_signal) most [] bs)
signals_reads most bs y = each_reads SoundSignal signal 0x01 2 read_signal signal_reads most bs y

pub signals_read : (most : ℕ) (ss : List ℕ) (l : List ℕ) → length ss ≤ most → Each (λ n. n ≤ 2) ss → eqb (at l 0) 0x01 ≡ false → many 0x01 2 (λ _. read_signal) most [] (all signal ss ++ l) ≡ got ss l
signals_read most ss l h e b =
    many_read (λ _. SoundSignal) (λ _. Unit) signal 0x01 2 (λ _. read_signal) (λ x m. tt) (λ x m. refl) (λ x m. omega arith) (λ xs x m p f. rw (inside 0 x 3 (omega arith) (omega arith)))
    most ss l h (along_each SoundSignal [] ss e) tt b

-- starting numbers
pub start_reads : (n : ℕ) (bs : List ℕ) → Bytes bs → 6 ≤ length bs → at bs 0 ≡ 0x05 → Reads (SoundStart n) start bs (read_start n bs)
start_reads n bs y h b = reads_operand (SoundStart n) start bs 1 0 n bs _ (λ z u.
    (front 6 bs h ∙ rw b (ap (λ w. 0x05 ∷ (at bs 1 ∷ (w ++ drop 6 bs))) (sym (word_number bs y 2 3 4 5))), record { number = u; value = fits_number bs y 2 3 4 5 }))

starts_reads : (n most : ℕ) (bs : List ℕ) → Bytes bs → Reads (λ xs. (length xs ≤ most) × Each (SoundStart n) xs) (all start) bs (read_starts n most bs)
starts_reads n most bs y = each_reads (SoundStart n) start 0x05 6 (read_start n) (start_reads n) most bs y

start_read : (n : ℕ) (s : Start) (l : List ℕ) → SoundStart n s → read_start n (start s ++ l) ≡ got s l
start_read n s l v = rw (inside 0 s.number n (omega arith) v.number) (ap (λ z. got (record { number = s.number; value = z }) l) (number_word s.value v.value (of_z w32 s.value) refl))

starts_read : (n most : ℕ) (ss : List Start) (l : List ℕ) → length ss ≤ most → Each (SoundStart n) ss → eqb (at l 0) 0x05 ≡ false → read_starts n most (all start ss ++ l) ≡ got ss l
starts_read n most ss l h e b =
    many_read (λ _. SoundStart n) (λ _. Unit) start 0x05 6 (λ _. read_start n) (λ x m. tt) (λ x m. refl) (λ x m. omega arith) (λ xs x m p f. start_read n x m p)
    most ss l h (along_each (SoundStart n) [] ss e) tt b

-- pieces
pub starts_short : (ss : List Start) → length ss ≤ length (all start ss)
starts_short [] = omega arith
starts_short (s ∷ ss) = let k = starts_short ss in omega arith

pub counts_length : (ks : List Kind) → length (counts ks) ≡ length ks
counts_length [] = refl
counts_length (k ∷ ks) = ap suc (counts_length ks)

-- a piece, where the kinds have so many numbers
abbrev pub ShapedPiece : List ℕ → Piece → Type 0
ShapedPiece cs p = (p.kind < length cs) × Each (SoundStart (get_or cs p.kind 0)) p.starts

pub shaped_reads : (cs bs : List ℕ) → Bytes bs → 2 ≤ length bs → at bs 0 ≡ 0x04 → Reads (ShapedPiece cs) piece bs (read_piece cs bs)
shaped_reads cs bs y h b = reads_operand (ShapedPiece cs) piece bs 1 0 (length cs) bs _ (λ z u.
    reads_then _ _ (ShapedPiece cs) piece (drop 2 bs) bs (read_starts (get_or cs (at bs 1) 0) (length bs) (drop 2 bs)) _ (bytes_drop 2 bs y)
    (starts_reads (get_or cs (at bs 1) 0) (length bs) (drop 2 bs) (bytes_drop 2 bs y)) (λ ss l w q v. (front 2 bs h ∙ rw (b, q), (u, v.1))))

module _ (kinds : List Kind) where
  piece_reads : (bs : List ℕ) → Bytes bs → 2 ≤ length bs → at bs 0 ≡ 0x04 → Reads (SoundPiece kinds) piece bs (read_piece (counts kinds) bs)
  piece_reads bs y h b = reads_weaker _ _ piece (λ p v. let k = v.0 in record { kind = rw counts_length at k; starts = v.1 }) bs _ (shaped_reads (counts kinds) bs y h b)

  pub pieces_reads : (most : ℕ) (bs : List ℕ) → Bytes bs → Reads (λ xs. (length xs ≤ most) × Each (SoundPiece kinds) xs) (all piece) bs (many 0x04 2 (λ _. read_piece (counts kinds)) most [] bs)
  pieces_reads most bs y = each_reads (SoundPiece kinds) piece 0x04 2 (read_piece (counts kinds)) piece_reads most bs y

  piece_read : (p : Piece) (l : List ℕ) → SoundPiece kinds p → eqb (at l 0) 0x05 ≡ false → read_piece (counts kinds) (piece p ++ l) ≡ got p l
  piece_read p l v b =
      let h = starts_short p.starts in
      let j = length-append (all start p.starts) l in
      rw (inside 0 p.kind (length (counts kinds)) (omega arith) (rw counts_length v.kind), starts_read (numbers_of kinds p.kind) (length (piece p ++ l)) p.starts l (omega arith) v.starts b)

  pub pieces_read : (most : ℕ) (ps : List Piece) (l : List ℕ) → length ps ≤ most → Each (SoundPiece kinds) ps → eqb (at l 0) 0x05 ≡ false → eqb (at l 0) 0x04 ≡ false
      → many 0x04 2 (λ _. read_piece (counts kinds)) most [] (all piece ps ++ l) ≡ got ps l
  pieces_read most ps l h e a b =
      many_read (λ _. SoundPiece kinds) (λ l. eqb (at l 0) 0x05 ≡ false) piece 0x04 2 (λ _. read_piece (counts kinds)) (λ x m. refl) (λ x m. refl) (λ x m. omega arith) (λ xs x m p f. piece_read x m p f)
      most ps l h (along_each (SoundPiece kinds) [] ps e) a b

-- a kind that fits beside so many transitions of others
abbrev pub FittingKind : List ℕ → ℕ → Kind → Type 0
FittingKind signals used k = SoundKind signals k × (length k.transitions ≤ most_transitions - used)

pub most_two : (ss : List ℕ) → Each (λ n. n ≤ 2) ss → (k : ℕ) → get_or ss k 0 ≤ 2
most_two [] e k = omega arith
most_two (s ∷ ss) e zero = e.0
most_two (s ∷ ss) e (suc k) = most_two ss e.1 k

-- the kinds so far
abbrev pub SoundKinds : List ℕ → List Kind → Type 0
SoundKinds signals ks = (count ks ≤ most_transitions) × Each (SoundKind signals) ks

-- kinds, in a level whose signals have at most two parameters
module _ (signals : List ℕ) (few : (k : ℕ) → get_or signals k 0 ≤ 2) where
  pub two_parameters : (s : ℕ) → parameters signals s ≤ 2
  two_parameters zero = omega arith
  two_parameters (suc s) = few s

  pub transitions_reads : (n m most : ℕ) (bs : List ℕ) → Bytes bs
      → Reads (λ ts. (length ts ≤ most) × Each (SoundTransition signals n m) ts) (all transition) bs (read_transitions signals n m most bs)
  transitions_reads n m most bs y = each_reads (SoundTransition signals n m) transition 0x03 6 (read_transition signals n m)
      (λ bs y h b. transition_reads signals n m bs y h b (two_parameters (at bs 3))) most bs y

  transition_wide : (t : Transition) (l : List ℕ) → 6 ≤ length (transition t ++ l)
  transition_wide t l =
      let a = length-append (transition t) l in
      let b = length-append (receivers t.receives) (expression t.guard ++ effect t.effect) in
      let c = two t.receives in omega arith
    where
      two : (ps : List ℕ) → length (receivers ps) ≡ 2
      two [] = refl
      two (p ∷ []) = refl
      two (p ∷ (q ∷ ps)) = refl

  transitions_read : (n m most : ℕ) (ts : List Transition) (l : List ℕ) → length ts ≤ most → Each (SoundTransition signals n m) ts → eqb (at l 0) 0x03 ≡ false
      → read_transitions signals n m most (all transition ts ++ l) ≡ got ts l
  transitions_read n m most ts l h e b =
      many_read (λ _. SoundTransition signals n m) (λ _. Unit) transition 0x03 6 (λ _. read_transition signals n m) (λ x l. tt) (λ x l. refl) transition_wide
      (λ xs x l v f. transition_read signals n m x l (two_parameters x.signal) v) most ts l h (along_each (SoundTransition signals n m) [] ts e) tt b

  count_push : (ks : List Kind) (k : Kind) → count (ks ++ (k ∷ [])) ≡ count ks + length k.transitions
  count_push [] k = omega arith
  count_push (x ∷ ks) k = let h = count_push ks k in omega arith

  pub kind_reads : (used : ℕ) (bs : List ℕ) → Bytes bs → 3 ≤ length bs → at bs 0 ≡ 0x02 → Reads (FittingKind signals used) kind bs (read_kind signals used bs)
  kind_reads used bs y h b =
      reads_operand (FittingKind signals used) kind bs 1 0 9 bs _ (λ z u. reads_operand (FittingKind signals used) kind bs 2 1 17 bs _ (λ z' u'.
      reads_then _ _ (FittingKind signals used) kind (drop 3 bs) bs (read_transitions signals (at bs 1) (at bs 2) (most_transitions - used) (drop 3 bs)) _ (bytes_drop 3 bs y)
      (transitions_reads (at bs 1) (at bs 2) (most_transitions - used) (drop 3 bs) (bytes_drop 3 bs y)) (λ ts l w q v.
      (front 3 bs h ∙ rw (b, q), (record { numbers = omega arith; some = z'; states = omega arith; transitions = v.1 }, v.0)))))

  pub kinds_reads : (most : ℕ) (bs : List ℕ) → Bytes bs → Reads (λ ks. (length ks ≤ most) × SoundKinds signals ks) (all kind) bs (many 0x02 3 (λ ks. read_kind signals (count ks)) most [] bs)
  kinds_reads most bs y = many_reads (SoundKinds signals) kind 0x02 3 (λ ks. read_kind signals (count ks)) (λ xs bs y h b i.
      reads_weaker _ _ kind (λ k v. (let j = count_push xs k in let n = v.1 in let g = i.0 in omega arith, each_push (SoundKind signals) xs k i.1 v.0)) bs _ (kind_reads (count xs) bs y h b)) most bs y (omega arith, tt)

  abbrev Fits : List Kind → Kind → Type 0
  Fits before k = FittingKind signals (count before) k

  kind_read : (before : List Kind) (k : Kind) (l : List ℕ) → Fits before k → eqb (at l 0) 0x03 ≡ false → read_kind signals (count before) (kind k ++ l) ≡ got k l
  kind_read before k l v b =
      let n = v.0.numbers in
      let m = v.0.states in
      rw (
        inside 0 k.numbers 9 (omega arith) (omega arith),
        inside 1 k.states 17 v.0.some (omega arith),
        transitions_read k.numbers k.states (most_transitions - count before) k.transitions l v.1 v.0.transitions b,
      )

  all_fit : (xs ys : List Kind) → count xs + count ys ≤ most_transitions → Each (SoundKind signals) ys → Along Fits xs ys
  all_fit xs [] h e = tt
  all_fit xs (y ∷ ys) h e = ((e.0, omega arith), all_fit (xs ++ (y ∷ [])) ys (let j = count_push xs y in omega arith) e.1)

  pub kinds_read : (most : ℕ) (ks : List Kind) (l : List ℕ) → length ks ≤ most → count ks ≤ most_transitions → Each (SoundKind signals) ks → eqb (at l 0) 0x03 ≡ false → eqb (at l 0) 0x02 ≡ false
      → many 0x02 3 (λ ks. read_kind signals (count ks)) most [] (all kind ks ++ l) ≡ got ks l
  kinds_read most ks l h t e a b =
      many_read Fits (λ l. eqb (at l 0) 0x03 ≡ false) kind 0x02 3 (λ ks. read_kind signals (count ks)) (λ x m. refl) (λ x m. refl) (λ x m. omega arith) kind_read
      most ks l h (all_fit [] ks (omega arith) e) a b
