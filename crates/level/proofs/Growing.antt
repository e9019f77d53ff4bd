-- The index of kinds and transitions, as it grows by one.
use Rattle.std.proofs.Common.{◌≡◌, ℕ, suc, ◌+◌, ◌-◌, ◌<◌, ◌≤◌, List, [], ◌∷◌, ◌++◌, map, length, get_or, Ok, Err, Result, sym, refl, ap, ◌∙◌, subst, append_assoc, append-nil, arith, length-append}
use Rattle.std.proofs.lemmas.List.{length-map, map-append}
use Rattle.level.specs.declared.entry.KindEntry.{KindEntry}
use Rattle.level.specs.declared.entry.TransitionEntry.{TransitionEntry}
use Rattle.level.specs.declared.fault.Reason.{Reason}
use Rattle.level.specs.Entries.{kind_entry, transition_entry}
use Rattle.level.specs.Law.{Bytes}
use Rattle.level.specs.Places.{placed_at, in_kind, in_kinds}
use Rattle.level.specs.Reading.{Read, got, at, read_transition, read_transitions, read_kind, read_kinds}
use Rattle.level.specs.Readers.{Gives, Holds, nothing, turn}
use Rattle.level.specs.Sound.{SoundTransition, most_kinds, count}
use Rattle.level.specs.Spelling.{all, transition, kind}
use Rattle.level.specs.Syntax.{Transition, Kind}
use Rattle.level.proofs.Effects.{transition_reads}
use Rattle.level.proofs.Fills.{Filled, ends, breaks, again, turn_at, turn_less, turn_got, turn_in}
use Rattle.level.proofs.Limits.{limits}
use Rattle.level.proofs.Sections.{FittingKind, all_push, two_parameters, kind_reads}
use Rattle.level.proofs.Steps.{spelled}
use Rattle.level.proofs.Turns.{went}

pub in_kind_length : (k n i : ℕ) (ts : List Transition) → length (in_kind k n i ts) ≡ length ts
in_kind_length k n i [] = refl
in_kind_length k n i (t ∷ ts) = ap suc (in_kind_length k n (i + length (transition t)) ts)

-- one transition more stands where those before it end
pub in_kind_push : (k n i : ℕ) (ts : List Transition) (t : Transition) → in_kind k n i (ts ++ (t ∷ [])) ≡ in_kind k n i ts ++ (placed_at k n (i + length (all transition ts)) t ∷ [])
in_kind_push k n i [] t = let e : i + 0 ≡ i = omega arith in rw e
in_kind_push k n i (x ∷ ts) t =
    let a = length-append (transition x) (all transition ts) in
    let e : i + length (transition x) + length (all transition ts) ≡ i + length (transition x ++ all transition ts) = omega arith in
    ap (λ l. placed_at k n i x ∷ l) (in_kind_push k n (i + length (transition x)) ts t ∙ rw e)

-- the table after it, in a level of `total` bytes; `bs` were the bytes of all, and `l` are those from it on
pub transition_pushed : (k n total : ℕ) (bs l : List ℕ) (rows table : List TransitionEntry) (ts : List Transition) (t : Transition) → bs ≡ all transition ts ++ l → length bs ≤ total
    → table ≡ rows ++ map transition_entry (in_kind k n (total - length bs) ts)
    → table ++ (transition_entry (placed_at k n (total - length l) t) ∷ []) ≡ rows ++ map transition_entry (in_kind k n (total - length bs) (ts ++ (t ∷ [])))
transition_pushed k n total bs l rows table ts t e h q =
    let a = ap length e ∙ length-append (all transition ts) l in
    let z : total - length l ≡ total - length bs + length (all transition ts) = omega arith in
    rw (q, z, in_kind_push k n (total - length bs) ts t, map-append) (append_assoc rows _ _)

-- The loop over the transitions of kind `number`; `rows` stood in the table before it, `bs₀` were its bytes.
module _ (signals : List ℕ) (few : (k : ℕ) → get_or signals k 0 ≤ 2) (n m total number : ℕ) (rows : List TransitionEntry) (bs₀ : List ℕ) (short : length bs₀ ≤ total) where
  abbrev pub Grown : List TransitionEntry → List ℕ → List Transition → Type 0
  Grown table bs ts = (bs₀ ≡ all transition ts ++ bs) × (table ≡ rows ++ map transition_entry (in_kind number n (total - length bs₀) ts))

  abbrev most : ℕ
  most = 128 - length rows

  abbrev whole : Read (List Transition)
  whole = read_transitions signals n m most bs₀

  abbrev item : List Transition → List ℕ → Read Transition
  item _ = read_transition signals n m

  module _ (table : List TransitionEntry) (bs : List ℕ) (s : Filled 0x03 6 most item (Grown table bs) whole bs) where
    abbrev entered : Transition → TransitionEntry
    entered t = transition_entry (placed_at number n (total - length bs) t)

    -- what the reader of one transition promises, beside the whole table
    abbrev One : Result TransitionEntry Reason → List ℕ → Type 0
    One r l = Gives entered (turn 6 128 (length table) bs (read_transition signals n m bs)) r l

    in_table : length table ≡ length rows + length s.so_far
    in_table =
        let places = in_kind number n (total - length bs₀) s.so_far in
        ap length s.known.1 ∙ (length-append rows (map transition_entry places) ∙ rw (length-map places transition_entry, in_kind_length number n (total - length bs₀) s.so_far))

    beside : (r : Result TransitionEntry Reason) (l : List ℕ) → One r l → Gives entered (turn 6 most (length s.so_far) bs (read_transition signals n m bs)) r l
    beside r l g = rw (← turn_less 6 128 (length rows) (length s.so_far) bs (read_transition signals n m bs)) (turn_at entered 6 128 128 (length table) (length rows + length s.so_far) bs _ refl in_table r l g)

    module _ (b : at bs 0 ≡ 0x03) where
      pub transitions_broke : (e : Reason) (l : List ℕ) → One (Err e) l → Gives nothing whole (Err e) l
      transitions_broke e l g = breaks 0x03 6 most item (Grown table bs) whole bs s entered b nothing e l (beside (Err e) l g)

      module _ (y : Bytes bs) (v : TransitionEntry) (l : List ℕ) (g : One (Ok v) l) where
        stood : (x : Transition) → 6 ≤ length bs → read_transition signals n m bs ≡ got x l → bs ≡ transition x ++ l
        stood x h e = spelled (SoundTransition signals n m) transition bs _ (transition_reads signals n m bs y h b (two_parameters signals few (at bs 3))) x l e

        pub transitions_again : (after : List TransitionEntry) → after ≡ table ++ (v ∷ []) → Filled 0x03 6 most item (Grown after l) whole l
        transitions_again after p = again 0x03 6 most item (Grown table bs) whole bs s entered b (Grown after l) v l (beside (Ok v) l g) (λ x h _ e q. (
          s.known.0 ∙ (ap (λ z. all transition s.so_far ++ z) (stood x h e) ∙ sym (all_push transition s.so_far x l)),
          p ∙ (rw q (transition_pushed number n total bs₀ bs rows table s.so_far x s.known.0 short s.known.1)),
        ))

        pub transitions_less : length l < length bs
        transitions_less =
            let w = went entered (turn 6 128 (length table) bs (read_transition signals n m bs)) v l g in
            let t = turn_got 6 128 (length table) bs (read_transition signals n m bs) w.0 l w.1 in
            let e = ap length (stood w.0 t.0 t.2) ∙ length-append (transition w.0) l in
            omega arith

    pub transitions_done : (at bs 0 ≡ 0x03 → ⊥) → whole ≡ got s.so_far bs
    transitions_done h = ends 0x03 6 most item (Grown table bs) whole bs s h

-- kinds
pub in_kinds_length : (k i : ℕ) (ks : List Kind) → length (in_kinds k i ks) ≡ count ks
in_kinds_length k i [] = refl
in_kinds_length k i (x ∷ ks) =
    let a = length-append (in_kind k x.numbers (i + 3) x.transitions) (in_kinds (k + 1) (i + length (kind x)) ks) in
    let b = in_kind_length k x.numbers (i + 3) x.transitions in
    let c = in_kinds_length (k + 1) (i + length (kind x)) ks in
    omega arith

pub in_kinds_push : (k i : ℕ) (ks : List Kind) (x : Kind)
    → in_kinds k i (ks ++ (x ∷ [])) ≡ in_kinds k i ks ++ in_kind (k + length ks) x.numbers (i + length (all kind ks) + 3) x.transitions
in_kinds_push k i [] x = let e : i + 0 + 3 ≡ i + 3 = omega arith in let f : k + 0 ≡ k = omega arith in rw (append-nil, e, f)
in_kinds_push k i (y ∷ ks) x =
    let a = length-append (kind y) (all kind ks) in
    let e : i + length (kind y) + length (all kind ks) + 3 ≡ i + length (kind y ++ all kind ks) + 3 = omega arith in
    let f : k + 1 + length ks ≡ k + length (y ∷ ks) = omega arith in
    ap (λ l. in_kind k y.numbers (i + 3) y.transitions ++ l) (in_kinds_push (k + 1) (i + length (kind y)) ks x ∙ rw (e, f))
    ∙ sym (append_assoc (in_kind k y.numbers (i + 3) y.transitions) _ _)

abbrev pub GrownKinds : ℕ → List ℕ → List KindEntry → List TransitionEntry → List ℕ → List Kind → Type 0
GrownKinds total bs₀ rows table bs ks = (bs₀ ≡ all kind ks ++ bs) × (rows ≡ map kind_entry ks) × (table ≡ map transition_entry (in_kinds 0 (total - length bs₀) ks))

-- The loop over the kinds; `bs₀` were its bytes.
module _ (signals : List ℕ) (few : (k : ℕ) → get_or signals k 0 ≤ 2) (total : ℕ) (bs₀ : List ℕ) (short : length bs₀ ≤ total) where
  abbrev kind_item : List Kind → List ℕ → Read Kind
  kind_item ks = read_kind signals (count ks)

  abbrev all_kinds : Read (List Kind)
  all_kinds = read_kinds signals bs₀

  module _ (rows : List KindEntry) (table : List TransitionEntry) (bs : List ℕ) (s : Filled 0x02 3 most_kinds kind_item (GrownKinds total bs₀ rows table bs) all_kinds bs) where
    -- what the reader of one kind promises, beside the tables
    abbrev one_kind : Read Kind
    one_kind = turn 3 16 (length rows) bs (read_kind signals (length table) bs)

    in_rows : length rows ≡ length s.so_far
    in_rows = ap length s.known.1 ∙ length-map s.so_far kind_entry

    in_transitions : length table ≡ count s.so_far
    in_transitions = ap length s.known.2 ∙ (length-map (in_kinds 0 (total - length bs₀) s.so_far) transition_entry ∙ in_kinds_length 0 (total - length bs₀) s.so_far)

    same_kind : one_kind ≡ turn 3 most_kinds (length s.so_far) bs (kind_item s.so_far bs)
    same_kind = rw (in_rows, in_transitions, ← limits.kinds)

    module _ (b : at bs 0 ≡ 0x02) where
      pub kinds_broke : (e : Reason) (l : List ℕ) → Gives kind_entry one_kind (Err e) l → Gives nothing all_kinds (Err e) l
      kinds_broke e l g = breaks 0x02 3 most_kinds kind_item (GrownKinds total bs₀ rows table bs) all_kinds bs s kind_entry b nothing e l (subst (λ R. Gives kind_entry R (Err e) l) same_kind g)

      module _ (y : Bytes bs) (v : KindEntry) (l : List ℕ) (g : Gives kind_entry one_kind (Ok v) l) where
        kind_stood : (used : ℕ) (x : Kind) → 3 ≤ length bs → read_kind signals used bs ≡ got x l → bs ≡ kind x ++ l
        kind_stood used x h e = spelled (FittingKind signals used) kind bs _ (kind_reads signals few used bs y h b) x l e

        pub kinds_again : (rows' : List KindEntry) (table' : List TransitionEntry) → rows' ≡ rows ++ (v ∷ [])
            → Holds one_kind (λ k. table' ≡ table ++ map transition_entry (in_kind (length rows) k.numbers (total - length bs + 3) k.transitions))
            → Filled 0x02 3 most_kinds kind_item (GrownKinds total bs₀ rows' table' l) all_kinds l
        kinds_again rows' table' p t = again 0x02 3 most_kinds kind_item (GrownKinds total bs₀ rows table bs) all_kinds bs s kind_entry b (GrownKinds total bs₀ rows' table' l) v l
            (subst (λ R. Gives kind_entry R (Ok v) l) same_kind g) (λ x h few' e q.
            let i = total - length bs₀ in
            let a = ap length s.known.0 ∙ length-append (all kind s.so_far) bs in
            let z : total - length bs + 3 ≡ i + length (all kind s.so_far) + 3 = omega arith in
            let w : length rows ≡ 0 + length s.so_far = let j = in_rows in omega arith in
            let r : one_kind ≡ got x l = same_kind ∙ (turn_in 3 most_kinds (length s.so_far) bs (kind_item s.so_far bs) h few' ∙ e) in
            let u : table' ≡ table ++ map transition_entry (in_kind (length rows) x.numbers (total - length bs + 3) x.transitions)
            = subst (λ R. Holds R (λ k. table' ≡ table ++ map transition_entry (in_kind (length rows) k.numbers (total - length bs + 3) k.transitions))) r t in (
              s.known.0 ∙ (ap (λ z. all kind s.so_far ++ z) (kind_stood (count s.so_far) x h e) ∙ sym (all_push kind s.so_far x l)),
              p ∙ rw (s.known.1, q) (sym (map-append kind_entry s.so_far (x ∷ []))),
              u ∙ (rw (s.known.2, z, w) (sym (ap (map transition_entry) (in_kinds_push 0 i s.so_far x) ∙ map-append transition_entry (in_kinds 0 i s.so_far) _))),
            ))

        pub kinds_less : length l < length bs
        kinds_less =
            let w = went kind_entry one_kind v l g in
            let t = turn_got 3 16 (length rows) bs (read_kind signals (length table) bs) w.0 l w.1 in
            let e = ap length (kind_stood (length table) w.0 t.0 t.2) ∙ length-append (kind w.0) l in
            omega arith

    pub kinds_done : (at bs 0 ≡ 0x02 → ⊥) → all_kinds ≡ got s.so_far bs
    kinds_done h = ends 0x02 3 most_kinds kind_item (GrownKinds total bs₀ rows table bs) all_kinds bs s h
