-- A refusal is settled by the bytes up to it: more bytes do not change it.
use Rattle.std.proofs.Common.{◌≡◌, ℕ, zero, suc, ◌+◌, ◌-◌, ◌<◌, ◌≤◌, Bool, true, false, ◌&&◌, eqb, ltb, leb, ◌⊎◌, List, [], ◌∷◌, ◌++◌, length, get_or, drop, Some, None, Err, Option, sym, refl, ap, ◌∙◌, inl, inr, arith, length-append, length-drop, ne_eqb, le-leb, leb-true}
use Rattle.std.proofs.lemmas.List.{get_or_append_left, drop-append-le}
use Rattle.level.specs.declared.fault.OperandFault.TheVariants.{OutOfRange}
use Rattle.level.specs.declared.fault.Reason.TheVariants.{Truncated, NotCommand, Operand}
use Rattle.level.specs.declared.fault.LevelFault.{LevelFault}
use Rattle.level.specs.Syntax.{Expr, other, binary, negation, Stmt, assign, store, send, Transition, Start, Level}
use Rattle.level.specs.Sound.{deepest, most_statements, most_signals, most_kinds, most_transitions, most_pieces, most_bytes, parameters, counts, count}
use Rattle.level.specs.Faults.{number, number_of_reason}
use Rattle.level.specs.Reading.{Fault, Read, got, bad, fault, then, when, room, at, operand, known, Form, a_constant, an_own_piece, an_own, an_other, a_binary, a_negation, form, read_form, read_expr, read_exprs, Order, an_assign, a_store, a_send, order, read_order, read_stmt, end_or, read_effect, receiver, read_code, read_transition, many, read_signal, read_signals, read_transitions, read_kind, read_kinds, read_start, read_starts, read_piece, read_pieces, read_end, read_sections, read_level, verdict, read}
use Rattle.level.proofs.Steps.{has1}

at_front : (bs cs : List ℕ) (k : ℕ) → k < length bs → at (bs ++ cs) k ≡ at bs k
at_front bs cs k h = get_or_append_left bs cs 0 k h

module _ (cs : List ℕ) where
  abbrev later : Fault → Fault
  later f = record { reason = f.reason; from = f.from ++ cs }

  -- of what is read without and with more bytes: the same, unless the bytes were used up
  abbrev Firm : {A : Type 0} → Read A → Read A → Type 0
  Firm (got a []) y = Unit
  Firm (got a (b ∷ l)) y = y ≡ got a ((b ∷ l) ++ cs)
  Firm (bad f) y = (f.reason ≡ Truncated) ⊎ (y ≡ bad (later f))

  -- what a reader gives where no bytes are left
  abbrev Used : {A : Type 0} → Read A → Type 0
  Used (got a []) = Unit
  Used (got a (b ∷ l)) = ⊥
  Used (bad f) = f.reason ≡ Truncated

  used_firm : {A : Type 0} (x y : Read A) → Used x → Firm x y
  used_firm (got a []) y u = tt
  used_firm (got a (b ∷ l)) y u = absurd u
  used_firm (bad f) y u = inl u

  used_then : {A B : Type 0} (x : Read A) (k : A → List ℕ → Read B) → Used x → ((a : A) → Used (k a [])) → Used (then x k)
  used_then (got a []) k u f = f a
  used_then (got a (b ∷ l)) k u f = absurd u
  used_then (bad x) k u f = u

  firm_then : {A B : Type 0} (x y : Read A) (k : A → List ℕ → Read B) → Firm x y → ((a : A) → Used (k a [])) → ((a : A) (l : List ℕ) → Firm (k a l) (k a (l ++ cs))) → Firm (then x k) (then y k)
  firm_then (got a []) y k h u f = used_firm (k a []) (then y k) (u a)
  firm_then (got a (b ∷ l)) y k h u f = rw h (f a (b ∷ l))
  firm_then (bad x) y k (inl e) u f = inl e
  firm_then (bad x) y k (inr e) u f = inr (rw e)

  firm_got : {A : Type 0} (a : A) (l : List ℕ) → Firm (got a l) (got a (l ++ cs))
  firm_got a [] = tt
  firm_got a (b ∷ l) = refl

  firm_when : {A : Type 0} (t : Bool) (x y f g : Read A) → Firm x y → Firm f g → Firm (when t x f) (when t y g)
  firm_when true x y f g h k = h
  firm_when false x y f g h k = k

  firm_operand : {A : Type 0} (k least limit : ℕ) (bs : List ℕ) (x y : Read A) → k < length bs → Firm x y → Firm (operand k least limit bs x) (operand k least limit (bs ++ cs) y)
  firm_operand k least limit bs x y h f = rw (at_front bs cs k h) (firm_when (leb least (at bs k) && ltb (at bs k) limit) x y _ _ f (inr refl))

  firm_room : {A : Type 0} (k : ℕ) (bs : List ℕ) (x y : Read A) → (k ≤ length bs → Firm x y) → Firm (room k bs x) (room k (bs ++ cs) y)
  firm_room {A} k bs x y h = by (leb k (length bs)) (leb-true k (length bs))
    where
      by : (t : Bool) → (t ≡ true → k ≤ length bs) → Firm {A = A} (when t x (fault Truncated [])) (room k (bs ++ cs) y)
      by true u = let e = length-append bs cs in let j = u refl in rw (le-leb k (length (bs ++ cs)) (omega arith)) (h (u refl))
      by false u = inl refl

  firm_known : {F A : Type 0} (bs : List ℕ) (o : Option F) (x y : F → Read A) → ((f : F) → Firm (x f) (y f)) → Firm (known bs o x) (known (bs ++ cs) o y)
  firm_known bs None x y h = inr refl
  firm_known bs (Some f) x y h = h f

  module _ (n : ℕ) (more : List ℕ → Read Expr) (none : Used (more [])) (ih : (bs : List ℕ) → Firm (more bs) (more (bs ++ cs))) where
    form_firm : (bs : List ℕ) → 1 ≤ length bs → (f : Form) → Firm (read_form n more bs f) (read_form n more (bs ++ cs) f)
    form_firm bs o a_constant = firm_room 5 bs _ _ (λ h.
        rw (at_front bs cs 1 (omega arith), at_front bs cs 2 (omega arith), at_front bs cs 3 (omega arith), at_front bs cs 4 (omega arith), drop-append-le 5 bs cs h) (firm_got _ (drop 5 bs)))
    form_firm bs o an_own_piece = rw (drop-append-le 1 bs cs o) (firm_got _ (drop 1 bs))
    form_firm bs o an_own = firm_room 2 bs _ _ (λ h. firm_operand 1 0 n bs _ _ (omega arith) (rw (at_front bs cs 1 (omega arith), drop-append-le 2 bs cs h) (firm_got _ (drop 2 bs))))
    form_firm bs o an_other = firm_room 2 bs _ _ (λ h. firm_operand 1 0 8 bs _ _ (omega arith) (rw (at_front bs cs 1 (omega arith), drop-append-le 2 bs cs h)
        (firm_then (more (drop 2 bs)) _ _ (ih (drop 2 bs)) (λ a. tt) (λ e l. firm_got (other (at bs 1) e) l))))
    form_firm bs o (a_binary op) = rw (drop-append-le 1 bs cs o) (firm_then (more (drop 1 bs)) _ _ (ih (drop 1 bs)) (λ e. used_then (more []) _ none (λ f. tt)) (λ e l.
        firm_then (more l) _ _ (ih l) (λ f. tt) (λ f m. firm_got (binary op e f) m)))
    form_firm bs o a_negation = rw (drop-append-le 1 bs cs o) (firm_then (more (drop 1 bs)) _ _ (ih (drop 1 bs)) (λ a. tt) (λ e l. firm_got (negation e) l))

  expr_used : (d n : ℕ) → Used (read_expr d n [])
  expr_used zero n = refl
  expr_used (suc d) n = refl

  expr_firm : (d n : ℕ) (bs : List ℕ) → Firm (read_expr d n bs) (read_expr d n (bs ++ cs))
  expr_firm zero n bs = firm_room 1 bs _ _ (λ o. rw (at_front bs cs 0 o) (firm_known bs (form (at bs 0)) _ _ (λ f. inr refl)))
  expr_firm (suc d) n bs = firm_room 1 bs _ _ (λ o. rw (at_front bs cs 0 o) (firm_known bs (form (at bs 0)) _ _ (form_firm n (read_expr d n) (expr_used d n) (expr_firm d n) bs o)))

  exprs_used : (k n : ℕ) → Used (read_exprs k n [])
  exprs_used zero n = tt
  exprs_used (suc k) n = used_then (read_expr deepest n []) _ (expr_used deepest n) (λ e. used_then (read_exprs k n []) _ (exprs_used k n) (λ es. tt))

  exprs_firm : (k n : ℕ) (bs : List ℕ) → Firm (read_exprs k n bs) (read_exprs k n (bs ++ cs))
  exprs_firm zero n bs = firm_got [] bs
  exprs_firm (suc k) n bs = firm_then (read_expr deepest n bs) _ _ (expr_firm deepest n bs) (λ e. used_then (read_exprs k n []) _ (exprs_used k n) (λ es. tt)) (λ e l.
      firm_then (read_exprs k n l) _ _ (exprs_firm k n l) (λ es. tt) (λ es m. firm_got (e ∷ es) m))

  module _ (signals : List ℕ) (n : ℕ) where
    order_firm : (bs : List ℕ) (o : Order) → Firm (read_order signals n bs o) (read_order signals n (bs ++ cs) o)
    order_firm bs an_assign = firm_room 2 bs _ _ (λ h. firm_operand 1 0 n bs _ _ (omega arith) (rw (at_front bs cs 1 (omega arith), drop-append-le 2 bs cs h)
        (firm_then (read_expr deepest n (drop 2 bs)) _ _ (expr_firm deepest n (drop 2 bs)) (λ e. tt) (λ e l. firm_got (assign (at bs 1) e) l))))
    order_firm bs a_store = firm_room 2 bs _ _ (λ h. firm_operand 1 0 8 bs _ _ (omega arith) (rw (at_front bs cs 1 (omega arith), drop-append-le 2 bs cs h)
        (firm_then (read_expr deepest n (drop 2 bs)) _ _ (expr_firm deepest n (drop 2 bs)) (λ e. used_then (read_expr deepest n []) _ (expr_used deepest n) (λ f. tt)) (λ e l.
        firm_then (read_expr deepest n l) _ _ (expr_firm deepest n l) (λ f. tt) (λ f m. firm_got (store (at bs 1) e f) m)))))
    order_firm bs a_send = firm_room 2 bs _ _ (λ h. firm_operand 1 1 (length signals + 1) bs _ _ (omega arith) (rw (at_front bs cs 1 (omega arith), drop-append-le 2 bs cs h)
        (firm_then (read_expr deepest n (drop 2 bs)) _ _ (expr_firm deepest n (drop 2 bs)) (λ e. used_then (read_exprs (parameters signals (at bs 1)) n []) _ (exprs_used (parameters signals (at bs 1)) n) (λ es. tt)) (λ e l.
        firm_then (read_exprs (parameters signals (at bs 1)) n l) _ _ (exprs_firm (parameters signals (at bs 1)) n l) (λ es. tt) (λ es m. firm_got (send (at bs 1) e es) m)))))

    stmt_firm : (bs : List ℕ) → Firm (read_stmt signals n bs) (read_stmt signals n (bs ++ cs))
    stmt_firm bs = firm_room 1 bs _ _ (λ o. rw (at_front bs cs 0 o) (firm_known bs (order (at bs 0)) _ _ (order_firm bs)))

    end_firm : (bs : List ℕ) (x y : Read (List Stmt)) → Firm x y → Firm (end_or signals n bs x) (end_or signals n (bs ++ cs) y)
    end_firm bs x y h = firm_room 1 bs _ _ (λ o. rw (at_front bs cs 0 o, drop-append-le 1 bs cs o)
        (firm_when (eqb (at bs 0) 0x00) _ _ _ _ (firm_got [] (drop 1 bs)) (firm_known bs (order (at bs 0)) _ _ (λ _. h))))

    effect_used : (k : ℕ) → Used (read_effect signals n k [])
    effect_used zero = refl
    effect_used (suc k) = refl

    effect_firm : (k : ℕ) (bs : List ℕ) → Firm (read_effect signals n k bs) (read_effect signals n k (bs ++ cs))
    effect_firm zero bs = end_firm bs _ _ (inr refl)
    effect_firm (suc k) bs = end_firm bs _ _ (firm_then (read_stmt signals n bs) _ _ (stmt_firm bs) (λ c. used_then (read_effect signals n k []) _ (effect_used k) (λ x. tt)) (λ c l.
        firm_then (read_effect signals n k l) _ _ (effect_firm k l) (λ x. tt) (λ x m. firm_got (c ∷ x) m)))

    receiver_firm : (t : Bool) (k : ℕ) (bs : List ℕ) (x y : Read Transition) → k < length bs → Firm x y → Firm (receiver n t k bs x) (receiver n t k (bs ++ cs) y)
    receiver_firm true k bs x y h f = firm_operand k 0 n bs x y h f
    receiver_firm false k bs x y h f = firm_operand k 0xFF 0x100 bs x y h f

    code_firm : (f t s : ℕ) (ps bs : List ℕ) → Firm (read_code signals n f t s ps bs) (read_code signals n f t s ps (bs ++ cs))
    code_firm f t s ps bs = firm_then (read_expr deepest n bs) _ _ (expr_firm deepest n bs) (λ e. used_then (read_effect signals n most_statements []) _ (effect_used most_statements) (λ x. tt)) (λ e l.
        firm_then (read_effect signals n most_statements l) _ _ (effect_firm most_statements l) (λ x. tt) (λ x r. firm_got _ r))

    transition_firm : (m : ℕ) (bs : List ℕ) → 6 ≤ length bs → Firm (read_transition signals n m bs) (read_transition signals n m (bs ++ cs))
    transition_firm m bs h = firm_operand 1 0 m bs _ _ (omega arith) (firm_operand 2 0 m bs _ _ (omega arith) (firm_operand 3 0 (length signals + 1) bs _ _ (omega arith)
        (rw (at_front bs cs 1 (omega arith), at_front bs cs 2 (omega arith), at_front bs cs 3 (omega arith), at_front bs cs 4 (omega arith), at_front bs cs 5 (omega arith), drop-append-le 6 bs cs h)
        (receiver_firm (ltb 0 (parameters signals (at bs 3))) 4 bs _ _ (omega arith) (receiver_firm (ltb 1 (parameters signals (at bs 3))) 5 bs _ _ (omega arith)
        (code_firm (at bs 1) (at bs 2) (at bs 3) _ (drop 6 bs)))))))

  module _ {A : Type 0} (c k : ℕ) (apart : eqb 0 c ≡ false) (item : List A → List ℕ → Read A) (ih : (xs : List A) (bs : List ℕ) → k ≤ length bs → Firm (item xs bs) (item xs (bs ++ cs))) where
    many_used : (left : ℕ) (xs : List A) → Used (many c k item left xs [])
    many_used zero xs = rw apart tt
    many_used (suc left) xs = rw apart tt

    many_firm : (left : ℕ) (xs : List A) (bs : List ℕ) → Firm (many c k item left xs bs) (many c k item left xs (bs ++ cs))
    many_firm left xs [] = used_firm (many c k item left xs []) _ (many_used left xs)
    many_firm zero xs (b ∷ bs) = firm_when (eqb b c) _ _ _ _ (firm_room k (b ∷ bs) _ _ (λ h. inr refl)) (firm_got xs (b ∷ bs))
    many_firm (suc left) xs (b ∷ bs) = firm_when (eqb b c) _ _ _ _ (firm_room k (b ∷ bs) _ _ (λ h.
        firm_then (item xs (b ∷ bs)) _ _ (ih xs (b ∷ bs) h) (λ x. many_used left (xs ++ (x ∷ []))) (λ x l. many_firm left (xs ++ (x ∷ [])) l))) (firm_got xs (b ∷ bs))

  signals_firm : (bs : List ℕ) → Firm (read_signals bs) (read_signals (bs ++ cs))
  signals_firm bs = many_firm 0x01 2 refl (λ _. read_signal) (λ xs bs h. firm_operand 1 0 3 bs _ _ (omega arith) (rw (at_front bs cs 1 (omega arith), drop-append-le 2 bs cs h) (firm_got _ (drop 2 bs)))) most_signals [] bs

  module _ (signals : List ℕ) where
    kind_firm : (used : ℕ) (bs : List ℕ) → 3 ≤ length bs → Firm (read_kind signals used bs) (read_kind signals used (bs ++ cs))
    kind_firm used bs h = firm_operand 1 0 9 bs _ _ (omega arith) (firm_operand 2 1 17 bs _ _ (omega arith)
        (rw (at_front bs cs 1 (omega arith), at_front bs cs 2 (omega arith), drop-append-le 3 bs cs h)
        (firm_then (read_transitions signals (at bs 1) (at bs 2) (most_transitions - used) (drop 3 bs)) _ _
        (many_firm 0x03 6 refl (λ _. read_transition signals (at bs 1) (at bs 2)) (λ _. transition_firm signals (at bs 1) (at bs 2)) (most_transitions - used) [] (drop 3 bs)) (λ ts. tt) (λ ts l. firm_got _ l))))

    kinds_used : Used (read_kinds signals [])
    kinds_used = many_used 0x02 3 refl (λ ks. read_kind signals (count ks)) (λ ks. kind_firm (count ks)) most_kinds []

    kinds_firm : (bs : List ℕ) → Firm (read_kinds signals bs) (read_kinds signals (bs ++ cs))
    kinds_firm bs = many_firm 0x02 3 refl (λ ks. read_kind signals (count ks)) (λ ks. kind_firm (count ks)) most_kinds [] bs

  start_firm : (n : ℕ) (bs : List ℕ) → 6 ≤ length bs → Firm (read_start n bs) (read_start n (bs ++ cs))
  start_firm n bs h = firm_operand 1 0 n bs _ _ (omega arith)
      (rw (at_front bs cs 1 (omega arith), at_front bs cs 2 (omega arith), at_front bs cs 3 (omega arith), at_front bs cs 4 (omega arith), at_front bs cs 5 (omega arith), drop-append-le 6 bs cs h) (firm_got _ (drop 6 bs)))

  -- starting numbers: there are never more of them than bytes, so a higher limit changes nothing
  more_limit : (n left more : ℕ) (xs : List Start) (bs : List ℕ) → length bs ≤ left → length bs ≤ more → many 0x05 6 (λ _. read_start n) left xs bs ≡ many 0x05 6 (λ _. read_start n) more xs bs
  more_limit n zero zero xs bs h k = refl
  more_limit n zero (suc more) xs [] h k = refl
  more_limit n zero (suc more) xs (b ∷ bs) h k = absurd (omega arith)
  more_limit n (suc left) zero xs [] h k = refl
  more_limit n (suc left) zero xs (b ∷ bs) h k = absurd (omega arith)
  more_limit n (suc left) (suc more) xs [] h k = refl
  more_limit n (suc left) (suc more) xs (b ∷ bs) h k =
      let f = length-drop 5 bs in
      ap (λ r. when (eqb b 0x05) (room 6 (b ∷ bs) r) (got xs (b ∷ bs))) (same (leb 0 (at (b ∷ bs) 1) && ltb (at (b ∷ bs) 1) n) _ (λ x. more_limit n left more (xs ++ (x ∷ [])) (drop 5 bs) (omega arith) (omega arith)))
    where
      same : (t : Bool) (s : Start) → ((x : Start) → many 0x05 6 (λ _. read_start n) left (xs ++ (x ∷ [])) (drop 5 bs) ≡ many 0x05 6 (λ _. read_start n) more (xs ++ (x ∷ [])) (drop 5 bs))
          → then (when t (got s (drop 5 bs)) (fault (Operand OutOfRange) (b ∷ bs))) (λ x l. many 0x05 6 (λ _. read_start n) left (xs ++ (x ∷ [])) l)
          ≡ then (when t (got s (drop 5 bs)) (fault (Operand OutOfRange) (b ∷ bs))) (λ x l. many 0x05 6 (λ _. read_start n) more (xs ++ (x ∷ [])) l)
      same true s f = f s
      same false s f = refl

  module _ (counts : List ℕ) where
    piece_firm : (bs : List ℕ) → 2 ≤ length bs → Firm (read_piece counts bs) (read_piece counts (bs ++ cs))
    piece_firm bs h =
        let f = length-drop 2 bs in
        let g = length-append bs cs in
        let e = more_limit (get_or counts (at bs 1) 0) (length bs) (length (bs ++ cs)) [] (drop 2 bs) (omega arith) (omega arith) in
        firm_operand 1 0 (length counts) bs _ _ (omega arith) (rw (at_front bs cs 1 (omega arith), drop-append-le 2 bs cs h, e)
        (firm_then (read_starts (get_or counts (at bs 1) 0) (length (bs ++ cs)) (drop 2 bs)) _ _
        (many_firm 0x05 6 refl (λ _. read_start (get_or counts (at bs 1) 0)) (λ _. start_firm (get_or counts (at bs 1) 0)) (length (bs ++ cs)) [] (drop 2 bs)) (λ ss. tt) (λ ss l. firm_got _ l)))

    pieces_used : Used (read_pieces counts [])
    pieces_used = many_used 0x04 2 refl (λ _. read_piece counts) (λ _. piece_firm) most_pieces []

    pieces_firm : (bs : List ℕ) → Firm (read_pieces counts bs) (read_pieces counts (bs ++ cs))
    pieces_firm bs = many_firm 0x04 2 refl (λ _. read_piece counts) (λ _. piece_firm) most_pieces [] bs

  last_firm : (bs : List ℕ) → Firm (read_end bs) (read_end (bs ++ cs))
  last_firm [] = inl refl
  last_firm (b ∷ []) = rw (has1 (length cs)) (by (eqb b 0x06) _)
    where
      by : (t : Bool) (y : Read Unit) → Firm {A = Unit} (when t (got tt []) (fault NotCommand (b ∷ []))) (when t y (fault NotCommand (b ∷ cs)))
      by true y = tt
      by false y = inr refl
  last_firm (b ∷ (d ∷ bs)) = rw (has1 (suc (length bs)), has1 (suc (length (bs ++ cs))), two (length bs), two (length (bs ++ cs))) (by (eqb b 0x06))
    where
      two : (m : ℕ) → eqb (suc (suc m)) 1 ≡ false
      two m = ne_eqb (suc (suc m)) 1 (λ e. omega arith)

      by : (t : Bool) → Firm {A = Unit} (when t (fault NotCommand (d ∷ bs)) (fault NotCommand (b ∷ (d ∷ bs)))) (when t (fault NotCommand (d ∷ (bs ++ cs))) (fault NotCommand (b ∷ (d ∷ (bs ++ cs)))))
      by true = inr refl
      by false = inr refl

  sections_firm : (bs : List ℕ) → Firm (read_sections bs) (read_sections (bs ++ cs))
  sections_firm bs = firm_then (read_signals bs) _ _ (signals_firm bs)
      (λ ss. used_then (read_kinds ss []) _ (kinds_used ss) (λ ks. used_then (read_pieces (counts ks) []) _ (pieces_used (counts ks)) (λ ps. refl)))
      (λ ss l. firm_then (read_kinds ss l) _ _ (kinds_firm ss l) (λ ks. used_then (read_pieces (counts ks) []) _ (pieces_used (counts ks)) (λ ps. refl))
      (λ ks m. firm_then (read_pieces (counts ks) m) _ _ (pieces_firm (counts ks) m) (λ ps. refl)
      (λ ps r. firm_then (read_end r) _ _ (last_firm r) (λ _. tt) (λ _ e. firm_got _ e))))

  settle : (n : ℕ) (x y : Read Level) (f : LevelFault) → Firm x y → verdict n x ≡ Err f → (number f ≡ 11 → ⊥) → verdict (n + length cs) y ≡ Err f
  settle n (got L l) y f h e k = absurd (let z : ◌≡◌ {A = ℕ} 0 1 = cc in omega arith)
  settle n (bad x) y f (inl q) e k = absurd (k (let w : f ≡ record { reason = x.reason; byte = n - length x.from } = cc in ap number w ∙ ap number_of_reason q))
  settle n (bad x) y f (inr q) e k =
      let j = length-append x.from cs in
      let z : n + length cs - length (x.from ++ cs) ≡ n - length x.from = omega arith in
      ap (verdict (n + length cs)) q ∙ rw z e

pub settled : (bs cs : List ℕ) (f : LevelFault) → read bs ≡ Err f → (number f ≡ 11 → ⊥) → length (bs ++ cs) ≤ most_bytes → read (bs ++ cs) ≡ Err f
settled bs cs f e k h =
    let g = length-append bs cs in
    let a : read_level bs ≡ read_sections bs = rw (le-leb (length bs) most_bytes (omega arith)) in
    let b : read_level (bs ++ cs) ≡ read_sections (bs ++ cs) = rw (le-leb (length (bs ++ cs)) most_bytes h) in
    let j = settle cs (length bs) (read_sections bs) (read_sections (bs ++ cs)) f (sections_firm cs bs) (ap (verdict (length bs)) (sym a) ∙ e) k in
    ap (verdict (length (bs ++ cs))) b ∙ (ap (λ n. verdict n (read_sections (bs ++ cs))) g ∙ j)
