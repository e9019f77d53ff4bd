-- Statements, effects and transitions: what is read is spelled, and what is spelled is read.
use Rattle.std.proofs.Common.{◌≡◌, ℕ, zero, suc, ◌+◌, ◌<◌, ◌≤◌, eqb, List, [], ◌∷◌, ◌++◌, length, drop, refl, ap, ◌∙◌, append_assoc, arith, eqb-true}
use Rattle.level.specs.Syntax.{Stmt, assign, store, send, Transition}
use Rattle.level.specs.Spelling.{expression, all, statement, effect, receivers, transition}
use Rattle.level.specs.Sound.{SoundExpr, Each, deepest, most_statements, parameters, SoundStmt, SoundTransition}
use Rattle.level.specs.Reading.{Read, got, at, operand, read_expr, read_exprs, Order, an_assign, a_store, a_send, orders, order, read_order, read_stmt, end_or, read_effect, read_code, read_received, read_transition}
use Rattle.level.specs.Law.{Bytes}
use Rattle.level.proofs.Fronts.{front, bytes_drop, inside}
use Rattle.level.proofs.Steps.{Reads, reads_then, reads_when, reads_operand, reads_room, reads_known, Named, named, has1, has2}
use Rattle.level.proofs.Expressions.{expr_reads, expr_read, exprs_reads, exprs_read}

abbrev pub lead : Order → ℕ
lead an_assign = 0x20
lead a_store = 0x21
lead a_send = 0x22

pub order_named : (b : ℕ) → Named lead b (order b)
order_named = named lead orders (refl, (refl, (refl, tt)))

module _ (signals : List ℕ) (n : ℕ) where
  order_reads : (bs : List ℕ) → Bytes bs → (o : Order) → lead o ≡ at bs 0 → Reads (SoundStmt signals n) statement bs (read_order signals n bs o)
  order_reads bs y an_assign b = reads_room _ _ 2 bs bs _ (λ h.
      reads_operand _ _ bs 1 0 n bs _ (λ z u.
      reads_then _ _ _ _ (drop 2 bs) bs (read_expr deepest n (drop 2 bs)) _ (bytes_drop 2 bs y) (expr_reads deepest n (drop 2 bs) (bytes_drop 2 bs y)) (λ e m w q s.
      (front 2 bs h ∙ rw (← b, q), (u, s)))))
  order_reads bs y a_store b = reads_room _ _ 2 bs bs _ (λ h.
      reads_operand _ _ bs 1 0 8 bs _ (λ z u.
      reads_then _ _ _ _ (drop 2 bs) bs (read_expr deepest n (drop 2 bs)) _ (bytes_drop 2 bs y) (expr_reads deepest n (drop 2 bs) (bytes_drop 2 bs y)) (λ e m w q s.
      reads_then _ _ _ _ m bs (read_expr deepest n m) _ w (expr_reads deepest n m w) (λ f l w' q' s'.
      (front 2 bs h ∙ rw (← b, q, q', append_assoc), (u, s, s'))))))
  order_reads bs y a_send b = reads_room _ _ 2 bs bs _ (λ h.
      reads_operand _ _ bs 1 1 (length signals + 1) bs _ (λ z u.
      reads_then _ _ _ _ (drop 2 bs) bs (read_expr deepest n (drop 2 bs)) _ (bytes_drop 2 bs y) (expr_reads deepest n (drop 2 bs) (bytes_drop 2 bs y)) (λ e m w q s.
      reads_then _ _ _ _ m bs (read_exprs (parameters signals (at bs 1)) n m) _ w (exprs_reads (parameters signals (at bs 1)) n m w) (λ es l w' q' s'.
      (front 2 bs h ∙ rw (← b, q, q', append_assoc), (z, omega arith, s, s'.0, s'.1))))))

  pub stmt_reads : (bs : List ℕ) → Bytes bs → Reads (SoundStmt signals n) statement bs (read_stmt signals n bs)
  stmt_reads bs y = reads_room _ _ 1 bs bs _ (λ o. reads_known _ _ lead bs (at bs 0) (order (at bs 0)) _ (order_named (at bs 0)) (order_reads bs y))

  abbrev pub SoundEffect : ℕ → List Stmt → Type 0
  SoundEffect k cs = (length cs ≤ k) × Each (SoundStmt signals n) cs

  end_reads : (k : ℕ) (bs : List ℕ) (more : Read (List Stmt)) → Reads (SoundEffect k) effect bs more → Reads (SoundEffect k) effect bs (end_or signals n bs more)
  end_reads k bs more r = reads_room _ _ 1 bs bs _ (λ o. reads_when _ _ bs (eqb (at bs 0) 0x00) _ _ (λ t. (front 1 bs o ∙ rw (eqb-true _ _ t), (omega arith, tt)))
      (reads_known _ _ lead bs (at bs 0) (order (at bs 0)) (λ o. more) (order_named (at bs 0)) (λ f e. r)))

  pub effect_reads : (k : ℕ) (bs : List ℕ) → Bytes bs → Reads (SoundEffect k) effect bs (read_effect signals n k bs)
  effect_reads zero bs y = end_reads 0 bs _ tt
  effect_reads (suc k) bs y = end_reads (suc k) bs _ (
      reads_then _ _ _ _ bs bs (read_stmt signals n bs) _ y (stmt_reads bs y) (λ c m w q s.
      reads_then _ _ _ _ m bs (read_effect signals n k m) _ w (effect_reads k m w) (λ cs l w' q' s'.
      (q ∙ rw (q', append_assoc), (omega arith, (s, s'.1))))))

  stmt_read : (c : Stmt) (l : List ℕ) → SoundStmt signals n c → read_stmt signals n (statement c ++ l) ≡ got c l
  stmt_read (assign a e) l s = rw (has1, has2, inside 0 a n (omega arith) s.0, expr_read deepest n e l s.1)
  stmt_read (store a e f) l s =
      rw (has1, has2, inside 0 a 8 (omega arith) s.0, append_assoc, expr_read deepest n e (expression f ++ l) s.1, expr_read deepest n f l s.2)
  stmt_read (send x e es) l s =
      rw (has1, has2, inside 1 x (length signals + 1) s.0 (let h = s.1 in omega arith), append_assoc, expr_read deepest n e (all expression es ++ l) s.2, exprs_read (parameters signals x) n es l s.3 s.4)

  -- a statement opens with its own command, so that what follows it is read on
  opens : (c : Stmt) (l : List ℕ) (more : Read (List Stmt)) → end_or signals n (statement c ++ l) more ≡ more
  opens (assign a e) l more = rw has1
  opens (store a e f) l more = rw has1
  opens (send x e es) l more = rw has1

  pub effect_read : (k : ℕ) (cs : List Stmt) (l : List ℕ) → length cs ≤ k → Each (SoundStmt signals n) cs → read_effect signals n k (effect cs ++ l) ≡ got cs l
  effect_read zero [] l h s = rw has1
  effect_read zero (c ∷ cs) l h s = absurd (omega arith)
  effect_read (suc k) [] l h s = rw has1
  effect_read (suc k) (c ∷ cs) l h s =
      ap (read_effect signals n (suc k)) (append_assoc (statement c) (effect cs) l)
      ∙ (opens c (effect cs ++ l) _ ∙ rw (stmt_read c (effect cs ++ l) s.0, effect_read k cs l (omega arith) s.1))

  module _ (m : ℕ) (bs : List ℕ) (y : Bytes bs) (h : 6 ≤ length bs) (b : at bs 0 ≡ 0x03) where
    -- once the operands are known
    code_reads : (ps : List ℕ) → at bs 1 < m → at bs 2 < m → at bs 3 < length signals + 1 → length ps ≡ parameters signals (at bs 3) → Each (λ a. a < n) ps
        → receivers ps ≡ at bs 4 ∷ (at bs 5 ∷ []) → Reads (SoundTransition signals n m) transition bs (read_code signals n (at bs 1) (at bs 2) (at bs 3) ps (drop 6 bs))
    code_reads ps f t s c i r =
        reads_then (SoundExpr deepest n) expression (SoundTransition signals n m) transition (drop 6 bs) bs (read_expr deepest n (drop 6 bs)) _ (bytes_drop 6 bs y) (expr_reads deepest n (drop 6 bs) (bytes_drop 6 bs y)) (λ e l w q v.
        reads_then (SoundEffect most_statements) effect (SoundTransition signals n m) transition l bs (read_effect signals n most_statements l) _ w (effect_reads most_statements l w) (λ cs l' w' q' v'. (
          front 6 bs h ∙ rw (b, r, q, q', append_assoc),
          record { source = f; target = t; signal = omega arith; receives = c; receivers = i; guard = v; statements = v'.0; effect = v'.1 },
        )))

    must : (k least limit : ℕ) (r : Read Transition) → (least ≤ at bs k → at bs k < limit → Reads (SoundTransition signals n m) transition bs r)
        → Reads (SoundTransition signals n m) transition bs (operand k least limit bs r)
    must k least limit r f = reads_operand (SoundTransition signals n m) transition bs k least limit bs r f

    received_reads : at bs 1 < m → at bs 2 < m → at bs 3 < length signals + 1 → (c : ℕ) → c ≡ parameters signals (at bs 3) → c ≤ 2
        → Reads (SoundTransition signals n m) transition bs (read_received signals n c bs)
    received_reads f t s zero e k = must 4 0xFF 0x100 _ (λ p q. must 5 0xFF 0x100 _ (λ p' q'.
        let u : at bs 4 ≡ 0xFF = omega arith in let v : at bs 5 ≡ 0xFF = omega arith in code_reads [] f t s e tt (rw (u, v))))
    received_reads f t s (suc zero) e k = must 4 0 n _ (λ p q. must 5 0xFF 0x100 _ (λ p' q'.
        let v : at bs 5 ≡ 0xFF = omega arith in code_reads (at bs 4 ∷ []) f t s e (q, tt) (rw v)))
    received_reads f t s (suc (suc zero)) e k = must 4 0 n _ (λ p q. must 5 0 n _ (λ p' q'.
        code_reads (at bs 4 ∷ (at bs 5 ∷ [])) f t s e (q, (q', tt)) refl))
    received_reads f t s (suc (suc (suc c))) e k = absurd (omega arith)

    pub transition_reads : parameters signals (at bs 3) ≤ 2 → Reads (SoundTransition signals n m) transition bs (read_transition signals n m bs)
    transition_reads few = must 1 0 m _ (λ z f. must 2 0 m _ (λ z t. must 3 0 (length signals + 1) _ (λ z s.
        received_reads f t s (parameters signals (at bs 3)) refl few)))

  pub receivers_two : (ps : List ℕ) → receivers ps ≡ at (receivers ps) 0 ∷ (at (receivers ps) 1 ∷ [])
  receivers_two [] = refl
  receivers_two (p ∷ []) = refl
  receivers_two (p ∷ (q ∷ ps)) = refl

  -- the places of receiving, where there are as many as parameters
  received_read : (ps bs : List ℕ) → length ps ≤ 2 → Each (λ a. a < n) ps → at bs 4 ≡ at (receivers ps) 0 → at bs 5 ≡ at (receivers ps) 1
      → read_received signals n (length ps) bs ≡ read_code signals n (at bs 1) (at bs 2) (at bs 3) ps (drop 6 bs)
  received_read [] bs h s p q = rw (p, q)
  received_read (a ∷ []) bs h s p q = rw (p, q, inside 0 a n (omega arith) s.0)
  received_read (a ∷ (b ∷ [])) bs h s p q = rw (p, q, inside 0 a n (omega arith) s.0, inside 0 b n (omega arith) s.1.0)
  received_read (a ∷ (b ∷ (x ∷ ps))) bs h s p q = absurd (omega arith)

  pub transition_read : (m : ℕ) (t : Transition) (l : List ℕ) → parameters signals t.signal ≤ 2 → SoundTransition signals n m t
      → read_transition signals n m (transition t ++ l) ≡ got t l
  transition_read m t l few s =
      let j = s.signal in
      let c = s.receives in
      let body = 0x03 ∷ (t.source ∷ (t.target ∷ (t.signal ∷ (at (receivers t.receives) 0 ∷ (at (receivers t.receives) 1 ∷ ((expression t.guard ++ effect t.effect) ++ l)))))) in
      let r : read_received signals n (parameters signals t.signal) body ≡ read_code signals n t.source t.target t.signal t.receives ((expression t.guard ++ effect t.effect) ++ l)
      = rw (← c) (received_read t.receives body (omega arith) s.receivers refl refl) in
      rw (
        receivers_two t.receives,
        inside 0 t.source m (omega arith) s.source,
        inside 0 t.target m (omega arith) s.target,
        inside 0 t.signal (length signals + 1) (omega arith) (omega arith),
      )
      (r ∙ rw (append_assoc, expr_read deepest n t.guard (effect t.effect ++ l) s.guard, effect_read most_statements t.effect l s.statements s.effect))
