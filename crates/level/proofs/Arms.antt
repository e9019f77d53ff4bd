-- What reading gives at each arm of the code's matches.
use Rattle.std.proofs.Common.{◌≡◌, ℕ, zero, suc, ◌+◌, ◌-◌, ◌<◌, ◌≤◌, false, ◌&&◌, ltb, leb, List, [], ◌∷◌, length, drop, Some, None, Option, refl, ap, ◌∙◌, arith, ne_eqb, le-leb}
use borrow.Author.Tests.{lt-leb}
use Rattle.std.proofs.lemmas.Bool.Decides.{nat_tests}
use Rattle.level.specs.declared.fault.OperandFault.TheVariants.{OutOfRange}
use Rattle.level.specs.declared.fault.Reason.TheVariants.{Truncated, NotCommand, Operand, TooManyStatements}
use Rattle.level.specs.Syntax.{Operator, constant, own_piece, own, other, binary, negation, Stmt, send}
use Rattle.level.specs.Sound.{deepest, parameters}
use Rattle.level.specs.Reading.{Read, got, fault, then, room, at, operand, number, known, Form, a_constant, an_own_piece, an_own, an_other, a_binary, a_negation, form, read_form, read_expr, read_exprs, Order, order, read_order, read_stmt, end_or, read_effect}
use Rattle.level.proofs.Fronts.{inside}
use Rattle.level.proofs.Steps.{Named}
use Rattle.level.proofs.Expressions.{lead, form_named}

pub room_in : {A : Type 0} (k : ℕ) (bs : List ℕ) (r : Read A) → k ≤ length bs → room k bs r ≡ r
room_in k bs r h = rw (le-leb k (length bs) h)

pub room_out : {A : Type 0} (k : ℕ) (bs : List ℕ) (r : Read A) → length bs < k → room k bs r ≡ fault Truncated []
room_out k bs r h = rw (lt-leb k (length bs) h)

-- an operand in its range, below it or over it
pub operand_in : {A : Type 0} (k least limit : ℕ) (bs : List ℕ) (r : Read A) → least ≤ at bs k → at bs k < limit → operand k least limit bs r ≡ r
operand_in k least limit bs r h u = rw (inside least (at bs k) limit h u)

pub operand_over : {A : Type 0} (k least limit : ℕ) (bs : List ℕ) (r : Read A) → limit ≤ at bs k → operand k least limit bs r ≡ fault (Operand OutOfRange) bs
operand_over k least limit bs r h = let e : (leb least (at bs k) && ltb (at bs k) limit) ≡ false = grind (arith, nat_tests) in rw e

pub operand_under : {A : Type 0} (k least limit : ℕ) (bs : List ℕ) (r : Read A) → at bs k < least → operand k least limit bs r ≡ fault (Operand OutOfRange) bs
operand_under k least limit bs r h = let e : (leb least (at bs k) && ltb (at bs k) limit) ≡ false = grind (arith, nat_tests) in rw e

-- expressions
pub expr_past : (d n : ℕ) (bs : List ℕ) → length bs < 1 → read_expr d n bs ≡ fault Truncated []
expr_past zero n bs h = room_out 1 bs _ h
expr_past (suc d) n bs h = room_out 1 bs _ h

-- at a numeral `b` the form computes
pub expr_at : (d n : ℕ) (bs : List ℕ) → 0 < d → 1 ≤ length bs → (b : ℕ) → at bs 0 ≡ b → read_expr d n bs ≡ known bs (form b) (read_form n (read_expr (d - 1) n) bs)
expr_at zero n bs h o b e = absurd (omega arith)
expr_at (suc d) n bs h o b e = let k : suc d - 1 ≡ d = omega arith in room_in 1 bs _ o ∙ rw (k, e)

form_out : (b : ℕ) → (16 ≤ b → b ≤ 29 → ⊥) → form b ≡ None
form_out b n = grind arith

pub expr_none : (d n : ℕ) (bs : List ℕ) → 1 ≤ length bs → (16 ≤ at bs 0 → at bs 0 ≤ 29 → ⊥) → read_expr d n bs ≡ fault NotCommand bs
expr_none zero n bs o h = room_in 1 bs _ o ∙ rw (form_out (at bs 0) h)
expr_none (suc d) n bs o h = room_in 1 bs _ o ∙ rw (form_out (at bs 0) h)

form_in : (b : ℕ) → 16 ≤ b → b ≤ 29 → form b ≡ None → ⊥
form_in b l u e = let z : ◌≡◌ {A = ℕ} 0 1 = grind arith in omega arith

binary_lead : (f : Form) → 20 ≤ lead f → lead f ≤ 28 → (op : Operator) × (f ≡ a_binary op)
binary_lead a_constant l u = absurd (omega arith)
binary_lead an_own_piece l u = absurd (omega arith)
binary_lead an_own l u = absurd (omega arith)
binary_lead an_other l u = absurd (omega arith)
binary_lead (a_binary op) l u = (op, refl)
binary_lead a_negation l u = absurd (omega arith)

pub form_binary : (b : ℕ) → 20 ≤ b → b ≤ 28 → (op : Operator) × (form b ≡ Some (a_binary op))
form_binary b l u = by (form b) refl (form_named b)
  where
    by : (o : Option Form) → form b ≡ o → Named lead b o → (op : Operator) × (form b ≡ Some (a_binary op))
    by None e n = absurd (form_in b (omega arith) (omega arith) e)
    by (Some f) e n = let k = binary_lead f (omega arith) (omega arith) in (k.0, e ∙ ap Some k.1)

module _ (d n : ℕ) (bs : List ℕ) (deep : 0 < d) (some : 1 ≤ length bs) where
  pub constant_short : at bs 0 ≡ 16 → length bs < 5 → read_expr d n bs ≡ fault Truncated []
  constant_short b h = expr_at d n bs deep some 16 b ∙ room_out 5 bs _ h

  pub constant_is : at bs 0 ≡ 16 → 5 ≤ length bs → read_expr d n bs ≡ got (constant (number (at bs 1) (at bs 2) (at bs 3) (at bs 4))) (drop 5 bs)
  constant_is b h = expr_at d n bs deep some 16 b ∙ room_in 5 bs _ h

  pub own_piece_is : at bs 0 ≡ 17 → read_expr d n bs ≡ got own_piece (drop 1 bs)
  own_piece_is b = expr_at d n bs deep some 17 b

  pub own_short : at bs 0 ≡ 18 → length bs < 2 → read_expr d n bs ≡ fault Truncated []
  own_short b h = expr_at d n bs deep some 18 b ∙ room_out 2 bs _ h

  pub own_over : at bs 0 ≡ 18 → 2 ≤ length bs → n ≤ at bs 1 → read_expr d n bs ≡ fault (Operand OutOfRange) bs
  own_over b h u = expr_at d n bs deep some 18 b ∙ (room_in 2 bs _ h ∙ operand_over 1 0 n bs _ u)

  pub own_is : at bs 0 ≡ 18 → 2 ≤ length bs → at bs 1 < n → read_expr d n bs ≡ got (own (at bs 1)) (drop 2 bs)
  own_is b h u = expr_at d n bs deep some 18 b ∙ (room_in 2 bs _ h ∙ operand_in 1 0 n bs _ (omega arith) u)

  pub other_short : at bs 0 ≡ 19 → length bs < 2 → read_expr d n bs ≡ fault Truncated []
  other_short b h = expr_at d n bs deep some 19 b ∙ room_out 2 bs _ h

  pub other_over : at bs 0 ≡ 19 → 2 ≤ length bs → 8 ≤ at bs 1 → read_expr d n bs ≡ fault (Operand OutOfRange) bs
  other_over b h u = expr_at d n bs deep some 19 b ∙ (room_in 2 bs _ h ∙ operand_over 1 0 8 bs _ u)

  pub other_is : at bs 0 ≡ 19 → 2 ≤ length bs → at bs 1 < 8 → read_expr d n bs ≡ then (read_expr (d - 1) n (drop 2 bs)) (λ e l. got (other (at bs 1) e) l)
  other_is b h u = expr_at d n bs deep some 19 b ∙ (room_in 2 bs _ h ∙ operand_in 1 0 8 bs _ (omega arith) u)

  pub binary_is : 20 ≤ at bs 0 → at bs 0 ≤ 28
      → (op : Operator) × (read_expr d n bs ≡ then (read_expr (d - 1) n (drop 1 bs)) (λ e l. then (read_expr (d - 1) n l) (λ f m. got (binary op e f) m)))
  binary_is l u = let k = form_binary (at bs 0) l u in (k.0, expr_at d n bs deep some (at bs 0) refl ∙ rw k.1)

  pub negation_is : at bs 0 ≡ 29 → read_expr d n bs ≡ then (read_expr (d - 1) n (drop 1 bs)) (λ e l. got (negation e) l)
  negation_is b = expr_at d n bs deep some 29 b

-- statements and effects
module _ (signals : List ℕ) (n : ℕ) (bs : List ℕ) where
  -- at a numeral `b` the order computes
  pub stmt_at : 1 ≤ length bs → (b : ℕ) → at bs 0 ≡ b → read_stmt signals n bs ≡ known bs (order b) (read_order signals n bs)
  stmt_at o b e = room_in 1 bs _ o ∙ rw e

  module _ (some : 1 ≤ length bs) (two : 2 ≤ length bs) (b : at bs 0 ≡ 34) where
    pub send_is : (p : ℕ) → 1 ≤ at bs 1 → at bs 1 ≤ length signals → parameters signals (at bs 1) ≡ p
        → read_stmt signals n bs ≡ then (read_expr deepest n (drop 2 bs)) (λ e l. then (read_exprs p n l) (λ es m. got (send (at bs 1) e es) m))
    send_is p l u e = stmt_at some 34 b ∙ (room_in 2 bs _ two ∙ (operand_in 1 1 (length signals + 1) bs _ l (omega arith) ∙ rw e))

  order_out : (b : ℕ) → (32 ≤ b → b ≤ 34 → ⊥) → order b ≡ None
  order_out b h = grind arith

  pub stmt_none : 1 ≤ length bs → (32 ≤ at bs 0 → at bs 0 ≤ 34 → ⊥) → read_stmt signals n bs ≡ fault NotCommand bs
  stmt_none o h = room_in 1 bs _ o ∙ rw (order_out (at bs 0) h)

  pub effect_past : (k : ℕ) → length bs < 1 → read_effect signals n k bs ≡ fault Truncated []
  effect_past zero h = room_out 1 bs _ h
  effect_past (suc k) h = room_out 1 bs _ h

  pub effect_none : (k : ℕ) → 1 ≤ length bs → (at bs 0 ≡ 0 → ⊥) → (32 ≤ at bs 0 → at bs 0 ≤ 34 → ⊥) → read_effect signals n k bs ≡ fault NotCommand bs
  effect_none zero o z h = room_in 1 bs _ o ∙ rw (ne_eqb (at bs 0) 0 z, order_out (at bs 0) h)
  effect_none (suc k) o z h = room_in 1 bs _ o ∙ rw (ne_eqb (at bs 0) 0 z, order_out (at bs 0) h)

  pub effect_ends : (k : ℕ) → 1 ≤ length bs → at bs 0 ≡ 0 → read_effect signals n k bs ≡ got [] (drop 1 bs)
  effect_ends zero o e = room_in 1 bs _ o ∙ rw e
  effect_ends (suc k) o e = room_in 1 bs _ o ∙ rw e

  -- a statement more
  one_more : 1 ≤ length bs → 32 ≤ at bs 0 → at bs 0 ≤ 34 → (more : Read (List Stmt)) → end_or signals n bs more ≡ more
  one_more o l u more = room_in 1 bs _ o ∙ rw (ne_eqb (at bs 0) 0 (λ e. omega arith)) (by (order (at bs 0)) (λ e. let z : ◌≡◌ {A = ℕ} 0 1 = grind arith in omega arith))
    where
      by : (o : Option Order) → (o ≡ None → ⊥) → known bs o (λ _. more) ≡ more
      by None k = absurd (k refl)
      by (Some f) k = refl

  pub effect_full : (k : ℕ) → k ≡ 0 → 1 ≤ length bs → 32 ≤ at bs 0 → at bs 0 ≤ 34 → read_effect signals n k bs ≡ fault TooManyStatements bs
  effect_full zero e o l u = one_more o l u _
  effect_full (suc k) e o l u = absurd (omega arith)

  pub effect_more : (k : ℕ) → 0 < k → 1 ≤ length bs → 32 ≤ at bs 0 → at bs 0 ≤ 34
      → read_effect signals n k bs ≡ then (read_stmt signals n bs) (λ c l. then (read_effect signals n (k - 1) l) (λ cs m. got (c ∷ cs) m))
  effect_more zero h o l u = absurd (omega arith)
  effect_more (suc k) h o l u = let z : suc k - 1 ≡ k = omega arith in one_more o l u _ ∙ rw z
