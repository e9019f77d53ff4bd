-- Expressions: what is read is spelled, and what is spelled is read.
use Rattle.std.proofs.Common.{◌≡◌, ℕ, zero, suc, ◌≤◌, List, [], ◌∷◌, ◌++◌, length, drop, Some, sym, refl, ap, ◌∙◌, append_assoc, arith, w32, of_z}
use Rattle.level.specs.Syntax.{Operator, sum, difference, product, quotient, remainder, equal, less, and, or, Expr, constant, own_piece, own, other, binary, negation}
use Rattle.level.specs.Spelling.{command, expression, all}
use Rattle.level.specs.Sound.{SoundExpr, Each, deepest}
use Rattle.level.specs.Reading.{Read, got, at, Form, a_constant, an_own_piece, an_own, an_other, a_binary, a_negation, forms, form, read_form, read_expr, read_exprs}
use Rattle.level.specs.Law.{Bytes}
use Rattle.level.proofs.Fronts.{front, bytes_drop, word_number, fits_number, number_word, inside}
use Rattle.level.proofs.Steps.{Reads, reads_then, reads_operand, reads_room, reads_known, Named, named, has1, has2, has5}

-- the byte of a form
abbrev pub lead : Form → ℕ
lead a_constant = 0x10
lead an_own_piece = 0x11
lead an_own = 0x12
lead an_other = 0x13
lead (a_binary op) = command op
lead a_negation = 0x1D

pub form_named : (b : ℕ) → Named lead b (form b)
form_named = named lead forms (refl, (refl, (refl, (refl, (refl, (refl, (refl, (refl, (refl, (refl, (refl, (refl, (refl, (refl, tt))))))))))))))

module _ (d n : ℕ) (more : List ℕ → Read Expr) (ih : (bs : List ℕ) → Bytes bs → Reads (SoundExpr d n) expression bs (more bs)) where
  form_reads : (bs : List ℕ) → Bytes bs → 1 ≤ length bs → (f : Form) → lead f ≡ at bs 0 → Reads (SoundExpr (suc d) n) expression bs (read_form n more bs f)
  form_reads bs y o a_constant b = reads_room _ _ 5 bs bs _ (λ h.
      (front 5 bs h ∙ rw (← b) (ap (λ w. 0x10 ∷ (w ++ drop 5 bs)) (sym (word_number bs y 1 2 3 4))), fits_number bs y 1 2 3 4))
  form_reads bs y o an_own_piece b = (front 1 bs o ∙ rw (← b), tt)
  form_reads bs y o an_own b = reads_room _ _ 2 bs bs _ (λ h. reads_operand _ _ bs 1 0 n bs _ (λ z u. (front 2 bs h ∙ rw (← b), u)))
  form_reads bs y o an_other b = reads_room _ _ 2 bs bs _ (λ h. reads_operand _ _ bs 1 0 8 bs _ (λ z u.
      reads_then _ _ _ _ (drop 2 bs) bs (more (drop 2 bs)) _ (bytes_drop 2 bs y) (ih (drop 2 bs) (bytes_drop 2 bs y)) (λ e m w q s.
      (front 2 bs h ∙ rw (← b, q), (u, s)))))
  form_reads bs y o (a_binary op) b =
      reads_then _ _ _ _ (drop 1 bs) bs (more (drop 1 bs)) _ (bytes_drop 1 bs y) (ih (drop 1 bs) (bytes_drop 1 bs y)) (λ e m w q s.
      reads_then _ _ _ _ m bs (more m) _ w (ih m w) (λ f l w' q' s'.
      (front 1 bs o ∙ rw (← b, q, q', append_assoc), (s, s'))))
  form_reads bs y o a_negation b =
      reads_then _ _ _ _ (drop 1 bs) bs (more (drop 1 bs)) _ (bytes_drop 1 bs y) (ih (drop 1 bs) (bytes_drop 1 bs y)) (λ e m w q s. (front 1 bs o ∙ rw (← b, q), s))

pub expr_reads : (d n : ℕ) (bs : List ℕ) → Bytes bs → Reads (SoundExpr d n) expression bs (read_expr d n bs)
expr_reads zero n bs y = reads_room _ _ 1 bs bs _ (λ o. reads_known _ _ lead bs (at bs 0) (form (at bs 0)) _ (form_named (at bs 0)) (λ f e. tt))
expr_reads (suc d) n bs y = reads_room _ _ 1 bs bs _ (λ o.
    reads_known _ _ lead bs (at bs 0) (form (at bs 0)) _ (form_named (at bs 0)) (form_reads d n (read_expr d n) (expr_reads d n) bs y o))

formed : (op : Operator) → form (command op) ≡ Some (a_binary op)
formed sum = refl
formed difference = refl
formed product = refl
formed quotient = refl
formed remainder = refl
formed equal = refl
formed less = refl
formed and = refl
formed or = refl

pub expr_read : (d n : ℕ) (e : Expr) (l : List ℕ) → SoundExpr d n e → read_expr d n (expression e ++ l) ≡ got e l
expr_read zero n e l s = absurd s
expr_read (suc d) n (constant z) l s = rw (has1, has5) (ap (λ v. got (constant v) l) (number_word z s (of_z w32 z) refl))
expr_read (suc d) n own_piece l s = rw has1
expr_read (suc d) n (own a) l s = rw (has1, has2, inside 0 a n (omega arith) s)
expr_read (suc d) n (other a e) l s = rw (has1, has2, inside 0 a 8 (omega arith) s.0, expr_read d n e l s.1)
expr_read (suc d) n (binary op e f) l s = rw (has1, formed op, append_assoc, expr_read d n e (expression f ++ l) s.0, expr_read d n f l s.1)
expr_read (suc d) n (negation e) l s = rw (has1, expr_read d n e l s)

-- several expressions
pub exprs_reads : (k n : ℕ) (bs : List ℕ) → Bytes bs → Reads (λ es. (length es ≡ k) × Each (SoundExpr deepest n) es) (all expression) bs (read_exprs k n bs)
exprs_reads zero n bs y = (refl, (refl, tt))
exprs_reads (suc k) n bs y =
    reads_then _ _ _ _ bs bs (read_expr deepest n bs) _ y (expr_reads deepest n bs y) (λ e m w q s.
    reads_then _ _ _ _ m bs (read_exprs k n m) _ w (exprs_reads k n m w) (λ es l w' q' s'.
    (q ∙ rw (q', append_assoc), (ap suc s'.0, (s, s'.1)))))

pub exprs_read : (k n : ℕ) (es : List Expr) (l : List ℕ) → length es ≡ k → Each (SoundExpr deepest n) es → read_exprs k n (all expression es ++ l) ≡ got es l
exprs_read zero n [] l e s = refl
exprs_read zero n (x ∷ es) l e s = absurd (omega arith)
exprs_read (suc k) n [] l e s = absurd (omega arith)
exprs_read (suc k) n (x ∷ es) l e s = rw (append_assoc, expr_read deepest n x (all expression es ++ l) s.0, exprs_read k n es l (omega arith) s.1)
