-- The rows after one cell of one row is written.
use Rattle.std.proofs.Common.{◌≡◌, ℕ, ◌<◌, Bool, true, false, cond, ◌&&◌, eqb, List, length, get_or, set, ℤ, pos, sym, refl, ap, ◌∙◌, ⊎_elim, arith}
use mathlib.Core.Path.{fun_ext}
use Rattle.std.proofs.lemmas.List.{get_or-set_same, get_or-set_other}
use Rattle.std.proofs.lemmas.Bool.{cases_Bool, eqb-true, eqb-false, cond-true, cond-false, lt-ltb, and_from}
use Rattle.rules.specs.declared.trail.Change.{Change}
use Rattle.rules.specs.Game.{with_number}
use Rattle.evaluator.specs.declared.table.Row.{Row}
use Rattle.evaluator.specs.declared.table.Table.{Table}
use Rattle.evaluator.specs.Rows.{no_row, row_of, numbers_of, written}

set_at : {A : Type 0} (l : List A) (i j : ℕ) (v d : A) → i < length l → get_or (set l i v) j d ≡ cond (eqb i j) v (get_or l j d)
set_at l i j v d h = ⊎_elim
    (λ e. ap (λ k. get_or (set l i v) k d) (sym (eqb-true i j e)) ∙ get_or-set_same l i v d h ∙ sym (cond-true (eqb i j) v (get_or l j d) e))
    (λ e. get_or-set_other l i j v d (λ u. eqb-false i j e (sym u)) ∙ sym (cond-false (eqb i j) v (get_or l j d) e))
    (cases_Bool (eqb i j))

module _ (t : Table) (c : Change) (piece : c.piece < 32) (number : c.number < 8) (eight : length (row_of t c.piece).numbers ≡ 8) (v : ℤ) (e : v ≡ c.value) where
  -- the row of the change, with its number written
  abbrev new : Row
  new = record { state = (row_of t c.piece).state; numbers = set (row_of t c.piece).numbers c.number v }

  row_at : (q : ℕ) → get_or (set t.rows c.piece new) q no_row ≡ cond (eqb c.piece q) new (row_of t q)
  row_at q = set_at t.rows c.piece q new no_row (let w = t.whole in omega arith)

  number_at : (q a : ℕ) (b : Bool) → (b ≡ true → c.piece ≡ q) → get_or (cond b new (row_of t q)).numbers a (pos 0) ≡ cond (b && eqb c.number a) c.value (numbers_of t q a)
  number_at q a true h =
      set_at (row_of t c.piece).numbers c.number a v (pos 0) (omega arith)
      ∙ ap (λ w. cond (eqb c.number a) w (numbers_of t c.piece a)) e
      ∙ ap (λ p. cond (eqb c.number a) c.value (numbers_of t p a)) (h refl)
  number_at q a false h = refl

  pub number_written : (λ q a. get_or (get_or (set t.rows c.piece new) q no_row).numbers a (pos 0)) ≡ written (numbers_of t) c
  number_written =
      fun_ext (λ q. fun_ext (λ a. ap (λ r. get_or r.numbers a (pos 0)) (row_at q) ∙ number_at q a (eqb c.piece q) (eqb-true c.piece q)))
      ∙ sym (cond-true _ (with_number (numbers_of t) c.piece c.number c.value) (numbers_of t) (and_from _ _ (lt-ltb _ _ piece) (lt-ltb _ _ number)))
