-- The rows of a game set out, and of one that nobody has set out.
use Rattle.std.proofs.Common.{◌≡◌, ℕ, zero, suc, ◌+◌, ◌<◌, ◌≤◌, ◌⊎◌, List, [], ◌∷◌, map, length, get_or, set, replicate, ℤ, pos, Some, None, Option, refl, ap, ◌∙◌, inl, inr, arith}
use mathlib.Core.Path.{fun_ext}
use Rattle.std.specs.Option.{option_map_or}
use Rattle.std.proofs.lemmas.List.{get_or_past, get_or-set_same, get_or-set_other}
use Rattle.std.proofs.lemmas.Bool.{cases_eq, cases_lt}
use Rattle.mail.specs.Trays.{Trays, no_messages}
use Rattle.level.specs.Entries.{piece_entry}
use Rattle.level.specs.Syntax.{Piece, Level}
use Rattle.level.specs.Tables.{nth}
use Rattle.evaluator.specs.declared.table.Row.{Row}
use Rattle.evaluator.specs.declared.table.Table.{Table}
use Rattle.evaluator.specs.Rows.{no_row, row_of, states_of, numbers_of}
use Rattle.rules.specs.Game.{Game, first_numbers, set_out}
use Rattle.game.specs.Games.{row_start, unmoved}

-- the starting numbers of a piece that the level has, and of one that it has not
pub start_of : (cs : List ℕ) (ps : List Piece) (p : ℕ) → option_map_or (λ e. e.starts) (nth (map (piece_entry cs) ps) p) (replicate 8 (pos 0)) ≡ row_start (nth ps p)
start_of cs [] p = refl
start_of cs (x ∷ ps) zero = refl
start_of cs (x ∷ ps) (suc p) = start_of cs ps p

-- the row of a piece as it is set out
abbrev pub first_row : Level → ℕ → Row
first_row L p = record { state = 0; numbers = row_start (nth L.pieces p) }

-- the rows up to piece n are set out
abbrev pub SetOut : Level → Table → ℕ → Type 0
SetOut L t n = (p : ℕ) → p < n → row_of t p ≡ first_row L p

zeros : (n a : ℕ) → get_or (replicate n (pos 0)) a (pos 0) ≡ pos 0
zeros zero a = refl
zeros (suc n) zero = refl
zeros (suc n) (suc a) = zeros n a

start_same : (o : Option Piece) (a : ℕ) → get_or (row_start o) a (pos 0) ≡ get_or (first_numbers o) a (pos 0)
start_same None a = zeros 8 a
start_same (Some x) a = refl

nth_beyond : (ps : List Piece) (p : ℕ) → length ps ≤ p → nth ps p ≡ None
nth_beyond [] p h = refl
nth_beyond (x ∷ ps) zero h = absurd (omega arith)
nth_beyond (x ∷ ps) (suc p) h = nth_beyond ps p (omega arith)

-- one row more
pub one_more : (L : Level) (t u : Table) (p : ℕ) (numbers : List ℤ) → SetOut L t p → p < 32 → numbers ≡ row_start (nth L.pieces p)
    → u.rows ≡ set t.rows p (record { state = 0; numbers = numbers }) → SetOut L u (p + 1)
one_more L t u p numbers h k e r q j = by (cases_eq q p)
  where
    by : (q ≡ p) ⊎ (q ≡ p → ⊥) → row_of u q ≡ first_row L q
    by (inl s) =
        let w = t.whole in
        let z : p < length t.rows = omega arith in
        rw (r, s) (get_or-set_same t.rows p _ no_row z ∙ ap (λ n. record { state = 0; numbers = n }) e)
    by (inr s) = rw r (get_or-set_other t.rows p q _ no_row s ∙ h q (omega arith))

-- all rows, and what lies past them
module _ (L : Level) (t : Table) (few : length L.pieces ≤ 32) (h : SetOut L t 32) where
  past : (p : ℕ) → 32 ≤ p → row_of t p ≡ no_row
  past p k = get_or_past t.rows p no_row (let w = t.whole in omega arith)

  state_at : (p : ℕ) → (p < 32) ⊎ (32 ≤ p) → states_of t p ≡ 0
  state_at p (inl k) = ap (λ r. r.state) (h p k)
  state_at p (inr k) = ap (λ r. r.state) (past p k)

  number_at : (p a : ℕ) → (p < 32) ⊎ (32 ≤ p) → numbers_of t p a ≡ get_or (first_numbers (nth L.pieces p)) a (pos 0)
  number_at p a (inl k) = ap (λ r. get_or r.numbers a (pos 0)) (h p k) ∙ start_same (nth L.pieces p) a
  number_at p a (inr k) = ap (λ r. get_or r.numbers a (pos 0)) (past p k) ∙ rw (nth_beyond L.pieces p (omega arith))

  pub all_set : (trays : Trays) → trays ≡ no_messages → ◌≡◌ {A = Game} (record { states = states_of t; numbers = numbers_of t; trays = trays }) (set_out L)
  all_set trays e = joined (fun_ext (λ p. state_at p (cases_lt p 32))) (fun_ext (λ p. fun_ext (λ a. number_at p a (cases_lt p 32)))) e
    where
      joined : {f g : ℕ → ℕ} {m n : ℕ → ℕ → ℤ} {k l : Trays} → f ≡ g → m ≡ n → k ≡ l → ◌≡◌ {A = Game} (record { states = f; numbers = m; trays = k }) (record { states = g; numbers = n; trays = l })
      joined a b c = λ i. record { states = a i; numbers = b i; trays = c i }

-- a table that nobody has set out
pub unset : (t : Table) (trays : Trays) → trays ≡ no_messages → t.rows ≡ replicate 32 (record { state = 0; numbers = replicate 8 (pos 0) })
    → ◌≡◌ {A = Game} (record { states = states_of t; numbers = numbers_of t; trays = trays }) unmoved
unset t trays none e =
    let a : states_of t ≡ (λ p. 0) = fun_ext (λ p. ap (λ rs. (get_or rs p no_row).state) e ∙ blank_state 32 p) in
    let b : numbers_of t ≡ (λ p a. pos 0) = fun_ext (λ p. fun_ext (λ a. ap (λ rs. get_or (get_or rs p no_row).numbers a (pos 0)) e ∙ blank_number 32 p a)) in
    λ i. record { states = a i; numbers = b i; trays = none i }
  where
    blank_state : (n p : ℕ) → (get_or (replicate n (record { state = 0; numbers = replicate 8 (pos 0) })) p no_row).state ≡ 0
    blank_state zero p = refl
    blank_state (suc n) zero = refl
    blank_state (suc n) (suc p) = blank_state n p

    blank_number : (n p a : ℕ) → get_or (get_or (replicate n (record { state = 0; numbers = replicate 8 (pos 0) })) p no_row).numbers a (pos 0) ≡ pos 0
    blank_number zero p a = refl
    blank_number (suc n) zero a = zeros 8 a
    blank_number (suc n) (suc p) a = blank_number n p a
