-- Received numbers entered, and guards tried.
use Rattle.std.proofs.Common.{◌≡◌, ℕ, zero, suc, ◌+◌, ◌<◌, Bool, true, false, cond, ◌&&◌, eqb, List, [], ◌∷◌, ◌++◌, map, length, get_or, drop, ℤ, Some, None, Ok, Err, Result, sym, refl, ap, ◌∙◌, arith}
use Rattle.mail.specs.declared.message.Message.{Message}
use Rattle.level.specs.declared.entry.TransitionEntry.{TransitionEntry}
use Rattle.level.specs.Entries.{transition_entry}
use Rattle.level.specs.Levels.{code, meaning}
use Rattle.level.specs.Places.{Placed, effect_place, placed}
use Rattle.level.specs.Reading.{got, read_expr, read_effect}
use Rattle.level.specs.Sound.{deepest, most_statements}
use Rattle.level.specs.Spelling.{size}
use Rattle.level.specs.Syntax as syntax
use Rattle.level.specs.Tables.{nth}
use Rattle.level.proofs.Legible.{Legible}
use Rattle.level.proofs.Legible as code
use Rattle.rules.specs.declared.fault.Why.{Why}
use Rattle.rules.specs.declared.fault.Why.TheVariants.{Guard}
use Rattle.rules.specs.declared.trail.Change.{Change}
use Rattle.rules.specs.Arithmetic.{holds}
use Rattle.rules.specs.Game.{Game}
use Rattle.rules.specs.Trace.{Own, no_writes, receipts, laid_over, bind, halt, evaluate, wants, unwanted}
use Rattle.evaluator.specs.declared.turn.Turn.{Turn}
use Rattle.evaluator.specs.Lookup.{last_change}
use Rattle.evaluator.specs.Meeting.{sight_with}
use Rattle.evaluator.specs.Reckoning.{board_of, follow, valued, legible}
use Rattle.evaluator.specs.Rows.{states_of}
use Rattle.evaluator.specs.Standing.{expression_at}
use Rattle.evaluator.specs.Trying.{numbers_of, trial_of, laid_by, tried, tried_at, wanted, wanted_at, discarded, held_at}
use Rattle.evaluator.proofs.Following.{follow_follow, follow_same, valued_bind, halted, gone}

-- the entry of a transition that there is, and of one that there is not
module _ {A B : Type 0} (f : A → B) where
  pub nth_of : (xs : List A) (n : ℕ) (y : B) → Some y ≡ nth (map f xs) n → (x : A) × (nth xs n ≡ Some x) × (y ≡ f x)
  nth_of [] n y e = absurd (let z : ◌≡◌ {A = ℕ} 0 1 = cc in omega arith)
  nth_of (x ∷ xs) zero y e = (x, refl, cc)
  nth_of (x ∷ xs) (suc n) y e = nth_of xs n y e

  pub nth_none : (xs : List A) (n : ℕ) → None ≡ nth (map f xs) n → nth xs n ≡ None
  nth_none [] n e = refl
  nth_none (x ∷ xs) zero e = absurd (let z : ◌≡◌ {A = ℕ} 0 1 = cc in omega arith)
  nth_none (x ∷ xs) (suc n) e = nth_none xs n e

nth_at : {A : Type 0} (xs : List A) (n : ℕ) (d : A) → n < length xs → Some (get_or xs n d) ≡ nth xs n
nth_at [] n d h = absurd (omega arith)
nth_at (x ∷ xs) zero d h = refl
nth_at (x ∷ xs) (suc n) d h = nth_at xs n d (omega arith)

pub nth_below : {A : Type 0} (xs : List A) (n : ℕ) (x : A) → nth xs n ≡ Some x → n < length xs
nth_below [] n x e = absurd (let z : ◌≡◌ {A = ℕ} 0 1 = cc in omega arith)
nth_below (y ∷ xs) zero x e = omega arith
nth_below (y ∷ xs) (suc n) x e = let k = nth_below xs n x e in omega arith

-- the receipts of a transition, by its two places of receiving
receipts_are : (l : List ℕ) (m : Message) → receipts l m ≡ numbers_of (nth l 0) m.first ++ numbers_of (nth l 1) m.second
receipts_are [] m = refl
receipts_are (a ∷ []) m = refl
receipts_are (a ∷ b ∷ l) m = refl

pub trial_is : (x : Placed) (m : Message) → trial_of (transition_entry x) (Some m) ≡ receipts x.transition.receives m
trial_is x m = sym (receipts_are x.transition.receives m)

-- a guard that stands at its place, tried with some own changes
module _ {M : Type 0} (u : Turn M) (cs : List Change) (n : ℕ) (found : TransitionEntry) (h : Some found ≡ nth (map transition_entry (placed (meaning u.level.now))) n) where
  pub the : (x : Placed) × (nth (placed (meaning u.level.now)) n ≡ Some x) × (found ≡ transition_entry x)
  the = nth_of transition_entry (placed (meaning u.level.now)) n found h

  abbrev pub x : Placed
  x = the.0

  pub is_there : nth (placed (meaning u.level.now)) n ≡ Some x
  is_there = the.1

  pub is_entry : found ≡ transition_entry x
  is_entry = the.2

  pub reads : Legible u.level.now x
  reads = code.legible u.level.now n x is_there

  guard_there : found.guard ≡ x.guard
  guard_there = ap (λ e. e.guard) is_entry

  pub guard_read : read_expr deepest 8 (drop found.guard (code u.level.now)) ≡ got x.transition.guard (drop (effect_place x) (code u.level.now))
  guard_read = ap (λ i. read_expr deepest 8 (drop i (code u.level.now))) guard_there ∙ reads.guard

  pub guard_legible : legible (read_expr deepest 8 (drop found.guard (code u.level.now))) ≡ true
  guard_legible = ap legible guard_read

  pub effect_read : read_effect (meaning u.level.now).signals 8 most_statements (drop found.effect (code u.level.now)) ≡ got x.transition.effect reads.rest
  effect_read = ap (λ e. read_effect (meaning u.level.now).signals 8 most_statements (drop e.effect (code u.level.now))) is_entry ∙ reads.effect

  pub effect_legible : legible (read_effect (meaning u.level.now).signals 8 most_statements (drop found.effect (code u.level.now))) ≡ true
  effect_legible = ap legible effect_read

  module _ (m : Message) where
    laid : (l : List ℕ) → last_change (laid_by u.mover m (nth l 0) (nth l 1)) ≡ laid_over u.mover (receipts l m) no_writes
    laid [] = refl
    laid (a ∷ []) = refl
    laid (a ∷ b ∷ l) = refl

    -- tried, and wanted, as the rules say it
    tried_is : tried_at u cs m found ≡ tried (meaning u.level.now) (board_of u.table.now) u.mover cs m x
    tried_is =
        let V : Own → ℕ → Result ℤ Why = λ o i. valued cs (evaluate (meaning u.level.now) (board_of u.table.now) u.mover o i x.transition.guard) in
        ap (held_at (sight_with u cs (laid_by u.mover m found.first found.second)) found.guard) guard_read
        ∙ follow_follow (V (last_change (laid_by u.mover m found.first found.second)) found.guard) (λ v. Ok (v, found.guard + size x.transition.guard)) (λ y. Ok (holds y.0))
        ∙ ap (λ e. follow (V (last_change (laid_by u.mover m e.first e.second)) e.guard) (λ v. Ok (holds v))) is_entry
        ∙ ap (λ o. follow (V o x.guard) (λ v. Ok (holds v))) (laid x.transition.receives)

    wanted_is : (k : ℕ) → wanted_at u cs k m found ≡ wanted (meaning u.level.now) (board_of u.table.now) u.mover cs k (states_of u.table.now u.mover) m x
    wanted_is k =
        ap (λ e. cond (eqb e.kind k && (eqb e.source (states_of u.table.now u.mover) && eqb e.signal m.signal)) (tried_at u cs m found) (Ok false)) is_entry
        ∙ ap (λ r. cond (wants (meaning u.level.now) (board_of u.table.now) u.mover k (states_of u.table.now u.mover) m x) r (Ok false)) tried_is

-- a discard, transition by transition
module _ (L : syntax.Level) (b : Game) (p : ℕ) (E : List Change) (k s : ℕ) (m : Message) where
  abbrev rest : List Placed → Result (Unit {0}) Why
  rest xs = discarded E (unwanted L b p k s m xs)

  one_more : (x : Placed) (xs : List Placed) → rest (x ∷ xs) ≡ follow (wanted L b p E k s m x) (λ z. cond z (Err Guard) (rest xs))
  one_more x xs = go (wants L b p k s m x)
    where
      o : Own
      o = laid_over p (receipts x.transition.receives m) no_writes

      V : Result ℤ Why
      V = valued E (evaluate L b p o x.guard x.transition.guard)

      verdict : (z : Bool) → discarded E (cond z (halt Guard) (unwanted L b p k s m xs)) ≡ cond z (Err Guard) (rest xs)
      verdict true = refl
      verdict false = refl

      go : (w : Bool) → discarded E (cond w (bind (evaluate L b p o x.guard x.transition.guard) (λ v. cond (holds v) (halt Guard) (unwanted L b p k s m xs))) (unwanted L b p k s m xs))
          ≡ follow (cond w (follow V (λ v. Ok (holds v))) (Ok false)) (λ z. cond z (Err Guard) (rest xs))
      go true = ap (λ r. follow r (λ y. Ok tt)) (valued_bind E (λ v. cond (holds v) (halt Guard) (unwanted L b p k s m xs)) (evaluate L b p o x.guard x.transition.guard))
          ∙ follow_follow V _ _
          ∙ follow_same V _ _ (λ v. verdict (holds v))
          ∙ sym (follow_follow V (λ v. Ok (holds v)) (λ z. cond z (Err Guard) (rest xs)))
      go false = refl

  -- from the transition of number n on
  abbrev pub from : ℕ → Result (Unit {0}) Why
  from n = rest (drop n (placed L))

  drop_nth : (xs : List Placed) (n : ℕ) (x : Placed) → nth xs n ≡ Some x → drop n xs ≡ x ∷ drop (n + 1) xs
  drop_nth [] n x e = absurd (let y : ◌≡◌ {A = ℕ} 0 1 = cc in omega arith)
  drop_nth (y ∷ xs) zero x e = let q : y ≡ x = cc in ap (λ z. z ∷ xs) q
  drop_nth (y ∷ xs) (suc n) x e = let z : suc n + 1 ≡ suc (n + 1) = omega arith in drop_nth xs n x e ∙ ap (λ j. x ∷ drop j (y ∷ xs)) (sym z)

  next : (n : ℕ) (x : Placed) → nth (placed L) n ≡ Some x → from n ≡ follow (wanted L b p E k s m x) (λ z. cond z (Err Guard) (from (n + 1)))
  next n x e = ap rest (drop_nth (placed L) n x e) ∙ one_more x (drop (n + 1) (placed L))

-- the transitions that a discard tries, one after the other
module _ {M : Type 0} (u : Turn M) (cs : List Change) (k : ℕ) (m : Message) (es : List TransitionEntry) (are : es ≡ map transition_entry (placed (meaning u.level.now)))
    (d : TransitionEntry) (n : ℕ) (below : n < length es) where
  abbrev found : TransitionEntry
  found = get_or es n d

  there : Some found ≡ nth (map transition_entry (placed (meaning u.level.now))) n
  there = nth_at es n d below ∙ ap (λ l. nth l n) are

  abbrev left : ℕ → Result (Unit {0}) Why
  left i = from (meaning u.level.now) (board_of u.table.now) u.mover cs k (states_of u.table.now u.mover) m i

  tries : left n ≡ follow (wanted_at u cs k m found) (λ z. cond z (Err Guard) (left (n + 1)))
  tries = next (meaning u.level.now) (board_of u.table.now) u.mover cs k (states_of u.table.now u.mover) m n (x u cs n found there) (is_there u cs n found there)
      ∙ ap (λ r. follow r (λ z. cond z (Err Guard) (left (n + 1)))) (sym (wanted_is u cs n found there m k))

  pub try_legible : legible (expression_at u.level.now deepest found.guard) ≡ true
  try_legible = guard_legible u cs n found there

  pub try_halts : (w : Why) → Err w ≡ wanted_at u cs k m found → Err w ≡ left n
  try_halts w h = halted _ _ _ tries w h

  pub try_refuses : Ok true ≡ wanted_at u cs k m found → Err Guard ≡ left n
  try_refuses h = sym (gone _ _ _ tries true h)

  pub try_passes : Ok false ≡ wanted_at u cs k m found → left (n + 1) ≡ left n
  try_passes h = sym (gone _ _ _ tries false h)
