-- What the rules say of a strike, by how the code's steps end.
use Rattle.std.proofs.Common.{◌≡◌, ℕ, ◌≤◌, true, cond, List, length, is_ok, Some, Ok, Err, Result, sym, refl, ap, ◌∙◌, subst, arith}
use Rattle.std.proofs.lemmas.Bool.{le-leb}
use Rattle.level.specs.Sound.{Sound}
use Rattle.rules.specs.declared.fault.CallFault.TheVariants.{Strike}
use Rattle.rules.specs.declared.fault.MoveFault.{MoveFault}
use Rattle.rules.specs.declared.fault.StrikeFault.{StrikeFault}
use Rattle.rules.specs.declared.fault.StrikeFault.TheVariants.{ShortTrail, AtMove}
use Rattle.rules.specs.declared.moves.Move.{Move}
use Rattle.rules.specs.Beat.{nothing, judge_all}
use Rattle.rules.specs.Calls.{Lent, full, strike, fire, accepted, After, refuse, moves_of, move_of, struck, listed, call, front_moves}
use Rattle.rules.specs.Checks.{Check, pass, fail}
use Rattle.rules.specs.Game.{Game, Within, Setting}
use Rattle.rules.specs.Single.{Step}
use Rattle.rules.proofs.Single.{fire_is_a_step}
use Rattle.evaluator.specs.Trails.{Lists}
use Rattle.game.specs.Games.{after_strike, EndsAsEnabled, strike_answer}
use Rattle.game.specs.Judged.{all_lists, counted, empty, all_judged_by, lists_if}
use Rattle.game.specs.Settling.{settled}
use Rattle.game.proofs.Counting.{count_is}
use Rattle.game.proofs.Fronts.{moves_front}
use Rattle.game.proofs.Settled.{settled_outcome}

module _ (S : Setting) (g : Game) (t : Lent) (bs : List ℕ) where
  abbrev C : After
  C = call S g (strike t bs)

  module _ (long : full t ≡ true) where
    opened : C ≡ listed S g (moves_of bs)
    opened = ap (λ b. cond b (listed S g (moves_of bs)) (refuse (Strike ShortTrail) g)) long

    module _ (n : ℕ) (e : Ok n ≡ counted (moves_of bs)) where
      it : (ms : List Move) × (moves_of bs ≡ Some ms) × (n ≡ length ms) × (1 ≤ length ms) × (length ms ≤ 16)
      it = count_is (moves_of bs) n e

      abbrev ms : List Move
      ms = it.0

      front : front_moves bs ≡ ms
      front = moves_front bs ms it.1

      pub few : length (front_moves bs) ≤ 16
      few = let a = ap length front in let b = it.4 in omega arith

      abbrev J : Check MoveFault
      J = judge_all S.limit g S.level nothing 0 (front_moves bs)

      begun : C ≡ struck S g ms J
      begun = opened ∙ ap (listed S g) it.1 ∙ (rw (le-leb 1 (length ms) it.3, le-leb (length ms) 16 it.4)) ∙ ap (λ xs. struck S g ms (judge_all S.limit g S.level nothing 0 xs)) (sym front)

      bad : (c : Check MoveFault) (v : Lists) (f : MoveFault) → Err f ≡ lists_if c v → c ≡ fail f
      bad pass v f k = absurd (let y : ◌≡◌ {A = ℕ} 0 1 = cc in omega arith)
      bad (fail x) v f k = let z : x ≡ f = cc in ap fail z

      good : (c : Check MoveFault) (u v : Lists) → Ok u ≡ lists_if c v → (c ≡ pass) × (u ≡ v)
      good pass u v k = (refl, cc)
      good (fail x) u v k = absurd (let y : ◌≡◌ {A = ℕ} 0 1 = cc in omega arith)

      abbrev all : Lists
      all = all_lists S.level g empty (front_moves bs)

      pub stopped : (f : MoveFault) → Err f ≡ all_judged_by S.limit S.level g nothing empty 0 (front_moves bs) → refuse (Strike (AtMove f)) g ≡ C
      stopped f k = sym (begun ∙ ap (struck S g ms) (bad J all f k))

      -- accepted, the game settled and the trails are what the rules say
      pub made : Sound S.level → Within S.limit g → (u : Lists) → Ok u ≡ all_judged_by S.limit S.level g nothing empty 0 (front_moves bs)
          → after_strike (Ok n) (settled S g (front_moves bs) u) u ≡ C
      made sound within u k =
          let (passes, lists) = good J u all k in
          let here : u ≡ all_lists S.level g empty ms = lists ∙ ap (all_lists S.level g empty) front in
          (λ j. after_strike (Ok (it.2 j)) (settled S g (front j) (here j)) (here j))
          ∙ ap (λ x. after_strike (Ok (length ms)) x (all_lists S.level g empty ms)) (settled_outcome S sound g within ms (subst (λ xs. judge_all S.limit g S.level nothing 0 xs ≡ pass) front passes))
          ∙ sym (begun ∙ ap (struck S g ms) passes)

-- a fired move is a step of the published semantics, and the other way round
module _ (S : Setting) (g g' : Game) (t : Lent) (p n : ℕ) (r : Result ℕ StrikeFault) (u : Lists) (done : after_strike r g' u ≡ call S g (fire t p n)) where
  pub fired_step : is_ok r ≡ true → Step S g (move_of p n) g'
  fired_step o = by r (ap (λ a. a.answer) done) o
    where
      by : (x : Result ℕ StrikeFault) → strike_answer x ≡ (call S g (fire t p n)).answer → is_ok x ≡ true → Step S g (move_of p n) g'
      by (Ok k) e q = subst (Step S g (move_of p n)) (sym (ap (λ a. a.game) done)) (fire_is_a_step.sound S g t p n k (sym e))
      by (Err x) e q = absurd (let y : ◌≡◌ {A = ℕ} 0 1 = cc in omega arith)

  pub enabled_fires : full t ≡ true → EndsAsEnabled S g (move_of p n) r g'
  enabled_fires long h s = let k = fire_is_a_step.complete S g h t p n long s in (one r (ap (λ a. a.answer) done ∙ k.0), ap (λ a. a.game) done ∙ k.1)
    where
      one : (x : Result ℕ StrikeFault) → strike_answer x ≡ accepted 1 → x ≡ Ok 1
      one (Ok k) q = let z : k ≡ 1 = cc in ap Ok z
      one (Err y) q = absurd (let z : ◌≡◌ {A = ℕ} 0 1 = cc in omega arith)
