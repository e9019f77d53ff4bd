-- A transition: what it receives, its guard, its effect.
use Rattle.std.proofs.Common.{◌≡◌, ℕ, ◌+◌, true, false, cond, List, [], map, take, drop, ℤ, Some, None, Ok, Err, Option, Result, sym, refl, ap, ◌∙◌}
use Rattle.mail.specs.declared.message.Message.{Message}
use Rattle.mail.specs.declared.Mail.{Ghosts}
use Rattle.level.specs.declared.entry.TransitionEntry.{TransitionEntry}
use Rattle.level.specs.Entries.{transition_entry}
use Rattle.level.specs.Levels.{meaning}
use Rattle.level.specs.Places.{Placed, effect_place, placed}
use Rattle.level.specs.Reading.{Read}
use Rattle.level.specs.Sound.{deepest, most_statements}
use Rattle.level.specs.Spelling.{size}
use Rattle.level.specs.Syntax.{Expr, Stmt}
use Rattle.level.specs.Tables.{nth}
use Rattle.rules.specs.declared.fault.Why.{Why}
use Rattle.rules.specs.declared.fault.Why.TheVariants.{Guard}
use Rattle.rules.specs.Arithmetic.{holds}
use Rattle.rules.specs.Calls.{Lent}
use Rattle.rules.specs.Trace.{evaluate}
use Rattle.evaluator.specs.declared.turn.Turn.{Turn}
use Rattle.evaluator.specs.Lookup.{last_change}
use Rattle.evaluator.specs.Meeting.{Around, around, sight_of, receiving, guarding, transiting, transiting_by, steps, steps_at}
use Rattle.evaluator.specs.Reckoning.{follow, valued, value_at}
use Rattle.evaluator.specs.Trying.{trial_of}
use Rattle.evaluator.specs.Standing.{effect_at, expression_at}
use Rattle.evaluator.specs.Trails.{Lists}
use Rattle.evaluator.proofs.Following.{follow_follow, halted, gone}
use Rattle.evaluator.proofs.Trying.{x, is_there, is_entry, guard_read, effect_read, trial_is}

module _ {M : Type 0} (mail : Ghosts M) (u : Turn M) (places : Lent) (n : ℕ) (found : TransitionEntry)
    (h : Some found ≡ nth (map transition_entry (placed (meaning u.level.now))) n) where
  abbrev A : Around
  A = around mail u places

  abbrev X : Placed
  X = x u [] n found h

  module _ (t : Lists) (m : Option Message) where
    abbrev whole : Result Lists Why
    whole = transiting_by A t (nth (placed (meaning u.level.now)) n) m

    abbrev entered : Result Lists Why
    entered = receiving A t (trial_of found m)

    -- what is received, and then the guard and the effect
    received : (o : Option Message) → transiting A t X o ≡ follow (receiving A t (trial_of (transition_entry X) o)) (λ v. guarding A v X)
    received None = refl
    received (Some y) = ap (λ rs. follow (receiving A t rs) (λ v. guarding A v X)) (sym (trial_is X y))

    begins : whole ≡ follow entered (λ v. guarding A v X)
    begins = ap (λ o. transiting_by A t o m) (is_there u [] n found h) ∙ received m
        ∙ ap (λ e. follow (receiving A t (trial_of e m)) (λ v. guarding A v X)) (sym (is_entry u [] n found h))

    module _ (v : Lists) (e : Ok v ≡ entered) where
      abbrev R : Read Expr
      R = expression_at u.level.now deepest found.guard

      abbrev F : Read (List Stmt)
      F = effect_at u.level.now most_statements found.effect

      abbrev then_effect : ℤ × ℕ → Result Lists Why
      then_effect y = cond (holds y.0) (steps_at A v found.effect F) (Err Guard)

      -- the guard and the effect, as they stand in the code
      guards : guarding A v X ≡ follow (value_at (sight_of u v.changes) found.guard R) then_effect
      guards =
          let W : ℕ → Result ℤ Why = λ i. valued (take u.written v.changes) (evaluate A.level A.board u.mover (last_change (drop u.written v.changes)) i X.transition.guard) in
          let there : steps A v (effect_place X) X.transition.effect ≡ steps_at A v found.effect F =
          sym (ap (steps_at A v found.effect) (effect_read u [] n found h) ∙ ap (λ z. steps A v z.effect X.transition.effect) (is_entry u [] n found h)) in
          let place : X.guard ≡ found.guard = sym (ap (λ z. z.guard) (is_entry u [] n found h)) in
          ap (λ r. follow (W X.guard) (λ z. cond (holds z) r (Err Guard))) there
          ∙ ap (λ i. follow (W i) (λ z. cond (holds z) (steps_at A v found.effect F) (Err Guard))) place
          ∙ sym (follow_follow (W found.guard) (λ z. Ok (z, found.guard + size X.transition.guard)) then_effect)
          ∙ ap (λ r. follow (value_at (sight_of u v.changes) found.guard r) then_effect) (sym (guard_read u [] n found h))

      goes : whole ≡ follow (value_at (sight_of u v.changes) found.guard R) then_effect
      goes = gone _ _ _ begins v e ∙ guards

      pub transit_stops : (w : Why) → Err w ≡ value_at (sight_of u v.changes) found.guard R → Err w ≡ whole
      transit_stops w f = halted _ _ _ goes w f

      module _ (z : ℤ) (j : ℕ) (f : Ok (z, j) ≡ value_at (sight_of u v.changes) found.guard R) where
        pub transit_fails : holds z ≡ false → Err Guard ≡ whole
        transit_fails k = sym (gone _ _ _ goes (z, j) f ∙ ap (λ b. cond b (steps_at A v found.effect F) (Err Guard)) k)

        pub transit_goes : holds z ≡ true → steps_at A v found.effect F ≡ whole
        transit_goes k = sym (gone _ _ _ goes (z, j) f ∙ ap (λ b. cond b (steps_at A v found.effect F) (Err Guard)) k)
