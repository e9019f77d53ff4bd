-- How received numbers are entered, and how guards are tried. This is scaffolding between the rules and the code: no public promise
-- speaks of it.
use Rattle.std.specs.Prelude.{ℕ, Bool, false, cond, ◌&&◌, ◌==◌, List, [], ◌∷◌, ◌++◌, ℤ, Some, None, Ok, Option, Result}
use Rattle.mail.specs.declared.message.Message.{Message}
use Rattle.level.specs.declared.entry.TransitionEntry.{TransitionEntry}
use Rattle.level.specs.Places.{Placed}
use Rattle.level.specs.Reading.{Read}
use Rattle.level.specs.Sound.{deepest}
use Rattle.level.specs.Syntax.{Expr, Level}
use Rattle.rules.specs.declared.fault.Why.{Why}
use Rattle.rules.specs.declared.trail.Change.{Change}
use Rattle.rules.specs.Arithmetic.{holds}
use Rattle.rules.specs.Game.{Game}
use Rattle.rules.specs.Trace.{Own, Trace, no_writes, Receipt, receipts, laid_over, evaluate, wants}
use Rattle.evaluator.specs.declared.turn.Turn.{Turn}
use Rattle.evaluator.specs.Meeting.{sight_with}
use Rattle.evaluator.specs.Reckoning.{Sight, follow, valued, value_at}
use Rattle.evaluator.specs.Rows.{states_of}
use Rattle.evaluator.specs.Standing.{expression_at}

-- a number that is received, if one receives it
abbrev pub numbers_of : Option ℕ → ℤ → List Receipt
numbers_of None v = []
numbers_of (Some a) v = record { into = a; value = v } ∷ []

-- the numbers that a transition receives of a message, if it takes one
abbrev pub trial_of : TransitionEntry → Option Message → List Receipt
trial_of e None = []
trial_of e (Some m) = numbers_of e.first m.first ++ numbers_of e.second m.second

module _ (L : Level) (b : Game) (p : ℕ) (E : List Change) where
  -- whether the guard of a transition holds
  abbrev pub guard_at : Own → Placed → Result Bool Why
  guard_at o x = follow (valued E (evaluate L b p o x.guard x.transition.guard)) (λ v. Ok (holds v))

  -- on trial, with the numbers of a message laid over
  abbrev pub tried : Message → Placed → Result Bool Why
  tried m x = guard_at (laid_over p (receipts x.transition.receives m) no_writes) x

  -- whether a transition of kind k wants the message in state s, and its guard holds
  abbrev pub wanted : ℕ → ℕ → Message → Placed → Result Bool Why
  wanted k s m x = cond (wants L b p k s m x) (tried m x) (Ok false)

-- whether a discard is refused, for one who sees the changes of earlier moves
abbrev pub discarded : List Change → Trace Own → Result (Unit {0}) Why
discarded E t = follow (valued E t) (λ o. Ok tt)

-- whether the expression at a place holds
abbrev pub held_at : Sight → ℕ → Read Expr → Result Bool Why
held_at s i r = follow (value_at s i r) (λ x. Ok (holds x.0))

-- the numbers of a message as changes of the piece that would receive them, by the two that an entry may name
abbrev pub laid_by : ℕ → Message → Option ℕ → Option ℕ → List Change
laid_by p m None b = []
laid_by p m (Some a) None = record { piece = p; number = a; value = m.first } ∷ []
laid_by p m (Some a) (Some b) = record { piece = p; number = a; value = m.first } ∷ record { piece = p; number = b; value = m.second } ∷ []

module _ {M : Type 0} (t : Turn M) (cs : List Change) where
  -- the guard of an entry's transition, tried as it stands in the code
  abbrev pub tried_at : Message → TransitionEntry → Result Bool Why
  tried_at m e = held_at (sight_with t cs (laid_by t.mover m e.first e.second)) e.guard (expression_at t.level.now deepest e.guard)

  abbrev pub wanted_at : ℕ → Message → TransitionEntry → Result Bool Why
  wanted_at k m e = cond (e.kind == k && (e.source == states_of t.table.now t.mover && e.signal == m.signal)) (tried_at m e) (Ok false)
