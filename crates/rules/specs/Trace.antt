-- Evaluation: what the guard and the effect of one move do on one game, with no regard to any other move. A trace holds its events
-- in the order met, and how it ends.
use Rattle.std.specs.Prelude.{ℕ, ◌+◌, Bool, cond, not, ◌&&◌, List, [], ◌∷◌, ◌++◌, length, ℤ, pos, Some, None, Ok, Err, Option, Result, ◌==◌}
use Rattle.mail.specs.declared.message.Message.{Message}
use Rattle.level.specs.Syntax.{Expr, constant, own_piece, own, other, binary, negation, Stmt, assign, store, send, Level}
use Rattle.level.specs.Spelling.{size, statement}
use Rattle.level.specs.Places.{Placed, effect_place}
use Rattle.rules.specs.declared.fault.Cause.{Cause}
use Rattle.rules.specs.declared.fault.Cause.TheVariants.{ZeroDivisor, Missing}
use Rattle.rules.specs.declared.fault.Why.{Why}
use Rattle.rules.specs.declared.fault.Why.TheVariants.{Stumbles, Guard}
use Rattle.rules.specs.Arithmetic.{holds, truth, computed}
use Rattle.rules.specs.Game.{Game, same, message}
use Rattle.rules.specs.Names.{piece_named, cell_named}

-- A read is of a cell whose value came from the game: one that the move itself has written before is seen, but not read
pub data Event : Type 0 where
  reads : ℕ → ℕ → Event  -- piece and number
  writes : ℕ → ℕ → ℤ → Event  -- piece, number and value
  sends : ℕ → Message → Event  -- the piece it goes to

pub record Trace (A : Type 0) : Type 0 where
  pub events : List Event
  pub out : Result A Why

abbrev pub give : {A : Type 0} → A → Trace A
give x = record { events = []; out = Ok x }

abbrev pub halt : {A : Type 0} → Why → Trace A
halt w = record { events = []; out = Err w }

-- one after the other, until something halts: a stumble, or the guard's verdict
abbrev pub onward : {A B : Type 0} → List Event → Result A Why → (A → Trace B) → Trace B
onward es (Ok x) k = record { events = es ++ (k x).events; out = (k x).out }
onward es (Err w) k = record { events = es; out = Err w }

abbrev pub bind : {A B : Type 0} → Trace A → (A → Trace B) → Trace B
bind t k = onward t.events t.out k

-- a command that needs something stumbles where it is not there, at its own place in the level
abbrev pub needing : {A B : Type 0} → Cause → ℕ → Option A → (A → Trace B) → Trace B
needing c at None k = halt (Stumbles (record { cause = c; place = at }))
needing c at (Some x) k = k x

-- what the move has written so far, by piece and number, laid over the game
abbrev pub Own : Type 0
Own = ℕ → ℕ → Option ℤ

abbrev pub no_writes : Own
no_writes p a = None

abbrev pub over : Own → ℕ → ℕ → ℤ → Own
over o p a v q b = cond (same p a q b) (Some v) (o q b)

-- the own value, or else the game's: that is a read
abbrev pub seen : Game → ℕ → ℕ → Option ℤ → Trace ℤ
seen g p a (Some v) = give v
seen g p a None = record { events = reads p a ∷ []; out = Ok (g.numbers p a) }

abbrev pub look : Game → Own → ℕ → ℕ → Trace ℤ
look g o p a = seen g p a (o p a)

abbrev pub write : Own → ℕ → ℕ → ℤ → Trace Own
write o p a v = record { events = writes p a v ∷ []; out = Ok (over o p a v) }

abbrev pub post : Own → ℕ → Message → Trace Own
post o q m = record { events = sends q m ∷ []; out = Ok o }

-- A message's numbers, each with the own number that receives it, in order
pub record Receipt : Type 0 where
  pub into : ℕ
  pub value : ℤ

abbrev pub receipts : List ℕ → Message → List Receipt
receipts [] m = []
receipts (a ∷ []) m = record { into = a; value = m.first } ∷ []
receipts (a ∷ b ∷ l) m = record { into = a; value = m.first } ∷ record { into = b; value = m.second } ∷ []

-- received, they are writes
abbrev pub receive : ℕ → List Receipt → Own → Trace Own
receive p [] o = give o
receive p (r ∷ rs) o = bind (write o p r.into r.value) (receive p rs)

-- on trial, they are laid over only
abbrev pub laid_over : ℕ → List Receipt → Own → Own
laid_over p [] o = o
laid_over p (r ∷ rs) o = laid_over p rs (over o p r.into r.value)

-- For the piece p that moves. An expression or statement stands `at` a place of the level's bytes, and the place of each part
-- follows from the sizes of those before it. What a command names is checked after all its expressions
module _ (L : Level) (g : Game) (p : ℕ) where
  abbrev pub evaluate : Own → ℕ → Expr → Trace ℤ
  evaluate o at (constant z) = give z
  evaluate o at own_piece = give (pos p)
  evaluate o at (own a) = look g o p a
  evaluate o at (other a e) = bind (evaluate o (at + 2) e) (λ v. needing Missing at (cell_named L v a) (λ q. look g o q a))
  evaluate o at (binary op e f) =
      bind (evaluate o (at + 1) e) (λ v. bind (evaluate o (at + 1 + size e) f) (λ w. needing ZeroDivisor at (computed op v w) give))
  evaluate o at (negation e) = bind (evaluate o (at + 1) e) (λ v. give (truth (not (holds v))))

  abbrev pub evaluate_all : Own → ℕ → List Expr → Trace (List ℤ)
  evaluate_all o at [] = give []
  evaluate_all o at (e ∷ es) = bind (evaluate o at e) (λ v. bind (evaluate_all o (at + size e) es) (λ vs. give (v ∷ vs)))

  abbrev pub run : ℕ → Stmt → Own → Trace Own
  run at (assign a e) o = bind (evaluate o (at + 2) e) (λ v. write o p a v)
  run at (store a e f) o =
      bind (evaluate o (at + 2) e) (λ v. bind (evaluate o (at + 2 + size e) f) (λ w. needing Missing at (cell_named L v a) (λ q. write o q a w)))
  run at (send s e es) o =
      bind (evaluate o (at + 2) e) (λ v. bind (evaluate_all o (at + 2 + size e) es) (λ vs. needing Missing at (piece_named L v) (λ q. post o q (message s vs))))

  abbrev pub run_all : ℕ → List Stmt → Own → Trace Own
  run_all at [] o = give o
  run_all at (c ∷ cs) o = bind (run at c o) (run_all (at + length (statement c)) cs)

  -- the guard must be true; then the effect
  abbrev pub guarded : Placed → Own → Trace Own
  guarded t o = bind (evaluate o t.guard t.transition.guard) (λ v. cond (holds v) (run_all (effect_place t) t.transition.effect o) (halt Guard))

  -- a transition of kind k leaves state s on the message's signal
  abbrev pub wants : ℕ → ℕ → Message → Placed → Bool
  wants k s m t = t.kind == k && (t.transition.source == s && t.transition.signal == m.signal)

  -- A discard: no transition that wants the message may have a true guard. Each in level order is tried with its own received
  -- numbers, which are no writes and are forgotten before the next
  abbrev pub unwanted : ℕ → ℕ → Message → List Placed → Trace Own
  unwanted k s m [] = give no_writes
  unwanted k s m (t ∷ ts) = cond (wants k s m t)
      (bind (evaluate (laid_over p (receipts t.transition.receives m) no_writes) t.guard t.transition.guard) (λ v. cond (holds v) (halt Guard) (unwanted k s m ts)))
      (unwanted k s m ts)
