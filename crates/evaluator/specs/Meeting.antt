-- What guards and effects do to the trails, met by what earlier moves left in them. This is scaffolding between the rules and the
-- code: no public promise speaks of it.
use Rattle.std.specs.Prelude.{ℕ, ◌+◌, ◌-◌, cond, List, [], ◌∷◌, ◌++◌, length, take, drop, is_some, Some, None, Ok, Err, Option, Result, ◌==◌, nat_lt}
use Rattle.mail.specs.declared.Mail.{Ghosts}
use Rattle.mail.specs.declared.message.Message.{Message}
use Rattle.level.specs.Levels.{code, meaning}
use Rattle.level.specs.Places.{Placed, effect_place}
use Rattle.level.specs.Reading.{Read, got, bad}
use Rattle.level.specs.Spelling.{statement, all, expression}
use Rattle.level.specs.Syntax.{Expr, Stmt, Level}
use Rattle.rules.specs.declared.fault.Cause.TheVariants.{Missing}
use Rattle.rules.specs.declared.fault.Stumble.{Stumble}
use Rattle.rules.specs.declared.fault.Why.{Why}
use Rattle.rules.specs.declared.fault.Why.TheVariants.{Unknown, Clash, Guard, TrayFull}
use Rattle.rules.specs.declared.trail.Change.{Change}
use Rattle.rules.specs.declared.trail.Parcel.{Parcel}
use Rattle.rules.specs.Arithmetic.{holds}
use Rattle.rules.specs.Calls.{Lent}
use Rattle.rules.specs.Game.{Game, message}
use Rattle.rules.specs.Trace.{Own, Event, reads, writes, sends, Trace, Receipt, receipts, evaluate, evaluate_all, run}
use Rattle.evaluator.specs.declared.trail.Trails.{Trails}
use Rattle.evaluator.specs.declared.turn.Turn.{Turn}
use Rattle.evaluator.specs.Listing.{took_in}
use Rattle.evaluator.specs.Lookup.{last_change, parcels_to}
use Rattle.evaluator.specs.Reckoning.{Sight, board_of, follow, valued}
use Rattle.evaluator.specs.Standing.{statement_at}
use Rattle.evaluator.specs.Trails.{Lists, lists, places}

-- one entry more, where there is a place
abbrev pub pushed : {T : Type 0} → ℕ → List T → T → List T
pushed n l x = cond (nat_lt (length l) n) (l ++ (x ∷ [])) l

-- entries from the mark on are the move's own; the earlier ones are those of moves listed before
abbrev pub write_to : ℕ → ℕ → List Change → Change → Result (List Change) Why
write_to mark n cs c = cond (is_some (last_change (take mark cs) c.piece c.number)) (Err Clash) (Ok (pushed n cs c))

abbrev pub send_to : (ℕ → ℕ) → ℕ → ℕ → ℕ → List Parcel → Parcel → Result (List Parcel) Why
send_to left limit mark n ps c =
    cond (nat_lt 0 (parcels_to (take mark ps) c.piece)) (Err Clash)
    (cond (left c.piece + parcels_to (drop mark ps) c.piece == limit) (Err TrayFull) (Ok (pushed n ps c)))

-- how many messages a tray keeps of those before the beat. `mail` is what the trait says of that kind of mail
abbrev pub left_of : {M : Type 0} → Ghosts M → Turn M → ℕ → ℕ
left_of mail t q = length (mail.trays t.mail.now q) - cond (took_in t.listed.now q) 1 0

-- what a move sees, with changes of earlier moves and its own
abbrev pub sight_with : {M : Type 0} → Turn M → List Change → List Change → Sight
sight_with t earlier own = record {
  level = meaning t.level.now;
  code = code t.level.now;
  board = board_of t.table.now;
  earlier = earlier;
  own = own;
  mover = t.mover;
}

-- with these entries among the changes
abbrev pub sight_of : {M : Type 0} → Turn M → List Change → Sight
sight_of t cs = sight_with t (take t.written cs) (drop t.written cs)

-- an answer with what the trails hold after it: a refusal says nothing of the trails
abbrev pub with_lists : {A : Type 0} → Result A Why → Lists → Result (Lists × A) Why
with_lists (Ok x) t = Ok (t, x)
with_lists (Err w) t = Err w

abbrev pub lists_or : {A : Type 0} → Result A Why → Lists → Result Lists Why
lists_or (Ok x) t = Ok t
lists_or (Err w) t = Err w

-- what stands around a move: where in the trails its own entries begin, how many messages each tray keeps of those before the
-- beat, the mail's limit, and how many places the trails have
pub record Around : Type 0 where
  pub level : Level
  pub board : Game
  pub mover : ℕ
  pub written : ℕ
  pub sent : ℕ
  pub left : ℕ → ℕ
  pub limit : ℕ
  pub places : Lent

abbrev pub around : {M : Type 0} → Ghosts M → Turn M → Lent → Around
around mail t places = record {
  level = meaning t.level.now;
  board = board_of t.table.now;
  mover = t.mover;
  written = t.written;
  sent = t.sent;
  left = left_of mail t;
  limit = mail.LIMIT;
  places = places;
}

module _ (A : Around) where
  -- an event is met by what stands in the trails: it clashes, finds a full tray, or is entered
  abbrev pub meet : Lists → Event → Result Lists Why
  meet t (reads p a) = cond (is_some (last_change (take A.written t.changes) p a)) (Err Clash) (Ok t)
  meet t (writes p a v) =
      follow (write_to A.written A.places.changes t.changes (record { piece = p; number = a; value = v }))
      (λ cs. Ok (record { changes = cs; parcels = t.parcels }))
  meet t (sends q m) =
      follow (send_to A.left A.limit A.sent A.places.parcels t.parcels (record { piece = q; message = m }))
      (λ ps. Ok (record { changes = t.changes; parcels = ps }))

  abbrev pub meet_all : Lists → List Event → Result Lists Why
  meet_all t [] = Ok t
  meet_all t (e ∷ es) = follow (meet t e) (λ u. meet_all u es)

  -- a trace's events, then its own end
  abbrev pub met : {X : Type 0} → Lists → Trace X → Result (X × Lists) Why
  met t tr = follow (meet_all t tr.events) (λ u. follow tr.out (λ x. Ok (x, u)))

  -- the move's own writes so far
  abbrev pub own_in : Lists → Own
  own_in t = last_change (drop A.written t.changes)

  -- a statement at a place
  abbrev pub step : Lists → ℕ → Stmt → Result Lists Why
  step t i c = follow (met t (run A.level A.board A.mover i c (own_in t))) (λ x. Ok x.1)

  abbrev pub steps : Lists → ℕ → List Stmt → Result Lists Why
  steps t i [] = Ok t
  steps t i (c ∷ cs) = follow (step t i c) (λ u. steps u (i + length (statement c)) cs)

  -- the same for what was read at the place
  abbrev pub step_at : Lists → ℕ → Read Stmt → Result (Lists × ℕ) Why
  step_at t i (got c l) = follow (step t i c) (λ u. Ok (u, i + length (statement c)))
  step_at t i (bad f) = Err Guard

  abbrev pub steps_at : Lists → ℕ → Read (List Stmt) → Result Lists Why
  steps_at t i (got cs l) = steps t i cs
  steps_at t i (bad f) = Err Guard

  -- numbers are received
  abbrev pub receiving : Lists → List Receipt → Result Lists Why
  receiving t [] = Ok t
  receiving t (r ∷ rs) = follow (meet t (writes A.mover r.into r.value)) (λ u. receiving u rs)

  -- the guard, and then the effect
  abbrev pub guarding : Lists → Placed → Result Lists Why
  guarding t x =
      follow (valued (take A.written t.changes) (evaluate A.level A.board A.mover (own_in t) x.guard x.transition.guard))
      (λ v. cond (holds v) (steps t (effect_place x) x.transition.effect) (Err Guard))

  -- a transition, with the message that it takes if it takes one
  abbrev pub transiting : Lists → Placed → Option Message → Result Lists Why
  transiting t x None = guarding t x
  transiting t x (Some m) = follow (receiving t (receipts x.transition.receives m)) (λ u. guarding u x)

  -- the transition of a number
  abbrev pub transiting_by : Lists → Option Placed → Option Message → Result Lists Why
  transiting_by t None m = Err Unknown
  transiting_by t (Some x) m = transiting t x m

-- the statement that stands at a place of a turn's level, on the trails as they are
abbrev pub stepped : {M : Type 0} → Ghosts M → Turn M → Trails → ℕ → Result (Lists × ℕ) Why
stepped mail t lent i = step_at (around mail t (places lent)) (lists lent) i (statement_at t.level.now i)

-- the message of a signal, with the values of the expressions that stand at a place, and the place after them
abbrev pub message_at : Sight → ℕ → ℕ → Read (List Expr) → Result (Message × ℕ) Why
message_at s n i (got es l) = follow (valued s.earlier (evaluate_all s.level s.board s.mover (last_change s.own) i es)) (λ vs. Ok (message n vs, i + length (all expression es)))
message_at s n i (bad f) = Err Guard

-- a piece that a command at place i names must be there
abbrev pub there : Option ℕ → ℕ → Result ℕ Stumble
there (Some q) i = Ok q
there None i = Err (record { cause = Missing; place = i })
