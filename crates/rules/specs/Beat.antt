-- A beat, which is a concurrent step: how its moves are judged in the order listed, and what it leaves if all of them pass.
use Rattle.std.specs.Prelude.{◌≡◌, ℕ, suc, ◌+◌, ◌-◌, Bool, true, false, cond, ◌&&◌, ◌||◌, ◌⊎◌, List, [], ◌∷◌, ◌++◌, length, ◌==◌}
use Rattle.mail.specs.declared.message.Message.{Message}
use Rattle.mail.specs.Trays.{Trays, take_trays}
use Rattle.level.specs.Syntax.{Level}
use Rattle.rules.specs.declared.fault.MoveFault.{MoveFault}
use Rattle.rules.specs.declared.fault.Why.{Why}
use Rattle.rules.specs.declared.fault.Why.TheVariants.{MovesAlready, Clash, TrayFull}
use Rattle.rules.specs.declared.moves.Move.{Move}
use Rattle.rules.specs.declared.trail.Change.{Change}
use Rattle.rules.specs.declared.trail.Parcel.{Parcel}
use Rattle.rules.specs.Game.{Numbers, Game, with_state, with_number, put_in}
use Rattle.rules.specs.Trace.{Event, reads, writes, sends}
use Rattle.rules.specs.Checks.{Check, pass, fail, and_then, never}
use Rattle.rules.specs.Deed.{Deed, deed, cell_read, cell_written, sent_to, takes_from}

-- One move goes before another if the other writes a cell that it reads, or sends to the tray that it takes from
abbrev pub GoesBefore : Deed → Deed → Type 0
GoesBefore x y =
    ((p : ℕ) × (a : ℕ) × (cell_read x.events p a ≡ true) × (cell_written y.events p a ≡ true))
    ⊎ ((x.takes ≡ true) × (sent_to y.events x.mover ≡ true))

-- Two moves, x listed before y, clash if y goes before x, if both write one cell, or if both send to one piece
abbrev pub Clashes : Deed → Deed → Type 0
Clashes x y =
    GoesBefore y x
    ⊎ (((p : ℕ) × (a : ℕ) × (cell_written x.events p a ≡ true) × (cell_written y.events p a ≡ true))
    ⊎ ((q : ℕ) × (sent_to x.events q ≡ true) × (sent_to y.events q ≡ true)))

-- what the moves listed earlier have done: which pieces moved, cells were written, pieces were sent to, trays were taken from
pub record Earlier : Type 0 where
  pub moved : ℕ → Bool
  pub wrote : ℕ → ℕ → Bool
  pub sent : ℕ → Bool
  pub took : ℕ → Bool

abbrev pub nothing : Earlier
nothing = record { moved = λ p. false; wrote = λ p a. false; sent = λ p. false; took = λ p. false }

abbrev pub and_so : Earlier → Deed → Earlier
and_so s d = record {
  moved = λ p. s.moved p || (d.mover == p);
  wrote = λ p a. s.wrote p a || cell_written d.events p a;
  sent = λ p. s.sent p || sent_to d.events p;
  took = λ p. s.took p || takes_from d p;
}

-- one more for piece q
abbrev pub one_more : (ℕ → ℕ) → ℕ → ℕ → ℕ
one_more n q r = cond (q == r) (suc (n r)) (n r)

-- the length of a tray before the beat, less 1 if it was taken from
abbrev pub left_in : Game → ℕ → Bool → ℕ
left_in g q b = length (g.trays q) - cond b 1 0

module _ (limit : ℕ) (g : Game) where
  -- Along the evaluation the first fault met counts. A tray is full for a message when its length before the beat, less 1 if an
  -- earlier move or this one takes from it, plus the messages to it so far, is the limit. `n` counts those so far: they are this
  -- move's own, since two senders to one piece clash
  abbrev pub along : Earlier → Deed → (ℕ → ℕ) → List Event → Check Why
  along s d n [] = d.ended
  along s d n (reads p a ∷ es) = and_then (never (s.wrote p a) Clash) (along s d n es)
  along s d n (writes p a v ∷ es) = and_then (never (s.wrote p a) Clash) (along s d n es)
  along s d n (sends q m ∷ es) =
      and_then (never (s.sent q) Clash)
      (and_then (never (left_in g q (s.took q || takes_from d q) + n q == limit) TrayFull) (along s d (one_more n q) es))

  -- the checks of a move in their order, then its evaluation
  abbrev pub judge : Earlier → Deed → Check Why
  judge s d =
      and_then d.known
      (and_then (never (s.moved d.mover) MovesAlready)
      (and_then d.ready (and_then (never (d.takes && s.sent d.mover) Clash) (along s d (λ q. 0) d.events))))

  abbrev pub in_turn : Check Why → ℕ → Move → Check MoveFault → Check MoveFault
  in_turn pass i m k = k
  in_turn (fail w) i m k = fail (record { place = i; moving = m; why = w })

  -- each move, from place i on, in full before the next. All are evaluated on the game before the beat
  abbrev pub judge_all : Level → Earlier → ℕ → List Move → Check MoveFault
  judge_all L s i [] = pass
  judge_all L s i (m ∷ ms) = in_turn (judge s (deed L g m)) i m (judge_all L (and_so s (deed L g m)) (suc i) ms)

-- all writes in order, and all sends
abbrev pub changes_of : List Event → List Change
changes_of [] = []
changes_of (reads p a ∷ es) = changes_of es
changes_of (writes p a v ∷ es) = record { piece = p; number = a; value = v } ∷ changes_of es
changes_of (sends q m ∷ es) = changes_of es

abbrev pub parcels_of : List Event → List Parcel
parcels_of [] = []
parcels_of (reads p a ∷ es) = parcels_of es
parcels_of (writes p a v ∷ es) = parcels_of es
parcels_of (sends q m ∷ es) = record { piece = q; message = m } ∷ parcels_of es

abbrev pub changes : List Deed → List Change
changes [] = []
changes (d ∷ ds) = changes_of d.events ++ changes ds

abbrev pub parcels : List Deed → List Parcel
parcels [] = []
parcels (d ∷ ds) = parcels_of d.events ++ parcels ds

-- each mover has its target state
abbrev pub moved_on : (ℕ → ℕ) → List Deed → ℕ → ℕ
moved_on f [] = f
moved_on f (d ∷ ds) = moved_on (with_state f d.mover d.target) ds

-- each written cell has its last value
abbrev pub changed : Numbers → List Change → Numbers
changed f [] = f
changed f (c ∷ cs) = changed (with_number f c.piece c.number c.value) cs

-- each tray loses what was taken
abbrev pub taken_from : Trays → List Deed → Trays
taken_from t [] = t
taken_from t (d ∷ ds) = taken_from (cond d.takes (take_trays t d.mover) t) ds

-- and gets the messages
abbrev pub delivered : (List Message → Message → ℕ) → Trays → List Parcel → Trays
delivered place t [] = t
delivered place t (c ∷ cs) = delivered place (put_in place t c.piece c.message) cs

-- the game after an accepted beat
abbrev pub outcome : (List Message → Message → ℕ) → Game → List Deed → Game
outcome place g ds = record {
  states = moved_on g.states ds;
  numbers = changed g.numbers (changes ds);
  trays = delivered place (taken_from g.trays ds) (parcels ds);
}
