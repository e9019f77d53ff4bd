-- What a move comes to on a game, alone: what stands against it, what it takes, and its trace. A move is a piece with one of its
-- transitions or with a discard, which is implicit consumption.
use Rattle.std.specs.Prelude.{ℕ, Bool, true, false, not, ◌&&◌, ◌||◌, List, [], ◌∷◌, Some, None, Option, ◌==◌}
use Rattle.mail.specs.declared.message.Message.{Message}
use Rattle.mail.specs.Trays.{front}
use Rattle.level.specs.Syntax.{Piece, Level}
use Rattle.level.specs.Places.{Placed, placed}
use Rattle.level.specs.Tables.{nth}
use Rattle.rules.specs.declared.fault.Why.{Why}
use Rattle.rules.specs.declared.fault.Why.TheVariants.{Unknown, OtherState, NoMessage}
use Rattle.rules.specs.declared.moves.Act.{Act}
use Rattle.rules.specs.declared.moves.Act.TheVariants.{Transition, Discard}
use Rattle.rules.specs.declared.moves.Move.{Move}
use Rattle.rules.specs.Game.{Game, same}
use Rattle.rules.specs.Names.{transition_of}
use Rattle.rules.specs.Checks.{Check, pass, fail, and_then, never, ended_by}
use Rattle.rules.specs.Trace.{Event, reads, writes, sends, Trace, give, bind, Own, no_writes, receipts, receive, guarded, unwanted}

-- `takes`: it takes the first message from its piece's tray. `target`: the state that it leaves its piece in
pub record Deed : Type 0 where
  pub mover : ℕ
  pub known : Check Why  -- its piece and transition exist
  pub ready : Check Why  -- the piece's state and first message are those that it needs
  pub takes : Bool
  pub events : List Event
  pub ended : Check Why  -- its evaluation ran to its end
  pub target : ℕ

-- a trigger needs a first message that bears its signal; a spontaneous transition needs none
abbrev pub bears : Bool → ℕ → Option Message → Check Why
bears true s m = pass
bears false s None = fail NoMessage
bears false s (Some m) = never (not (s == m.signal)) NoMessage

abbrev pub waits : Option Message → Check Why
waits None = fail NoMessage
waits (Some m) = pass

module _ (L : Level) (g : Game) (p : ℕ) where
  -- the received numbers are written before the guard is tested
  abbrev pub transit : Placed → Bool → Option Message → Trace Own
  transit t true m = guarded L g p t no_writes
  transit t false None = give no_writes
  transit t false (Some m) = bind (receive p (receipts t.transition.receives m) no_writes) (guarded L g p t)

  abbrev pub transit_by : Placed → Bool → Option Message → Deed
  transit_by t spontaneous m = record {
    mover = p;
    known = pass;
    ready = and_then (never (not (g.states p == t.transition.source)) OtherState) (bears spontaneous t.transition.signal m);
    takes = not spontaneous;
    events = (transit t spontaneous m).events;
    ended = ended_by (transit t spontaneous m).out;
    target = t.transition.target;
  }

  -- k is the piece's kind
  abbrev pub discard : ℕ → Option Message → Trace Own
  discard k None = give no_writes
  discard k (Some m) = unwanted L g p k (g.states p) m (placed L)

  abbrev pub discard_by : ℕ → Option Message → Deed
  discard_by k m = record {
    mover = p;
    known = pass;
    ready = waits m;
    takes = true;
    events = (discard k m).events;
    ended = ended_by (discard k m).out;
    target = g.states p;
  }

  abbrev pub unknown : Deed
  unknown = record { mover = p; known = fail Unknown; ready = pass; takes = false; events = []; ended = pass; target = 0 }

  -- a transition of signal 0 is spontaneous
  abbrev pub transit_deed : Option Placed → Deed
  transit_deed None = unknown
  transit_deed (Some t) = transit_by t (t.transition.signal == 0) (front (g.trays p))

  abbrev pub discard_deed : Option Piece → Deed
  discard_deed None = unknown
  discard_deed (Some x) = discard_by x.kind (front (g.trays p))

  abbrev pub act_deed : Act → Deed
  act_deed (Transition n) = transit_deed (transition_of L p n)
  act_deed Discard = discard_deed (nth L.pieces p)

abbrev pub deed : Level → Game → Move → Deed
deed L g m = act_deed L g m.piece m.act

-- whether events read a cell, write a cell, send to a piece; whether a deed takes from a piece's tray
abbrev pub cell_read : List Event → ℕ → ℕ → Bool
cell_read [] p a = false
cell_read (reads q b ∷ es) p a = same q b p a || cell_read es p a
cell_read (writes q b v ∷ es) p a = cell_read es p a
cell_read (sends q m ∷ es) p a = cell_read es p a

abbrev pub cell_written : List Event → ℕ → ℕ → Bool
cell_written [] p a = false
cell_written (reads q b ∷ es) p a = cell_written es p a
cell_written (writes q b v ∷ es) p a = same q b p a || cell_written es p a
cell_written (sends q m ∷ es) p a = cell_written es p a

abbrev pub sent_to : List Event → ℕ → Bool
sent_to [] p = false
sent_to (reads q b ∷ es) p = sent_to es p
sent_to (writes q b v ∷ es) p = sent_to es p
sent_to (sends q m ∷ es) p = q == p || sent_to es p

abbrev pub takes_from : Deed → ℕ → Bool
takes_from d p = d.takes && d.mover == p
