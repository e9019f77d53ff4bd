-- The calls on a game: what each answers, the game after it, and what it leaves in the trails that it borrows.
use Rattle.std.specs.Prelude.{ℕ, zero, suc, Bool, true, cond, not, ◌&&◌, ◌||◌, List, [], ◌∷◌, map, length, Some, None, Option, ◌==◌, nat_le, nat_lt}
use Rattle.mail.specs.declared.message.Message.{Message}
use Rattle.level.specs.Sound.{parameters}
use Rattle.rules.specs.declared.fault.CallFault.{CallFault}
use Rattle.rules.specs.declared.fault.CallFault.TheVariants.{Tap, Strike}
use Rattle.rules.specs.declared.fault.MoveFault.{MoveFault}
use Rattle.rules.specs.declared.fault.StrikeFault.TheVariants.{ShortTrail, NotMoves, AtMove}
use Rattle.rules.specs.declared.fault.TapFault.{TapFault}
use Rattle.rules.specs.declared.fault.TapFault.TheVariants.{NoPiece, NoSignal, Unused, TrayFull}
use Rattle.rules.specs.declared.moves.Act.{Act}
use Rattle.rules.specs.declared.moves.Act.TheVariants.{Transition, Discard}
use Rattle.rules.specs.declared.moves.Move.{Move}
use Rattle.rules.specs.declared.trail.Change.{Change}
use Rattle.rules.specs.declared.trail.Parcel.{Parcel}
use Rattle.rules.specs.Arithmetic.{holds}
use Rattle.rules.specs.Game.{Game, Setting}
use Rattle.rules.specs.Names.{then}
use Rattle.rules.specs.Checks.{Check, pass, fail, and_then, never}
use Rattle.rules.specs.Deed.{deed}
use Rattle.rules.specs.Beat.{nothing, judge_all, changes, parcels, delivered, outcome}

-- how many places the two lent trails have
pub record Lent : Type 0 where
  pub changes : ℕ
  pub parcels : ℕ

-- full trails hold what any beat writes and sends
abbrev pub full : Lent → Bool
full t = nat_le 160 t.changes && nat_le 128 t.parcels

-- a tap of a piece with a message; a fire, with the trails lent, of a piece and a transition; a strike, with the trails lent, of the
-- bytes of its moves
pub data Call : Type 0 where
  tap : ℕ → Message → Call
  fire : Lent → ℕ → ℕ → Call
  strike : Lent → List ℕ → Call

pub data Answer : Type 0 where
  accepted : ℕ → Answer
  refused : CallFault → Answer

-- what a call leaves: its answer, the game, and what the two trails hold (nothing for a tap, which borrows none)
pub record After : Type 0 where
  pub answer : Answer
  pub game : Game
  pub changes : List Change
  pub parcels : List Parcel

-- nothing changes, and both trails count zero
abbrev pub refuse : CallFault → Game → After
refuse f g = record { answer = refused f; game = g; changes = []; parcels = [] }

-- in a transition's place FF is a discard
abbrev pub act_of : ℕ → Act
act_of t = cond (t == 0xFF) Discard (Transition t)

abbrev pub move_of : ℕ → ℕ → Move
move_of p t = record { piece = p; act = act_of t }

-- a move is the byte 51, a piece and a transition
abbrev pub moves_of : List ℕ → Option (List Move)
moves_of [] = Some []
moves_of (c ∷ []) = None
moves_of (c ∷ p ∷ []) = None
moves_of (c ∷ p ∷ t ∷ bs) = cond (c == 0x51) (then (moves_of bs) (λ ms. Some (move_of p t ∷ ms))) None

-- the moves at the front of some bytes; what follows them need be none
abbrev pub front_moves : List ℕ → List Move
front_moves [] = []
front_moves (c ∷ []) = []
front_moves (c ∷ p ∷ []) = []
front_moves (c ∷ p ∷ t ∷ bs) = cond (c == 0x51) (move_of p t ∷ front_moves bs) []

-- the numbers that a signal of n parameters does not use are 0
abbrev pub fits : ℕ → Message → Bool
fits zero m = not (holds m.first || holds m.second)
fits (suc zero) m = not (holds m.second)
fits (suc (suc n)) m = true

module _ (S : Setting) (g : Game) where
  -- what a tap puts where
  abbrev pub yield : ℕ → Message → List Parcel
  yield p m = record { piece = p; message = m } ∷ []

  -- a piece and a signal of the level, no unused number but 0, and room in the tray
  abbrev pub tap_check : ℕ → Message → Check TapFault
  tap_check p m =
      and_then (never (not (nat_lt p (length S.level.pieces))) NoPiece)
      (and_then (never (m.signal == 0 || nat_lt (length S.level.signals) m.signal) NoSignal)
      (and_then (never (not (fits (parameters S.level.signals m.signal) m)) Unused)
      (never (length (g.trays p) == S.limit) TrayFull)))

  abbrev pub tapped : List Parcel → Check TapFault → After
  tapped ps pass = record {
    answer = accepted 1;
    game = record { states = g.states; numbers = g.numbers; trays = delivered S.place g.trays ps };
    changes = [];
    parcels = [];
  }
  tapped ps (fail f) = refuse (Tap f) g

  abbrev pub struck : List Move → Check MoveFault → After
  struck ms pass = record {
    answer = accepted (length ms);
    game = outcome S.place g (map (deed S.level g) ms);
    changes = changes (map (deed S.level g) ms);
    parcels = parcels (map (deed S.level g) ms);
  }
  struck ms (fail f) = refuse (Strike (AtMove f)) g

  abbrev pub beat : List Move → After
  beat ms = struck ms (judge_all S.limit g S.level nothing 0 ms)

  -- a beat has 1 to 16 moves
  abbrev pub listed : Option (List Move) → After
  listed None = refuse (Strike NotMoves) g
  listed (Some ms) = cond (nat_le 1 (length ms) && nat_le (length ms) 16) (beat ms) (refuse (Strike NotMoves) g)

  -- first of all the trails must be full
  abbrev pub lent : Lent → After → After
  lent t a = cond (full t) a (refuse (Strike ShortTrail) g)

  abbrev pub call : Call → After
  call (tap p m) = tapped (yield p m) (tap_check p m)
  call (fire t p n) = lent t (beat (move_of p n ∷ []))
  call (strike t bs) = lent t (listed (moves_of bs))
