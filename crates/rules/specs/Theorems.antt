-- What else is proved of the rules, by name. Each holds in every setting.
use Rattle.std.specs.Prelude.{◌≡◌, ℕ, ◌*◌, ◌<◌, ◌≤◌, true, List, [], ◌∷◌, ◌++◌, map, length}
use Rattle.mail.specs.Trays.{Trays, front}
use Rattle.level.specs.Syntax.{Level}
use Rattle.level.specs.Sound.{Sound}
use Rattle.rules.specs.declared.fault.CallFault.{CallFault}
use Rattle.rules.specs.declared.fault.CallFault.TheVariants.{Strike}
use Rattle.rules.specs.declared.fault.MoveFault.{MoveFault}
use Rattle.rules.specs.declared.fault.StrikeFault.TheVariants.{AtMove}
use Rattle.rules.specs.declared.fault.Why.TheVariants.{Clash}
use Rattle.rules.specs.declared.moves.Move.{Move}
use Rattle.rules.specs.declared.trail.Parcel.{Parcel}
use Rattle.rules.specs.Game.{Game, Within, set_out, Setting, put_in}
use Rattle.rules.specs.Deed.{deed, cell_read}
use Rattle.rules.specs.Beat.{GoesBefore, Clashes, changes, parcels, taken_from}
use Rattle.rules.specs.Calls.{Lent, full, Call, fire, accepted, refused, refuse, move_of, beat, call}
use Rattle.rules.specs.Order.{Stands}
use Rattle.rules.specs.Single.{Step}

-- What a move does depends on its piece's state, on the first message if it takes one, and on the cells that it reads: on a game
-- that agrees in these it does the same
abbrev pub DependsOnReads : Type 0
DependsOnReads = (L : Level) (g h : Game) (m : Move)
    → h.states m.piece ≡ g.states m.piece
    → ((deed L g m).takes ≡ true → front (h.trays m.piece) ≡ front (g.trays m.piece))
    → ((p a : ℕ) → cell_read (deed L g m).events p a ≡ true → h.numbers p a ≡ g.numbers p a)
    → deed L h m ≡ deed L g m

-- An accepted beat may be cut in two: both parts are accepted in turn, and end as it does
abbrev pub BeatsSplit : Type 0
BeatsSplit = (S : Setting) (g : Game) (xs ys : List Move) (n : ℕ) → Within S.limit g
    → (beat S g (xs ++ ys)).answer ≡ accepted n
    → ((beat S g xs).answer ≡ accepted (length xs))
    × ((beat S (beat S g xs).game ys).answer ≡ accepted (length ys))
    × ((beat S (beat S g xs).game ys).game ≡ (beat S g (xs ++ ys)).game)

-- Two neighbours in an accepted beat may be exchanged if the first does not go before the second
abbrev pub NeighboursExchange : Type 0
NeighboursExchange = (S : Setting) (g : Game) (xs ys : List Move) (x y : Move) (n : ℕ) → Within S.limit g
    → (beat S g (xs ++ (x ∷ y ∷ ys))).answer ≡ accepted n
    → (GoesBefore (deed S.level g x) (deed S.level g y) → ⊥)
    → ((beat S g (xs ++ (y ∷ x ∷ ys))).answer ≡ accepted n)
    × ((beat S g (xs ++ (y ∷ x ∷ ys))).game ≡ (beat S g (xs ++ (x ∷ y ∷ ys))).game)

-- No two moves of an accepted beat clash
abbrev pub NoneClash : Type 0
NoneClash = (S : Setting) (g : Game) (ms : List Move) (n : ℕ)
    → (beat S g ms).answer ≡ accepted n
    → (x y : Move) → Stands x y ms → Clashes (deed S.level g x) (deed S.level g y) → ⊥

-- A move is refused for a clash only where it clashes with one listed before it
abbrev pub ClashesAreReal : Type 0
ClashesAreReal = (S : Setting) (g : Game) (ms : List Move) (f : MoveFault)
    → (beat S g ms).answer ≡ refused (Strike (AtMove f))
    → f.why ≡ Clash
    → (x : Move) × Stands x f.moving ms × Clashes (deed S.level g x) (deed S.level g f.moving)

-- Fire accepts exactly the moves that the published semantics enables, and ends where it says
pub record FireIsAStep : Type 0 where
  pub sound : (S : Setting) (g : Game) (t : Lent) (p n k : ℕ) → (call S g (fire t p n)).answer ≡ accepted k → Step S g (move_of p n) (call S g (fire t p n)).game
  pub complete : (S : Setting) (g h : Game) (t : Lent) (p n : ℕ) → full t ≡ true → Step S g (move_of p n) h
      → ((call S g (fire t p n)).answer ≡ accepted 1) × ((call S g (fire t p n)).game ≡ h)

-- A refused call leaves the game as it was, and both trails at zero
abbrev pub RefusalsChangeNothing : Type 0
RefusalsChangeNothing = (S : Setting) (g : Game) (c : Call) (f : CallFault) → (call S g c).answer ≡ refused f → call S g c ≡ refuse f g

-- put one after the other, each parcel finds its tray shorter than the limit
abbrev pub FindRoom : Setting → Trays → List Parcel → Type 0
FindRoom S t [] = Unit
FindRoom S t (c ∷ cs) = (length (t c.piece) < S.limit) × FindRoom S (put_in S.place t c.piece c.message) cs

-- No tray grows over the limit: it is so when a game is set out, and after every call. So each message of an accepted beat finds room
pub record TraysStayWithin : Type 0 where
  pub first : (limit : ℕ) (L : Level) → Within limit (set_out L)
  pub always : (S : Setting) (g : Game) (c : Call) → Within S.limit g → Within S.limit (call S g c).game
  pub room : (S : Setting) (g : Game) (ms : List Move) (n : ℕ) → Within S.limit g
      → (beat S g ms).answer ≡ accepted n
      → FindRoom S (taken_from g.trays (map (deed S.level g) ms)) (parcels (map (deed S.level g) ms))

-- A move makes at most 10 changes and sends at most 8 parcels, so full trails hold those of every call
pub record TrailsSuffice : Type 0 where
  pub moves : (L : Level) → Sound L → (g : Game) (ms : List Move)
      → (length (changes (map (deed L g) ms)) ≤ 10 * length ms) × (length (parcels (map (deed L g) ms)) ≤ 8 * length ms)
  pub calls : (S : Setting) → Sound S.level → (g : Game) (c : Call)
      → (length (call S g c).changes ≤ 160) × (length (call S g c).parcels ≤ 128)
