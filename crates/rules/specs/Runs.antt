-- Runs: lists of calls made one after the other on one game of one level; and what it is to alter one.
use Rattle.std.specs.Prelude.{◌≡◌, ℕ, ◌+◌, ◌≤◌, true, List, [], ◌∷◌, ◌++◌, length, Some, ◌≢◌}
use Rattle.level.specs.Syntax.{Level}
use Rattle.rules.specs.declared.fault.CallFault.{CallFault}
use Rattle.rules.specs.declared.moves.Move.{Move}
use Rattle.rules.specs.Game.{Game, Setting}
use Rattle.rules.specs.Deed.{deed}
use Rattle.rules.specs.Beat.{GoesBefore}
use Rattle.rules.specs.Calls.{Lent, full, Call, strike, accepted, refused, moves_of, call}
use Rattle.rules.specs.Order.{Reordered, Among, Stands}

-- where one of two moves in a list goes before the other, reckoned on g, it stands before it
abbrev pub KeepsOrder : Level → Game → List Move → Type 0
KeepsOrder L g ms = (x y : Move) → Among x ms → Among y ms → (x ≢ y) → GoesBefore (deed L g x) (deed L g y) → Stands x y ms

-- a beat that may stand in another's place: trails of full length or longer, and the bytes of one move or more
pub record Part : Type 0 where
  pub trails : Lent
  pub bytes : List ℕ
  pub moves : List Move
  pub long : full trails ≡ true
  pub spelt : moves_of bytes ≡ Some moves
  pub some : 1 ≤ length moves

abbrev pub strikes : List Part → List Call
strikes [] = []
strikes (b ∷ bs) = strike b.trails b.bytes ∷ strikes bs

abbrev pub joined : List Part → List Move
joined [] = []
joined (b ∷ bs) = b.moves ++ joined bs

module _ (S : Setting) where
  -- the game after a call, and after all calls of a list
  abbrev pub after : Game → Call → Game
  after g c = (call S g c).game

  abbrev pub play : Game → List Call → Game
  play g [] = g
  play g (c ∷ cs) = play (after g c) cs

  -- Altered g cs ds: made from g, the run cs is altered into ds. Calls are kept; an accepted beat's place is taken by beats that hold
  -- each of its moves once, joined in an order that keeps "goes before", reckoned on the game before the beat; a refused call is left out
  pub data Altered : Game → List Call → List Call → Type 0 where
    end : {g : Game} → Altered g [] []
    keep : {g : Game} {cs ds : List Call} (c : Call) → Altered (after g c) cs ds → Altered g (c ∷ cs) (c ∷ ds)
    recut : {g : Game} {cs ds : List Call} (t : Lent) (bytes : List ℕ) (ms : List Move) (n : ℕ) (parts : List Part)
        → moves_of bytes ≡ Some ms
        → (call S g (strike t bytes)).answer ≡ accepted n
        → Reordered ms (joined parts)
        → KeepsOrder S.level g (joined parts)
        → Altered (after g (strike t bytes)) cs ds
        → Altered g (strike t bytes ∷ cs) (strikes parts ++ ds)
    leave : {g : Game} {cs ds : List Call} (c : Call) (f : CallFault) → (call S g c).answer ≡ refused f → Altered g cs ds → Altered g (c ∷ cs) ds

  -- made in turn from g, all calls are accepted, and their answers add up to n
  pub data AddUp : Game → List Call → ℕ → Type 0 where
    done : {g : Game} → AddUp g [] 0
    next : {g : Game} {c : Call} {cs : List Call} {k n : ℕ} → (call S g c).answer ≡ accepted k → AddUp (after g c) cs n → AddUp g (c ∷ cs) (k + n)

  -- Of a run made from g, and the altered one made from h: each call that stays has the same answer in both, and the beats in
  -- another's place are accepted and add up to its answer
  abbrev pub AnswersAgree : {g₀ : Game} {cs ds : List Call} → Game → Game → Altered g₀ cs ds → Type 0
  AnswersAgree g h end = Unit
  AnswersAgree g h (keep c r) = ((call S g c).answer ≡ (call S h c).answer) × AnswersAgree (after g c) (after h c) r
  AnswersAgree g h (recut t bytes ms n parts _ _ _ _ r) = AddUp h (strikes parts) n × AnswersAgree (after g (strike t bytes)) (play h (strikes parts)) r
  AnswersAgree g h (leave c f _ r) = AnswersAgree (after g c) h r

  -- both runs end with the same states, numbers and trays
  pub record EndAlike {g : Game} {cs ds : List Call} (r : Altered g cs ds) : Type 0 where
    pub games : play g cs ≡ play g ds
    pub answers : AnswersAgree g g r
