-- The law over runs: taken apart, reordered and freed of refused calls, a run ends as before.
use Rattle.std.specs.Prelude.{◌≡◌, ℕ, ◌≤◌, List, [], ◌∷◌, length, Some}
use Rattle.mail.specs.declared.message.Message.{Message}
use Rattle.rules.specs.declared.moves.Move.{Move}
use Rattle.rules.specs.Game.{Game, Within, Setting}
use Rattle.rules.specs.Calls.{Lent, Call, fire, strike, accepted, moves_of, call}
use Rattle.rules.specs.Runs.{KeepsOrder, Altered, EndAlike}

-- What all mails show of their limit and their rule of placing.
pub record ShowsMail (limit : ℕ) (place : List Message → Message → ℕ) : Type 0 where
  pub least : 1 ≤ limit
  pub most : limit ≤ 8
  pub placed : (l : List Message) (m : Message) → place l m ≤ length l

-- in one setting, which is any level and any mail
pub record LawIn (S : Setting) : Type 0 where
  -- a run from the game set out, or from any game with no tray over the limit, and any run that it is altered into: every replacing
  -- beat is accepted, and their answers add up to the old one's; every kept call has the same answer; both end with the same states,
  -- numbers and trays
  pub runs : (g : Game) → Within S.limit g → {cs ds : List Call} (r : Altered S g cs ds) → EndAlike S r
  -- from every game, an accepted beat, as listed, keeps "goes before" itself
  pub listed : (g : Game) (t : Lent) (bytes : List ℕ) (ms : List Move) (n : ℕ)
      → moves_of bytes ≡ Some ms → (call S g (strike t bytes)).answer ≡ accepted n → KeepsOrder S.level g ms
  -- from every game, fire of a move and strike of that move alone agree in answer, game and trails, whatever the trails' lengths
  pub alone : (g : Game) (t : Lent) (p n : ℕ) → call S g (fire t p n) ≡ call S g (strike t (0x51 ∷ p ∷ n ∷ []))

pub record RunsEndAlike : Type 0 where
  pub law : (S : Setting) → ShowsMail S.limit S.place → LawIn S
