-- A refused call is a refusal and nothing else.
use Rattle.std.proofs.Common.{◌≡◌, List, [], ◌∷◌, Some, None, Option, arith}
use Rattle.rules.specs.declared.fault.CallFault.{CallFault}
use Rattle.rules.specs.declared.fault.MoveFault.{MoveFault}
use Rattle.rules.specs.declared.moves.Move.{Move}
use Rattle.rules.specs.Game.{Game, Setting}
use Rattle.rules.specs.Checks.{Check}
use Rattle.rules.specs.Beat.{nothing, judge_all}
use Rattle.rules.specs.Calls.{tap, fire, strike, refused, After, refuse, move_of, moves_of, struck, listed}
use Rattle.rules.specs.Theorems.{RefusalsChangeNothing}

module _ (S : Setting) (g : Game) where
  -- an outcome that, refused, is a refusal and nothing else
  abbrev Plain : CallFault → After → Type 0
  Plain f a = a.answer ≡ refused f → a ≡ refuse f g

  plain_struck : (f : CallFault) (ms : List Move) (c : Check MoveFault) → Plain f (struck S g ms c)
  plain_struck f ms c = grind arith

  plain_listed : (f : CallFault) (o : Option (List Move)) → Plain f (listed S g o)
  plain_listed f None h = grind arith
  plain_listed f (Some ms) h = let k = plain_struck f ms (judge_all S.limit g S.level nothing 0 ms) in grind arith

pub refusals_change_nothing : RefusalsChangeNothing
refusals_change_nothing S g (tap p m) f h = grind arith
refusals_change_nothing S g (fire t p n) f h = let k = plain_struck S g f (move_of p n ∷ []) (judge_all S.limit g S.level nothing 0 (move_of p n ∷ [])) in grind arith
refusals_change_nothing S g (strike t bs) f h = let k = plain_listed S g f (moves_of bs) in grind arith
