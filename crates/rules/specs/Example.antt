-- The law at work: the lamp and two bells struck together, and the same moves in two beats and another order.
use Rattle.std.specs.Prelude.{ℕ, List, [], ◌∷◌, ◌++◌, take}
use Rattle.rules.specs.Game.{set_out, Setting}
use Rattle.rules.specs.Calls.{Call, fire, strike}
use Rattle.rules.specs.Runs.{Altered, EndAlike}
use Rattle.rules.specs.Cases.{lamp_and_bell, queue, full_trails, tap_lamp}

-- the lamp and the bell, and a second bell, piece 2
abbrev pub two_bells : List ℕ
two_bells = take 68 lamp_and_bell ++ (0x04 ∷ 0x01 ∷ 0x06 ∷ [])

abbrev pub setting : Setting
setting = queue two_bells

-- both bells and the lamp in one beat; then the bell once more, which is refused
abbrev pub together : List Call
together = tap_lamp ∷ strike full_trails (0x51 ∷ 1 ∷ 1 ∷ 0x51 ∷ 2 ∷ 1 ∷ 0x51 ∷ 0 ∷ 0 ∷ []) ∷ fire full_trails 1 1 ∷ []

-- the second bell first, then the bell and the lamp; nothing refused
abbrev pub apart : List Call
apart = tap_lamp ∷ strike full_trails (0x51 ∷ 2 ∷ 1 ∷ []) ∷ strike full_trails (0x51 ∷ 1 ∷ 1 ∷ 0x51 ∷ 0 ∷ 0 ∷ []) ∷ []

-- the one run is altered into the other, and so they end alike
pub record TogetherAndApart : Type 0 where
  pub altered : Altered setting (set_out setting.level) together apart
  pub alike : EndAlike setting altered
