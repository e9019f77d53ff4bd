-- How the input is cut into a level and a recording.
use Rattle.std.specs.Prelude.{ℕ, ◌+◌, ◌*◌, List, [], ◌∷◌, take}

-- two bytes say how long the level is, the highest first; where bytes are missing, the level is what came
abbrev pub level_part : List ℕ → List ℕ
level_part [] = []
level_part (h ∷ []) = []
level_part (h ∷ (l ∷ bs)) = take (h * 256 + l) bs
