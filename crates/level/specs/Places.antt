-- Where the code of each transition stands in the bytes of its level.
use Rattle.std.specs.Prelude.{◌≡◌, ℕ, ◌+◌, List, [], ◌∷◌, ◌++◌, length, drop}
use Rattle.level.specs.Syntax.{Transition, Kind, Level}
use Rattle.level.specs.Spelling.{all, signal, transition, kind, size}
use Rattle.level.specs.Sound.{deepest, most_statements}
use Rattle.level.specs.Reading.{got, read_expr, read_effect}

-- a transition with the number of its kind, how many numbers that kind has, and the place of its guard
pub record Placed : Type 0 where
  pub kind : ℕ
  pub numbers : ℕ
  pub guard : ℕ
  pub transition : Transition

-- its effect stands right after its guard
abbrev pub effect_place : Placed → ℕ
effect_place x = x.guard + size x.transition.guard

-- a transition of kind `k` of `n` numbers that stands at `i`: its command and operands take six bytes
abbrev pub placed_at : ℕ → ℕ → ℕ → Transition → Placed
placed_at k n i t = record { kind = k; numbers = n; guard = i + 6; transition = t }

-- the transitions of a kind, the first of which stands at `i`
abbrev pub in_kind : ℕ → ℕ → ℕ → List Transition → List Placed
in_kind k n i [] = []
in_kind k n i (t ∷ ts) = placed_at k n i t ∷ in_kind k n (i + length (transition t)) ts

-- those of the kinds from number `k` on, the first of which stands at `i`
abbrev pub in_kinds : ℕ → ℕ → List Kind → List Placed
in_kinds k i [] = []
in_kinds k i (x ∷ xs) = in_kind k x.numbers (i + 3) x.transitions ++ in_kinds (k + 1) (i + length (kind x)) xs

-- the transitions of a level in order: a transition's number is its place in this list
abbrev pub placed : Level → List Placed
placed L = in_kinds 0 (length (all signal L.signals)) L.kinds

-- both its guard and its effect stand at their places in the bytes, and read to their ends
pub record Stands (signals bs : List ℕ) (x : Placed) : Type 0 where
  pub rest : List ℕ
  pub guard : read_expr deepest x.numbers (drop x.guard bs) ≡ got x.transition.guard (drop (effect_place x) bs)
  pub effect : read_effect signals x.numbers most_statements (drop (effect_place x) bs) ≡ got x.transition.effect rest
