-- Sound levels: all names in them exist, and all counts are within bounds.
use Rattle.std.specs.Prelude.{◌≡◌, ℕ, zero, suc, ◌+◌, ◌<◌, ◌≤◌, List, [], ◌∷◌, length, FitsSigned, slice_index}
use Rattle.std.specs.Int.{w32}
use Rattle.level.specs.Syntax.{Expr, constant, own_piece, own, other, binary, negation, Stmt, assign, store, send, Transition, Kind, Start, Piece, Level}
use Rattle.level.specs.Spelling.{level}

-- The limits of a level. They are shut, so that no proof computes by counting down from one.
unfoldable pub deepest : ℕ
deepest = 8

unfoldable pub most_statements : ℕ
most_statements = 8

unfoldable pub most_signals : ℕ
most_signals = 32

unfoldable pub most_kinds : ℕ
most_kinds = 16

unfoldable pub most_transitions : ℕ
most_transitions = 128

unfoldable pub most_pieces : ℕ
most_pieces = 32

unfoldable pub most_bytes : ℕ
most_bytes = 8192

abbrev pub Each : {A : Type 0} → (A → Type 0) → List A → Type 0
Each P [] = Unit
Each P (x ∷ xs) = P x × Each P xs

-- how many parameters a signal has; signal 0 stands for none
abbrev pub parameters : List ℕ → ℕ → ℕ
parameters signals zero = 0
parameters signals (suc s) = slice_index signals s

-- how many numbers the pieces of each kind have
abbrev pub counts : List Kind → List ℕ
counts [] = []
counts (k ∷ ks) = k.numbers ∷ counts ks

abbrev pub numbers_of : List Kind → ℕ → ℕ
numbers_of kinds k = slice_index (counts kinds) k

-- how many transitions there are in all
abbrev pub count : List Kind → ℕ
count [] = 0
count (k ∷ ks) = length k.transitions + count ks

-- an expression nested at most `d` deep, in a kind of `n` numbers
abbrev pub SoundExpr : ℕ → ℕ → Expr → Type 0
SoundExpr zero n e = ⊥
SoundExpr (suc d) n (constant z) = FitsSigned w32 z
SoundExpr (suc d) n own_piece = Unit
SoundExpr (suc d) n (own a) = a < n
SoundExpr (suc d) n (other a e) = (a < 8) × SoundExpr d n e
SoundExpr (suc d) n (binary op e f) = SoundExpr d n e × SoundExpr d n f
SoundExpr (suc d) n (negation e) = SoundExpr d n e

module _ (signals : List ℕ) where
  abbrev pub SoundStmt : ℕ → Stmt → Type 0
  SoundStmt n (assign a e) = (a < n) × SoundExpr deepest n e
  SoundStmt n (store a e f) = (a < 8) × SoundExpr deepest n e × SoundExpr deepest n f
  SoundStmt n (send s e es) =
      (1 ≤ s) × (s ≤ length signals) × SoundExpr deepest n e × (length es ≡ parameters signals s) × Each (SoundExpr deepest n) es

  -- in a kind of `n` numbers and `m` states
  pub record SoundTransition (n m : ℕ) (t : Transition) : Type 0 where
    pub source : t.source < m
    pub target : t.target < m
    pub signal : t.signal ≤ length signals
    pub receives : length t.receives ≡ parameters signals t.signal
    pub receivers : Each (λ a. a < n) t.receives
    pub guard : SoundExpr deepest n t.guard
    pub statements : length t.effect ≤ most_statements
    pub effect : Each (SoundStmt n) t.effect

  pub record SoundKind (k : Kind) : Type 0 where
    pub numbers : k.numbers ≤ 8
    pub some : 1 ≤ k.states
    pub states : k.states ≤ 16
    pub transitions : Each (SoundTransition k.numbers k.states) k.transitions

pub record SoundStart (n : ℕ) (s : Start) : Type 0 where
  pub number : s.number < n
  pub value : FitsSigned w32 s.value

pub record SoundPiece (kinds : List Kind) (p : Piece) : Type 0 where
  pub kind : p.kind < length kinds
  pub starts : Each (SoundStart (numbers_of kinds p.kind)) p.starts

pub record Sound (L : Level) : Type 0 where
  pub few_signals : length L.signals ≤ most_signals
  pub signals : Each (λ n. n ≤ 2) L.signals
  pub few_kinds : length L.kinds ≤ most_kinds
  pub few_transitions : count L.kinds ≤ most_transitions
  pub kinds : Each (SoundKind L.signals) L.kinds
  pub few_pieces : length L.pieces ≤ most_pieces
  pub pieces : Each (SoundPiece L.kinds) L.pieces
  pub few_bytes : length (level L) ≤ most_bytes
