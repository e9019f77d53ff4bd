-- What a level says, without regard to bytes: signals, kinds with their transitions, and pieces.
use Rattle.std.specs.Prelude.{ℕ, List, ℤ}

-- the operators of two numbers
pub data Operator : Type 0 where
  sum difference product quotient remainder equal less and or : Operator

-- an expression, evaluated for the piece that moves
pub data Expr : Type 0 where
  constant : ℤ → Expr  -- this number
  own_piece : Expr  -- the moving piece's own piece number
  own : ℕ → Expr  -- its own number of that index
  other : ℕ → Expr → Expr  -- the number of that index of the piece that the expression names
  binary : Operator → Expr → Expr → Expr
  negation : Expr → Expr

-- a statement of an effect
pub data Stmt : Type 0 where
  assign : ℕ → Expr → Stmt  -- own number, its new value
  store : ℕ → Expr → Expr → Stmt  -- number's index, the piece that has it, its new value
  send : ℕ → Expr → List Expr → Stmt  -- signal, the piece it goes to, a value for each parameter

-- a transition of a state machine: on a signal (0: spontaneously) from one state to another
pub record Transition : Type 0 where
  pub source : ℕ
  pub target : ℕ
  pub signal : ℕ
  pub receives : List ℕ  -- the own numbers into which the signal's parameters are received
  pub guard : Expr
  pub effect : List Stmt

-- a kind of pieces, as a class of objects: how many numbers and states each has, and its transitions
pub record Kind : Type 0 where
  pub numbers : ℕ
  pub states : ℕ
  pub transitions : List Transition

-- a number of a piece and the value it starts with
pub record Start : Type 0 where
  pub number : ℕ
  pub value : ℤ

-- a piece, as an object: its kind, and the numbers that do not start at 0
pub record Piece : Type 0 where
  pub kind : ℕ
  pub starts : List Start

-- a level; of a signal only the number of its parameters is said
pub record Level : Type 0 where
  pub signals : List ℕ
  pub kinds : List Kind
  pub pieces : List Piece
