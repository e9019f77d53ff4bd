-- The bytes that spell a level.
use Rattle.std.specs.Prelude.{ℕ, ◌/◌, ◌%◌, List, [], ◌∷◌, ◌++◌, length, ℤ}
use Rattle.std.specs.Int.{w32}
use Rattle.std.proofs.Common.{of_z}
use Rattle.level.specs.Syntax.{Operator, sum, difference, product, quotient, remainder, equal, less, and, or, Expr, constant, own_piece, own, other, binary, negation, Stmt, assign, store, send, Transition, Kind, Start, Piece, Level}

-- four bytes, highest first
abbrev pub four : ℕ → List ℕ
four n = n / 16777216 ∷ (n / 65536 % 256 ∷ (n / 256 % 256 ∷ (n % 256 ∷ [])))

-- a number of 32 bits in two's complement
abbrev pub word : ℤ → List ℕ
word z = four (of_z w32 z)

-- one after the other
abbrev pub all : {A : Type 0} → (A → List ℕ) → List A → List ℕ
all s [] = []
all s (x ∷ xs) = s x ++ all s xs

abbrev pub command : Operator → ℕ
command sum = 0x14
command difference = 0x15
command product = 0x16
command quotient = 0x17
command remainder = 0x18
command equal = 0x19
command less = 0x1A
command and = 0x1B
command or = 0x1C

abbrev pub expression : Expr → List ℕ
expression (constant z) = 0x10 ∷ word z
expression own_piece = 0x11 ∷ []
expression (own a) = 0x12 ∷ (a ∷ [])
expression (other a e) = 0x13 ∷ (a ∷ expression e)
expression (binary op e f) = command op ∷ (expression e ++ expression f)
expression (negation e) = 0x1D ∷ expression e

abbrev pub statement : Stmt → List ℕ
statement (assign a e) = 0x20 ∷ (a ∷ expression e)
statement (store a e f) = 0x21 ∷ (a ∷ (expression e ++ expression f))
statement (send s e es) = 0x22 ∷ (s ∷ (expression e ++ all expression es))

-- the statements, and the end
abbrev pub effect : List Stmt → List ℕ
effect [] = 0x00 ∷ []
effect (c ∷ cs) = statement c ++ effect cs

-- the two places of receiving, FF where no parameter stands
abbrev pub receivers : List ℕ → List ℕ
receivers [] = 0xFF ∷ (0xFF ∷ [])
receivers (p ∷ []) = p ∷ (0xFF ∷ [])
receivers (p ∷ (q ∷ l)) = p ∷ (q ∷ [])

abbrev pub signal : ℕ → List ℕ
signal n = 0x01 ∷ (n ∷ [])

abbrev pub transition : Transition → List ℕ
transition t = 0x03 ∷ (t.source ∷ (t.target ∷ (t.signal ∷ (receivers t.receives ++ (expression t.guard ++ effect t.effect)))))

abbrev pub kind : Kind → List ℕ
kind k = 0x02 ∷ (k.numbers ∷ (k.states ∷ all transition k.transitions))

abbrev pub start : Start → List ℕ
start s = 0x05 ∷ (s.number ∷ word s.value)

abbrev pub piece : Piece → List ℕ
piece p = 0x04 ∷ (p.kind ∷ all start p.starts)

abbrev pub level : Level → List ℕ
level L = all signal L.signals ++ (all kind L.kinds ++ (all piece L.pieces ++ (0x06 ∷ [])))

-- how many bytes an expression takes
abbrev pub size : Expr → ℕ
size e = length (expression e)
