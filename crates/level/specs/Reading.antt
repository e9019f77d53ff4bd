-- How bytes are read as a level, from the left, up to its end or the first fault met.
use Rattle.std.specs.Prelude.{ℕ, zero, suc, ◌+◌, ◌-◌, ◌*◌, Bool, true, false, cond, ◌&&◌, List, [], ◌∷◌, ◌++◌, length, drop, ℤ, is_ok, Some, None, Ok, Err, Option, Result, ◌==◌, nat_le, nat_lt, slice_index}
use Rattle.std.specs.Int.{w32}
use Rattle.std.proofs.Common.{to_z}
use Rattle.level.specs.declared.fault.OperandFault.TheVariants.{OutOfRange, TooMany}
use Rattle.level.specs.declared.fault.Reason.{Reason}
use Rattle.level.specs.declared.fault.Reason.TheVariants.{TooLong, Truncated, NotCommand, Operand, TooDeep, TooManyStatements}
use Rattle.level.specs.declared.fault.LevelFault.{LevelFault}
use Rattle.level.specs.Syntax.{Operator, sum, difference, product, quotient, remainder, equal, less, and, or, Expr, constant, own_piece, own, other, binary, negation, Stmt, assign, store, send, Transition, Kind, Start, Piece, Level}
use Rattle.level.specs.Sound.{deepest, most_statements, most_signals, most_kinds, most_transitions, most_pieces, most_bytes, parameters, counts, count}

-- why reading stopped, and the bytes from the one that is named
pub record Fault : Type 0 where
  pub reason : Reason
  pub from : List ℕ

-- what was read and the bytes after it, or the first fault
pub data Read (A : Type 0) : Type 0 where
  got : A → List ℕ → Read A
  bad : Fault → Read A

abbrev pub fault : {A : Type 0} → Reason → List ℕ → Read A
fault why bs = bad (record { reason = why; from = bs })

-- one thing after another
abbrev pub then : {A B : Type 0} → Read A → (A → List ℕ → Read B) → Read B
then (got a bs) k = k a bs
then (bad f) k = bad f

abbrev pub when : {A : Type 0} → Bool → Read A → Read A → Read A
when true r f = r
when false r f = f

-- the byte at a place, 0 past the end
abbrev pub at : List ℕ → ℕ → ℕ
at bs k = slice_index bs k

-- a command with its operands takes `k` bytes; where they end too soon, the end itself is named
abbrev pub room : {A : Type 0} → ℕ → List ℕ → Read A → Read A
room k bs r = when (nat_le k (length bs)) r (fault Truncated [])

-- the operand at a place after the command's byte must be from `least` and below `limit`
abbrev pub operand : {A : Type 0} → ℕ → ℕ → ℕ → List ℕ → Read A → Read A
operand k least limit bs r = when (nat_le least (at bs k) && nat_lt (at bs k) limit) r (fault (Operand OutOfRange) bs)

-- four bytes as a number of 32 bits, highest first, in two's complement
abbrev pub number : ℕ → ℕ → ℕ → ℕ → ℤ
number a b c d = to_z w32 (a * 16777216 + b * 65536 + c * 256 + d)

-- A table of command bytes, and what stands in it for a byte
pub record Entry (F : Type 0) : Type 0 where
  pub byte : ℕ
  pub form : F

abbrev pub entry : {F : Type 0} → ℕ → F → Entry F
entry b f = record { byte = b; form = f }

abbrev pub look : {F : Type 0} → List (Entry F) → ℕ → Option F
look [] b = None
look (x ∷ xs) b = cond (b == x.byte) (Some x.form) (look xs b)

-- a command that must be one of the table's
abbrev pub known : {F A : Type 0} → List ℕ → Option F → (F → Read A) → Read A
known bs None next = fault NotCommand bs
known bs (Some f) next = next f

-- the forms of expressions
pub data Form : Type 0 where
  a_constant an_own_piece an_own an_other : Form
  a_binary : Operator → Form
  a_negation : Form

abbrev pub forms : List (Entry Form)
forms = entry 0x10 a_constant ∷ (entry 0x11 an_own_piece ∷ (entry 0x12 an_own ∷ (entry 0x13 an_other ∷ (
    entry 0x14 (a_binary sum) ∷ (entry 0x15 (a_binary difference) ∷ (entry 0x16 (a_binary product) ∷ (
    entry 0x17 (a_binary quotient) ∷ (entry 0x18 (a_binary remainder) ∷ (entry 0x19 (a_binary equal) ∷ (
    entry 0x1A (a_binary less) ∷ (entry 0x1B (a_binary and) ∷ (entry 0x1C (a_binary or) ∷ (entry 0x1D a_negation ∷ [])))))))))))))

abbrev pub form : ℕ → Option Form
form b = look forms b

-- an expression of a form, in a kind of `n` numbers; `more` reads the expressions inside it
abbrev pub read_form : ℕ → (List ℕ → Read Expr) → List ℕ → Form → Read Expr
read_form n more bs a_constant = room 5 bs (got (constant (number (at bs 1) (at bs 2) (at bs 3) (at bs 4))) (drop 5 bs))
read_form n more bs an_own_piece = got own_piece (drop 1 bs)
read_form n more bs an_own = room 2 bs (operand 1 0 n bs (got (own (at bs 1)) (drop 2 bs)))
read_form n more bs an_other = room 2 bs (operand 1 0 8 bs (then (more (drop 2 bs)) (λ e l. got (other (at bs 1) e) l)))
read_form n more bs (a_binary op) = then (more (drop 1 bs)) (λ e l. then (more l) (λ f m. got (binary op e f) m))
read_form n more bs a_negation = then (more (drop 1 bs)) (λ e l. got (negation e) l)

-- an expression nested at most `d` deep
abbrev pub read_expr : ℕ → ℕ → List ℕ → Read Expr
read_expr zero n bs = room 1 bs (known bs (form (at bs 0)) (λ f. fault TooDeep bs))
read_expr (suc d) n bs = room 1 bs (known bs (form (at bs 0)) (read_form n (read_expr d n) bs))

-- so many expressions
abbrev pub read_exprs : ℕ → ℕ → List ℕ → Read (List Expr)
read_exprs zero n bs = got [] bs
read_exprs (suc k) n bs = then (read_expr deepest n bs) (λ e l. then (read_exprs k n l) (λ es m. got (e ∷ es) m))

-- the forms of statements
pub data Order : Type 0 where
  an_assign a_store a_send : Order

abbrev pub orders : List (Entry Order)
orders = entry 0x20 an_assign ∷ (entry 0x21 a_store ∷ (entry 0x22 a_send ∷ []))

abbrev pub order : ℕ → Option Order
order b = look orders b

-- the place of receiving at byte `k`, in a kind of `n` numbers: a number where a parameter stands, else FF
abbrev pub receiver : {A : Type 0} → ℕ → Bool → ℕ → List ℕ → Read A → Read A
receiver n true k bs r = operand k 0 n bs r
receiver n false k bs r = operand k 0xFF 0x100 bs r

abbrev pub received : Bool → ℕ → List ℕ
received true a = a ∷ []
received false a = []

-- in a level of these signals, in a kind of `n` numbers
module _ (signals : List ℕ) (n : ℕ) where
  abbrev pub read_order : List ℕ → Order → Read Stmt
  read_order bs an_assign = room 2 bs (operand 1 0 n bs (then (read_expr deepest n (drop 2 bs)) (λ e l. got (assign (at bs 1) e) l)))
  read_order bs a_store = room 2 bs (operand 1 0 8 bs (
      then (read_expr deepest n (drop 2 bs)) (λ e l. then (read_expr deepest n l) (λ f m. got (store (at bs 1) e f) m))))
  read_order bs a_send = room 2 bs (operand 1 1 (length signals + 1) bs (
      then (read_expr deepest n (drop 2 bs)) (λ e l. then (read_exprs (parameters signals (at bs 1)) n l) (λ es m. got (send (at bs 1) e es) m))))

  abbrev pub read_stmt : List ℕ → Read Stmt
  read_stmt bs = room 1 bs (known bs (order (at bs 0)) (read_order bs))

  -- the end of an effect, or one statement more
  abbrev pub end_or : List ℕ → Read (List Stmt) → Read (List Stmt)
  end_or bs more = room 1 bs (when (at bs 0 == 0x00) (got [] (drop 1 bs)) (known bs (order (at bs 0)) (λ o. more)))

  -- an effect of at most `k` statements
  abbrev pub read_effect : ℕ → List ℕ → Read (List Stmt)
  read_effect zero bs = end_or bs (fault TooManyStatements bs)
  read_effect (suc k) bs = end_or bs (then (read_stmt bs) (λ c l. then (read_effect k l) (λ cs m. got (c ∷ cs) m)))

  -- the guard and the effect of a transition from `f` to `t` on signal `s`
  abbrev pub read_code : ℕ → ℕ → ℕ → List ℕ → List ℕ → Read Transition
  read_code f t s ps bs = then (read_expr deepest n bs) (λ e l. then (read_effect most_statements l) (λ cs r.
      got (record { source = f; target = t; signal = s; receives = ps; guard = e; effect = cs }) r))

  -- its places of receiving, where the signal has `c` parameters
  abbrev pub read_received : ℕ → List ℕ → Read Transition
  read_received c bs = receiver n (nat_lt 0 c) 4 bs (receiver n (nat_lt 1 c) 5 bs
      (read_code (at bs 1) (at bs 2) (at bs 3) (received (nat_lt 0 c) (at bs 4) ++ received (nat_lt 1 c) (at bs 5)) (drop 6 bs)))

  -- a transition in a kind of `m` states
  abbrev pub read_transition : ℕ → List ℕ → Read Transition
  read_transition m bs =
      operand 1 0 m bs (operand 2 0 m bs (operand 3 0 (length signals + 1) bs (read_received (parameters signals (at bs 3)) bs)))

-- As many items as follow those already there, each opened by command `c` of `k` bytes, of which `left` may still come.
-- An item is read beside those before it.
abbrev pub many : {A : Type 0} → ℕ → ℕ → (List A → List ℕ → Read A) → ℕ → List A → List ℕ → Read (List A)
many c k item zero xs bs = when (at bs 0 == c) (room k bs (fault (Operand TooMany) bs)) (got xs bs)
many c k item (suc left) xs bs =
    when (at bs 0 == c) (room k bs (then (item xs bs) (λ x l. many c k item left (xs ++ (x ∷ [])) l))) (got xs bs)

abbrev pub read_signal : List ℕ → Read ℕ
read_signal bs = operand 1 0 3 bs (got (at bs 1) (drop 2 bs))

abbrev pub read_signals : List ℕ → Read (List ℕ)
read_signals bs = many 0x01 2 (λ before. read_signal) most_signals [] bs

module _ (signals : List ℕ) where
  -- the transitions of a kind of `n` numbers and `m` states, at most `most`
  abbrev pub read_transitions : ℕ → ℕ → ℕ → List ℕ → Read (List Transition)
  read_transitions n m most bs = many 0x03 6 (λ before. read_transition signals n m) most [] bs

  -- a kind, after so many transitions of others
  abbrev pub read_kind : ℕ → List ℕ → Read Kind
  read_kind used bs = operand 1 0 9 bs (operand 2 1 17 bs (
      then (read_transitions (at bs 1) (at bs 2) (most_transitions - used) (drop 3 bs)) (λ ts l.
      got (record { numbers = at bs 1; states = at bs 2; transitions = ts }) l)))

  abbrev pub read_kinds : List ℕ → Read (List Kind)
  read_kinds bs = many 0x02 3 (λ before. read_kind (count before)) most_kinds [] bs

abbrev pub read_start : ℕ → List ℕ → Read Start
read_start n bs =
    operand 1 0 n bs (got (record { number = at bs 1; value = number (at bs 2) (at bs 3) (at bs 4) (at bs 5) }) (drop 6 bs))

-- starting numbers have no limit of their own: there are never more of them than bytes
abbrev pub read_starts : ℕ → ℕ → List ℕ → Read (List Start)
read_starts n most bs = many 0x05 6 (λ before. read_start n) most [] bs

-- where the kinds have so many numbers
module _ (counts : List ℕ) where
  abbrev pub read_piece : List ℕ → Read Piece
  read_piece bs = operand 1 0 (length counts) bs (
      then (read_starts (slice_index counts (at bs 1)) (length bs) (drop 2 bs)) (λ ss l. got (record { kind = at bs 1; starts = ss }) l))

  abbrev pub read_pieces : List ℕ → Read (List Piece)
  read_pieces bs = many 0x04 2 (λ before. read_piece) most_pieces [] bs

-- the end, and nothing after it
abbrev pub read_end : List ℕ → Read Unit
read_end bs = room 1 bs (when (at bs 0 == 0x06)
    (when (length bs == 1) (got tt []) (fault NotCommand (drop 1 bs)))
    (fault NotCommand bs))

-- the sections of a level, each up to the first byte that is not its command
abbrev pub read_sections : List ℕ → Read Level
read_sections bs =
    then (read_signals bs) (λ signals l. then (read_kinds signals l) (λ kinds m. then (read_pieces (counts kinds) m) (λ pieces r.
    then (read_end r) (λ _ e. got (record { signals = signals; kinds = kinds; pieces = pieces }) e))))

abbrev pub read_level : List ℕ → Read Level
read_level bs = when (nat_le (length bs) most_bytes) (read_sections bs) (fault TooLong bs)

-- in `n` bytes: the level, or the refusal with the byte that it names
abbrev pub verdict : ℕ → Read Level → Result Level LevelFault
verdict n (got L l) = Ok L
verdict n (bad f) = Err (record { reason = f.reason; byte = n - length f.from })

-- WHAT LOADING ANSWERS, for every list of bytes
abbrev pub read : List ℕ → Result Level LevelFault
read bs = verdict (length bs) (read_level bs)

-- whether bytes are accepted as a level
abbrev pub accepted : List ℕ → Bool
accepted bs = is_ok (read bs)

-- the level of the one byte 06
abbrev pub empty : Level
empty = record { signals = []; kinds = []; pieces = [] }

abbrev pub tree_or_empty : Result Level LevelFault → Level
tree_or_empty (Ok L) = L
tree_or_empty (Err f) = empty

-- the level that bytes spell, if they spell one
abbrev pub tree : List ℕ → Level
tree bs = tree_or_empty (read bs)
