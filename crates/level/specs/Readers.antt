-- What the code's readers promise, each of the part of a level that it reads. The law of levels does not rest on this.
use Rattle.std.specs.Prelude.{◌≡◌, ℕ, ◌+◌, cond, ◌&&◌, List, ◌++◌, length, drop, ℤ, Some, None, Ok, Err, Option, Result, nat_le, nat_lt}
use Rattle.level.specs.declared.cursor.Cursor.{Cursor}
use Rattle.level.specs.declared.entry.KindEntry.{KindEntry}
use Rattle.level.specs.declared.entry.TransitionEntry.{TransitionEntry}
use Rattle.level.specs.declared.fault.OperandFault.{OperandFault}
use Rattle.level.specs.declared.fault.OperandFault.TheVariants.{OutOfRange, TooMany}
use Rattle.level.specs.declared.fault.Reason.{Reason}
use Rattle.level.specs.declared.fault.Reason.TheVariants.{Operand}
use Rattle.level.specs.Reading.{Read, got, bad, fault, when, room, at, operand, receiver, received}
use Rattle.level.specs.Sound.{parameters}
use Rattle.level.specs.Syntax.{Start}
use Rattle.level.specs.Tables.{nth}

-- what a reader answers of what was read, and the bytes that remain before it
abbrev pub answered : {A B : Type 0} → (A → B) → Read A → Result B Reason
answered f (got a l) = Ok (f a)
answered f (bad x) = Err x.reason

abbrev pub remains : {A : Type 0} → Read A → List ℕ
remains (got a l) = l
remains (bad x) = x.from

abbrev pub nothing : {A : Type 0} → A → Unit {0}
nothing a = tt

-- both at once, where `f` is what is made of what was read
pub record Gives {A B : Type 0} (f : A → B) (R : Read A) (r : Result B Reason) (l : List ℕ) : Type 0 where
  pub answer : r ≡ answered f R
  pub rest : l ≡ remains R

-- the promise of the code's readers: the cursor moves on within its level
pub record Moves {A B : Type 0} (f : A → B) (R : Read A) (r : Result B Reason) (before after : Cursor) : Type 0 where
  pub gives : Gives f R r after.rest.now
  pub stays : after.total ≡ before.total

-- one item of `many`, after `n` others
abbrev pub turn : {A : Type 0} → ℕ → ℕ → ℕ → List ℕ → Read A → Read A
turn k most n bs item = room k bs (when (nat_lt n most) item (fault (Operand TooMany) bs))

-- only whether there is room for it
abbrev pub opened : ℕ → ℕ → ℕ → List ℕ → Read (Unit {0})
opened k most n bs = turn k most n bs (got tt bs)

-- what holds of what was read
abbrev pub Holds : {A : Type 0} → Read A → (A → Type 0) → Type 0
Holds (got a l) P = P a
Holds (bad x) P = Unit

-- whether a byte is from `least` and below `limit`, and what is then made of it
abbrev pub checked : {W : Type 0} → ℕ → ℕ → ℕ → W → Result W OperandFault
checked least limit b w = cond (nat_le least b && nat_lt b limit) (Ok w) (Err OutOfRange)

-- what a place of receiving that holds this byte gives: where a parameter stands, one of so many numbers, else FF alone
abbrev pub receiving : Option ℕ → ℕ → Result (Option ℕ) OperandFault
receiving (Some n) b = checked 0 n b (Some b)
receiving None b = checked 0xFF 0x100 b None

-- the operands of a transition
pub record Head : Type 0 where
  pub source : ℕ
  pub target : ℕ
  pub signal : ℕ
  pub receives : List ℕ

module _ (signals : List ℕ) (n m : ℕ) (bs : List ℕ) where
  abbrev pub head_at : ℕ → Head
  head_at c = record { source = at bs 1; target = at bs 2; signal = at bs 3; receives = received (nat_lt 0 c) (at bs 4) ++ received (nat_lt 1 c) (at bs 5) }

  abbrev pub receivers_at : ℕ → Read Head
  receivers_at c = receiver n (nat_lt 0 c) 4 bs (receiver n (nat_lt 1 c) 5 bs (got (head_at c) (drop 6 bs)))

  abbrev pub read_head : Read Head
  read_head = operand 1 0 m bs (operand 2 0 m bs (operand 3 0 (length signals + 1) bs (receivers_at (parameters signals (at bs 3)))))

-- a transition of kind `k` whose guard stands at `i`, before its effect's place is known
abbrev pub head_entry : ℕ → ℕ → Head → TransitionEntry
head_entry k i h = record { kind = k; source = h.source; target = h.target; signal = h.signal; first = nth h.receives 0; second = nth h.receives 1; guard = i; effect = i }

-- the operands of a kind
abbrev pub read_shape : List ℕ → Read KindEntry
read_shape bs = operand 1 0 9 bs (operand 2 1 17 bs (got (record { numbers = at bs 1; states = at bs 2 }) (drop 3 bs)))

abbrev pub start_pair : Start → ℕ × ℤ
start_pair s = (s.number, s.value)
