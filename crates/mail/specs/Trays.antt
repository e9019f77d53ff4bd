-- The trays that a mail means, and what each call answers and leaves of them.
use Rattle.std.specs.Prelude.{ℕ, Bool, cond, List, [], ◌∷◌, length, Some, None, Ok, Err, Option, Result, ◌==◌, nat_lt}
use mathlib.Core.List.{tail}
use Rattle.std.specs.List.{insert}
use Rattle.mail.specs.declared.fault.MailFault.{MailFault}
use Rattle.mail.specs.declared.fault.MailFault.TheVariants.{NoPiece, Full, Empty}
use Rattle.mail.specs.declared.message.Message.{Message}

-- for each piece, by its number, the messages that wait for it, in the order of taking
abbrev pub Trays : Type 0
Trays = ℕ → List Message

abbrev pub no_messages : Trays
no_messages p = []

-- the same trays but for that of piece p, which is l
abbrev pub with_tray : Trays → ℕ → List Message → Trays
with_tray t p l q = cond (q == p) l (t q)

-- pieces are numbered from 0 to 31
abbrev pub no_piece : ℕ → Bool
no_piece p = nat_lt 31 p

-- looking: the first message, or none
abbrev pub front : List Message → Option Message
front [] = None
front (m ∷ l) = Some m

-- what comes of putting: refused over 31 and at the limit's length, else accepted
abbrev pub putting : {Y : Type 0} → ℕ → Trays → ℕ → (MailFault → Y) → Y → Y
putting limit t p refused accepted =
    cond (no_piece p) (refused NoPiece) (cond (length (t p) == limit) (refused Full) accepted)

abbrev pub put_answer : ℕ → Trays → ℕ → Result (Unit {0}) MailFault
put_answer limit t p = putting limit t p Err (Ok tt)

-- accepted, the message stands at its place among the others, which keep their order: `insert l i m` is the first i
-- messages of l, then m, then the others of l
abbrev pub put_trays : ℕ → (List Message → Message → ℕ) → Trays → ℕ → Message → Trays
put_trays limit place t p m =
    putting limit t p (λ _. t) (with_tray t p (insert (t p) (place (t p) m) m))

-- taking answers the message that looking gives; it is refused over 31 and where there is none
abbrev pub taken : Option Message → Result Message MailFault
taken None = Err Empty
taken (Some m) = Ok m

abbrev pub take_answer : Trays → ℕ → Result Message MailFault
take_answer t p = cond (no_piece p) (Err NoPiece) (taken (front (t p)))

-- the tray loses its first message; one without a message, which taking refuses, stays as it is
abbrev pub take_trays : Trays → ℕ → Trays
take_trays t p = with_tray t p (tail (t p))
