-- The number of each refusal of a mail.
use Rattle.std.specs.Prelude.{ℕ}
use Rattle.mail.specs.declared.fault.MailFault.{MailFault}
use Rattle.mail.specs.declared.fault.MailFault.TheVariants.{NoPiece, Full, Empty}

abbrev pub fault_number : MailFault → ℕ
fault_number NoPiece = 60
fault_number Full = 61
fault_number Empty = 62
