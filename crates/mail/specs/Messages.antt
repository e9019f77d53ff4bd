-- The blank message.
use Rattle.std.specs.Prelude.{pos}
use Rattle.mail.specs.declared.message.Message.{Message}

abbrev pub blank : Message
blank = record { signal = 0; first = pos 0; second = pos 0 }
