-- The queue mail's rule of placing.
use Rattle.std.specs.Prelude.{ℕ, List, length}
use Rattle.mail.specs.declared.message.Message.{Message}

-- a message is put last
abbrev pub last_place : List Message → Message → ℕ
last_place l m = length l
