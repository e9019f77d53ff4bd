-- The urgent mail's rule of placing.
use Rattle.std.specs.Prelude.{ℕ, suc, cond, List, [], ◌∷◌, nat_lt}
use Rattle.mail.specs.declared.message.Message.{Message}

-- a message is put before the first one with a greater signal number, else last
abbrev pub urgent_place : List Message → Message → ℕ
urgent_place [] m = 0
urgent_place (x ∷ l) m = cond (nat_lt m.signal x.signal) 0 (suc (urgent_place l m))
