-- How the trays of a mail lie in memory.
use Rattle.std.specs.Prelude.{ℕ, ◌*◌, List, take, drop, slice_index}
use Rattle.mail.specs.declared.message.Message.{Message}
use Rattle.mail.specs.Trays.{Trays}

-- each piece has as many places as the limit, and its messages stand in the first of them, which its count numbers
unfoldable pub laid_trays : ℕ → List Message → List ℕ → Trays
laid_trays limit places counts p = take (slice_index counts p) (drop (p * limit) places)
