-- What the `impl`s of a mail and of its rules cite for their laws: lemmas, and no definitions. They stand here since an `impl` may cite lemmas of specs/ alone.
use Rattle.std.proofs.Common.{◌≡◌, ℕ, ◌<◌, ◌≤◌, List, [], ◌∷◌, length, get_or, arith, length-take}
use Rattle.std.proofs.lemmas.List.{get_or_past}
use Rattle.mail.specs.declared.message.Message.{Message}
use Rattle.mail.specs.Laid.{laid_trays}
use Rattle.mail.specs.Urgent.{urgent_place}

module _ (limit : ℕ) (places : List Message) (counts : List ℕ) where
  pub none_counted : (p : ℕ) → get_or counts p 0 ≡ 0 → laid_trays limit places counts p ≡ []
  unfolding laid_trays
  none_counted p e = rw e

  pub laid_beyond : length counts ≡ 32 → (p : ℕ) → 31 < p → laid_trays limit places counts p ≡ []
  laid_beyond all p h = none_counted p (get_or_past counts p 0 (omega arith))

  pub laid_bounded : ((p : ℕ) → get_or counts p 0 ≤ limit) → (p : ℕ) → length (laid_trays limit places counts p) ≤ limit
  unfolding laid_trays
  laid_bounded few p = let b = few p in simp length-take (omega arith)

pub urgent_within : (l : List Message) (m : Message) → urgent_place l m ≤ length l
urgent_within [] m = omega arith
urgent_within (x ∷ l) m = let h = urgent_within l m in grind arith
