-- No piece noted.
use Rattle.std.proofs.Common.{◌≡◌, ℕ, zero, suc, Bool, false, get_or, replicate}
use mathlib.Core.Path.{fun_ext}
use Rattle.evaluator.specs.declared.listed.Note.{Note}
use Rattle.evaluator.specs.Listing.{blank}

-- what is false of a note is false of each of n such notes
pub never_noted : (f : Note → Bool) (d : Note) → f d ≡ false → f blank ≡ false → (n : ℕ) → ◌≡◌ {A = ℕ → Bool} (λ p. f (get_or (replicate n d) p blank)) (λ p. false)
never_noted f d h k n = fun_ext (go n)
  where
    go : (n p : ℕ) → f (get_or (replicate n d) p blank) ≡ false
    go zero p = k
    go (suc n) zero = h
    go (suc n) (suc p) = go n p
