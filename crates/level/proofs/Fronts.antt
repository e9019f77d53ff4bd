-- The first bytes of a list, and numbers in four bytes.
use Rattle.std.proofs.Common.{◌≡◌, ℕ, zero, suc, ◌+◌, ◌*◌, ◌/◌, ◌%◌, ◌<◌, ◌≤◌, true, ◌&&◌, ltb, leb, List, [], ◌∷◌, ◌++◌, length, drop, ℤ, sym, refl, ap, ◌∙◌, subst, arith, w32, SFits, to_z, of_z, lt-ltb, le-leb}
use Rattle.std.proofs.lemmas.List.{get_or-drop, get_or-append-add}
use Rattle.std.proofs.lemmas.Int.{to_z-of_z, of_z-to_z, ints}
use Rattle.std.proofs.lemmas.Bool.Decides.{nat_tests}
use Rattle.level.specs.Spelling.{word}
use Rattle.level.specs.Reading.{at, number}
use Rattle.level.specs.Law.{Bytes}

-- `k` bytes from place `j` on
abbrev from : ℕ → ℕ → List ℕ → List ℕ
from j zero bs = []
from j (suc k) bs = at bs j ∷ from (suc j) k bs

from_later : (j k b : ℕ) (bs : List ℕ) → from (suc j) k (b ∷ bs) ≡ from j k bs
from_later j zero b bs = refl
from_later j (suc k) b bs = ap (λ l. at bs j ∷ l) (from_later (suc j) k b bs)

-- at a numeral `k` the bytes are written out
pub front : (k : ℕ) (bs : List ℕ) → k ≤ length bs → bs ≡ from 0 k bs ++ drop k bs
front zero bs h = refl
front (suc k) [] h = absurd (omega arith)
front (suc k) (b ∷ bs) h = ap (λ l. b ∷ l) (front k bs (omega arith) ∙ ap (λ l. l ++ drop k bs) (sym (from_later 0 k b bs)))

pub bytes_drop : (k : ℕ) (bs : List ℕ) → Bytes bs → Bytes (drop k bs)
bytes_drop k bs y j = rw get_or-drop (y (k + j))

pub bytes_right : (xs ys : List ℕ) → Bytes (xs ++ ys) → Bytes ys
bytes_right xs ys y j = subst (λ n. n < 256) (get_or-append-add xs ys j 0) (y (length xs + j))

digits : (a b c d n : ℕ) → b < 256 → c < 256 → d < 256 → n ≡ a * 16777216 + b * 65536 + c * 256 + d
    → (n / 16777216 ≡ a) × (n / 65536 % 256 ≡ b) × (n / 256 % 256 ≡ c) × (n % 256 ≡ d)
digits a b c d n i j k e = omega arith

-- the number in four bytes of a list, from place `j` on
module _ (bs : List ℕ) (y : Bytes bs) (j k l m : ℕ) where
  pub word_number : word (number (at bs j) (at bs k) (at bs l) (at bs m)) ≡ at bs j ∷ (at bs k ∷ (at bs l ∷ (at bs m ∷ [])))
  word_number =
      let p = y j in let q = y k in let r = y l in let s = y m in
      let e : of_z w32 (number (at bs j) (at bs k) (at bs l) (at bs m)) ≡ at bs j * 16777216 + at bs k * 65536 + at bs l * 256 + at bs m = of_z-to_z w32 _ (omega arith) in
      let d = digits (at bs j) (at bs k) (at bs l) (at bs m) (of_z w32 (number (at bs j) (at bs k) (at bs l) (at bs m))) q r s e in
      cc (d.0, d.1, d.2, d.3)

  pub fits_number : SFits w32 (number (at bs j) (at bs k) (at bs l) (at bs m))
  fits_number = let p = y j in let q = y k in let r = y l in let s = y m in omega (arith, ints)

pub number_word : (z : ℤ) → SFits w32 z → (n : ℕ) → n ≡ of_z w32 z → number (n / 16777216) (n / 65536 % 256) (n / 256 % 256) (n % 256) ≡ z
number_word z f n e =
    let k : n / 16777216 * 16777216 + n / 65536 % 256 * 65536 + n / 256 % 256 * 256 + n % 256 ≡ n = omega arith in
    ap (to_z w32) (k ∙ e) ∙ to_z-of_z w32 z f

-- a value from `least` and below `limit`
pub inside : (least v limit : ℕ) → least ≤ v → v < limit → (leb least v && ltb v limit) ≡ true
inside least v limit h k = rw (le-leb least v h, lt-ltb v limit k)

pub inside_true : (least v limit : ℕ) → (leb least v && ltb v limit) ≡ true → (least ≤ v) × (v < limit)
inside_true least v limit e = grind (arith, nat_tests)
