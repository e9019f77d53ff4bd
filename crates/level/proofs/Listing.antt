-- The tables of signals and kinds, by number.
use Rattle.std.proofs.Common.{◌≡◌, ℕ, zero, suc, ◌≤◌, List, [], ◌∷◌, ◌++◌, length, get_or, slice_get, Some, None, Option, Bor, MatchOption, sym, refl, ap, arith}
use Rattle.std.proofs.lemmas.Option.{slice_get_within, unwrap_or-slice_get}
use Rattle.std.specs.Option.{unwrap_or, option_copied}
use Rattle.level.specs.declared.entry.KindEntry.{KindEntry}
use Rattle.level.specs.Levels.{signal_parameters}
use Rattle.level.specs.Sound.{parameters}
use Rattle.level.specs.Tables.{entry_counts}

-- the parameters of a signal, where it is declared and where it is not
pub declared_parameters : (ss : List ℕ) (s : ℕ) → unwrap_or (signal_parameters ss s) 0 ≡ parameters ss s
declared_parameters ss zero = refl
declared_parameters ss (suc s) = unwrap_or-slice_get ss s 0

pub declared_some : (ss : List ℕ) (s p : ℕ) → signal_parameters ss s ≡ Some p → (1 ≤ s) × (s ≤ length ss) × (parameters ss s ≡ p)
declared_some ss zero p e = absurd (let z : ◌≡◌ {A = ℕ} 0 1 = cc in omega arith)
declared_some ss (suc s) p e =
    let k = slice_get_within ss s p e in
    let j = unwrap_or-slice_get ss s 0 in
    (omega arith, omega arith, sym (rw e at j))

-- how many numbers the pieces of a kind have, where the table has it and where not
pub counts_found : (es : List KindEntry) (k : ℕ) (r : Option (Bor KindEntry)) → option_copied r ≡ slice_get es k → (n : ℕ) → MatchOption r (n ≡ 0) (λ x. n ≡ x.now.numbers) → n ≡ get_or (entry_counts es) k 0
counts_found [] k None h n m = m
counts_found [] k (Some x) h n m = absurd (let z : ◌≡◌ {A = ℕ} 0 1 = cc in omega arith)
counts_found (e ∷ es) zero None h n m = absurd (let z : ◌≡◌ {A = ℕ} 0 1 = cc in omega arith)
counts_found (e ∷ es) zero (Some x) h n m = let q : x.now ≡ e = cc in rw (m, q)
counts_found (e ∷ es) (suc k) r h n m = counts_found es k r h n m

pub small_push : (es : List KindEntry) (e : KindEntry) → ((k : ℕ) → get_or (entry_counts es) k 0 ≤ 8) → e.numbers ≤ 8 → (k : ℕ) → get_or (entry_counts (es ++ (e ∷ []))) k 0 ≤ 8
small_push [] e h n zero = n
small_push [] e h n (suc k) = omega arith
small_push (x ∷ es) e h n zero = h 0
small_push (x ∷ es) e h n (suc k) = small_push es e (λ j. h (suc j)) n k

pub counts_table : (es : List KindEntry) → length (entry_counts es) ≡ length es
counts_table [] = refl
counts_table (x ∷ es) = ap suc (counts_table es)
