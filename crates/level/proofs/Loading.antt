-- What loading finds, put together with the law of the level format.
use Rattle.std.proofs.Common.{◌≡◌, ℕ, ◌-◌, ◌<◌, ◌≤◌, true, List, length, Ok, Err, ap, ◌∙◌, subst, arith, le-leb}
use borrow.Author.Tests.{lt-leb}
use Rattle.std.proofs.lemmas.List.{length-map}
use Rattle.level.specs.declared.fault.Reason.{Reason}
use Rattle.level.specs.declared.fault.Reason.TheVariants.{TooLong}
use Rattle.level.specs.Entries.{Index, piece_entry, index_of}
use Rattle.level.specs.Law.{LevelLaw}
use Rattle.level.specs.Reading.{Read, got, bad, read_sections, verdict, read, accepted, tree}
use Rattle.level.specs.Readers.{Gives, Holds, answered, remains, nothing}
use Rattle.level.specs.Sound.{counts, most_bytes}
use Rattle.level.specs.Syntax.{Level}
use Rattle.level.proofs.Limits.{limits}
use Rattle.level.proofs.Settled.{settled}
use Rattle.level.proofs.Standing.{stands}
use Rattle.level.proofs.Turns.{went}
use Rattle.level.proofs.Whole.{faithful, complete}

pub level_law : LevelLaw
level_law = record { faithful = faithful; complete = complete; stands = stands; settled = settled }

pub too_long : (bs : List ℕ) → 8192 < length bs → read bs ≡ Err (record { reason = TooLong; byte = 0 })
too_long bs h =
    let m = limits.bytes in
    let z : length bs - length bs ≡ 0 = omega arith in
    rw (lt-leb (length bs) most_bytes (omega arith), z)

in_bounds : (bs : List ℕ) → length bs ≤ 8192 → read bs ≡ verdict (length bs) (read_sections bs)
in_bounds bs h = let m = limits.bytes in rw (le-leb (length bs) most_bytes (omega arith))

pub refused : (bs : List ℕ) → length bs ≤ 8192 → (e : Reason) (l : List ℕ) → Gives nothing (read_sections bs) (Err e) l → read bs ≡ Err (record { reason = e; byte = length bs - length l })
refused bs h e l g = in_bounds bs h ∙ by (read_sections bs) g.answer g.rest
  where
    by : (R : Read Level) → Err e ≡ answered nothing R → l ≡ remains R → verdict (length bs) R ≡ Err (record { reason = e; byte = length bs - length l })
    by (got L m) p q = absurd (let z : ◌≡◌ {A = ℕ} 0 1 = cc in omega arith)
    by (bad x) p q = let r : x.reason ≡ e = cc in rw (r, q)

-- a level was read, and the index is its own
pub record Loaded (bs : List ℕ) (x : Index) : Type 0 where
  pub level : Level
  pub reads : read bs ≡ Ok level
  pub indexed : x ≡ index_of level

pub found : (bs : List ℕ) → length bs ≤ 8192 → (l : List ℕ) → Gives nothing (read_sections bs) (Ok tt) l → (x : Index) → Holds (read_sections bs) (λ L. x ≡ index_of L) → Loaded bs x
found bs h l g x i =
    let w = went nothing (read_sections bs) tt l g in
    record { level = w.0; reads = in_bounds bs h ∙ ap (verdict (length bs)) w.1; indexed = subst (λ R. Holds R (λ L. x ≡ index_of L)) w.1 i }

module _ (bs : List ℕ) (x : Index) (s : Loaded bs x) where
  pub legible : accepted bs ≡ true
  legible = rw s.reads

  pub indexed : x ≡ index_of (tree bs)
  indexed = s.indexed ∙ rw s.reads

  pub pieces_counted : length x.pieces ≡ length s.level.pieces
  pieces_counted = ap (λ z. length z.pieces) s.indexed ∙ length-map s.level.pieces (piece_entry (counts s.level.kinds))
