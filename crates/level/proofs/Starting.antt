-- The loop over the starting numbers of a piece.
use Rattle.std.proofs.Common.{◌≡◌, ℕ, ◌+◌, ◌<◌, ◌≤◌, List, [], ◌∷◌, ◌++◌, length, set, replicate, ℤ, pos, Ok, Err, sym, refl, ap, ◌∙◌, subst, arith, length-append, w32, to_z, of_z, lt-ltb}
use Rattle.std.proofs.lemmas.Int.{to_z-of_z}
use Rattle.level.specs.declared.fault.Reason.{Reason}
use Rattle.level.specs.Entries.{laid, starting}
use Rattle.level.specs.Law.{Bytes}
use Rattle.level.specs.Reading.{Read, got, at, room, read_start, read_starts}
use Rattle.level.specs.Readers.{Gives, turn, start_pair}
use Rattle.level.specs.Sound.{SoundStart}
use Rattle.level.specs.Spelling.{all, start}
use Rattle.level.specs.Syntax.{Start}
use Rattle.level.proofs.Fills.{Filled, ends, breaks, again, room_got}
use Rattle.level.proofs.Sections.{all_push, starts_short, start_reads}
use Rattle.level.proofs.Steps.{Reads, spelled}
use Rattle.level.proofs.Turns.{went}

laid_push : (row : List ℤ) (ss : List Start) (s : Start) → laid row (ss ++ (s ∷ [])) ≡ set (laid row ss) s.number s.value
laid_push row [] s = refl
laid_push row (x ∷ ss) s = laid_push (set row x.number x.value) ss s

module _ (n : ℕ) (bs₀ : List ℕ) where
  abbrev most : ℕ
  most = length bs₀ + 2

  abbrev whole : Read (List Start)
  whole = read_starts n most bs₀

  abbrev item : List Start → List ℕ → Read Start
  item _ = read_start n

  abbrev Laid : List ℤ → List ℕ → List Start → Type 0
  Laid row bs ss = (bs₀ ≡ all start ss ++ bs) × (row ≡ starting ss)

  module _ (row : List ℤ) (bs : List ℕ) (s : Filled 0x05 6 most item (Laid row bs) whole bs) where
    abbrev one : Read Start
    one = room 6 bs (read_start n bs)

    -- there are never more of them than bytes
    few : length s.so_far < most
    few = let a = ap length s.known.0 ∙ length-append (all start s.so_far) bs in let b = starts_short s.so_far in omega arith

    same : one ≡ turn 6 most (length s.so_far) bs (read_start n bs)
    same = rw (lt-ltb (length s.so_far) most few)

    module _ (b : at bs 0 ≡ 0x05) where
      pub starts_broke : {D : Type 0} (g : List Start → D) (e : Reason) (l : List ℕ) → Gives start_pair one (Err e) l → Gives g whole (Err e) l
      starts_broke g e l h = breaks 0x05 6 most item (Laid row bs) whole bs s start_pair b g e l (subst (λ R. Gives start_pair R (Err e) l) same h)

      module _ (y : Bytes bs) (v : ℕ × ℤ) (l : List ℕ) (h : Gives start_pair one (Ok v) l) where
        read_as : (x : Start) × (6 ≤ length bs) × (read_start n bs ≡ got x l) × (v ≡ start_pair x)
        read_as =
            let w = went start_pair one v l h in
            let r = room_got 6 bs (read_start n bs) w.0 l w.1 in
            (w.0, r.0, r.1, w.2)

        sound : SoundStart n read_as.0
        sound = (subst (Reads (SoundStart n) start bs) read_as.2 (start_reads n bs y read_as.1 b)).1

        -- a number of 32 bits is kept as its bits
        kept : to_z w32 (of_z w32 v.1) ≡ v.1
        kept = to_z-of_z w32 v.1 (rw read_as.3 sound.value)

        pub starts_again : Filled 0x05 6 most item (Laid (set row v.0 (to_z w32 (of_z w32 v.1))) l) whole l
        starts_again = rw kept (again 0x05 6 most item (Laid row bs) whole bs s start_pair b (Laid (set row v.0 v.1) l) v l (subst (λ R. Gives start_pair R (Ok v) l) same h) (λ x k _ e q. (
          s.known.0 ∙ (ap (λ z. all start s.so_far ++ z) (spelled (SoundStart n) start bs _ (start_reads n bs y k b) x l e) ∙ sym (all_push start s.so_far x l)),
          rw (s.known.1, q) (sym (laid_push (replicate 8 (pos 0)) s.so_far x)),
        )))

    pub starts_done : (at bs 0 ≡ 0x05 → ⊥) → whole ≡ got s.so_far bs
    starts_done h = ends 0x05 6 most item (Laid row bs) whole bs s h
