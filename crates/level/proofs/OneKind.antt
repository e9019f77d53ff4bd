-- One kind, as the code reads it: its operands, its transitions.
use Rattle.std.proofs.Common.{◌≡◌, ℕ, ◌+◌, ◌-◌, ◌≤◌, List, ◌++◌, map, length, drop, Ok, Err, Result, sym, refl, ap, ◌∙◌, subst, arith, length-drop}
use Rattle.level.specs.declared.entry.KindEntry.{KindEntry}
use Rattle.level.specs.declared.entry.TransitionEntry.{TransitionEntry}
use Rattle.level.specs.declared.fault.Reason.{Reason}
use Rattle.level.specs.Entries.{kind_entry, transition_entry}
use Rattle.level.specs.Places.{in_kind}
use Rattle.level.specs.Reading.{Read, got, then, at, operand, read_transitions, read_kind}
use Rattle.level.specs.Readers.{Gives, Holds, nothing, turn, read_shape}
use Rattle.level.specs.Syntax.{Transition, Kind}
use Rattle.level.proofs.Fills.{turn_got, turn_then}
use Rattle.level.proofs.Limits.{limits}
use Rattle.level.proofs.Transitions.{Drops, drops_operand, operand_then}
use Rattle.level.proofs.Turns.{done, broke, goes_on}

-- a kind of this shape with these transitions
abbrev shaped : KindEntry → List Transition → Kind
shaped k ts = record { numbers = k.numbers; states = k.states; transitions = ts }

module _ (signals : List ℕ) (used : ℕ) where
  abbrev its : KindEntry → List ℕ → Read (List Transition)
  its k l = read_transitions signals k.numbers k.states (128 - used) l

  abbrev body : KindEntry → List ℕ → Read Kind
  body k l = then (its k l) (λ ts m. got (shaped k ts) m)

  kind_then : (bs : List ℕ) → read_kind signals used bs ≡ then (read_shape bs) body
  kind_then bs = rw (← limits.transitions)
      (ap (operand 1 0 9 bs) (operand_then 2 1 17 bs (got (record { numbers = at bs 1; states = at bs 2 }) (drop 3 bs)) body)
      ∙ operand_then 1 0 9 bs (operand 2 1 17 bs (got (record { numbers = at bs 1; states = at bs 2 }) (drop 3 bs))) body)

  module _ (n : ℕ) (bs : List ℕ) where
    abbrev W : Read Kind
    W = turn 3 16 n bs (read_kind signals used bs)

    whole : W ≡ then (turn 3 16 n bs (read_shape bs)) body
    whole = ap (turn 3 16 n bs) (kind_then bs) ∙ turn_then 3 16 n bs (read_shape bs) body

    module _ (k : KindEntry) (l : List ℕ) (g : Gives (λ x. x) (turn 3 16 n bs (read_shape bs)) (Ok k) l) where
      shape_is : W ≡ body k l
      shape_is =
          let w = goes_on W (λ z. turn 3 16 n bs (read_shape bs)) body bs bs whole refl (λ x. x) k l g in
          w.1 ∙ ap (λ z. body z l) (sym w.2)

      after_shape : (3 ≤ length bs) × (l ≡ drop 3 bs)
      after_shape =
          let w = goes_on W (λ z. turn 3 16 n bs (read_shape bs)) body bs bs whole refl (λ x. x) k l g in
          let t = turn_got 3 16 n bs (read_shape bs) w.0 l w.3 in
          (t.0, subst (Drops 3 bs) t.2 (drops_operand 3 bs 1 0 9 _ (drops_operand 3 bs 2 1 17 _ refl)))

      pub kind_broke : (e : Reason) (m : List ℕ) → Gives nothing (its k l) (Err e) m → (s : Result KindEntry Reason) → s ≡ Err e → Gives kind_entry W s m
      kind_broke e m h s q = broke W (its k) (λ ts m. got (shaped k ts) m) l l shape_is refl nothing kind_entry e m h s q

      module _ (m : List ℕ) (h : Gives nothing (its k l) (Ok tt) m) where
        kind_is : (ts : List Transition) × (W ≡ got (shaped k ts) m) × (tt ≡ nothing ts) × (its k l ≡ got ts m)
        kind_is = goes_on W (its k) (λ ts m. got (shaped k ts) m) l l shape_is refl nothing tt m h

        pub kind_made : Gives kind_entry W (Ok k) m
        kind_made = done kind_entry W (shaped k kind_is.0) m kind_is.1 k m refl refl

        pub kind_tabled : (total : ℕ) → length bs ≤ total → (number : ℕ) → number ≡ n → (before after : List TransitionEntry)
            → Holds (its k l) (λ ts. after ≡ before ++ map transition_entry (in_kind number k.numbers (total - length l) ts))
            → Holds W (λ x. after ≡ before ++ map transition_entry (in_kind n x.numbers (total - length bs + 3) x.transitions))
        kind_tabled total short number e before after t =
            let a = after_shape.0 in
            let b : length l ≡ length bs - 3 = ap length after_shape.1 ∙ length-drop 3 bs in
            let z : total - length l ≡ total - length bs + 3 = omega arith in
            let p : after ≡ before ++ map transition_entry (in_kind number k.numbers (total - length l) kind_is.0) = subst (λ R. Holds R (λ ts. after ≡ before ++ map transition_entry (in_kind number k.numbers (total - length l) ts))) kind_is.3 t in
            subst (λ R. Holds R (λ x. after ≡ before ++ map transition_entry (in_kind n x.numbers (total - length bs + 3) x.transitions))) (sym kind_is.1)
            (p ∙ ap (λ i. before ++ map transition_entry (in_kind i k.numbers (total - length l) kind_is.0)) e ∙ ap (λ i. before ++ map transition_entry (in_kind n k.numbers i kind_is.0)) z)
