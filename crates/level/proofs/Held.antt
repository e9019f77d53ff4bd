-- The tables that a level holds are those of the level that it means.
use Rattle.std.proofs.Common.{◌≡◌, ℕ, ◌≤◌, true, List, length, is_ok, Ok, Err, Result, sym, refl, ap, subst, arith}
use mathlib.Core.Logic.{∥∥₁_elim}
use base.Stored.{Coded, Coded-set, coded_ℕ, coded_list}
use Rattle.level.specs.contracts.entry.KindEntry as kind
use Rattle.level.specs.contracts.entry.PieceEntry as piece
use Rattle.level.specs.contracts.entry.TransitionEntry as transition
use Rattle.level.specs.declared.fault.LevelFault.{LevelFault}
use Rattle.level.specs.declared.store.Level.{Level}
use Rattle.level.specs.Contents.{contents}
use Rattle.level.specs.Entries.{Index, index_of}
use Rattle.level.specs.Levels.{code, meaning}
use Rattle.level.specs.Places.{placed}
use Rattle.level.specs.Reading.{tree_or_empty, read}
use Rattle.level.specs.Sound.{Sound, most_transitions}
use Rattle.level.specs.Spelling.{all, signal, level}
use Rattle.level.specs.Syntax as syntax
use Rattle.level.proofs.Limits.{limits}
use Rattle.level.proofs.Growing.{in_kinds_length}
use Rattle.level.proofs.Whole.{faithful}

-- a list of the index, whose elements have a code, comes out of what is only known to hold
part : {A : Type 0} → Coded A → (l : Level) (f : Index → List A) → f (contents l.index) ≡ f (index_of (meaning l))
part c l f = ∥∥₁_elim l.indexed (Coded-set (coded_list c) _ _) (ap f)

module _ (l : Level) where
  pub held_signals : l.index.signals.counts.items ≡ (index_of (meaning l)).signals
  held_signals = part coded_ℕ l (λ x. x.signals)

  pub held_kinds : l.index.kinds.entries.items ≡ (index_of (meaning l)).kinds
  held_kinds = part (kind.the_row).coded l (λ x. x.kinds)

  pub held_transitions : l.index.transitions.items ≡ (index_of (meaning l)).transitions
  held_transitions = part (transition.the_row).coded l (λ x. x.transitions)

  pub held_pieces : l.index.pieces.items ≡ (index_of (meaning l)).pieces
  held_pieces = part (piece.the_row).coded l (λ x. x.pieces)

-- a level in memory is sound, and its bytes are its spelling
module _ (l : Level) where
  accepted_as : read (code l) ≡ Ok (meaning l)
  accepted_as = by (read (code l)) l.legible
    where
      by : (r : Result syntax.Level LevelFault) → is_ok r ≡ true → r ≡ Ok (tree_or_empty r)
      by (Ok L) h = refl
      by (Err f) h = absurd (let z : ◌≡◌ {A = ℕ} 0 1 = grind arith in omega arith)

  pub held_sound : Sound (meaning l)
  held_sound = (faithful (code l) (meaning l) l.octets accepted_as).1

  pub held_spelling : level (meaning l) ≡ code l
  held_spelling = (faithful (code l) (meaning l) l.octets accepted_as).0

  pub few_pieces : length (meaning l).pieces ≤ 32
  few_pieces = subst (λ n. length (meaning l).pieces ≤ n) (sym limits.pieces) held_sound.few_pieces

  pub few_transitions : length (placed (meaning l)) ≤ 128
  few_transitions =
      let e = in_kinds_length 0 (length (all signal (meaning l).signals)) (meaning l).kinds in
      subst (λ n. length (placed (meaning l)) ≤ n) (sym limits.transitions) (subst (λ n. n ≤ most_transitions) (sym e) held_sound.few_transitions)
