-- Each guard and each effect stands at its place.
use Rattle.std.proofs.Common.{◌≡◌, ℕ, ◌+◌, List, [], ◌∷◌, ◌++◌, length, drop, sym, refl, ap, ◌∙◌, append_assoc}
use Rattle.std.proofs.lemmas.List.{drop-drop, drop_at}
use Rattle.level.specs.Syntax.{Transition, Kind, Level}
use Rattle.level.specs.Spelling.{all, expression, effect, signal, transition, kind, piece, level, size}
use Rattle.level.specs.Sound.{Each, deepest, most_statements, SoundTransition, SoundKind, Sound}
use Rattle.level.specs.Reading.{got, read_expr, read_effect}
use Rattle.level.specs.Places.{in_kind, in_kinds, placed, Stands}
use Rattle.level.proofs.Expressions.{expr_read}
use Rattle.level.proofs.Effects.{receivers_two, effect_read}

-- past what stands at a place
past : (bs xs ys : List ℕ) (i : ℕ) → drop i bs ≡ xs ++ ys → drop (i + length xs) bs ≡ ys
past bs xs ys i e = sym (drop-drop (length xs) i bs) ∙ (ap (drop (length xs)) e ∙ drop_at xs ys (length xs) refl)

pub each_append : {A : Type 0} (P : A → Type 0) (xs ys : List A) → Each P xs → Each P ys → Each P (xs ++ ys)
each_append P [] ys h k = k
each_append P (x ∷ xs) ys h k = (h.0, each_append P xs ys h.1 k)

module _ (signals bs : List ℕ) where
  one_stands : (k n m i : ℕ) (t : Transition) (l : List ℕ) → drop i bs ≡ transition t ++ l → SoundTransition signals n m t
      → Stands signals bs (record { kind = k; numbers = n; guard = i + 6; transition = t })
  one_stands k n m i t l e s =
      let f : drop (i + 6) bs ≡ expression t.guard ++ (effect t.effect ++ l) = sym (drop-drop 6 i bs) ∙ (ap (drop 6) e ∙ rw (receivers_two signals n t.receives, append_assoc)) in
      let g : drop (i + 6 + size t.guard) bs ≡ effect t.effect ++ l = past bs (expression t.guard) (effect t.effect ++ l) (i + 6) f in
      record {
        rest = l;
        guard = ap (read_expr deepest n) f ∙ (expr_read deepest n t.guard (effect t.effect ++ l) s.guard ∙ ap (got t.guard) (sym g));
        effect = ap (read_effect signals n most_statements) g ∙ effect_read signals n most_statements t.effect l s.statements s.effect;
      }

  kind_stands : (k n m i : ℕ) (ts : List Transition) (l : List ℕ) → drop i bs ≡ all transition ts ++ l → Each (SoundTransition signals n m) ts → Each (Stands signals bs) (in_kind k n i ts)
  kind_stands k n m i [] l e s = tt
  kind_stands k n m i (t ∷ ts) l e s =
      let f : drop i bs ≡ transition t ++ (all transition ts ++ l) = e ∙ append_assoc (transition t) (all transition ts) l in
      (one_stands k n m i t (all transition ts ++ l) f s.0, kind_stands k n m (i + length (transition t)) ts l (past bs (transition t) (all transition ts ++ l) i f) s.1)

  kinds_stand : (k i : ℕ) (ks : List Kind) (l : List ℕ) → drop i bs ≡ all kind ks ++ l → Each (SoundKind signals) ks → Each (Stands signals bs) (in_kinds k i ks)
  kinds_stand k i [] l e s = tt
  kinds_stand k i (x ∷ xs) l e s =
      let f : drop i bs ≡ kind x ++ (all kind xs ++ l) = e ∙ append_assoc (kind x) (all kind xs) l in
      each_append (Stands signals bs) (in_kind k x.numbers (i + 3) x.transitions) (in_kinds (k + 1) (i + length (kind x)) xs)
      (kind_stands k x.numbers x.states (i + 3) x.transitions (all kind xs ++ l) (sym (drop-drop 3 i bs) ∙ ap (drop 3) f) s.0.transitions)
      (kinds_stand (k + 1) (i + length (kind x)) xs l (past bs (kind x) (all kind xs ++ l) i f) s.1)

pub stands : (L : Level) → Sound L → Each (Stands L.signals (level L)) (placed L)
stands L s = kinds_stand L.signals (level L) 0 (length (all signal L.signals)) L.kinds (all piece L.pieces ++ (0x06 ∷ []))
    (drop_at (all signal L.signals) (all kind L.kinds ++ (all piece L.pieces ++ (0x06 ∷ []))) _ refl) s.kinds
