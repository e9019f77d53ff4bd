-- A loop that lays one list over the front of another, place by place.
use Rattle.std.proofs.Common.{◌≡◌, ℕ, ◌+◌, ◌-◌, ◌<◌, ◌≤◌, List, ◌∷◌, [], ◌++◌, length, get_or, take, drop, set, sym, ap, ◌∙◌, arith, length-drop}
use Rattle.std.proofs.lemmas.List.{append_assoc, take_more, take_all, drop_more, set_at, get_or-drop, get_or-append_right, length-take-le}

-- the first i places as in w, the others still as in o
abbrev pub laid : {X : Type 0} → List X → List X → ℕ → List X
laid w o i = take i w ++ drop i o

module _ {X : Type 0} (w o : List X) (i : ℕ) where
  -- a place that is not laid over yet
  pub laid_later : (k : ℕ) (d : X) → i ≤ length w → i ≤ k → get_or (laid w o i) k d ≡ get_or o k d
  laid_later k d h l =
      let e : i + (k - i) ≡ k = omega arith in
      get_or-append_right (take i w) (drop i o) i k d (length-take-le i w h) l ∙ get_or-drop i o (k - i) d ∙ ap (λ j. get_or o j d) e

  pub laid_more : (y d : X) → i < length w → i < length o → y ≡ get_or w i d → set (laid w o i) i y ≡ laid w o (i + 1)
  laid_more y d h l e =
      let n : i ≤ length w = omega arith in
      ap (λ xs. set (take i w ++ xs) i y) (drop_more o i d l)
      ∙ set_at (take i w) (get_or o i d) (drop (i + 1) o) y i (length-take-le i w n)
      ∙ ap (λ z. take i w ++ (z ∷ drop (i + 1) o)) e
      ∙ sym (append_assoc (take i w) (get_or w i d ∷ []) (drop (i + 1) o))
      ∙ ap (λ xs. xs ++ drop (i + 1) o) (sym (take_more w i d h))

-- taking the first out of o: the rest of o is laid over o
module _ {X : Type 0} (o xs : List X) (i : ℕ) (some : 0 < length o) (so_far : xs ≡ laid (drop 1 o) o i) where
  shorter : length (drop 1 o) ≡ length o - 1
  shorter = length-drop 1 o

  pub remove_more : (d : X) → i < length o - 1 → set xs i (get_or xs (i + 1) d) ≡ laid (drop 1 o) o (i + 1)
  remove_more d below =
      let s = shorter in
      let e : i + 1 ≡ 1 + i = omega arith in
      let read : get_or xs (i + 1) d ≡ get_or (drop 1 o) i d =
      ap (λ zs. get_or zs (i + 1) d) so_far
      ∙ laid_later (drop 1 o) o i (i + 1) d (omega arith) (omega arith)
      ∙ ap (λ k. get_or o k d) e
      ∙ sym (get_or-drop 1 o i d) in
      ap (λ zs. set zs i (get_or xs (i + 1) d)) so_far ∙ laid_more (drop 1 o) o i _ d (omega arith) (omega arith) read

  pub remove_all : i ≡ length o - 1 → xs ≡ drop 1 o ++ drop (length o - 1) o
  remove_all end =
      let s = shorter in
      so_far ∙ ap (λ l. l ++ drop i o) (take_all i (drop 1 o) (omega arith)) ∙ ap (λ k. drop 1 o ++ drop k o) end
