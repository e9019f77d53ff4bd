-- "Goes before" as a test and in words; the order of a list in words and as the exchanges need it.
use Rattle.std.proofs.Common.{◌≡◌, ℕ, Bool, true, false, ◌⊎◌, List, [], ◌∷◌, map, sym, refl, ap, inl, inr, ⊎_elim, arith}
use Rattle.std.proofs.lemmas.Bool.{both_ways, false_from_ne_true, false≢true, or_left, or_right, eq-eqb}
use Rattle.std.proofs.lemmas.Bool.Decides.{nat_tests}
use Rattle.level.specs.Syntax.{Level}
use Rattle.rules.specs.declared.moves.Move.{Move}
use Rattle.rules.specs.Game.{Game}
use Rattle.rules.specs.Trace.{Event}
use Rattle.rules.specs.Deed.{Deed, deed, cell_read, cell_written, sent_to}
use Rattle.rules.specs.Beat.{GoesBefore, Clashes, Earlier, and_so}
use Rattle.rules.specs.Order.{Insert, here, there, Reordered, none, first, Among, now, past, Stands, leads, later}
use Rattle.rules.specs.Runs.{KeepsOrder}
use Rattle.rules.proofs.Fine.{Clear}
use Rattle.rules.proofs.Swap.{reads_any, before, reads_none, Free, Keeps, Run}

reads_some : (es : List Event) (w : ℕ → ℕ → Bool) → reads_any es w ≡ true → (p : ℕ) × (a : ℕ) × (cell_read es p a ≡ true) × (w p a ≡ true)
reads_some [] w h = absurd (false≢true h)
reads_some (e ∷ es) w h = let k = reads_some es w in grind (arith, nat_tests)

pub goes_before : (x y : Deed) → before x y ≡ true → GoesBefore x y
goes_before x y h = grind (arith, reads_some)

pub before_goes : (x y : Deed) → GoesBefore x y → before x y ≡ true
before_goes x y h = grind (arith, reads_none)

stands_among : {A : Type 0} (x y : A) (l : List A) → Stands x y l → Among y l
stands_among x y l (leads m) = past m
stands_among x y l (later {l = l'} s) = past (stands_among x y l' s)

stands_tail : {A : Type 0} (x y z : A) (l : List A) → (x ≡ z → ⊥) → Stands x y (z ∷ l) → Stands x y l
stands_tail x y z l n (leads m) = absurd (n refl)
stands_tail x y z l n (later s) = s

module _ (L : Level) (g : Game) where
  -- no piece moves twice
  abbrev Apart : Move → List Move → Type 0
  Apart z l = (y : Move) → Among y l → (deed L g y).mover ≡ (deed L g z).mover → ⊥

  abbrev Distinct : List Move → Type 0
  Distinct [] = Unit {0}
  Distinct (z ∷ l) = Apart z l × Distinct l

  insert_among : (x y : Move) (l k : List Move) → Insert x l k → Among y l → Among y k
  insert_among x y l k here m = past m
  insert_among x y l k (there {l = l'} {k = k'} i) now = now
  insert_among x y l k (there {l = l'} {k = k'} i) (past m) = past (insert_among x y l' k' i m)

  inserted : (x : Move) (l k : List Move) → Insert x l k → Among x k
  inserted x l k here = now
  inserted x l k (there {l = l'} {k = k'} i) = past (inserted x l' k' i)

  distinct_insert : (x : Move) (l k : List Move) → Insert x l k → Distinct k → Apart x l × Distinct l
  distinct_insert x l k here h = h
  distinct_insert x l k (there {y = y} {l = l'} {k = k'} i) (a, h) =
      let (u, v) = distinct_insert x l' k' i h in
      (apart_cons x y l' (λ e. a x (inserted x l' k' i) (sym e)) u, ((λ z m e. a z (insert_among x z l' k' i m) e), v))
    where
      apart_cons : (x y : Move) (l : List Move) → ((deed L g y).mover ≡ (deed L g x).mover → ⊥) → Apart x l → Apart x (y ∷ l)
      apart_cons x y l n u z now e = n e
      apart_cons x y l n u z (past m) e = u z m e

  reordered_among : (y : Move) (k r : List Move) → Reordered k r → Among y r → Among y k
  reordered_among y k r none m = m
  reordered_among y k r (first {x = x} {l = l} {r = r'} i p) now = inserted y l k i
  reordered_among y k r (first {x = x} {l = l} {r = r'} i p) (past m) = insert_among x y l k i (reordered_among y l r' p m)

  pub distinct_reordered : (k r : List Move) → Reordered k r → Distinct k → Distinct r
  distinct_reordered k r none h = h
  distinct_reordered k r (first {x = x} {l = l} {r = r'} i p) h =
      let (u, v) = distinct_insert x l k i h in
      ((λ y m e. u y (reordered_among y l r' p m) e), distinct_reordered l r' p v)

  module _ (limit : ℕ) where
    moved_apart : (s : Earlier) (ms : List Move) (q : ℕ) → Run limit g s (map (deed L g) ms) → s.moved q ≡ true → (y : Move) → Among y ms → (deed L g y).mover ≡ q → ⊥
    moved_apart s [] q r h y i e = elim i [ ]
    moved_apart s (m ∷ ms) q (f, r) h y now e = both_ways (s.moved q) (rw e at f.fresh) h
    moved_apart s (m ∷ ms) q (f, r) h y (past i) e = moved_apart (and_so s (deed L g m)) ms q r (or_left _ _ h) y i e

    pub run_distinct : (s : Earlier) (ms : List Move) → Run limit g s (map (deed L g) ms) → Distinct ms
    run_distinct s [] r = tt
    run_distinct s (m ∷ ms) (f, r) =
        ((λ y i e. moved_apart (and_so s (deed L g m)) ms (deed L g m).mover r (or_right (s.moved (deed L g m).mover) _ (eq-eqb (deed L g m).mover _ refl)) y i e), run_distinct (and_so s (deed L g m)) ms r)

  -- each move passes as far as the earlier ones go
  abbrev pub Clears : Earlier → List Move → Type 0
  Clears s [] = Unit {0}
  Clears s (m ∷ ms) = Clear s (deed L g m) × Clears (and_so s (deed L g m)) ms

  -- a deed done before such a list clashes with none of it
  clash_free : (s : Earlier) (x : Deed) (ms : List Move)
      → ((p a : ℕ) → cell_written x.events p a ≡ true → s.wrote p a ≡ true) → ((q : ℕ) → sent_to x.events q ≡ true → s.sent q ≡ true)
      → Clears s ms → (y : Move) → Among y ms → Clashes x (deed L g y) → ⊥
  clash_free s x [] w t r y i c = elim i [ ]
  clash_free s x (m ∷ ms) w t (f, r) y (past i) c =
      clash_free (and_so s (deed L g m)) x ms (λ p a e. or_left _ _ (w p a e)) (λ q e. or_left _ _ (t q e)) r y i c
  clash_free s x (m ∷ ms) w t (f, r) y now (inl (inl (p, a, u, v))) = both_ways (s.wrote p a) (f.events_clear.reads_clear p a u) (w p a v)
  clash_free s x (m ∷ ms) w t (f, r) y now (inl (inr (u, v))) = both_ways (s.sent (deed L g m).mover) (f.takes_clear u) (t _ v)
  clash_free s x (m ∷ ms) w t (f, r) y now (inr (inl (p, a, u, v))) = both_ways (s.wrote p a) (f.events_clear.writes_clear p a v) (w p a u)
  clash_free s x (m ∷ ms) w t (f, r) y now (inr (inr (q, u, v))) = both_ways (s.sent q) (f.events_clear.sends_clear q v) (t q u)

  -- no two moves of it clash
  pub never_clash : (s : Earlier) (ms : List Move) → Clears s ms → (x y : Move) → Stands x y ms → Clashes (deed L g x) (deed L g y) → ⊥
  never_clash s [] r x y i c = elim i [ ]
  never_clash s (m ∷ ms) (f, r) x y (leads i) c =
      clash_free (and_so s (deed L g m)) (deed L g m) ms (λ p a e. or_right (s.wrote p a) _ e) (λ q e. or_right (s.sent q) _ e) r y i c
  never_clash s (m ∷ ms) (f, r) x y (later i) c = never_clash (and_so s (deed L g m)) ms r x y i c

  -- of two moves in a list one stands before the other
  either_way : (x y : Move) (l : List Move) → Among x l → Among y l → (x ≡ y → ⊥) → Stands x y l ⊎ Stands y x l
  either_way x y l now now n = absurd (n refl)
  either_way x y l now (past j) n = inl (leads j)
  either_way x y l (past i) now n = inr (leads i)
  either_way x y l (past {l = l'} i) (past j) n = ⊎_elim (λ s. inl (later s)) (λ s. inr (later s)) (either_way x y l' i j n)

  pub as_listed : (s : Earlier) (ms : List Move) → Clears s ms → KeepsOrder L g ms
  as_listed s ms r x y i j n b = ⊎_elim (λ e. e) (λ e. absurd (never_clash s ms r y x e (inl b))) (either_way x y ms i j n)

  order_tail : (z : Move) (l : List Move) → Apart z l → KeepsOrder L g (z ∷ l) → KeepsOrder L g l
  order_tail z l a o x y i j n b = stands_tail x y z l (λ e. a x i (ap (λ m. (deed L g m).mover) e)) (o x y (past i) (past j) n b)

  free_of : (z : Move) (r : List Move) → ((y : Move) → Among y r → before (deed L g y) (deed L g z) ≡ false) → Free (deed L g z) (map (deed L g) r)
  free_of z [] h = tt
  free_of z (y ∷ r) h = (h y now, free_of z r (λ x m. h x (past m)))

  pub keeps : (l : List Move) → Distinct l → KeepsOrder L g l → Keeps (map (deed L g) l)
  keeps [] d o = tt
  keeps (z ∷ l) (a, d) o = (
    free_of z l (λ y m. false_from_ne_true _ (λ e.
        let n : y ≡ z → ⊥ = λ q. a y m (ap (λ x. (deed L g x).mover) q) in
        let s = stands_tail y z z l n (o y z (past m) now n (goes_before (deed L g y) (deed L g z) e)) in
        a z (stands_among y z l s) refl)),
    keeps l d (order_tail z l a o),
  )

  free_at : (z y : Move) (l : List Move) → Free (deed L g z) (map (deed L g) l) → Among y l → before (deed L g y) (deed L g z) ≡ false
  free_at z y [] f i = elim i [ ]
  free_at z y (x ∷ l) f now = f.0
  free_at z y (x ∷ l) f (past i) = free_at z y l f.1 i

  keeps_at : (x y : Move) (l : List Move) → Keeps (map (deed L g) l) → Stands y x l → before (deed L g x) (deed L g y) ≡ false
  keeps_at x y [] k i = elim i [ ]
  keeps_at x y (z ∷ l) k (leads i) = free_at y x l k.0 i
  keeps_at x y (z ∷ l) k (later i) = keeps_at x y l k.1 i

  -- the other way: where no later move of a list goes before an earlier one, the list keeps the order
  pub keeps_order : (l : List Move) → Keeps (map (deed L g) l) → KeepsOrder L g l
  keeps_order l k x y i j n b = ⊎_elim (λ e. e)
      (λ e. absurd (both_ways (before (deed L g x) (deed L g y)) (keeps_at x y l k e) (before_goes (deed L g x) (deed L g y) b))) (either_way x y l i j n)
