-- Two neighbours of an accepted beat change places where the first does not go before the second.
use Rattle.std.proofs.Common.{◌≡◌, ℕ, Bool, true, false, ◌&&◌, ◌||◌, eqb, List, [], ◌∷◌, ◌++◌, ℤ, sym, refl, ap, ◌∙◌, arith}
use Rattle.std.proofs.lemmas.Bool.Decides.{nat_tests}
use Rattle.mail.specs.declared.message.Message.{Message}
use Rattle.rules.specs.Game.{Game}
use Rattle.rules.specs.Trace.{Event, reads, writes, sends}
use Rattle.rules.specs.Deed.{Deed, cell_read, cell_written, sent_to, takes_from}
use Rattle.rules.specs.Beat.{Earlier, and_so, outcome}
use Rattle.rules.specs.Order.{Insert, here, there, Reordered, none, first}
use Rattle.rules.proofs.Points.{state_after, value_in, value_after, left_after, puts_in, puts_after, ending, points}
use Rattle.rules.proofs.Fine.{Fine}

-- "goes before" as a test
abbrev pub reads_any : List Event → (ℕ → ℕ → Bool) → Bool
reads_any [] w = false
reads_any (reads p a ∷ es) w = w p a || reads_any es w
reads_any (writes p a v ∷ es) w = reads_any es w
reads_any (sends q m ∷ es) w = reads_any es w

abbrev pub before : Deed → Deed → Bool
before x y = reads_any x.events (cell_written y.events) || (x.takes && sent_to y.events x.mover)

-- none of the deeds goes before d; and no later one of a list goes before an earlier one
abbrev pub Free : Deed → List Deed → Type 0
Free d [] = Unit {0}
Free d (y ∷ ds) = (before y d ≡ false) × Free d ds

abbrev pub Keeps : List Deed → Type 0
Keeps [] = Unit {0}
Keeps (d ∷ ds) = Free d ds × Keeps ds

pub reads_none : (es : List Event) (w : ℕ → ℕ → Bool) → reads_any es w ≡ false → (p a : ℕ) → cell_read es p a ≡ true → w p a ≡ false
reads_none [] w h p a e = cc
reads_none (x ∷ es) w h p a e = let k = reads_none es w in grind (arith, nat_tests)

pub value_none : (es : List Event) (p a : ℕ) (z : ℤ) → cell_written es p a ≡ false → value_in es p a z ≡ z
value_none [] p a z h = refl
value_none (x ∷ es) p a z h = let k = value_none es p a in grind arith

pub puts_none : (place : List Message → Message → ℕ) (es : List Event) (r : ℕ) (l : List Message) → sent_to es r ≡ false → puts_in place es r l ≡ l
puts_none place [] r l h = refl
puts_none place (x ∷ es) r l h = let k = puts_none place es r l in grind arith

or_swap : (x y z : Bool) → (x || y || z) ≡ (x || z || y)
or_swap x y z = grind arith

so_swap : (s : Earlier) (y z : Deed) → and_so (and_so s y) z ≡ and_so (and_so s z) y
so_swap s y z = λ i. record {
  moved = λ p. or_swap (s.moved p) (eqb y.mover p) (eqb z.mover p) i;
  wrote = λ p a. or_swap (s.wrote p a) (cell_written y.events p a) (cell_written z.events p a) i;
  sent = λ q. or_swap (s.sent q) (sent_to y.events q) (sent_to z.events q) i;
  took = λ q. or_swap (s.took q) (takes_from y q) (takes_from z q) i;
}

-- two lists of deeds end alike, from any state, value and tray
pub record Alike (place : List Message → Message → ℕ) (xs ys : List Deed) : Type 0 where
  pub states : (p z : ℕ) → state_after xs p z ≡ state_after ys p z
  pub values : (p a : ℕ) (z : ℤ) → value_after xs p a z ≡ value_after ys p a z
  pub lefts : (q : ℕ) (l : List Message) → left_after xs q l ≡ left_after ys q l
  pub puts : (q : ℕ) (l : List Message) → puts_after place xs q l ≡ puts_after place ys q l

alike_ending : (place : List Message → Message → ℕ) (g : Game) (xs ys : List Deed) → Alike place xs ys → ending place g xs ≡ ending place g ys
alike_ending place g xs ys h = λ i. record {
  states = λ p. h.states p (g.states p) i;
  numbers = λ p a. h.values p a (g.numbers p a) i;
  trays = λ q. (h.puts q (left_after xs q (g.trays q)) ∙ ap (puts_after place ys q) (h.lefts q (g.trays q))) i;
}

pub alike_outcome : (place : List Message → Message → ℕ) (g : Game) (xs ys : List Deed) → Alike place xs ys → outcome place g xs ≡ outcome place g ys
alike_outcome place g xs ys h = points place g xs ∙ alike_ending place g xs ys h ∙ sym (points place g ys)

module _ (limit : ℕ) (g : Game) (s : Earlier) (y z : Deed) (fy : Fine limit g s y) (fz : Fine limit g (and_so s y) z) where
  sooner : before y z ≡ false → Fine limit g s z
  sooner free = grind arith

  later : before y z ≡ false → Fine limit g (and_so s z) y
  later free = grind (arith, nat_tests, reads_none)

  alike_swap : (place : List Message → Message → ℕ) (ds : List Deed) → Alike place (y ∷ z ∷ ds) (z ∷ y ∷ ds)
  alike_swap place ds = grind (arith, nat_tests, value_none, puts_none)

module _ (limit : ℕ) where
  -- every deed passes in its turn
  abbrev pub Run : Game → Earlier → List Deed → Type 0
  Run g s [] = Unit {0}
  Run g s (d ∷ ds) = Fine limit g s d × Run g (and_so s d) ds

  free_insert : (x y : Deed) (l k : List Deed) → Insert y l k → before y x ≡ false → Free x l → Free x k
  free_insert x y l k here h f = (h, f)
  free_insert x y l k (there {l = l'} {k = k'} i) h f = (f.0, free_insert x y l' k' i h f.1)

  free_back : (x : Deed) (l r : List Deed) → Reordered l r → Free x r → Free x l
  free_back x l r none f = f
  free_back x l r (first {x = y} {l = l'} {r = r'} i p) f = free_insert x y l' l i f.0 (free_back x l' r' p f.1)

  module _ (place : List Message → Message → ℕ) (g : Game) where
    -- a deed before which nothing goes comes to the front
    bubble : (d : Deed) (s : Earlier) (l k : List Deed) → Insert d l k → Free d l → Run g s k → Run g s (d ∷ l) × Alike place k (d ∷ l)
    bubble d s l k here f r = (r, grind arith)
    bubble d s l k (there {y = y} {l = l'} {k = k'} i) f r =
        let (u, v) = bubble d (and_so s y) l' k' i f.1 r.1 in
        let a : Alike place (y ∷ d ∷ l') (d ∷ y ∷ l') = alike_swap limit g s y d r.0 u.0 place l' in
        ((sooner limit g s y d r.0 u.0 f.0, (later limit g s y d r.0 u.0 f.0, rw (← so_swap s y d) u.1)), grind arith)

    pub reorder : (s : Earlier) (k r : List Deed) → Reordered k r → Keeps r → Run g s k → Run g s r × Alike place k r
    reorder s k r none f h = (h, grind arith)
    reorder s k r (first {x = x} {l = l} {r = r'} i p) f h =
        let (u, v) = bubble x s l k i (free_back x l r' p f.0) h in
        let (a, b) = reorder (and_so s x) l r' p f.1 u.1 in
        ((u.0, a), grind arith)

    pub exchange : (s : Earlier) (xs ys : List Deed) (x y : Deed) → before x y ≡ false → Run g s (xs ++ (x ∷ y ∷ ys))
        → Run g s (xs ++ (y ∷ x ∷ ys)) × Alike place (xs ++ (y ∷ x ∷ ys)) (xs ++ (x ∷ y ∷ ys))
    exchange s [] ys x y f (a, (b, r)) =
        let v : Alike place (x ∷ y ∷ ys) (y ∷ x ∷ ys) = alike_swap limit g s x y a b place ys in
        ((sooner limit g s x y a b f, (later limit g s x y a b f, rw (← so_swap s x y) r)), grind arith)
    exchange s (z ∷ xs) ys x y f (a, r) =
        let (u, v) = exchange (and_so s z) xs ys x y f r in
        ((a, u), grind arith)
