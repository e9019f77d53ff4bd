-- A move passes exactly where these nine things hold, said cell by cell and tray by tray.
use Rattle.std.proofs.Common.{◌≡◌, ℕ, suc, ◌+◌, ◌≤◌, true, false, cond, ◌||◌, eqb, List, [], ◌∷◌, refl, arith}
use Rattle.std.proofs.lemmas.Bool.Decides.{nat_tests}
use Rattle.mail.specs.declared.message.Message.{Message}
use Rattle.rules.specs.Game.{Game, Within}
use Rattle.rules.specs.Trace.{Event, reads, writes, sends}
use Rattle.rules.specs.Checks.{pass}
use Rattle.rules.specs.Deed.{Deed, cell_read, cell_written, sent_to, takes_from}
use Rattle.rules.specs.Beat.{Earlier, one_more, left_in, along, judge}

-- how many messages the events send to a piece
abbrev pub count : List Event → ℕ → ℕ
count [] r = 0
count (reads p a ∷ es) r = count es r
count (writes p a v ∷ es) r = count es r
count (sends q m ∷ es) r = cond (eqb q r) (suc (count es r)) (count es r)

pub count_none : (es : List Event) (r : ℕ) → sent_to es r ≡ false → count es r ≡ 0
count_none [] r h = refl
count_none (e ∷ es) r h = let k = count_none es r in grind arith

-- no event meets what an earlier move did
pub record Cleared (s : Earlier) (es : List Event) : Type 0 where
  pub reads_clear : (p a : ℕ) → cell_read es p a ≡ true → s.wrote p a ≡ false
  pub writes_clear : (p a : ℕ) → cell_written es p a ≡ true → s.wrote p a ≡ false
  pub sends_clear : (q : ℕ) → sent_to es q ≡ true → s.sent q ≡ false

-- what a move that passes says of the earlier ones
pub record Clear (s : Earlier) (d : Deed) : Type 0 where
  pub takes_clear : d.takes ≡ true → s.sent d.mover ≡ false
  pub events_clear : Cleared s d.events

module _ (limit : ℕ) where
  module _ (g : Game) (s : Earlier) (d : Deed) where
    along_next : (n : ℕ → ℕ) (q : ℕ) (m : Message) (es : List Event) → along limit g s d n (sends q m ∷ es) ≡ pass → along limit g s d (one_more n q) es ≡ pass
    along_next n q m es h = grind arith

    cleared : (n : ℕ → ℕ) (es : List Event) → along limit g s d n es ≡ pass → Cleared s es × (d.ended ≡ pass)
    cleared n [] h = grind arith
    cleared n (e ∷ es) h = let k = λ (n : ℕ → ℕ). cleared n es in grind (arith, nat_tests)

    -- n messages having been sent before
    room_next : (n : ℕ → ℕ) (q : ℕ) (m : Message) (es : List Event) → ((r : ℕ) → left_in g r (s.took r || takes_from d r) + n r ≤ limit)
        → along limit g s d n (sends q m ∷ es) ≡ pass → (r : ℕ) → left_in g r (s.took r || takes_from d r) + one_more n q r ≤ limit
    room_next n q m es b h r = let i = b q in let j = b r in grind (arith, nat_tests)

    roomy : (n : ℕ → ℕ) (es : List Event) → ((q : ℕ) → left_in g q (s.took q || takes_from d q) + n q ≤ limit) → along limit g s d n es ≡ pass
        → (q : ℕ) → left_in g q (s.took q || takes_from d q) + (n q + count es q) ≤ limit
    roomy n [] b h q = omega (arith, b q)
    roomy n (reads p a ∷ es) b h q = let k = roomy n es b in grind (arith, nat_tests)
    roomy n (writes p a v ∷ es) b h q = let k = roomy n es b in grind (arith, nat_tests)
    roomy n (sends r m ∷ es) b h q = let k = roomy (one_more n r) es (room_next n r m es b h) (along_next n r m es h) q in grind (arith, nat_tests)

    walks : (n : ℕ → ℕ) (es : List Event) → Cleared s es → ((q : ℕ) → sent_to es q ≡ true → left_in g q (s.took q || takes_from d q) + (n q + count es q) ≤ limit)
        → d.ended ≡ pass → along limit g s d n es ≡ pass
    walks n [] c b e = e
    walks n (reads p a ∷ es) c b e = let k = walks n es in grind (arith, nat_tests)
    walks n (writes p a v ∷ es) c b e = let k = walks n es in grind (arith, nat_tests)
    walks n (sends q m ∷ es) c b e = let k = walks (one_more n q) es in grind (arith, nat_tests)

  pub record Fine (g : Game) (s : Earlier) (d : Deed) : Type 0 where
    pub known : d.known ≡ pass
    pub fresh : s.moved d.mover ≡ false
    pub ready : d.ready ≡ pass
    pub clear : d.takes ≡ true → s.sent d.mover ≡ false
    pub reads_clear : (p a : ℕ) → cell_read d.events p a ≡ true → s.wrote p a ≡ false
    pub writes_clear : (p a : ℕ) → cell_written d.events p a ≡ true → s.wrote p a ≡ false
    pub sends_clear : (q : ℕ) → sent_to d.events q ≡ true → s.sent q ≡ false
    pub room : (q : ℕ) → sent_to d.events q ≡ true → left_in g q (s.took q || takes_from d q) + count d.events q ≤ limit
    pub ended : d.ended ≡ pass

  pub clear : (g : Game) (s : Earlier) (d : Deed) → judge limit g s d ≡ pass → Clear s d
  clear g s d h = let k = cleared g s d (λ r. 0) d.events in grind arith

  pub fine : (g : Game) (s : Earlier) (d : Deed) → Within limit g → judge limit g s d ≡ pass → Fine g s d
  fine g s d within h =
      let k = cleared g s d (λ r. 0) d.events in
      let b = roomy g s d (λ r. 0) d.events (λ q. omega (arith, within q)) in grind arith

  pub judged : (g : Game) (s : Earlier) (d : Deed) → Fine g s d → judge limit g s d ≡ pass
  judged g s d f =
      let k = walks g s d (λ r. 0) d.events (record { reads_clear = f.reads_clear; writes_clear = f.writes_clear; sends_clear = f.sends_clear }) (λ q t. omega (arith, f.room q t)) f.ended in
      grind arith
