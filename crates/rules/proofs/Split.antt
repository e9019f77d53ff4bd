-- An accepted beat may be cut: its second part is accepted on the game after its first, and they end as the whole does.
use Rattle.std.proofs.Common.{◌≡◌, ℕ, ◌-◌, true, false, cond, eqb, List, [], ◌∷◌, ◌++◌, map, length, ℤ, sym, refl, ap, ◌∙◌, subst, ap₂, arith}
use Rattle.std.specs.List.{fold}
use Rattle.std.proofs.lemmas.List.{map-append}
use Rattle.std.proofs.lemmas.List.Sums.{fold-append}
use Rattle.std.proofs.lemmas.Bool.Decides.{nat_tests}
use Rattle.mail.specs.declared.message.Message.{Message}
use Rattle.mail.specs.Trays.{front}
use Rattle.rules.specs.declared.moves.Move.{Move}
use Rattle.rules.specs.Game.{Game}
use Rattle.rules.specs.Deed.{Deed, cell_read}
use Rattle.rules.specs.Beat.{Earlier, nothing, and_so, left_in, outcome}
use Rattle.rules.proofs.Points.{state_after, value_in, value_after, left_after, puts_after, ending, points}
use Rattle.rules.proofs.Fine.{Fine}
use Rattle.rules.proofs.Swap.{value_none, puts_none, Run}

-- A move's deed depends on its piece's state, on its first message if it takes one, and on the cells that it reads
abbrev pub Frame : (Game → Move → Deed) → Type 0
Frame deed = (g h : Game) (m : Move) → h.states (deed g m).mover ≡ g.states (deed g m).mover
    → ((deed g m).takes ≡ true → front (h.trays (deed g m).mover) ≡ front (g.trays (deed g m).mover))
    → ((p a : ℕ) → cell_read (deed g m).events p a ≡ true → h.numbers p a ≡ g.numbers p a)
    → deed h m ≡ deed g m

abbrev so_far : Earlier → List Deed → Earlier
so_far s ds = fold and_so s ds

-- a piece that has not moved has its state, and its tray was not taken from
unmoved : (s : Earlier) (ds : List Deed) (p : ℕ) → (so_far s ds).moved p ≡ false
    → (s.moved p ≡ false) × ((z : ℕ) → state_after ds p z ≡ z) × ((so_far s ds).took p ≡ s.took p) × ((l : List Message) → left_after ds p l ≡ l)
unmoved s [] p h = grind arith
unmoved s (d ∷ ds) p h = let k = unmoved (and_so s d) ds p h in grind (arith, nat_tests)

unwritten : (s : Earlier) (ds : List Deed) (p a : ℕ) → (so_far s ds).wrote p a ≡ false → (s.wrote p a ≡ false) × ((z : ℤ) → value_after ds p a z ≡ z)
unwritten s [] p a h = grind arith
unwritten s (d ∷ ds) p a h = let k = unwritten (and_so s d) ds p a h in grind (arith, value_none)

unsent : (place : List Message → Message → ℕ) (s : Earlier) (ds : List Deed) (q : ℕ) → (so_far s ds).sent q ≡ false → (s.sent q ≡ false) × ((l : List Message) → puts_after place ds q l ≡ l)
unsent place s [] q h = grind arith
unsent place s (d ∷ ds) q h = let k = unsent place (and_so s d) ds q h in grind (arith, puts_none)

module _ (limit : ℕ) where
  -- whoever has moved takes no more
  moved_none : (g : Game) (s : Earlier) (ds : List Deed) (q : ℕ) → Run limit g s ds → s.moved q ≡ true
      → ((l : List Message) → left_after ds q l ≡ l) × ((so_far s ds).took q ≡ s.took q)
  moved_none g s [] q r h = grind arith
  moved_none g s (d ∷ ds) q r h = let k = moved_none g (and_so s d) ds q r.1 in grind (arith, nat_tests)

  -- nobody takes from a tray that was sent to
  sent_none : (g : Game) (s : Earlier) (ds : List Deed) (q : ℕ) → Run limit g s ds → s.sent q ≡ true → (l : List Message) → left_after ds q l ≡ l
  sent_none g s [] q r h l = refl
  sent_none g s (d ∷ ds) q r h l = let k = sent_none g (and_so s d) ds q r.1 in grind (arith, nat_tests)

  left_length : (g : Game) (s : Earlier) (ds : List Deed) (q : ℕ) → Run limit g s ds → s.took q ≡ false
      → (l : List Message) → length (left_after ds q l) ≡ length l - cond ((so_far s ds).took q) 1 0
  left_length g s [] q r h l = grind arith
  left_length g s (d ∷ ds) q r h l =
      let k = left_length g (and_so s d) ds q r.1 in
      let j = moved_none g (and_so s d) ds q r.1 in grind (arith, nat_tests)

  run_parts : (g : Game) (s : Earlier) (xs ys : List Deed) → Run limit g s (xs ++ ys) → Run limit g s xs × Run limit g (so_far s xs) ys
  run_parts g s [] ys r = (tt, r)
  run_parts g s (x ∷ xs) ys (f, r) = let (a, b) = run_parts g (and_so s x) xs ys r in ((f, a), b)

  -- the game h stands where the game g and those of the deeds s that are not among t have led
  record Link (g h : Game) (s t : Earlier) : Type 0 where
    moves : (p : ℕ) → s.moved p ≡ false → (t.moved p ≡ false) × (h.states p ≡ g.states p) × (s.took p ≡ false) × (t.took p ≡ false)
    wrote : (p a : ℕ) → s.wrote p a ≡ false → (t.wrote p a ≡ false) × (h.numbers p a ≡ g.numbers p a)
    sent : (q : ℕ) → s.sent q ≡ false → (t.sent q ≡ false) × (left_in h q (t.took q) ≡ left_in g q (s.took q))
    tray : (q : ℕ) → s.moved q ≡ false → s.sent q ≡ false → h.trays q ≡ g.trays q

  link_fine : (g h : Game) (s t : Earlier) (d : Deed) → Link g h s t → Fine limit g s d → Fine limit h t d
  link_fine g h s t d k f = grind (arith, nat_tests)

  link_step : (g h : Game) (s t : Earlier) (d : Deed) → Link g h s t → Fine limit g s d → Link g h (and_so s d) (and_so t d)
  link_step g h s t d k f = grind (arith, nat_tests)

  module _ (place : List Message → Message → ℕ) where
    link_ending : (g : Game) (ds : List Deed) → Run limit g nothing ds → Link g (ending place g ds) (so_far nothing ds) nothing
    link_ending g ds r = record {
      moves = λ p e. let k = unmoved nothing ds p e in grind arith;
      wrote = λ p a e. let k = unwritten nothing ds p a e in grind arith;
      sent = λ q e. let k = unsent place nothing ds q e in let j = left_length g nothing ds q r in grind arith;
      tray = λ q e j. let k = unsent place nothing ds q j in let i = unmoved nothing ds q e in grind arith;
    }

    link_start : (g : Game) (ds : List Deed) → Run limit g nothing ds → Link g (outcome place g ds) (so_far nothing ds) nothing
    link_start g ds r = subst (λ h. Link g h (so_far nothing ds) nothing) (sym (points place g ds)) (link_ending g ds r)

    trays_append : (g : Game) (xs ys : List Deed) → Run limit g nothing (xs ++ ys) → (q : ℕ) (l : List Message)
        → puts_after place (xs ++ ys) q (left_after (xs ++ ys) q l) ≡ puts_after place ys q (left_after ys q (puts_after place xs q (left_after xs q l)))
    trays_append g xs ys r q l =
        let a = sent_none g (so_far nothing xs) ys q (run_parts g nothing xs ys r).1 in
        let b = unsent place nothing xs q in grind (arith, fold-append)

    ending_append : (g : Game) (xs ys : List Deed) → Run limit g nothing (xs ++ ys) → ending place g (xs ++ ys) ≡ ending place (ending place g xs) ys
    ending_append g xs ys r = λ i. record {
      states = λ p. fold-append (λ z d. cond (eqb d.mover p) d.target z) (g.states p) xs ys i;
      numbers = λ p a. fold-append (λ z d. value_in d.events p a z) (g.numbers p a) xs ys i;
      trays = λ q. trays_append g xs ys r q (g.trays q) i;
    }

    outcome_append : (g : Game) (xs ys : List Deed) → Run limit g nothing (xs ++ ys) → outcome place g (xs ++ ys) ≡ outcome place (outcome place g xs) ys
    outcome_append g xs ys r =
        points place g (xs ++ ys) ∙ ending_append g xs ys r
        ∙ sym (points place (outcome place g xs) ys ∙ ap (λ h. ending place h ys) (points place g xs))

    module _ (deed : Game → Move → Deed) (frame : Frame deed) where
      link_deed : (g h : Game) (s t : Earlier) (m : Move) → Link g h s t → Fine limit g s (deed g m) → deed h m ≡ deed g m
      link_deed g h s t m k f = frame g h m (k.moves _ f.fresh).1 (λ e. ap front (k.tray _ f.fresh (f.clear e)))
          (λ p a e. (k.wrote p a (f.reads_clear p a e)).1)

      link_run : (g h : Game) (s t : Earlier) (ms : List Move) → Link g h s t → Run limit g s (map (deed g) ms)
          → Run limit h t (map (deed h) ms) × (map (deed h) ms ≡ map (deed g) ms)
      link_run g h s t [] k r = (tt, refl)
      link_run g h s t (m ∷ ms) k (f, r) =
          let e = link_deed g h s t m k f in
          let (a, b) = link_run g h (and_so s (deed g m)) (and_so t (deed g m)) ms (link_step g h s t (deed g m) k f) r in
          (rw e (link_fine g h s t (deed g m) k f, a), ap₂ ◌∷◌ e b)

      pub split : (g : Game) (xs ys : List Move) → Run limit g nothing (map (deed g) (xs ++ ys))
          → Run limit g nothing (map (deed g) xs)
          × Run limit (outcome place g (map (deed g) xs)) nothing (map (deed (outcome place g (map (deed g) xs))) ys)
          × (outcome place (outcome place g (map (deed g) xs)) (map (deed (outcome place g (map (deed g) xs))) ys) ≡ outcome place g (map (deed g) (xs ++ ys)))
      split g xs ys r =
          let e = map-append (deed g) xs ys in
          let r' : Run limit g nothing (map (deed g) xs ++ map (deed g) ys) = rw (← e) r in
          let (a, b) = run_parts g nothing (map (deed g) xs) (map (deed g) ys) r' in
          let h = outcome place g (map (deed g) xs) in
          let (c, d) = link_run g h (so_far nothing (map (deed g) xs)) nothing ys (link_start g (map (deed g) xs) a) b in
          (a, c, ap (outcome place h) d ∙ sym (ap (outcome place g) e ∙ outcome_append g (map (deed g) xs) (map (deed g) ys) r'))
