-- The checks of a tap, as the code makes them one after another.
use Rattle.std.proofs.Common.{◌≡◌, ℕ, zero, suc, ◌<◌, ◌≤◌, Bool, true, false, cond, not, ◌||◌, eqb, ltb, List, [], ◌∷◌, length, get_or, Some, None, is_ok, Ok, Err, Result, sym, refl, ap, ◌∙◌, arith, le-ltb, lt-ltb}
use Rattle.std.proofs.lemmas.Bool.Decides.{nat_tests}
use Rattle.mail.specs.declared.fault.MailFault.TheVariants.{Full}
use Rattle.mail.specs.declared.message.Message.{Message}
use Rattle.mail.specs.Trays.{Trays, put_answer, put_trays}
use Rattle.level.specs.Levels.{signal_parameters}
use Rattle.level.specs.Sound.{parameters}
use Rattle.level.specs.Tables.{nth}
use Rattle.rules.specs.declared.fault.TapFault.TheVariants.{NoSignal, Unused, TrayFull}
use Rattle.rules.specs.Beat.{delivered}
use Rattle.rules.specs.declared.fault.TapFault.{TapFault}
use Rattle.rules.specs.Calls.{fits, tap_check, tap, tapped, yield, call}
use Rattle.rules.specs.Checks.{pass, fail, never}
use Rattle.rules.specs.Game.{Game, Setting}
use Rattle.game.specs.Games.{after_tap}

-- a signal that is declared, with its parameters, and one that is not
nth_length : (ss : List ℕ) (s n : ℕ) → Some n ≡ nth ss s → (s < length ss) × (get_or ss s 0 ≡ n)
nth_length [] s n e = absurd (let z : ◌≡◌ {A = ℕ} 0 1 = cc in omega arith)
nth_length (x ∷ ss) zero n e = (omega arith, cc)
nth_length (x ∷ ss) (suc s) n e = let k = nth_length ss s n e in (let j = k.0 in omega arith, k.1)

nth_beyond : (ss : List ℕ) (s : ℕ) → None ≡ nth ss s → length ss ≤ s
nth_beyond [] s e = omega arith
nth_beyond (x ∷ ss) zero e = absurd (let z : ◌≡◌ {A = ℕ} 0 1 = cc in omega arith)
nth_beyond (x ∷ ss) (suc s) e = let k = nth_beyond ss s e in omega arith

declared : (ss : List ℕ) (s n : ℕ) → Some n ≡ signal_parameters ss s → ((eqb s 0 || ltb (length ss) s) ≡ false) × (parameters ss s ≡ n)
declared ss zero n e = absurd (let z : ◌≡◌ {A = ℕ} 0 1 = cc in omega arith)
declared ss (suc s) n e = let k = nth_length ss s n e in (let j = k.0 in grind (arith, nat_tests), k.1)

undeclared : (ss : List ℕ) (s : ℕ) → None ≡ signal_parameters ss s → (eqb s 0 || ltb (length ss) s) ≡ true
undeclared ss zero e = refl
undeclared ss (suc s) e = let k = nth_beyond ss s e in grind (arith, nat_tests)

-- a piece below their number is there
pub is_piece : (p n k : ℕ) → n ≡ k → p < n → p < k
is_piece p n k e h = omega arith

-- the same game with these trays
abbrev pub with_trays : Game → Trays → Game
with_trays g t = record { states = g.states; numbers = g.numbers; trays = t }

module _ (S : Setting) (g : Game) (p : ℕ) (m : Message) (there : p < length S.level.pieces) where
  abbrev After : Result ℕ TapFault → Game → Type 0
  After r h = after_tap r h ≡ call S g (tap p m)

  turned_away : (f : TapFault) → tap_check S g p m ≡ fail f → After (Err f) g
  turned_away f e = sym (ap (tapped S g (yield S g p m)) e)

  pub no_signal : None ≡ signal_parameters S.level.signals m.signal → After (Err NoSignal) g
  no_signal e = turned_away NoSignal (rw (lt-ltb p (length S.level.pieces) there, undeclared S.level.signals m.signal e))

  module _ (n : ℕ) (e : Some n ≡ signal_parameters S.level.signals m.signal) where
    abbrev full : Bool
    full = eqb (length (g.trays p)) S.limit

    pub unused : false ≡ fits n m → After (Err Unused) g
    unused f =
        let d = declared S.level.signals m.signal n e in
        let k : fits n m ≡ false = sym f in
        turned_away Unused (rw (lt-ltb p (length S.level.pieces) there, d.0, d.1, k))

    -- the checks before the last one pass, and for a piece up to 31 the mail refuses exactly at the limit
    module _ (f : true ≡ fits n m) (few : length S.level.pieces ≤ 32) where
      last_check : tap_check S g p m ≡ never full TrayFull
      last_check =
          let d = declared S.level.signals m.signal n e in
          let k : fits n m ≡ true = sym f in
          rw (lt-ltb p (length S.level.pieces) there, d.0, d.1, k)

      module _ (t : Trays) (after : t ≡ put_trays S.limit S.place g.trays p m) where
        full_is : (o : Bool) → o ≡ is_ok (put_answer S.limit g.trays p) → full ≡ not o
        full_is o h = let k : o ≡ is_ok {T = Unit {0}} (cond full (Err Full) (Ok tt)) = h ∙ rw (le-ltb 31 p (omega arith)) in go full k
          where
            go : (b : Bool) → o ≡ is_ok {T = Unit {0}} (cond b (Err Full) (Ok tt)) → b ≡ not o
            go true e = rw e
            go false e = rw e

        pub tray_full : false ≡ is_ok (put_answer S.limit g.trays p) → After (Err TrayFull) (with_trays g t)
        tray_full h =
            let q : full ≡ true = full_is false h in
            let same : t ≡ g.trays = after ∙ rw (le-ltb 31 p (omega arith), q) in
            ap (λ u. after_tap (Err TrayFull) (with_trays g u)) same ∙ turned_away TrayFull (last_check ∙ rw q)

        pub tray_open : true ≡ is_ok (put_answer S.limit g.trays p) → After (Ok 1) (with_trays g t)
        tray_open h =
            let q : full ≡ false = full_is true h in
            let put : t ≡ delivered S.place g.trays (yield S g p m) = after ∙ rw (le-ltb 31 p (omega arith), q) in
            let k : tap_check S g p m ≡ pass = last_check ∙ rw q in
            ap (λ u. after_tap (Ok 1) (with_trays g u)) put ∙ sym (ap (tapped S g (yield S g p m)) k)
