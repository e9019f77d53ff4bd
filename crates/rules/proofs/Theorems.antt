-- The theorems by name, from what stands in the files before.
use Rattle.std.proofs.Common.{◌≡◌, ℕ, List, ◌∷◌, ◌++◌, map, length, sym, ap, ◌∙◌, length-append, subst, arith}
use Rattle.std.proofs.lemmas.Bool.{false_from_ne_true}
use Rattle.std.proofs.lemmas.List.{map-append}
use Rattle.mail.specs.Trays.{front}
use Rattle.rules.specs.declared.moves.Move.{Move}
use Rattle.rules.specs.Game.{Game, Within, Setting}
use Rattle.rules.specs.Checks.{pass}
use Rattle.rules.specs.Deed.{deed}
use Rattle.rules.specs.Beat.{nothing, judge_all, outcome}
use Rattle.rules.specs.Calls.{accepted, struck, beat}
use Rattle.rules.specs.Theorems.{DependsOnReads, BeatsSplit, NeighboursExchange, NoneClash, TraysStayWithin}
use Rattle.rules.proofs.Swap.{before, Run, exchange, alike_outcome}
use Rattle.rules.proofs.Split.{split}
use Rattle.rules.proofs.Within.{within_run, find_room}
use Rattle.rules.proofs.Words.{goes_before, never_clash}
use Rattle.rules.proofs.Frame.{frame, mover}
use Rattle.rules.proofs.Runs.{passed_run, passed_clears, run_passed, struck_accepted, within_call}

pub depends_on_reads : DependsOnReads
depends_on_reads L g h m e f k =
    frame L g h m (subst (λ p. h.states p ≡ g.states p) (sym (mover L g m)) e)
    (λ t. subst (λ p. front (h.trays p) ≡ front (g.trays p)) (sym (mover L g m)) (f t)) k

module _ (S : Setting) (g : Game) where
  -- an accepted beat is a run of deeds that pass, and the other way round
  beat_run : (ms : List Move) (n : ℕ) → Within S.limit g → (beat S g ms).answer ≡ accepted n → Run S.limit g nothing (map (deed S.level g) ms) × (n ≡ length ms)
  beat_run ms n h e = grind (arith, passed_run)

  run_beat : (ms : List Move) → Run S.limit g nothing (map (deed S.level g) ms) → beat S g ms ≡ struck S g ms pass
  run_beat ms h = grind (arith, run_passed)

pub beats_split : BeatsSplit
beats_split S g xs ys n w h =
    let (r, e) = beat_run S g (xs ++ ys) n w h in
    let (a, b, c) = split S.limit S.place (deed S.level) (frame S.level) g xs ys r in
    let u = run_beat S g xs a in
    let v = run_beat S (outcome S.place g (map (deed S.level g) xs)) ys b in
    let second = ap (λ x. beat S x.game ys) u ∙ v in
    let whole = run_beat S g (xs ++ ys) r in
    (ap (λ x. x.answer) u, ap (λ x. x.answer) second, ap (λ x. x.game) second ∙ c ∙ sym (ap (λ x. x.game) whole))

pub neighbours_exchange : NeighboursExchange
neighbours_exchange S g xs ys x y n w h free =
    let d = deed S.level g in
    let (r, e) = beat_run S g (xs ++ (x ∷ y ∷ ys)) n w h in
    let f = false_from_ne_true (before (d x) (d y)) (λ t. free (goes_before (d x) (d y) t)) in
    let m = map-append d xs (x ∷ y ∷ ys) in
    let o = map-append d xs (y ∷ x ∷ ys) in
    let (a, b) = exchange S.limit S.place g nothing (map d xs) (map d ys) (d x) (d y) f (subst (Run S.limit g nothing) m r) in
    let u = run_beat S g (xs ++ (y ∷ x ∷ ys)) (subst (Run S.limit g nothing) (sym o) a) in
    let v = run_beat S g (xs ++ (x ∷ y ∷ ys)) r in
    let l : length (xs ++ (x ∷ y ∷ ys)) ≡ length (xs ++ (y ∷ x ∷ ys)) = grind (arith, length-append) in (
      ap (λ z. z.answer) u ∙ ap accepted (sym (e ∙ l)),
      ap (λ z. z.game) u ∙ ap (outcome S.place g) o ∙ alike_outcome S.place g _ _ b ∙ sym (ap (outcome S.place g) m) ∙ sym (ap (λ z. z.game) v),
    )

pub none_clash : NoneClash
none_clash S g ms n h x y i c =
    let passed = (struck_accepted S g ms (judge_all S.limit g S.level nothing 0 ms) n h).0 in
    never_clash S.level g nothing ms (passed_clears S g nothing 0 ms passed) x y i c

pub trays_stay_within : TraysStayWithin
trays_stay_within = record {
  first = λ limit L p. omega arith;
  always = within_call;
  room = λ S g ms n w h. find_room S _ _ (within_run S.limit S.place (deed S.level) (frame S.level) g ms w (beat_run S g ms n w h).0);
}
