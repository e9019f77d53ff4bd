-- Whole runs: an altered list of calls ends as the old one.
use Rattle.std.proofs.Common.{◌≡◌, ℕ, suc, ◌≤◌, Bool, true, cond, List, [], ◌∷◌, ◌++◌, map, length, Some, Option, sym, refl, ap, ◌∙◌, subst, arith, length-append}
use Rattle.std.proofs.lemmas.Bool.{le-leb}
use Rattle.mail.specs.declared.message.Message.{Message}
use Rattle.rules.specs.declared.fault.CallFault.{CallFault}
use Rattle.rules.specs.declared.fault.MoveFault.{MoveFault}
use Rattle.rules.specs.declared.fault.TapFault.{TapFault}
use Rattle.rules.specs.declared.fault.Why.{Why}
use Rattle.rules.specs.declared.moves.Move.{Move}
use Rattle.rules.specs.Game.{Game, Within, Setting}
use Rattle.rules.specs.Checks.{Check, pass, fail}
use Rattle.rules.specs.Deed.{deed}
use Rattle.rules.specs.Beat.{Earlier, nothing, and_so, judge, in_turn, judge_all, outcome}
use Rattle.rules.specs.Calls.{Lent, full, Call, tap, fire, strike, accepted, After, refuse, move_of, moves_of, yield, tap_check, tapped, struck, listed, lent, call}
use Rattle.rules.specs.Order.{Insert, here, there, Reordered, none, first}
use Rattle.rules.specs.Runs.{KeepsOrder, Part, strikes, joined, play, Altered, end, keep, recut, leave, AddUp, done, next, AnswersAgree, EndAlike}
use Rattle.rules.proofs.Fine.{clear, fine, judged}
use Rattle.rules.proofs.Swap.{Run, reorder, alike_outcome}
use Rattle.rules.proofs.Split.{split}
use Rattle.rules.proofs.Within.{within_run, put_length}
use Rattle.rules.proofs.Words.{Clears, keeps, distinct_reordered, run_distinct, as_listed}
use Rattle.rules.proofs.Frame.{frame}
use Rattle.rules.proofs.Refusals.{refusals_change_nothing}

insert_map : {A B : Type 0} (f : A → B) (x : A) (l k : List A) → Insert x l k → Insert (f x) (map f l) (map f k)
insert_map f x l k here = here
insert_map f x l k (there {l = l'} {k = k'} i) = there (insert_map f x l' k' i)

reordered_map : {A B : Type 0} (f : A → B) (k r : List A) → Reordered k r → Reordered (map f k) (map f r)
reordered_map f k r none = none
reordered_map f k r (first {x = x} {l = l} {r = r'} i p) = first (insert_map f x l k i) (reordered_map f l r' p)

insert_length : {A : Type 0} (x : A) (l k : List A) → Insert x l k → length k ≡ suc (length l)
insert_length x l k here = refl
insert_length x l k (there {l = l'} {k = k'} i) = ap suc (insert_length x l' k' i)

reordered_length : {A : Type 0} (k r : List A) → Reordered k r → length k ≡ length r
reordered_length k r none = refl
reordered_length k r (first {x = x} {l = l} {r = r'} i p) = insert_length x l k i ∙ ap suc (reordered_length l r' p)

pub turn_pass : (limit : ℕ) (g : Game) (c : Check Why) (i : ℕ) (m : Move) (k : Check MoveFault) → in_turn limit g c i m k ≡ pass → (c ≡ pass) × (k ≡ pass)
turn_pass limit g c i m k h = grind arith

pub pass_turn : (limit : ℕ) (g : Game) (c : Check Why) (i : ℕ) (m : Move) (k : Check MoveFault) → c ≡ pass → k ≡ pass → in_turn limit g c i m k ≡ pass
pass_turn limit g c i m k h e = grind arith

module _ (S : Setting) where
  pub passed_run : (g : Game) (s : Earlier) (i : ℕ) (ms : List Move) → Within S.limit g → judge_all S.limit g S.level s i ms ≡ pass → Run S.limit g s (map (deed S.level g) ms)
  passed_run g s i [] w h = tt
  passed_run g s i (m ∷ ms) w h =
      let (a, b) = turn_pass S.limit g (judge S.limit g s (deed S.level g m)) i m _ h in
      (fine S.limit g s (deed S.level g m) w a, passed_run g (and_so s (deed S.level g m)) (suc i) ms w b)

  pub run_passed : (g : Game) (s : Earlier) (i : ℕ) (ms : List Move) → Run S.limit g s (map (deed S.level g) ms) → judge_all S.limit g S.level s i ms ≡ pass
  run_passed g s i [] r = refl
  run_passed g s i (m ∷ ms) (f, r) =
      pass_turn S.limit g _ i m _ (judged S.limit g s (deed S.level g m) f) (run_passed g (and_so s (deed S.level g m)) (suc i) ms r)

  pub passed_clears : (g : Game) (s : Earlier) (i : ℕ) (ms : List Move) → judge_all S.limit g S.level s i ms ≡ pass → Clears S.level g s ms
  passed_clears g s i [] h = tt
  passed_clears g s i (m ∷ ms) h =
      let (a, b) = turn_pass S.limit g (judge S.limit g s (deed S.level g m)) i m _ h in
      (clear S.limit g s (deed S.level g m) a, passed_clears g (and_so s (deed S.level g m)) (suc i) ms b)

  -- an accepted beat, taken apart
  record Accepted (g : Game) (t : Lent) (ms : List Move) (n : ℕ) : Type 0 where
    long : full t ≡ true
    some : 1 ≤ length ms
    few : length ms ≤ 16
    passed : judge_all S.limit g S.level nothing 0 ms ≡ pass
    answer : n ≡ length ms

  -- what comes of moves that pass
  pub cond_accepted : (b : Bool) (x : After) (f : CallFault) (g : Game) (n : ℕ) → (cond b x (refuse f g)).answer ≡ accepted n → (b ≡ true) × (x.answer ≡ accepted n)
  cond_accepted b x f g n h = grind arith

  pub struck_accepted : (g : Game) (ms : List Move) (c : Check MoveFault) (n : ℕ) → (struck S g ms c).answer ≡ accepted n → (c ≡ pass) × (n ≡ length ms)
  struck_accepted g ms c n h = grind arith

  accepted_listed : (g : Game) (t : Lent) (ms : List Move) (n : ℕ) → (lent S g t (listed S g (Some ms))).answer ≡ accepted n → Accepted g t ms n
  accepted_listed g t ms n h = grind arith

  accepted_strike : (g : Game) (t : Lent) (bytes : List ℕ) (ms : List Move) (n : ℕ)
      → moves_of bytes ≡ Some ms → (call S g (strike t bytes)).answer ≡ accepted n → Accepted g t ms n
  accepted_strike g t bytes ms n e h = accepted_listed g t ms n (subst (λ o. (lent S g t (listed S g o)).answer ≡ accepted n) e h)

  struck_well : (g : Game) (t : Lent) (bytes : List ℕ) (ms : List Move) → moves_of bytes ≡ Some ms
      → full t ≡ true → 1 ≤ length ms → length ms ≤ 16 → Run S.limit g nothing (map (deed S.level g) ms) → call S g (strike t bytes) ≡ struck S g ms pass
  struck_well g t bytes ms e l a b r = let k = run_passed g nothing 0 ms r in grind (arith, le-leb)

  play_append : (g : Game) (cs ds : List Call) → play S g (cs ++ ds) ≡ play S (play S g cs) ds
  play_append g [] ds = refl
  play_append g (c ∷ cs) ds = play_append (call S g c).game cs ds

  -- moves that pass as one beat, struck part by part
  in_parts : (g : Game) (parts : List Part) → length (joined parts) ≤ 16 → Run S.limit g nothing (map (deed S.level g) (joined parts))
      → (play S g (strikes parts) ≡ outcome S.place g (map (deed S.level g) (joined parts))) × AddUp S g (strikes parts) (length (joined parts))
  in_parts g [] n r = (refl, done)
  in_parts g (b ∷ bs) n r =
      let (u, v, w) = split S.limit S.place (deed S.level) (frame S.level) g b.moves (joined bs) r in
      let h = outcome S.place g (map (deed S.level g) b.moves) in
      let l = length-append b.moves (joined bs) in
      let e = struck_well g b.trails b.bytes b.moves b.spelt b.long b.some (omega arith) u in
      let (x, y) = in_parts h bs (omega arith) v in (
        ap (λ z. play S z.game (strikes bs)) e ∙ x ∙ w,
        rw l (next (ap (λ z. z.answer) e) (subst (λ z. AddUp S z.game (strikes bs) (length (joined bs))) (sym e) y)),
      )

  -- a beat, and its moves in another order that keeps "goes before", struck part by part
  recut_alike : (g : Game) (t : Lent) (bytes : List ℕ) (ms : List Move) (n : ℕ) (parts : List Part) → Within S.limit g
      → moves_of bytes ≡ Some ms → (call S g (strike t bytes)).answer ≡ accepted n → Reordered ms (joined parts) → KeepsOrder S.level g (joined parts)
      → ((call S g (strike t bytes)).game ≡ play S g (strikes parts)) × AddUp S g (strikes parts) n
  recut_alike g t bytes ms n parts w e h p k =
      let a = accepted_strike g t bytes ms n e h in
      let run = passed_run g nothing 0 ms w a.passed in
      let m = reordered_length ms (joined parts) p in
      let (r, l) = reorder S.limit S.place g nothing _ _ (reordered_map (deed S.level g) ms (joined parts) p)
      (keeps S.level g (joined parts) (distinct_reordered S.level g ms (joined parts) p (run_distinct S.level g S.limit nothing ms run)) k) run in
      let (u, v) = in_parts g parts (omega (arith, m, a.few)) r in (
        ap (λ x. x.game) (struck_well g t bytes ms e a.long a.some a.few run) ∙ alike_outcome S.place g _ _ l ∙ sym u,
        rw (a.answer ∙ m) v,
      )

  -- no tray grows over the limit
  within_struck : (g : Game) (ms : List Move) (c : Check MoveFault) → Within S.limit g → judge_all S.limit g S.level nothing 0 ms ≡ c → Within S.limit (struck S g ms c).game
  within_struck g ms pass w e = within_run S.limit S.place (deed S.level) (frame S.level) g ms w (passed_run g nothing 0 ms w e)
  within_struck g ms (fail f) w e = w

  within_tapped : (g : Game) (p : ℕ) (m : Message) (c : Check TapFault) → Within S.limit g → tap_check S g p m ≡ c → Within S.limit (tapped S g (yield S g p m) c).game
  within_tapped g p m c w h q = let k = w q in grind (arith, put_length)

  within_listed : (g : Game) (o : Option (List Move)) → Within S.limit g → Within S.limit (listed S g o).game
  within_listed g o h = grind (arith, within_struck)

  pub within_call : (g : Game) (c : Call) → Within S.limit g → Within S.limit (call S g c).game
  within_call g (tap p m) w = within_tapped g p m _ w refl
  within_call g (fire t p n) w = let k = within_struck g (move_of p n ∷ []) _ w refl in grind arith
  within_call g (strike t bs) w = let k = within_listed g (moves_of bs) w in grind arith

  pub altered_alike : {g : Game} {cs ds : List Call} (r : Altered S g cs ds) → Within S.limit g → EndAlike S r
  altered_alike end w = record { games = refl; answers = tt }
  altered_alike {g} (keep c r) w =
      let k = altered_alike r (within_call g c w) in
      record { games = k.games; answers = (refl, k.answers) }
  altered_alike {g} (recut {ds = ds} t bytes ms n parts e h p o r) w =
      let k = altered_alike r (within_call g (strike t bytes) w) in
      let (u, v) = recut_alike g t bytes ms n parts w e h p o in
      record {
        games = k.games ∙ ap (λ x. play S x ds) u ∙ sym (play_append g (strikes parts) ds);
        answers = (v, subst (λ x. AnswersAgree S (call S g (strike t bytes)).game x r) u k.answers);
      }
  altered_alike {g} (leave {cs = cs} c f h r) w =
      let k = altered_alike r w in
      let e = ap (λ x. x.game) (refusals_change_nothing S g c f h) in
      record { games = ap (λ x. play S x cs) e ∙ k.games; answers = subst (λ x. AnswersAgree S x g r) (sym e) k.answers }

  pub order_kept : (g : Game) (t : Lent) (bytes : List ℕ) (ms : List Move) (n : ℕ)
      → moves_of bytes ≡ Some ms → (call S g (strike t bytes)).answer ≡ accepted n → KeepsOrder S.level g ms
  order_kept g t bytes ms n e h = as_listed S.level g nothing ms (passed_clears g nothing 0 ms (accepted_strike g t bytes ms n e h).passed)
