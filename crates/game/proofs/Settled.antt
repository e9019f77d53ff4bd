-- What settling does to a game with the moves, changes and parcels of a beat that passes is the beat's outcome.
use Rattle.std.proofs.Common.{◌≡◌, ℕ, ◌<◌, Bool, true, false, cond, eqb, ltb, List, [], ◌∷◌, map, length, Some, None, Option, sym, refl, ap, ◌∙◌, arith}
use mathlib.Core.Path.{fun_ext}
use Rattle.std.proofs.lemmas.Bool.{cond-true, cond-false, lt-ltb, le-ltb, ne_eqb, eqb-true, and_from, or_parts}
use Rattle.mail.specs.Trays.{Trays, put_trays, take_trays}
use Rattle.level.specs.Places.{Placed, placed}
use Rattle.level.specs.Sound.{Each, Sound}
use Rattle.level.specs.Syntax.{Piece, Level}
use Rattle.level.specs.Tables.{nth}
use Rattle.rules.specs.declared.moves.Act.{Act}
use Rattle.rules.specs.declared.moves.Act.TheVariants.{Transition, Discard}
use Rattle.rules.specs.declared.moves.Move.{Move}
use Rattle.rules.specs.declared.trail.Change.{Change}
use Rattle.rules.specs.declared.trail.Parcel.{Parcel}
use Rattle.rules.specs.Beat.{Earlier, nothing, and_so, judge_all, changes, parcels, moved_on, changed, taken_from, delivered, outcome}
use Rattle.rules.specs.Calls.{struck}
use Rattle.rules.specs.Checks.{pass}
use Rattle.rules.specs.Deed.{transit_deed, discard_deed, act_deed, deed}
use Rattle.rules.specs.Game.{Numbers, Game, Setting, Within, with_state, with_number, put_in}
use Rattle.rules.specs.Names.{then, transition_of}
use Rattle.rules.specs.Theorems.{FindRoom}
use Rattle.rules.proofs.Ranged.{ranged_changes, ranged_parcels, known_mover}
use Rattle.rules.proofs.Frame.{mover}
use Rattle.rules.proofs.Runs.{passed_run}
use Rattle.rules.proofs.Swap.{Run}
use Rattle.rules.proofs.Theorems.{trays_stay_within}
use Rattle.game.specs.Judged.{all_lists, empty}
use Rattle.game.specs.Settling.{written_all, put_all, state_by, trays_by, moved_by, taken_by, moved_all, taken_all, settled}

-- changes of cells in the table are all written
all_written : (f : Numbers) (cs : List Change) → Each (λ c. (c.piece < 32) × (c.number < 8)) cs → written_all f cs ≡ changed f cs
all_written f [] h = refl
all_written f (c ∷ cs) h =
    ap (λ n. written_all n cs) (cond-true _ (with_number f c.piece c.number c.value) f (and_from _ _ (lt-ltb _ _ h.0.0) (lt-ltb _ _ h.0.1)))
    ∙ all_written (with_number f c.piece c.number c.value) cs h.1

-- parcels that find room are all put
all_put : (S : Setting) (t : Trays) (ps : List Parcel) → Each (λ c. c.piece < 32) ps → FindRoom S t ps → put_all S.limit S.place t ps ≡ delivered S.place t ps
all_put S t [] h r = refl
all_put S t (c ∷ cs) h r =
    let k = r.0 in
    let i = h.0 in
    let one : put_trays S.limit S.place t c.piece c.message ≡ put_in S.place t c.piece c.message =
    rw (le-ltb 31 c.piece (omega arith), ne_eqb (length (t c.piece)) S.limit (omega arith)) in
    ap (λ u. put_all S.limit S.place u cs) one ∙ all_put S (put_in S.place t c.piece c.message) cs h.1 r.1

-- the transition of a move that is known is the level's of that number
placed_by : (x : Option Piece) (y : Option Placed) (t : Placed) → then x (λ k. then y (λ u. cond (eqb u.kind k.kind) (Some u) None)) ≡ Some t → y ≡ Some t
placed_by None y t e = cc
placed_by (Some k) None t e = cc
placed_by (Some k) (Some u) t e = go (eqb u.kind k.kind) e
  where
    go : (b : Bool) → cond b (Some u) None ≡ Some t → Some u ≡ Some t
    go true h = h
    go false h = cc

module _ (L : Level) (g : Game) (p : ℕ) where
  -- a move that is known leaves its piece in its target, where the piece has not moved yet
  transition_enters : (f : ℕ → ℕ) (o r : Option Placed) → ((t : Placed) → r ≡ Some t → o ≡ Some t) → p < 32 → (transit_deed L g p r).known ≡ pass
      → state_by f p o ≡ with_state f (transit_deed L g p r).mover (transit_deed L g p r).target
  transition_enters f o None k h e = cc
  transition_enters f o (Some t) k h e =
      let n = k t refl in
      ap (state_by f p) n ∙ cond-true (ltb p 32) (with_state f p t.transition.target) f (lt-ltb p 32 h)

  transition_takes : (u : Trays) (o r : Option Placed) → ((t : Placed) → r ≡ Some t → o ≡ Some t) → (transit_deed L g p r).known ≡ pass
      → trays_by u p o ≡ cond (transit_deed L g p r).takes (take_trays u (transit_deed L g p r).mover) u
  transition_takes u o None k e = cc
  transition_takes u o (Some t) k e = ap (trays_by u p) (k t refl)

  stays : (f : ℕ → ℕ) (z : ℕ) → f p ≡ z → f ≡ with_state f p z
  stays f z e = fun_ext (λ q. at q (eqb p q) (eqb-true p q))
    where
      at : (q : ℕ) (b : Bool) → (b ≡ true → p ≡ q) → f q ≡ cond b z (f q)
      at q true k = sym (ap f (k refl)) ∙ e
      at q false k = refl

  discard_enters : (f : ℕ → ℕ) (o : Option Piece) → f p ≡ g.states p → (discard_deed L g p o).known ≡ pass
      → f ≡ with_state f (discard_deed L g p o).mover (discard_deed L g p o).target
  discard_enters f None h e = cc
  discard_enters f (Some x) h e = stays f (g.states p) h

  discard_takes : (u : Trays) (o : Option Piece) → (discard_deed L g p o).known ≡ pass
      → take_trays u p ≡ cond (discard_deed L g p o).takes (take_trays u (discard_deed L g p o).mover) u
  discard_takes u None e = cc
  discard_takes u (Some x) e = refl

  act_enters : (f : ℕ → ℕ) (a : Act) → p < 32 → f p ≡ g.states p → (act_deed L g p a).known ≡ pass
      → moved_by L f p a ≡ with_state f (act_deed L g p a).mover (act_deed L g p a).target
  act_enters f (Transition n) h k e = transition_enters f (nth (placed L) n) (transition_of L p n) (placed_by (nth L.pieces p) (nth (placed L) n)) h e
  act_enters f Discard h k e = discard_enters f (nth L.pieces p) k e

  act_takes : (u : Trays) (a : Act) → (act_deed L g p a).known ≡ pass
      → taken_by L u p a ≡ cond (act_deed L g p a).takes (take_trays u (act_deed L g p a).mover) u
  act_takes u (Transition n) e = transition_takes u (nth (placed L) n) (transition_of L p n) (placed_by (nth L.pieces p) (nth (placed L) n)) e
  act_takes u Discard e = discard_takes u (nth L.pieces p) e

-- the states so far are those before the beat where no earlier move has moved
abbrev Unmoved : Game → Earlier → (ℕ → ℕ) → Type 0
Unmoved g s f = (q : ℕ) → s.moved q ≡ false → f q ≡ g.states q

module _ (S : Setting) (sound : Sound S.level) (g : Game) where
  all_moved : (s : Earlier) (f : ℕ → ℕ) (ms : List Move) → Unmoved g s f → Run S.limit g s (map (deed S.level g) ms)
      → moved_all S.level f ms ≡ moved_on f (map (deed S.level g) ms)
  all_moved s f [] u r = refl
  all_moved s f (m ∷ ms) u r =
      let d = deed S.level g m in
      let here : f m.piece ≡ g.states m.piece = u m.piece (ap s.moved (sym (mover S.level g m)) ∙ r.0.fresh) in
      let one = act_enters S.level g m.piece f m.act (known_mover S.level sound g m r.0.known) here r.0.known in
      let next : Unmoved g (and_so s d) (with_state f d.mover d.target) =
      λ q e. let (a, b) = or_parts (s.moved q) (eqb d.mover q) e in cond-false (eqb d.mover q) d.target (f q) b ∙ u q a in
      ap (λ h. moved_all S.level h ms) one ∙ all_moved (and_so s d) (with_state f d.mover d.target) ms next r.1

  all_taken : (s : Earlier) (t : Trays) (ms : List Move) → Run S.limit g s (map (deed S.level g) ms)
      → taken_all S.level t ms ≡ taken_from t (map (deed S.level g) ms)
  all_taken s t [] r = refl
  all_taken s t (m ∷ ms) r =
      let d = deed S.level g m in
      ap (λ u. taken_all S.level u ms) (act_takes S.level g m.piece t m.act r.0.known)
      ∙ all_taken (and_so s d) (cond d.takes (take_trays t d.mover) t) ms r.1

pub settled_outcome : (S : Setting) → Sound S.level → (g : Game) → Within S.limit g → (ms : List Move)
    → judge_all S.limit g S.level nothing 0 ms ≡ pass
    → settled S g ms (all_lists S.level g empty ms) ≡ outcome S.place g (map (deed S.level g) ms)
settled_outcome S sound g w ms h =
    let ds = map (deed S.level g) ms in
    let run = passed_run S g nothing 0 ms w h in
    let room = trays_stay_within.room S g ms (length ms) w (ap (λ c. (struck S g ms c).answer) h) in
    let states = all_moved S sound g nothing g.states ms (λ q e. refl) run in
    let numbers = all_written g.numbers (changes ds) (ranged_changes S.level sound g ms) in
    let taken = all_taken S sound g nothing g.trays ms run in
    let put = ap (λ t. put_all S.limit S.place t (parcels ds)) taken ∙ all_put S (taken_from g.trays ds) (parcels ds) (ranged_parcels S.level sound g ms) room in
    λ i. record { states = states i; numbers = numbers i; trays = put i }
