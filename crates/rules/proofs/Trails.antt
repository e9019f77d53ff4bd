-- How much a move writes and sends.
use Rattle.std.proofs.Common.{◌≡◌, ℕ, zero, suc, ◌+◌, ◌*◌, ◌<◌, ◌≤◌, Bool, eqb, List, [], ◌∷◌, ◌++◌, map, length, Some, None, Option, refl, arith, length-append}
use Rattle.std.proofs.lemmas.Bool.{leb-true, and_parts}
use Rattle.mail.specs.declared.message.Message.{Message}
use Rattle.mail.specs.Trays.{front}
use Rattle.level.specs.Syntax.{Expr, Stmt, assign, store, send, Transition, Kind, Level}
use Rattle.level.specs.Spelling.{size, statement, transition, kind}
use Rattle.level.specs.Sound.{Each, SoundKind, SoundTransition, Sound, most_statements}
use Rattle.level.specs.Places.{Placed, effect_place, placed_at, in_kind, in_kinds, placed}
use Rattle.level.specs.Tables.{nth}
use Rattle.rules.specs.declared.fault.MoveFault.{MoveFault}
use Rattle.rules.specs.declared.moves.Act.{Act}
use Rattle.rules.specs.declared.moves.Act.TheVariants.{Discard}
use Rattle.rules.specs.declared.moves.Act.TheVariants as act
use Rattle.rules.specs.declared.moves.Move.{Move}
use Rattle.rules.specs.Game.{Game, Setting}
use Rattle.rules.specs.Names.{transition_of}
use Rattle.rules.specs.Trace.{Event, reads, writes, sends, Trace, bind, Own, receipts, receive, evaluate, evaluate_all, run, run_all, guarded, unwanted}
use Rattle.rules.specs.Checks.{Check}
use Rattle.rules.specs.Deed.{transit, discard, transit_deed, act_deed, deed}
use Rattle.rules.specs.Beat.{nothing, judge_all, changes_of, parcels_of, changes, parcels}
use Rattle.rules.specs.Calls.{Call, tap, fire, strike, After, move_of, moves_of, struck, listed, call}
use Rattle.rules.specs.Theorems.{TrailsSuffice}
use Rattle.rules.proofs.Steps.{Steps, of_evaluate, of_evaluate_all, of_unwanted}

-- the weight of events, where a write counts w and a send s
abbrev pub weight : ℕ → ℕ → List Event → ℕ
weight w s [] = 0
weight w s (reads p a ∷ es) = weight w s es
weight w s (writes p a v ∷ es) = w + weight w s es
weight w s (sends q m ∷ es) = s + weight w s es

pub weight_changes : (es : List Event) → length (changes_of es) ≡ weight 1 0 es
weight_changes [] = refl
weight_changes (e ∷ es) = let h = weight_changes es in grind arith

pub weight_parcels : (es : List Event) → length (parcels_of es) ≡ weight 0 1 es
weight_parcels [] = refl
weight_parcels (e ∷ es) = let h = weight_parcels es in grind arith

module _ (w s : ℕ) where
  weight_append : (xs ys : List Event) → weight w s (xs ++ ys) ≡ weight w s xs + weight w s ys
  weight_append [] ys = omega arith
  weight_append (e ∷ xs) ys = let h = weight_append xs ys in grind arith

  weight_bind : {A B : Type 0} (t : Trace A) (k : A → Trace B) (m n : ℕ) → weight w s t.events ≤ m → ((x : A) → weight w s (k x).events ≤ n) → weight w s (bind t k).events ≤ m + n
  weight_bind t k m n h f = grind (arith, weight_append)

  -- evaluations and trials weigh nothing
  weightless : Steps (λ A t. (g : Game) → weight w s (t g).events ≤ 0)
  weightless = record {
    gives = λ x g. omega arith;
    stumbles = λ f g. omega arith;
    stops = λ g. omega arith;
    looks = λ p a o g. grind arith;
    binds = λ t k h f g. weight_bind (t g) (k g) 0 0 (h g) (λ x. f x g);
  }

  module _ (L : Level) (g : Game) (p : ℕ) where
    pub weight_evaluate : (o : Own) (at : ℕ) (e : Expr) → weight w s (evaluate L g p o at e).events ≤ 0
    weight_evaluate o at e = of_evaluate _ weightless L p o at e g

    pub weight_evaluate_all : (o : Own) (at : ℕ) (es : List Expr) → weight w s (evaluate_all L g p o at es).events ≤ 0
    weight_evaluate_all o at es = of_evaluate_all _ weightless L p o at es g

    module _ (w1 : w ≤ 1) (s1 : s ≤ 1) where
      weight_run : (at : ℕ) (c : Stmt) (o : Own) → weight w s (run L g p at c o).events ≤ 1
      weight_run at (assign a e) o = weight_bind (evaluate L g p o (at + 2) e) _ 0 1 (weight_evaluate o (at + 2) e) (λ v. omega arith)
      weight_run at (store a e f) o = weight_bind (evaluate L g p o (at + 2) e) _ 0 1 (weight_evaluate o (at + 2) e)
          (λ v. weight_bind (evaluate L g p o (at + 2 + size e) f) _ 0 1 (weight_evaluate o (at + 2 + size e) f) (λ u. grind arith))
      weight_run at (send k e es) o = weight_bind (evaluate L g p o (at + 2) e) _ 0 1 (weight_evaluate o (at + 2) e)
          (λ v. weight_bind (evaluate_all L g p o (at + 2 + size e) es) _ 0 1 (weight_evaluate_all o (at + 2 + size e) es) (λ vs. grind arith))

      weight_run_all : (at : ℕ) (cs : List Stmt) (o : Own) → weight w s (run_all L g p at cs o).events ≤ length cs
      weight_run_all at [] o = omega arith
      weight_run_all at (c ∷ cs) o =
          let h = weight_bind (run L g p at c o) (run_all L g p (at + length (statement c)) cs) 1 (length cs) (weight_run at c o) (λ o'. weight_run_all (at + length (statement c)) cs o') in omega arith

      weight_guarded : (t : Placed) (o : Own) → weight w s (guarded L g p t o).events ≤ length t.transition.effect
      weight_guarded t o =
          let h = weight_evaluate o t.guard t.transition.guard in
          let k = weight_run_all (effect_place t) t.transition.effect o in grind (arith, weight_append)

      weight_receive : (l : List ℕ) (m : Message) (o : Own) → weight w s (receive p (receipts l m) o).events ≤ w * 2
      weight_receive l m o = grind arith

      pub weight_transit : (t : Placed) (b : Bool) (m : Option Message) → weight w s (transit L g p t b m).events ≤ w * 2 + length t.transition.effect
      weight_transit t b m =
          let h = weight_guarded t in
          let k = weight_receive t.transition.receives in grind (arith, weight_append)

    pub weight_unwanted : (k z : ℕ) (m : Message) (ts : List Placed) → weight w s (unwanted L g p k z m ts).events ≤ 0
    weight_unwanted k z m ts = of_unwanted _ weightless L p k z m ts g

    pub weight_discard : (k : ℕ) (m : Option Message) → weight w s (discard L g p k m).events ≤ 0
    weight_discard k None = omega arith
    weight_discard k (Some m) = weight_unwanted k (g.states p) m (placed L)

pub each_append : {A : Type 0} (P : A → Type 0) (xs ys : List A) → Each P xs → Each P ys → Each P (xs ++ ys)
each_append P [] ys h k = k
each_append P (x ∷ xs) ys h k = (h.0, each_append P xs ys h.1 k)

-- what holds of something, if it is there
abbrev pub Maybe : {A : Type 0} → (A → Type 0) → Option A → Type 0
Maybe P None = Unit {0}
Maybe P (Some x) = P x

-- what holds of each holds of the one looked up, and its place is in the list
each_nth : {A : Type 0} (P : A → Type 0) (xs : List A) (n : ℕ) → Each P xs → Maybe P (nth xs n)
each_nth P [] n h = tt
each_nth P (x ∷ xs) zero h = h.0
each_nth P (x ∷ xs) (suc n) h = each_nth P xs n h.1

pub nth_in : {A : Type 0} (xs : List A) (n : ℕ) → Maybe (λ x. n < length xs) (nth xs n)
nth_in [] n = tt
nth_in (x ∷ xs) zero = omega arith
nth_in (x ∷ xs) (suc n) = let k = nth_in xs n in grind arith

-- what every transition of a sound level has
module _ (L : Level) (P : Placed → Type 0) (one : (k n i m : ℕ) (t : Transition) → n ≤ 8 → SoundTransition L.signals n m t → P (placed_at k n i t)) where
  each_kind : (k n i m : ℕ) (ts : List Transition) → n ≤ 8 → Each (SoundTransition L.signals n m) ts → Each P (in_kind k n i ts)
  each_kind k n i m [] l h = tt
  each_kind k n i m (t ∷ ts) l h = (one k n i m t l h.0, each_kind k n (i + length (transition t)) m ts l h.1)

  each_kinds : (k i : ℕ) (xs : List Kind) → Each (SoundKind L.signals) xs → Each P (in_kinds k i xs)
  each_kinds k i [] h = tt
  each_kinds k i (x ∷ xs) h = each_append P (in_kind k x.numbers (i + 3) x.transitions) _
      (each_kind k x.numbers (i + 3) x.states x.transitions h.0.numbers h.0.transitions) (each_kinds (k + 1) (i + length (kind x)) xs h.1)

  pub placed_has : Sound L → (n : ℕ) → Maybe P (nth (placed L) n)
  placed_has sound n = each_nth P (placed L) n (each_kinds 0 _ L.kinds sound.kinds)

  -- that of a piece has it, and the piece is there
  pub transition_has : Sound L → (p n : ℕ) → Maybe (λ t. P t × (p < length L.pieces)) (transition_of L p n)
  transition_has sound p n = let h = nth_in L.pieces p in let k = placed_has sound n in grind arith

-- the effects of a sound level have at most eight statements
abbrev Few : Placed → Type 0
Few t = length t.transition.effect ≤ most_statements

few_kind : (signals : List ℕ) (k n i m : ℕ) (ts : List Transition) → Each (SoundTransition signals n m) ts → Each Few (in_kind k n i ts)
few_kind signals k n i m [] h = tt
few_kind signals k n i m (t ∷ ts) h = (h.0.statements, few_kind signals k n (i + length (transition t)) m ts h.1)

few_kinds : (signals : List ℕ) (k i : ℕ) (xs : List Kind) → Each (SoundKind signals) xs → Each Few (in_kinds k i xs)
few_kinds signals k i [] h = tt
few_kinds signals k i (x ∷ xs) h = each_append Few (in_kind k x.numbers (i + 3) x.transitions) _
    (few_kind signals k x.numbers (i + 3) x.states x.transitions h.0.transitions) (few_kinds signals (k + 1) (i + length (kind x)) xs h.1)

few_of : (L : Level) (p n : ℕ) → Sound L → Maybe Few (transition_of L p n)
few_of L p n sound = let h = transition_has L Few (λ k n i m t l h. h.statements) sound p n in grind arith

module _ (L : Level) (sound : Sound L) (g : Game) where
  weight_of : (w s : ℕ) → w ≤ 1 → s ≤ 1 → (p : ℕ) (o : Option Placed) → Maybe Few o → weight w s (transit_deed L g p o).events ≤ w * 2 + 8
  unfolding most_statements
  weight_of w s w1 s1 p None f = omega arith
  weight_of w s w1 s1 p (Some t) f = let h = weight_transit w s L g p w1 s1 t (eqb t.transition.signal 0) (front (g.trays p)) in omega arith

  weight_act : (w s : ℕ) → w ≤ 1 → s ≤ 1 → (p : ℕ) (a : Act) → weight w s (act_deed L g p a).events ≤ w * 2 + 8
  weight_act w s w1 s1 p (act.Transition n) = weight_of w s w1 s1 p (transition_of L p n) (few_of L p n sound)
  weight_act w s w1 s1 p Discard = let h = weight_discard w s L g p in grind arith

  changes_fit : (ms : List Move) → length (changes (map (deed L g) ms)) ≤ 10 * length ms
  changes_fit [] = omega arith
  changes_fit (m ∷ ms) =
      let c = weight_act 1 0 (omega arith) (omega arith) m.piece m.act in
      let d = changes_fit ms in grind (arith, length-append, weight_changes)

  parcels_fit : (ms : List Move) → length (parcels (map (deed L g) ms)) ≤ 8 * length ms
  parcels_fit [] = omega arith
  parcels_fit (m ∷ ms) =
      let c = weight_act 0 1 (omega arith) (omega arith) m.piece m.act in
      let d = parcels_fit ms in grind (arith, length-append, weight_parcels)

module _ (S : Setting) (sound : Sound S.level) (g : Game) where
  abbrev Fit : After → Type 0
  Fit a = (length a.changes ≤ 160) × (length a.parcels ≤ 128)

  fit_struck : (ms : List Move) (c : Check MoveFault) → length ms ≤ 16 → Fit (struck S g ms c)
  fit_struck ms c h = grind (arith, changes_fit, parcels_fit)

  fit_listed : (o : Option (List Move)) → Fit (listed S g o)
  fit_listed None = grind arith
  fit_listed (Some ms) = let k = fit_struck ms (judge_all S.limit g S.level nothing 0 ms) in grind (arith, leb-true, and_parts)

  fit_call : (c : Call) → Fit (call S g c)
  fit_call (tap p m) = grind arith
  fit_call (fire t p n) = let k = fit_struck (move_of p n ∷ []) (judge_all S.limit g S.level nothing 0 (move_of p n ∷ [])) (omega arith) in grind arith
  fit_call (strike t bs) = let k = fit_listed (moves_of bs) in grind arith

pub trails_suffice : TrailsSuffice
trails_suffice = record { moves = λ L sound g ms. (changes_fit L sound g ms, parcels_fit L sound g ms); calls = fit_call }
