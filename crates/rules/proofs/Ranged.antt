-- In a sound level a move writes only cells in the table, and sends only to pieces in it.
use Rattle.std.proofs.Common.{◌≡◌, ℕ, ◌+◌, ◌<◌, ◌≤◌, Bool, eqb, List, [], ◌∷◌, ◌++◌, map, length, ℤ, Some, None, Option, arith}
use Rattle.mail.specs.declared.message.Message.{Message}
use Rattle.mail.specs.Trays.{front}
use Rattle.level.specs.Syntax.{Expr, Stmt, assign, store, send, Transition, Level}
use Rattle.level.specs.Spelling.{size, statement}
use Rattle.level.specs.Sound.{Each, SoundStmt, SoundTransition, Sound, most_pieces}
use Rattle.level.specs.Places.{Placed, effect_place, placed_at}
use Rattle.rules.specs.declared.moves.Act.{Act}
use Rattle.rules.specs.declared.moves.Act.TheVariants.{Discard}
use Rattle.rules.specs.declared.moves.Act.TheVariants as act
use Rattle.rules.specs.declared.moves.Move.{Move}
use Rattle.rules.specs.Game.{Game}
use Rattle.rules.specs.Names.{piece_named, cell_named, transition_of}
use Rattle.rules.specs.Trace.{Event, reads, writes, sends, Trace, bind, Own, receipts, receive, evaluate, evaluate_all, run, run_all, guarded}
use Rattle.rules.specs.Checks.{pass}
use Rattle.rules.specs.Deed.{transit, transit_deed, act_deed, deed}
use Rattle.rules.specs.Beat.{changes_of, parcels_of, changes, parcels}
use Rattle.rules.proofs.Trails.{weight, weight_evaluate, weight_evaluate_all, weight_discard, each_append, Maybe, nth_in, transition_has}

-- every write is of a cell in the table, every send to a piece in it
abbrev pub Ranged : List Event → Type 0
Ranged [] = Unit {0}
Ranged (reads p a ∷ es) = Ranged es
Ranged (writes p a v ∷ es) = (p < 32) × (a < 8) × Ranged es
Ranged (sends q m ∷ es) = (q < 32) × Ranged es

-- where nothing is written or sent
quiet : (es : List Event) → weight 1 1 es ≤ 0 → Ranged es
quiet [] h = tt
quiet (e ∷ es) h = let k = quiet es in grind arith

ranged_append : (xs ys : List Event) → Ranged xs → Ranged ys → Ranged (xs ++ ys)
ranged_append [] ys h k = k
ranged_append (e ∷ xs) ys h k = let j = ranged_append xs ys in grind arith

ranged_bind : {A B : Type 0} (t : Trace A) (k : A → Trace B) → Ranged t.events → ((x : A) → Ranged (k x).events) → Ranged (bind t k).events
ranged_bind t k h f = grind (arith, ranged_append)

-- the number that a statement writes
abbrev Narrow : Stmt → Type 0
Narrow (assign a e) = a < 8
Narrow (store a e f) = a < 8
Narrow (send s e es) = Unit {0}

narrow : (signals : List ℕ) (n : ℕ) → n ≤ 8 → (c : Stmt) → SoundStmt signals n c → Narrow c
narrow signals n h c k = grind arith

each_weaker : {A : Type 0} (P Q : A → Type 0) → ((x : A) → P x → Q x) → (xs : List A) → Each P xs → Each Q xs
each_weaker P Q f [] h = tt
each_weaker P Q f (x ∷ xs) h = (f x h.0, each_weaker P Q f xs h.1)

-- the numbers that a transition receives into and writes
abbrev Narrows : Placed → Type 0
Narrows t = Each (λ a. a < 8) t.transition.receives × Each Narrow t.transition.effect

narrows : (signals : List ℕ) (k n i m : ℕ) (t : Transition) → n ≤ 8 → SoundTransition signals n m t → Narrows (placed_at k n i t)
narrows signals k n i m t l h = (each_weaker _ _ (λ a u. omega arith) t.receives h.receivers, each_weaker _ _ (narrow signals n l) t.effect h.effect)

module _ (L : Level) (few : length L.pieces ≤ 32) where
  piece_in : (v : ℤ) → Maybe (λ q. q < 32) (piece_named L v)
  piece_in v = grind arith

  cell_in : (v : ℤ) (a : ℕ) → Maybe (λ q. q < 32) (cell_named L v a)
  cell_in v a = grind (arith, piece_in)

  module _ (g : Game) (p : ℕ) (here : p < 32) where
    ranged_evaluate : {B : Type 0} (o : Own) (at : ℕ) (e : Expr) (k : ℤ → Trace B) → ((v : ℤ) → Ranged (k v).events) → Ranged (bind (evaluate L g p o at e) k).events
    ranged_evaluate o at e k f = ranged_bind (evaluate L g p o at e) k (quiet (evaluate L g p o at e).events (weight_evaluate 1 1 L g p o at e)) f

    ranged_run : (at : ℕ) (c : Stmt) (o : Own) → Narrow c → Ranged (run L g p at c o).events
    ranged_run at (assign a e) o n = ranged_evaluate o (at + 2) e _ (λ v. (here, n, tt))
    ranged_run at (store a e f) o n = ranged_evaluate o (at + 2) e _ (λ v. ranged_evaluate o (at + 2 + size e) f _ (λ u. let k = cell_in v a in grind arith))
    ranged_run at (send s e es) o n = ranged_evaluate o (at + 2) e _ (λ v. ranged_bind (evaluate_all L g p o (at + 2 + size e) es) _ (quiet (evaluate_all L g p o (at + 2 + size e) es).events (weight_evaluate_all 1 1 L g p o (at + 2 + size e) es))
        (λ vs. let k = piece_in v in grind arith))

    ranged_run_all : (at : ℕ) (cs : List Stmt) (o : Own) → Each Narrow cs → Ranged (run_all L g p at cs o).events
    ranged_run_all at [] o n = tt
    ranged_run_all at (c ∷ cs) o n = ranged_bind (run L g p at c o) _ (ranged_run at c o n.0) (λ o'. ranged_run_all (at + length (statement c)) cs o' n.1)

    ranged_guarded : (t : Placed) (o : Own) → Narrows t → Ranged (guarded L g p t o).events
    ranged_guarded t o n = ranged_evaluate o t.guard t.transition.guard _ (λ v. let k = ranged_run_all (effect_place t) t.transition.effect o n.1 in grind arith)

    ranged_receive : (l : List ℕ) (m : Message) (o : Own) → Each (λ a. a < 8) l → Ranged (receive p (receipts l m) o).events
    ranged_receive l m o h = grind arith

    ranged_transit : (t : Placed) (b : Bool) (m : Option Message) → Narrows t → Ranged (transit L g p t b m).events
    ranged_transit t b m n =
        let h = ranged_guarded t in
        let k = ranged_receive t.transition.receives in grind (arith, ranged_append)

few_pieces : (L : Level) → Sound L → length L.pieces ≤ 32
unfolding most_pieces
few_pieces L sound = sound.few_pieces

module _ (L : Level) (sound : Sound L) (g : Game) where
  ranged_of : (p : ℕ) (o : Option Placed) → Maybe (λ t. Narrows t × (p < length L.pieces)) o → Ranged (transit_deed L g p o).events
  ranged_of p None h = tt
  ranged_of p (Some t) h = let f = few_pieces L sound in let i = h.1 in
      ranged_transit L f g p (omega arith) t (eqb t.transition.signal 0) (front (g.trays p)) h.0

  ranged_act : (p : ℕ) (a : Act) → Ranged (act_deed L g p a).events
  ranged_act p (act.Transition n) = ranged_of p (transition_of L p n) (transition_has L Narrows (narrows L.signals) sound p n)
  ranged_act p Discard = let h = weight_discard 1 1 L g p in grind (arith, quiet)

pub ranged : (L : Level) → Sound L → (g : Game) (m : Move) → Ranged (deed L g m).events
ranged L sound g m = ranged_act L sound g m.piece m.act

changes_in : (es : List Event) → Ranged es → Each (λ c. (c.piece < 32) × (c.number < 8)) (changes_of es)
changes_in [] h = tt
changes_in (e ∷ es) h = let k = changes_in es in grind arith

parcels_in : (es : List Event) → Ranged es → Each (λ c. c.piece < 32) (parcels_of es)
parcels_in [] h = tt
parcels_in (e ∷ es) h = let k = parcels_in es in grind arith

module _ (L : Level) (sound : Sound L) (g : Game) where
  pub ranged_changes : (ms : List Move) → Each (λ c. (c.piece < 32) × (c.number < 8)) (changes (map (deed L g) ms))
  ranged_changes [] = tt
  ranged_changes (m ∷ ms) = each_append _ (changes_of (deed L g m).events) _ (changes_in (deed L g m).events (ranged L sound g m)) (ranged_changes ms)

  pub ranged_parcels : (ms : List Move) → Each (λ c. c.piece < 32) (parcels (map (deed L g) ms))
  ranged_parcels [] = tt
  ranged_parcels (m ∷ ms) = each_append _ (parcels_of (deed L g m).events) _ (parcels_in (deed L g m).events (ranged L sound g m)) (ranged_parcels ms)

  -- a move that is known is of a piece in the table
  known_act : (p : ℕ) (a : Act) → (act_deed L g p a).known ≡ pass → p < 32
  known_act p (act.Transition n) e = let f = few_pieces L sound in let h = transition_has L Narrows (narrows L.signals) sound p n in grind arith
  known_act p Discard e = let f = few_pieces L sound in let h = nth_in L.pieces p in grind arith

pub known_mover : (L : Level) → Sound L → (g : Game) (m : Move) → (deed L g m).known ≡ pass → m.piece < 32
known_mover L sound g m e = known_act L sound g m.piece m.act e
