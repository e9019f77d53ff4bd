-- A move is refused for a clash only where it clashes with an earlier one.
use Rattle.std.proofs.Common.{◌≡◌, ℕ, suc, Bool, true, ◌⊎◌, List, [], ◌∷◌, Some, None, Err, Option, sym, refl, ap, ◌∙◌, subst, inl, inr, ⊎_elim, arith}
use Rattle.std.proofs.lemmas.Bool.{false≢true}
use Rattle.std.proofs.lemmas.Bool.Decides.{nat_tests}
use Rattle.mail.specs.declared.message.Message.{Message}
use Rattle.level.specs.Syntax.{Piece, Level}
use Rattle.level.specs.Places.{Placed, placed}
use Rattle.level.specs.Tables.{nth}
use Rattle.rules.specs.declared.fault.CallFault.TheVariants.{Strike}
use Rattle.rules.specs.declared.fault.StrikeFault.TheVariants.{AtMove}
use Rattle.rules.specs.declared.fault.MoveFault.{MoveFault}
use Rattle.rules.specs.declared.fault.Why.{Why}
use Rattle.rules.specs.declared.fault.Why.TheVariants.{Clash}
use Rattle.rules.specs.declared.moves.Act.{Act}
use Rattle.rules.specs.declared.moves.Act.TheVariants.{Transition, Discard}
use Rattle.rules.specs.declared.moves.Move.{Move}
use Rattle.rules.specs.Game.{Game, Setting}
use Rattle.rules.specs.Names.{transition_of}
use Rattle.rules.specs.Trace.{Event, Trace}
use Rattle.rules.specs.Checks.{Check, pass, fail}
use Rattle.rules.specs.Deed.{Deed, transit, discard, transit_deed, discard_deed, act_deed, deed, cell_read, cell_written, sent_to}
use Rattle.rules.specs.Beat.{Clashes, Earlier, nothing, and_so, along, judge, in_turn, judge_all}
use Rattle.rules.specs.Calls.{refused, struck}
use Rattle.rules.specs.Order.{Among, now, past, Stands, leads, later}
use Rattle.rules.specs.Theorems.{ClashesAreReal}
use Rattle.rules.proofs.Steps.{Steps, of_unwanted, of_transit}

-- a trace's own end is no clash
abbrev Calm : {A : Type 0} → Trace A → Type 0
Calm t = t.out ≡ Err Clash → ⊥

calm_steps : Steps (λ A t. (g : Game) → Calm (t g))
calm_steps = record {
  gives = λ x g e. absurd (false≢true cc);
  stumbles = λ s g e. absurd (false≢true cc);
  stops = λ g e. absurd (false≢true cc);
  looks = λ p a o g. grind arith;
  binds = λ t k h f g. let h = h g in grind (arith, f);
}

calm_transit : (L : Level) (g : Game) (p : ℕ) (t : Placed) (b : Bool) (m : Option Message) → Calm (transit L g p t b m)
calm_transit L g p t b m = of_transit _ calm_steps L p (λ o q a v h e. absurd (false≢true cc)) (λ o q n h e. absurd (false≢true cc)) t b m g

calm_discard : (L : Level) (g : Game) (p k : ℕ) (m : Option Message) → Calm (discard L g p k m)
calm_discard L g p k None = λ e. absurd (false≢true cc)
calm_discard L g p k (Some m) = of_unwanted _ calm_steps L p k (g.states p) m (placed L) g

-- nor is any other fault of a move by itself
record Quiet (d : Deed) : Type 0 where
  known : d.known ≡ fail Clash → ⊥
  ready : d.ready ≡ fail Clash → ⊥
  ended : d.ended ≡ fail Clash → ⊥

quiet_transit : (L : Level) (g : Game) (p : ℕ) (o : Option Placed) → Quiet (transit_deed L g p o)
quiet_transit L g p o = grind (arith, calm_transit)

quiet_discard : (L : Level) (g : Game) (p : ℕ) (o : Option Piece) → Quiet (discard_deed L g p o)
quiet_discard L g p o = grind (arith, calm_discard)

quiet : (L : Level) (g : Game) (p : ℕ) (a : Act) → Quiet (act_deed L g p a)
quiet L g p (Transition n) = quiet_transit L g p (transition_of L p n)
quiet L g p Discard = quiet_discard L g p (nth L.pieces p)

-- an event that meets what an earlier move did
abbrev Met : Earlier → List Event → Type 0
Met s es =
    ((p : ℕ) × (a : ℕ) × (cell_read es p a ≡ true) × (s.wrote p a ≡ true))
    ⊎ (((p : ℕ) × (a : ℕ) × (cell_written es p a ≡ true) × (s.wrote p a ≡ true))
    ⊎ ((q : ℕ) × (sent_to es q ≡ true) × (s.sent q ≡ true)))

module _ (limit : ℕ) (g : Game) (s : Earlier) (d : Deed) (q : Quiet d) where
  met_along : (n : ℕ → ℕ) (es : List Event) → along limit g s d n es ≡ fail Clash → Met s es
  met_along n [] h = absurd (q.ended h)
  met_along n (e ∷ es) h = let k = λ (n : ℕ → ℕ). met_along n es in grind (arith, nat_tests)

  met_judge : judge limit g s d ≡ fail Clash → ((d.takes ≡ true) × (s.sent d.mover ≡ true)) ⊎ Met s d.events
  met_judge h = let k = met_along (λ r. 0) d.events in grind (arith, q.known, q.ready)

module _ (L : Level) (g : Game) where
  -- what is noted of earlier moves was done by one of them
  record Done (s : Earlier) (P : Move → Type 0) : Type 0 where
    wrote : (p a : ℕ) → s.wrote p a ≡ true → (x : Move) × P x × (cell_written (deed L g x).events p a ≡ true)
    sent : (q : ℕ) → s.sent q ≡ true → (x : Move) × P x × (sent_to (deed L g x).events q ≡ true)

  done_next : (s : Earlier) (P : Move → Type 0) (m : Move) → Done s P → Done (and_so s (deed L g m)) (λ x. P x ⊎ (x ≡ m))
  done_next s P m d = grind arith

  with_earlier : (s : Earlier) (P : Move → Type 0) (d : Deed) → Done s P → ((d.takes ≡ true) × (s.sent d.mover ≡ true)) ⊎ Met s d.events
      → (x : Move) × P x × Clashes (deed L g x) d
  with_earlier s P d h e = grind arith

  -- the move that fails, and one before it, in the list or earlier, with which it clashes
  abbrev Found : (Move → Type 0) → List Move → MoveFault → Type 0
  Found P ms f = Among f.moving ms × ((x : Move) × (P x ⊎ Stands x f.moving ms) × Clashes (deed L g x) (deed L g f.moving))

  found_past : (P : Move → Type 0) (m : Move) (ms : List Move) (f : MoveFault) → Found (λ x. P x ⊎ (x ≡ m)) ms f → Found P (m ∷ ms) f
  found_past P m ms f (i, (x, inl (inl k), c)) = (past i, (x, inl k, c))
  found_past P m ms f (i, (x, inl (inr e), c)) = (past i, (x, inr (subst (λ y. Stands y f.moving (m ∷ ms)) (sym e) (leads i)), c))
  found_past P m ms f (i, (x, inr k, c)) = (past i, (x, inr (later k), c))

  found : (limit : ℕ) (s : Earlier) (P : Move → Type 0) (i : ℕ) (ms : List Move) (f : MoveFault) → Done s P
      → judge_all limit g L s i ms ≡ fail f → f.why ≡ Clash → Found P ms f
  found limit s P i [] f n h e = absurd (false≢true cc)
  found limit s P i (m ∷ ms) f n h e = go (judge limit g s (deed L g m)) refl h
      (λ k. found limit (and_so s (deed L g m)) (λ x. P x ⊎ (x ≡ m)) (suc i) ms f (done_next s P m n) k e)
    where
      here : (w : Why) → judge limit g s (deed L g m) ≡ fail w → record { place = i; moving = m; why = w } ≡ f → Found P (m ∷ ms) f
      here w j k =
          let v : w ≡ Clash = ap (λ x. x.why) k ∙ e in
          let (x, a, c) = with_earlier s P (deed L g m) n (met_judge limit g s (deed L g m) (quiet L g m.piece m.act) (j ∙ ap fail v)) in
          subst (Found P (m ∷ ms)) k (now, (x, inl a, c))

      go : (c : Check Why) → judge limit g s (deed L g m) ≡ c → in_turn limit g c i m (judge_all limit g L (and_so s (deed L g m)) (suc i) ms) ≡ fail f
          → (judge_all limit g L (and_so s (deed L g m)) (suc i) ms ≡ fail f → Found (λ x. P x ⊎ (x ≡ m)) ms f) → Found P (m ∷ ms) f
      go pass j k r = found_past P m ms f (r k)
      go (fail w) j k r = here w j cc

struck_fault : (S : Setting) (g : Game) (ms : List Move) (c : Check MoveFault) (f : MoveFault) → (struck S g ms c).answer ≡ refused (Strike (AtMove f)) → c ≡ fail f
struck_fault S g ms c f h = grind arith

pub clashes_are_real : ClashesAreReal
clashes_are_real S g ms f h e =
    let c = struck_fault S g ms (judge_all S.limit g S.level nothing 0 ms) f h in
    let none : Done S.level g nothing (λ x. ⊥) = record { wrote = λ p a k. absurd (false≢true k); sent = λ q k. absurd (false≢true k) } in
    let (i, (x, k, w)) = found S.level g S.limit nothing (λ x. ⊥) 0 ms f none c e in
    (x, ⊎_elim (λ z. absurd z) (λ z. z) k, w)
