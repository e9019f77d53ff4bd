-- Fire accepts exactly the moves that the published semantics enables, and ends where it says.
use Rattle.std.proofs.Common.{◌≡◌, ℕ, ◌+◌, Bool, true, false, cond, eqb, List, [], ◌∷◌, length, ℤ, Some, None, Option, Result, sym, refl, ap, ◌∙◌, subst, arith}
use Rattle.std.proofs.lemmas.Bool.{false≢true, eqb-true, eqb-false, eq-eqb, ne_eqb, and_parts, and_from, cond-true}
use Rattle.std.proofs.lemmas.List.{append-nil}
use Rattle.std.proofs.lemmas.Bool.Decides.{nat_tests}
use Rattle.mail.specs.declared.message.Message.{Message}
use Rattle.mail.specs.Trays.{front, take_trays}
use Rattle.level.specs.Syntax.{Piece}
use Rattle.level.specs.Places.{Placed, placed}
use Rattle.level.specs.Tables.{nth}
use Rattle.rules.specs.declared.fault.Why.{Why}
use Rattle.rules.specs.declared.moves.Act.{Act}
use Rattle.rules.specs.declared.moves.Act.TheVariants.{Transition, Discard}
use Rattle.rules.specs.declared.moves.Move.{Move}
use Rattle.rules.specs.Arithmetic.{holds}
use Rattle.rules.specs.Game.{Game, put_in, Setting}
use Rattle.rules.specs.Names.{then, transition_of}
use Rattle.rules.specs.Trace.{Event, reads, writes, sends, Own, no_writes, receipts, laid_over, guarded, wants, unwanted}
use Rattle.rules.specs.Checks.{pass, ended_by}
use Rattle.rules.specs.Deed.{Deed, transit, transit_by, discard_by, transit_deed, discard_deed, deed, takes_from}
use Rattle.rules.specs.Beat.{nothing, one_more, left_in, along, judge, judge_all, changes_of, parcels_of, changed, delivered, outcome}
use Rattle.rules.specs.Calls.{full, fire, move_of, beat, struck, call}
use Rattle.rules.specs.Order.{Among, now, past}
use Rattle.rules.specs.Single.{number_set, state_set, dequeued, received, value, execute_all, Fails, Step, spontaneous, triggered, consumed}
use Rattle.rules.specs.Theorems.{FireIsAStep}
use Rattle.rules.proofs.Points.{put_at}
use Rattle.rules.proofs.Within.{put_length}
use Rattle.rules.proofs.Configurations.{told, lay_filled, replay, replay_only, told_evaluate, through_guarded, through_receive}
use Rattle.rules.proofs.Trails.{weight_unwanted}
use Rattle.rules.proofs.Runs.{cond_accepted, struck_accepted, turn_pass, pass_turn}

module _ (S : Setting) where
  -- the configuration with the writes and sends of some events
  abbrev ran : Game → List Event → Game
  ran c es = record { states = c.states; numbers = changed c.numbers (changes_of es); trays = delivered S.place c.trays (parcels_of es) }

  -- the configuration with one message more
  abbrev with_mail : Game → ℕ → Message → Game
  with_mail c q m = record { states = c.states; numbers = c.numbers; trays = put_in S.place c.trays q m }

  module _ (g : Game) (d : Deed) where
    -- the trays of c are as long as the beat's test reckons, n messages having been sent
    abbrev Sized : Game → (ℕ → ℕ) → Type 0
    Sized c n = (q : ℕ) → length (c.trays q) ≡ left_in g q (takes_from d q) + n q

    sized_put : (c : Game) (n : ℕ → ℕ) (q : ℕ) (m : Message) → Sized c n
        → Sized (with_mail c q m) (one_more n q)
    sized_put c n q m h = grind (arith, put_at, put_length)

    pass_replay : (n : ℕ → ℕ) (es : List Event) (c : Game) → Sized c n → along S.limit g nothing d n es ≡ pass → (replay S c es ≡ Some (ran c es)) × (d.ended ≡ pass)
    pass_replay n [] c z h = (refl, h)
    pass_replay n (reads p a ∷ es) c z h = pass_replay n es c z h
    pass_replay n (writes p a v ∷ es) c z h = pass_replay n es (number_set c p a v) z h
    pass_replay n (sends q m ∷ es) c z h = let j = z q in let k = pass_replay (one_more n q) es (with_mail c q m) (sized_put c n q m z) in grind arith

    replay_pass : (n : ℕ → ℕ) (es : List Event) (c x : Game) → Sized c n → replay S c es ≡ Some x → d.ended ≡ pass → (along S.limit g nothing d n es ≡ pass) × (x ≡ ran c es)
    replay_pass n [] c x z h e = (e, cc)
    replay_pass n (reads p a ∷ es) c x z h e = replay_pass n es c x z h e
    replay_pass n (writes p a v ∷ es) c x z h e = replay_pass n es (number_set c p a v) x z h e
    replay_pass n (sends q m ∷ es) c x z h e = let j = z q in let k = replay_pass (one_more n q) es (with_mail c q m) x (sized_put c n q m z) in grind arith

    -- the configuration in which the move has taken what it takes
    abbrev begun : Game
    begun = record { states = g.states; numbers = g.numbers; trays = cond d.takes (take_trays g.trays d.mover) g.trays }

    sized_begun : Sized begun (λ q. 0)
    sized_begun q = grind arith

    outcome_ran : outcome S.place g (d ∷ []) ≡ state_set (ran begun d.events) d.mover d.target
    outcome_ran = grind (arith, append-nil)

    judge_parts : judge S.limit g nothing d ≡ pass → (d.known ≡ pass) × (d.ready ≡ pass) × (along S.limit g nothing d (λ q. 0) d.events ≡ pass)
    judge_parts h = grind arith

    parts_judge : d.known ≡ pass → d.ready ≡ pass → along S.limit g nothing d (λ q. 0) d.events ≡ pass → judge S.limit g nothing d ≡ pass
    parts_judge k r a = grind arith

  -- a trace carried out to its end
  through_parts : {A : Type 0} (x : Option Game) (o : Result A Why) (c : Game) → then x (λ y. then (told o) (λ _. Some y)) ≡ Some c → (x ≡ Some c) × (ended_by o ≡ pass)
  through_parts x o c h = grind arith

  parts_through : {A : Type 0} (x : Option Game) (o : Result A Why) (c : Game) → x ≡ Some c → ended_by o ≡ pass → then x (λ y. then (told o) (λ _. Some y)) ≡ Some c
  parts_through x o c h k = grind arith

  -- a guard that holds, and then an effect that runs to its end
  guarded_parts : (o : Option ℤ) (r : Option Game) (c : Game) → then o (λ v. cond (holds v) r None) ≡ Some c → ((z : ℤ) × (o ≡ Some z) × (holds z ≡ true)) × (r ≡ Some c)
  guarded_parts o r c h = grind arith

  parts_guarded : (o : Option ℤ) (r : Option Game) (c : Game) (z : ℤ) → o ≡ Some z → holds z ≡ true → r ≡ Some c → then o (λ v. cond (holds v) r None) ≡ Some c
  parts_guarded o r c z e h k = rw (e, h, k)

  module _ (g : Game) (p : ℕ) where
    -- a deed whose trace, carried out on what it begins with, leads to x
    passes : (d : Deed) (x : Game) → d.known ≡ pass → d.ready ≡ pass → replay S (begun g d) d.events ≡ Some x → d.ended ≡ pass
        → (judge S.limit g nothing d ≡ pass) × (outcome S.place g (d ∷ []) ≡ state_set x d.mover d.target)
    passes d x k r h e =
        let (a, b) = replay_pass g d (λ q. 0) d.events (begun g d) x (sized_begun g d) h e in
        (parts_judge g d k r a, outcome_ran g d ∙ ap (λ y. state_set y d.mover d.target) (sym b))

    -- spontaneous transitions
    spontaneous_step : (n : ℕ) (t : Placed) (m : Option Message) → transition_of S.level p n ≡ Some t → t.transition.signal ≡ 0
        → judge S.limit g nothing (transit_by S.level g p t true m) ≡ pass
        → Step S g (record { piece = p; act = Transition n }) (outcome S.place g (transit_by S.level g p t true m ∷ []))
    spontaneous_step n t m e s h =
        let d = transit_by S.level g p t true m in
        let (k, r, a) = judge_parts g d h in
        let (x, y) = pass_replay g d (λ q. 0) d.events (begun g d) (sized_begun g d) a in
        let u = parts_through (replay S g d.events) (guarded S.level g p t no_writes).out (ran g d.events) x y in
        let (z, v) = guarded_parts (value S g p t.transition.guard) (execute_all S p t.transition.effect g) (ran g d.events) (sym (through_guarded S g p t no_writes g (λ q b. refl)) ∙ u) in
        subst (Step S g (record { piece = p; act = Transition n })) (sym (outcome_ran g d))
        (spontaneous e s (grind (arith, nat_tests)) z v)

    -- transitions triggered by a message
    triggered_step : (n : ℕ) (t : Placed) (l : List Message) → transition_of S.level p n ≡ Some t → (t.transition.signal ≡ 0 → ⊥) → g.trays p ≡ l
        → judge S.limit g nothing (transit_by S.level g p t false (front l)) ≡ pass
        → Step S g (record { piece = p; act = Transition n }) (outcome S.place g (transit_by S.level g p t false (front l) ∷ []))
    triggered_step n t [] e s i h = grind arith
    triggered_step n t (m ∷ l) e s i h =
        let d = transit_by S.level g p t false (Some m) in
        let (k, r, a) = judge_parts g d h in
        let (x, y) = pass_replay g d (λ q. 0) d.events (begun g d) (sized_begun g d) a in
        let end = ran (dequeued g p) d.events in
        let u = parts_through (replay S (dequeued g p) d.events) (transit S.level g p t false (Some m)).out end x y in
        let o = laid_over p (receipts t.transition.receives m) no_writes in
        let c = received g p t m in
        let lay = lay_filled g (dequeued g p) no_writes p t.transition.receives m (λ q b. refl) in
        let j = sym (through_receive S g p t.transition.receives m no_writes (dequeued g p) (guarded S.level g p t) ∙ through_guarded S g p t o c lay) ∙ u in
        let (z, v) = guarded_parts (value S c p t.transition.guard) (execute_all S p t.transition.effect c) end j in
        subst (Step S g (record { piece = p; act = Transition n })) (sym (outcome_ran g d))
        (triggered e s (grind (arith, nat_tests)) i (grind (arith, nat_tests)) z v)

    -- implicit consumption: each guard tried is false
    abbrev done : {A : Type 0} → Option A → Bool
    done None = false
    done (Some x) = true

    abbrev False : Option ℤ → Type 0
    False o = (z : ℤ) × (o ≡ Some z) × (holds z ≡ false)

    tried : (b : Bool) (o : Option ℤ) (rest : Option Own) → done (cond b (then o (λ v. cond (holds v) None rest)) rest) ≡ true → (done rest ≡ true) × (b ≡ true → False o)
    tried b o rest h = grind arith

    try : (b : Bool) (o : Option ℤ) (rest : Option Own) → done rest ≡ true → (b ≡ true → False o) → done (cond b (then o (λ v. cond (holds v) None rest)) rest) ≡ true
    try b o rest h k = grind arith

    module _ (k : ℕ) (m : Message) where
      abbrev wanted : Placed → Bool
      wanted t = wants S.level g p k (g.states p) m t

      told_trial : (t : Placed) (ts : List Placed) → told (unwanted S.level g p k (g.states p) m (t ∷ ts)).out
          ≡ cond (wanted t) (then (value S (received g p t m) p t.transition.guard) (λ v. cond (holds v) None (told (unwanted S.level g p k (g.states p) m ts).out))) (told (unwanted S.level g p k (g.states p) m ts).out)
      told_trial t ts =
          let o = laid_over p (receipts t.transition.receives m) no_writes in
          let e = told_evaluate S g p (received g p t m) o (lay_filled g (dequeued g p) no_writes p t.transition.receives m (λ q b. refl)) t.guard t.transition.guard in grind arith

      abbrev Refuses : Placed → Type 0
      Refuses t = t.kind ≡ k → t.transition.source ≡ g.states p → t.transition.signal ≡ m.signal → Fails S (received g p t m) p t.transition.guard

      all_false : (ts : List Placed) → done (told (unwanted S.level g p k (g.states p) m ts).out) ≡ true → (t : Placed) → Among t ts → Refuses t
      all_false [] h t i = elim i [ ]
      all_false (t ∷ ts) h u now = λ a b c.
          (tried (wanted t) (value S (received g p t m) p t.transition.guard) _ (subst (λ x. done x ≡ true) (told_trial t ts) h)).1
          (and_from _ _ (eq-eqb _ _ a) (and_from _ _ (eq-eqb _ _ b) (eq-eqb _ _ c)))
      all_false (t ∷ ts) h u (past i) = all_false ts (tried (wanted t) (value S (received g p t m) p t.transition.guard) _ (subst (λ x. done x ≡ true) (told_trial t ts) h)).0 u i

      false_all : (ts : List Placed) → ((t : Placed) → Among t ts → Refuses t) → done (told (unwanted S.level g p k (g.states p) m ts).out) ≡ true
      false_all [] f = refl
      false_all (t ∷ ts) f = subst (λ x. done x ≡ true) (sym (told_trial t ts))
          (try (wanted t) _ _ (false_all ts (λ u i. f u (past i)))
          (λ e. let (a, b) = and_parts (eqb t.kind k) _ e in let (c, d) = and_parts (eqb t.transition.source (g.states p)) _ b in
          f t now (eqb-true _ _ a) (eqb-true _ _ c) (eqb-true _ _ d)))

    same_state : (f : ℕ → ℕ) (q : ℕ) → cond (eqb p q) (f p) (f q) ≡ f q
    same_state f q = grind arith

    kept_state : state_set (dequeued g p) p (g.states p) ≡ dequeued g p
    kept_state = λ i. record { states = λ q. same_state g.states q i; numbers = g.numbers; trays = take_trays g.trays p }

    consumed_step : (x : Piece) (l : List Message) → nth S.level.pieces p ≡ Some x → g.trays p ≡ l
        → judge S.limit g nothing (discard_by S.level g p x.kind (front l)) ≡ pass
        → Step S g (record { piece = p; act = Discard }) (outcome S.place g (discard_by S.level g p x.kind (front l) ∷ []))
    consumed_step x [] e i h = grind arith
    consumed_step x (m ∷ l) e i h =
        let d = discard_by S.level g p x.kind (Some m) in
        let (k, r, a) = judge_parts g d h in
        let (y, z) = pass_replay g d (λ q. 0) d.events (begun g d) (sized_begun g d) a in
        let same : dequeued g p ≡ ran (dequeued g p) d.events = let w = replay_only S (dequeued g p) d.events (weight_unwanted 1 1 S.level g p x.kind (g.states p) m (placed S.level)) in cc in
        let f = all_false x.kind m (placed S.level) (grind arith) in
        subst (Step S g (record { piece = p; act = Discard })) (sym (outcome_ran g d ∙ ap (λ c. state_set c p (g.states p)) (sym same) ∙ kept_state))
        (consumed e i f)

  -- an accepted move is a step
  transit_step : (g : Game) (p n : ℕ) (o : Option Placed) → transition_of S.level p n ≡ o → judge S.limit g nothing (transit_deed S.level g p o) ≡ pass
      → Step S g (record { piece = p; act = Transition n }) (outcome S.place g (transit_deed S.level g p o ∷ []))
  transit_step g p n None e h = absurd (false≢true cc)
  transit_step g p n (Some t) e h = go (eqb t.transition.signal 0) refl h
    where
      go : (b : Bool) → eqb t.transition.signal 0 ≡ b → judge S.limit g nothing (transit_by S.level g p t b (front (g.trays p))) ≡ pass
          → Step S g (record { piece = p; act = Transition n }) (outcome S.place g (transit_by S.level g p t b (front (g.trays p)) ∷ []))
      go true s k = spontaneous_step g p n t (front (g.trays p)) e (eqb-true _ _ s) k
      go false s k = triggered_step g p n t (g.trays p) e (eqb-false _ _ s) refl k

  discard_step : (g : Game) (p : ℕ) (o : Option Piece) → nth S.level.pieces p ≡ o → judge S.limit g nothing (discard_deed S.level g p o) ≡ pass
      → Step S g (record { piece = p; act = Discard }) (outcome S.place g (discard_deed S.level g p o ∷ []))
  discard_step g p None e h = absurd (false≢true cc)
  discard_step g p (Some x) e h = consumed_step g p x (g.trays p) e refl h

  pub step_of : (g : Game) (p : ℕ) (a : Act) → judge S.limit g nothing (deed S.level g (record { piece = p; act = a })) ≡ pass
      → Step S g (record { piece = p; act = a }) (outcome S.place g (deed S.level g (record { piece = p; act = a }) ∷ []))
  step_of g p (Transition n) h = transit_step g p n (transition_of S.level p n) refl h
  step_of g p Discard h = discard_step g p (nth S.level.pieces p) refl h

  -- a step is an accepted move
  abbrev Done : Game → Deed → Game → Type 0
  Done g d h = (judge S.limit g nothing d ≡ pass) × (outcome S.place g (d ∷ []) ≡ h)

  pub of_step : {g h : Game} {m : Move} → Step S g m h → Done g (deed S.level g m) h
  of_step {g} (spontaneous {p = p} {n = n} {t = t} {c' = c} e s f (z, v, k) w) =
      let d = transit_by S.level g p t true (front (g.trays p)) in
      let u = through_guarded S g p t no_writes g (λ q b. refl) ∙ parts_guarded (value S g p t.transition.guard) (execute_all S p t.transition.effect g) c z v k w in
      let (x, y) = through_parts (replay S g d.events) (guarded S.level g p t no_writes).out c u in
      let j : transit_deed S.level g p (transition_of S.level p n) ≡ d =
      ap (transit_deed S.level g p) e ∙ ap (λ b. transit_by S.level g p t b (front (g.trays p))) (eq-eqb _ _ s) in
      subst (λ b. Done g b (state_set c p t.transition.target)) (sym j) (passes g p d c refl (grind (arith, nat_tests)) x y)
  of_step {g} (triggered {p = p} {n = n} {t = t} {m = m} {l = l} {c' = c} e s f i q (z, v, k) w) =
      let d = transit_by S.level g p t false (Some m) in
      let o = laid_over p (receipts t.transition.receives m) no_writes in
      let b = received g p t m in
      let lay = lay_filled g (dequeued g p) no_writes p t.transition.receives m (λ q b. refl) in
      let u = through_receive S g p t.transition.receives m no_writes (dequeued g p) (guarded S.level g p t) ∙ through_guarded S g p t o b lay
      ∙ parts_guarded (value S b p t.transition.guard) (execute_all S p t.transition.effect b) c z v k w in
      let (x, y) = through_parts (replay S (dequeued g p) d.events) (transit S.level g p t false (Some m)).out c u in
      let j : transit_deed S.level g p (transition_of S.level p n) ≡ d =
      ap (transit_deed S.level g p) e ∙ ap (λ b. transit_by S.level g p t b (front (g.trays p))) (ne_eqb _ _ s) ∙ ap (λ l. transit_by S.level g p t false (front l)) i in
      subst (λ b. Done g b (state_set c p t.transition.target)) (sym j) (passes g p d c refl (grind (arith, nat_tests)) x y)
  of_step {g} (consumed {p = p} {x = x} {m = m} {l = l} e i f) =
      let d = discard_by S.level g p x.kind (Some m) in
      let y = false_all g p x.kind m (placed S.level) f in
      let (a, b) = passes g p d (dequeued g p) refl refl (replay_only S (dequeued g p) d.events (weight_unwanted 1 1 S.level g p x.kind (g.states p) m (placed S.level))) (grind arith) in
      let j : discard_deed S.level g p (nth S.level.pieces p) ≡ d =
      ap (discard_deed S.level g p) e ∙ ap (λ l. discard_by S.level g p x.kind (front l)) i in
      subst (λ b. Done g b (dequeued g p)) (sym j) (a, b ∙ kept_state g p)

pub fire_is_a_step : FireIsAStep
fire_is_a_step = record {
  sound = λ S g t p n k h.
      let m = move_of p n in
      let (a, b) = cond_accepted S (full t) (beat S g (m ∷ [])) _ g k h in
      let (c, d) = struck_accepted S g (m ∷ []) (judge_all S.limit g S.level nothing 0 (m ∷ [])) k b in
      let (e, f) = turn_pass S.limit g (judge S.limit g nothing (deed S.level g m)) 0 m pass c in
      subst (λ x. Step S g m x.game) (sym (cond-true (full t) _ _ a ∙ ap (struck S g (m ∷ [])) c)) (step_of S g p m.act e);
  complete = λ S g h t p n a s.
      let m = move_of p n in
      let (e, f) = of_step S s in
      let c = pass_turn S.limit g (judge S.limit g nothing (deed S.level g m)) 0 m pass e refl in
      let x : call S g (fire t p n) ≡ struck S g (m ∷ []) pass = cond-true (full t) _ _ a ∙ ap (struck S g (m ∷ [])) c in
      (ap (λ y. y.answer) x, ap (λ y. y.game) x ∙ f);
}
