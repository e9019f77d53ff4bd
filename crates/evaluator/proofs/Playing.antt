-- Statements and transitions on the trails are their traces, met.
use Rattle.std.proofs.Common.{◌≡◌, ℕ, suc, ◌+◌, ◌≤◌, Bool, true, false, cond, eqb, ltb, List, [], ◌∷◌, ◌++◌, length, take, drop, ℤ, is_some, Some, None, Ok, Err, Option, Result, sym, refl, ap, ◌∙◌, arith, length-append}
use Rattle.std.proofs.lemmas.List.{drop_all, drop-append-le}
use Rattle.std.proofs.lemmas.Bool.{lt-ltb}
use Rattle.mail.specs.declared.message.Message.{Message}
use Rattle.level.specs.Places.{Placed, effect_place}
use Rattle.level.specs.Spelling.{size, statement}
use Rattle.level.specs.Syntax.{Expr, Stmt, assign, store, send}
use Rattle.rules.specs.declared.fault.Cause.TheVariants.{Missing}
use Rattle.rules.specs.declared.fault.Why.{Why}
use Rattle.rules.specs.declared.fault.Why.TheVariants.{Clash, Guard, TrayFull}
use Rattle.rules.specs.declared.trail.Change.{Change}
use Rattle.rules.specs.declared.trail.Parcel.{Parcel}
use Rattle.rules.specs.Arithmetic.{holds}
use Rattle.rules.specs.Game.{message}
use Rattle.rules.specs.Names.{piece_named, cell_named}
use Rattle.rules.specs.Trace.{Own, writes, Trace, halt, bind, needing, no_writes, over, write, post, receipts, receive, evaluate, evaluate_all, run, run_all, guarded}
use Rattle.evaluator.specs.Lookup.{last_change, parcels_to}
use Rattle.evaluator.specs.Meeting.{Around, meet, met, own_in, steps, receiving, guarding, transiting}
use Rattle.evaluator.specs.Reckoning.{follow, valued}
use Rattle.evaluator.specs.Trails.{Lists}
use Rattle.evaluator.proofs.Following.{follow_follow, follow_same}
use Rattle.evaluator.proofs.Looking.{laid_snoc}
use Rattle.evaluator.proofs.Meeting.{met_bind, value_met, values_met}

-- the mark lies in the list, and there are places for n changes and m parcels more
record Room (A : Around) (t : Lists) (n m : ℕ) : Type 0 where
  marked : A.written ≤ length t.changes
  changes : length t.changes + n ≤ A.places.changes
  parcels : length t.parcels + m ≤ A.places.parcels

abbrev pub change_of : ℕ → ℕ → ℤ → Change
change_of q a v = record { piece = q; number = a; value = v }

abbrev pub parcel_of : ℕ → Message → Parcel
parcel_of q m = record { piece = q; message = m }

-- the lists that are left
abbrev pub ends : {X : Type 0} → Result (X × Lists) Why → Result Lists Why
ends r = follow r (λ x. Ok x.1)

module _ (A : Around) where
  -- the own writes are those in the lists
  abbrev Grows : ℕ → ℕ → Result (Own × Lists) Why → Type 0
  Grows n m (Ok x) = (x.0 ≡ own_in A x.1) × Room A x.1 n m
  Grows n m (Err w) = Unit {0}

  grows_follow : {X : Type 0} (n m : ℕ) (r : Result X Why) (k : X → Result (Own × Lists) Why) → ((x : X) → Grows n m (k x)) → Grows n m (follow r k)
  grows_follow n m (Ok x) k f = f x
  grows_follow n m (Err w) k f = tt

  grows_value : (t : Lists) (n m : ℕ) (o : Own) (i : ℕ) (e : Expr) (k : ℤ → Trace Own) → ((v : ℤ) → Grows n m (met A t (k v))) → Grows n m (met A t (bind (evaluate A.level A.board A.mover o i e) k))
  grows_value t n m o i e k f = rw (value_met A t A.level A.board A.mover o i e k) (grows_follow n m _ _ f)

  grows_values : (t : Lists) (n m : ℕ) (o : Own) (i : ℕ) (es : List Expr) (k : List ℤ → Trace Own) → ((vs : List ℤ) → Grows n m (met A t (k vs)))
      → Grows n m (met A t (bind (evaluate_all A.level A.board A.mover o i es) k))
  grows_values t n m o i es k f = rw (values_met A t A.level A.board A.mover o i es k) (grows_follow n m _ _ f)

  grows_needing : {X : Type 0} (t : Lists) (n m i : ℕ) (o : Option X) (k : X → Trace Own) → ((x : X) → Grows n m (met A t (k x))) → Grows n m (met A t (needing Missing i o k))
  grows_needing t n m i None k f = tt
  grows_needing t n m i (Some x) k f = f x

  own_more : (t : Lists) (c : Change) → A.written ≤ length t.changes → over (own_in A t) c.piece c.number c.value ≡ last_change (drop A.written (t.changes ++ (c ∷ [])))
  own_more t c h = sym (ap last_change (drop-append-le A.written t.changes (c ∷ []) h) ∙ laid_snoc (drop A.written t.changes) c no_writes)

  grows_write : (t : Lists) (n m q a : ℕ) (v : ℤ) → Room A t (suc n) m → Grows n m (met A t (write (own_in A t) q a v))
  grows_write t n m q a v h = rw (lt-ltb (length t.changes) A.places.changes (omega arith)) (go (is_some (last_change (take A.written t.changes) q a)))
    where
      go : (b : Bool) → Grows n m (follow (follow (follow (cond b (Err Clash) (Ok (t.changes ++ (change_of q a v ∷ [])))) (λ cs. Ok (record { changes = cs; parcels = t.parcels }))) (λ u. Ok u)) (λ u. Ok (over (own_in A t) q a v, u)))
      go true = tt
      go false = (own_more t (change_of q a v) h.marked, record { marked = simp length-append (omega arith); changes = simp length-append (omega arith); parcels = h.parcels })

  grows_post : (t : Lists) (n m q : ℕ) (x : Message) → Room A t n (suc m) → Grows n m (met A t (post (own_in A t) q x))
  grows_post t n m q x h = rw (lt-ltb (length t.parcels) A.places.parcels (omega arith))
      (go (ltb 0 (parcels_to (take A.sent t.parcels) q)) (eqb (A.left q + parcels_to (drop A.sent t.parcels) q) A.limit))
    where
      go : (b d : Bool) → Grows n m (follow (follow (follow (cond b (Err Clash) (cond d (Err TrayFull) (Ok (t.parcels ++ (parcel_of q x ∷ []))))) (λ ps. Ok (record { changes = t.changes; parcels = ps }))) (λ u. Ok u)) (λ u. Ok (own_in A t, u)))
      go true d = tt
      go false true = tt
      go false false = (refl, record { marked = h.marked; changes = h.changes; parcels = simp length-append (omega arith) })

  grows_run : (t : Lists) (n m i : ℕ) (c : Stmt) → Room A t (suc n) (suc m) → Grows n m (met A t (run A.level A.board A.mover i c (own_in A t)))
  grows_run t n m i (assign a e) h = grows_value t n m (own_in A t) (i + 2) e _ (λ v. grows_write t n m A.mover a v (record { marked = h.marked; changes = h.changes; parcels = omega arith }))
  grows_run t n m i (store a e f) h =
      grows_value t n m (own_in A t) (i + 2) e _ (λ v. grows_value t n m (own_in A t) (i + 2 + size e) f _ (λ w. grows_needing t n m i (cell_named A.level v a) _
      (λ q. grows_write t n m q a w (record { marked = h.marked; changes = h.changes; parcels = omega arith }))))
  grows_run t n m i (send s e es) h =
      grows_value t n m (own_in A t) (i + 2) e _ (λ v. grows_values t n m (own_in A t) (i + 2 + size e) es _ (λ vs. grows_needing t n m i (piece_named A.level v) _
      (λ q. grows_post t n m q (message s vs) (record { marked = h.marked; changes = omega arith; parcels = h.parcels }))))

  -- a trace, and what goes on from its own writes
  step_then : (t : Lists) (n m : ℕ) (tr : Trace Own) (k : Own → Trace Own) (j : Lists → Result Lists Why) → Grows n m (met A t tr)
      → ((u : Lists) → Room A u n m → j u ≡ ends (met A u (k (own_in A u)))) → follow (ends (met A t tr)) j ≡ ends (met A t (bind tr k))
  step_then t n m tr k j h f = go (met A t tr) h ∙ ap ends (sym (met_bind A t k tr))
    where
      go : (r : Result (Own × Lists) Why) → Grows n m r → follow (ends r) j ≡ ends (follow r (λ (x : Own × Lists). met A x.1 (k x.0)))
      go (Ok x) h = f x.1 h.1 ∙ ap (λ o. ends (met A x.1 (k o))) (sym h.0)
      go (Err w) h = refl

  steps_roomy : (t : Lists) (i : ℕ) (cs : List Stmt) → Room A t (length cs) (length cs) → steps A t i cs ≡ ends (met A t (run_all A.level A.board A.mover i cs (own_in A t)))
  steps_roomy t i [] h = refl
  steps_roomy t i (c ∷ cs) h = step_then t (length cs) (length cs) (run A.level A.board A.mover i c (own_in A t)) (run_all A.level A.board A.mover (i + length (statement c)) cs) (λ u. steps A u (i + length (statement c)) cs)
      (grows_run t (length cs) (length cs) i c h) (λ u k. steps_roomy u (i + length (statement c)) cs k)

  guarding_met : (t : Lists) (x : Placed) → Room A t (length x.transition.effect) (length x.transition.effect) → guarding A t x ≡ ends (met A t (guarded A.level A.board A.mover x (own_in A t)))
  guarding_met t x h =
      follow_same V _ _ (λ v. go (holds v))
      ∙ sym (follow_follow V _ (λ (y : Own × Lists). Ok y.1))
      ∙ ap ends (sym (value_met A t A.level A.board A.mover (own_in A t) x.guard x.transition.guard _))
    where
      V : Result ℤ Why
      V = valued (take A.written t.changes) (evaluate A.level A.board A.mover (own_in A t) x.guard x.transition.guard)

      go : (b : Bool) → cond b (steps A t (effect_place x) x.transition.effect) (Err Guard) ≡ ends (met A t (cond b (run_all A.level A.board A.mover (effect_place x) x.transition.effect (own_in A t)) (halt Guard)))
      go true = steps_roomy t (effect_place x) x.transition.effect h
      go false = refl

  -- a number received, and what goes on from it
  write_then : (t : Lists) (n m q a : ℕ) (v : ℤ) (k : Own → Trace Own) (j : Lists → Result Lists Why) → Room A t (suc n) m
      → ((u : Lists) → Room A u n m → j u ≡ ends (met A u (k (own_in A u)))) → follow (meet A t (writes q a v)) j ≡ ends (met A t (bind (write (own_in A t) q a v) k))
  write_then t n m q a v k j h f = ap (λ r. follow r j) (go (meet A t (writes q a v))) ∙ step_then t n m (write (own_in A t) q a v) k j (grows_write t n m q a v h) f
    where
      go : (r : Result Lists Why) → r ≡ ends {X = Own} (follow (follow r (λ u. Ok u)) (λ u. Ok (over (own_in A t) q a v, u)))
      go (Ok u) = refl
      go (Err w) = refl

  module _ (x : Placed) (few : length x.transition.effect ≤ 8) where
    guarding_roomy : (t : Lists) (n : ℕ) → Room A t (n + 8) 8 → guarding A t x ≡ ends (met A t (guarded A.level A.board A.mover x (own_in A t)))
    guarding_roomy t n h = guarding_met t x (record { marked = h.marked; changes = omega arith; parcels = omega arith })

    receiving_met : (t : Lists) (l : List ℕ) (m : Message) → Room A t 10 8
        → follow (receiving A t (receipts l m)) (λ u. guarding A u x) ≡ ends (met A t (bind (receive A.mover (receipts l m) (own_in A t)) (guarded A.level A.board A.mover x)))
    receiving_met t [] m h = guarding_roomy t 2 h
    receiving_met t (a ∷ []) m h =
        follow_follow (meet A t (writes A.mover a m.first)) _ _
        ∙ write_then t 9 8 A.mover a m.first (guarded A.level A.board A.mover x) (λ u. guarding A u x) h (λ u k. guarding_roomy u 1 k)
    receiving_met t (a ∷ b ∷ l) m h =
        follow_follow (meet A t (writes A.mover a m.first)) _ _
        ∙ write_then t 9 8 A.mover a m.first (λ o. bind (write o A.mover b m.second) (guarded A.level A.board A.mover x)) _ h (λ u k.
        follow_follow (meet A u (writes A.mover b m.second)) _ _
        ∙ write_then u 8 8 A.mover b m.second (guarded A.level A.board A.mover x) (λ z. guarding A z x) k (λ z j. guarding_roomy z 0 j))

    module _ (t : Lists) (mark : A.written ≡ length t.changes) (roomy : length t.changes + 10 ≤ A.places.changes) (spacious : length t.parcels + 8 ≤ A.places.parcels) where
      abbrev space : Room A t 10 8
      space = record { marked = omega arith; changes = roomy; parcels = spacious }

      none_own : own_in A t ≡ no_writes
      none_own = ap last_change (drop_all A.written t.changes (omega arith))

      pub transiting_met : transiting A t x None ≡ follow (met A t (guarded A.level A.board A.mover x no_writes)) (λ y. Ok y.1)
      transiting_met = guarding_roomy t 2 space ∙ ap (λ o. ends (met A t (guarded A.level A.board A.mover x o))) none_own

      pub taking_met : (m : Message) → transiting A t x (Some m)
          ≡ follow (met A t (bind (receive A.mover (receipts x.transition.receives m) no_writes) (guarded A.level A.board A.mover x))) (λ y. Ok y.1)
      taking_met m = receiving_met t x.transition.receives m space
          ∙ ap (λ o. ends (met A t (bind (receive A.mover (receipts x.transition.receives m) o) (guarded A.level A.board A.mover x)))) none_own
