-- Traces met one after the other, and traces that only read.
use Rattle.std.proofs.Common.{◌≡◌, ℕ, ◌≤◌, Bool, true, false, cond, List, [], ◌∷◌, ◌++◌, take, ℤ, is_some, Ok, Err, Result, sym, refl, ap, ◌∙◌, arith}
use Rattle.level.specs.Syntax.{Expr, Level}
use Rattle.rules.specs.declared.fault.Why.{Why}
use Rattle.rules.specs.declared.fault.Why.TheVariants.{Clash}
use Rattle.rules.specs.Game.{Game}
use Rattle.rules.specs.Trace.{Own, Event, reads, writes, sends, Trace, onward, bind, evaluate, evaluate_all}
use Rattle.rules.proofs.Trails.{weight, weight_evaluate, weight_evaluate_all}
use Rattle.evaluator.specs.Lookup.{last_change}
use Rattle.evaluator.specs.Meeting.{Around, meet, meet_all, met}
use Rattle.evaluator.specs.Reckoning.{follow, clear_of, valued}
use Rattle.evaluator.specs.Trails.{Lists}
use Rattle.evaluator.proofs.Following.{follow_follow, follow_same}

module _ (A : Around) where
  meet_append : (t : Lists) (xs ys : List Event) → meet_all A t (xs ++ ys) ≡ follow (meet_all A t xs) (λ u. meet_all A u ys)
  meet_append t [] ys = refl
  meet_append t (e ∷ xs) ys = follow_same (meet A t e) _ _ (λ u. meet_append u xs ys) ∙ sym (follow_follow (meet A t e) (λ u. meet_all A u xs) (λ u. meet_all A u ys))

  module _ {X Y : Type 0} (t : Lists) (k : X → Trace Y) where
    abbrev next : X × Lists → Result (Y × Lists) Why
    next x = met A x.1 (k x.0)

    met_onward : (es : List Event) (o : Result X Why) → met A t (onward es o k) ≡ follow (met A t (record { events = es; out = o })) next
    met_onward es (Ok x) =
        ap (λ r. follow r (λ u. follow (k x).out (λ y. Ok (y, u)))) (meet_append t es (k x).events)
        ∙ follow_follow (meet_all A t es) (λ u. meet_all A u (k x).events) (λ u. follow (k x).out (λ y. Ok (y, u)))
        ∙ sym (follow_follow (meet_all A t es) (λ u. Ok (x, u)) next)
    met_onward es (Err w) = sym (follow_follow (meet_all A t es) (λ u. Err w) next)

    -- one trace after the other
    pub met_bind : (tr : Trace X) → met A t (bind tr k) ≡ follow (met A t tr) (λ x. met A x.1 (k x.0))
    met_bind tr = met_onward tr.events tr.out

  module _ {X : Type 0} (t : Lists) where
    met_reads : (es : List Event) (o : Result X Why) → weight 1 1 es ≤ 0
        → met A t (record { events = es; out = o }) ≡ follow (clear_of (take A.written t.changes) es o) (λ v. Ok (v, t))
    met_reads [] o h = refl
    met_reads (reads p a ∷ es) o h = go (is_some (last_change (take A.written t.changes) p a)) (met_reads es o h)
      where
        go : (b : Bool) → met A t (record { events = es; out = o }) ≡ follow (clear_of (take A.written t.changes) es o) (λ v. Ok (v, t))
            → ◌≡◌ {A = Result (X × Lists) Why} (follow (follow (cond b (Err Clash) (Ok t)) (λ u. meet_all A u es)) (λ u. follow o (λ x. Ok (x, u))))
            (follow (cond b (Err Clash) (clear_of (take A.written t.changes) es o)) (λ v. Ok (v, t)))
        go true e = refl
        go false e = e
    met_reads (writes p a v ∷ es) o h = absurd (omega arith)
    met_reads (sends q m ∷ es) o h = absurd (omega arith)

    -- a trace that only reads leaves the lists
    pub reading_met : (tr : Trace X) → weight 1 1 tr.events ≤ 0 → met A t tr ≡ follow (valued (take A.written t.changes) tr) (λ v. Ok (v, t))
    reading_met tr h = met_reads tr.events tr.out h

    pub reading_then : {Y : Type 0} (tr : Trace X) (k : X → Trace Y) → weight 1 1 tr.events ≤ 0
        → met A t (bind tr k) ≡ follow (valued (take A.written t.changes) tr) (λ v. met A t (k v))
    reading_then tr k h =
        met_bind t k tr ∙ ap (λ (r : Result (X × Lists) Why). follow r (λ x. met A x.1 (k x.0))) (reading_met tr h)
        ∙ follow_follow (valued (take A.written t.changes) tr) (λ v. Ok (v, t)) (λ (x : X × Lists). met A x.1 (k x.0))

  module _ (t : Lists) (L : Level) (g : Game) (p : ℕ) (o : Own) (i : ℕ) where
    pub value_met : {Y : Type 0} (e : Expr) (k : ℤ → Trace Y)
        → met A t (bind (evaluate L g p o i e) k) ≡ follow (valued (take A.written t.changes) (evaluate L g p o i e)) (λ v. met A t (k v))
    value_met e k = reading_then t (evaluate L g p o i e) k (weight_evaluate 1 1 L g p o i e)

    pub values_met : {Y : Type 0} (es : List Expr) (k : List ℤ → Trace Y)
        → met A t (bind (evaluate_all L g p o i es) k) ≡ follow (valued (take A.written t.changes) (evaluate_all L g p o i es)) (λ vs. met A t (k vs))
    values_met es k = reading_then t (evaluate_all L g p o i es) k (weight_evaluate_all 1 1 L g p o i es)
