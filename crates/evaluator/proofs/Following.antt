-- Traces one after the other, for one who sees the changes of earlier moves.
use Rattle.std.proofs.Common.{◌≡◌, Bool, true, false, cond, List, [], ◌∷◌, ◌++◌, is_some, Ok, Err, Result, IsErrAnd, sym, refl, ap, ◌∙◌}
use Rattle.rules.specs.declared.fault.Why.{Why}
use Rattle.rules.specs.declared.fault.Why.TheVariants.{Clash}
use Rattle.rules.specs.declared.trail.Change.{Change}
use Rattle.rules.specs.Trace.{Event, reads, writes, sends, Trace, onward, bind}
use Rattle.evaluator.specs.Lookup.{last_change}
use Rattle.evaluator.specs.Reckoning.{follow, clear_of, valued}

pub follow_follow : {A B C F : Type 0} (r : Result A F) (j : A → Result B F) (k : B → Result C F) → follow (follow r j) k ≡ follow r (λ x. follow (j x) k)
follow_follow (Ok x) j k = refl
follow_follow (Err f) j k = refl

pub follow_same : {A B F : Type 0} (r : Result A F) (j k : A → Result B F) → ((x : A) → j x ≡ k x) → follow r j ≡ follow r k
follow_same (Ok x) j k h = h x
follow_same (Err f) j k h = refl

-- the answer of a `?` that passes a refusal on
pub passed_on : {A F : Type 0} (r : Result A F) (f : F) → IsErrAnd r (λ g. g ≡ f) → r ≡ Err f
passed_on (Ok x) f h = absurd h
passed_on (Err g) f h = ap Err h

module _ {A B : Type 0} (E : List Change) (k : A → Trace B) where
  clear_onward : (es : List Event) (o : Result A Why) → clear_of E (onward es o k).events (onward es o k).out ≡ follow (clear_of E es o) (λ x. valued E (k x))
  clear_onward [] (Ok x) = refl
  clear_onward [] (Err w) = refl
  clear_onward (reads p a ∷ es) (Ok x) = go (is_some (last_change E p a)) (clear_onward es (Ok x))
    where
      go : (b : Bool) → clear_of E (es ++ (k x).events) (k x).out ≡ follow (clear_of E es (Ok x)) (λ y. valued E (k y))
          → cond b (Err Clash) (clear_of E (es ++ (k x).events) (k x).out) ≡ follow (cond b (Err Clash) (clear_of E es (Ok x))) (λ y. valued E (k y))
      go true h = refl
      go false h = h
  clear_onward (reads p a ∷ es) (Err w) = go (is_some (last_change E p a)) (clear_onward es (Err w))
    where
      go : (b : Bool) → clear_of E es (Err w) ≡ follow (clear_of E es (Err w)) (λ y. valued E (k y))
          → cond b (Err Clash) (clear_of E es (Err w)) ≡ follow (cond b (Err Clash) (clear_of E es (Err w))) (λ y. valued E (k y))
      go true h = refl
      go false h = h
  clear_onward (writes p a v ∷ es) (Ok x) = clear_onward es (Ok x)
  clear_onward (writes p a v ∷ es) (Err w) = clear_onward es (Err w)
  clear_onward (sends q m ∷ es) (Ok x) = clear_onward es (Ok x)
  clear_onward (sends q m ∷ es) (Err w) = clear_onward es (Err w)

  pub valued_bind : (t : Trace A) → valued E (bind t k) ≡ follow (valued E t) (λ x. valued E (k x))
  valued_bind t = clear_onward t.events t.out

-- what comes of a first result and what follows it, where the first is a refusal, and where it is not
module _ {A B F : Type 0} (x : Result B F) (r : Result A F) (k : A → Result B F) (is : x ≡ follow r k) where
  pub halted : (f : F) → Err f ≡ r → Err f ≡ x
  halted f e = sym (is ∙ ap (λ s. follow s k) (sym e))

  pub gone : (a : A) → Ok a ≡ r → x ≡ k a
  gone a e = is ∙ ap (λ s. follow s k) (sym e)
