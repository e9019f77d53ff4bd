-- A message, by how many numbers its signal has.
use Rattle.std.proofs.Common.{◌≡◌, ℕ, zero, suc, ◌+◌, ◌≤◌, true, List, [], ◌∷◌, ◌++◌, length, get_or, drop, ℤ, Ok, Err, Result, sym, refl, ap, ◌∙◌, subst, arith, length-append}
use Rattle.std.specs.Option.{unwrap_or}
use Rattle.mail.specs.declared.message.Message.{Message}
use Rattle.level.specs.declared.store.Level.{Level}
use Rattle.level.specs.Law.{Bytes}
use Rattle.level.specs.Levels.{meaning, signal_parameters}
use Rattle.level.specs.Reading.{Read, got, bad, then, read_expr, read_exprs}
use Rattle.level.specs.Sound.{Each, deepest, parameters}
use Rattle.level.specs.Spelling.{expression, size, all}
use Rattle.level.specs.Syntax.{Expr}
use Rattle.level.specs.Tables.{nth}
use Rattle.level.proofs.Held.{held_sound}
use Rattle.level.proofs.Legible.{bytes_from}
use Rattle.rules.specs.declared.fault.Why.{Why}
use Rattle.rules.specs.Game.{message}
use Rattle.rules.specs.Trace.{give, bind}
use Rattle.evaluator.specs.declared.trail.Trails.{Trails}
use Rattle.evaluator.specs.declared.turn.Turn.{Turn}
use Rattle.evaluator.specs.Meeting.{message_at, sight_of}
use Rattle.evaluator.specs.Reckoning.{Sight, follow, valued, legible, value_at}
use Rattle.evaluator.specs.Standing.{expressions_at}
use Rattle.evaluator.specs.Trails.{held}
use Rattle.evaluator.proofs.Following.{follow_follow, follow_same, valued_bind, halted, gone}
use Rattle.evaluator.proofs.Reckoned.{V, inner, after, ends}

-- how many numbers a signal has
counted : (ss : List ℕ) (s : ℕ) → unwrap_or (nth ss s) 0 ≡ get_or ss s 0
counted [] s = refl
counted (x ∷ ss) zero = refl
counted (x ∷ ss) (suc s) = counted ss s

pub parameters_are : (ss : List ℕ) (s : ℕ) → unwrap_or (signal_parameters ss s) 0 ≡ parameters ss s
parameters_are ss zero = refl
parameters_are ss (suc s) = counted ss s

few : (ss : List ℕ) (s : ℕ) → Each (λ n. n ≤ 2) ss → get_or ss s 0 ≤ 2
few [] s h = omega arith
few (x ∷ ss) zero h = h.0
few (x ∷ ss) (suc s) h = few ss s h.1

few_of : (ss : List ℕ) (s : ℕ) → Each (λ n. n ≤ 2) ss → parameters ss s ≤ 2
few_of ss zero h = omega arith
few_of ss (suc s) h = few ss s h

-- no signal has more than two
pub two_at_most : (l : Level) (s : ℕ) → parameters (meaning l).signals s ≤ 2
two_at_most l s = few_of (meaning l).signals s (held_sound l).signals

module _ (s : Sight) (bytes : (i : ℕ) → Bytes (drop i s.code)) (n i : ℕ) where
  abbrev R : ℕ → Read Expr
  R k = read_expr deepest 8 (drop k s.code)

  abbrev Rs : ℕ → Read (List Expr)
  Rs k = read_exprs k 8 (drop i s.code)

  abbrev one : ℤ × ℕ → Result (Message × ℕ) Why
  one x = Ok (message n (x.0 ∷ []), x.1)

  abbrev two : ℤ × ℕ → Result (Message × ℕ) Why
  two x = follow (value_at s x.1 (R x.1)) (λ y. Ok (message n (x.0 ∷ y.0 ∷ []), y.1))

  pub message_none : Ok (message n [], i) ≡ message_at s n i (Rs 0)
  message_none = let z : i ≡ i + 0 = omega arith in ap (λ k. Ok (message n [], k)) z

  -- one number
  legible_one : (r : Read Expr) → legible (then r (λ e l. got (e ∷ []) l)) ≡ true → legible r ≡ true
  legible_one (got e l) h = refl
  legible_one (bad f) h = h

  told_one : (r : Read Expr) → legible (then r (λ e l. got (e ∷ []) l)) ≡ true → message_at s n i (then r (λ e l. got (e ∷ []) l)) ≡ follow (value_at s i r) one
  told_one (got e l) h =
      let z : i + length (all expression (e ∷ [])) ≡ i + size e = let k = length-append (expression e) [] in omega arith in
      inner s bytes i e (λ v. bind (give []) (λ vs. give (v ∷ vs))) (λ vs. Ok (message n vs, i + length (all expression (e ∷ []))))
      ∙ ap (λ k. follow (valued s.earlier (V s bytes i e)) (λ v. Ok (message n (v ∷ []), k))) z
      ∙ sym (follow_follow (valued s.earlier (V s bytes i e)) (λ v. Ok (v, i + size e)) one)
  told_one (bad f) h = absurd (let y : ◌≡◌ {A = ℕ} 0 1 = cc in omega arith)

  module _ (h : legible (Rs 1) ≡ true) where
    pub one_legible : legible (R i) ≡ true
    one_legible = legible_one (R i) h

    pub message_one : message_at s n i (Rs 1) ≡ follow (value_at s i (R i)) one
    message_one = told_one (R i) h

  -- two numbers
  abbrev pair : Read Expr → Read (List Expr)
  pair r = then r (λ e l. then (then (read_expr deepest 8 l) (λ f m. got (f ∷ []) m)) (λ es m. got (e ∷ es) m))

  legible_first : (r : Read Expr) → legible (pair r) ≡ true → legible r ≡ true
  legible_first (got e l) h = refl
  legible_first (bad f) h = h

  legible_last : (e : Expr) (r : Read Expr) → legible (then (then r (λ f m. got (f ∷ []) m)) (λ es m. got (e ∷ es) m)) ≡ true → legible r ≡ true
  legible_last e (got f m) h = refl
  legible_last e (bad f) h = h

  legible_second : (r : Read Expr) → R i ≡ r → legible (pair r) ≡ true → (v : ℤ) (m : ℕ) → Ok (v, m) ≡ value_at s i r → legible (R m) ≡ true
  legible_second (got e l) q h v m k =
      let z = ends s bytes (valued s.earlier (V s bytes i e)) (i + size e) v m k in
      let r = after s bytes deepest i e l q in
      legible_last e (R m) (rw (z, ← r) h)
  legible_second (bad f) q h v m k = absurd (let y : ◌≡◌ {A = ℕ} 0 1 = cc in omega arith)

  told_last : (e : Expr) (r : Read Expr) → R (i + size e) ≡ r → legible (then (then r (λ f m. got (f ∷ []) m)) (λ es m. got (e ∷ es) m)) ≡ true
      → message_at s n i (then (then r (λ f m. got (f ∷ []) m)) (λ es m. got (e ∷ es) m)) ≡ follow (valued s.earlier (V s bytes i e)) (λ v. two (v, i + size e))
  told_last e (got f m) q h =
      let j : ℕ = i + size e in
      let n' : ℕ = i + length (all expression (e ∷ f ∷ [])) in
      let z : n' ≡ j + size f = let a = length-append (expression e) (expression f ++ []) in let b = length-append (expression f) [] in omega arith in
      inner s bytes i e (λ v. bind (bind (V s bytes j f) (λ w. bind (give []) (λ vs. give (w ∷ vs)))) (λ vs. give (v ∷ vs))) (λ vs. Ok (message n vs, n'))
      ∙ follow_same (valued s.earlier (V s bytes i e)) _ _ (λ v.
      ap (λ r. follow r (λ vs. Ok (message n vs, n'))) (valued_bind s.earlier (λ vs. give (v ∷ vs)) (bind (V s bytes j f) (λ w. bind (give []) (λ vs. give (w ∷ vs)))))
      ∙ follow_follow (valued s.earlier (bind (V s bytes j f) (λ w. bind (give []) (λ vs. give (w ∷ vs))))) _ _
      ∙ inner s bytes j f (λ w. bind (give []) (λ vs. give (w ∷ vs))) (λ vs. Ok (message n (v ∷ vs), n'))
      ∙ ap (λ k. follow (valued s.earlier (V s bytes j f)) (λ w. Ok (message n (v ∷ w ∷ []), k))) z
      ∙ sym (follow_follow (valued s.earlier (V s bytes j f)) (λ w. Ok (w, j + size f)) (λ y. Ok (message n (v ∷ y.0 ∷ []), y.1)))
      ∙ ap (λ R. follow (value_at s j R) (λ y. Ok (message n (v ∷ y.0 ∷ []), y.1))) (sym q))
  told_last e (bad f) q h = absurd (let y : ◌≡◌ {A = ℕ} 0 1 = cc in omega arith)

  told_two : (r : Read Expr) → R i ≡ r → legible (pair r) ≡ true → message_at s n i (pair r) ≡ follow (value_at s i r) two
  told_two (got e l) q h =
      let r = after s bytes deepest i e l q in
      told_last e (read_expr deepest 8 l) (ap (read_expr deepest 8) (sym r)) h
      ∙ sym (follow_follow (valued s.earlier (V s bytes i e)) (λ v. Ok (v, i + size e)) two)
  told_two (bad f) q h = absurd (let y : ◌≡◌ {A = ℕ} 0 1 = cc in omega arith)

  module _ (h : legible (Rs 2) ≡ true) where
    pub first_legible : legible (R i) ≡ true
    first_legible = legible_first (R i) h

    pub second_legible : (v : ℤ) (m : ℕ) → Ok (v, m) ≡ value_at s i (R i) → legible (R m) ≡ true
    second_legible v m k = legible_second (R i) refl h v m k

    pub message_two : message_at s n i (Rs 2) ≡ follow (value_at s i (R i)) two
    message_two = told_two (R i) refl h

-- the same as the code comes by it: k is how many numbers it finds that the signal has
module _ {M : Type 0} (u : Turn M) (lent : Trails) (n i : ℕ) (h : legible (expressions_at u.level.now n i) ≡ true) {k : ℕ} (count : k ≡ parameters (meaning u.level.now).signals n) where
  abbrev s : Sight
  s = sight_of u (held lent.changes)

  abbrev bytes : (j : ℕ) → Bytes (drop j s.code)
  bytes = bytes_from u.level.now

  abbrev told : Result (Message × ℕ) Why
  told = message_at s n i (expressions_at u.level.now n i)

  abbrev first : Result (ℤ × ℕ) Why
  first = value_at s i (R s bytes n i i)

  pub none_told : k ≡ 0 → Ok (message n [], i) ≡ told
  none_told e = message_none s bytes n i ∙ ap (λ j. message_at s n i (read_exprs j 8 (drop i s.code))) (sym e ∙ count)

  module _ (j : ℕ) (e : k ≡ j) where
    count_is : parameters (meaning u.level.now).signals n ≡ j
    count_is = sym count ∙ e

    legible_at : legible (Rs s bytes n i j) ≡ true
    legible_at = subst (λ l. legible (read_exprs l 8 (drop i s.code)) ≡ true) count_is h

    told_at : told ≡ message_at s n i (Rs s bytes n i j)
    told_at = ap (λ l. message_at s n i (read_exprs l 8 (drop i s.code))) count_is

  module _ (e : k ≡ 1) where
    is : told ≡ follow first (one s bytes n i)
    is = told_at 1 e ∙ message_one s bytes n i (legible_at 1 e)

    pub one_halts : {w : Why} → Err w ≡ first → Err w ≡ told
    one_halts f = halted _ _ _ is _ f

    pub one_told : {v : ℤ} {m : ℕ} → Ok (v, m) ≡ first → Ok (message n (v ∷ []), m) ≡ told
    one_told f = sym (gone _ _ _ is _ f)

  module _ (more : 2 ≤ k) where
    e : k ≡ 2
    e = let m = two_at_most u.level.now n in let c = count in omega arith

    are : told ≡ follow first (two s bytes n i)
    are = told_at 2 e ∙ message_two s bytes n i (legible_at 2 e)

    pub first_halts : {w : Why} → Err w ≡ first → Err w ≡ told
    first_halts f = halted _ _ _ are _ f

    module _ {v : ℤ} {m : ℕ} (f : Ok (v, m) ≡ first) where
      pub second_reads : legible (R s bytes n i m) ≡ true
      second_reads = second_legible s bytes n i (legible_at 2 e) v m f

      second : told ≡ follow (value_at s m (R s bytes n i m)) (λ y. Ok (message n (v ∷ y.0 ∷ []), y.1))
      second = gone _ _ _ are (v, m) f

      pub second_halts : {w : Why} → Err w ≡ value_at s m (R s bytes n i m) → Err w ≡ told
      second_halts q = halted _ _ _ second _ q

      pub two_told : {x : ℤ} {j : ℕ} → Ok (x, j) ≡ value_at s m (R s bytes n i m) → Ok (message n (v ∷ x ∷ []), j) ≡ told
      two_told q = sym (gone _ _ _ second _ q)
