-- Loops that fill a table: what was to be read is what was read so far and then what is read from here.
use Rattle.std.proofs.Common.{◌≡◌, ℕ, zero, suc, ◌+◌, ◌-◌, ◌<◌, ◌≤◌, Bool, true, false, ltb, leb, List, [], ◌∷◌, ◌++◌, length, Ok, Err, Result, sym, refl, ap, ◌∙◌, subst, arith, length-append, ltb-true, le-ltb, lt-ltb, eq-eqb, ne_eqb, eqb, eqb-true, le-leb, leb-true}
use Rattle.std.proofs.lemmas.Bool.Decides.{nat_tests}
use Rattle.level.specs.declared.fault.OperandFault.TheVariants.{TooMany}
use Rattle.level.specs.declared.fault.Reason.{Reason}
use Rattle.level.specs.declared.fault.Reason.TheVariants.{Truncated, Operand}
use Rattle.level.specs.Reading.{Read, got, bad, fault, then, when, room, at, many}
use Rattle.level.specs.Readers.{turn, Gives, Holds}
use Rattle.level.proofs.Turns.{went, hands_on}

-- what the test of such a loop says
pub seen : {a b : ℕ} → true ≡ eqb a b → a ≡ b
seen e = eqb-true _ _ (sym e)

pub unseen : {a b : ℕ} → false ≡ eqb a b → a ≡ b → ⊥
unseen e h = grind (arith, nat_tests)

-- nothing holds of what was refused
pub holds_none : {A B : Type 0} (f : A → B) (R : Read A) (e : Reason) (l : List ℕ) (P : A → Type 0) → Gives f R (Err e) l → Holds R P
holds_none f (got a m) e l P g = absurd (let p = g.answer in let z : ◌≡◌ {A = ℕ} 0 1 = cc in omega arith)
holds_none f (bad x) e l P g = tt

-- an item that was read had its bytes and its place
pub turn_got : {A : Type 0} (k most n : ℕ) (bs : List ℕ) (X : Read A) (x : A) (l : List ℕ) → turn k most n bs X ≡ got x l → (k ≤ length bs) × (n < most) × (X ≡ got x l)
turn_got {A} k most n bs X x l e = by (leb k (length bs)) (ltb n most) (leb-true k (length bs)) (ltb-true n most) e
  where
    by : (t u : Bool) → (t ≡ true → k ≤ length bs) → (u ≡ true → n < most) → when t (when u X (fault (Operand TooMany) bs)) (fault Truncated []) ≡ got x l
        → (k ≤ length bs) × (n < most) × (X ≡ got x l)
    by true true p q e = (p refl, q refl, e)
    by true false p q e = absurd (let z : ◌≡◌ {A = ℕ} 0 1 = cc in omega arith)
    by false u p q e = absurd (let z : ◌≡◌ {A = ℕ} 0 1 = cc in omega arith)

pub room_got : {A : Type 0} (k : ℕ) (bs : List ℕ) (X : Read A) (x : A) (l : List ℕ) → room k bs X ≡ got x l → (k ≤ length bs) × (X ≡ got x l)
room_got {A} k bs X x l e = by (leb k (length bs)) (leb-true k (length bs)) e
  where
    by : (t : Bool) → (t ≡ true → k ≤ length bs) → when t X (fault Truncated []) ≡ got x l → (k ≤ length bs) × (X ≡ got x l)
    by true p e = (p refl, e)
    by false p e = absurd (let z : ◌≡◌ {A = ℕ} 0 1 = cc in omega arith)

pub turn_in : {A : Type 0} (k most n : ℕ) (bs : List ℕ) (X : Read A) → k ≤ length bs → n < most → turn k most n bs X ≡ X
turn_in k most n bs X h u = rw (le-leb k (length bs) h, lt-ltb n most u)

pub turn_then : {A B : Type 0} (k most n : ℕ) (bs : List ℕ) (X : Read A) (K : A → List ℕ → Read B) → turn k most n bs (then X K) ≡ then (turn k most n bs X) K
turn_then k most n bs X K = by (leb k (length bs)) (ltb n most)
  where
    by : (t u : Bool) → when t (when u (then X K) (fault (Operand TooMany) bs)) (fault Truncated []) ≡ then (when t (when u X (fault (Operand TooMany) bs)) (fault Truncated [])) K
    by true true = refl
    by true false = refl
    by false u = refl

module _ {A : Type 0} (c k most : ℕ) (item : List A → List ℕ → Read A) where
  -- where another byte follows, the items are done
  many_stop : (left : ℕ) (xs : List A) (bs : List ℕ) → (at bs 0 ≡ c → ⊥) → many c k item left xs bs ≡ got xs bs
  many_stop zero xs bs h = rw (ne_eqb (at bs 0) c h)
  many_stop (suc left) xs bs h = rw (ne_eqb (at bs 0) c h)

  room_then : (bs : List ℕ) (X : Read A) (K : A → List ℕ → Read (List A)) → room k bs (then X K) ≡ then (room k bs X) K
  room_then bs X K = by (leb k (length bs))
    where
      by : (t : Bool) → when t (then X K) (fault Truncated []) ≡ then (when t X (fault Truncated [])) K
      by true = refl
      by false = refl

  then_same : (R : Read A) (K L : A → List ℕ → Read (List A)) → ((x : A) (l : List ℕ) → K x l ≡ L x l) → then R K ≡ then R L
  then_same (got x l) K L h = h x l
  then_same (bad f) K L h = refl

  -- else one more is read, and the others after it
  abbrev more : List A → A → List ℕ → Read (List A)
  more xs x l = many c k item (most - length (xs ++ (x ∷ []))) (xs ++ (x ∷ [])) l

  many_turn : (xs : List A) (bs : List ℕ) → at bs 0 ≡ c → many c k item (most - length xs) xs bs ≡ then (turn k most (length xs) bs (item xs bs)) (more xs)
  many_turn xs bs b = by (most - length xs) refl
    where
      one_less : (left : ℕ) (x : A) → most - length xs ≡ suc left → left ≡ most - length (xs ++ (x ∷ []))
      one_less left x e = let j = length-append xs (x ∷ []) in omega arith

      by : (left : ℕ) → most - length xs ≡ left → many c k item left xs bs ≡ then (turn k most (length xs) bs (item xs bs)) (more xs)
      by zero e = rw (eq-eqb (at bs 0) c b, le-ltb (length xs) most (omega arith)) (room_then bs (fault (Operand TooMany) bs) (more xs))
      by (suc left) e = rw (eq-eqb (at bs 0) c b, lt-ltb (length xs) most (omega arith))
          (room_then bs (item xs bs) (λ x l. many c k item left (xs ++ (x ∷ [])) l)
          ∙ then_same (room k bs (item xs bs)) _ _ (λ x l. ap (λ n. many c k item n (xs ++ (x ∷ [])) l) (one_less left x e)))

  -- The state of such a loop. P: what is known of the items so far; `whole`: what was to be read.
  pub record Filled (P : List A → Type 0) (whole : Read (List A)) (bs : List ℕ) : Type 0 where
    pub so_far : List A
    pub reads : whole ≡ many c k item (most - length so_far) so_far bs
    pub known : P so_far

  module _ (P : List A → Type 0) where
    module _ (whole : Read (List A)) (bs : List ℕ) (s : Filled P whole bs) where
      pub ends : (at bs 0 ≡ c → ⊥) → whole ≡ got s.so_far bs
      ends h = s.reads ∙ many_stop (most - length s.so_far) s.so_far bs h

      module _ {B : Type 0} (f : A → B) (b : at bs 0 ≡ c) where
        pub breaks : {D : Type 0} (g : List A → D) (e : Reason) (l : List ℕ) → Gives f (turn k most (length s.so_far) bs (item s.so_far bs)) (Err e) l → Gives g whole (Err e) l
        breaks g e l h = rw (s.reads, many_turn s.so_far bs b) (hands_on f (turn k most (length s.so_far) bs (item s.so_far bs)) g (more s.so_far) e l h)

        -- Q: what is known after one item more
        pub again : (Q : List A → Type 0) (v : B) (l : List ℕ) → Gives f (turn k most (length s.so_far) bs (item s.so_far bs)) (Ok v) l
            → ((x : A) → k ≤ length bs → length s.so_far < most → item s.so_far bs ≡ got x l → v ≡ f x → Q (s.so_far ++ (x ∷ []))) → Filled Q whole l
        again Q v l h p =
            let w = went f (turn k most (length s.so_far) bs (item s.so_far bs)) v l h in
            let t = turn_got k most (length s.so_far) bs (item s.so_far bs) w.0 l w.1 in
            record {
              so_far = s.so_far ++ (w.0 ∷ []);
              reads = s.reads ∙ (many_turn s.so_far bs b ∙ ap (λ R. then R (more s.so_far)) w.1);
              known = p w.0 t.0 t.1 t.2 w.2;
            }

-- the same limit and count under other names
pub turn_at : {A B : Type 0} (f : A → B) (k most most' n n' : ℕ) (bs : List ℕ) (X : Read A) → most ≡ most' → n ≡ n' → (r : Result B Reason) (l : List ℕ)
    → Gives f (turn k most n bs X) r l → Gives f (turn k most' n' bs X) r l
turn_at f k most most' n n' bs X e q r l g = subst (λ m. Gives f (turn k m n' bs X) r l) e (subst (λ m. Gives f (turn k most m bs X) r l) q g)

-- the same limit, less those of others that stand before
pub turn_less : {A : Type 0} (k most d n : ℕ) (bs : List ℕ) (X : Read A) → turn k most (d + n) bs X ≡ turn k (most - d) n bs X
turn_less k most d n bs X = let e : ltb (d + n) most ≡ ltb n (most - d) = grind (arith, nat_tests) in rw e
