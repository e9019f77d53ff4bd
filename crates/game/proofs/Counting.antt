-- How many moves bytes are.
use Rattle.std.proofs.Common.{◌≡◌, ℕ, ◌*◌, ◌≤◌, Bool, true, false, cond, ◌&&◌, eqb, leb, List, [], ◌∷◌, length, Some, None, Ok, Err, Option, sym, refl, ap, ◌∙◌, le-leb, arith}
use Rattle.std.specs.Iterator.{Drains, YieldsFirst}
use Rattle.std.proofs.lemmas.Bool.Decides.{nat_tests}
use Rattle.rules.specs.declared.fault.StrikeFault.TheVariants.{NotMoves}
use Rattle.rules.specs.declared.moves.Move.{Move}
use Rattle.rules.specs.Calls.{front_moves, move_of, moves_of}
use Rattle.rules.specs.Names.{then}
use Rattle.game.specs.Judged.{counted}
use Rattle.game.proofs.Fronts.{moves_front}

-- as many come as there were
pub drained : {A : Type 0} (s xs : List A) → Drains (YieldsFirst (λ left. left)) s xs → xs ≡ s
drained s [] d = let (u, w) = d in let (t, here, last) = w in sym (here ∙ last.0)
drained s (x ∷ xs) d = let (u, w) = d in let (t, given, last) = w in let (j, first, others) = given in ap (λ l. x ∷ l) (drained j xs (u, (t, others, last))) ∙ sym first

-- the moves at the front have three bytes each
pub front_fits : (bs : List ℕ) → 3 * length (front_moves bs) ≤ length bs
front_fits [] = omega arith
front_fits (c ∷ []) = omega arith
front_fits (c ∷ p ∷ []) = omega arith
front_fits (c ∷ p ∷ t ∷ bs) = by (eqb c 0x51) (front_fits bs)
  where
    by : (b : Bool) → 3 * length (front_moves bs) ≤ length bs → 3 * length (cond b (move_of p t ∷ front_moves bs) []) ≤ length (c ∷ p ∷ t ∷ bs)
    by true k = omega arith
    by false k = omega arith

-- where those are all bytes, the bytes are moves throughout
all_moves : (bs : List ℕ) → length bs ≡ 3 * length (front_moves bs) → moves_of bs ≡ Some (front_moves bs)
all_moves [] e = refl
all_moves (c ∷ []) e = absurd (omega arith)
all_moves (c ∷ p ∷ []) e = absurd (omega arith)
all_moves (c ∷ p ∷ t ∷ bs) e = by (eqb c 0x51) e (all_moves bs)
  where
    by : (b : Bool) → length (c ∷ p ∷ t ∷ bs) ≡ 3 * length (cond b (move_of p t ∷ front_moves bs) [])
        → (length bs ≡ 3 * length (front_moves bs) → moves_of bs ≡ Some (front_moves bs))
        → cond b (then (moves_of bs) (λ ms. Some (move_of p t ∷ ms))) None ≡ Some (cond b (move_of p t ∷ front_moves bs) [])
    by true h k = let e = k (omega arith) in rw e
    by false h k = absurd (omega arith)

-- and only there
some_left : (bs : List ℕ) → (length bs ≡ 3 * length (front_moves bs) → ⊥) → moves_of bs ≡ None
some_left [] n = absurd (n refl)
some_left (c ∷ []) n = refl
some_left (c ∷ p ∷ []) n = refl
some_left (c ∷ p ∷ t ∷ bs) n = by (eqb c 0x51) n (some_left bs)
  where
    by : (b : Bool) → (length (c ∷ p ∷ t ∷ bs) ≡ 3 * length (cond b (move_of p t ∷ front_moves bs) []) → ⊥)
        → ((length bs ≡ 3 * length (front_moves bs) → ⊥) → moves_of bs ≡ None)
        → cond b (then (moves_of bs) (λ ms. Some (move_of p t ∷ ms))) None ≡ None
    by true h k = let e = k (λ z. h (omega arith)) in rw e
    by false h k = refl

module _ (bs : List ℕ) (n : ℕ) (are : n ≡ length (front_moves bs)) where
  pub count_all : length bs ≡ 3 * n → 1 ≤ n → n ≤ 16 → Ok n ≡ counted (moves_of bs)
  count_all e a b = let k = all_moves bs (omega arith) in rw (k, ← are, le-leb 1 n a, le-leb n 16 b)

  pub count_left : (length bs ≡ 3 * n → ⊥) → Err NotMoves ≡ counted (moves_of bs)
  count_left h = let k = some_left bs (λ e. h (omega arith)) in rw k

  pub count_wrong : (1 ≤ n → n ≤ 16 → ⊥) → Err NotMoves ≡ counted (moves_of bs)
  count_wrong h = by (moves_of bs) refl
    where
      by : (o : Option (List Move)) → moves_of bs ≡ o → Err NotMoves ≡ counted o
      by None e = refl
      by (Some ms) e =
          let k = ap length (moves_front bs ms e) in
          let wrong : (leb 1 (length ms) && leb (length ms) 16) ≡ false = grind (arith, nat_tests) in
          rw wrong

-- what is counted are the moves
pub count_is : (o : Option (List Move)) (n : ℕ) → Ok n ≡ counted o → (ms : List Move) × (o ≡ Some ms) × (n ≡ length ms) × (1 ≤ length ms) × (length ms ≤ 16)
count_is None n e = absurd (let y : ◌≡◌ {A = ℕ} 0 1 = cc in omega arith)
count_is (Some ms) n e = go (leb 1 (length ms)) (leb (length ms) 16) refl refl e
  where
    go : (a b : Bool) → leb 1 (length ms) ≡ a → leb (length ms) 16 ≡ b → Ok n ≡ cond (a && b) (Ok (length ms)) (Err NotMoves)
        → (ks : List Move) × (Some ms ≡ Some ks) × (n ≡ length ks) × (1 ≤ length ks) × (length ks ≤ 16)
    go true true p q k = let z : n ≡ length ms = cc in (ms, refl, z, grind (arith, nat_tests), grind (arith, nat_tests))
    go true false p q k = absurd (let y : ◌≡◌ {A = ℕ} 0 1 = cc in omega arith)
    go false b p q k = absurd (let y : ◌≡◌ {A = ℕ} 0 1 = cc in omega arith)
