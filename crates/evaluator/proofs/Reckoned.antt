-- What an expression comes to, by the command byte at its place.
use Rattle.std.proofs.Common.{◌≡◌, ℕ, zero, suc, ◌+◌, ◌-◌, ◌<◌, ◌≤◌, Bool, true, false, not, leb, List, [], length, get_or, drop, ℤ, pos, Some, None, Ok, Err, Option, Result, sym, refl, ap, ◌∙◌, subst, ⊎_elim, arith, length-append, length-drop}
use Rattle.std.proofs.lemmas.List.{get_or-drop, drop-drop}
use Rattle.std.proofs.lemmas.Bool.{cases_lt}
use Rattle.level.specs.declared.fault.Reason.{Reason}
use Rattle.level.specs.declared.fault.Reason.TheVariants.{TooDeep, Truncated}
use Rattle.level.specs.Law.{Bytes}
use Rattle.level.specs.Levels.{code, meaning}
use Rattle.level.specs.Reading.{Read, got, bad, fault, then, when, at, number, known, Form, a_binary, form, read_expr}
use Rattle.level.specs.Spelling.{expression, size}
use Rattle.level.specs.Syntax.{Operator, Expr, other, binary, negation}
use Rattle.level.proofs.Arms.{expr_past, constant_short, constant_is, own_piece_is, own_short, own_over, own_is, other_short, other_over, other_is, expr_at, form_binary, negation_is, expr_none}
use Rattle.level.proofs.Legible.{expr_rest, bytes_from}
use Rattle.rules.specs.declared.fault.Cause.TheVariants.{ZeroDivisor, Missing}
use Rattle.rules.specs.declared.fault.Why.{Why}
use Rattle.rules.specs.declared.fault.Why.TheVariants.{Stumbles}
use Rattle.rules.specs.Arithmetic.{holds, truth, computed}
use Rattle.rules.specs.Names.{cell_named}
use Rattle.rules.specs.Trace.{Trace, give, bind, needing, seen, look, evaluate}
use Rattle.evaluator.specs.Commands.{result_of}
use Rattle.evaluator.specs.Lookup.{last_change}
use Rattle.evaluator.specs.declared.view.View.{View}
use Rattle.evaluator.specs.Reckoning.{Sight, sight, follow, valued, legible, value_at, own_or, cell_value, told}
use Rattle.evaluator.proofs.Following.{follow_follow, follow_same, valued_bind}

-- what is legible was read, and is not a fault
pub not_bad : {A : Type 0} (r : Read A) (why : Reason) (bs : List ℕ) → r ≡ fault why bs → legible r ≡ true → ⊥
not_bad r why bs e h = absurd (let y : ◌≡◌ {A = ℕ} 0 1 = cc (ap legible e) in omega arith)

pub got_of : {A : Type 0} (r : Read A) → legible r ≡ true → (a : A) × (l : List ℕ) × (r ≡ got a l)
got_of (got a l) h = (a, l, refl)
got_of (bad f) h = absurd (let y : ◌≡◌ {A = ℕ} 0 1 = cc in omega arith)

-- where there is something to read, there is a byte and depth left
shallow : (n : ℕ) (bs : List ℕ) → legible (read_expr 0 n bs) ≡ true → ⊥
shallow n bs h = go (leb 1 (length bs)) (form (at bs 0)) h
  where
    go : (b : Bool) (o : Option Form) → legible {A = Expr} (when b (known bs o (λ f. fault TooDeep bs)) (fault Truncated [])) ≡ true → ⊥
    go true None k = let y : ◌≡◌ {A = ℕ} 0 1 = cc in omega arith
    go true (Some f) k = let y : ◌≡◌ {A = ℕ} 0 1 = cc in omega arith
    go false o k = let y : ◌≡◌ {A = ℕ} 0 1 = cc in omega arith

pub deep : (d n : ℕ) (bs : List ℕ) → legible (read_expr d n bs) ≡ true → 0 < d
deep zero n bs h = absurd (shallow n bs h)
deep (suc d) n bs h = omega arith

pub some_byte : (d n : ℕ) (bs : List ℕ) → legible (read_expr d n bs) ≡ true → 1 ≤ length bs
some_byte d n bs h = ⊎_elim (λ k. absurd (not_bad (read_expr d n bs) _ _ (expr_past d n bs k) h)) (λ k. k) (cases_lt (length bs) 1)

-- the value of a cell, with the place after it
pub told_cell : (s : Sight) (p a i : ℕ) → told (cell_value s p a) i ≡ follow (valued s.earlier (look s.board (last_change s.own) p a)) (λ v. Ok (v, i))
told_cell s p a i = go (last_change s.own p a) (last_change s.earlier p a) refl
  where
    go : (o e : Option ℤ) → last_change s.earlier p a ≡ e → told (own_or o e (s.board.numbers p a)) i ≡ follow (valued s.earlier (seen s.board p a o)) (λ v. Ok (v, i))
    go (Some v) e h = refl
    go None (Some v) h = rw h
    go None None h = rw h

-- what a command makes of a name, and of a result
abbrev pub cell_told : Sight → ℕ → ℕ → ℕ → Option ℕ → Result (ℤ × ℕ) Why
cell_told s i a next None = Err (Stumbles (record { cause = Missing; place = i }))
cell_told s i a next (Some q) = told (cell_value s q a) next

abbrev pub result_told : ℕ → ℕ → Option ℤ → Result (ℤ × ℕ) Why
result_told i next None = Err (Stumbles (record { cause = ZeroDivisor; place = i }))
result_told i next (Some v) = Ok (v, next)

module _ (s : Sight) (bytes : (i : ℕ) → Bytes (drop i s.code)) where
  abbrev pub V : ℕ → Expr → Trace ℤ
  V i e = evaluate s.level s.board s.mover (last_change s.own) i e

  abbrev pub at_place : ℕ → ℕ → Read Expr
  at_place d i = read_expr d 8 (drop i s.code)

  -- an expression inside, at the place i + k: what its value is followed by
  pub inner : {B C : Type 0} (j : ℕ) (e : Expr) (k : ℤ → Trace B) (f : B → Result C Why) → follow (valued s.earlier (bind (V j e) k)) f ≡ follow (valued s.earlier (V j e)) (λ v. follow (valued s.earlier (k v)) f)
  inner j e k f = ap (λ r. follow r f) (valued_bind s.earlier k (V j e)) ∙ follow_follow (valued s.earlier (V j e)) _ f

  -- the place after an expression is where the rest stands
  pub after : (d j : ℕ) (e : Expr) (l : List ℕ) → at_place d j ≡ got e l → l ≡ drop (j + size e) s.code
  after d j e l h = expr_rest d 8 (drop j s.code) (bytes j) e l h ∙ drop-drop (size e) j s.code

  -- one expression inside
  legible_inside : (C : Expr → Expr) (R : Read Expr) → legible (then R (λ e l. got (C e) l)) ≡ true → legible R ≡ true
  legible_inside C (got e l) h = refl
  legible_inside C (bad f) h = h

  single : (i k : ℕ) (C : Expr → Expr) (K : ℤ × ℕ → Result (ℤ × ℕ) Why)
      → ((e : Expr) (l : List ℕ) → value_at s i (got (C e) l) ≡ follow (valued s.earlier (V (i + k) e)) (λ v. K (v, i + k + size e)))
      → (R : Read Expr) → legible (then R (λ e l. got (C e) l)) ≡ true → value_at s i (then R (λ e l. got (C e) l)) ≡ follow (value_at s (i + k) R) K
  single i k C K step (got e l) h = step e l ∙ sym (follow_follow (valued s.earlier (V (i + k) e)) (λ v. Ok (v, i + k + size e)) K)
  single i k C K step (bad f) h = absurd (let y : ◌≡◌ {A = ℕ} 0 1 = cc in omega arith)

  other_step : (i a : ℕ) (e : Expr) (l : List ℕ) → value_at s i (got (other a e) l)
      ≡ follow (valued s.earlier (V (i + 2) e)) (λ v. cell_told s i a (i + 2 + size e) (cell_named s.level v a))
  other_step i a e l =
      inner (i + 2) e (λ v. needing Missing i (cell_named s.level v a) (λ q. look s.board (last_change s.own) q a)) (λ v. Ok (v, i + size (other a e)))
      ∙ follow_same (valued s.earlier (V (i + 2) e)) _ _ (λ v. go (cell_named s.level v a))
    where
      go : (o : Option ℕ) → follow (valued s.earlier (needing Missing i o (λ q. look s.board (last_change s.own) q a))) (λ v. Ok (v, i + size (other a e))) ≡ cell_told s i a (i + 2 + size e) o
      go None = refl
      go (Some q) = let z : i + size (other a e) ≡ i + 2 + size e = omega arith in
          ap (λ n. follow (valued s.earlier (look s.board (last_change s.own) q a)) (λ v. Ok (v, n))) z ∙ sym (told_cell s q a (i + 2 + size e))

  negation_step : (i : ℕ) (e : Expr) (l : List ℕ) → value_at s i (got (negation e) l)
      ≡ follow (valued s.earlier (V (i + 1) e)) (λ v. Ok (truth (not (holds v)), i + 1 + size e))
  negation_step i e l =
      let z : i + size (negation e) ≡ i + 1 + size e = omega arith in
      inner (i + 1) e (λ v. give (truth (not (holds v)))) (λ v. Ok (v, i + size (negation e)))
      ∙ ap (λ n. follow (valued s.earlier (V (i + 1) e)) (λ v. Ok (truth (not (holds v)), n))) z

  -- two expressions inside
  abbrev pair : ℕ → Operator → Read Expr → Read Expr
  pair d op R = then R (λ e l. then (read_expr d 8 l) (λ f m. got (binary op e f) m))

  pair_left : (d : ℕ) (op : Operator) (R : Read Expr) → legible (pair d op R) ≡ true → legible R ≡ true
  pair_left d op (got e l) h = refl
  pair_left d op (bad f) h = h

  pub ends : (r : Result ℤ Why) (n : ℕ) (v : ℤ) (m : ℕ) → ◌≡◌ {A = Result (ℤ × ℕ) Why} (Ok (v, m)) (follow r (λ w. Ok (w, n))) → m ≡ n
  ends (Ok w) n v m e = let q : ◌≡◌ {A = ℤ × ℕ} (v, m) (w, n) = cc in ap (λ (x : ℤ × ℕ). x.1) q
  ends (Err f) n v m e = absurd (let y : ◌≡◌ {A = ℕ} 0 1 = cc in omega arith)

  pair_right : (d i : ℕ) (op : Operator) (R : Read Expr) → at_place d i ≡ R → legible (pair d op R) ≡ true
      → (v : ℤ) (m : ℕ) → Ok (v, m) ≡ value_at s i R → legible (at_place d m) ≡ true
  pair_right d i op (got e l) q h v m k =
      let z = ends (valued s.earlier (V i e)) (i + size e) v m k in
      let r = after d i e l q in
      legible_inside (binary op e) (at_place d m) (rw (z, ← r) h)
  pair_right d i op (bad f) q h v m k = absurd (let y : ◌≡◌ {A = ℕ} 0 1 = cc in omega arith)

  -- the result of an operator, with the place after the right side
  result_step : (i n b : ℕ) (op : Operator) → form b ≡ Some (a_binary op) → (v w : ℤ)
      → follow (valued s.earlier (needing ZeroDivisor i (computed op v w) give)) (λ x. Ok (x, n)) ≡ result_told i n (result_of b v w)
  result_step i n b op e v w = rw e (go (computed op v w))
    where
      go : (o : Option ℤ) → follow (valued s.earlier (needing ZeroDivisor i o give)) (λ x. Ok (x, n)) ≡ result_told i n o
      go None = refl
      go (Some x) = refl

  abbrev rights : ℕ → ℕ → ℕ → ℤ × ℕ → Result (ℤ × ℕ) Why
  rights d i b x = follow (value_at s x.1 (at_place d x.1)) (λ y. result_told i y.1 (result_of b x.0 y.0))

  right_value : (d i b : ℕ) (op : Operator) → form b ≡ Some (a_binary op) → (e : Expr) (R : Read Expr) → at_place d (i + 1 + size e) ≡ R
      → legible (then R (λ f m. got (binary op e f) m)) ≡ true
      → value_at s i (then R (λ f m. got (binary op e f) m)) ≡ follow (valued s.earlier (V (i + 1) e)) (λ v. rights d i b (v, i + 1 + size e))
  right_value d i b op fb e (got f m) q h =
      let n : i + size (binary op e f) ≡ i + 1 + size e + size f = let z = length-append (expression e) (expression f) in omega arith in
      inner (i + 1) e (λ v. bind (V (i + 1 + size e) f) (λ w. needing ZeroDivisor i (computed op v w) give)) (λ x. Ok (x, i + size (binary op e f)))
      ∙ follow_same (valued s.earlier (V (i + 1) e)) _ _ (λ v.
      inner (i + 1 + size e) f (λ w. needing ZeroDivisor i (computed op v w) give) (λ x. Ok (x, i + size (binary op e f)))
      ∙ follow_same (valued s.earlier (V (i + 1 + size e) f)) _ _ (λ w. result_step i (i + size (binary op e f)) b op fb v w ∙ ap (λ k. result_told i k (result_of b v w)) n)
      ∙ sym (follow_follow (valued s.earlier (V (i + 1 + size e) f)) (λ w. Ok (w, i + 1 + size e + size f)) (λ y. result_told i y.1 (result_of b v y.0)))
      ∙ ap (λ R. follow (value_at s (i + 1 + size e) R) (λ y. result_told i y.1 (result_of b v y.0))) (sym q))
  right_value d i b op fb e (bad f) q h = absurd (let y : ◌≡◌ {A = ℕ} 0 1 = cc in omega arith)

  pair_value : (d i : ℕ) (op : Operator) (b : ℕ) → form b ≡ Some (a_binary op) → (R : Read Expr) → at_place d (i + 1) ≡ R
      → legible (pair d op R) ≡ true → value_at s i (pair d op R) ≡ follow (value_at s (i + 1) R) (rights d i b)
  pair_value d i op b fb (got e l) q h =
      let r = after d (i + 1) e l q in
      right_value d i b op fb e (read_expr d 8 l) (ap (read_expr d 8) (sym r)) h
      ∙ sym (follow_follow (valued s.earlier (V (i + 1) e)) (λ v. Ok (v, i + 1 + size e)) (rights d i b))
  pair_value d i op b fb (bad f) q h = absurd (let y : ◌≡◌ {A = ℕ} 0 1 = cc in omega arith)

  module _ (d i : ℕ) (h : legible (at_place d i) ≡ true) where
    abbrev bs : List ℕ
    bs = drop i s.code

    dd : 0 < d
    dd = deep d 8 bs h

    one : 1 ≤ length bs
    one = some_byte d 8 bs h

    long : length bs ≡ length s.code - i
    long = length-drop i s.code

    pub in_code : i < length s.code
    in_code = let a = one in let b = long in omega arith

    byte : (k : ℕ) → get_or s.code (i + k) 0 ≡ at bs k
    byte k = sym (get_or-drop i s.code k 0)

    first : (b : ℕ) → get_or s.code i 0 ≡ b → at bs 0 ≡ b
    first b e = let z : i + 0 ≡ i = omega arith in sym (byte 0) ∙ ap (λ j. get_or s.code j 0) z ∙ e

    pub by_constant : get_or s.code i 0 ≡ 16 → (i + 5 ≤ length s.code)
        × (value_at s i (at_place d i) ≡ Ok (number (get_or s.code (i + 1) 0) (get_or s.code (i + 2) 0) (get_or s.code (i + 3) 0) (get_or s.code (i + 4) 0), i + 5))
    by_constant e =
        let five : 5 ≤ length bs = ⊎_elim (λ k. absurd (not_bad (at_place d i) _ _ (constant_short d 8 bs dd one (first 16 e) k) h)) (λ k. k) (cases_lt (length bs) 5) in
        let r = constant_is d 8 bs dd one (first 16 e) five in
        let b = long in
        (omega arith, ap (value_at s i) r ∙ rw (byte 1, byte 2, byte 3, byte 4))

    pub by_own_piece : get_or s.code i 0 ≡ 17 → value_at s i (at_place d i) ≡ Ok (pos s.mover, i + 1)
    by_own_piece e = ap (value_at s i) (own_piece_is d 8 bs dd one (first 17 e))

    pub by_own : get_or s.code i 0 ≡ 18 → (i + 2 ≤ length s.code) × (value_at s i (at_place d i) ≡ told (cell_value s s.mover (get_or s.code (i + 1) 0)) (i + 2))
    by_own e =
        let b0 = first 18 e in
        let l2 : 2 ≤ length bs = ⊎_elim (λ k. absurd (not_bad (at_place d i) _ _ (own_short d 8 bs dd one b0 k) h)) (λ k. k) (cases_lt (length bs) 2) in
        let a8 : at bs 1 < 8 = ⊎_elim (λ k. k) (λ k. absurd (not_bad (at_place d i) _ _ (own_over d 8 bs dd one b0 l2 k) h)) (cases_lt (at bs 1) 8) in
        let b = long in
        (omega arith, ap (value_at s i) (own_is d 8 bs dd one b0 l2 a8) ∙ sym (told_cell s s.mover (at bs 1) (i + 2)) ∙ rw (byte 1))

    pub by_other : get_or s.code i 0 ≡ 19 → (i + 2 ≤ length s.code) × (legible (at_place (d - 1) (i + 2)) ≡ true)
        × (value_at s i (at_place d i) ≡ follow (value_at s (i + 2) (at_place (d - 1) (i + 2))) (λ x. cell_told s i (get_or s.code (i + 1) 0) x.1 (cell_named s.level x.0 (get_or s.code (i + 1) 0))))
    by_other e =
        let b0 = first 19 e in
        let l2 : 2 ≤ length bs = ⊎_elim (λ k. absurd (not_bad (at_place d i) _ _ (other_short d 8 bs dd one b0 k) h)) (λ k. k) (cases_lt (length bs) 2) in
        let a8 : at bs 1 < 8 = ⊎_elim (λ k. k) (λ k. absurd (not_bad (at_place d i) _ _ (other_over d 8 bs dd one b0 l2 k) h)) (cases_lt (at bs 1) 8) in
        let a : ℕ = get_or s.code (i + 1) 0 in
        let r : at_place d i ≡ then (at_place (d - 1) (i + 2)) (λ x l. got (other a x) l) = other_is d 8 bs dd one b0 l2 a8 ∙ rw (drop-drop 2 i s.code, byte 1) in
        let m = subst (λ x. legible x ≡ true) r h in
        let b = long in (
          omega arith,
          legible_inside (other a) (at_place (d - 1) (i + 2)) m,
          ap (value_at s i) r ∙ single i 2 (other a) (λ x. cell_told s i a x.1 (cell_named s.level x.0 a)) (λ x l. other_step i a x l) (at_place (d - 1) (i + 2)) m,
        )

    pub by_negation : get_or s.code i 0 ≡ 29 → (legible (at_place (d - 1) (i + 1)) ≡ true)
        × (value_at s i (at_place d i) ≡ follow (value_at s (i + 1) (at_place (d - 1) (i + 1))) (λ x. Ok (truth (not (holds x.0)), x.1)))
    by_negation e =
        let r : at_place d i ≡ then (at_place (d - 1) (i + 1)) (λ x l. got (negation x) l) = negation_is d 8 bs dd one (first 29 e) ∙ rw (drop-drop 1 i s.code) in
        let m = subst (λ x. legible x ≡ true) r h in (
          legible_inside negation (at_place (d - 1) (i + 1)) m,
          ap (value_at s i) r ∙ single i 1 negation (λ x. Ok (truth (not (holds x.0)), x.1)) (λ x l. negation_step i x l) (at_place (d - 1) (i + 1)) m,
        )

    module _ (low : 20 ≤ get_or s.code i 0) (high : get_or s.code i 0 ≤ 28) where
      abbrev b : ℕ
      b = get_or s.code i 0

      op : (x : Operator) × (form b ≡ Some (a_binary x))
      op = form_binary b low high

      abbrev left : Read Expr
      left = at_place (d - 1) (i + 1)

      pairs : at_place d i ≡ pair (d - 1) op.0 left
      pairs = expr_at d 8 bs dd one b (first b refl) ∙ rw (op.1, drop-drop 1 i s.code)

      some_pair : legible (pair (d - 1) op.0 left) ≡ true
      some_pair = subst (λ x. legible x ≡ true) pairs h

      pub left_legible : legible left ≡ true
      left_legible = pair_left (d - 1) op.0 left some_pair

      pub right_legible : (v : ℤ) (m : ℕ) → Ok (v, m) ≡ value_at s (i + 1) left → legible (at_place (d - 1) m) ≡ true
      right_legible v m e = pair_right (d - 1) (i + 1) op.0 left refl some_pair v m e

      pub by_binary : value_at s i (at_place d i) ≡ follow (value_at s (i + 1) left) (λ x. follow (value_at s x.1 (at_place (d - 1) x.1)) (λ y. result_told i y.1 (result_of b x.0 y.0)))
      by_binary = ap (value_at s i) pairs ∙ pair_value (d - 1) i op.0 b op.1 left refl some_pair

    pub by_none : (16 ≤ get_or s.code i 0 → get_or s.code i 0 ≤ 29 → ⊥) → ⊥
    by_none n = not_bad (at_place d i) _ _ (expr_none d 8 bs one (λ l u. n (rw (← first _ refl) l) (rw (← first _ refl) u))) h

-- the same, as the code comes by it: `cs` are the bytes that it looks at
module _ (v : View) (d i : ℕ) (h : legible (read_expr d 8 (drop i (code v.level.now))) ≡ true) {cs : List ℕ} (is : cs ≡ code v.level.now) where
  abbrev B : (k : ℕ) → Bytes (drop k (code v.level.now))
  B = bytes_from v.level.now

  abbrev R : ℕ → ℕ → Read Expr
  R d k = read_expr d 8 (drop k (code v.level.now))

  abbrev value : Result (ℤ × ℕ) Why
  value = value_at (sight v) i (R d i)

  byte_is : (b : ℕ) → get_or cs i 0 ≡ b → get_or (code v.level.now) i 0 ≡ b
  byte_is b e = ap (λ l. get_or l i 0) (sym is) ∙ e

  as_long : length cs ≡ length (code v.level.now)
  as_long = ap length is

  pub here : i < length cs
  here = let a = in_code (sight v) B d i h in let b = as_long in omega arith

  pub deeper : 0 < d
  deeper = dd (sight v) B d i h

  pub at_constant : get_or cs i 0 ≡ 16 → (i + 5 ≤ length cs) × (value ≡ Ok (number (get_or cs (i + 1) 0) (get_or cs (i + 1 + 1) 0) (get_or cs (i + 1 + 2) 0) (get_or cs (i + 1 + 3) 0), i + 5))
  at_constant e =
      let k = by_constant (sight v) B d i h (byte_is 16 e) in
      let b = as_long in
      let n = k.0 in
      let x : i + 1 + 1 ≡ i + 2 = omega arith in
      let y : i + 1 + 2 ≡ i + 3 = omega arith in
      let z : i + 1 + 3 ≡ i + 4 = omega arith in
      (omega arith, rw (x, y, z) (k.1 ∙ rw is))

  pub at_own_piece : get_or cs i 0 ≡ 17 → value ≡ Ok (pos v.mover, i + 1)
  at_own_piece e = by_own_piece (sight v) B d i h (byte_is 17 e)

  pub at_own : get_or cs i 0 ≡ 18 → (i + 2 ≤ length cs) × (value ≡ told (cell_value (sight v) v.mover (get_or cs (i + 1) 0)) (i + 2))
  at_own e = let k = by_own (sight v) B d i h (byte_is 18 e) in let b = as_long in let n = k.0 in (omega arith, k.1 ∙ rw is)

  -- a halt inside is the end
  halts : (r : Result (ℤ × ℕ) Why) (K : ℤ × ℕ → Result (ℤ × ℕ) Why) → value ≡ follow r K → {w : Why} → Err w ≡ r → Err w ≡ value
  halts r K e f = sym (e ∙ ap (λ x. follow x K) (sym f))

  module _ (e : get_or cs i 0 ≡ 19) where
    abbrev a : ℕ
    a = get_or cs (i + 1) 0

    others : value ≡ follow (value_at (sight v) (i + 2) (R (d - 1) (i + 2))) (λ x. cell_told (sight v) i a x.1 (cell_named (meaning v.level.now) x.0 a))
    others = (by_other (sight v) B d i h (byte_is 19 e)).2 ∙ rw is

    pub other_long : i + 2 ≤ length cs
    other_long = let k = (by_other (sight v) B d i h (byte_is 19 e)).0 in let b = as_long in omega arith

    pub other_legible : legible (R (d - 1) (i + 2)) ≡ true
    other_legible = (by_other (sight v) B d i h (byte_is 19 e)).1

    pub other_halts : {w : Why} → Err w ≡ value_at (sight v) (i + 2) (R (d - 1) (i + 2)) → Err w ≡ value
    other_halts f = halts _ _ others f

    pub other_told : {z : ℤ} {m : ℕ} → Ok (z, m) ≡ value_at (sight v) (i + 2) (R (d - 1) (i + 2)) → (o : Option ℕ) → o ≡ cell_named (meaning v.level.now) z a → cell_told (sight v) i a m o ≡ value
    other_told {m = m} f o k = sym (others ∙ ap (λ r. follow r (λ x. cell_told (sight v) i a x.1 (cell_named (meaning v.level.now) x.0 a))) (sym f) ∙ ap (cell_told (sight v) i a m) (sym k))

  module _ (e : get_or cs i 0 ≡ 29) where
    pub negation_legible : legible (R (d - 1) (i + 1)) ≡ true
    negation_legible = (by_negation (sight v) B d i h (byte_is 29 e)).0

    negated : value ≡ follow (value_at (sight v) (i + 1) (R (d - 1) (i + 1))) (λ x. Ok (truth (not (holds x.0)), x.1))
    negated = (by_negation (sight v) B d i h (byte_is 29 e)).1

    pub negation_halts : {w : Why} → Err w ≡ value_at (sight v) (i + 1) (R (d - 1) (i + 1)) → Err w ≡ value
    negation_halts f = halts _ _ negated f

    pub negation_told : {z : ℤ} {m : ℕ} → Ok (z, m) ≡ value_at (sight v) (i + 1) (R (d - 1) (i + 1)) → Ok (truth (not (holds z)), m) ≡ value
    negation_told f = sym (negated ∙ ap (λ r. follow r (λ x. Ok (truth (not (holds x.0)), x.1))) (sym f))

  module _ (between : (20 ≤ get_or cs i 0) × (get_or cs i 0 ≤ 28)) where
    abbrev c : ℕ
    c = get_or (code v.level.now) i 0

    at_least : 20 ≤ c
    at_least = let k = byte_is _ refl in let b = between.0 in omega arith

    at_most : c ≤ 28
    at_most = let k = byte_is _ refl in let b = between.1 in omega arith

    pub left_reads : legible (R (d - 1) (i + 1)) ≡ true
    left_reads = left_legible (sight v) B d i h at_least at_most

    abbrev then_right : ℤ → ℤ × ℕ → Result (ℤ × ℕ) Why
    then_right y x = result_told i x.1 (result_of (get_or cs i 0) y x.0)

    abbrev then_both : ℤ × ℕ → Result (ℤ × ℕ) Why
    then_both x = follow (value_at (sight v) x.1 (R (d - 1) x.1)) (then_right x.0)

    both : value ≡ follow (value_at (sight v) (i + 1) (R (d - 1) (i + 1))) then_both
    both = by_binary (sight v) B d i h at_least at_most ∙ rw is

    pub left_halts : {w : Why} → Err w ≡ value_at (sight v) (i + 1) (R (d - 1) (i + 1)) → Err w ≡ value
    left_halts f = halts _ _ both f

    module _ {y : ℤ} {m : ℕ} (f : Ok (y, m) ≡ value_at (sight v) (i + 1) (R (d - 1) (i + 1))) where
      pub right_reads : legible (R (d - 1) m) ≡ true
      right_reads = right_legible (sight v) B d i h at_least at_most y m f

      right_next : value ≡ follow (value_at (sight v) m (R (d - 1) m)) (then_right y)
      right_next = both ∙ ap (λ r. follow r then_both) (sym f)

      pub right_halts : {w : Why} → Err w ≡ value_at (sight v) m (R (d - 1) m) → Err w ≡ value
      right_halts k = halts _ _ right_next k

      pub both_told : {z : ℤ} {n : ℕ} → Ok (z, n) ≡ value_at (sight v) m (R (d - 1) m) → (o : Option ℤ) → o ≡ result_of (get_or cs i 0) y z → result_told i n o ≡ value
      both_told {n = n} k o j = sym (right_next ∙ ap (λ r. follow r (then_right y)) (sym k) ∙ ap (result_told i n) (sym j))

  pub at_none : (16 ≤ get_or cs i 0 → get_or cs i 0 ≤ 29 → ⊥) → ⊥
  at_none n = by_none (sight v) B d i h (λ l u. let k = byte_is _ refl in n (omega arith) (omega arith))
