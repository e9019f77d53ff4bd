-- What the statements of an effect do to the trails, one after the other.
use Rattle.std.proofs.Common.{◌≡◌, ℕ, ◌+◌, ◌-◌, ◌<◌, ◌≤◌, true, List, ◌∷◌, length, get_or, drop, Ok, Err, Result, sym, refl, ap, ◌∙◌, subst, ⊎_elim, arith}
use Rattle.std.proofs.lemmas.List.{drop-drop}
use Rattle.std.proofs.lemmas.Bool.{cases_lt}
use Rattle.level.specs.Levels as level
use Rattle.level.specs.Reading.{Read, got, bad, then, at, read_effect}
use Rattle.level.specs.Spelling.{statement}
use Rattle.level.specs.Syntax.{Stmt}
use Rattle.level.proofs.Arms.{effect_past, effect_none, effect_full, effect_more}
use Rattle.level.proofs.Legible.{bytes_from, stmt_rest}
use Rattle.mail.specs.declared.Mail.{Ghosts}
use Rattle.rules.specs.declared.fault.Why.{Why}
use Rattle.evaluator.specs.declared.trail.Trails.{Trails}
use Rattle.evaluator.specs.declared.turn.Turn.{Turn}
use Rattle.evaluator.specs.Meeting.{Around, around, step, steps, step_at, steps_at}
use Rattle.evaluator.specs.Reckoning.{follow, legible}
use Rattle.evaluator.specs.Standing.{effect_at, statement_at}
use Rattle.evaluator.specs.Trails.{Lists, lists, places}
use Rattle.evaluator.proofs.Reckoned.{not_bad}
use Rattle.evaluator.proofs.Stated.{first}

-- the statements of an effect, of which n may still come
module _ {M : Type 0} (mail : Ghosts M) (turn : Turn M) (lent : Trails) (n i : ℕ) where
  abbrev A : Around
  A = around mail turn (places lent)

  abbrev t : Lists
  t = lists lent

  abbrev code : List ℕ
  code = level.code turn.level.now

  abbrev F : ℕ → ℕ → Read (List Stmt)
  F k j = effect_at turn.level.now k j

  abbrev P : ℕ → Read Stmt
  P j = statement_at turn.level.now j

  module _ (h : legible (F n i) ≡ true) where
    a_byte : 1 ≤ length (drop i code)
    a_byte = ⊎_elim (λ k. absurd (not_bad (F n i) _ _ (effect_past A.level.signals 8 (drop i code) n k) h)) (λ k. k) (cases_lt (length (drop i code)) 1)

    lead : (b : ℕ) → get_or code i 0 ≡ b → at (drop i code) 0 ≡ b
    lead b e = first mail turn lent i b e

    module _ (z : get_or code i 0 ≡ 0 → ⊥) where
      nonzero : at (drop i code) 0 ≡ 0 → ⊥
      nonzero e = z (sym (lead _ refl) ∙ e)

      -- its byte is a statement's, since it was read
      is_stmt : (b : ℕ) → at (drop i code) 0 ≡ b → (32 ≤ b) × (b ≤ 34)
      is_stmt b e = ⊎_elim
          (λ l. absurd (none (λ x y. omega arith)))
          (λ l. ⊎_elim (λ u. absurd (none (λ x y. omega arith))) (λ u. (l, u)) (cases_lt 34 b))
          (cases_lt b 32)
        where
          none : (32 ≤ at (drop i code) 0 → at (drop i code) 0 ≤ 34 → ⊥) → ⊥
          none k = not_bad (F n i) _ _ (effect_none A.level.signals 8 (drop i code) n a_byte nonzero k) h

      pub effect_left : 0 < n
      effect_left =
          let s = is_stmt _ refl in
          ⊎_elim (λ k. k) (λ k. absurd (not_bad (F n i) _ _ (effect_full A.level.signals 8 (drop i code) n (omega arith) a_byte s.0 s.1) h)) (cases_lt 0 n)

      abbrev chain : Read Stmt → Read (List Stmt)
      chain r = then r (λ c l. then (read_effect A.level.signals 8 (n - 1) l) (λ cs m. got (c ∷ cs) m))

      is_chain : F n i ≡ chain (P i)
      is_chain = let s = is_stmt _ refl in effect_more A.level.signals 8 (drop i code) n effect_left a_byte s.0 s.1

      legible_chain : legible (chain (P i)) ≡ true
      legible_chain = subst (λ x. legible x ≡ true) is_chain h

      head_of : (r : Read Stmt) → legible (chain r) ≡ true → legible r ≡ true
      head_of (got c l) k = refl
      head_of (bad f) k = k

      tail_of : (c : Stmt) (r : Read (List Stmt)) → legible (then r (λ cs m. got (c ∷ cs) m)) ≡ true → legible r ≡ true
      tail_of c (got cs m) k = refl
      tail_of c (bad f) k = k

      pub head_reads : legible (P i) ≡ true
      head_reads = head_of (P i) legible_chain

      past : (c : Stmt) (l : List ℕ) → P i ≡ got c l → l ≡ drop (i + length (statement c)) code
      past c l q = stmt_rest A.level.signals 8 (drop i code) (bytes_from turn.level.now i) c l q ∙ drop-drop (length (statement c)) i code

      stepped : (r : Result Lists Why) (m : ℕ) (u : Lists) (j : ℕ) → ◌≡◌ {A = Result (Lists × ℕ) Why} (Ok (u, j)) (follow r (λ v. Ok (v, m))) → (Ok u ≡ r) × (j ≡ m)
      stepped (Ok v) m u j e = let q : ◌≡◌ {A = Lists × ℕ} (u, j) (v, m) = cc in (ap (λ (x : Lists × ℕ). Ok x.0) q, ap (λ (x : Lists × ℕ). x.1) q)
      stepped (Err w) m u j e = absurd (let y : ◌≡◌ {A = ℕ} 0 1 = cc in omega arith)

      refuses : (r : Result Lists Why) (m : ℕ) (w : Why) → ◌≡◌ {A = Result (Lists × ℕ) Why} (Err w) (follow r (λ v. Ok (v, m))) → Err w ≡ r
      refuses (Ok v) m w e = absurd (let y : ◌≡◌ {A = ℕ} 0 1 = cc in omega arith)
      refuses (Err x) m w e = let q : w ≡ x = cc in ap Err q

      tail_reads_of : (r : Read Stmt) → P i ≡ r → legible (chain r) ≡ true → (u : Lists) (j : ℕ) → Ok (u, j) ≡ step_at A t i r → legible (F (n - 1) j) ≡ true
      tail_reads_of (got c l) q k u j e =
          let z = (stepped (step A t i c) (i + length (statement c)) u j e).1 in
          let r = past c l q in
          tail_of c (F (n - 1) j) (rw (z, ← r) k)
      tail_reads_of (bad f) q k u j e = absurd (let y : ◌≡◌ {A = ℕ} 0 1 = cc in omega arith)

      halts_of : (r : Read Stmt) → legible (chain r) ≡ true → (w : Why) → Err w ≡ step_at A t i r → Err w ≡ steps_at A t i (chain r)
      halts_of (got c l) k w e = go (read_effect A.level.signals 8 (n - 1) l) k
        where
          go : (r : Read (List Stmt)) → legible (then r (λ cs m. got (c ∷ cs) m)) ≡ true → Err w ≡ steps_at A t i (then r (λ cs m. got (c ∷ cs) m))
          go (got cs m) k = ap (λ x. follow x (λ v. steps A v (i + length (statement c)) cs)) (refuses (step A t i c) (i + length (statement c)) w e)
          go (bad f) k = absurd (let y : ◌≡◌ {A = ℕ} 0 1 = cc in omega arith)
      halts_of (bad f) k w e = absurd (let y : ◌≡◌ {A = ℕ} 0 1 = cc in omega arith)

      goes_of : (r : Read Stmt) → P i ≡ r → legible (chain r) ≡ true → (u : Lists) (j : ℕ) → Ok (u, j) ≡ step_at A t i r → steps_at A u j (F (n - 1) j) ≡ steps_at A t i (chain r)
      goes_of (got c l) q k u j e =
          let z = stepped (step A t i c) (i + length (statement c)) u j e in
          let r = past c l q in
          ap (λ (x : ℕ). steps_at A u x (F (n - 1) x)) z.1 ∙ go z.0 (F (n - 1) (i + length (statement c))) (read_effect A.level.signals 8 (n - 1) l) (ap (read_effect A.level.signals 8 (n - 1)) (sym r)) k
        where
          go : Ok u ≡ step A t i c → (x y : Read (List Stmt)) → x ≡ y → legible (then y (λ cs m. got (c ∷ cs) m)) ≡ true → steps_at A u (i + length (statement c)) x ≡ steps_at A t i (then y (λ cs m. got (c ∷ cs) m))
          go f x (got cs m) p k = ap (steps_at A u (i + length (statement c))) p ∙ ap (λ r. follow r (λ v. steps A v (i + length (statement c)) cs)) f
          go f x (bad g) p k = absurd (let y : ◌≡◌ {A = ℕ} 0 1 = cc in omega arith)
      goes_of (bad f) q k u j e = absurd (let y : ◌≡◌ {A = ℕ} 0 1 = cc in omega arith)

      pub effect_halts : (w : Why) → Err w ≡ step_at A t i (P i) → Err w ≡ steps_at A t i (F n i)
      effect_halts w e = halts_of (P i) legible_chain w e ∙ ap (steps_at A t i) (sym is_chain)

      module _ (u : Lists) (j : ℕ) (e : Ok (u, j) ≡ step_at A t i (P i)) where
        pub tail_reads : legible (F (n - 1) j) ≡ true
        tail_reads = tail_reads_of (P i) refl legible_chain u j e

        pub effect_goes : steps_at A u j (F (n - 1) j) ≡ steps_at A t i (F n i)
        effect_goes = goes_of (P i) refl legible_chain u j e ∙ ap (steps_at A t i) (sym is_chain)
