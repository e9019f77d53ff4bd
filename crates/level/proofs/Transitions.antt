-- One transition, as the code reads it: its operands, its guard, its effect.
use Rattle.std.proofs.Common.{◌≡◌, ℕ, ◌+◌, ◌-◌, ◌<◌, ◌≤◌, Bool, true, false, ◌&&◌, ltb, leb, List, length, drop, Ok, sym, refl, ap, ◌∙◌, subst, arith, length-append, length-drop, lt-ltb}
use Rattle.level.specs.declared.entry.TransitionEntry.{TransitionEntry}
use Rattle.level.specs.declared.fault.OperandFault.TheVariants.{OutOfRange}
use Rattle.level.specs.declared.fault.Reason.TheVariants.{Operand}
use Rattle.level.specs.Entries.{transition_entry}
use Rattle.level.specs.Law.{Bytes}
use Rattle.level.specs.Places.{placed_at}
use Rattle.level.specs.Reading.{Read, got, bad, fault, then, when, at, operand, receiver, read_expr, read_effect, read_code, read_received, read_transition}
use Rattle.level.specs.Readers.{Gives, nothing, turn, opened, Head, head_at, receivers_at, read_head, head_entry}
use Rattle.level.specs.Sound.{deepest, most_statements, parameters, SoundExpr}
use Rattle.level.specs.Spelling.{expression, size}
use Rattle.level.specs.Syntax.{Expr, Transition}
use Rattle.level.proofs.Arms.{room_in}
use Rattle.level.proofs.Expressions.{expr_reads}
use Rattle.level.proofs.Fills.{turn_got}
use Rattle.level.proofs.Fronts.{bytes_drop}
use Rattle.level.proofs.Steps.{Reads}
use Rattle.level.proofs.Turns.{done, went, goes_on}

-- checks before what is read first
pub operand_then : {A B : Type 0} (k least limit : ℕ) (bs : List ℕ) (X : Read A) (K : A → List ℕ → Read B) → operand k least limit bs (then X K) ≡ then (operand k least limit bs X) K
operand_then k least limit bs X K = by (leb least (at bs k) && ltb (at bs k) limit)
  where
    by : (t : Bool) → when t (then X K) (fault (Operand OutOfRange) bs) ≡ then (when t X (fault (Operand OutOfRange) bs)) K
    by true = refl
    by false = refl

receiver_then : {A B : Type 0} (n : ℕ) (t : Bool) (k : ℕ) (bs : List ℕ) (X : Read A) (K : A → List ℕ → Read B) → receiver n t k bs (then X K) ≡ then (receiver n t k bs X) K
receiver_then n true k bs X K = operand_then k 0 n bs X K
receiver_then n false k bs X K = operand_then k 255 256 bs X K

module _ (signals : List ℕ) (n : ℕ) where
  abbrev code : Head → List ℕ → Read Transition
  code h l = read_code signals n h.source h.target h.signal h.receives l

  received_then : (m : ℕ) (bs : List ℕ) (c : ℕ) → read_received signals n c bs ≡ then (receivers_at signals n m bs c) code
  received_then m bs c =
      ap (receiver n (ltb 0 c) 4 bs) (receiver_then n (ltb 1 c) 5 bs (got (head_at signals n m bs c) (drop 6 bs)) code)
      ∙ receiver_then n (ltb 0 c) 4 bs (receiver n (ltb 1 c) 5 bs (got (head_at signals n m bs c) (drop 6 bs))) code

  transition_then : (m : ℕ) (bs : List ℕ) → read_transition signals n m bs ≡ then (read_head signals n m bs) code
  transition_then m bs =
      let c = parameters signals (at bs 3) in
      ap (λ X. operand 1 0 m bs (operand 2 0 m bs (operand 3 0 (length signals + 1) bs X))) (received_then m bs c)
      ∙ (ap (λ X. operand 1 0 m bs (operand 2 0 m bs X)) (operand_then 3 0 (length signals + 1) bs (receivers_at signals n m bs c) code)
      ∙ (ap (λ X. operand 1 0 m bs X) (operand_then 2 0 m bs (operand 3 0 (length signals + 1) bs (receivers_at signals n m bs c)) code)
      ∙ operand_then 1 0 m bs (operand 2 0 m bs (operand 3 0 (length signals + 1) bs (receivers_at signals n m bs c))) code))

-- operands take so many bytes
abbrev pub Drops : {A : Type 0} → ℕ → List ℕ → Read A → Type 0
Drops n bs (got x l) = l ≡ drop n bs
Drops n bs (bad f) = Unit

pub drops_operand : {A : Type 0} (n : ℕ) (bs : List ℕ) (k least limit : ℕ) (X : Read A) → Drops n bs X → Drops n bs (operand k least limit bs X)
drops_operand n bs k least limit X h = by (leb least (at bs k) && ltb (at bs k) limit)
  where
    by : (t : Bool) → Drops n bs (when t X (fault (Operand OutOfRange) bs))
    by true = h
    by false = tt

drops_receiver : {A : Type 0} (m : ℕ) (bs : List ℕ) (n : ℕ) (t : Bool) (k : ℕ) (X : Read A) → Drops m bs X → Drops m bs (receiver n t k bs X)
drops_receiver m bs n true k X h = drops_operand m bs k 0 n X h
drops_receiver m bs n false k X h = drops_operand m bs k 255 256 X h

head_six : (signals : List ℕ) (n m : ℕ) (bs : List ℕ) → Drops 6 bs (read_head signals n m bs)
head_six signals n m bs = drops_operand 6 bs 1 0 m _ (drops_operand 6 bs 2 0 m _ (drops_operand 6 bs 3 0 (length signals + 1) _
    (drops_receiver 6 bs n (ltb 0 (parameters signals (at bs 3))) 4 _ (drops_receiver 6 bs n (ltb 1 (parameters signals (at bs 3))) 5 _ refl))))

abbrev entered : TransitionEntry → ℕ → TransitionEntry
entered h j = record { kind = h.kind; source = h.source; target = h.target; signal = h.signal; first = h.first; second = h.second; guard = h.guard; effect = j }

entered_same : (h g : TransitionEntry) (j v : ℕ) → h ≡ g → j ≡ v → entered h j ≡ entered g v
entered_same h g j v p q = rw (p, q)

module _ (signals : List ℕ) (n m total number N : ℕ) (bs l0 : List ℕ) (o : Gives nothing (opened 6 128 N bs) (Ok tt) l0) (y : Bytes bs) (short : length bs ≤ total) where
  abbrev W : Read Transition
  W = turn 6 128 N bs (read_transition signals n m bs)

  abbrev E : Transition → TransitionEntry
  E t = transition_entry (placed_at number n (total - length bs) t)

  abbrev headed : List ℕ → Head → TransitionEntry
  headed l d = head_entry number (total - length l + 6) d

  there : (6 ≤ length bs) × (N < 128) × (bs ≡ l0)
  there =
      let w = went nothing (opened 6 128 N bs) tt l0 o in
      let t = turn_got 6 128 N bs (got tt bs) w.0 l0 w.1 in
      (t.0, t.1, let e = t.2 in cc)

  whole : W ≡ then (read_head signals n m l0) (code signals n)
  whole = room_in 6 bs _ there.0 ∙ (rw (lt-ltb N 128 there.1) (transition_then signals n m bs ∙ ap (λ z. then (read_head signals n m z) (code signals n)) there.2))

  module _ (h : TransitionEntry) (l1 : List ℕ) (g : Gives (headed l0) (read_head signals n m l0) (Ok h) l1) where
    head_is : (d : Head) × (W ≡ code signals n d l1) × (h ≡ headed l0 d) × (read_head signals n m l0 ≡ got d l1)
    head_is = goes_on W (read_head signals n m) (code signals n) l0 l0 whole refl (headed l0) h l1 g

    abbrev effects : Expr → List ℕ → Read Transition
    effects e l = then (read_effect signals n most_statements l) (λ cs r.
        got (record { source = head_is.0.source; target = head_is.0.target; signal = head_is.0.signal; receives = head_is.0.receives; guard = e; effect = cs }) r)

    -- the guard stands after six bytes
    guard_at : l1 ≡ drop 6 bs
    guard_at = subst (Drops 6 l0) head_is.3 (head_six signals n m l0) ∙ ap (drop 6) (sym there.2)

    module _ (l2 : List ℕ) (x : Gives nothing (read_expr deepest n l1) (Ok tt) l2) where
      guard_is : (e : Expr) × (W ≡ effects e l2) × (tt ≡ nothing e) × (read_expr deepest n l1 ≡ got e l2)
      guard_is = goes_on W (read_expr deepest n) effects l1 l1 head_is.1 refl nothing tt l2 x

      guard_size : length l1 ≡ size guard_is.0 + length l2
      guard_size =
          let r = subst (Reads (SoundExpr deepest n) expression l1) guard_is.3 (expr_reads deepest n l1 (subst Bytes (sym guard_at) (bytes_drop 6 bs y))) in
          ap length r.0 ∙ length-append (expression guard_is.0) l2

      pub made : (l3 : List ℕ) → Gives nothing (read_effect signals n most_statements l2) (Ok tt) l3 → (j : ℕ) → j ≡ total - length l2
          → Gives E W (Ok (entered h j)) l3
      made l3 x j q =
          let w = goes_on W (read_effect signals n most_statements) _ l2 l2 guard_is.1 refl nothing tt l3 x in
          let k = guard_size in
          let six = there.0 in
          let u : length l1 ≡ length bs - 6 = ap length guard_at ∙ length-drop 6 bs in
          let v : h ≡ headed bs head_is.0 = head_is.2 ∙ ap (λ l. headed l head_is.0) (sym there.2) in
          let z : j ≡ total - length bs + 6 + size guard_is.0 = omega arith in
          done E W _ l3 w.1 _ l3 (entered_same h _ j _ v z) refl
