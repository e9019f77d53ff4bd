-- What a statement does to the trails, by the command byte at its place.
use Rattle.std.proofs.Common.{◌≡◌, ℕ, ◌+◌, ◌<◌, ◌≤◌, true, List, [], ◌∷◌, length, get_or, take, drop, ℤ, Some, None, Ok, Err, Option, Result, IsErrAnd, sym, refl, ap, ◌∙◌, subst, ⊎_elim, arith, length-append}
use Rattle.std.proofs.lemmas.List.{get_or-drop, drop-drop}
use Rattle.std.proofs.lemmas.Bool.{cases_lt}
use Rattle.mail.specs.declared.message.Message.{Message}
use Rattle.mail.specs.declared.Mail.{Ghosts}
use Rattle.level.specs.Law.{Bytes}
use Rattle.level.specs.Reading.{Read, got, bad, then, at, known, order, read_expr, read_exprs, read_order}
use Rattle.level.specs.Sound.{deepest, parameters}
use Rattle.level.specs.Spelling.{expression, size, all, statement}
use Rattle.level.specs.Syntax.{Expr, Stmt, assign, store, send}
use Rattle.level.specs.Levels as level
use Rattle.level.proofs.Legible.{bytes_from}
use Rattle.level.proofs.Arms.{room_in, room_out, operand_in, operand_over, operand_under, stmt_at}
use Rattle.rules.specs.declared.fault.Cause.TheVariants.{Missing}
use Rattle.rules.specs.declared.fault.Stumble.{Stumble}
use Rattle.rules.specs.declared.fault.Why.{Why}
use Rattle.rules.specs.declared.fault.Why.TheVariants.{Stumbles}
use Rattle.rules.specs.declared.trail.Change.{Change}
use Rattle.evaluator.specs.declared.trail.Trails.{Trails}
use Rattle.evaluator.specs.declared.turn.Turn.{Turn}
use Rattle.rules.specs.Game.{message}
use Rattle.rules.specs.Names.{piece_named, cell_named}
use Rattle.rules.specs.Trace.{Own, Event, writes, sends, Trace, bind, needing, write, post, evaluate_all}
use Rattle.evaluator.specs.Meeting.{Around, around, sight_of, meet, met, own_in, step_at, message_at, there, with_lists, lists_or}
use Rattle.evaluator.specs.Reckoning.{Sight, follow, valued, legible, value_at}
use Rattle.evaluator.specs.Standing.{expression_at, expressions_at, statement_at}
use Rattle.evaluator.specs.Trails.{Lists, lists, places}
use Rattle.evaluator.proofs.Following.{follow_follow, follow_same, passed_on, halted, gone}
use Rattle.evaluator.proofs.Meeting.{value_met, values_met}
use Rattle.evaluator.proofs.Reckoned.{not_bad, V, after, ends}

module _ {M : Type 0} (mail : Ghosts M) (u : Turn M) (lent : Trails) where
  abbrev pub A : Around
  A = around mail u (places lent)

  abbrev t : Lists
  t = lists lent

  abbrev code : List ℕ
  code = level.code u.level.now

  bytes : (i : ℕ) → Bytes (drop i code)
  bytes = bytes_from u.level.now

  -- what the move sees
  abbrev pub S : Sight
  S = sight_of u t.changes

  abbrev R : ℕ → Read Expr
  R i = expression_at u.level.now deepest i

  abbrev Rs : ℕ → ℕ → Read (List Expr)
  Rs s i = expressions_at u.level.now s i

  abbrev E : List Change
  E = take A.written t.changes

  -- a change or a parcel entered, with the place after the statement
  abbrev entered : ℕ → Event → Result (Lists × ℕ) Why
  entered n e = follow (meet A t e) (λ u. Ok (u, n))

  abbrev stored : ℕ → ℕ → ℕ → ℤ → Option ℕ → Result (Lists × ℕ) Why
  stored i a n v None = Err (Stumbles (record { cause = Missing; place = i }))
  stored i a n v (Some q) = entered n (writes q a v)

  abbrev delivered : ℕ → ℕ → Message → Option ℕ → Result (Lists × ℕ) Why
  delivered i n m None = Err (Stumbles (record { cause = Missing; place = i }))
  delivered i n m (Some q) = entered n (sends q m)

  abbrev with_place : {X : Type 0} → ℕ → Result (X × Lists) Why → Result (Lists × ℕ) Why
  with_place n r = follow (follow r (λ x. Ok x.1)) (λ u. Ok (u, n))

  with_follow : {X Y : Type 0} (n : ℕ) (r : Result X Why) (k : X → Result (Y × Lists) Why) → with_place n (follow r k) ≡ follow r (λ x. with_place n (k x))
  with_follow n (Ok x) k = refl
  with_follow n (Err w) k = refl

  -- an event alone, with what is written after it
  entering : (n : ℕ) (e : Event) (o : Own) → with_place n (met A t (record { events = e ∷ []; out = Ok o })) ≡ entered n e
  entering n e o = go (meet A t e)
    where
      go : (r : Result Lists Why) → with_place {X = Own} n (follow (follow r (λ u. Ok u)) (λ u. Ok (o, u))) ≡ follow r (λ u. Ok (u, n))
      go (Ok u) = refl
      go (Err w) = refl

  abbrev VV : ℕ → Expr → Trace ℤ
  VV i e = V S bytes i e

  -- what a first expression is followed by, as value-at has it
  placed : {X : Type 0} (i : ℕ) (e : Expr) (K : ℤ × ℕ → Result X Why) → follow (valued E (VV i e)) (λ v. K (v, i + size e)) ≡ follow (follow (valued E (VV i e)) (λ v. Ok (v, i + size e))) K
  placed i e K = sym (follow_follow (valued E (VV i e)) (λ v. Ok (v, i + size e)) K)

  module _ (i : ℕ) where
    abbrev bs : List ℕ
    bs = drop i code

    abbrev Q : Read Stmt
    Q = statement_at u.level.now i

    byte : (k : ℕ) → get_or code (i + k) 0 ≡ at bs k
    byte k = sym (get_or-drop i code k 0)

    pub first : (b : ℕ) → get_or code i 0 ≡ b → at bs 0 ≡ b
    first b e = let z : i + 0 ≡ i = omega arith in sym (byte 0) ∙ ap (λ j. get_or code j 0) z ∙ e

    abbrev a : ℕ
    a = get_or code (i + 1) 0

    module _ (h : legible Q ≡ true) where
      one : 1 ≤ length bs
      one = ⊎_elim (λ k. absurd (not_bad Q _ _ (room_out 1 bs _ k) h)) (λ k. k) (cases_lt (length bs) 1)

      module _ (b0 : get_or code i 0 ≡ 0x20) where
        s0 : Q ≡ known bs (order 0x20) (read_order A.level.signals 8 bs)
        s0 = stmt_at A.level.signals 8 bs one 0x20 (first 0x20 b0)

        l2 : 2 ≤ length bs
        l2 = ⊎_elim (λ k. absurd (not_bad Q _ _ (s0 ∙ room_out 2 bs _ k) h)) (λ k. k) (cases_lt (length bs) 2)

        small : at bs 1 < 8
        small = ⊎_elim (λ k. k) (λ k. absurd (not_bad Q _ _ (s0 ∙ room_in 2 bs _ l2 ∙ operand_over 1 0 8 bs _ k) h)) (cases_lt (at bs 1) 8)

        is : Q ≡ then (R (i + 2)) (λ e l. got (assign a e) l)
        is = s0 ∙ (room_in 2 bs _ l2 ∙ (operand_in 1 0 8 bs _ (omega arith) small ∙ rw (drop-drop 2 i code, byte 1)))

        inside_of : (r : Read Expr) → legible (then r (λ e l. got (assign a e) l)) ≡ true → legible r ≡ true
        inside_of (got e l) k = refl
        inside_of (bad f) k = k

        pub assign_reads : legible (R (i + 2)) ≡ true
        assign_reads = inside_of (R (i + 2)) (subst (λ x. legible x ≡ true) is h)

        go : (r : Read Expr) → legible r ≡ true → step_at A t i (then r (λ e l. got (assign a e) l)) ≡ follow (value_at S (i + 2) r) (λ x. entered x.1 (writes A.mover a x.0))
        go (got e l) k =
            let n : i + length (statement (assign a e)) ≡ i + 2 + size e = omega arith in
            ap (with_place (i + length (statement (assign a e)))) (value_met A t A.level A.board A.mover (own_in A t) (i + 2) e (λ v. write (own_in A t) A.mover a v))
            ∙ with_follow _ (valued E (VV (i + 2) e)) _
            ∙ follow_same (valued E (VV (i + 2) e)) _ _ (λ v. entering _ (writes A.mover a v) _ ∙ ap (λ m. entered m (writes A.mover a v)) n)
            ∙ placed (i + 2) e (λ x. entered x.1 (writes A.mover a x.0))
        go (bad f) k = absurd (let y : ◌≡◌ {A = ℕ} 0 1 = cc in omega arith)

        pub assigned : step_at A t i Q ≡ follow (value_at S (i + 2) (R (i + 2))) (λ x. entered x.1 (writes A.mover a x.0))
        assigned = ap (step_at A t i) is ∙ go (R (i + 2)) assign_reads

        pub assign_halts : {w : Why} → Err w ≡ value_at S (i + 2) (R (i + 2)) → Err w ≡ step_at A t i Q
        assign_halts e = halted _ _ _ assigned _ e

        module _ {v : ℤ} {n : ℕ} (e : Ok (v, n) ≡ value_at S (i + 2) (R (i + 2))) where
          pub assign_refused : {w : Why} → Err w ≡ meet A t (writes A.mover a v) → Err w ≡ step_at A t i Q
          assign_refused f = halted _ _ _ (gone _ _ _ assigned (v, n) e) _ f

          pub assign_told : {s : Lists} → Ok s ≡ meet A t (writes A.mover a v) → Ok (s, n) ≡ step_at A t i Q
          assign_told f = sym (gone _ _ _ (gone _ _ _ assigned (v, n) e) _ f)

      module _ (b0 : get_or code i 0 ≡ 0x21) where
        s1 : Q ≡ known bs (order 0x21) (read_order A.level.signals 8 bs)
        s1 = stmt_at A.level.signals 8 bs one 0x21 (first 0x21 b0)

        m2 : 2 ≤ length bs
        m2 = ⊎_elim (λ k. absurd (not_bad Q _ _ (s1 ∙ room_out 2 bs _ k) h)) (λ k. k) (cases_lt (length bs) 2)

        below : at bs 1 < 8
        below = ⊎_elim (λ k. k) (λ k. absurd (not_bad Q _ _ (s1 ∙ room_in 2 bs _ m2 ∙ operand_over 1 0 8 bs _ k) h)) (cases_lt (at bs 1) 8)

        abbrev pair : Read Expr → Read Stmt
        pair r = then r (λ e l. then (read_expr deepest 8 l) (λ f m. got (store a e f) m))

        are : Q ≡ pair (R (i + 2))
        are = s1 ∙ (room_in 2 bs _ m2 ∙ (operand_in 1 0 8 bs _ (omega arith) below ∙ rw (drop-drop 2 i code, byte 1)))

        some : legible (pair (R (i + 2))) ≡ true
        some = subst (λ x. legible x ≡ true) are h

        first_of : (r : Read Expr) → legible (pair r) ≡ true → legible r ≡ true
        first_of (got e l) k = refl
        first_of (bad f) k = k

        last_of : (e : Expr) (r : Read Expr) → legible (then r (λ f m. got (store a e f) m)) ≡ true → legible r ≡ true
        last_of e (got f m) k = refl
        last_of e (bad f) k = k

        second_of : (r : Read Expr) → R (i + 2) ≡ r → legible (pair r) ≡ true → (v : ℤ) (m : ℕ) → Ok (v, m) ≡ value_at S (i + 2) r → legible (R m) ≡ true
        second_of (got e l) q k v m f =
            let z = ends S bytes (valued E (VV (i + 2) e)) (i + 2 + size e) v m f in
            let r = after S bytes deepest (i + 2) e l q in
            last_of e (R m) (rw (z, ← r) k)
        second_of (bad f) q k v m g = absurd (let y : ◌≡◌ {A = ℕ} 0 1 = cc in omega arith)

        pub store_second : {v : ℤ} {m : ℕ} → Ok (v, m) ≡ value_at S (i + 2) (R (i + 2)) → legible (R m) ≡ true
        store_second f = second_of (R (i + 2)) refl some _ _ f

        abbrev then_value : ℤ × ℕ → Result (Lists × ℕ) Why
        then_value x = follow (value_at S x.1 (R x.1)) (λ y. stored i a y.1 y.0 (cell_named A.level x.0 a))

        named : (n : ℕ) (w : ℤ) (o : Option ℕ) → with_place n (met A t (needing Missing i o (λ q. write (own_in A t) q a w))) ≡ stored i a n w o
        named n w None = refl
        named n w (Some q) = entering n (writes q a w) _

        rest : (e : Expr) (r : Read Expr) → R (i + 2 + size e) ≡ r → legible (then r (λ f m. got (store a e f) m)) ≡ true
            → step_at A t i (then r (λ f m. got (store a e f) m)) ≡ follow (valued E (VV (i + 2) e)) (λ v. then_value (v, i + 2 + size e))
        rest e (got f m) q k =
            let j : ℕ = i + 2 + size e in
            let o : Own = own_in A t in
            let n' : ℕ = i + length (statement (store a e f)) in
            let n : n' ≡ j + size f = let z = length-append (expression e) (expression f) in omega arith in
            ap (with_place n') (value_met A t A.level A.board A.mover o (i + 2) e (λ v. bind (VV j f) (λ w. needing Missing i (cell_named A.level v a) (λ q. write o q a w))))
            ∙ with_follow n' (valued E (VV (i + 2) e)) _
            ∙ follow_same (valued E (VV (i + 2) e)) _ _ (λ v.
            ap (with_place n') (value_met A t A.level A.board A.mover o j f (λ w. needing Missing i (cell_named A.level v a) (λ q. write o q a w)))
            ∙ with_follow n' (valued E (VV j f)) _
            ∙ follow_same (valued E (VV j f)) _ _ (λ w. named n' w (cell_named A.level v a) ∙ ap (λ b. stored i a b w (cell_named A.level v a)) n)
            ∙ placed j f (λ y. stored i a y.1 y.0 (cell_named A.level v a))
            ∙ ap (λ r. follow (value_at S j r) (λ y. stored i a y.1 y.0 (cell_named A.level v a))) (sym q))
        rest e (bad f) q k = absurd (let y : ◌≡◌ {A = ℕ} 0 1 = cc in omega arith)

        whole : (r : Read Expr) → R (i + 2) ≡ r → legible (pair r) ≡ true → step_at A t i (pair r) ≡ follow (value_at S (i + 2) r) then_value
        whole (got e l) q k =
            let r = after S bytes deepest (i + 2) e l q in
            rest e (read_expr deepest 8 l) (ap (read_expr deepest 8) (sym r)) k ∙ placed (i + 2) e then_value
        whole (bad f) q k = absurd (let y : ◌≡◌ {A = ℕ} 0 1 = cc in omega arith)

        pub stores : step_at A t i Q ≡ follow (value_at S (i + 2) (R (i + 2))) then_value
        stores = ap (step_at A t i) are ∙ whole (R (i + 2)) refl some

        pub store_halts : {w : Why} → Err w ≡ value_at S (i + 2) (R (i + 2)) → Err w ≡ step_at A t i Q
        store_halts e = halted _ _ _ stores _ e

        module _ {x : ℤ} {m : ℕ} (e : Ok (x, m) ≡ value_at S (i + 2) (R (i + 2))) where
          next : step_at A t i Q ≡ then_value (x, m)
          next = gone _ _ _ stores (x, m) e

          pub store_stops : {w : Why} → Err w ≡ value_at S m (R m) → Err w ≡ step_at A t i Q
          store_stops f = halted _ _ _ next _ f

          module _ {v : ℤ} {n : ℕ} (f : Ok (v, n) ≡ value_at S m (R m)) where
            last : (o : Option ℕ) → o ≡ cell_named A.level x a → step_at A t i Q ≡ stored i a n v o
            last o k = gone _ _ _ next (v, n) f ∙ ap (stored i a n v) (sym k)

            pub store_misses : None ≡ cell_named A.level x a → Err (Stumbles (record { cause = Missing; place = i })) ≡ step_at A t i Q
            store_misses k = sym (last None k)

            module _ (q : ℕ) (k : Some q ≡ cell_named A.level x a) where
              pub store_refused : {w : Why} → Err w ≡ meet A t (writes q a v) → Err w ≡ step_at A t i Q
              store_refused j = halted _ _ _ (last (Some q) k) _ j

              pub store_told : {s : Lists} → Ok s ≡ meet A t (writes q a v) → Ok (s, n) ≡ step_at A t i Q
              store_told j = sym (gone _ _ _ (last (Some q) k) _ j)

      module _ (b0 : get_or code i 0 ≡ 0x22) where
        s2 : Q ≡ known bs (order 0x22) (read_order A.level.signals 8 bs)
        s2 = stmt_at A.level.signals 8 bs one 0x22 (first 0x22 b0)

        k2 : 2 ≤ length bs
        k2 = ⊎_elim (λ k. absurd (not_bad Q _ _ (s2 ∙ room_out 2 bs _ k) h)) (λ k. k) (cases_lt (length bs) 2)

        over_least : 1 ≤ at bs 1
        over_least = ⊎_elim (λ k. absurd (not_bad Q _ _ (s2 ∙ room_in 2 bs _ k2 ∙ operand_under 1 1 (length A.level.signals + 1) bs _ k) h)) (λ k. k) (cases_lt (at bs 1) 1)

        under_most : at bs 1 < length A.level.signals + 1
        under_most = ⊎_elim (λ k. k) (λ k. absurd (not_bad Q _ _ (s2 ∙ room_in 2 bs _ k2 ∙ operand_over 1 1 (length A.level.signals + 1) bs _ k) h)) (cases_lt (at bs 1) (length A.level.signals + 1))

        abbrev with_all : Read Expr → Read Stmt
        with_all r = then r (λ e l. then (read_exprs (parameters A.level.signals a) 8 l) (λ es m. got (send a e es) m))

        sends_are : Q ≡ with_all (R (i + 2))
        sends_are = s2 ∙ (room_in 2 bs _ k2 ∙ (operand_in 1 1 (length A.level.signals + 1) bs _ over_least under_most ∙ rw (drop-drop 2 i code, byte 1)))

        some_all : legible (with_all (R (i + 2))) ≡ true
        some_all = subst (λ x. legible x ≡ true) sends_are h

        piece_of : (r : Read Expr) → legible (with_all r) ≡ true → legible r ≡ true
        piece_of (got e l) k = refl
        piece_of (bad f) k = k

        all_of : (e : Expr) (r : Read (List Expr)) → legible (then r (λ es m. got (send a e es) m)) ≡ true → legible r ≡ true
        all_of e (got f m) k = refl
        all_of e (bad f) k = k

        numbers_of : (r : Read Expr) → R (i + 2) ≡ r → legible (with_all r) ≡ true → (v : ℤ) (m : ℕ) → Ok (v, m) ≡ value_at S (i + 2) r → legible (Rs a m) ≡ true
        numbers_of (got e l) q k v m f =
            let z = ends S bytes (valued E (VV (i + 2) e)) (i + 2 + size e) v m f in
            let r = after S bytes deepest (i + 2) e l q in
            all_of e (Rs a m) (rw (z, ← r) k)
        numbers_of (bad f) q k v m g = absurd (let y : ◌≡◌ {A = ℕ} 0 1 = cc in omega arith)

        pub send_numbers : (v : ℤ) (m : ℕ) → Ok (v, m) ≡ value_at S (i + 2) (R (i + 2)) → legible (Rs a m) ≡ true
        send_numbers v m f = numbers_of (R (i + 2)) refl some_all v m f

        abbrev then_message : ℤ × ℕ → Result (Lists × ℕ) Why
        then_message x = follow (message_at S a x.1 (Rs a x.1)) (λ y. delivered i y.1 y.0 (piece_named A.level x.0))

        to_piece : (n : ℕ) (m : Message) (o : Option ℕ) → with_place n (met A t (needing Missing i o (λ q. post (own_in A t) q m))) ≡ delivered i n m o
        to_piece n m None = refl
        to_piece n m (Some q) = entering n (sends q m) _

        numbers : (e : Expr) (r : Read (List Expr)) → Rs a (i + 2 + size e) ≡ r → legible (then r (λ es m. got (send a e es) m)) ≡ true
            → step_at A t i (then r (λ es m. got (send a e es) m)) ≡ follow (valued E (VV (i + 2) e)) (λ v. then_message (v, i + 2 + size e))
        numbers e (got es m) q k =
            let j : ℕ = i + 2 + size e in
            let o : Own = own_in A t in
            let n' : ℕ = i + length (statement (send a e es)) in
            let n : n' ≡ j + length (all expression es) = let z = length-append (expression e) (all expression es) in omega arith in
            let W = valued E (evaluate_all A.level A.board A.mover o j es) in
            ap (with_place n') (value_met A t A.level A.board A.mover o (i + 2) e (λ v. bind (evaluate_all A.level A.board A.mover o j es) (λ vs. needing Missing i (piece_named A.level v) (λ q. post o q (message a vs)))))
            ∙ with_follow n' (valued E (VV (i + 2) e)) _
            ∙ follow_same (valued E (VV (i + 2) e)) _ _ (λ v.
            ap (with_place n') (values_met A t A.level A.board A.mover o j es (λ vs. needing Missing i (piece_named A.level v) (λ q. post o q (message a vs))))
            ∙ with_follow n' W _
            ∙ follow_same W _ _ (λ vs. to_piece n' (message a vs) (piece_named A.level v) ∙ ap (λ b. delivered i b (message a vs) (piece_named A.level v)) n)
            ∙ sym (follow_follow W (λ vs. Ok (message a vs, j + length (all expression es))) (λ y. delivered i y.1 y.0 (piece_named A.level v)))
            ∙ ap (λ r. follow (message_at S a j r) (λ y. delivered i y.1 y.0 (piece_named A.level v))) (sym q))
        numbers e (bad f) q k = absurd (let y : ◌≡◌ {A = ℕ} 0 1 = cc in omega arith)

        with_numbers : (r : Read Expr) → R (i + 2) ≡ r → legible (with_all r) ≡ true → step_at A t i (with_all r) ≡ follow (value_at S (i + 2) r) then_message
        with_numbers (got e l) q k =
            let r = after S bytes deepest (i + 2) e l q in
            numbers e (read_exprs (parameters A.level.signals a) 8 l) (ap (read_exprs (parameters A.level.signals a) 8) (sym r)) k ∙ placed (i + 2) e then_message
        with_numbers (bad f) q k = absurd (let y : ◌≡◌ {A = ℕ} 0 1 = cc in omega arith)

        pub delivers : step_at A t i Q ≡ follow (value_at S (i + 2) (R (i + 2))) then_message
        delivers = ap (step_at A t i) sends_are ∙ with_numbers (R (i + 2)) refl some_all

        pub send_halts : {w : Why} → Err w ≡ value_at S (i + 2) (R (i + 2)) → Err w ≡ step_at A t i Q
        send_halts e = halted _ _ _ delivers _ e

        -- s is the signal, as the code comes by it: `cs` are the bytes that it looks at
        module _ {cs : List ℕ} (are_code : cs ≡ code) {x : ℤ} {m : ℕ} (e : Ok (x, m) ≡ value_at S (i + 2) (R (i + 2))) where
          abbrev s : ℕ
          s = get_or cs (i + 1) 0

          of : a ≡ s
          of = ap (λ l. get_or l (i + 1) 0) (sym are_code)

          pub message_reads : legible (Rs s m) ≡ true
          message_reads = subst (λ z. legible (Rs z m) ≡ true) of (send_numbers x m e)

          then_next : step_at A t i Q ≡ follow (message_at S s m (Rs s m)) (λ y. delivered i y.1 y.0 (piece_named A.level x))
          then_next = gone _ _ _ delivers (x, m) e ∙ ap (λ z. follow (message_at S z m (Rs z m)) (λ y. delivered i y.1 y.0 (piece_named A.level x))) of

          pub send_stops : {w : Why} → Err w ≡ message_at S s m (Rs s m) → Err w ≡ step_at A t i Q
          send_stops f = halted _ _ _ then_next _ f

          module _ {v : Message} {n : ℕ} (f : Ok (v, n) ≡ message_at S s m (Rs s m)) where
            at_last : (o : Option ℕ) → o ≡ piece_named A.level x → step_at A t i Q ≡ delivered i n v o
            at_last o k = gone _ _ _ then_next (v, n) f ∙ ap (delivered i n v) (sym k)

            pub send_misses : None ≡ piece_named A.level x → Err (Stumbles (record { cause = Missing; place = i })) ≡ step_at A t i Q
            send_misses k = sym (at_last None k)

            module _ {q : ℕ} (k : Some q ≡ piece_named A.level x) where
              pub send_refused : {w : Why} → Err w ≡ meet A t (sends q v) → Err w ≡ step_at A t i Q
              send_refused j = halted _ _ _ (at_last (Some q) k) _ j

              pub send_told : {s : Lists} → Ok s ≡ meet A t (sends q v) → Ok (s, n) ≡ step_at A t i Q
              send_told j = sym (gone _ _ _ (at_last (Some q) k) _ j)

-- a refusal that is passed on says nothing of the trails
pub refused_with : {X : Type 0} (r : Result X Why) (t : Lists) {x : Result (Lists × X) Why} {w : Why} → IsErrAnd r (λ v. v ≡ w) → Err w ≡ x → with_lists r t ≡ x
refused_with r t h f = ap (λ z. with_lists z t) (passed_on r _ h) ∙ f

pub refused_or : {X : Type 0} (r : Result X Why) (t : Lists) {x : Result Lists Why} {w : Why} → IsErrAnd r (λ v. v ≡ w) → Err w ≡ x → lists_or r t ≡ x
refused_or r t h f = ap (λ z. lists_or z t) (passed_on r _ h) ∙ f

-- a name that is there, and one that is missing
pub found_named : (o : Option ℕ) (i q : ℕ) → Ok q ≡ there o i → Some q ≡ o
found_named (Some x) i q e = let z : q ≡ x = cc in ap Some z
found_named None i q e = absurd (let y : ◌≡◌ {A = ℕ} 0 1 = cc in omega arith)

pub missing_named : (o : Option ℕ) (i : ℕ) (f : Stumble) → Err f ≡ there o i → (None ≡ o) × (f ≡ record { cause = Missing; place = i })
missing_named (Some x) i f e = absurd (let y : ◌≡◌ {A = ℕ} 0 1 = cc in omega arith)
missing_named None i f e = (refl, cc)
