-- A trace laid over the game before the move says what the published semantics says of the configuration written so far.
use Rattle.std.proofs.Common.{◌≡◌, ℕ, ◌+◌, Bool, true, false, cond, ◌≤◌, List, [], ◌∷◌, ◌++◌, length, ℤ, Some, None, Ok, Err, Option, Result, sym, refl, ap, ◌∙◌, arith}
use Rattle.std.proofs.lemmas.List.{append-nil, append_assoc}
use Rattle.mail.specs.declared.message.Message.{Message}
use Rattle.level.specs.Syntax.{Expr, constant, own_piece, own, other, binary, negation, Stmt, assign, store, send}
use Rattle.level.specs.Spelling.{size, statement}
use Rattle.level.specs.Places.{Placed, effect_place}
use Rattle.rules.specs.declared.fault.Cause.{Cause}
use Rattle.rules.specs.declared.fault.Why.{Why}
use Rattle.rules.specs.declared.fault.Why.TheVariants.{Guard}
use Rattle.rules.specs.Arithmetic.{holds}
use Rattle.rules.specs.Game.{Game, message, put_in, Setting}
use Rattle.rules.specs.Names.{then, piece_named, cell_named}
use Rattle.rules.specs.Trace.{Event, reads, writes, sends, Trace, halt, onward, bind, needing, Own, over, seen, post, receipts, receive, laid_over, evaluate, evaluate_all, run, run_all, guarded}
use Rattle.rules.specs.Single.{number_set, filled, value, values, sent, execute, execute_all}
use Rattle.rules.proofs.Trails.{weight, weight_evaluate, weight_evaluate_all}

abbrev pub told : {A : Type 0} → Result A Why → Option A
told (Ok x) = Some x
told (Err w) = None

pub then_same : {A B : Type 0} (o : Option A) (j k : A → Option B) → ((x : A) → j x ≡ k x) → then o j ≡ then o k
then_same o j k h = grind arith

then_then : {A B C : Type 0} (o : Option A) (j : A → Option B) (k : B → Option C) → then (then o j) k ≡ then o (λ x. then (j x) k)
then_then o j k = grind arith

told_needing : {A B : Type 0} (c : Cause) (at : ℕ) (o : Option A) (k : A → Trace B) → told (needing c at o k).out ≡ then o (λ x. told (k x).out)
told_needing c at o k = grind arith

pub told_bind : {A B : Type 0} (t : Trace A) (k : A → Trace B) (o : Option A) (j : A → Option B)
    → told t.out ≡ o → ((x : A) → told (k x).out ≡ j x) → told (bind t k).out ≡ then o j
told_bind t k o j h e = grind (arith, then_same)

-- the value of a cell: the own one, else the game's
abbrev laid : Option ℤ → ℤ → ℤ
laid None z = z
laid (Some v) z = v

-- the numbers of c are those of g with the own writes laid over
abbrev pub Lay : Game → Own → Game → Type 0
Lay g o c = (q a : ℕ) → c.numbers q a ≡ laid (o q a) (g.numbers q a)

told_seen : (g : Game) (q a : ℕ) (o : Option ℤ) → told (seen g q a o).out ≡ Some (laid o (g.numbers q a))
told_seen g q a o = grind arith

lay_set : (g c : Game) (o : Own) (p a : ℕ) (v : ℤ) → Lay g o c → Lay g (over o p a v) (number_set c p a v)
lay_set g c o p a v h = grind arith

pub lay_filled : (g c : Game) (o : Own) (p : ℕ) (l : List ℕ) (m : Message) → Lay g o c → Lay g (laid_over p (receipts l m) o) (filled c p l m)
lay_filled g c o p [] m h = h
lay_filled g c o p (a ∷ []) m h = lay_set g c o p a m.first h
lay_filled g c o p (a ∷ b ∷ l) m h = lay_set g (number_set c p a m.first) (over o p a m.first) p b m.second (lay_set g c o p a m.first h)

bind_bind : {A B C : Type 0} (t : Trace A) (f : A → Trace B) (k : B → Trace C) → bind (bind t f) k ≡ bind t (λ x. bind (f x) k)
bind_bind t f k = grind (arith, append_assoc)

module _ (S : Setting) where
  -- the events, carried out on a configuration
  abbrev pub replay : Game → List Event → Option Game
  replay c [] = Some c
  replay c (reads p a ∷ es) = replay c es
  replay c (writes p a v ∷ es) = replay (number_set c p a v) es
  replay c (sends q m ∷ es) = then (sent S c q m) (λ c'. replay c' es)

  -- a trace, carried out: the configuration it leaves, if it comes to its end
  abbrev pub through : {A : Type 0} → Game → Trace A → Option Game
  through c t = then (replay c t.events) (λ c'. then (told t.out) (λ x. Some c'))

  -- where nothing is written or sent
  replay_past : (c : Game) (xs ys : List Event) → weight 1 1 xs ≤ 0 → replay c (xs ++ ys) ≡ replay c ys
  replay_past c [] ys h = refl
  replay_past c (e ∷ xs) ys h = let k = λ (c : Game). replay_past c xs ys in grind arith

  pub replay_only : (c : Game) (es : List Event) → weight 1 1 es ≤ 0 → replay c es ≡ Some c
  replay_only c es h = ap (replay c) (sym (append-nil es)) ∙ replay_past c es [] h

  through_onward : {A B : Type 0} (c : Game) (es : List Event) (o : Result A Why) (k : A → Trace B) → weight 1 1 es ≤ 0 → through c (onward es o k) ≡ then (told o) (λ x. through c (k x))
  through_onward c es o k h = grind (arith, replay_past, replay_only)

  -- an evaluation changes nothing; what follows goes on with its value
  through_bind : {A B : Type 0} (c : Game) (t : Trace A) (k : A → Trace B) (o : Option A) (j : A → Option Game)
      → weight 1 1 t.events ≤ 0 → told t.out ≡ o → ((x : A) → through c (k x) ≡ j x) → through c (bind t k) ≡ then o j
  through_bind c t k o j h e f = grind (arith, then_same, through_onward)

  through_needing : {A B C : Type 0} (c : Game) (w : Cause) (at : ℕ) (o : Option A) (f : A → Trace B) (k : B → Trace C) (j : A → Option Game)
      → ((x : A) → through c (bind (f x) k) ≡ j x) → through c (bind (needing w at o f) k) ≡ then o j
  through_needing c w at o f k j h = grind arith

  module _ (g : Game) (p : ℕ) where
    module _ (c : Game) (o : Own) (lay : Lay g o c) where
      pub told_evaluate : (at : ℕ) (e : Expr) → told (evaluate S.level g p o at e).out ≡ value S c p e
      told_evaluate at (constant z) = refl
      told_evaluate at own_piece = refl
      told_evaluate at (own a) = told_seen g p a (o p a) ∙ ap Some (sym (lay p a))
      told_evaluate at (other a e) = told_bind (evaluate S.level g p o (at + 2) e) _ _ _ (told_evaluate (at + 2) e)
          (λ v. told_needing _ at (cell_named S.level v a) _ ∙ then_same (cell_named S.level v a) _ _ (λ q. told_seen g q a (o q a) ∙ ap Some (sym (lay q a))))
      told_evaluate at (binary op e f) = told_bind (evaluate S.level g p o (at + 1) e) _ _ _ (told_evaluate (at + 1) e)
          (λ v. told_bind (evaluate S.level g p o (at + 1 + size e) f) _ _ _ (told_evaluate (at + 1 + size e) f)
          (λ w. grind arith))
      told_evaluate at (negation e) = told_bind (evaluate S.level g p o (at + 1) e) _ _ _ (told_evaluate (at + 1) e) (λ v. refl)

      told_all : (at : ℕ) (es : List Expr) → told (evaluate_all S.level g p o at es).out ≡ values S c p es
      told_all at [] = refl
      told_all at (e ∷ es) = told_bind (evaluate S.level g p o at e) _ _ _ (told_evaluate at e)
          (λ v. told_bind (evaluate_all S.level g p o (at + size e) es) _ _ _ (told_all (at + size e) es) (λ vs. refl))

      -- evaluations inside a statement, which goes on with k
      module _ {B : Type 0} (k : Own → Trace B) where
        through_value : (at : ℕ) (e : Expr) (f : ℤ → Trace Own) (j : ℤ → Option Game) → ((v : ℤ) → through c (bind (f v) k) ≡ j v)
            → through c (bind (bind (evaluate S.level g p o at e) f) k) ≡ then (value S c p e) j
        through_value at e f j h = ap (through c) (bind_bind (evaluate S.level g p o at e) f k)
            ∙ through_bind c (evaluate S.level g p o at e) _ _ j (weight_evaluate 1 1 S.level g p o at e) (told_evaluate at e) h

        through_values : (at : ℕ) (es : List Expr) (f : List ℤ → Trace Own) (j : List ℤ → Option Game) → ((vs : List ℤ) → through c (bind (f vs) k) ≡ j vs)
            → through c (bind (bind (evaluate_all S.level g p o at es) f) k) ≡ then (values S c p es) j
        through_values at es f j h = ap (through c) (bind_bind (evaluate_all S.level g p o at es) f k)
            ∙ through_bind c (evaluate_all S.level g p o at es) _ _ j (weight_evaluate_all 1 1 S.level g p o at es) (told_all at es) h

    module _ (k : Own → Trace Own) (K : Game → Option Game) (on : (o : Own) (c : Game) → Lay g o c → through c (k o) ≡ K c) where
      through_post : (c : Game) (o : Own) (q : ℕ) (m : Message) → Lay g o c → through c (bind (post o q m) k) ≡ then (sent S c q m) K
      through_post c o q m lay = let k = on o (record { states = c.states; numbers = c.numbers; trays = put_in S.place c.trays q m }) lay in grind arith

      through_run : (at : ℕ) (s : Stmt) (c : Game) (o : Own) → Lay g o c → through c (bind (run S.level g p at s o) k) ≡ then (execute S p s c) K
      through_run at (assign a e) c o lay =
          through_value c o lay k (at + 2) e _ _ (λ v. on (over o p a v) (number_set c p a v) (lay_set g c o p a v lay))
          ∙ sym (then_then (value S c p e) _ K)
      through_run at (store a e f) c o lay =
          through_value c o lay k (at + 2) e _ _ (λ v. through_value c o lay k (at + 2 + size e) f _ _ (λ w.
          through_needing c _ at (cell_named S.level v a) _ k _ (λ q. on (over o q a w) (number_set c q a w) (lay_set g c o q a w lay))
          ∙ sym (then_then (cell_named S.level v a) _ K))
          ∙ sym (then_then (value S c p f) _ K))
          ∙ sym (then_then (value S c p e) _ K)
      through_run at (send s e es) c o lay =
          through_value c o lay k (at + 2) e _ _ (λ v. through_values c o lay k (at + 2 + size e) es _ _ (λ vs.
          through_needing c _ at (piece_named S.level v) _ k _ (λ q. through_post c o q (message s vs) lay)
          ∙ sym (then_then (piece_named S.level v) _ K))
          ∙ sym (then_then (values S c p es) _ K))
          ∙ sym (then_then (value S c p e) _ K)

    through_all : (at : ℕ) (ss : List Stmt) (o : Own) (c : Game) → Lay g o c → through c (run_all S.level g p at ss o) ≡ execute_all S p ss c
    through_all at [] o c lay = refl
    through_all at (s ∷ ss) o c lay =
        through_run (run_all S.level g p (at + length (statement s)) ss) (execute_all S p ss) (λ o' c' l. through_all (at + length (statement s)) ss o' c' l) at s c o lay

    -- the guard, then the effect
    abbrev pub guarded_in : Game → Placed → Option Game
    guarded_in c t = then (value S c p t.transition.guard) (λ v. cond (holds v) (execute_all S p t.transition.effect c) None)

    pub through_guarded : (t : Placed) (o : Own) (c : Game) → Lay g o c → through c (guarded S.level g p t o) ≡ guarded_in c t
    through_guarded t o c lay =
        through_bind c (evaluate S.level g p o t.guard t.transition.guard) _ _ _ (weight_evaluate 1 1 S.level g p o t.guard t.transition.guard) (told_evaluate c o lay t.guard t.transition.guard)
        (λ v. go (holds v))
      where
        go : (b : Bool) → through c (cond b (run_all S.level g p (effect_place t) t.transition.effect o) (halt Guard)) ≡ cond b (execute_all S p t.transition.effect c) None
        go true = through_all (effect_place t) t.transition.effect o c lay
        go false = refl

    pub through_receive : {B : Type 0} (l : List ℕ) (m : Message) (o : Own) (c : Game) (k : Own → Trace B)
        → through c (bind (receive p (receipts l m) o) k) ≡ through (filled c p l m) (k (laid_over p (receipts l m) o))
    through_receive [] m o c k = refl
    through_receive (a ∷ []) m o c k = refl
    through_receive (a ∷ b ∷ l) m o c k = refl
