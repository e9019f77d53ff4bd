-- What holds of each step of a trace, whatever the game, holds of whole evaluations and moves.
use Rattle.std.proofs.Common.{ℕ, ◌+◌, Bool, true, false, cond, ◌&&◌, eqb, List, [], ◌∷◌, length, ℤ, Some, None, Option}
use Rattle.mail.specs.declared.message.Message.{Message}
use Rattle.level.specs.Syntax.{Expr, constant, own_piece, own, other, binary, negation, Stmt, assign, store, send, Level}
use Rattle.level.specs.Spelling.{size, statement}
use Rattle.level.specs.Places.{Placed, effect_place}
use Rattle.rules.specs.declared.fault.Cause.{Cause}
use Rattle.rules.specs.declared.fault.Stumble.{Stumble}
use Rattle.rules.specs.declared.fault.Why.TheVariants.{Stumbles, Guard}
use Rattle.rules.specs.Arithmetic.{holds, computed}
use Rattle.rules.specs.Game.{Game}
use Rattle.rules.specs.Names.{piece_named, cell_named}
use Rattle.rules.specs.Trace.{Trace, give, halt, bind, needing, Own, no_writes, seen, write, post, Receipt, receipts, receive, laid_over, evaluate, evaluate_all, run, run_all, guarded, unwanted}
use Rattle.rules.specs.Deed.{transit}

-- P holds of each step: a value given, a stumble, a guard that stops, a look at a cell, and one trace after another
pub record Steps (P : (A : Type 0) → (Game → Trace A) → Type 0) : Type 1 where
  pub gives : {A : Type 0} (x : A) → P A (λ g. give x)
  pub stumbles : {A : Type 0} (s : Stumble) → P A (λ g. halt (Stumbles s))
  pub stops : {A : Type 0} → P A (λ g. halt Guard)
  pub looks : (p a : ℕ) (o : Option ℤ) → P ℤ (λ g. seen g p a o)
  pub binds : {A B : Type 0} (t : Game → Trace A) (k : Game → A → Trace B) → P A t → ((x : A) → P B (λ g. k g x)) → P B (λ g. bind (t g) (k g))

module _ (P : (A : Type 0) → (Game → Trace A) → Type 0) (steps : Steps P) where
  of_needing : {A B : Type 0} (c : Cause) (at : ℕ) (o : Option A) (k : Game → A → Trace B) → ((x : A) → P B (λ g. k g x)) → P B (λ g. needing c at o (k g))
  of_needing c at None k f = steps.stumbles _
  of_needing c at (Some x) k f = f x

  of_cond : {A : Type 0} (b : Bool) (t u : Game → Trace A) → P A t → P A u → P A (λ g. cond b (t g) (u g))
  of_cond true t u f h = f
  of_cond false t u f h = h

  module _ (L : Level) (p : ℕ) where
    pub of_evaluate : (o : Own) (at : ℕ) (e : Expr) → P ℤ (λ g. evaluate L g p o at e)
    of_evaluate o at (constant z) = steps.gives z
    of_evaluate o at own_piece = steps.gives _
    of_evaluate o at (own a) = steps.looks p a (o p a)
    of_evaluate o at (other a e) = steps.binds _ _ (of_evaluate o (at + 2) e) (λ v. of_needing _ at (cell_named L v a) _ (λ q. steps.looks q a (o q a)))
    of_evaluate o at (binary op e f) = steps.binds _ _ (of_evaluate o (at + 1) e)
        (λ v. steps.binds _ _ (of_evaluate o (at + 1 + size e) f) (λ w. of_needing _ at (computed op v w) _ (λ z. steps.gives z)))
    of_evaluate o at (negation e) = steps.binds _ _ (of_evaluate o (at + 1) e) (λ v. steps.gives _)

    pub of_evaluate_all : (o : Own) (at : ℕ) (es : List Expr) → P (List ℤ) (λ g. evaluate_all L g p o at es)
    of_evaluate_all o at [] = steps.gives []
    of_evaluate_all o at (e ∷ es) = steps.binds _ _ (of_evaluate o at e) (λ v. steps.binds _ _ (of_evaluate_all o (at + size e) es) (λ vs. steps.gives _))

    pub of_unwanted : (k s : ℕ) (m : Message) (ts : List Placed) → P Own (λ g. unwanted L g p k s m ts)
    of_unwanted k s m [] = steps.gives _
    of_unwanted k s m (t ∷ ts) = of_cond (eqb t.kind k && (eqb t.transition.source s && eqb t.transition.signal m.signal)) _ _
        (steps.binds _ _ (of_evaluate (laid_over p (receipts t.transition.receives m) no_writes) t.guard t.transition.guard)
        (λ v. of_cond (holds v) _ _ steps.stops (of_unwanted k s m ts)))
        (of_unwanted k s m ts)

    -- with what a move writes and sends
    module _ (writes : (o : Own) (q a : ℕ) (v : ℤ) → P Own (λ g. write o q a v)) (posts : (o : Own) (q : ℕ) (m : Message) → P Own (λ g. post o q m)) where
      of_run : (at : ℕ) (c : Stmt) (o : Own) → P Own (λ g. run L g p at c o)
      of_run at (assign a e) o = steps.binds _ _ (of_evaluate o (at + 2) e) (λ v. writes o p a v)
      of_run at (store a e f) o = steps.binds _ _ (of_evaluate o (at + 2) e)
          (λ v. steps.binds _ _ (of_evaluate o (at + 2 + size e) f) (λ w. of_needing _ at (cell_named L v a) _ (λ q. writes o q a w)))
      of_run at (send s e es) o = steps.binds _ _ (of_evaluate o (at + 2) e)
          (λ v. steps.binds _ _ (of_evaluate_all o (at + 2 + size e) es) (λ vs. of_needing _ at (piece_named L v) _ (λ q. posts o q _)))

      of_run_all : (at : ℕ) (cs : List Stmt) (o : Own) → P Own (λ g. run_all L g p at cs o)
      of_run_all at [] o = steps.gives o
      of_run_all at (c ∷ cs) o = steps.binds _ _ (of_run at c o) (λ o'. of_run_all (at + length (statement c)) cs o')

      of_guarded : (t : Placed) (o : Own) → P Own (λ g. guarded L g p t o)
      of_guarded t o = steps.binds _ _ (of_evaluate o t.guard t.transition.guard) (λ v. of_cond (holds v) _ _ (of_run_all (effect_place t) t.transition.effect o) steps.stops)

      of_receive : (rs : List Receipt) (o : Own) → P Own (λ g. receive p rs o)
      of_receive [] o = steps.gives o
      of_receive (r ∷ rs) o = steps.binds _ _ (writes o p r.into r.value) (λ o'. of_receive rs o')

      pub of_transit : (t : Placed) (b : Bool) (m : Option Message) → P Own (λ g. transit L g p t b m)
      of_transit t true m = of_guarded t no_writes
      of_transit t false None = steps.gives no_writes
      of_transit t false (Some m) = steps.binds _ _ (of_receive (receipts t.transition.receives m) no_writes) (λ o. of_guarded t o)
