-- One move as the published semantics of object based communicating state machines has it: a relation between configurations with
-- three rules. It knows no traces and no beats. What is added to that semantics: evaluation may stumble, trays have a limit, and a
-- message is put where the mail places it.
use Rattle.std.specs.Prelude.{◌≡◌, ℕ, true, false, cond, not, List, [], ◌∷◌, length, ℤ, pos, Some, None, Option, ◌==◌, ◌≢◌}
use Rattle.mail.specs.declared.message.Message.{Message}
use Rattle.mail.specs.Trays.{take_trays}
use Rattle.level.specs.Syntax.{Expr, constant, own_piece, own, other, binary, negation, Stmt, assign, store, send, Piece}
use Rattle.level.specs.Places.{Placed, placed}
use Rattle.level.specs.Tables.{nth}
use Rattle.rules.specs.declared.moves.Act.TheVariants.{Transition, Discard}
use Rattle.rules.specs.declared.moves.Move.{Move}
use Rattle.rules.specs.Arithmetic.{holds, truth, computed}
use Rattle.rules.specs.Game.{Game, with_state, with_number, message, put_in, Setting}
use Rattle.rules.specs.Names.{then, piece_named, cell_named, transition_of}
use Rattle.rules.specs.Order.{Among}

abbrev pub number_set : Game → ℕ → ℕ → ℤ → Game
number_set c p a v = record { states = c.states; numbers = with_number c.numbers p a v; trays = c.trays }

abbrev pub state_set : Game → ℕ → ℕ → Game
state_set c p s = record { states = with_state c.states p s; numbers = c.numbers; trays = c.trays }

-- the first message of the tray of p is gone
abbrev pub dequeued : Game → ℕ → Game
dequeued c p = record { states = c.states; numbers = c.numbers; trays = take_trays c.trays p }

-- the numbers of a message are in the attributes that a trigger names
abbrev pub filled : Game → ℕ → List ℕ → Message → Game
filled c p [] m = c
filled c p (a ∷ []) m = number_set c p a m.first
filled c p (a ∷ b ∷ l) m = number_set (number_set c p a m.first) p b m.second

-- the configuration in which p has received m by transition t
abbrev pub received : Game → ℕ → Placed → Message → Game
received c p t m = filled (dequeued c p) p t.transition.receives m

module _ (S : Setting) where
  -- an expression in the context of a configuration and a piece; none where it stumbles
  abbrev pub value : Game → ℕ → Expr → Option ℤ
  value c p (constant z) = Some z
  value c p own_piece = Some (pos p)
  value c p (own a) = Some (c.numbers p a)
  value c p (other a e) = then (value c p e) (λ v. then (cell_named S.level v a) (λ q. Some (c.numbers q a)))
  value c p (binary op e f) = then (value c p e) (λ v. then (value c p f) (λ w. computed op v w))
  value c p (negation e) = then (value c p e) (λ v. Some (truth (not (holds v))))

  abbrev pub values : Game → ℕ → List Expr → Option (List ℤ)
  values c p [] = Some []
  values c p (e ∷ es) = then (value c p e) (λ v. then (values c p es) (λ vs. Some (v ∷ vs)))

  -- a full tray takes no message
  abbrev pub sent : Game → ℕ → Message → Option Game
  sent c q m = cond (length (c.trays q) == S.limit) None
      (Some (record { states = c.states; numbers = c.numbers; trays = put_in S.place c.trays q m }))

  -- the configuration after a statement, and after all statements of an effect
  abbrev pub execute : ℕ → Stmt → Game → Option Game
  execute p (assign a e) c = then (value c p e) (λ v. Some (number_set c p a v))
  execute p (store a e f) c = then (value c p e) (λ v. then (value c p f) (λ w. then (cell_named S.level v a) (λ q. Some (number_set c q a w))))
  execute p (send s e es) c = then (value c p e) (λ v. then (values c p es) (λ vs. then (piece_named S.level v) (λ q. sent c q (message s vs))))

  abbrev pub execute_all : ℕ → List Stmt → Game → Option Game
  execute_all p [] c = Some c
  execute_all p (s ∷ ss) c = then (execute p s c) (execute_all p ss)

  -- a guard has a value, and it is true; or false
  abbrev pub Holds : Game → ℕ → Expr → Type 0
  Holds c p e = (z : ℤ) × (value c p e ≡ Some z) × (holds z ≡ true)

  abbrev pub Fails : Game → ℕ → Expr → Type 0
  Fails c p e = (z : ℤ) × (value c p e ≡ Some z) × (holds z ≡ false)

  -- Step c m c': in configuration c the move m is enabled, and it leads to c'
  pub data Step (c : Game) : Move → Game → Type 0 where
    spontaneous : {p n : ℕ} {t : Placed} {c' : Game}
        → transition_of S.level p n ≡ Some t
        → t.transition.signal ≡ 0
        → c.states p ≡ t.transition.source
        → Holds c p t.transition.guard
        → execute_all p t.transition.effect c ≡ Some c'
        → Step c (record { piece = p; act = Transition n }) (state_set c' p t.transition.target)
    triggered : {p n : ℕ} {t : Placed} {m : Message} {l : List Message} {c' : Game}
        → transition_of S.level p n ≡ Some t
        → (t.transition.signal ≢ 0)
        → c.states p ≡ t.transition.source
        → c.trays p ≡ m ∷ l
        → t.transition.signal ≡ m.signal
        → Holds (received c p t m) p t.transition.guard
        → execute_all p t.transition.effect (received c p t m) ≡ Some c'
        → Step c (record { piece = p; act = Transition n }) (state_set c' p t.transition.target)
    consumed : {p : ℕ} {x : Piece} {m : Message} {l : List Message}
        → nth S.level.pieces p ≡ Some x
        → c.trays p ≡ m ∷ l
        → ((t : Placed) → Among t (placed S.level) → t.kind ≡ x.kind → t.transition.source ≡ c.states p → t.transition.signal ≡ m.signal
        → Fails (received c p t m) p t.transition.guard)
        → Step c (record { piece = p; act = Discard }) (dequeued c p)
