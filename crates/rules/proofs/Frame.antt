-- What a move does depends on its piece's state, on the message that it takes, and on the cells that it reads.
use Rattle.std.proofs.Common.{◌≡◌, ℕ, Bool, true, false, not, List, [], ◌∷◌, ◌++◌, Option, refl, arith}
use Rattle.mail.specs.declared.message.Message.{Message}
use Rattle.mail.specs.Trays.{front}
use Rattle.level.specs.Syntax.{Piece, Level}
use Rattle.level.specs.Places.{Placed}
use Rattle.rules.specs.declared.moves.Move.{Move}
use Rattle.rules.specs.Game.{Game}
use Rattle.rules.specs.Trace.{Event, Trace, bind, unwanted}
use Rattle.rules.specs.Deed.{transit, transit_by, transit_deed, discard_deed, deed, cell_read}
use Rattle.rules.proofs.Steps.{Steps, of_unwanted, of_transit}
use Rattle.rules.proofs.Split.{Frame}

read_left : (xs ys : List Event) (p a : ℕ) → cell_read xs p a ≡ true → cell_read (xs ++ ys) p a ≡ true
read_left [] ys p a h = cc
read_left (e ∷ xs) ys p a h = let k = read_left xs ys p a in grind arith

read_right : (xs ys : List Event) (p a : ℕ) → cell_read ys p a ≡ true → cell_read (xs ++ ys) p a ≡ true
read_right [] ys p a h = h
read_right (e ∷ xs) ys p a h = let k = read_right xs ys p a in grind arith

-- h has the values of g at all cells that the events read
abbrev pub Agree : Game → Game → List Event → Type 0
Agree g h es = (p a : ℕ) → cell_read es p a ≡ true → h.numbers p a ≡ g.numbers p a

abbrev pub Framed : {A : Type 0} → (Game → Trace A) → Type 0
Framed t = (g h : Game) → Agree g h (t g).events → t h ≡ t g

framed_bind : {A B : Type 0} (t : Game → Trace A) (k : Game → A → Trace B) → Framed t → ((x : A) → Framed (λ g. k g x)) → Framed (λ g. bind (t g) (k g))
framed_bind t k f j g h e = let u = f g h in let v = λ (x : _). j x g h in grind (arith, read_left, read_right)

framed_steps : Steps (λ A t. Framed t)
framed_steps = record {
  gives = λ x g h e. refl;
  stumbles = λ s g h e. refl;
  stops = λ g h e. refl;
  looks = λ p a o g h e. grind arith;
  binds = framed_bind;
}

module _ (L : Level) (p : ℕ) where
  pub framed_unwanted : (k s : ℕ) (m : Message) (ts : List Placed) → Framed (λ g. unwanted L g p k s m ts)
  framed_unwanted = of_unwanted _ framed_steps L p

  pub framed_transit : (t : Placed) (b : Bool) (m : Option Message) → Framed (λ g. transit L g p t b m)
  framed_transit = of_transit _ framed_steps L p (λ o q a v g h e. refl) (λ o q m g h e. refl)

  transit_same : (g h : Game) (t : Placed) (b : Bool) → h.states p ≡ g.states p → (not b ≡ true → front (h.trays p) ≡ front (g.trays p))
      → Agree g h (transit L g p t b (front (g.trays p))).events
      → transit_by L h p t b (front (h.trays p)) ≡ transit_by L g p t b (front (g.trays p))
  transit_same g h t true e f k = rw (e, framed_transit t true (front (g.trays p)) g h k)
  transit_same g h t false e f k = rw (e, f refl, framed_transit t false (front (g.trays p)) g h k)

  transit_frame : (g h : Game) (o : Option Placed) → h.states p ≡ g.states p
      → ((transit_deed L g p o).takes ≡ true → front (h.trays p) ≡ front (g.trays p))
      → Agree g h (transit_deed L g p o).events → transit_deed L h p o ≡ transit_deed L g p o
  transit_frame g h o e f u = grind (arith, transit_same)

  discard_frame : (g h : Game) (o : Option Piece) → h.states p ≡ g.states p
      → ((discard_deed L g p o).takes ≡ true → front (h.trays p) ≡ front (g.trays p))
      → Agree g h (discard_deed L g p o).events → discard_deed L h p o ≡ discard_deed L g p o
  discard_frame g h o e f u = grind (arith, framed_unwanted)

-- a deed's mover is the piece of its move
pub mover : (L : Level) (g : Game) (m : Move) → (deed L g m).mover ≡ m.piece
mover L g m = grind arith

pub frame : (L : Level) → Frame (deed L)
frame L g h m e f k = grind (arith, transit_frame, discard_frame)
