-- The game after a beat, piece by piece and cell by cell.
use Rattle.std.proofs.Common.{◌≡◌, ℕ, cond, eqb, List, [], ◌∷◌, ◌++◌, ℤ, refl, ap, ◌∙◌, arith}
use mathlib.Core.List.{tail}
use Rattle.std.proofs.lemmas.Bool.Decides.{nat_tests}
use Rattle.std.specs.List.{insert, fold}
use Rattle.mail.specs.declared.message.Message.{Message}
use Rattle.mail.specs.Trays.{Trays, take_trays}
use Rattle.rules.specs.declared.trail.Change.{Change}
use Rattle.rules.specs.declared.trail.Parcel.{Parcel}
use Rattle.rules.specs.Game.{Numbers, Game, same, with_state, with_number, put_in}
use Rattle.rules.specs.Trace.{Event, reads, writes, sends}
use Rattle.rules.specs.Deed.{Deed, takes_from}
use Rattle.rules.specs.Beat.{changes_of, parcels_of, changes, parcels, moved_on, changed, taken_from, delivered, outcome}

abbrev pub state_after : List Deed → ℕ → ℕ → ℕ
state_after ds p z = fold (λ z d. cond (eqb d.mover p) d.target z) z ds

abbrev pub value_in : List Event → ℕ → ℕ → ℤ → ℤ
value_in [] p a z = z
value_in (reads q b ∷ es) p a z = value_in es p a z
value_in (writes q b v ∷ es) p a z = value_in es p a (cond (same q b p a) v z)
value_in (sends q m ∷ es) p a z = value_in es p a z

abbrev pub value_after : List Deed → ℕ → ℕ → ℤ → ℤ
value_after ds p a z = fold (λ z d. value_in d.events p a z) z ds

abbrev pub left_after : List Deed → ℕ → List Message → List Message
left_after ds q l = fold (λ l d. cond (takes_from d q) (tail l) l) l ds

module _ (place : List Message → Message → ℕ) where
  abbrev pub put : List Message → Message → List Message
  put l m = insert l (place l m) m

  abbrev pub puts_in : List Event → ℕ → List Message → List Message
  puts_in [] r l = l
  puts_in (reads q b ∷ es) r l = puts_in es r l
  puts_in (writes q b v ∷ es) r l = puts_in es r l
  puts_in (sends q m ∷ es) r l = puts_in es r (cond (eqb q r) (put l m) l)

  abbrev pub puts_after : List Deed → ℕ → List Message → List Message
  puts_after ds r l = fold (λ l d. puts_in d.events r l) l ds

  abbrev pub ending : Game → List Deed → Game
  ending g ds = record {
    states = λ p. state_after ds p (g.states p);
    numbers = λ p a. value_after ds p a (g.numbers p a);
    trays = λ q. puts_after ds q (left_after ds q (g.trays q));
  }

  states_at : (f : ℕ → ℕ) (ds : List Deed) (p : ℕ) → moved_on f ds p ≡ state_after ds p (f p)
  states_at f [] p = refl
  states_at f (d ∷ ds) p = states_at (with_state f d.mover d.target) ds p

  changed_append : (f : Numbers) (xs ys : List Change) → changed f (xs ++ ys) ≡ changed (changed f xs) ys
  changed_append f [] ys = refl
  changed_append f (x ∷ xs) ys = changed_append (with_number f x.piece x.number x.value) xs ys

  numbers_in : (f : Numbers) (es : List Event) (p a : ℕ) → changed f (changes_of es) p a ≡ value_in es p a (f p a)
  numbers_in f [] p a = refl
  numbers_in f (e ∷ es) p a = let k = λ (f : Numbers). numbers_in f es p a in grind arith

  numbers_at : (f : Numbers) (ds : List Deed) (p a : ℕ) → changed f (changes ds) p a ≡ value_after ds p a (f p a)
  numbers_at f [] p a = refl
  numbers_at f (d ∷ ds) p a = let k = numbers_at (changed f (changes_of d.events)) ds p a in grind (arith, changed_append, numbers_in)

  pub taken_at : (t : Trays) (d : Deed) (q : ℕ) → cond d.takes (take_trays t d.mover) t q ≡ cond (takes_from d q) (tail (t q)) (t q)
  taken_at t d q = grind (arith, nat_tests)

  left_at : (t : Trays) (ds : List Deed) (q : ℕ) → taken_from t ds q ≡ left_after ds q (t q)
  left_at t [] q = refl
  left_at t (d ∷ ds) q = left_at (cond d.takes (take_trays t d.mover) t) ds q ∙ ap (left_after ds q) (taken_at t d q)

  pub put_at : (t : Trays) (p q : ℕ) (m : Message) → put_in place t p m q ≡ cond (eqb p q) (put (t q) m) (t q)
  put_at t p q m = grind (arith, nat_tests)

  delivered_append : (t : Trays) (xs ys : List Parcel) → delivered place t (xs ++ ys) ≡ delivered place (delivered place t xs) ys
  delivered_append t [] ys = refl
  delivered_append t (x ∷ xs) ys = delivered_append (put_in place t x.piece x.message) xs ys

  parcels_in : (t : Trays) (es : List Event) (q : ℕ) → delivered place t (parcels_of es) q ≡ puts_in es q (t q)
  parcels_in t [] q = refl
  parcels_in t (e ∷ es) q = let k = λ (t : Trays). parcels_in t es q in grind (arith, put_at)

  parcels_at : (t : Trays) (ds : List Deed) (q : ℕ) → delivered place t (parcels ds) q ≡ puts_after ds q (t q)
  parcels_at t [] q = refl
  parcels_at t (d ∷ ds) q = let k = parcels_at (delivered place t (parcels_of d.events)) ds q in grind (arith, delivered_append, parcels_in)

  pub points : (g : Game) (ds : List Deed) → outcome place g ds ≡ ending g ds
  points g ds = λ i. record {
    states = λ p. states_at g.states ds p i;
    numbers = λ p a. numbers_at g.numbers ds p a i;
    trays = λ q. (parcels_at (taken_from g.trays ds) ds q ∙ ap (puts_after ds q) (left_at g.trays ds q)) i;
  }
