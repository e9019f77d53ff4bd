-- How long a tray is after a call on any mail.
use Rattle.std.proofs.Common.{◌≡◌, ℕ, ◌+◌, ◌<◌, ◌≤◌, Bool, true, false, cond, eqb, List, [], ◌∷◌, length, Ok, Err, Result, refl, ap, ◌∙◌, arith}
use mathlib.Core.List.{tail}
use Rattle.std.proofs.lemmas.List.Edits.{length-insert}
use Rattle.std.proofs.lemmas.Bool.{cond-true, eq-eqb}
use Rattle.mail.specs.declared.fault.MailFault.{MailFault}
use Rattle.mail.specs.declared.fault.MailFault.TheVariants.{NoPiece, Full, Empty}
use Rattle.mail.specs.declared.message.Message.{Message}
use Rattle.mail.specs.Trays.{Trays, no_piece, taken, front, put_answer, put_trays, take_answer, take_trays}

-- where a call was accepted, its trays are those of the last way
last_way :
    (a b : Bool) (t t' : Trays)
    → ◌≡◌ {A = Result (Unit {0}) MailFault} (Ok tt) (cond a (Err NoPiece) (cond b (Err Full) (Ok tt)))
    → cond a t (cond b t t') ≡ t'
last_way true b t t' e = let z : ◌≡◌ {A = ℕ} 0 1 = cc in absurd (omega arith)
last_way false true t t' e = let z : ◌≡◌ {A = ℕ} 0 1 = cc in absurd (omega arith)
last_way false false t t' e = refl

changed_at : (t : Trays) (p : ℕ) (l : List Message) → cond (eqb p p) l (t p) ≡ l
changed_at t p l = cond-true (eqb p p) l (t p) (eq-eqb p p refl)

pub put_longer :
    (limit : ℕ) (place : List Message → Message → ℕ) (t : Trays) (p : ℕ) (m : Message)
    → ((l : List Message) (n : Message) → place l n ≤ length l)
    → Ok tt ≡ put_answer limit t p
    → length (put_trays limit place t p m p) ≡ length (t p) + 1
put_longer limit place t p m within accepted =
    ap (λ (t' : Trays). length (t' p)) (last_way (no_piece p) (eqb (length (t p)) limit) t _ accepted)
    ∙ ap length (changed_at t p _)
    ∙ length-insert (t p) (place (t p) m) m (within (t p) m)

not_empty : (a : Bool) (l : List Message) → 0 < length l → cond a (Err NoPiece) (taken (front l)) ≡ Err Empty → ⊥
not_empty true l h e = let z : ◌≡◌ {A = ℕ} 0 1 = cc in omega arith
not_empty false [] h e = omega arith
not_empty false (x ∷ l) h e = let z : ◌≡◌ {A = ℕ} 0 1 = cc in omega arith

shorter : (l : List Message) → 0 < length l → length (tail l) + 1 ≡ length l
shorter [] h = absurd (omega arith)
shorter (x ∷ l) h = omega arith

module _ (t : Trays) (p : ℕ) (some : 0 < length (t p)) where
  pub take_some : take_answer t p ≡ Err Empty → ⊥
  take_some = not_empty (no_piece p) (t p) some

  pub take_shorter : length (take_trays t p p) + 1 ≡ length (t p)
  take_shorter = let e = ap length (changed_at t p (tail (t p))) in let h = shorter (t p) some in omega arith
