-- What a mail has to show, whatever it is, for the promises of putting and taking.
use Rattle.std.proofs.Common.{◌≡◌, ℕ, ◌≤◌, eqb, List, [], length, sym, refl, ap, ◌∙◌, ⊎_elim}
use mathlib.Core.List.{tail}
use mathlib.Core.Path.{fun_ext}
use Rattle.std.proofs.lemmas.Bool.{cases_eq, cond-true, cond-false, eq-eqb, ne_eqb, le-ltb}
use Rattle.std.specs.List.{insert}
use Rattle.mail.specs.declared.message.Message.{Message}
use Rattle.mail.specs.Trays.{Trays, with_tray, put_trays, take_trays}

module _ (t : Trays) (p : ℕ) where
  -- trays that differ in one at most
  pub one_changed : (t' : Trays) (l : List Message) → t' p ≡ l → ((q : ℕ) → (q ≡ p → ⊥) → t' q ≡ t q) → t' ≡ with_tray t p l
  one_changed t' l here there =
      fun_ext
      (λ q. ⊎_elim
      (λ (e : q ≡ p). rw e (here ∙ sym (cond-true (eqb p p) _ _ (eq-eqb p p refl))))
      (λ (ne : q ≡ p → ⊥). there q ne ∙ sym (cond-false (eqb q p) _ _ (ne_eqb q p ne)))
      (cases_eq q p))

  pub put_accepted :
      (t' : Trays) (limit : ℕ) (place : List Message → Message → ℕ) (m : Message)
      → p ≤ 31
      → (length (t p) ≡ limit → ⊥)
      → t' ≡ with_tray t p (insert (t p) (place (t p) m) m)
      → t' ≡ put_trays limit place t p m
  put_accepted t' limit place m here room after =
      after ∙ sym (cond-false _ _ _ (le-ltb 31 p here) ∙ cond-false _ _ _ (ne_eqb (length (t p)) limit room))

  -- a piece without a message loses none
  pub none_taken : t p ≡ [] → t ≡ take_trays t p
  none_taken none = one_changed t (tail (t p)) (none ∙ sym (ap tail none)) (λ q ne. refl)
