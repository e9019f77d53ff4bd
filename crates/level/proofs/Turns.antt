-- How the promises of readers are put together, as the code calls them one after another.
use Rattle.std.proofs.Common.{◌≡◌, ℕ, List, [], Ok, Err, Result, sym, refl, ap, ◌∙◌, subst, arith}
use Rattle.std.specs.Result.{IsErrAnd}
use Rattle.std.proofs.lemmas.Result.{err_from_is_err_and}
use Rattle.level.specs.declared.cursor.Cursor.{Cursor}
use Rattle.level.specs.declared.fault.Reason.{Reason}
use Rattle.level.specs.declared.fault.Reason.TheVariants.{Truncated}
use Rattle.level.specs.Reading.{Read, got, bad, fault, then}
use Rattle.level.specs.Readers.{answered, remains, nothing, Gives, Moves}

module _ {A B : Type 0} (f : A → B) (R : Read A) where
  -- a reader that stops, or is done, by itself
  pub stops : (why : Reason) (bs : List ℕ) → R ≡ fault why bs → (w : Reason) (l : List ℕ) → w ≡ why → l ≡ bs → Gives f R (Err w) l
  stops why bs e w l p q = record { answer = rw (e, p); rest = rw (e, q) }

  pub done : (a : A) (bs : List ℕ) → R ≡ got a bs → (b : B) (l : List ℕ) → b ≡ f a → l ≡ bs → Gives f R (Ok b) l
  done a bs e b l p q = record { answer = rw (e, p); rest = rw (e, q) }

  -- what was read where a reader answers
  pub went : (b : B) (l : List ℕ) → Gives f R (Ok b) l → (a : A) × (R ≡ got a l) × (b ≡ f a)
  went b l g = by R g.answer g.rest
    where
      by : (R : Read A) → Ok b ≡ answered f R → l ≡ remains R → (a : A) × (R ≡ got a l) × (b ≡ f a)
      by (got a m) p q = (a, rw q, cc)
      by (bad x) p q = absurd (let z : ◌≡◌ {A = ℕ} 0 1 = cc in omega arith)

  -- a refusal is handed on
  pub hands_on : {C D : Type 0} (g : C → D) (k : A → List ℕ → Read C) (e : Reason) (l : List ℕ) → Gives f R (Err e) l → Gives g (then R k) (Err e) l
  hands_on {C} {D} g k e l h = by R h.answer h.rest
    where
      by : (R : Read A) → Err e ≡ answered f R → l ≡ remains R → Gives g (then R k) (Err e) l
      by (got a m) p q = absurd (let z : ◌≡◌ {A = ℕ} 0 1 = cc in omega arith)
      by (bad x) p q = record { answer = cc; rest = q }

  -- the last call, whose answer is made into another
  pub last : {C D : Type 0} (g : C → D) (F : A → C) (h : B → D) → ((a : A) → g (F a) ≡ h (f a)) → (r : Result B Reason) (l : List ℕ) → Gives f R r l
      → (s : Result D Reason) → ((b : B) → r ≡ Ok b → s ≡ Ok (h b)) → ((e : Reason) → r ≡ Err e → s ≡ Err e) → Gives g (then R (λ a m. got (F a) m)) s l
  last {C} {D} g F h e r l p s o n = by R p.answer p.rest
    where
      by : (R : Read A) → r ≡ answered f R → l ≡ remains R → Gives g (then R (λ a m. got (F a) m)) s l
      by (got a m) u v = record { answer = o (f a) u ∙ ap Ok (sym (e a)); rest = v }
      by (bad x) u v = record { answer = n x.reason u; rest = v }

-- the last call, where only whether it was read counts
pub last_none : {A C : Type 0} (R : Read A) (F : A → C) (r : Result Unit Reason) (l : List ℕ) → Gives nothing R r l → Gives nothing (then R (λ a m. got (F a) m)) r l
last_none R F r l p = last nothing R nothing F (λ b. b) (λ a. refl) r l p r (λ b e. e) (λ x e. e)

-- A call on the bytes `x` that are `y`, within the reading R that begins with it.
module _ {A C : Type 0} (R : Read C) (F : List ℕ → Read A) (k : A → List ℕ → Read C) (x y : List ℕ) (begins : R ≡ then (F y) k) (same : x ≡ y) where
  -- it refused, and `?` hands that on
  pub broke : {B D : Type 0} (f : A → B) (g : C → D) (e : Reason) (l : List ℕ) → Gives f (F x) (Err e) l → (s : Result D Reason) → s ≡ Err e → Gives g R s l
  broke f g e l h s q = rw (begins, q) (hands_on f (F y) g k e l (subst (λ z. Gives f (F z) (Err e) l) same h))

  -- it answered, and reading goes on from there
  pub goes_on : {B : Type 0} (f : A → B) (b : B) (l : List ℕ) → Gives f (F x) (Ok b) l → (a : A) × (R ≡ k a l) × (b ≡ f a) × (F y ≡ got a l)
  goes_on f b l h =
      let w = went f (F y) b l (subst (λ z. Gives f (F z) (Ok b) l) same h) in
      (w.0, begins ∙ ap (λ z. then z k) w.1, w.2, w.1)

-- what `?` hands on is the refusal that was met
pub handed : {B : Type 0} {e : Reason} (r : Result B Reason) → IsErrAnd r (λ x. x ≡ e) → r ≡ Err e
handed r h = let p = err_from_is_err_and r h in p.1 ∙ ap Err p.2

-- so a refusal is handed on within the level
pub refused : {A B : Type 0} {f : A → B} {R : Read A} {e : Reason} {r : Result B Reason} {before after : Cursor} → IsErrAnd r (λ x. x ≡ e)
    → Gives f R (Err e) after.rest.now → after.total ≡ before.total → Moves f R r before after
refused h g s = record { gives = rw (handed _ h) g; stays = s }

-- the bytes end too soon
pub cut_off : {A B : Type 0} {f : A → B} {R : Read A} {w : Reason} {before after : Cursor} → R ≡ fault Truncated []
    → w ≡ Truncated → after.rest.now ≡ [] → after.total ≡ before.total → Moves f R (Err w) before after
cut_off k a r s = record { gives = stops _ _ _ _ k _ _ a r; stays = s }

-- it was the last, and only whether it was read counts
pub tail : {A C : Type 0} (R : Read C) (F : List ℕ → Read A) (G : A → C) (x y : List ℕ) → R ≡ then (F y) (λ a m. got (G a) m) → x ≡ y
    → (r : Result Unit Reason) (l : List ℕ) → Gives nothing (F x) r l → Gives nothing R r l
tail R F G x y e q r l h = rw e (last_none (F y) G r l (subst (λ z. Gives nothing (F z) r l) q h))

-- two calls, of which the first answered and the second is the last
pub two : {A B C : Type 0} (R : Read C) (F : List ℕ → Read A) (G : List ℕ → Read B) (K : A → B → C) (x y : List ℕ)
    → R ≡ then (F y) (λ a l. then (G l) (λ b m. got (K a b) m)) → x ≡ y
    → (l : List ℕ) → Gives nothing (F x) (Ok tt) l → (r : Result Unit Reason) (m : List ℕ) → Gives nothing (G l) r m → Gives nothing R r m
two R F G K x y e q l h r m g =
    let w = goes_on R F (λ a l. then (G l) (λ b m. got (K a b) m)) x y e q nothing tt l h in
    tail R G (K w.0) l l w.1 refl r m g
