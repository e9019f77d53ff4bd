-- What is read is what the bytes spell: of each way in which readers are put together.
use Rattle.std.proofs.Common.{◌≡◌, ℕ, suc, ◌<◌, ◌≤◌, Bool, true, false, cond, ◌&&◌, eqb, ltb, leb, List, [], ◌∷◌, ◌++◌, length, Some, None, Option, sym, refl, ◌∙◌, subst, arith, eqb-true, le-leb, leb-true}
use Rattle.level.specs.Reading.{Fault, Read, got, bad, then, when, room, at, operand, Entry, look, known}
use Rattle.level.specs.Law.{Bytes}
use Rattle.level.proofs.Fronts.{bytes_right, inside_true}

-- if something was read, its spelling stood there and it is sound
abbrev pub Reads : {A : Type 0} → (A → Type 0) → (A → List ℕ) → List ℕ → Read A → Type 0
Reads S s bs (got a l) = (bs ≡ s a ++ l) × S a
Reads S s bs (bad f) = Unit

-- a looked-up command, if there is one, has this byte
abbrev pub Named : {F : Type 0} → (F → ℕ) → ℕ → Option F → Type 0
Named lead b None = Unit
Named lead b (Some f) = lead f ≡ b

pub spelled : {A : Type 0} (S : A → Type 0) (s : A → List ℕ) (bs : List ℕ) (r : Read A) → Reads S s bs r → (a : A) (l : List ℕ) → r ≡ got a l → bs ≡ s a ++ l
spelled S s bs r h a l e = (subst (Reads S s bs) e h).0

pub reads_weaker : {A : Type 0} (S S' : A → Type 0) (s : A → List ℕ) → ((a : A) → S a → S' a) → (bs : List ℕ) (r : Read A) → Reads S s bs r → Reads S' s bs r
reads_weaker S S' s f bs (got a l) h = (h.0, f a h.1)
reads_weaker S S' s f bs (bad x) h = tt

-- whatever is said of what comes next
pub reads_on : {A B : Type 0} (S : A → Type 0) (s : A → List ℕ) (P : Read B → Type 0) → ((f : Fault) → P (bad f))
    → (bs : List ℕ) (r : Read A) (k : A → List ℕ → Read B) → Bytes bs → Reads S s bs r
    → ((a : A) (m : List ℕ) → Bytes m → bs ≡ s a ++ m → S a → P (k a m)) → P (then r k)
reads_on S s P n bs (got a l) k y h f = f a l (bytes_right (s a) l (subst Bytes h.0 y)) h.0 h.1
reads_on S s P n bs (bad x) k y h f = n x

module _ {A B : Type 0} (S : A → Type 0) (s : A → List ℕ) (S' : B → Type 0) (s' : B → List ℕ) where
  pub reads_then : (bs bs' : List ℕ) (r : Read A) (k : A → List ℕ → Read B) → Bytes bs → Reads S s bs r
      → ((a : A) (m : List ℕ) → Bytes m → bs ≡ s a ++ m → S a → Reads S' s' bs' (k a m)) → Reads S' s' bs' (then r k)
  reads_then bs bs' r k y h f = reads_on S s (Reads S' s' bs') (λ x. tt) bs r k y h f

module _ {A : Type 0} (S : A → Type 0) (s : A → List ℕ) where
  pub reads_when : (bs : List ℕ) (t : Bool) (r f : Read A) → (t ≡ true → Reads S s bs r) → Reads S s bs f → Reads S s bs (when t r f)
  reads_when bs true r f h g = h refl
  reads_when bs false r f h g = g

  pub reads_operand : (bs : List ℕ) (k least limit : ℕ) (at' : List ℕ) (r : Read A)
      → (least ≤ at at' k → at at' k < limit → Reads S s bs r) → Reads S s bs (operand k least limit at' r)
  reads_operand bs k least limit at' r h = reads_when bs (leb least (at at' k) && ltb (at at' k) limit) r _ (λ t.
      let i = inside_true least (at at' k) limit t in h i.0 i.1) tt

  pub reads_room : (k : ℕ) (bs bs' : List ℕ) (r : Read A) → (k ≤ length bs → Reads S s bs' r) → Reads S s bs' (room k bs r)
  reads_room k bs bs' r h = reads_when bs' (leb k (length bs)) r _ (λ t. h (leb-true k (length bs) t)) tt

  -- a command that a table gives stands there with its byte
  pub reads_known : {F : Type 0} (lead : F → ℕ) (bs : List ℕ) (b : ℕ) (o : Option F) (next : F → Read A)
      → Named lead b o → ((f : F) → lead f ≡ b → Reads S s bs (next f)) → Reads S s bs (known bs o next)
  reads_known lead bs b None next n h = tt
  reads_known lead bs b (Some f) next n h = h f n

module _ {F : Type 0} (lead : F → ℕ) where
  abbrev pub Right : List (Entry F) → Type 0
  Right [] = Unit
  Right (x ∷ xs) = (lead x.form ≡ x.byte) × Right xs

  named_cond : (t : Bool) (b : ℕ) (f : F) (o : Option F) → (t ≡ true → lead f ≡ b) → Named lead b o → Named lead b (cond t (Some f) o)
  named_cond true b f o h k = h refl
  named_cond false b f o h k = k

  pub named : (xs : List (Entry F)) → Right xs → (b : ℕ) → Named lead b (look xs b)
  named [] r b = tt
  named (x ∷ xs) r b = named_cond (eqb b x.byte) b x.form (look xs b) (λ t. r.0 ∙ sym (eqb-true b x.byte t)) (named xs r.1 b)

-- there are at least as many bytes as are written
pub has1 : (m : ℕ) → leb 1 (suc m) ≡ true
has1 m = le-leb 1 (suc m) (omega arith)

pub has2 : (m : ℕ) → leb 2 (suc (suc m)) ≡ true
has2 m = le-leb 2 (suc (suc m)) (omega arith)

pub has5 : (m : ℕ) → leb 5 (suc (suc (suc (suc (suc m))))) ≡ true
has5 m = le-leb 5 (suc (suc (suc (suc (suc m))))) (omega arith)
