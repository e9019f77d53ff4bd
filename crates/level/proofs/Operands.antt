-- An operand, as the code checks it.
use Rattle.std.proofs.Common.{◌≡◌, ℕ, Bool, true, false, cond, ◌&&◌, ltb, leb, List, Ok, Err, Result, refl, arith}
use Rattle.level.specs.declared.fault.OperandFault.{OperandFault}
use Rattle.level.specs.declared.fault.OperandFault.TheVariants.{OutOfRange}
use Rattle.level.specs.declared.fault.Reason.TheVariants.{Operand}
use Rattle.level.specs.Reading.{Read, fault, when, at, operand}

module _ (bs : List ℕ) (k least limit : ℕ) where
  -- what checking an operand promises, of the value `w` that is made of it
  abbrev pub Checked : {W : Type 0} → W → Result W OperandFault → Type 0
  Checked w r = r ≡ cond (leb least (at bs k) && ltb (at bs k) limit) (Ok w) (Err OutOfRange)

  pub value : {W : Type 0} (w x : W) → Checked w (Ok x) → x ≡ w
  value w x e = by (leb least (at bs k) && ltb (at bs k) limit) e
    where
      by : (t : Bool) → Ok x ≡ cond t (Ok w) (Err OutOfRange) → x ≡ w
      by true e = cc
      by false e = absurd (let z : ◌≡◌ {A = ℕ} 0 1 = cc in omega arith)

  pub passes : {W A : Type 0} (w x : W) → Checked w (Ok x) → (X : Read A) → operand k least limit bs X ≡ X
  passes {W} w x e X = by (leb least (at bs k) && ltb (at bs k) limit) e
    where
      by : (t : Bool) → ◌≡◌ {A = Result W OperandFault} (Ok x) (cond t (Ok w) (Err OutOfRange)) → when t X (fault (Operand OutOfRange) bs) ≡ X
      by true e = refl
      by false e = absurd (let z : ◌≡◌ {A = ℕ} 0 1 = cc in omega arith)

  pub fails : {W A : Type 0} (w : W) (f : OperandFault) → Checked w (Err f) → (X : Read A) → operand k least limit bs X ≡ fault (Operand f) bs
  fails {W} w f e X = by (leb least (at bs k) && ltb (at bs k) limit) e
    where
      by : (t : Bool) → ◌≡◌ {A = Result W OperandFault} (Err f) (cond t (Ok w) (Err OutOfRange)) → when t X (fault (Operand OutOfRange) bs) ≡ fault (Operand f) bs
      by true e = absurd (let z : ◌≡◌ {A = ℕ} 0 1 = cc in omega arith)
      by false e = let q : f ≡ OutOfRange = cc in rw q
