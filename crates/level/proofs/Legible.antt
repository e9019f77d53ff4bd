-- The code of a level in memory, read with as many numbers as any kind may have, and what is left after each part of it.
use Rattle.std.proofs.Common.{◌≡◌, ℕ, zero, suc, ◌+◌, ◌≤◌, List, [], ◌∷◌, ◌++◌, length, drop, Some, sym, refl, ap, ◌∙◌, subst, arith}
use Rattle.std.proofs.lemmas.List.{drop_at}
use Rattle.level.specs.declared.store.Level.{Level}
use Rattle.level.specs.Syntax.{Expr, constant, own_piece, own, other, binary, negation, Stmt, assign, store, send, Transition, Kind}
use Rattle.level.specs.Spelling.{all, expression, statement, effect, transition, kind, size}
use Rattle.level.specs.Sound.{Each, deepest, most_statements, SoundExpr, SoundStmt, SoundKind}
use Rattle.level.specs.Reading.{Read, got, read_expr, read_exprs, read_stmt, read_effect}
use Rattle.level.specs.Places.{Placed, effect_place, in_kind, in_kinds, placed, Stands}
use Rattle.level.specs.Tables.{nth}
use Rattle.level.specs.Levels.{code, meaning}
use Rattle.level.specs.Law.{Bytes}
use Rattle.level.proofs.Fronts.{bytes_drop}
use Rattle.level.proofs.Steps.{Reads, spelled}
use Rattle.level.proofs.Expressions.{expr_reads, expr_read, exprs_reads}
use Rattle.level.proofs.Effects.{stmt_reads, SoundEffect, effect_reads, effect_read}
use Rattle.level.proofs.Standing.{each_append, stands}
use Rattle.level.proofs.Held.{held_sound, held_spelling}

-- what is left follows the spelling of what was read
rest_of : {A : Type 0} (S : A → Type 0) (s : A → List ℕ) (bs : List ℕ) (r : Read A) → Reads S s bs r → (a : A) (l : List ℕ) → r ≡ got a l → l ≡ drop (length (s a)) bs
rest_of S s bs r h a l e = sym (ap (drop (length (s a))) (spelled S s bs r h a l e) ∙ drop_at (s a) l (length (s a)) refl)

pub expr_rest : (d n : ℕ) (bs : List ℕ) → Bytes bs → (e : Expr) (r : List ℕ) → read_expr d n bs ≡ got e r → r ≡ drop (size e) bs
expr_rest d n bs y e r h = rest_of _ expression bs (read_expr d n bs) (expr_reads d n bs y) e r h

pub exprs_rest : (k n : ℕ) (bs : List ℕ) → Bytes bs → (es : List Expr) (r : List ℕ) → read_exprs k n bs ≡ got es r → r ≡ drop (length (all expression es)) bs
exprs_rest k n bs y es r h = rest_of _ (all expression) bs (read_exprs k n bs) (exprs_reads k n bs y) es r h

pub stmt_rest : (signals : List ℕ) (n : ℕ) (bs : List ℕ) → Bytes bs → (c : Stmt) (r : List ℕ) → read_stmt signals n bs ≡ got c r → r ≡ drop (length (statement c)) bs
stmt_rest signals n bs y c r h = rest_of _ statement bs (read_stmt signals n bs) (stmt_reads signals n bs y) c r h

-- what was read is read alike by any reader of its spelling
again : {A : Type 0} (S : A → Type 0) (s : A → List ℕ) (reader : List ℕ → Read A) → ((a : A) (l : List ℕ) → S a → reader (s a ++ l) ≡ got a l)
    → (bs : List ℕ) (r : Read A) → Reads S s bs r → (a : A) (l : List ℕ) → r ≡ got a l → reader bs ≡ got a l
again S s reader f bs r h a l e = ap reader (spelled S s bs r h a l e) ∙ f a l (subst (Reads S s bs) e h).1

each_weaker : {A : Type 0} (P Q : A → Type 0) → ((x : A) → P x → Q x) → (xs : List A) → Each P xs → Each Q xs
each_weaker P Q f [] h = tt
each_weaker P Q f (x ∷ xs) h = (f x h.0, each_weaker P Q f xs h.1)

each_at : {A : Type 0} (P : A → Type 0) (xs : List A) (n : ℕ) (x : A) → Each P xs → nth xs n ≡ Some x → P x
each_at P [] n x h e = absurd (let z : ◌≡◌ {A = ℕ} 0 1 = cc in omega arith)
each_at P (y ∷ xs) zero x h e = let q : y ≡ x = cc in subst P q h.0
each_at P (y ∷ xs) (suc n) x h e = each_at P xs n x h.1 e

-- sound with some numbers, sound with more
module _ (n m : ℕ) (more : n ≤ m) where
  wider_expr : (d : ℕ) (e : Expr) → SoundExpr d n e → SoundExpr d m e
  wider_expr zero e s = s
  wider_expr (suc d) (constant z) s = s
  wider_expr (suc d) own_piece s = tt
  wider_expr (suc d) (own a) s = omega arith
  wider_expr (suc d) (other a e) s = (s.0, wider_expr d e s.1)
  wider_expr (suc d) (binary op e f) s = (wider_expr d e s.0, wider_expr d f s.1)
  wider_expr (suc d) (negation e) s = wider_expr d e s

  wider_stmt : (signals : List ℕ) (c : Stmt) → SoundStmt signals n c → SoundStmt signals m c
  wider_stmt signals (assign a e) s = (let h = s.0 in omega arith, wider_expr deepest e s.1)
  wider_stmt signals (store a e f) s = (s.0, wider_expr deepest e s.1, wider_expr deepest f s.2)
  wider_stmt signals (send x e es) s = (s.0, s.1, wider_expr deepest e s.2, s.3, each_weaker _ _ (wider_expr deepest) es s.4)

-- no kind has more than eight numbers
few_in_kind : (k n i : ℕ) (ts : List Transition) → n ≤ 8 → Each (λ t. t.numbers ≤ 8) (in_kind k n i ts)
few_in_kind k n i [] h = tt
few_in_kind k n i (t ∷ ts) h = (h, few_in_kind k n (i + length (transition t)) ts h)

few_in_kinds : (signals : List ℕ) (k i : ℕ) (xs : List Kind) → Each (SoundKind signals) xs → Each (λ t. t.numbers ≤ 8) (in_kinds k i xs)
few_in_kinds signals k i [] h = tt
few_in_kinds signals k i (x ∷ xs) h = each_append _ (in_kind k x.numbers (i + 3) x.transitions) _
    (few_in_kind k x.numbers (i + 3) x.transitions h.0.numbers) (few_in_kinds signals (k + 1) (i + length (kind x)) xs h.1)

pub bytes_from : (l : Level) (i : ℕ) → Bytes (drop i (code l))
bytes_from l i = bytes_drop i (code l) l.octets

-- its guard and its effect stand at their places and read to their ends, whatever its kind
pub record Legible (l : Level) (t : Placed) : Type 0 where
  pub rest : List ℕ
  pub guard : read_expr deepest 8 (drop t.guard (code l)) ≡ got t.transition.guard (drop (effect_place t) (code l))
  pub effect : read_effect (meaning l).signals 8 most_statements (drop (effect_place t) (code l)) ≡ got t.transition.effect rest

wide_stands : (l : Level) (t : Placed) → t.numbers ≤ 8 → Stands (meaning l).signals (code l) t → Legible l t
wide_stands l t h s = let ss = (meaning l).signals in let n = t.numbers in record {
  rest = s.rest;
  guard = again (SoundExpr deepest n) expression (read_expr deepest 8) (λ e r v. expr_read deepest 8 e r (wider_expr n 8 h deepest e v))
      (drop t.guard (code l)) _ (expr_reads deepest n _ (bytes_from l t.guard)) _ _ s.guard;
  effect = again (SoundEffect ss n most_statements) effect (read_effect ss 8 most_statements) (λ cs r v. effect_read ss 8 most_statements cs r v.0 (each_weaker _ _ (wider_stmt n 8 h ss) cs v.1))
      (drop (effect_place t) (code l)) _ (effect_reads ss n most_statements _ (bytes_from l (effect_place t))) _ _ s.effect;
}

pub legible : (l : Level) (n : ℕ) (t : Placed) → nth (placed (meaning l)) n ≡ Some t → Legible l t
legible l n t e = wide_stands l t
    (each_at _ (placed (meaning l)) n t (few_in_kinds (meaning l).signals 0 _ (meaning l).kinds (held_sound l).kinds) e)
    (subst (λ bs. Stands (meaning l).signals bs t) (held_spelling l) (each_at _ (placed (meaning l)) n t (stands (meaning l) (held_sound l)) e))
