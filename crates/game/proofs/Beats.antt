-- The moves of a beat, judged one after the other.
use Rattle.std.proofs.Common.{◌≡◌, ℕ, suc, ◌+◌, ◌≤◌, Bool, true, false, List, [], ◌∷◌, map, length, is_ok, Ok, Err, Result, sym, refl, ap, ◌∙◌, append_assoc, append-nil, arith, length-append}
use Rattle.level.specs.Sound.{Sound}
use Rattle.level.specs.Syntax.{Level}
use Rattle.rules.specs.declared.fault.Why.{Why}
use Rattle.rules.specs.declared.moves.Move.{Move}
use Rattle.rules.specs.Beat.{Earlier, nothing, and_so, judge, judge_all, in_turn, changes_of, parcels_of, changes, parcels}
use Rattle.rules.specs.Checks.{Check, pass, fail}
use Rattle.rules.specs.Deed.{Deed, deed}
use Rattle.rules.specs.Game.{Game}
use Rattle.rules.proofs.Trails.{trails_suffice}
use Rattle.evaluator.specs.Judging.{grown, checked, earlier_of}
use Rattle.evaluator.specs.Meeting.{lists_or}
use Rattle.evaluator.specs.Trails.{Lists}
use Rattle.game.specs.Judged.{all_lists, empty, judged_by, all_judged_by, lists_if}

-- a move that the trails show as accepted or refused was judged so
passes : {X : Type 0} (r : Result X Why) (u v : Lists) (c : Check Why) → lists_or r u ≡ checked c v → is_ok r ≡ true → (c ≡ pass) × (u ≡ v)
passes (Ok x) u v pass e k = (refl, cc)
passes (Ok x) u v (fail w) e k = absurd (let y : ◌≡◌ {A = ℕ} 0 1 = cc in omega arith)
passes (Err w) u v c e k = absurd (let y : ◌≡◌ {A = ℕ} 0 1 = cc in omega arith)

fails : (w : Why) (v : Lists) (c : Check Why) → ◌≡◌ {A = Result Lists Why} (Err w) (checked c v) → c ≡ fail w
fails w v pass e = absurd (let y : ◌≡◌ {A = ℕ} 0 1 = cc in omega arith)
fails w v (fail x) e = let z : x ≡ w = cc in ap fail z

-- nothing has been done before the first move
pub at_first : (moved took : ℕ → Bool) (t : Lists) → moved ≡ (λ p. false) → took ≡ (λ p. false) → t ≡ empty → earlier_of moved took t ≡ nothing
at_first moved took t a b c = λ i. earlier_of (a i) (b i) (c i)

module _ (limit : ℕ) (L : Level) (g : Game) (s : Earlier) (t : Lists) (i : ℕ) (m : Move) (ms : List Move) where
  abbrev d : Deed
  d = deed L g m

  -- a refused move ends it
  pub stops : {X : Type 0} (r : Result X Why) (u : Lists) → lists_or r u ≡ judged_by limit L g s t m → (w : Why) → r ≡ Err w
      → Err (record { place = i; moving = m; why = w }) ≡ all_judged_by limit L g s t i (m ∷ ms)
  stops r u f w k = let e = sym (ap (λ x. lists_or x u) k) ∙ f in sym (ap (λ c. lists_if (in_turn limit g c i m (judge_all limit g L (and_so s d) (suc i) ms)) (all_lists L g t (m ∷ ms))) (fails w _ (judge limit g s d) e))

  -- an accepted one is followed by the others, and has made at most ten changes and sent at most eight parcels
  module _ {X : Type 0} (r : Result X Why) (u : Lists) (e : lists_or r u ≡ judged_by limit L g s t m) (k : is_ok r ≡ true) where
    grew : (judge limit g s d ≡ pass) × (u ≡ grown t d.events)
    grew = passes r u (grown t d.events) (judge limit g s d) e k

    pub goes_on : all_judged_by limit L g s t i (m ∷ ms) ≡ all_judged_by limit L g (and_so s d) u (suc i) ms
    goes_on = ap (λ c. lists_if (in_turn limit g c i m (judge_all limit g L (and_so s d) (suc i) ms)) (all_lists L g t (m ∷ ms))) grew.0
        ∙ ap (lists_if (judge_all limit g L (and_so s d) (suc i) ms)) (sym (ap (λ v. all_lists L g v ms) grew.1
        ∙ (λ j. record { changes = append_assoc t.changes (changes_of d.events) (changes (map (deed L g) ms)) j; parcels = append_assoc t.parcels (parcels_of d.events) (parcels (map (deed L g) ms)) j })))

    pub few_more : Sound L → (length u.changes ≤ length t.changes + 10) × (length u.parcels ≤ length t.parcels + 8)
    few_more sound =
        let few = trails_suffice.moves L sound g (m ∷ []) in
        let (a, b) = few in
        let x = ap length (append-nil (changes_of d.events)) in
        let y = ap length (append-nil (parcels_of d.events)) in
        let p = ap (λ v. length v.changes) grew.1 in
        let q = ap (λ v. length v.parcels) grew.1 in
        let v = length-append t.changes (changes_of d.events) in
        let w = length-append t.parcels (parcels_of d.events) in
        (omega arith, omega arith)

-- a move that is refused is refused for something
pub refused : {X : Type 0} (r : Result X Why) → is_ok r ≡ false → (w : Why) × (r ≡ Err w)
refused (Ok x) e = absurd (let y : ◌≡◌ {A = ℕ} 0 1 = cc in omega arith)
refused (Err w) e = (w, refl)
