-- The trays of a mail, read and written in its memory.
use Rattle.std.proofs.Common.{◌≡◌, ℕ, zero, suc, ◌+◌, ◌-◌, ◌*◌, ◌<◌, ◌≤◌, ◌⊎◌, List, [], ◌∷◌, ◌++◌, length, get_or, take, drop, set, replicate, refl, sym, ap, ◌∙◌, inl, inr, ⊎_elim, arith, length-append, length-drop, length-take}
use mathlib.Core.List.{tail}
use mathlib.Core.Path.{fun_ext}
use borrow.Rule.Slice.PartMut.{put_mid}
use Rattle.std.proofs.lemmas.Nat.{row_fits}
use Rattle.std.proofs.lemmas.List.{drop_at, drop-take, take_more, set_at, take-append-le, take_at, take_all, length-take-le, get_or-set_same, get_or-set_other}
use Rattle.std.proofs.lemmas.List.Edits.{length-insert}
use Rattle.std.proofs.lemmas.Slice.{take-put_mid_below, drop-put_mid}
use Rattle.std.proofs.lemmas.Bool.{cases_lt}
use Rattle.std.specs.List.{insert}
use Rattle.mail.specs.declared.message.Message.{Message}
use Rattle.mail.specs.Laid.{laid_trays}
use Rattle.mail.specs.Laws.{none_counted}
use Rattle.mail.specs.Trays.{no_messages, with_tray, put_trays, take_trays}
use Rattle.mail.proofs.Outcomes.{one_changed, put_accepted}

-- the same count everywhere
copies : (n k p : ℕ) → get_or (replicate n k) p 0 ≤ k
copies zero k p = omega arith
copies (suc n) k zero = omega arith
copies (suc n) k (suc p) = copies n k p

pub new_few : (limit k : ℕ) → k ≤ limit → (p : ℕ) → get_or (replicate 32 k) p 0 ≤ limit
new_few limit k h p = omega (arith, copies 32 k p)

pub laid_new : (limit : ℕ) (places : List Message) (k : ℕ) → k ≡ 0 → laid_trays limit places (replicate 32 k) ≡ no_messages
laid_new limit places k e = fun_ext (λ p. none_counted limit places (replicate 32 k) p (omega (arith, copies 32 k p)))

rest : {X : Type 0} (l : List X) → drop 1 l ≡ tail l
rest [] = refl
rest (x ∷ l) = refl

-- a part of a list that is left alone where another part is written over
part_kept :
    {X : Type 0} (xs ys : List X) (a k b n : ℕ)
    → length ys ≡ k
    → a ≤ length xs
    → (b + n ≤ a) ⊎ (a + k ≤ b)
    → take n (drop b (put_mid a k xs ys)) ≡ take n (drop b xs)
part_kept xs ys a k b n e h (inl before) =
    sym (drop-take b n (put_mid a k xs ys)) ∙ ap (drop b) (take-put_mid_below a k xs ys (b + n) before h) ∙ drop-take b n xs
part_kept xs ys a k b n e h (inr past) = ap (take n) (drop-put_mid a k xs ys b past h e)

module _
    (limit : ℕ) (places : List Message) (counts : List ℕ)
    (whole : length places ≡ 32 * limit) (all : length counts ≡ 32) (few : (p : ℕ) → get_or counts p 0 ≤ limit)
    (p : ℕ) (here : p ≤ 31) where
  -- the places of the piece lie among those of all
  tray_ends : p * limit + limit ≤ 32 * limit
  tray_ends = row_fits p limit 32 limit (omega arith) (omega arith)

  tray_counted : length (laid_trays limit places counts p) ≡ get_or counts p 0
  unfolding laid_trays
  tray_counted = let b = few p in let e = tray_ends in simp (length-take, length-drop) (omega arith)

  -- the first k places of the piece are given back as ys, of which the first n count from now on
  tray_written :
      (k n : ℕ) (ys : List Message)
      → length ys ≡ k
      → k ≤ limit
      → n ≤ k
      → laid_trays limit (put_mid (p * limit) k places ys) (set counts p n) ≡ with_tray (laid_trays limit places counts) p (take n ys)
  unfolding laid_trays
  tray_written k n ys long fits some =
      let e = tray_ends in
      let a : p * limit ≤ length places = omega arith in
      let c : p < length counts = omega arith in
      one_changed (laid_trays limit places counts) p _ _
      (rw (get_or-set_same counts p n 0 c)
      (ap (take n) (drop_at (take (p * limit) places) _ (p * limit) (length-take-le (p * limit) places a)) ∙ take-append-le n ys _ (omega arith)))
      (λ q ne.
      let b = few q in
      rw (get_or-set_other counts p q n 0 ne)
      (part_kept places ys (p * limit) k (q * limit) (get_or counts q 0) long a
      (⊎_elim
      (λ (h : q < p). let f = row_fits q limit p limit h (omega arith) in inl (omega arith))
      (λ (h : p ≤ q). let f = row_fits p limit q limit (omega arith) (omega arith) in inr (omega arith))
      (cases_lt q p))))

  -- n messages wait, and m goes among them: k places are lent, the last of which is free
  module _
      (n k : ℕ) (m : Message)
      (counted : n ≡ length (laid_trays limit places counts p)) (room : n ≡ limit → ⊥) (more : k ≡ n + 1) where
    pub tray_pushed : set (take k (drop (p * limit) places)) n m ≡ laid_trays limit places counts p ++ m ∷ []
    unfolding laid_trays
    tray_pushed =
        let xs = drop (p * limit) places in
        let b = few p in
        let e = tray_ends in
        let f : n ≡ get_or counts p 0 = counted ∙ tray_counted in
        let long = length-drop (p * limit) places in
        let h : n < length xs = omega arith in
        rw more (ap (λ l. set l n m) (take_more xs n m h) ∙ set_at (take n xs) _ [] m n (length-take-le n xs (omega arith)))
        ∙ ap (λ i. take i xs ++ m ∷ []) f

    pub tray_put :
        (place : List Message → Message → ℕ) (at : ℕ) (ys : List Message)
        → ((l : List Message) (x : Message) → place l x ≤ length l)
        → at ≡ place (laid_trays limit places counts p) m
        → ys ≡ insert (laid_trays limit places counts p) at m
        → laid_trays limit (put_mid (p * limit) k places ys) (set counts p (get_or counts p 0 + 1))
        ≡ put_trays limit place (laid_trays limit places counts) p m
    tray_put place at ys within rule put =
        let t = laid_trays limit places counts in
        let b = few p in
        let f : n ≡ get_or counts p 0 = counted ∙ tray_counted in
        let w = within (t p) m in
        let long : length ys ≡ n + 1 = ap length put ∙ length-insert (t p) at m (omega arith) ∙ ap (λ i. i + 1) (sym counted) in
        put_accepted t p _ limit place m here (λ g. room (counted ∙ g))
        (tray_written k (get_or counts p 0 + 1) ys (omega arith) (omega arith) (omega arith)
        ∙ ap (with_tray t p) (take_all _ ys (omega arith) ∙ put ∙ ap (λ i. insert (t p) i m) rule))

  -- the k places of those that wait are lent, and all but the first are moved to the front
  pub tray_taken :
      (k : ℕ) (ys : List Message)
      → k ≡ get_or counts p 0
      → 0 < k
      → ys ≡ drop 1 (take k (drop (p * limit) places)) ++ drop (length (take k (drop (p * limit) places)) - 1) (take k (drop (p * limit) places))
      → laid_trays limit (put_mid (p * limit) k places ys) (set counts p (get_or counts p 0 - 1)) ≡ take_trays (laid_trays limit places counts) p
  unfolding laid_trays
  tray_taken k ys counted some moved =
      let t = take k (drop (p * limit) places) in
      let b = few p in
      let e = tray_ends in
      let waiting : length t ≡ k = simp (length-take, length-drop) (omega arith) in
      let one = length-drop 1 t in
      let last = length-drop (length t - 1) t in
      let long : length ys ≡ k = ap length moved ∙ simp (length-append, length-drop) (omega arith) in
      tray_written k (get_or counts p 0 - 1) ys long (omega arith) (omega arith)
      ∙ ap (with_tray (laid_trays limit places counts) p)
      (ap (take (get_or counts p 0 - 1)) moved
      ∙ take_at (drop 1 t) _ (get_or counts p 0 - 1) (omega arith)
      ∙ rest t
      ∙ ap (λ i. tail (take i (drop (p * limit) places))) counted)
