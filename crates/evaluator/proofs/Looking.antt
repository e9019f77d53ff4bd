-- The last change to a cell, as the chain finds it, and the parcels to a piece, as the loop does.
use Rattle.std.proofs.Common.{◌≡◌, ℕ, suc, ◌+◌, ◌<◌, ◌≤◌, Bool, true, false, cond, ◌&&◌, eqb, List, [], ◌∷◌, ◌++◌, reverse, length, get_or, drop, find, option_map, ℤ, pos, Some, None, Option, sym, refl, ap, ◌∙◌}
use Rattle.std.specs.Option.{option_or}
use Rattle.std.proofs.lemmas.List.{at_drop_more, at_drop_all, reverse-append}
use Rattle.std.proofs.lemmas.List.Folds.{find-append}
use Rattle.rules.specs.declared.trail.Change.{Change}
use Rattle.rules.specs.declared.trail.Parcel.{Parcel}
use Rattle.rules.specs.Trace.{Own, no_writes, over}
use Rattle.evaluator.specs.Lookup.{laid_on, last_change, parcels_to}

-- one change more, written last
pub laid_snoc : (cs : List Change) (c : Change) (o : Own) → laid_on (cs ++ (c ∷ [])) o ≡ over (laid_on cs o) c.piece c.number c.value
laid_snoc [] c o = refl
laid_snoc (x ∷ cs) c o = laid_snoc cs c (over o x.piece x.number x.value)

-- the change to a cell that is found from the end
abbrev is_to : ℕ → ℕ → Change → Bool
is_to p a c = eqb c.piece p && eqb c.number a

abbrev value_of : Option Change → Option ℤ
value_of r = option_map (λ (c : Change). c.value) r

last_found : (cs : List Change) (o : Own) (p a : ℕ) → laid_on cs o p a ≡ option_or (value_of (find (is_to p a) (reverse cs))) (o p a)
last_found [] o p a = refl
last_found (c ∷ cs) o p a =
    last_found cs (over o c.piece c.number c.value) p a
    ∙ go (find (is_to p a) (reverse cs)) (is_to p a c)
    ∙ ap (λ r. option_or (value_of r) (o p a)) (sym (find-append (is_to p a) (reverse cs) (c ∷ [])))
    ∙ ap (λ l. option_or (value_of (find (is_to p a) l)) (o p a)) (sym (reverse-append (c ∷ []) cs))
  where
    go : (r : Option Change) (b : Bool) → option_or (value_of r) (cond b (Some c.value) (o p a)) ≡ option_or (value_of (option_or r (cond b (Some c) None))) (o p a)
    go (Some x) b = refl
    go None true = refl
    go None false = refl

pub found_last : (cs : List Change) (p a : ℕ) → option_map (λ (c : Change). c.value) (find (λ (c : Change). eqb c.piece p && eqb c.number a) (reverse cs)) ≡ last_change cs p a
found_last cs p a = sym (last_found cs no_writes p a ∙ go (value_of (find (is_to p a) (reverse cs))))
  where
    go : (r : Option ℤ) → option_or r None ≡ r
    go (Some x) = refl
    go None = refl

abbrev pub no_parcel : Parcel
no_parcel = record { piece = 0; message = record { signal = 0; first = pos 0; second = pos 0 } }

pub parcels_more : (ps : List Parcel) (i q : ℕ) → i < length ps
    → parcels_to (drop i ps) q ≡ cond (eqb (get_or ps i no_parcel).piece q) (suc (parcels_to (drop (i + 1) ps) q)) (parcels_to (drop (i + 1) ps) q)
parcels_more ps i q h = at_drop_more (λ l. parcels_to l q) ps i no_parcel h

pub parcels_all : (ps : List Parcel) (i q : ℕ) → length ps ≤ i → parcels_to (drop i ps) q ≡ 0
parcels_all ps i q h = at_drop_all (λ l. parcels_to l q) ps i h
