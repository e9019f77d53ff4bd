-- The same things in another order.
use Rattle.std.specs.Prelude.{List, [], ◌∷◌}

-- the second list is the first with x put somewhere into it
pub data Insert {A : Type 0} (x : A) : List A → List A → Type 0 where
  here : {l : List A} → Insert x l (x ∷ l)
  there : {y : A} {l k : List A} → Insert x l k → Insert x (y ∷ l) (y ∷ k)

-- the second list holds each thing of the first once, in some order
pub data Reordered {A : Type 0} : List A → List A → Type 0 where
  none : Reordered [] []
  first : {x : A} {l k r : List A} → Insert x l k → Reordered l r → Reordered k (x ∷ r)

-- x is in a list
pub data Among {A : Type 0} (x : A) : List A → Type 0 where
  now : {l : List A} → Among x (x ∷ l)
  past : {z : A} {l : List A} → Among x l → Among x (z ∷ l)

-- x stands in a list somewhere before y
pub data Stands {A : Type 0} (x y : A) : List A → Type 0 where
  leads : {l : List A} → Among y l → Stands x y (x ∷ l)
  later : {z : A} {l : List A} → Stands x y l → Stands x y (z ∷ l)
