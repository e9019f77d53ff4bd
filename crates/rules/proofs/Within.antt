-- An accepted beat leaves no tray over the limit.
use Rattle.std.proofs.Common.{◌≡◌, ℕ, suc, ◌+◌, ◌≤◌, cond, eqb, List, [], ◌∷◌, map, length, sym, subst, arith, length-append, length-drop, length-take}
use mathlib.Core.List.{tail}
use Rattle.std.proofs.lemmas.Bool.Decides.{nat_tests}
use Rattle.mail.specs.declared.message.Message.{Message}
use Rattle.mail.specs.Trays.{Trays}
use Rattle.rules.specs.declared.moves.Move.{Move}
use Rattle.rules.specs.declared.trail.Parcel.{Parcel}
use Rattle.rules.specs.Game.{Game, Within, Setting, put_in}
use Rattle.rules.specs.Trace.{Event}
use Rattle.rules.specs.Deed.{Deed, takes_from}
use Rattle.rules.specs.Beat.{nothing, outcome, delivered}
use Rattle.rules.specs.Theorems.{FindRoom}
use Rattle.rules.proofs.Points.{put, puts_in, ending, points, put_at}
use Rattle.rules.proofs.Fine.{count, count_none, Fine}
use Rattle.rules.proofs.Swap.{Run}
use Rattle.rules.proofs.Split.{Frame, split}

pub put_length : (place : List Message → Message → ℕ) (l : List Message) (m : Message) → length (put place l m) ≡ suc (length l)
put_length place l m = rw (length-append, length-take, length-drop) (omega arith)

puts_length : (place : List Message → Message → ℕ) (es : List Event) (q : ℕ) (l : List Message) → length (puts_in place es q l) ≡ length l + count es q
puts_length place [] q l = omega arith
puts_length place (e ∷ es) q l = let k = puts_length place es q in grind (arith, put_length)

-- how many parcels go to a piece
abbrev addressed : List Parcel → ℕ → ℕ
addressed [] q = 0
addressed (c ∷ cs) q = cond (eqb c.piece q) (suc (addressed cs q)) (addressed cs q)

module _ (S : Setting) where
  delivered_length : (t : Trays) (ps : List Parcel) (q : ℕ) → length (delivered S.place t ps q) ≡ length (t q) + addressed ps q
  delivered_length t [] q = omega arith
  delivered_length t (c ∷ cs) q = let k = delivered_length (put_in S.place t c.piece c.message) cs q in grind (arith, put_at, put_length)

  -- what ends within the limit was within it all along
  pub find_room : (t : Trays) (ps : List Parcel) → ((q : ℕ) → length (delivered S.place t ps q) ≤ S.limit) → FindRoom S t ps
  find_room t [] h = tt
  find_room t (c ∷ cs) h =
      let a = h c.piece in
      let b = delivered_length t (c ∷ cs) c.piece in
      let k = find_room (put_in S.place t c.piece c.message) cs h in grind (arith, nat_tests)

module _ (limit : ℕ) (place : List Message → Message → ℕ) where
  within_one : (g : Game) (d : Deed) → Within limit g → Fine limit g nothing d → Within limit (ending place g (d ∷ []))
  within_one g d h f q =
      let e = puts_length place d.events q (cond (takes_from d q) (tail (g.trays q)) (g.trays q)) in
      let n = h q in
      let r = f.room q in
      let c = count_none d.events q in grind arith

  module _ (deed : Game → Move → Deed) (frame : Frame deed) where
    pub within_run : (g : Game) (ms : List Move) → Within limit g → Run limit g nothing (map (deed g) ms) → Within limit (outcome place g (map (deed g) ms))
    within_run g [] h r = h
    within_run g (m ∷ ms) h r =
        let (u, v, w) = split limit place deed frame g (m ∷ []) ms r in
        let one = subst (Within limit) (sym (points place g (deed g m ∷ []))) (within_one g (deed g m) h u.0) in
        subst (Within limit) w (within_run (outcome place g (deed g m ∷ [])) ms one v)
