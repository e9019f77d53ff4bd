-- A trace met on the trails is a move judged by the rules.
use Rattle.std.proofs.Common.{◌≡◌, ℕ, suc, ◌+◌, ◌<◌, ◌≤◌, Bool, true, false, cond, ◌&&◌, ◌||◌, eqb, ltb, List, [], ◌∷◌, ◌++◌, length, take, drop, ℤ, is_some, Some, None, Ok, Err, Option, Result, sym, refl, ap, ◌∙◌, subst, ap₂, append_assoc, append-nil, arith, length-append}
use mathlib.Core.Bool.{or-false}
use Rattle.std.proofs.lemmas.List.{take_all, take-append-le, drop-append-le}
use Rattle.std.proofs.lemmas.Bool.{lt-ltb}
use Rattle.std.proofs.lemmas.Bool.Decides.{nat_tests}
use Rattle.mail.specs.declared.message.Message.{Message}
use Rattle.level.specs.Places.{Placed, placed}
use Rattle.level.specs.Sound.{Sound, most_statements}
use Rattle.level.specs.Syntax.{Level}
use Rattle.level.specs.Tables.{nth}
use Rattle.rules.specs.declared.fault.Why.{Why}
use Rattle.rules.specs.declared.fault.Why.TheVariants.{Clash, TrayFull}
use Rattle.rules.specs.declared.trail.Change.{Change}
use Rattle.rules.specs.declared.trail.Parcel.{Parcel}
use Rattle.rules.specs.Beat.{Earlier, and_so, one_more, left_in, along, changes_of, parcels_of}
use Rattle.rules.specs.Checks.{Check, and_then, never, ended_by}
use Rattle.rules.specs.Deed.{Deed, transit, transit_by, discard, discard_by, cell_written, sent_to, takes_from}
use Rattle.rules.specs.Game.{Game, same}
use Rattle.rules.specs.Trace.{Own, Event, reads, writes, sends, Trace, no_writes, over, unwanted}
use Rattle.rules.proofs.Frame.{framed_transit, framed_unwanted}
use Rattle.rules.proofs.Trails.{Maybe, weight, weight_changes, weight_parcels, weight_transit, weight_discard, placed_has}
use Rattle.evaluator.specs.Judging.{grown, checked, earlier_of}
use Rattle.evaluator.specs.Listing.{noted}
use Rattle.evaluator.specs.Lookup.{laid_on, last_change, parcels_to}
use Rattle.evaluator.specs.Meeting.{Around, meet, meet_all, met, transiting}
use Rattle.evaluator.specs.Reckoning.{follow, valued}
use Rattle.evaluator.specs.Trails.{Lists}
use Rattle.evaluator.proofs.Following.{follow_follow}
use Rattle.evaluator.proofs.Looking.{parcels_all}
use Rattle.evaluator.proofs.Meeting.{reading_met}
use Rattle.evaluator.proofs.Playing.{change_of, parcel_of, ends, transiting_met, taking_met}

parcels_snoc : (ps : List Parcel) (c : Parcel) (r : ℕ) → parcels_to (ps ++ (c ∷ [])) r ≡ cond (eqb c.piece r) (suc (parcels_to ps r)) (parcels_to ps r)
parcels_snoc [] c r = refl
parcels_snoc (x ∷ ps) c r = let k = parcels_snoc ps c r in grind (arith, nat_tests)

-- a test, and then what goes on
tested : (b c : Bool) (w : Why) (r : Result Lists Why) (k : Check Why) (u : Lists) → c ≡ b → r ≡ checked k u → cond b (Err w) r ≡ checked (and_then (never c w) k) u
tested true c w r k u e h = rw e
tested false c w r k u e h = rw e h

follow_cond : (b : Bool) (w : Why) (r : Result Lists Why) (k : Lists → Result Lists Why) → follow (cond b (Err w) r) k ≡ cond b (Err w) (follow r k)
follow_cond true w r k = refl
follow_cond false w r k = refl

-- what the rules know of the moves before and of this one is what stands in the lists
record Told (A : Around) (s : Earlier) (n : ℕ → ℕ) (t : Lists) : Type 0 where
  written : A.written ≤ length t.changes
  sent : A.sent ≤ length t.parcels
  wrote : (p a : ℕ) → s.wrote p a ≡ is_some (last_change (take A.written t.changes) p a)
  posted : (q : ℕ) → s.sent q ≡ ltb 0 (parcels_to (take A.sent t.parcels) q)
  counted : (q : ℕ) → n q ≡ parcels_to (drop A.sent t.parcels) q

module _ (A : Around) (g : Game) (s : Earlier) (d : Deed) (left : (q : ℕ) → A.left q ≡ left_in g q (s.took q || takes_from d q)) where
  abbrev with_change : Lists → Change → Lists
  with_change t c = record { changes = t.changes ++ (c ∷ []); parcels = t.parcels }

  abbrev with_parcel : Lists → Parcel → Lists
  with_parcel t c = record { changes = t.changes; parcels = t.parcels ++ (c ∷ []) }

  told_change : (n : ℕ → ℕ) (t : Lists) (c : Change) → Told A s n t → Told A s n (with_change t c)
  told_change n t c h = record {
    written = simp length-append (omega arith);
    sent = h.sent;
    wrote = λ p a. rw (take-append-le A.written t.changes (c ∷ []) h.written) (h.wrote p a);
    posted = h.posted;
    counted = h.counted;
  }

  told_parcel : (n : ℕ → ℕ) (t : Lists) (c : Parcel) → Told A s n t → Told A s (one_more n c.piece) (with_parcel t c)
  told_parcel n t c h = record {
    written = h.written;
    sent = simp length-append (omega arith);
    wrote = h.wrote;
    posted = λ q. rw (take-append-le A.sent t.parcels (c ∷ []) h.sent) (h.posted q);
    counted = λ q. rw (drop-append-le A.sent t.parcels (c ∷ []) h.sent, parcels_snoc (drop A.sent t.parcels) c q, h.counted q);
  }

  abbrev changed_before : Lists → ℕ → ℕ → Bool
  changed_before t p a = is_some (last_change (take A.written t.changes) p a)

  abbrev sent_before : Lists → ℕ → Bool
  sent_before t q = ltb 0 (parcels_to (take A.sent t.parcels) q)

  abbrev full_for : Lists → ℕ → Bool
  full_for t q = eqb (A.left q + parcels_to (drop A.sent t.parcels) q) A.limit

  -- where there is a place
  write_met : (t : Lists) (p a : ℕ) (v : ℤ) → length t.changes < A.places.changes → meet A t (writes p a v) ≡ cond (changed_before t p a) (Err Clash) (Ok (with_change t (change_of p a v)))
  write_met t p a v h = rw (lt-ltb (length t.changes) A.places.changes h) (go (changed_before t p a))
    where
      go : (b : Bool) → ◌≡◌ {A = Result Lists Why} (follow (cond b (Err Clash) (Ok (t.changes ++ (change_of p a v ∷ [])))) (λ cs. Ok (record { changes = cs; parcels = t.parcels })))
          (cond b (Err Clash) (Ok (with_change t (change_of p a v))))
      go true = refl
      go false = refl

  send_met : (t : Lists) (q : ℕ) (m : Message) → length t.parcels < A.places.parcels
      → meet A t (sends q m) ≡ cond (sent_before t q) (Err Clash) (cond (full_for t q) (Err TrayFull) (Ok (with_parcel t (parcel_of q m))))
  send_met t q m h = rw (lt-ltb (length t.parcels) A.places.parcels h) (go (sent_before t q) (full_for t q))
    where
      go : (b c : Bool) → ◌≡◌ {A = Result Lists Why} (follow (cond b (Err Clash) (cond c (Err TrayFull) (Ok (t.parcels ++ (parcel_of q m ∷ []))))) (λ ps. Ok (record { changes = t.changes; parcels = ps })))
          (cond b (Err Clash) (cond c (Err TrayFull) (Ok (with_parcel t (parcel_of q m)))))
      go true c = refl
      go false true = refl
      go false false = refl

  module _ {X : Type 0} (o : Result X Why) (ended : d.ended ≡ ended_by o) where
    abbrev played : Lists → List Event → Result Lists Why
    played t es = ends (met A t (record { events = es; out = o }))

    abbrev judged : Lists → (ℕ → ℕ) → List Event → Result Lists Why
    judged t n es = checked (along A.limit g s d n es) (grown t es)

    played_cons : (t : Lists) (e : Event) (es : List Event) → played t (e ∷ es) ≡ follow (meet A t e) (λ u. played u es)
    played_cons t e es = go (meet A t e)
      where
        go : (r : Result Lists Why) → ends (follow (follow r (λ u. meet_all A u es)) (λ u. follow o (λ x. Ok (x, u)))) ≡ follow r (λ u. played u es)
        go (Ok u) = refl
        go (Err w) = refl

    played_end : (t : Lists) (r : Result X Why) → ends (follow r (λ x. Ok (x, t))) ≡ checked (ended_by r) (grown t [])
    played_end t (Ok x) = ap Ok (λ j. record { changes = sym (append-nil t.changes) j; parcels = sym (append-nil t.parcels) j })
    played_end t (Err w) = refl

    played_judged : (t : Lists) (n : ℕ → ℕ) (es : List Event) → Told A s n t → length t.changes + length (changes_of es) ≤ A.places.changes → length t.parcels + length (parcels_of es) ≤ A.places.parcels
        → played t es ≡ judged t n es
    played_judged t n [] h k l = played_end t o ∙ ap (λ c. checked c (grown t [])) (sym ended)
    played_judged t n (reads p a ∷ es) h k l =
        played_cons t (reads p a) es
        ∙ follow_cond (changed_before t p a) Clash (Ok t) (λ u. played u es)
        ∙ tested (changed_before t p a) (s.wrote p a) Clash (played t es) (along A.limit g s d n es) (grown t es) (h.wrote p a) (played_judged t n es h k l)
    played_judged t n (writes p a v ∷ es) h k l =
        let u : Lists = with_change t (change_of p a v) in
        played_cons t (writes p a v) es
        ∙ ap (λ r. follow r (λ u. played u es)) (write_met t p a v (omega arith))
        ∙ follow_cond (changed_before t p a) Clash (Ok u) (λ u. played u es)
        ∙ tested (changed_before t p a) (s.wrote p a) Clash (played u es) (along A.limit g s d n es) (grown t (writes p a v ∷ es)) (h.wrote p a)
        (played_judged u n es (told_change n t (change_of p a v) h) (simp length-append (omega arith)) l
        ∙ ap (λ cs. checked (along A.limit g s d n es) (record { changes = cs; parcels = t.parcels ++ parcels_of es })) (append_assoc t.changes (change_of p a v ∷ []) (changes_of es)))
    played_judged t n (sends q m ∷ es) h k l =
        let u : Lists = with_parcel t (parcel_of q m) in
        played_cons t (sends q m) es
        ∙ ap (λ r. follow r (λ u. played u es)) (send_met t q m (omega arith))
        ∙ follow_cond (sent_before t q) Clash (cond (full_for t q) (Err TrayFull) (Ok u)) (λ u. played u es)
        ∙ tested (sent_before t q) (s.sent q) Clash _ _ (grown t (sends q m ∷ es)) (h.posted q)
        (follow_cond (full_for t q) TrayFull (Ok u) (λ u. played u es)
        ∙ tested (full_for t q) _ TrayFull (played u es) (along A.limit g s d (one_more n q) es) (grown t (sends q m ∷ es)) (ap₂ (λ x y. eqb (x + y) A.limit) (sym (left q)) (h.counted q))
        (played_judged u (one_more n q) es (told_parcel n t (parcel_of q m) h) k (simp length-append (omega arith))
        ∙ ap (λ ps. checked (along A.limit g s d (one_more n q) es) (record { changes = t.changes ++ changes_of es; parcels = ps })) (append_assoc t.parcels (parcel_of q m ∷ []) (parcels_of es))))

-- the lists as a move finds them, its own entries to come after all that stand there, and what the rules say of the moves before
pub record Finds (A : Around) (s : Earlier) (t : Lists) : Type 0 where
  pub written : A.written ≡ length t.changes
  pub sent : A.sent ≡ length t.parcels
  pub wrote : (p a : ℕ) → s.wrote p a ≡ is_some (last_change t.changes p a)
  pub posted : (q : ℕ) → s.sent q ≡ ltb 0 (parcels_to t.parcels q)

finds_told : (A : Around) (s : Earlier) (t : Lists) → Finds A s t → Told A s (λ q. 0) t
finds_told A s t f = record {
  written = omega arith;
  sent = omega arith;
  wrote = λ p a. f.wrote p a ∙ ap (λ l. is_some (last_change l p a)) (sym (take_all A.written t.changes (omega arith)));
  posted = λ q. f.posted q ∙ ap (λ l. ltb 0 (parcels_to l q)) (sym (take_all A.sent t.parcels (omega arith)));
  counted = λ q. sym (parcels_all t.parcels A.sent q (omega arith));
}

-- what of each tray is left is what the rules say
abbrev pub Leaves : Around → Game → Earlier → Deed → Type 0
Leaves A g s d = (q : ℕ) → A.left q ≡ left_in g q (s.took q || takes_from d q)

-- the effects of a sound level have at most eight statements
pub few_statements : (L : Level) → Sound L → (n : ℕ) (x : Placed) → nth (placed L) n ≡ Some x → length x.transition.effect ≤ 8
unfolding most_statements
few_statements L sound n x e = subst (Maybe (λ y. length y.transition.effect ≤ most_statements)) e (placed_has L (λ y. length y.transition.effect ≤ most_statements) (λ k n i m t l h. h.statements) sound n)

-- events that only read add nothing
none_grown : (t : Lists) (es : List Event) → weight 1 1 es ≤ 0 → grown t es ≡ t
none_grown t [] h = λ j. record { changes = append-nil t.changes j; parcels = append-nil t.parcels j }
none_grown t (reads p a ∷ es) h = none_grown t es h
none_grown t (writes p a v ∷ es) h = absurd (omega arith)
none_grown t (sends q m ∷ es) h = absurd (omega arith)

abbrev judged_on : Around → Game → Earlier → Deed → Check Why
judged_on A g s d = along A.limit g s d (λ q. 0) d.events

module _ (A : Around) (g : Game) (s : Earlier) (t : Lists) (finds : Finds A s t) where
  -- a trace met is a deed judged
  pub met_judged : {X : Type 0} (d : Deed) (tr : Trace X) → Leaves A g s d → d.events ≡ tr.events → d.ended ≡ ended_by tr.out
      → length t.changes + length (changes_of tr.events) ≤ A.places.changes → length t.parcels + length (parcels_of tr.events) ≤ A.places.parcels
      → follow (met A t tr) (λ x. Ok x.1) ≡ checked (along A.limit g s d (λ q. 0) d.events) (grown t d.events)
  met_judged d tr left e f k l = rw e (played_judged A g s d left tr.out f t (λ q. 0) tr.events (finds_told A s t finds) k l)

  module _ (numbers : A.board.numbers ≡ g.numbers) (roomy : length t.changes + 10 ≤ A.places.changes) (spacious : length t.parcels + 8 ≤ A.places.parcels) where
    agree : (p a : ℕ) → A.board.numbers p a ≡ g.numbers p a
    agree p a = ap (λ f. f p a) numbers

    module _ (x : Placed) (few : length x.transition.effect ≤ 8) (z : Bool) (o : Option Message) (d : Deed) (is : d ≡ transit_by A.level g A.mover x z o) (left : Leaves A g s d) where
      abbrev on : Game → Trace Own
      on h = transit A.level h A.mover x z o

      transit_met : ends (met A t (on A.board)) ≡ checked (judged_on A g s d) (grown t d.events)
      transit_met =
          let a = weight_changes (on g).events in
          let b = weight_parcels (on g).events in
          let c = weight_transit 1 0 A.level g A.mover (omega arith) (omega arith) x z o in
          let e = weight_transit 0 1 A.level g A.mover (omega arith) (omega arith) x z o in
          ap (λ tr. ends (met A t tr)) (framed_transit A.level A.mover x z o g A.board (λ p a r. agree p a))
          ∙ met_judged d (on g) left (ap (λ (y : Deed). y.events) is) (ap (λ (y : Deed). y.ended) is) (omega arith) (omega arith)

    module _ (sound : Sound A.level) (n : ℕ) (x : Placed) (stands : nth (placed A.level) n ≡ Some x) (d : Deed) (left : Leaves A g s d) where
      abbrev few : length x.transition.effect ≤ 8
      few = few_statements A.level sound n x stands

      -- a spontaneous transition
      pub transit_judged : (o : Option Message) → d ≡ transit_by A.level g A.mover x true o
          → transiting A t x None ≡ checked (along A.limit g s d (λ q. 0) d.events) (grown t d.events)
      transit_judged o is = transiting_met A x few t finds.written roomy spacious ∙ transit_met x few true o d is left

      -- one that takes a message
      pub taking_judged : (m : Message) → d ≡ transit_by A.level g A.mover x false (Some m)
          → transiting A t x (Some m) ≡ checked (along A.limit g s d (λ q. 0) d.events) (grown t d.events)
      taking_judged m is = taking_met A x few t finds.written roomy spacious m ∙ transit_met x few false (Some m) d is left

    -- a discard, which leaves the lists
    pub discard_judged : A.board.states ≡ g.states → (k : ℕ) (m : Message) (d : Deed) → d ≡ discard_by A.level g A.mover k (Some m) → Leaves A g s d
        → follow (valued t.changes (unwanted A.level A.board A.mover k (A.board.states A.mover) m (placed A.level))) (λ y. Ok t) ≡ checked (along A.limit g s d (λ q. 0) d.events) t
    discard_judged states k m d is left =
        let u : Trace Own = discard A.level A.board A.mover k (Some m) in
        let v : Trace Own = discard A.level g A.mover k (Some m) in
        let same : u ≡ v = ap (λ f. unwanted A.level A.board A.mover k (f A.mover) m (placed A.level)) states
        ∙ framed_unwanted A.level A.mover k (g.states A.mover) m (placed A.level) g A.board (λ p a r. agree p a) in
        let a = weight_changes v.events in
        let b = weight_parcels v.events in
        let c = weight_discard 1 0 A.level g A.mover k (Some m) in
        let e = weight_discard 0 1 A.level g A.mover k (Some m) in
        let f = weight_discard 1 1 A.level g A.mover k (Some m) in
        ap (λ l. follow (valued l u) (λ y. Ok t)) (sym (take_all A.written t.changes (omega arith)))
        ∙ ap (λ tr. follow (valued (take A.written t.changes) tr) (λ y. Ok t)) same
        ∙ sym (ap ends (reading_met A t v f) ∙ follow_follow (valued (take A.written t.changes) v) _ (λ (x : Own × Lists). Ok x.1))
        ∙ met_judged d v left (ap (λ (y : Deed). y.events) is) (ap (λ (y : Deed). y.ended) is) (omega arith) (omega arith)
        ∙ ap (checked (judged_on A g s d)) (ap (λ (y : Deed). grown t y.events) is ∙ none_grown t v.events f)

-- changes and parcels added are cells written and pieces sent to
laid_append : (xs ys : List Change) (o : Own) → laid_on (xs ++ ys) o ≡ laid_on ys (laid_on xs o)
laid_append [] ys o = refl
laid_append (x ∷ xs) ys o = laid_append xs ys (over o x.piece x.number x.value)

wrote_by : (es : List Event) (o : Own) (p a : ℕ) → is_some (laid_on (changes_of es) o p a) ≡ (is_some (o p a) || cell_written es p a)
wrote_by [] o p a = sym (or-false (is_some (o p a)))
wrote_by (reads q b ∷ es) o p a = wrote_by es o p a
wrote_by (writes q b v ∷ es) o p a = wrote_by es (over o q b v) p a ∙ go (same q b p a) (o p a) (cell_written es p a)
  where
    go : (b : Bool) (r : Option ℤ) (c : Bool) → (is_some (cond b (Some v) r) || c) ≡ (is_some r || (b || c))
    go true None c = refl
    go true (Some z) c = refl
    go false r c = refl
wrote_by (sends q m ∷ es) o p a = wrote_by es o p a

posted_by : (es : List Event) (q : ℕ) → ltb 0 (parcels_to (parcels_of es) q) ≡ sent_to es q
posted_by [] q = refl
posted_by (reads r b ∷ es) q = posted_by es q
posted_by (writes r b v ∷ es) q = posted_by es q
posted_by (sends r m ∷ es) q = let k = posted_by es q in grind (arith, nat_tests)

sent_by : (ps : List Parcel) (es : List Event) (q : ℕ) → ltb 0 (parcels_to (ps ++ parcels_of es) q) ≡ (ltb 0 (parcels_to ps q) || sent_to es q)
sent_by [] es q = posted_by es q
sent_by (x ∷ ps) es q = let k = sent_by ps es q in grind (arith, nat_tests)

-- what the trails and the notes say after a move
pub earlier_more : (moved took : ℕ → Bool) (t : Lists) (d : Deed) → d.mover < 32
    → earlier_of (noted moved d.mover) (λ q. took q || (d.takes && noted (λ r. false) d.mover q)) (grown t d.events) ≡ and_so (earlier_of moved took t) d
earlier_more moved took t d h = λ j. record {
  moved = λ p. moved_is p j;
  wrote = λ p a. (ap (λ (o : Own). is_some (o p a)) (laid_append t.changes (changes_of d.events) no_writes) ∙ wrote_by d.events (last_change t.changes) p a) j;
  sent = λ q. sent_by t.parcels d.events q j;
  took = λ q. took_is q j;
}
  where
    moved_is : (p : ℕ) → noted moved d.mover p ≡ (moved p || eqb d.mover p)
    moved_is p = rw (lt-ltb d.mover 32 h)

    took_is : (q : ℕ) → (took q || (d.takes && noted (λ r. false) d.mover q)) ≡ (took q || takes_from d q)
    took_is q = rw (lt-ltb d.mover 32 h)
