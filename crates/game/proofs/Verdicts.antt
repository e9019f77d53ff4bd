-- What the code answers of one move is what the rules say of its deed.
use Rattle.std.proofs.Common.{◌≡◌, ℕ, ◌+◌, ◌<◌, ◌≤◌, Bool, true, false, cond, not, ◌&&◌, ◌||◌, eqb, ltb, List, [], ◌∷◌, ◌++◌, map, length, is_ok, Some, None, Ok, Err, Option, Result, sym, refl, ap, ◌∙◌, subst, append-nil, arith}
use Rattle.std.proofs.lemmas.Bool.{eq-eqb}
use Rattle.std.proofs.lemmas.Bool.Decides.{nat_tests}
use Rattle.mail.specs.declared.message.Message.{Message}
use Rattle.mail.specs.Trays.{front}
use Rattle.mail.specs.declared.Mail.{Ghosts}
use Rattle.level.specs.declared.store.Level as memory
use Rattle.game.specs.declared.board.Game as memory_game
use Rattle.level.specs.declared.entry.PieceEntry.{PieceEntry}
use Rattle.level.specs.declared.entry.TransitionEntry.{TransitionEntry}
use Rattle.level.specs.Entries.{piece_entry, transition_entry}
use Rattle.level.specs.Levels.{meaning}
use Rattle.level.specs.Places.{Placed, placed}
use Rattle.level.specs.Sound.{counts, Sound}
use Rattle.level.specs.Syntax.{Piece, Level}
use Rattle.level.specs.Tables.{nth}
use Rattle.level.proofs.Held.{few_pieces, held_sound}
use Rattle.rules.specs.declared.fault.Why.{Why}
use Rattle.rules.specs.declared.fault.Why.TheVariants.{NoMessage, Clash}
use Rattle.rules.specs.declared.moves.Act.TheVariants.{Transition, Discard}
use Rattle.rules.specs.Beat.{Earlier, left_in, along, judge, and_so, changes_of, parcels_of}
use Rattle.rules.specs.Checks.{Check, pass, fail}
use Rattle.rules.specs.Deed.{Deed, transit_by, discard_by, deed, bears, transit_deed, discard_deed}
use Rattle.rules.specs.Game.{Game}
use Rattle.rules.specs.Names.{transition_of}
use Rattle.rules.specs.Trace.{Event, reads, writes, sends, unwanted}
use Rattle.rules.proofs.Trails.{weight, weight_discard}
use Rattle.evaluator.specs.Judging.{grown, checked, earlier_of}
use Rattle.evaluator.specs.declared.listed.Listed.{Listed}
use Rattle.evaluator.specs.declared.trail.Trails.{Trails}
use Rattle.evaluator.specs.Listing.{moved_in, noted, took_in}
use Rattle.evaluator.specs.Lookup.{parcels_to}
use Rattle.evaluator.specs.Meeting.{Around, transiting, transiting_by, lists_or}
use Rattle.evaluator.specs.Trails.{Lists, held, lists, places}
use Rattle.evaluator.specs.Reckoning.{board_of, follow, valued}
use Rattle.evaluator.specs.Trying.{discarded}
use Rattle.evaluator.proofs.Trying.{nth_below}
use Rattle.evaluator.proofs.Bridge.{Finds, transit_judged, taking_judged, discard_judged, earlier_more}
use Rattle.game.specs.Games.{means}
use Rattle.game.specs.Judged.{entry_of, bearing, awaited, before, judged_by, Roomy}
use Rattle.game.proofs.Finding.{entry_some, stands_in, has_piece, piece_some}

module _ (A : Around) (g : Game) (s : Earlier) (t : Lists) (finds : Finds A s t) (numbers : A.board.numbers ≡ g.numbers)
    (roomy : length t.changes + 10 ≤ A.places.changes) (spacious : length t.parcels + 8 ≤ A.places.parcels) (sound : Sound A.level) where
  abbrev verdict : Deed → Result Lists Why
  verdict d = checked (judge A.limit g s d) (grown t d.events)

  module _ (n : ℕ) (x : Placed) (stands : nth (placed A.level) n ≡ Some x) (unmoved : s.moved A.mover ≡ false) (there : g.states A.mover ≡ x.transition.source) where
    abbrev D : Bool → Option Message → Deed
    D z f = transit_by A.level g A.mover x z f

    -- past its checks a move is judged along its evaluation
    past_checks : (z : Bool) (f : Option Message) → bears z x.transition.signal f ≡ pass → (not z && s.sent A.mover) ≡ false
        → judge A.limit g s (D z f) ≡ along A.limit g s (D z f) (λ q. 0) (D z f).events
    past_checks z f b c = rw (unmoved, eq-eqb (g.states A.mover) x.transition.source there, b, c)

    by_message : (z : Bool) (f o : Option Message) → ((q : ℕ) → A.left q ≡ left_in g q (s.took q || (not z && eqb A.mover q)))
        → Ok o ≡ cond z (Ok None) (bearing x.transition.signal (s.sent A.mover) f)
        → transiting A t x o ≡ verdict (D z f)
    by_message true f o left h =
        let e : o ≡ None = cc in
        ap (transiting A t x) e ∙ transit_judged A g s t finds numbers roomy spacious sound n x stands (D true f) left f refl
        ∙ ap (λ c. checked c (grown t (D true f).events)) (sym (past_checks true f refl refl))
    by_message false None o left h = absurd (let y : ◌≡◌ {A = ℕ} 0 1 = cc in omega arith)
    by_message false (Some m) o left h = go (eqb x.transition.signal m.signal) (s.sent A.mover) refl refl h
      where
        go : (a b : Bool) → eqb x.transition.signal m.signal ≡ a → s.sent A.mover ≡ b → Ok o ≡ cond a (cond b (Err Clash) (Ok (Some m))) (Err NoMessage)
            → transiting A t x o ≡ verdict (D false (Some m))
        go false b p q k = absurd (let y : ◌≡◌ {A = ℕ} 0 1 = cc in omega arith)
        go true true p q k = absurd (let y : ◌≡◌ {A = ℕ} 0 1 = cc in omega arith)
        go true false p q k =
            let e : o ≡ Some m = cc in
            ap (transiting A t x) e ∙ taking_judged A g s t finds numbers roomy spacious sound n x stands (D false (Some m)) left m refl
            ∙ ap (λ c. checked c (grown t (D false (Some m)).events)) (sym (past_checks false (Some m) (rw p) q))

  -- a transition of the mover that passes its checks
  pub transition_judged : (n : ℕ) (x : Placed) → transition_of A.level A.mover n ≡ Some x → nth (placed A.level) n ≡ Some x
      → s.moved A.mover ≡ false → g.states A.mover ≡ x.transition.source
      → ((q : ℕ) → A.left q ≡ left_in g q (s.took q || (not (eqb x.transition.signal 0) && eqb A.mover q)))
      → (o : Option Message) → Ok o ≡ awaited x.transition.signal (s.sent A.mover) (front (g.trays A.mover))
      → transiting_by A t (nth (placed A.level) n) o ≡ verdict (deed A.level g (record { piece = A.mover; act = Transition n }))
  transition_judged n x of stands unmoved there left o h =
      ap (λ y. transiting_by A t y o) stands
      ∙ by_message n x stands unmoved there (eqb x.transition.signal 0) (front (g.trays A.mover)) o left h
      ∙ ap (λ y. verdict (transit_deed A.level g A.mover y)) (sym of)

  -- a discard that passes its checks
  pub discard_passed : A.board.states ≡ g.states → (y : Piece) → nth A.level.pieces A.mover ≡ Some y → s.moved A.mover ≡ false
      → (m : Message) → front (g.trays A.mover) ≡ Some m → s.sent A.mover ≡ false
      → ((q : ℕ) → A.left q ≡ left_in g q (s.took q || eqb A.mover q))
      → follow (discarded t.changes (unwanted A.level A.board A.mover y.kind (A.board.states A.mover) m (placed A.level))) (λ u. Ok t)
      ≡ checked (judge A.limit g s (deed A.level g (record { piece = A.mover; act = Discard }))) t
  discard_passed states y of unmoved m first free left =
      let d : Deed = discard_by A.level g A.mover y.kind (Some m) in
      let is : deed A.level g (record { piece = A.mover; act = Discard }) ≡ d = ap (discard_deed A.level g A.mover) of ∙ ap (discard_by A.level g A.mover y.kind) first in
      shut (valued t.changes (unwanted A.level A.board A.mover y.kind (A.board.states A.mover) m (placed A.level)))
      ∙ discard_judged A g s t finds numbers roomy spacious states y.kind m d refl left
      ∙ ap (λ c. checked c t) (sym (checks is))
    where
      shut : {X : Type 0} (r : Result X Why) → follow (follow r (λ o. Ok (tt {0}))) (λ u. Ok t) ≡ follow r (λ o. Ok t)
      shut (Ok z) = refl
      shut (Err w) = refl

      checks : deed A.level g (record { piece = A.mover; act = Discard }) ≡ discard_by A.level g A.mover y.kind (Some m)
          → judge A.limit g s (deed A.level g (record { piece = A.mover; act = Discard }))
          ≡ along A.limit g s (discard_by A.level g A.mover y.kind (Some m)) (λ q. 0) (discard_by A.level g A.mover y.kind (Some m)).events
      checks e = ap (judge A.limit g s) e ∙ rw (unmoved, free)

-- a discard writes and sends nothing
weightless_changes : (es : List Event) → weight 1 1 es ≤ 0 → changes_of es ≡ []
weightless_changes [] h = refl
weightless_changes (reads p a ∷ es) h = weightless_changes es h
weightless_changes (writes p a v ∷ es) h = absurd (omega arith)
weightless_changes (sends q m ∷ es) h = absurd (omega arith)

weightless_parcels : (es : List Event) → weight 1 1 es ≤ 0 → parcels_of es ≡ []
weightless_parcels [] h = refl
weightless_parcels (reads p a ∷ es) h = weightless_parcels es h
weightless_parcels (writes p a v ∷ es) h = absurd (omega arith)
weightless_parcels (sends q m ∷ es) h = absurd (omega arith)

grown_nothing : (t : Lists) (L : Level) (g : Game) (p k : ℕ) (m : Message) → grown t (discard_by L g p k (Some m)).events ≡ t
grown_nothing t L g p k m =
    let h = weight_discard 1 1 L g p k (Some m) in
    let a = weightless_changes (discard_by L g p k (Some m)).events h in
    let b = weightless_parcels (discard_by L g p k (Some m)).events h in
    λ i. record { changes = (ap (λ l. t.changes ++ l) a ∙ append-nil t.changes) i; parcels = (ap (λ l. t.parcels ++ l) b ∙ append-nil t.parcels) i }

-- the trails after a move that is accepted
pub grew : {X : Type 0} (r : Result X Why) (u v : Lists) (c : Check Why) → lists_or r u ≡ checked c v → is_ok r ≡ true → u ≡ v
grew (Ok x) u v pass e k = cc
grew (Ok x) u v (fail w) e k = absurd (let y : ◌≡◌ {A = ℕ} 0 1 = cc in omega arith)
grew (Err w) u v c e k = absurd (let y : ◌≡◌ {A = ℕ} 0 1 = cc in omega arith)

-- what the earlier moves did, with one move more
module _ (moved took moved' took' : ℕ → Bool) (t u : Lists) (d : Deed) (few : d.mover < 32) where
  pub one_more : moved' ≡ noted moved d.mover → took' ≡ (λ q. took q || (d.takes && noted (λ r. false) d.mover q)) → u ≡ grown t d.events
      → earlier_of moved' took' u ≡ and_so (earlier_of moved took t) d
  one_more a b c = (λ i. earlier_of (a i) (b i) (c i)) ∙ earlier_more moved took t d few

-- what is left in a tray, as the code reckons it
pub left_as : (g : Game) (took : ℕ → Bool) (b : Bool) (p : ℕ) → p < 32 → (q : ℕ)
    → left_in g q (took q || (b && noted (λ r. false) p q)) ≡ left_in g q (took q || (b && eqb p q))
left_as g took b p h q = ap (λ c. left_in g q (took q || (b && c))) (grind (arith, nat_tests))

-- a piece of the level has a row
pub has_row : (l : memory.Level) (p : ℕ) (y : Piece) → nth (meaning l).pieces p ≡ Some y → p < 32
has_row l p y e = let a = nth_below (meaning l).pieces p y e in let b = few_pieces l in omega arith

-- one move of piece p, as the code comes by it: n is what is noted before it, and n' what is noted then, and t are the trails before it
module _ {M : Type 0} (mail : Ghosts M) (l : memory.Level) (G : memory_game.Game M) (n n' : Listed) (t : Trails) (p written sent : ℕ) where
  abbrev limit : ℕ
  limit = mail.LIMIT

  abbrev L : Level
  L = meaning l

  abbrev g : Game
  g = means mail G

  abbrev At : Around
  At = record { level = L; board = board_of G.table; mover = p; written = written; sent = sent; left = λ q. left_in g q (took_in n' q); limit = limit; places = places t }

  module _ (marked : written ≡ length (held t.changes)) (sealed : sent ≡ length (held t.parcels)) (roomy : Roomy t) (unmoved : false ≡ moved_in n p) where
    found_at : Finds At (before n t) (lists t)
    found_at = record { written = marked; sent = sealed; wrote = λ q a. refl; posted = λ q. refl }

    -- what it takes, noted
    taking : (takes : Bool) → p < 32 → took_in n' ≡ (λ q. took_in n q || (takes && noted (λ r. false) p q))
        → (q : ℕ) → left_in g q (took_in n' q) ≡ left_in g q (took_in n q || (takes && eqb p q))
    taking takes few e q = ap (λ f. left_in g q (f q)) e ∙ left_as g (took_in n) takes p few q

    module _ (number : ℕ) (found : TransitionEntry) (h : Some found ≡ entry_of (transition_of L p number)) (takes : Bool) (trigger : takes ≡ not (eqb found.signal 0))
        (m : moved_in n' ≡ noted (moved_in n) p) (k : took_in n' ≡ (λ q. took_in n q || (takes && noted (λ r. false) p q)))
        (there : g.states p ≡ found.source) (o : Option Message) (w : Ok o ≡ awaited found.signal (ltb 0 (parcels_to (held t.parcels) p)) (front (g.trays p)))
        {X : Type 0} (r : Result X Why) (u : Trails) (did : lists_or r (lists u) ≡ transiting_by At (lists t) (nth (placed L) number) o) where
      it : (x : Placed) × (transition_of L p number ≡ Some x) × (found ≡ transition_entry x)
      it = entry_some (transition_of L p number) found h

      abbrev d : Deed
      d = deed L g (record { piece = p; act = Transition number })

      few : p < 32
      few = has_row l p _ (has_piece L p number it.0 it.1).1

      signal : found.signal ≡ it.0.transition.signal
      signal = ap (λ z. z.signal) it.2

      takes_is : takes ≡ d.takes
      takes_is = trigger ∙ ap (λ z. not (eqb z 0)) signal ∙ ap (λ y. (transit_deed L g p y).takes) (sym it.1)

      mover_is : d.mover ≡ p
      mover_is = ap (λ y. (transit_deed L g p y).mover) it.1

      transition_verdict : lists_or r (lists u) ≡ judged_by limit L g (before n t) (lists t) (record { piece = p; act = Transition number })
      transition_verdict =
          did ∙ transition_judged At g (before n t) (lists t) found_at refl roomy.0 roomy.1 (held_sound l) number it.0 it.1 (stands_in L p number it.0 it.1) (sym unmoved)
          (there ∙ ap (λ z. z.source) it.2)
          (λ q. taking takes few k q ∙ ap (λ c. left_in g q (took_in n q || (c && eqb p q))) (trigger ∙ ap (λ z. not (eqb z 0)) signal))
          o (w ∙ ap (λ z. awaited z (ltb 0 (parcels_to (held t.parcels) p)) (front (g.trays p))) signal)

      pub transition_judgement : (lists_or r (lists u) ≡ judged_by limit L g (before n t) (lists t) (record { piece = p; act = Transition number })) × (is_ok r ≡ true → before n' u ≡ and_so (before n t) d)
      transition_judgement = (
        transition_verdict,
        λ y. one_more (moved_in n) (took_in n) (moved_in n') (took_in n') (lists t) (lists u) d (subst (λ z. z < 32) (sym mover_is) few)
            (m ∙ ap (noted (moved_in n)) (sym mover_is)) (k ∙ (λ i. λ q. took_in n q || (takes_is i && noted (λ r. false) (sym mover_is i) q)))
            (grew r (lists u) (grown (lists t) d.events) (judge limit g (before n t) d) transition_verdict y),
      )

    module _ (entry : PieceEntry) (h : Some entry ≡ nth (map (piece_entry (counts L.kinds)) L.pieces) p)
        (m : moved_in n' ≡ noted (moved_in n) p) (k : took_in n' ≡ (λ q. took_in n q || (true && noted (λ r. false) p q)))
        (message : Message) (first : Some message ≡ front (g.trays p)) (free : ltb 0 (parcels_to (held t.parcels) p) ≡ false)
        (r : Result (Unit {0}) Why) (did : r ≡ discarded (held t.changes) (unwanted L (board_of G.table) p entry.kind (g.states p) message (placed L))) where
      the : (y : Piece) × (nth L.pieces p ≡ Some y) × (entry.kind ≡ y.kind)
      the = piece_some L p entry h

      abbrev away : Deed
      away = deed L g (record { piece = p; act = Discard })

      few_rows : p < 32
      few_rows = has_row l p _ the.1

      is : away ≡ discard_by L g p the.0.kind (Some message)
      is = ap (discard_deed L g p) the.1 ∙ ap (discard_by L g p the.0.kind) (sym first)

      -- its evaluation only reads, so that the trails stay
      nothing_more : grown (lists t) away.events ≡ lists t
      nothing_more = ap (λ z. grown (lists t) z.events) is ∙ grown_nothing (lists t) L g p the.0.kind message

      as_lists : (z : Result (Unit {0}) Why) → lists_or z (lists t) ≡ follow z (λ u. Ok (lists t))
      as_lists (Ok x) = refl
      as_lists (Err w) = refl

      discard_verdict : lists_or r (lists t) ≡ judged_by limit L g (before n t) (lists t) (record { piece = p; act = Discard })
      discard_verdict =
          as_lists r ∙ ap (λ z. follow z (λ u. Ok (lists t))) did
          ∙ ap (λ z. follow (discarded (held t.changes) (unwanted L (board_of G.table) p z (g.states p) message (placed L))) (λ u. Ok (lists t))) the.2
          ∙ discard_passed At g (before n t) (lists t) found_at refl roomy.0 roomy.1 (held_sound l) refl the.0 the.1 (sym unmoved) message (sym first) free (taking true few_rows k)
          ∙ ap (checked (judge limit g (before n t) away)) (sym nothing_more)

      mover_of : away.mover ≡ p
      mover_of = ap (λ z. z.mover) is

      pub discard_judgement : (lists_or r (lists t) ≡ judged_by limit L g (before n t) (lists t) (record { piece = p; act = Discard })) × (is_ok r ≡ true → before n' t ≡ and_so (before n t) away)
      discard_judgement = (
        discard_verdict,
        λ y. one_more (moved_in n) (took_in n) (moved_in n') (took_in n') (lists t) (lists t) away (subst (λ z. z < 32) (sym mover_of) few_rows)
            (m ∙ ap (noted (moved_in n)) (sym mover_of)) (k ∙ (λ i. λ q. took_in n q || (ap (λ z. z.takes) (sym is) i && noted (λ r. false) (sym mover_of i) q))) (sym nothing_more),
      )
