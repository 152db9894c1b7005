-- Calls on a document that arrives in chunks are calls on the whole document. Assumes nothing.
use Prim.Native.Nat.{ℕ, zero, suc, ◌≤◌}
use mathlib.Core.Path.{◌≡◌, refl, sym, ap, ◌∙◌, subst}
use mathlib.Core.Bool.{Bool, true, false}
use mathlib.Core.Logic.{◌⊎◌, inl, inr}
use mathlib.Core.List.{List, [], ◌++◌, append-nil, append_assoc}
use native.Mathlib.Omega.{arith}
use lib.ListN.{length, drop, length-append}
use lib.Dec.{ltb}
use borrow.Author.Tests.{ltb-true}
use Rattle.ground.proofs.Choices.{pick_nlt}
use Rattle.state.specs.declared.config.Config.{Config}
use Rattle.state.specs.declared.answer.Answer.{Answer}
use Rattle.state.specs.declared.run.Phase.{Phase}
use Rattle.state.specs.declared.run.Reader.{Reader}
use Rattle.state.specs.declared.run.Step.{Step}
use Rattle.state.specs.declared.run.Made.{Made}
use Rattle.state.specs.Limits.{longest, capacity}
use Rattle.state.specs.Make.{fresh, made, bad_state}
use Rattle.reader.specs.Sound.{sound}
use Rattle.pieces.specs.declared.scan.What.{What}
use Rattle.pieces.specs.declared.scan.Told.{Told}
use Rattle.pieces.specs.Fed.{fed, fresh as fresh_scan}
use Rattle.reader.specs.Step.{begin, skipped, step}
use Rattle.reader.proofs.Outside.{step_turn}
use Rattle.demands.specs.Run.{World, run}
use Rattle.demands.specs.Calls.{Promise, Advanced, Advances, Calls}
use Rattle.demands.specs.Growing.{lending, Growing}
use Rattle.demands.proofs.Demand1.{a_reader_made_is_a_run's}
use Rattle.demands.proofs.Joined.{advance_advances}
use Rattle.demands.proofs.Growing.{growing_calls_are_calls, growing_calls_are_a_run}
use Rattle.arrivals.specs.Whole.{Closes, WholeIn, Whole, Stands, lengthened, lengthened_step}
use Rattle.arrivals.specs.Arriving.{over, Ready, Arriving}
use Rattle.arrivals.proofs.Arrivals.{what_is_promised_on_the_bytes_so_far_is_promised_on_the_whole_document}

-- ---- a reader of these bytes is one after a call too

module _ (doc stack : List ℕ) (r : Reader) (s : Stands doc r) where
  stands_by : (t : Bool) → sound doc stack r ≡ t → Stands doc (step doc stack r).reader
  unfolding step bad_state
  stands_by true e = let t = step_turn doc stack r e in record { own = t.size ∙ s.own; within = omega arith }
  stands_by false e = rw e s

  stands_on : Stands doc (step doc stack r).reader
  stands_on = stands_by (sound doc stack r) refl

-- ---- a call, as one on the whole document

-- a reader over as many bytes as it knows of is the same
own_length : (n : ℕ) (r : Reader) → r.length ≡ n → lengthened n r ≡ r
own_length n r e = ap (λ (k : ℕ). lengthened k r) (sym e)

module _ (doc come yet stack : List ℕ) (before : Reader) (answer : Answer) (after : Reader) (left : List ℕ) (joined : come ++ yet ≡ doc)
    (short : length doc ≤ longest) (at : Stands come before) (p : Advanced come stack before answer after left) where
  after_stands : Stands come after
  after_stands = subst (λ (s : Step). Stands come s.reader) (sym p.outcome) (stands_on come stack before at)

  as_whole : Ready come yet before → Advanced doc stack (lengthened (length doc) before) answer (lengthened (length doc) after) left
  unfolding lengthened_step
  as_whole (inl whole) =
      subst (λ (l : List ℕ). Advanced l stack (lengthened (length l) before) answer (lengthened (length l) after) left) joined
      (what_is_promised_on_the_bytes_so_far_is_promised_on_the_whole_document come yet stack before _ left at (rw joined short) whole p)
  as_whole (inr all) =
      let e : come ≡ doc = sym (append-nil come) ∙ ap (λ (l : List ℕ). come ++ l) (sym all) ∙ joined in
      subst (λ (l : List ℕ). Advanced l stack (lengthened (length l) before) answer (lengthened (length l) after) left) e
      (rw (own_length (length come) before at.own, own_length (length come) after after_stands.own) p)

-- ---- calls

module _ (Kept : Promise) (advances : Advances Kept) (doc stack : List ℕ) (c : Config) (short : length doc ≤ longest) where
  -- what holds between them
  record Heard (come yet back : List ℕ) (n : ℕ) (w : World) : Type 0 where
    pub joined : come ++ yet ≡ doc
    pub at : Stands come w.reader
    pub calls : Growing Advanced doc stack c back n (over (length doc) w)

  heard : {come yet back : List ℕ} {n : ℕ} {w : World} → Arriving Kept doc stack c come yet back n w → Heard come yet back n w
  unfolding made fresh run
  heard (Arriving.none come yet lent back r joined whole e) =
      let is : r ≡ fresh (length come) c = (a_reader_made_is_a_run's come stack c r e).1 in
      record {
        joined = joined;
        at = subst (Stands come) (sym is) (record { own = refl; within = omega arith });
        calls =
            Growing.none lent back (lengthened (length doc) r) whole
            (subst (λ (x : Reader). made (length doc) c ≡ Made.Fresh (lengthened (length doc) x)) (sym is) (sym (pick_nlt _ _ _ _ _ short refl)));
      }
  heard (Arriving.arrive {come} {back} {n} {w} chunk yet before) =
      let h = heard before in
      record {
        joined = append_assoc come chunk yet ∙ h.joined;
        at = record { own = refl; within = omega (arith, h.at.within, length-append come chunk) };
        calls = h.calls;
      }
  heard (Arriving.lend slots back before) = let h = heard before in record { joined = h.joined; at = h.at; calls = Growing.lend slots back h.calls }
  heard (Arriving.more {come} {yet} {back} {n} {w} {answer} {reader} {left} before ready enough k) =
      let h = heard before in
      let p = advances come _ _ answer reader left k in
      record {
        joined = h.joined;
        at = after_stands doc come yet w.stack w.reader answer reader left h.joined short h.at p;
        calls = Growing.more h.calls enough (as_whole doc come yet w.stack w.reader answer reader left h.joined short h.at p ready);
      }

  -- THEOREM: calls on a document that arrives in chunks are calls on the whole document, over a stack that grows
  pub arriving_calls_are_growing_calls : {come yet back : List ℕ} {n : ℕ} {w : World} → Arriving Kept doc stack c come yet back n w
      → Growing Advanced doc stack c back n (over (length doc) w)
  arriving_calls_are_growing_calls calls = (heard calls).calls

  -- THEOREM: so they are calls over the stack lent whole from the start
  pub arriving_calls_are_calls : {come yet back : List ℕ} {n : ℕ} {w : World} → Arriving Kept doc stack c come yet back n w
      → Calls Advanced doc stack c n (lending (over (length doc) w) back)
  arriving_calls_are_calls calls = growing_calls_are_calls Advanced advance_advances doc stack c (arriving_calls_are_growing_calls calls)

  -- THEOREM: and the run over the whole document
  pub arriving_calls_are_a_run : {come yet back : List ℕ} {n : ℕ} {w : World} → Arriving Kept doc stack c come yet back n w
      → lending (over (length doc) w) back ≡ run doc stack c n
  arriving_calls_are_a_run calls = (growing_calls_are_a_run Advanced advance_advances doc stack c (arriving_calls_are_growing_calls calls)).1

  -- THEOREM: and its answers are heard
  pub the_answers_of_the_run_are_heard : {come yet back : List ℕ} {n : ℕ} {w : World} → Arriving Kept doc stack c come yet back n w
      → w.answers ≡ (run doc stack c n).answers
  the_answers_of_the_run_are_heard calls = ap (λ (x : World). x.answers) (arriving_calls_are_a_run calls)

-- ---- there are such calls

-- the scan tells whether a piece is whole
closes_or : (bytes : List ℕ) (t : Told) → (fed (fresh_scan What.Piece) bytes).told ≡ t → Closes bytes ⊎ Unit {0}
closes_or bytes (Told.At place) e = inl (record { place = place; tells = e })
closes_or bytes Told.Open e = inr tt
closes_or bytes (Told.Refused error) e = inr tt

whole_or : (doc : List ℕ) (r : Reader) (p : Phase) → WholeIn doc r p ⊎ Unit {0}
whole_or doc r Phase.Init = closes_or (drop (skipped doc r.settings (begin doc)) doc) _ refl
whole_or doc r Phase.InsideText = closes_or (drop (skipped doc r.settings r.position.0) doc) _ refl
whole_or doc r Phase.InsideMarkup = closes_or (drop r.position.0 doc) _ refl
whole_or doc r Phase.InsideRef = closes_or (drop r.position.0 doc) _ refl
whole_or doc r Phase.InsideEmpty = inl tt
whole_or doc r Phase.Done = inl tt

-- n calls of `advance`, with what has come and what is lent by then
pub record Arrived (doc stack : List ℕ) (c : Config) (n : ℕ) : Type 0 where
  pub come : List ℕ
  pub yet : List ℕ
  pub back : List ℕ
  pub world : World
  pub calls : Arriving Advanced doc stack c come yet back n world

arrived : {doc stack come yet back : List ℕ} {c : Config} {n : ℕ} {w : World} → Arriving Advanced doc stack c come yet back n w → Arrived doc stack c n
arrived {doc} {stack} {come} {yet} {back} {c} {n} {w} calls = record { come = come; yet = yet; back = back; world = w; calls = calls }

module _ (doc stack : List ℕ) (c : Config) where
  -- the next call, of which all slots are lent where those lent so far are too few
  lent_next : {come yet back : List ℕ} {n : ℕ} {w : World} (room : Bool) → ltb w.reader.depth.0 (capacity (length w.stack)) ≡ room
      → Ready come yet w.reader → Arriving Advanced doc stack c come yet back n w → Arrived doc stack c (suc n)
  lent_next true e ready calls = arrived (Arriving.more calls ready (inl (ltb-true _ _ e)) (record { outcome = refl; slots = refl }))
  lent_next {come} {yet} {back} {n} {w} false e ready calls =
      let all : Arriving Advanced doc stack c come yet (back ++ []) n w = rw (append-nil back) calls in
      arrived (Arriving.more (Arriving.lend back [] all) ready (inr refl) (record { outcome = refl; slots = refl }))

  -- and before which all bytes come where its piece is not whole in those that have
  next : {come yet back : List ℕ} {n : ℕ} {w : World} → Whole come w.reader ⊎ Unit {0} → Arriving Advanced doc stack c come yet back n w
      → Arrived doc stack c (suc n)
  next (inl whole) calls = lent_next _ refl (inl whole) calls
  next {come} {yet} {back} {n} {w} (inr _) calls =
      let all : Arriving Advanced doc stack c come (yet ++ []) back n w = rw (append-nil yet) calls in
      lent_next _ refl (inr refl) (Arriving.arrive yet [] all)

-- THEOREM: however little has come and is lent at first, there are n such calls of `advance`
pub there_are_arriving_calls : (come yet lent back : List ℕ) (c : Config) → length (come ++ yet) ≤ longest → (n : ℕ) → Arrived (come ++ yet) (lent ++ back) c n
unfolding made
there_are_arriving_calls come yet lent back c short zero =
    let few : length come ≤ longest = omega (arith, length-append come yet) in
    arrived (Arriving.none come yet lent back (fresh (length come) c) refl refl (sym (pick_nlt _ _ _ _ _ few refl)))
there_are_arriving_calls come yet lent back c short (suc n) =
    let before = there_are_arriving_calls come yet lent back c short n in
    next (come ++ yet) (lent ++ back) c (whole_or before.come before.world.reader before.world.reader.phase) before.calls
