-- A call on the bytes so far, of which the piece that it reads is whole there, is the call on the whole document. Assumes nothing.
use Prim.Native.Nat.{ℕ, ◌≤◌, ◌<◌}
use mathlib.Core.Path.{◌≡◌, sym, ap, ◌∙◌}
use mathlib.Core.Logic.{◌↔◌}
use mathlib.Core.List.{List, ◌∷◌, ◌++◌}
use native.Mathlib.Omega.{arith}
use lib.ListN.{length, drop, length-append, length-drop}
use Rattle.state.specs.declared.run.Phase.{Phase}
use Rattle.state.specs.declared.run.Reader.{Reader}
use Rattle.state.specs.declared.run.Step.{Step}
use Rattle.state.specs.Limits.{longest}
use Rattle.pieces.specs.declared.scan.What.{What}
use Rattle.pieces.specs.declared.scan.Fed.{Fed}
use Rattle.pieces.specs.declared.scan.Told.{Told}
use Rattle.pieces.specs.Fed.{fed, fresh}
use Rattle.pieces.specs.Pieces.{joined, fed_all}
use Rattle.pieces.proofs.Cutting.{two_pieces}
use Rattle.pieces.proofs.Theorems.{however_cut_the_answer_is_that_for_the_uncut_bytes, what_is_found_stays_found}
use Rattle.reader.specs.Names.{written}
use Rattle.reader.specs.Step.{skipped, begin, step, Stepped}
use Rattle.arrivals.specs.Whole.{Closes, WholeIn, Whole, Stands, lengthened, lengthened_step}
use Rattle.arrivals.proofs.Stays.{grows, rest_stays}
use Rattle.arrivals.proofs.Ended.{closes_ended, closes_come}
use Rattle.arrivals.proofs.Steps.{skipped_same, begin_same, step_same}

-- THEOREM: a call on the bytes so far, of which the piece that it reads is whole there, answers what the call on the whole document answers, and leaves the same
-- reader but for the length
pub a_call_on_the_bytes_so_far_is_the_call_on_the_whole_document : (doc more stack : List ℕ) (r : Reader)
    → Stands doc r → length (doc ++ more) ≤ longest → Whole doc r
    → step (doc ++ more) stack (lengthened (length (doc ++ more)) r) ≡ lengthened_step (length (doc ++ more)) (step doc stack r)
a_call_on_the_bytes_so_far_is_the_call_on_the_whole_document doc more stack r at all w =
    step_same doc more r (omega (arith, grows doc more)) stack at all w

-- THEOREM: so what is promised of the one is promised of the other, every slot of the stack included
pub what_is_promised_on_the_bytes_so_far_is_promised_on_the_whole_document : (doc more stack : List ℕ) (r : Reader) (s : Step) (after : List ℕ)
    → Stands doc r → length (doc ++ more) ≤ longest → Whole doc r
    → Stepped doc stack r s after → Stepped (doc ++ more) stack (lengthened (length (doc ++ more)) r) (lengthened_step (length (doc ++ more)) s) after
unfolding lengthened_step
what_is_promised_on_the_bytes_so_far_is_promised_on_the_whole_document doc more stack r s after at all w p =
    let e = a_call_on_the_bytes_so_far_is_the_call_on_the_whole_document doc more stack r at all w in
    record {
      outcome = ap (lengthened_step (length (doc ++ more))) p.outcome ∙ sym e;
      slots = p.slots ∙ ap (λ (x : Step). written stack r.depth.0 x.answer) (sym e);
    }

-- THEOREM: and two calls that keep the promise, the one on the bytes so far and the other on the whole document, answer the same and leave the same stack
pub both_calls_answer_alike : (doc more stack : List ℕ) (r : Reader) (s t : Step) (after left : List ℕ)
    → Stands doc r → length (doc ++ more) ≤ longest → Whole doc r
    → Stepped doc stack r s after → Stepped (doc ++ more) stack (lengthened (length (doc ++ more)) r) t left
    → (t ≡ lengthened_step (length (doc ++ more)) s) × (left ≡ after)
both_calls_answer_alike doc more stack r s t after left at all w p q =
    let k = what_is_promised_on_the_bytes_so_far_is_promised_on_the_whole_document doc more stack r s after at all w p in
    (q.outcome ∙ sym k.outcome, q.slots ∙ sym k.slots)

-- ---- what is whole

-- THEOREM: a scan that was fed the bytes in chunks, as they came, tells a place exactly when the scan of all of them does: when the piece is whole
pub a_scan_fed_in_chunks_says_when_a_piece_is_whole : (chunk : List ℕ) (chunks : List (List ℕ)) (place : ℕ) → length (joined (chunk ∷ chunks)) ≤ longest
    → ((fed_all (fresh What.Piece) chunk chunks).told ≡ Told.At place) ↔ ((fed (fresh What.Piece) (joined (chunk ∷ chunks))).told ≡ Told.At place)
a_scan_fed_in_chunks_says_when_a_piece_is_whole chunk chunks place h =
    let e = ap (λ (x : Fed). x.told) (however_cut_the_answer_is_that_for_the_uncut_bytes (fresh What.Piece) chunk chunks (omega arith)) in
    (λ t. sym e ∙ t, λ t. e ∙ t)

-- ---- and stays whole

closes_stays : (bytes more : List ℕ) → length (bytes ++ more) ≤ longest → Closes bytes → Closes (bytes ++ more)
closes_stays bytes more h w =
    record {
      place = w.place;
      tells =
          ap (λ (x : Fed). x.told)
          (sym (two_pieces (fresh What.Piece) bytes more (omega arith)) ∙ what_is_found_stays_found (fresh What.Piece) bytes w.place w.tells more)
          ∙ w.tells;
    }

module _ (doc more : List ℕ) (r : Reader) (all : length (doc ++ more) ≤ longest) where
  short : length doc ≤ longest
  short = omega (arith, grows doc more)

  -- from a place in the bytes so far
  rest_closes : (from : ℕ) → Closes (drop from doc) → Closes (drop from (doc ++ more))
  rest_closes from w =
      let h : from < length doc = closes_come doc from short w in
      rw (rest_stays doc more from (omega arith))
      (closes_stays (drop from doc) more (omega (arith, length-append (drop from doc) more, length-append doc more, length-drop from doc)) w)

  text_closes : (from : ℕ) → Closes (drop (skipped doc r.settings from) doc) → Closes (drop (skipped (doc ++ more) r.settings from) (doc ++ more))
  text_closes from w =
      rw (skipped_same doc more r.settings from (closes_come doc (skipped doc r.settings from) short w)) (rest_closes (skipped doc r.settings from) w)

  whole_in_stays : (n : ℕ) (p : Phase) → WholeIn doc r p → WholeIn (doc ++ more) (lengthened n r) p
  whole_in_stays n Phase.Init w =
      rw (begin_same doc more _ (closes_ended doc (skipped doc r.settings (begin doc)) short w)) (text_closes (begin doc) w)
  whole_in_stays n Phase.InsideText w = text_closes r.position.0 w
  whole_in_stays n Phase.InsideMarkup w = rest_closes r.position.0 w
  whole_in_stays n Phase.InsideRef w = rest_closes r.position.0 w
  whole_in_stays n Phase.InsideEmpty w = tt
  whole_in_stays n Phase.Done w = tt

  -- THEOREM: a piece that is whole in the bytes so far is whole when more have come
  pub what_is_whole_stays_whole : Whole doc r → Whole (doc ++ more) (lengthened (length (doc ++ more)) r)
  what_is_whole_stays_whole w = whole_in_stays (length (doc ++ more)) r.phase w
