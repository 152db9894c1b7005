-- The way down while a document arrives in chunks. Assumes nothing.
use Prim.Native.Nat.{ℕ, ◌≤◌}
use mathlib.Core.List.{List}
use lib.ListN.{length}
use Rattle.state.specs.declared.config.Config.{Config}
use Rattle.state.specs.Limits.{longest}
use Rattle.demands.specs.Run.{World}
use Rattle.demands.specs.Calls.{Promise, Advanced, Advances}
use Rattle.demands.proofs.Joined.{advance_advances}
use Rattle.rows.specs.Words.{WayShown}
use Rattle.rows.proofs.Calls.{after_growing_calls_the_records_are_the_way_down}
use Rattle.arrivals.specs.Arriving.{Arriving}
use Rattle.arrivals.proofs.Runs.{arriving_calls_are_growing_calls}

-- THEOREM: whatever has come so far, a list that is lent between two calls shows the way down that their answers tell
pub while_a_document_arrives_the_records_are_the_way_down : (Kept : Promise) (advances : Advances Kept) (doc stack : List ℕ) (c : Config) → length doc ≤ longest
    → {come yet back : List ℕ} {n : ℕ} {w : World} → Arriving Kept doc stack c come yet back n w → WayShown w
while_a_document_arrives_the_records_are_the_way_down Kept advances doc stack c short calls =
    after_growing_calls_the_records_are_the_way_down Advanced advance_advances doc stack c (arriving_calls_are_growing_calls Kept advances doc stack c short calls)
