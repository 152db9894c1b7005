-- What is read from slots and written into them, from what the code's tests and calls say. Assumes nothing.
use Prim.Native.Nat.{ℕ, ◌/◌, ◌%◌, ◌≤◌}
use native.Mathlib.Omega.{arith}
use mathlib.Core.Path.{◌≡◌}
use mathlib.Core.Bool.{Bool, not}
use mathlib.Core.List.{List, [], ◌∷◌}
use lib.ListN.{length, get_or, take}
use lib.Dec.{eqb}
use borrow.Author.Rules.{rules}
use Rattle.ground.specs.Choose.{pick}
use Rattle.ground.proofs.Choices.{pick_nlt}
use Rattle.state.specs.declared.config.Config.{Config}
use Rattle.state.specs.declared.run.Phase.{Phase}
use Rattle.state.specs.declared.run.Reader.{Reader}
use Rattle.state.specs.Place.{at, depth_of}
use Rattle.capi.specs.declared.slots.Held.{Held}
use Rattle.capi.specs.Numbers.{bit, config_of, settings_number, phase_number, phase_of, mark_slot, noted, state_numbers, held_of}
use Rattle.capi.specs.Slots.{put}

-- the lowest bit
lowest : (n : ℕ) → n / 1 % 2 ≡ n % 2
lowest n = omega arith

-- settings made bit by bit
pub config_made : (n : ℕ) (a b c d e f g h i : Bool)
    → a ≡ eqb (n % 2) 1 → b ≡ bit n 2 → c ≡ bit n 4 → d ≡ bit n 8 → e ≡ bit n 16 → f ≡ bit n 32 → g ≡ bit n 64 → h ≡ bit n 128 → i ≡ bit n 256
    → ◌≡◌ {A = Config}
    (record {
      allow_dangling_amp = a;
      allow_unmatched_ends = b;
      check_comments = c;
      check_end_names = d;
      expand_empty_elements = e;
      trim_markup_names_in_closing_tags = f;
      trim_text_start = g;
      trim_text_end = h;
      check_open_names = i;
    })
    (config_of n)
unfolding config_of
config_made n a b c d e f g h i ha hb hc hd he hf hg hh hi = rw (ha, hb, hc, hd, he, hf, hg, hh, hi, lowest n)

-- a reader made slot by slot
pub held_made : (xs : List ℕ) (p : Phase) (c : Config) (b : Bool) → 6 ≤ length xs → get_or xs 0 0 ≤ 5 → get_or xs 4 0 ≤ 511
    → p ≡ phase_of (get_or xs 0 0) → c ≡ config_of (get_or xs 4 0) → b ≡ not (eqb (mark_slot xs) 0)
    → Held.Reader (record { phase = p; position = at (get_or xs 1 0); depth = depth_of (get_or xs 2 0); length = get_or xs 3 0; settings = c; mark = b }) ≡ held_of xs
unfolding held_of
held_made xs p c b l m n hp hc hb =
    pick_nlt _ _ _ _ _ l
    (pick_nlt _ _ _ _ _ m
    (pick_nlt _ _ _ _ _ n (rw (hp, hc, hb))))

-- a reader's numbers written
pub state_put : (xs ys : List ℕ) (r : Reader) (p s m : ℕ) → p ≡ phase_number r.phase → s ≡ settings_number r.settings → (m ≡ pick r.mark 1 0) × (m ≤ 1)
    → ys ≡ put xs (p ∷ r.position.0 ∷ r.depth.0 ∷ r.length ∷ s ∷ m ∷ []) → ys ≡ put xs (state_numbers 0 r)
unfolding state_numbers
state_put xs ys r p s m hp hs hm e = rw (← hp, ← hs, ← hm.0) e

-- the mark noted, and the first three of them written
pub moved_put : (xs zs ys : List ℕ) (r : Reader) (p : ℕ) → zs ≡ noted xs r.mark → p ≡ phase_number r.phase → ys ≡ put zs (p ∷ r.position.0 ∷ r.depth.0 ∷ [])
    → ys ≡ put (noted xs r.mark) (take 3 (state_numbers 0 r))
unfolding state_numbers
moved_put xs zs ys r p hn hp e = rw (← hp, ← hn) e

pub ruleset numbers = (rules, config_made, held_made, state_put, moved_put)
