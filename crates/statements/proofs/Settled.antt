-- The sides of the clauses at worlds whose numbers, flags and slots are worked out before the next call: antt finds a call on values again, and computes a
-- call on what is still to be computed wherever it is named. Assumes nothing.
use Prim.Native.Nat.{ℕ, zero, suc}
use mathlib.Core.Path.{◌≡◌, refl, ap, ◌∙◌}
use mathlib.Core.Bool.{Bool, true, false}
use mathlib.Core.List.{List, [], ◌∷◌, map}
use lib.ListN.{length, replicate}
use Rattle.state.specs.declared.config.Config.{Config}
use Rattle.state.specs.declared.run.Phase.{Phase}
use Rattle.state.specs.Place.{at, depth_of}
use Rattle.demands.specs.Run.{World, call, run}
use Rattle.demands.specs.Openings.{Example}
use Rattle.statements.specs.Sides.{Side, sides_from, sides}

-- each hands its first argument on to the second
module _ {A : Type 0} where
  unfoldable pub number : ℕ → (ℕ → A) → A
  number zero k = k zero
  number (suc n) k = k (suc n)

  unfoldable pub flag : Bool → (Bool → A) → A
  flag true k = k true
  flag false k = k false

  unfoldable pub phase : Phase → (Phase → A) → A
  phase Phase.Init k = k Phase.Init
  phase Phase.InsideText k = k Phase.InsideText
  phase Phase.InsideMarkup k = k Phase.InsideMarkup
  phase Phase.InsideRef k = k Phase.InsideRef
  phase Phase.InsideEmpty k = k Phase.InsideEmpty
  phase Phase.Done k = k Phase.Done

  unfoldable pub slots : List ℕ → (List ℕ → A) → A
  slots [] k = k []
  slots (n ∷ ns) k = number n (λ m. slots ns (λ ms. k (m ∷ ms)))

  unfoldable pub settings : Config → (Config → A) → A
  settings c k =
      flag c.allow_dangling_amp (λ a. flag c.allow_unmatched_ends (λ u. flag c.check_comments (λ o. flag c.check_end_names (λ n.
      flag c.expand_empty_elements (λ x. flag c.trim_markup_names_in_closing_tags (λ m. flag c.trim_text_start (λ s. flag c.trim_text_end (λ e.
      flag c.check_open_names (λ z.
      k (record {
        allow_dangling_amp = a;
        allow_unmatched_ends = u;
        check_comments = o;
        check_end_names = n;
        expand_empty_elements = x;
        trim_markup_names_in_closing_tags = m;
        trim_text_start = s;
        trim_text_end = e;
        check_open_names = z;
      }))))))))))

  unfoldable pub world : World → (World → A) → A
  world w k =
      phase w.reader.phase (λ p. number w.reader.position.0 (λ i. number w.reader.depth.0 (λ d. number w.reader.length (λ l.
      settings w.reader.settings (λ c. flag w.reader.mark (λ m. slots w.stack (λ s.
      k (record { reader = record { phase = p; position = at i; depth = depth_of d; length = l; settings = c; mark = m }; stack = s; answers = w.answers }))))))))

  number_is : (n : ℕ) (k : ℕ → A) → number n k ≡ k n
  unfolding number
  number_is zero k = refl
  number_is (suc n) k = refl

  flag_is : (b : Bool) (k : Bool → A) → flag b k ≡ k b
  unfolding flag
  flag_is true k = refl
  flag_is false k = refl

  phase_is : (p : Phase) (k : Phase → A) → phase p k ≡ k p
  unfolding phase
  phase_is Phase.Init k = refl
  phase_is Phase.InsideText k = refl
  phase_is Phase.InsideMarkup k = refl
  phase_is Phase.InsideRef k = refl
  phase_is Phase.InsideEmpty k = refl
  phase_is Phase.Done k = refl

  slots_is : (ns : List ℕ) (k : List ℕ → A) → slots ns k ≡ k ns
  unfolding slots
  slots_is [] k = refl
  slots_is (n ∷ ns) k = number_is n (λ m. slots ns (λ ms. k (m ∷ ms))) ∙ slots_is ns (λ ms. k (n ∷ ms))

  settings_is : (c : Config) (k : Config → A) → settings c k ≡ k c
  unfolding settings
  settings_is c k = simp flag_is

  world_is : (w : World) (k : World → A) → world w k ≡ k w
  unfolding world
  world_is w k = simp (phase_is, number_is, settings_is, flag_is, slots_is)

module _ (side : Example → World → Side) (x : Example) where
  unfoldable pub settled_from : World → ℕ → List Side
  settled_from w zero = []
  settled_from w (suc n) = side x w ∷ world (call x.doc w) (λ next. settled_from next n)

  unfoldable pub settled : List Side
  settled = settled_from (run x.doc (replicate x.slots 0) x.settings 0) (length x.turns)

  settled_from_is : (w : World) (n : ℕ) → settled_from w n ≡ sides_from side x w n
  unfolding settled_from sides_from
  settled_from_is w zero = refl
  settled_from_is w (suc n) = ap (λ (l : List Side). side x w ∷ l) (world_is (call x.doc w) (λ next. settled_from next n) ∙ settled_from_is (call x.doc w) n)

  settled_is : settled ≡ sides side x
  unfolding settled sides
  settled_is = settled_from_is _ _

-- THEOREM: nothing but the way of computing is another
pub all_settled : (side : Example → World → Side) (xs : List Example) → map (settled side) xs ≡ map (sides side) xs
all_settled side [] = refl
all_settled side (x ∷ xs) = rw (settled_is side x, all_settled side xs)
