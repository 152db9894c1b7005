-- Calls over a stack that grows are calls over one that is lent whole from the start. Assumes nothing.
use Prim.Native.Nat.{ℕ, zero, suc, ◌≤◌}
use mathlib.Core.Path.{◌≡◌, refl, sym, ap, ◌∙◌, subst}
use mathlib.Core.Bool.{Bool, true, false}
use mathlib.Core.Logic.{inl, inr}
use mathlib.Core.List.{List, [], ◌++◌, append-nil, append_assoc}
use lib.ListN.{length}
use lib.Dec.{ltb}
use borrow.Author.Tests.{ltb-true}
use Rattle.ground.proofs.Choices.{pick_nlt}
use Rattle.state.specs.declared.config.Config.{Config}
use Rattle.state.specs.declared.answer.Answer.{Answer}
use Rattle.state.specs.declared.run.Reader.{Reader}
use Rattle.state.specs.Limits.{longest, capacity}
use Rattle.state.specs.Make.{fresh, made}
use Rattle.demands.specs.Run.{World, run}
use Rattle.demands.specs.Calls.{Promise, Advanced, Advances, Calls, none, more}
use Rattle.demands.specs.Growing.{lending, Enough, Growing}
use Rattle.demands.proofs.Joined.{advance_advances, calls_are_a_run}
use Rattle.demands.proofs.Longer.{a_call_with_room_is_the_same_over_a_longer_stack}

-- what a call lent enough does, it does lent all
module _ (doc : List ℕ) (before : Reader) (answer : Answer) (after : Reader) where
  lent_all : (stack left back : List ℕ) → Enough stack before.depth.0 back → Advanced doc stack before answer after left
      → Advanced doc (stack ++ back) before answer after (left ++ back)
  lent_all stack left back (inl room) p =
      let same = a_call_with_room_is_the_same_over_a_longer_stack doc stack back before room in
      record { outcome = p.outcome ∙ sym same.0; slots = ap (λ (l : List ℕ). l ++ back) p.slots ∙ sym same.1 }
  lent_all stack left back (inr all) p = rw (all, append-nil stack, append-nil left) p

module _ (Kept : Promise) (advances : Advances Kept) (doc stack : List ℕ) (c : Config) where
  -- THEOREM: calls over a stack that grows are calls over the whole stack: with the slots that are kept back behind it, what stands after the ones stands after the others
  pub growing_calls_are_calls : {back : List ℕ} {n : ℕ} {w : World} → Growing Kept doc stack c back n w → Calls Advanced doc stack c n (lending w back)
  growing_calls_are_calls (Growing.none lent back r whole e) =
      subst (λ (l : List ℕ). Calls Advanced doc stack c zero (record { reader = r; stack = l; answers = [] })) (sym whole) (none r e)
  growing_calls_are_calls (Growing.lend {n} {w} slots back before) =
      subst (λ (l : List ℕ). Calls Advanced doc stack c n (record { reader = w.reader; stack = l; answers = w.answers })) (sym (append_assoc w.stack slots back))
      (growing_calls_are_calls before)
  growing_calls_are_calls (Growing.more {back} {n} {w} {answer} {reader} {left} before enough k) =
      more (growing_calls_are_calls before) (lent_all doc w.reader answer reader w.stack left back enough (advances doc _ _ answer reader left k))

  -- THEOREM: so they are a run, over the stack lent whole from the start
  pub growing_calls_are_a_run : {back : List ℕ} {n : ℕ} {w : World} → Growing Kept doc stack c back n w → (length doc ≤ longest) × (lending w back ≡ run doc stack c n)
  growing_calls_are_a_run calls = calls_are_a_run Advanced advance_advances doc stack c (growing_calls_are_calls calls)

module _ (doc lent back : List ℕ) (c : Config) (short : length doc ≤ longest) where
  -- the next call, of which all slots are lent where those lent so far are too few
  next : {kept : List ℕ} {n : ℕ} {w : World} (room : Bool) → ltb w.reader.depth.0 (capacity (length w.stack)) ≡ room
      → Growing Advanced doc (lent ++ back) c kept n w → (later : List ℕ) × (after : World) × Growing Advanced doc (lent ++ back) c later (suc n) after
  next {kept} true e calls = (kept, _, Growing.more calls (inl (ltb-true _ _ e)) (record { outcome = refl; slots = refl }))
  next {kept} {n} {w} false e calls =
      let all : Growing Advanced doc (lent ++ back) c (kept ++ []) n w = rw (append-nil kept) calls in
      ([], _, Growing.more (Growing.lend kept [] all) (inr refl) (record { outcome = refl; slots = refl }))

  -- THEOREM: and there are n such calls of `advance`, however little is lent at first
  pub there_are_growing_calls : (n : ℕ) → (kept : List ℕ) × (w : World) × Growing Advanced doc (lent ++ back) c kept n w
  unfolding made
  there_are_growing_calls zero = (back, _, Growing.none lent back (fresh (length doc) c) refl (sym (pick_nlt _ _ _ _ _ short refl)))
  there_are_growing_calls (suc n) = let before = there_are_growing_calls n in next _ refl before.2
