-- Outside and within quotes: how a byte more changes where bytes leave one, and that they leave one in one place only. Assumes nothing.
use Prim.Native.Nat.{ℕ}
use mathlib.Core.Path.{◌≡◌, refl, sym, ap, ◌∙◌, subst}
use mathlib.Core.List.{List, [], ◌∷◌, ◌++◌, append_assoc, append-nil}
use mathlib.Core.Logic.{inl, inr}
use native.Mathlib.Decide.{ℕ_discrete}
use Rattle.ground.specs.Bytes.{quot, apos, gt}
use Rattle.parser.specs.Machine.{Next, go, halt}
use Rattle.parser.specs.Element.{element_step, quote_of, IsQuote, Without, OutsideQuotes, at_first, unquoted, quoted, WithinQuote, after_quote, LeavesIn}
use Rattle.parser.specs.declared.element.ElementState.{ElementState}
use Rattle.parser.specs.declared.element.ElementState.TheVariants.{Outside, SingleQ, DoubleQ}
use Rattle.parser.proofs.Turns.{step_halt, step_quote, step_plain, step_close, step_within}

-- ---- a byte more

without_more : (q b : ℕ) (xs : List ℕ) → Without q xs → (b ≡ q → ⊥) → Without q (xs ++ (b ∷ []))
without_more q b [] w n = (n, tt)
without_more q b (x ∷ xs) w n = (w.0, without_more q b xs w.1 n)

-- the quote opens
pub opens : (q : ℕ) (bs : List ℕ) → OutsideQuotes bs → WithinQuote q (bs ++ (q ∷ []))
opens q bs o = after_quote [] o tt

-- the same quote closes it
pub closes : (q : ℕ) (bs : List ℕ) → IsQuote q → WithinQuote q bs → OutsideQuotes (bs ++ (q ∷ []))
closes q bs h (after_quote {bs = cs} xs o w) = subst OutsideQuotes (sym (append_assoc cs (q ∷ xs) (q ∷ []))) (quoted xs o h w)

-- and no other byte does
pub stays : (q b : ℕ) (bs : List ℕ) → (b ≡ q → ⊥) → WithinQuote q bs → WithinQuote q (bs ++ (b ∷ []))
stays q b bs n (after_quote {bs = cs} xs o w) =
    subst (WithinQuote q) (sym (append_assoc cs (q ∷ xs) (b ∷ []))) (after_quote (xs ++ (b ∷ [])) o (without_more q b xs w n))

-- ---- one place only: a fold over the bytes gives it

-- the state after a byte, where `>` changes nothing
after : ElementState → Next ElementState → ElementState
after q (go t) = t
after q halt = q

unfoldable run : ElementState → List ℕ → ElementState
run q [] = q
run q (b ∷ bs) = run (after q (element_step q b)) bs

run_append : (q : ElementState) (xs ys : List ℕ) → run q (xs ++ ys) ≡ run (run q xs) ys
unfolding run
run_append q [] ys = refl
run_append q (b ∷ bs) ys = run_append (after q (element_step q b)) bs ys

run_without : (q : ℕ) (xs : List ℕ) → IsQuote q → Without q xs → run (quote_of q) xs ≡ quote_of q
unfolding run after
run_without q [] h w = refl
run_without q (x ∷ xs) h w = ap (λ (n : Next ElementState). run (after (quote_of q) n) xs) (step_within q x h w.0) ∙ run_without q xs h w.1

run_plain : (b : ℕ) → (IsQuote b → ⊥) → run Outside (b ∷ []) ≡ Outside
unfolding run after
run_plain b n =
    elim (ℕ_discrete b gt) [
      | yes e ↦ ap (after Outside) (step_halt b e)
      | no d ↦ ap (after Outside) (step_plain b d n)
    ]

-- a quote and bytes without it, from outside
run_quote : (q : ℕ) (xs ys : List ℕ) → IsQuote q → Without q xs → run Outside (q ∷ (xs ++ ys)) ≡ run (quote_of q) ys
unfolding run after
run_quote q xs ys h w =
    ap (λ (n : Next ElementState). run (after Outside n) (xs ++ ys)) (step_quote q h)
    ∙ run_append (quote_of q) xs ys ∙ ap (λ (t : ElementState). run t ys) (run_without q xs h w)

outside_run : {bs : List ℕ} → OutsideQuotes bs → run Outside bs ≡ Outside
unfolding run after
outside_run at_first = refl
outside_run (unquoted {bs = bs} {b = b} o n) = run_append Outside bs (b ∷ []) ∙ ap (λ (t : ElementState). run t (b ∷ [])) (outside_run o) ∙ run_plain b n
outside_run (quoted {bs = bs} {q = q} xs o h w) =
    run_append Outside bs (q ∷ (xs ++ (q ∷ []))) ∙ ap (λ (t : ElementState). run t (q ∷ (xs ++ (q ∷ [])))) (outside_run o)
    ∙ run_quote q xs (q ∷ []) h w ∙ ap (after (quote_of q)) (step_close q q h refl)

within_run : (q : ℕ) {bs : List ℕ} → IsQuote q → WithinQuote q bs → run Outside bs ≡ quote_of q
unfolding run
within_run q h (after_quote {bs = bs} xs o w) =
    run_append Outside bs (q ∷ xs) ∙ ap (λ (t : ElementState). run t (q ∷ xs)) (outside_run o)
    ∙ sym (ap (λ (l : List ℕ). run Outside (q ∷ l)) (append-nil xs)) ∙ run_quote q xs [] h w

leaves_run : (q : ElementState) (bs : List ℕ) → LeavesIn q bs → run Outside bs ≡ q
leaves_run Outside bs o = outside_run o
leaves_run SingleQ bs w = within_run apos (inr refl) w
leaves_run DoubleQ bs w = within_run quot (inl refl) w

pub leaves_one : (q r : ElementState) (bs : List ℕ) → LeavesIn q bs → LeavesIn r bs → q ≡ r
leaves_one q r bs x y = sym (leaves_run q bs x) ∙ leaves_run r bs y
