-- When the end is refused: the laws of the test that 18 goes by. Assumes nothing.
use Prim.Native.Nat.{ℕ, ◌≤◌, ◌<◌}
use mathlib.Core.Path.{◌≡◌, refl, sym, ◌∙◌}
use mathlib.Core.Bool.{true, false}
use native.Mathlib.Omega.{arith}
use borrow.Author.Tests.{lt-ltb, ltb-true}
use Rattle.ground.specs.Choose.{pick}
use Rattle.ground.proofs.Choices.{pick_cases, clash, both, must_fail, not_true}
use Rattle.state.specs.declared.run.Reader.{Reader}
use Rattle.state.specs.Make.{marked, refuses_end}

pub record RefusesEnd (r : Reader) : Type 0 where
  pub some : 0 < r.depth.0
  pub asked : r.settings.check_open_names ≡ true
  pub untold : r.mark ≡ false

pub refuses_true : (r : Reader) → refuses_end r ≡ true → RefusesEnd r
unfolding refuses_end
refuses_true r e =
    let a = both _ _ e in
    let b = both _ _ a.1 in
    record { some = ltb-true 0 r.depth.0 a.0; asked = b.0; untold = not_true r.mark (both _ _ b.1).0 }

pub true_refuses : (r : Reader) → RefusesEnd r → refuses_end r ≡ true
unfolding refuses_end
true_refuses r s = rw (lt-ltb 0 r.depth.0 s.some, s.asked, s.untold)

-- the end is not refused where nothing is open, where that is not checked, or where the end was told
pub none_open : (r : Reader) → r.depth.0 ≡ 0 → refuses_end r ≡ false
none_open r z = must_fail (refuses_end r) (λ e. omega (arith, (refuses_true r e).some))

pub not_asked : (r : Reader) → r.settings.check_open_names ≡ false → refuses_end r ≡ false
not_asked r off = must_fail (refuses_end r) (λ e. clash _ (refuses_true r e).asked off)

pub told_before : (r : Reader) → r.mark ≡ true → refuses_end r ≡ false
told_before r on = must_fail (refuses_end r) (λ e. clash _ on (refuses_true r e).untold)

-- ---- how many calls 18 takes

-- 1 where it is to come before Eof
abbrev pub owed : Reader → ℕ
owed r = pick (refuses_end r) 1 0

pub owed_few : (r : Reader) → owed r ≤ 1
owed_few r = pick_cases (λ (n : ℕ). n ≤ 1) (refuses_end r) 1 0 (λ _. omega arith) (λ _. omega arith)

pub owed_nothing : (r : Reader) → refuses_end r ≡ false → owed r ≡ 0
owed_nothing r e = rw e refl

pub nothing_owed : (r : Reader) → owed r ≤ 0 → refuses_end r ≡ false
nothing_owed r h = must_fail (refuses_end r) (λ e. let one : owed r ≡ 1 = rw e refl in omega arith)

pub owed_marked : (r : Reader) → owed (marked r) ≡ 0
unfolding marked
owed_marked r = owed_nothing _ (told_before _ refl)

-- with no more names open it is to come no sooner
pub owed_less : (r b : Reader) → b.settings ≡ r.settings → b.mark ≡ r.mark → b.depth.0 ≤ r.depth.0 → owed b ≤ owed r
owed_less r b c m d =
    pick_cases (λ (n : ℕ). n ≤ owed r) (refuses_end b) 1 0
    (λ e. let s = refuses_true b e in
    let on = true_refuses r (record { some = omega (arith, s.some); asked = rw c at s.asked; untold = sym m ∙ s.untold }) in
    rw on (omega arith))
    (λ _. omega arith)
