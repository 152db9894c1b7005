-- A part of a slice by its ends.
use Rattle.std.specs.Prelude.{ℕ, ◌+◌, ◌-◌, ◌≡◌, List, [], length, take, drop, ltb}
use Rattle.std.specs.Borrow.{Bor}
use Rattle.ground.specs.Choose.{pick}

-- the bytes from `from` up to `to`; none where that span does not lie in the slice (document 01: "a span that doesn't lie in the slice gives the
-- empty part at its end")
abbrev pub part : List ℕ → ℕ → ℕ → List ℕ
part s from to = pick (ltb to from) [] (pick (ltb (length s) to) [] (take (to - from) (drop from s)))

-- where they begin: at `from`, and at the slice's end where that span does not lie in it
abbrev pub start_of : List ℕ → ℕ → ℕ → ℕ
start_of s from to = pick (ltb to from) (length s) (pick (ltb (length s) to) (length s) from)

-- THE PROMISE of a part that is handed back: its bytes, and its address, which is that of the slice and so many bytes more
pub record PartOf (s : Bor (List ℕ)) (from to : ℕ) (r : Bor (List ℕ)) : Type 0 where
  pub bytes : r.now ≡ part s.now from to
  pub block : r.ref_ptr.0 ≡ s.ref_ptr.0
  pub offset : r.ref_ptr.1 ≡ s.ref_ptr.1 + start_of s.now from to
