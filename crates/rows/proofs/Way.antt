-- In a run no record and no list is refused, and the records are the way down that the answers tell. Assumes nothing.
use Prim.Native.Nat.{ℕ, zero, suc, ◌+◌, ◌-◌, ◌≤◌, ◌<◌, min}
use mathlib.Core.Path.{◌≡◌, refl, sym, ap, ap₂, ◌∙◌, subst}
use mathlib.Core.Bool.{true}
use mathlib.Core.List.{List, [], ◌∷◌, ◌++◌, map, reverse, reverse-cons}
use native.Mathlib.Omega.{arith}
use native.Mathlib.Decide.{dec_lt}
use lib.ListN.{length, get_or, take, drop, length-take, length-reverse, drop_of_length-le}
use lib.Seq.{take_at, take_all}
use borrow.Author.Tests.{le-leb}
use Rattle.state.specs.declared.place.Span.{Span}
use Rattle.state.specs.declared.place.Position.{Position}
use Rattle.state.specs.declared.place.Depth.{Depth}
use Rattle.state.specs.declared.config.Config.{Config}
use Rattle.state.specs.declared.answer.Answer.{Answer}
use Rattle.state.specs.Limits.{longest, capacity}
use Rattle.state.specs.Place.{depth_of}
use Rattle.reader.specs.Names.{entry, bytes}
use Rattle.demands.specs.Run.{World, run}
use Rattle.demands.specs.Open.{entries, left_open}
use Rattle.demands.proofs.Held.{Behind, entries_length, run_held}
use Rattle.rows.specs.declared.row.Row.{Row}
use Rattle.rows.specs.declared.row.Given.{Given}
use Rattle.rows.specs.declared.row.Filled.{Filled}
use Rattle.rows.specs.Answers.{count_of}
use Rattle.rows.specs.Rows.{record_of, row_at, in_order, all_in_order, row_of, plan_of, rows_from, filled_with, Listed}
use Rattle.rows.specs.Words.{numbered, way_down, Shows, name_bytes}
use Rattle.rows.proofs.Records.{one_given, one_shows, plan_all}
use Rattle.rows.proofs.Lists.{rows_length, rows_more}
use Rattle.rows.proofs.Theorems.{passed_ordered, a_record_is_its_entry, each_record_is_the_one_of_its_depth}

-- ---- names, the outermost first

pub numbered_length : (depth : ℕ) (names : List Span) → length (numbered depth names) ≡ length names
unfolding numbered
numbered_length depth [] = refl
numbered_length depth (name ∷ names) = ap suc (numbered_length (suc depth) names)

-- one more name is the last
numbered_more : (depth : ℕ) (names : List Span) (name : Span) → numbered depth (names ++ (name ∷ [])) ≡ numbered depth names ++ (record_of name (depth + length names) ∷ [])
unfolding numbered
numbered_more depth [] name = let e : depth ≡ depth + 0 = omega arith in ap (λ (m : ℕ). record_of name m ∷ []) e
numbered_more depth (first ∷ names) name =
    let e : suc depth + length names ≡ depth + suc (length names) = omega arith in
    ap (λ (rows : List Row). record_of first depth ∷ rows) (numbered_more (suc depth) names name ∙ ap (λ (m : ℕ). numbered (suc depth) names ++ (record_of name m ∷ [])) e)

-- the records of d names are those that the stack has, turned round
entries_down : (stack : List ℕ) (d : ℕ) → rows_from stack 0 d ≡ numbered 1 (reverse (entries stack d))
unfolding entries rows_from numbered
entries_down stack zero = refl
entries_down stack (suc d) =
    let deep : length (reverse (entries stack d)) ≡ d = length-reverse (entries stack d) ∙ entries_length stack d in
    let from : 0 + d ≡ d = omega arith in
    let up : d + 1 ≡ 1 + length (reverse (entries stack d)) = omega arith in
    rows_more stack 0 d
    ∙ ap (λ (m : ℕ). rows_from stack 0 d ++ (row_at stack m ∷ [])) from
    ∙ ap (λ (rows : List Row). rows ++ (row_at stack d ∷ [])) (entries_down stack d)
    ∙ ap (λ (m : ℕ). numbered 1 (reverse (entries stack d)) ++ (record_of (entry stack d) m ∷ [])) up
    ∙ sym (numbered_more 1 (reverse (entries stack d)) (entry stack d))
    ∙ ap (numbered 1) (sym (reverse-cons (entry stack d) (entries stack d)))

-- the outermost of them
rows_first : (stack : List ℕ) (d n k : ℕ) → k ≤ n → take k (rows_from stack d n) ≡ rows_from stack d k
unfolding rows_from
rows_first stack d n zero h = refl
rows_first stack d zero (suc k) h = absurd (omega arith)
rows_first stack d (suc n) (suc k) h = ap (λ (rows : List Row). row_at stack d ∷ rows) (rows_first stack (d + 1) n k (omega arith))

-- ---- names behind the position are in order

behind_each : (stack : List ℕ) (position : Position) (n d : ℕ) → Behind position.0 (entries stack n) → d < n → in_order stack position d ≡ true
unfolding entries
behind_each stack position zero d b h = absurd (omega arith)
behind_each stack position (suc n) d b h = elim (dec_lt d n) [
  | yes l ↦ behind_each stack position n d b.2 l
  | no l ↦ let same : n ≡ d = omega arith in
      subst (λ (k : ℕ). in_order stack position k ≡ true) same (rw (le-leb (entry stack n).from (entry stack n).to b.0, le-leb (entry stack n).to position.0 b.1) refl)
]

behind_all : (stack : List ℕ) (position : Position) (n k : ℕ) → Behind position.0 (entries stack n) → k ≤ n → all_in_order stack position k ≡ true
unfolding all_in_order
behind_all stack position n zero b h = refl
behind_all stack position n (suc k) b h = rw (behind_all stack position n k b (omega arith), behind_each stack position n k b (omega arith)) refl

-- ---- what is filled, by the names alone

module _ (stack : List ℕ) (position : Position) (names : Depth) (deep : names.0 ≤ capacity (length stack)) (b : Behind position.0 (entries stack names.0)) where
  given_each : (depth : Depth) → 1 ≤ depth.0 → depth.0 ≤ names.0 → row_of stack position names depth ≡ Given.Row (row_at stack (depth.0 - 1))
  given_each depth h k = one_given stack position names depth deep h k (behind_each stack position names.0 (depth.0 - 1) b (omega arith))

  planned_all : (room : ℕ) → plan_of stack position names room ≡ Filled.Rows (min names.0 room)
  planned_all room = sym (plan_all stack position names room deep (behind_all stack position names.0 (min names.0 room) b (omega arith)))

-- the n outermost of so many names, and what is left of a list behind them
rows_down : (stack : List ℕ) (names room : ℕ) → rows_from stack 0 (min names room) ≡ take room (numbered 1 (reverse (entries stack names)))
rows_down stack names room =
    let all = entries_down stack names in
    elim (dec_lt names room) [
      | yes h ↦
          let k : min names room ≡ names = omega arith in
          let long : length (numbered 1 (reverse (entries stack names))) ≡ names = ap length (sym all) ∙ rows_length stack 0 names in
          rw k (all ∙ sym (take_all room _ (omega arith)))
      | no h ↦
          let k : min names room ≡ room = omega arith in
          rw k (sym (rows_first stack 0 names room (omega arith)) ∙ ap (take room) all)
    ]

drop_least : (n : ℕ) (list : List Row) → drop (min n (length list)) list ≡ drop n list
drop_least n list =
    elim (dec_lt n (length list)) [
      | yes h ↦ let k : min n (length list) ≡ n = omega arith in ap (λ (m : ℕ). drop m list) k
      | no h ↦
          let k : min n (length list) ≡ length list = omega arith in
          ap (λ (m : ℕ). drop m list) k ∙ drop_of_length-le list {i = length list} (omega arith) ∙ sym (drop_of_length-le list {i = n} (omega arith))
    ]

-- ---- in a run

module _ (doc stack : List ℕ) (c : Config) (short : length doc ≤ longest) (n : ℕ) where
  abbrev w : World
  w = run doc stack c n

  -- THEOREM: in a run, whatever the settings, no record of a depth from 1 to the names open is refused
  pub no_record_is_refused : (depth : Depth) → 1 ≤ depth.0 → depth.0 ≤ w.reader.depth.0
      → row_of w.stack w.reader.position w.reader.depth depth ≡ Given.Row (row_at w.stack (depth.0 - 1))
  no_record_is_refused =
      let h = run_held doc c short stack n in
      given_each w.stack w.reader.position w.reader.depth h.deep h.behind

  -- THEOREM: nor any list
  pub no_list_is_refused : (room : ℕ) → plan_of w.stack w.reader.position w.reader.depth room ≡ Filled.Rows (min w.reader.depth.0 room)
  no_list_is_refused =
      let h = run_held doc c short stack n in
      planned_all w.stack w.reader.position w.reader.depth h.deep h.behind

  -- as many names are open as the answers leave, and the outermost of them are the first of the way down
  pub as_many_open : w.reader.depth.0 ≡ length (left_open w.answers)
  as_many_open = sym (entries_length w.stack w.reader.depth.0) ∙ ap length (run_held doc c short stack n).names

  pub the_first_rows : (room : ℕ) → rows_from w.stack 0 (min w.reader.depth.0 room) ≡ take room (way_down w.answers)
  unfolding way_down
  the_first_rows room =
      rows_down w.stack w.reader.depth.0 room ∙ ap (λ (names : List Span). take room (numbered 1 (reverse names))) (run_held doc c short stack n).names

  -- THEOREM: "the records are the open names of demand 3, outermost first", with depth 1, 2, ..: the way down that the answers given so far tell
  pub the_records_are_the_way_down : (list : List Row) (answer : Filled) (list' : List Row)
      → Listed w.stack w.reader.position w.reader.depth list answer list' → Shows w.answers list answer list'
  unfolding filled_with
  the_records_are_the_way_down list answer list' p =
      let count : answer ≡ Filled.Rows (min w.reader.depth.0 (length list)) = p.said ∙ no_list_is_refused (length list) in
      record {
        count = count ∙ ap (λ (d : ℕ). Filled.Rows (min d (length list))) as_many_open;
        rows =
            p.rows
            ∙ ap (λ (f : Filled). filled_with w.stack (count_of f) list) count
            ∙ ap₂ ◌++◌ (the_first_rows (length list)) (drop_least w.reader.depth.0 list ∙ ap (λ (d : ℕ). drop d list) as_many_open);
      }

  -- THEOREM: each of them lies in the document
  pub each_record_lies_in_the_document : (list : List Row) (answer : Filled) (list' : List Row) → Listed w.stack w.reader.position w.reader.depth list answer list'
      → (i : ℕ) (any : Row) → i < count_of answer → ((get_or list' i any).start.0 ≤ (get_or list' i any).end.0) × ((get_or list' i any).end.0 ≤ length doc)
  each_record_lies_in_the_document list answer list' p i any h =
      let e = each_record_is_the_one_of_its_depth w.stack w.reader.position w.reader.depth list answer list' p i any h in
      let is = a_record_is_its_entry w.stack w.reader.position w.reader.depth (depth_of (i + 1)) (get_or list' i any) e in
      let o = passed_ordered w.stack w.reader.position (i + 1 - 1) (one_shows w.stack w.reader.position w.reader.depth (depth_of (i + 1)) (get_or list' i any) e).ordered in
      (omega (arith, is.0, is.1, o.ordered), omega (arith, is.1, o.behind, (run_held doc c short stack n).in_doc))

-- ---- the bytes of the records

module _ (doc : List ℕ) where
  numbered_bytes : (depth room : ℕ) (names : List Span) → map (name_bytes doc) (take room (numbered depth names)) ≡ take room (map (bytes doc) names)
  unfolding numbered
  numbered_bytes depth zero names = refl
  numbered_bytes depth (suc room) [] = refl
  numbered_bytes depth (suc room) (name ∷ names) = ap (λ (bs : List (List ℕ)). bytes doc name ∷ bs) (numbered_bytes (suc depth) room names)

  -- THEOREM: "their bytes are the names that the answers given so far say"
  pub their_bytes_are_the_names_told : (answers : List Answer) (list : List Row) (answer : Filled) (list' : List Row) → Shows answers list answer list'
      → map (name_bytes doc) (take (count_of answer) list') ≡ take (length list) (map (bytes doc) (reverse (left_open answers)))
  unfolding way_down
  their_bytes_are_the_names_told answers list answer list' p =
      let names = left_open answers in
      let count : count_of answer ≡ min (length names) (length list) = ap count_of p.count in
      let long : length (take (length list) (numbered 1 (reverse names))) ≡ count_of answer =
      length-take (length list) (numbered 1 (reverse names)) ∙ omega (arith, numbered_length 1 (reverse names), length-reverse names) in
      ap (λ (rows : List Row). map (name_bytes doc) (take (count_of answer) rows)) p.rows
      ∙ ap (map (name_bytes doc)) (take_at (take (length list) (numbered 1 (reverse names))) (drop (length names) list) (count_of answer) long)
      ∙ numbered_bytes 1 (length list) (reverse names)
