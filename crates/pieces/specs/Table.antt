-- Worked examples: a scan, the pieces that are fed to it, and what the last call answers.
use Rattle.std.specs.Prelude.{ℕ, List, [], ◌∷◌}
use Rattle.parser.specs.Machine.{found, going}
use Rattle.parser.specs.declared.element.ElementState.{ElementState}
use Rattle.state.specs.Limits.{longest}
use Rattle.state.specs.declared.answer.Error.{Error}
use Rattle.pieces.specs.declared.scan.Kind.{Kind}
use Rattle.pieces.specs.declared.scan.What.{What}
use Rattle.pieces.specs.declared.scan.State.{State}
use Rattle.pieces.specs.declared.scan.Scan.{Scan}
use Rattle.pieces.specs.declared.scan.Fed.{Fed}
use Rattle.pieces.specs.Fed.{answer_of, fresh, refused}
use Rattle.pieces.specs.Pieces.{fed_all}

pub record Row : Type 0 where
  pub scan : Scan
  pub piece : List ℕ
  pub pieces : List (List ℕ)
  pub answer : Fed

abbrev pub row : Scan → List ℕ → List (List ℕ) → Fed → Row
row scan piece pieces answer = record { scan = scan; piece = piece; pieces = pieces; answer = answer }

-- the place was found, or so many bytes were fed and it was not
abbrev pub closed_at : ℕ → Fed
closed_at place = answer_of 0 (found place)

abbrev pub open_in : ℕ → State → Fed
open_in taken state = answer_of taken (going state)

-- by the definition, and by the table
abbrev pub given : Row → Fed
given x = fed_all x.scan x.piece x.pieces

abbrev pub wanted : Row → Fed
wanted x = x.answer

unfoldable pub table : List Row
table =
    -- `<a b='`, `>`, `'>`
    (row (fresh What.Tag) (60 ∷ 97 ∷ 32 ∷ 98 ∷ 61 ∷ 39 ∷ []) ((62 ∷ []) ∷ (39 ∷ 62 ∷ []) ∷ []) (closed_at 8))
    -- `<a b="`, `>'`
    ∷ (row (fresh What.Tag) (60 ∷ 97 ∷ 32 ∷ 98 ∷ 61 ∷ 34 ∷ []) ((62 ∷ 39 ∷ []) ∷ []) (open_in 8 (State.Tag ElementState.DoubleQ)))
    -- `<a`, ``, `>`
    ∷ (row (fresh What.Tag) (60 ∷ 97 ∷ []) (([]) ∷ (62 ∷ []) ∷ []) (closed_at 2))
    -- `<a>`, `x>`
    ∷ (row (fresh What.Tag) (60 ∷ 97 ∷ 62 ∷ []) ((120 ∷ 62 ∷ []) ∷ []) (closed_at 2))
    -- `<a`, ` '`
    ∷ (row (fresh What.Tag) (60 ∷ 97 ∷ []) ((32 ∷ 39 ∷ []) ∷ []) (open_in 4 (State.Tag ElementState.SingleQ)))
    -- `>`, ``
    ∷ (row (fresh What.Tag) (62 ∷ []) (([]) ∷ []) (closed_at 0))
    -- `<?a?`, ``, `>`
    ∷ (row (fresh (What.Marked Kind.Pi)) (60 ∷ 63 ∷ 97 ∷ 63 ∷ []) (([]) ∷ (62 ∷ []) ∷ []) (closed_at 4))
    -- `<`, `?>`
    ∷ (row (fresh (What.Marked Kind.Pi)) (60 ∷ []) ((63 ∷ 62 ∷ []) ∷ []) (closed_at 2))
    -- `<?`, `>`
    ∷ (row (fresh (What.Marked Kind.Pi)) (60 ∷ 63 ∷ []) ((62 ∷ []) ∷ []) (closed_at 2))
    -- `<?a`, `?`
    ∷ (row (fresh (What.Marked Kind.Pi)) (60 ∷ 63 ∷ 97 ∷ []) ((63 ∷ []) ∷ []) (open_in 4 (State.Marked Kind.Pi (record { left = 0; seen = 1 }))))
    -- `<!-`, `-->`
    ∷ (row (fresh (What.Marked Kind.Comment)) (60 ∷ 33 ∷ 45 ∷ []) ((45 ∷ 45 ∷ 62 ∷ []) ∷ []) (open_in 6 (State.Marked Kind.Comment (record { left = 0; seen = 0 }))))
    -- `-->`
    ∷ (row (fresh (What.Marked Kind.Comment)) (45 ∷ 45 ∷ 62 ∷ []) ([]) (open_in 3 (State.Marked Kind.Comment (record { left = 1; seen = 0 }))))
    -- `<!--`, `->`, `-->`
    ∷ (row (fresh (What.Marked Kind.Comment)) (60 ∷ 33 ∷ 45 ∷ 45 ∷ []) ((45 ∷ 62 ∷ []) ∷ (45 ∷ 45 ∷ 62 ∷ []) ∷ []) (closed_at 8))
    -- `<!-`, `-`, `-`, `-`, `>`
    ∷ (row (fresh (What.Marked Kind.Comment)) (60 ∷ 33 ∷ 45 ∷ []) ((45 ∷ []) ∷ (45 ∷ []) ∷ (45 ∷ []) ∷ (62 ∷ []) ∷ []) (closed_at 6))
    -- `<!--a-`, `x-`, `>`
    ∷ (row (fresh (What.Marked Kind.Comment)) (60 ∷ 33 ∷ 45 ∷ 45 ∷ 97 ∷ 45 ∷ []) ((120 ∷ 45 ∷ []) ∷ (62 ∷ []) ∷ []) (open_in 9 (State.Marked Kind.Comment (record { left = 0; seen = 0 }))))
    -- `<!--a--`, `x-`, `>`
    ∷ (row (fresh (What.Marked Kind.Comment)) (60 ∷ 33 ∷ 45 ∷ 45 ∷ 97 ∷ 45 ∷ 45 ∷ []) ((120 ∷ 45 ∷ []) ∷ (62 ∷ []) ∷ []) (open_in 10 (State.Marked Kind.Comment (record { left = 0; seen = 0 }))))
    -- `<!--a--`, `x-`, `->`
    ∷ (row (fresh (What.Marked Kind.Comment)) (60 ∷ 33 ∷ 45 ∷ 45 ∷ 97 ∷ 45 ∷ 45 ∷ []) ((120 ∷ 45 ∷ []) ∷ (45 ∷ 62 ∷ []) ∷ []) (closed_at 10))
    -- `<!--a-`, `-`, ``, `>`
    ∷ (row (fresh (What.Marked Kind.Comment)) (60 ∷ 33 ∷ 45 ∷ 45 ∷ 97 ∷ 45 ∷ []) ((45 ∷ []) ∷ ([]) ∷ (62 ∷ []) ∷ []) (closed_at 7))
    -- `<![CDATA[a]`, `]`, `>`
    ∷ (row (fresh (What.Marked Kind.CData)) (60 ∷ 33 ∷ 91 ∷ 67 ∷ 68 ∷ 65 ∷ 84 ∷ 65 ∷ 91 ∷ 97 ∷ 93 ∷ []) ((93 ∷ []) ∷ (62 ∷ []) ∷ []) (closed_at 12))
    -- `<![CDATA[]]`, `]>`
    ∷ (row (fresh (What.Marked Kind.CData)) (60 ∷ 33 ∷ 91 ∷ 67 ∷ 68 ∷ 65 ∷ 84 ∷ 65 ∷ 91 ∷ 93 ∷ 93 ∷ []) ((93 ∷ 62 ∷ []) ∷ []) (closed_at 12))
    -- `<!]`, `]>`
    ∷ (row (fresh (What.Marked Kind.CData)) (60 ∷ 33 ∷ 93 ∷ []) ((93 ∷ 62 ∷ []) ∷ []) (closed_at 4))
    -- `]`, `x`, `]>`
    ∷ (row (fresh (What.Marked Kind.CData)) (93 ∷ []) ((120 ∷ []) ∷ (93 ∷ 62 ∷ []) ∷ []) (open_in 4 (State.Marked Kind.CData (record { left = 0; seen = 0 }))))
    -- `<`, `!`, `-`, `-a--`, `>`
    ∷ (row (fresh What.Piece) (60 ∷ []) ((33 ∷ []) ∷ (45 ∷ []) ∷ (45 ∷ 97 ∷ 45 ∷ 45 ∷ []) ∷ (62 ∷ []) ∷ []) (closed_at 7))
    -- `<`, `![`, `]]>`
    ∷ (row (fresh What.Piece) (60 ∷ []) ((33 ∷ 91 ∷ []) ∷ (93 ∷ 93 ∷ 62 ∷ []) ∷ []) (closed_at 5))
    -- `<`, `?`, `>`
    ∷ (row (fresh What.Piece) (60 ∷ []) ((63 ∷ []) ∷ (62 ∷ []) ∷ []) (closed_at 2))
    -- `<`, `/a`, `>`
    ∷ (row (fresh What.Piece) (60 ∷ []) ((47 ∷ 97 ∷ []) ∷ (62 ∷ []) ∷ []) (closed_at 3))
    -- `<`, `'`, `>'>`
    ∷ (row (fresh What.Piece) (60 ∷ []) ((39 ∷ []) ∷ (62 ∷ 39 ∷ 62 ∷ []) ∷ []) (closed_at 4))
    -- `<!`, `x`
    ∷ (row (fresh What.Piece) (60 ∷ 33 ∷ []) ((120 ∷ []) ∷ []) (closed_at 2))
    -- `<!`, `D`
    ∷ (row (fresh What.Piece) (60 ∷ 33 ∷ []) ((68 ∷ []) ∷ []) (closed_at 2))
    -- `<`
    ∷ (row (fresh What.Piece) (60 ∷ []) ([]) (open_in 1 State.Opened))
    -- `<`, `!`
    ∷ (row (fresh What.Piece) (60 ∷ []) ((33 ∷ []) ∷ []) (open_in 2 State.Bang))
    -- ``, ``
    ∷ (row (fresh What.Piece) ([]) (([]) ∷ []) (open_in 0 State.Start))
    -- `&`, `amp`, `;`
    ∷ (row (fresh What.Piece) (38 ∷ []) ((97 ∷ 109 ∷ 112 ∷ []) ∷ (59 ∷ []) ∷ []) (closed_at 4))
    -- `&a`, `<`
    ∷ (row (fresh What.Piece) (38 ∷ 97 ∷ []) ((60 ∷ []) ∷ []) (closed_at 2))
    -- `&`, `&`
    ∷ (row (fresh What.Piece) (38 ∷ []) ((38 ∷ []) ∷ []) (closed_at 1))
    -- `06:1`, `5`, `<`
    ∷ (row (fresh What.Piece) (48 ∷ 54 ∷ 58 ∷ 49 ∷ []) ((53 ∷ []) ∷ (60 ∷ []) ∷ []) (closed_at 5))
    -- `a`
    ∷ (row (fresh What.Piece) (97 ∷ []) ([]) (open_in 1 State.Text))
    -- `<`
    ∷ (row (fresh What.Text) (60 ∷ []) ([]) (closed_at 0))
    -- a byte past the longest document, and none
    ∷ (row (Scan.Open longest State.Text) (60 ∷ []) [] (refused (Scan.Open longest State.Text) Error.SliceTooLong))
    ∷ (row (Scan.Open longest State.Text) [] [] (open_in longest State.Text))
    -- the last byte that fits
    ∷ (row (Scan.Open 268435455 State.Text) (60 ∷ []) [] (closed_at 268435455))
    -- two bytes of which the first would be found and fit: 16 all the same; then one of them alone
    ∷ (row (Scan.Open 268435455 State.Text) (60 ∷ 97 ∷ []) [] (refused (Scan.Open 268435455 State.Text) Error.SliceTooLong))
    ∷ (row (Scan.Open 268435455 State.Text) (60 ∷ 60 ∷ []) ((60 ∷ []) ∷ []) (closed_at 268435455))
    -- a place that was found, and pieces that would pass the limit, or are empty
    ∷ (row (Scan.Closed 268435455) (97 ∷ 97 ∷ []) ([] ∷ []) (closed_at 268435455))
    -- scans that no feeding leads to
    ∷ (row (Scan.Closed longest) (97 ∷ []) [] (refused (Scan.Closed longest) Error.BadState))
    ∷ (row (Scan.Open 268435457 State.Text) [] [] (refused (Scan.Open 268435457 State.Text) Error.BadState))
    ∷ (row (Scan.Open 0 (State.Tag ElementState.SingleQ)) (62 ∷ []) [] (refused (Scan.Open 0 (State.Tag ElementState.SingleQ)) Error.BadState))
    ∷ (row (Scan.Open 1 State.Start) (60 ∷ []) [] (refused (Scan.Open 1 State.Start) Error.BadState))
    ∷ (row (Scan.Open 5 (State.Marked Kind.Comment (record { left = 0; seen = 2 }))) (62 ∷ []) [] (refused (Scan.Open 5 (State.Marked Kind.Comment (record { left = 0; seen = 2 }))) Error.BadState))
    ∷ (row (Scan.Open 2 (State.Marked Kind.Comment (record { left = 1; seen = 0 }))) (62 ∷ []) [] (refused (Scan.Open 2 (State.Marked Kind.Comment (record { left = 1; seen = 0 }))) Error.BadState))
    ∷ (row (Scan.Open 9 (State.Marked Kind.Pi (record { left = 0; seen = 2 }))) (62 ∷ []) [] (refused (Scan.Open 9 (State.Marked Kind.Pi (record { left = 0; seen = 2 }))) Error.BadState))
    ∷ []
