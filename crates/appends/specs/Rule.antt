-- The same told from the bytes of the piece, and from little of the document so far. No other crate's promise names what stands here but that of the writer's second way.
use Rattle.std.specs.Prelude.{ℕ, ◌+◌, ◌-◌, List, [], ◌∷◌, Bool, true, false, not, length, get_or, eqb, leb, ltb}
use Rattle.ground.specs.Choose.{pick, all_of}
use Rattle.ground.specs.Bytes.{bang, question, slash}
use Rattle.ground.specs.Equal.{begins, same}
use Rattle.white.specs.White.{name_len, kept}
use Rattle.utf8.specs.Utf8.{check, by_utf8}
use Rattle.parser.specs.First.{one_of, by_first, text_found}
use Rattle.state.specs.declared.answer.Kind.{Kind}
use Rattle.state.specs.Limits.{longest}
use Rattle.emit.specs.Question.{is_decl}
use Rattle.pieces.specs.declared.scan.What.{What}
use Rattle.pieces.specs.declared.scan.Told.{Told}
use Rattle.pieces.specs.Fed.{fed, fresh}
use Rattle.reader.specs.Step.{bom}
use Rattle.appends.specs.Marks.{piece_of}

-- what is to be known of the document so far
pub record Front : Type 0 where
  -- how many bytes it has
  pub length : ℕ
  -- how many names are open, and how many may be
  pub depth : ℕ
  pub capacity : ℕ
  -- whether its last event is Text
  pub text : Bool
  -- the bytes of its latest open name
  pub name : List ℕ

-- a piece that the scan of pieces finds the end of, at its last byte
abbrev pub at_last : ℕ → Told → Bool
at_last n (Told.At place) = eqb (place + 1) n
at_last n Told.Open = false
at_last n (Told.Refused error) = false

abbrev pub closes : List ℕ → Bool
closes piece = at_last (length piece) (fed (fresh What.Piece) piece).told

-- the byte after `<` is that of an opening tag
abbrev pub opens : List ℕ → Bool
opens piece = not (one_of (bang ∷ question ∷ slash ∷ []) (get_or piece 1 0))

abbrev pub ends_slashed : List ℕ → Bool
ends_slashed content = eqb (get_or content (length content - 1) 0) slash

-- trimming leaves it as it is
abbrev pub untrimmed : List ℕ → Bool
untrimmed content = pick (eqb (kept content) 0) true (eqb (kept content) (length content))

-- neither `<` nor `&` is in it
abbrev pub plain_text : List ℕ → Bool
plain_text content = by_first (text_found content 0) (λ place. false) true

-- it would be read as a byte order mark
abbrev pub marks_order : Front → List ℕ → Bool
marks_order f content = pick (eqb f.length 0) (begins content bom) false

abbrev pub is_well_formed : List ℕ → Bool
is_well_formed content = by_utf8 (check 0 content) true (λ place. false)

module _ (f : Front) (content : List ℕ) (name : ℕ) where
  abbrev pub rule_for : Kind → Bool
  rule_for Kind.Start =
      all_of (closes (piece_of Kind.Start content) ∷ opens (piece_of Kind.Start content) ∷ not (ends_slashed content)
      ∷ ltb f.depth f.capacity ∷ eqb name (name_len content) ∷ [])
  rule_for Kind.End =
      all_of (closes (piece_of Kind.End content) ∷ ltb 0 f.depth ∷ same content f.name ∷ untrimmed content ∷ eqb name (length content) ∷ [])
  rule_for Kind.Empty = all_of (closes (piece_of Kind.Empty content) ∷ opens (piece_of Kind.Empty content) ∷ eqb name (name_len content) ∷ [])
  rule_for Kind.Text = all_of (ltb 0 (length content) ∷ plain_text content ∷ not f.text ∷ not (marks_order f content) ∷ eqb name 0 ∷ [])
  rule_for Kind.GeneralRef = all_of (closes (piece_of Kind.GeneralRef content) ∷ eqb name 0 ∷ [])
  rule_for Kind.Comment = all_of (closes (piece_of Kind.Comment content) ∷ eqb name 0 ∷ [])
  rule_for Kind.CData = all_of (closes (piece_of Kind.CData content) ∷ eqb name 0 ∷ [])
  rule_for Kind.Decl = all_of (closes (piece_of Kind.Decl content) ∷ is_decl content ∷ eqb name 3 ∷ [])
  rule_for Kind.PI = all_of (closes (piece_of Kind.PI content) ∷ not (is_decl content) ∷ eqb name (name_len content) ∷ [])
  rule_for Kind.Eof = all_of (eqb (length content) 0 ∷ eqb name 0 ∷ [])

-- it fits into the longest document, its content is well formed, and its kind has it so
unfoldable pub rule : Front → Kind → List ℕ → ℕ → Bool
rule f kind content name =
    all_of (leb (f.length + length (piece_of kind content)) longest ∷ is_well_formed content ∷ rule_for f content name kind ∷ [])
