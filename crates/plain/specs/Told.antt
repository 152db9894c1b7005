-- What a piece becomes, by what is known of it. No promise of `advance` names what stands here.
use Rattle.std.specs.Prelude.{ℕ, ◌+◌, ◌-◌, Bool, true, false, not, ◌&&◌, ◌||◌, eqb, leb, ltb}
use Rattle.ground.specs.Choose.{pick}
use Rattle.ground.specs.Bytes.{amp, apos, lower_d, lt, quot, slash, upper_d}
use Rattle.state.specs.declared.place.Depth.{Depth}
use Rattle.state.specs.declared.place.Span.{Span}
use Rattle.state.specs.declared.answer.Kind.{Kind}
use Rattle.state.specs.declared.answer.Error.{Error}
use Rattle.state.specs.declared.run.Phase.{Phase}
use Rattle.state.specs.declared.run.Reader.{Reader}
use Rattle.state.specs.declared.run.Step.{Step}
use Rattle.state.specs.Place.{at, span, size, fewer, further, inner}
use Rattle.state.specs.Make.{with_depth, event, told, refused, stopped, ending}
use Rattle.plain.specs.declared.known.Part.{Part}
use Rattle.plain.specs.declared.known.Known.{Known}
use Rattle.plain.specs.Known.{size_of, name_len}

unfoldable pub tell : Reader → Kind → Span → Span → ℕ → Phase → Step
tell r kind piece content name next = told r (event kind piece content name) next

unfoldable pub stop : Reader → Error → Span → Step
stop r error piece = stopped r error (at piece.from) piece

-- ---- which phase it is

abbrev pub is_done : Phase → Bool
is_done Phase.Init = false
is_done Phase.InsideText = false
is_done Phase.InsideMarkup = false
is_done Phase.InsideRef = false
is_done Phase.InsideEmpty = false
is_done Phase.Done = true

abbrev pub is_text : Phase → Bool
is_text Phase.Init = false
is_text Phase.InsideText = true
is_text Phase.InsideMarkup = false
is_text Phase.InsideRef = false
is_text Phase.InsideEmpty = false
is_text Phase.Done = false

-- ---- each kind of piece

module _ (r : Reader) (k : Known) (piece : Span) where
  abbrev pub text_end : ℕ
  text_end = pick r.settings.trim_text_end k.kept piece.to

  unfoldable pub text_of : Phase → Span → Step
  text_of next last =
      pick (is_done next)
      (pick (leb text_end piece.from) (ending r last piece) (tell r Kind.Text piece (span piece.from text_end) 0 next))
      (tell r Kind.Text piece (span piece.from text_end) 0 next)

  unfoldable pub comment_of : Step
  comment_of =
      pick (not k.right) (stop r Error.UnclosedComment piece)
      (pick (r.settings.check_comments && leb k.pair (inner piece 4 3).to)
      (refused r Error.DoubleHyphenInComment (at (k.pair - 1)) piece Phase.InsideText)
      (tell r Kind.Comment piece (inner piece 4 3) 0 Phase.InsideText))

  unfoldable pub cdata_of : Step
  cdata_of = pick (not k.right) (stop r Error.UnclosedCData piece) (tell r Kind.CData piece (inner piece 9 3) 0 Phase.InsideText)

  abbrev pub target : ℕ
  target = name_len k (inner piece 2 2)

  unfoldable pub instruction_of : Step
  instruction_of =
      pick (ltb (size piece) 4) (stop r Error.UnclosedPI piece)
      (pick (k.right && eqb target 3)
      (tell r Kind.Decl piece (inner piece 2 2) target Phase.InsideText)
      (tell r Kind.PI piece (inner piece 2 2) target Phase.InsideText))

  abbrev pub slashed : Bool
  slashed = eqb k.last slash

  abbrev pub tag_content : Span
  tag_content = inner piece 1 (pick slashed 2 1)

  unfoldable pub opening_of : Depth → Step
  opening_of room =
      pick (slashed && not r.settings.expand_empty_elements)
      (tell r Kind.Empty piece tag_content (name_len k tag_content) Phase.InsideText)
      (pick (leb room.0 r.depth.0)
      (stop r Error.NameStackFull (span piece.from piece.from))
      (tell (with_depth r (further r.depth)) Kind.Start piece tag_content (name_len k tag_content) (pick slashed Phase.InsideEmpty Phase.InsideText)))

  -- the name in a closing tag
  abbrev pub found_name : Span
  found_name =
      span (inner piece 2 1).from
      (pick (r.settings.trim_markup_names_in_closing_tags && not (eqb k.kept (inner piece 2 1).from)) k.kept (inner piece 2 1).to)

  abbrev pub same_name : Span → Bool
  same_name last = eqb (size found_name) (size last) && leb found_name.to k.differs

  unfoldable pub closing_of : Span → Step
  closing_of last =
      pick (eqb r.depth.0 0 && not r.settings.allow_unmatched_ends)
      (refused r (Error.UnmatchedEndTag found_name) (at piece.from) piece Phase.InsideText)
      (pick ((not (eqb r.depth.0 0) && r.settings.check_end_names) && not (same_name last))
      (refused (with_depth r (fewer r.depth)) (Error.MismatchedEndTag last found_name) (at piece.from) piece Phase.InsideText)
      (tell (with_depth r (fewer r.depth)) Kind.End piece found_name (size found_name) Phase.InsideText))

module _ (r : Reader) (piece : Span) where
  unfoldable pub reference_of : Phase → Step
  reference_of next =
      pick (is_text next) (tell r Kind.GeneralRef piece (inner piece 1 1) 0 next)
      (pick r.settings.allow_dangling_amp
      (tell r Kind.Text piece piece 0 next)
      (refused r Error.UnclosedReference (at piece.from) piece next))

-- ---- a piece that has its closer or needs none

module _ (r : Reader) (k : Known) (piece : Span) (next : Phase) (last : Span) (room : Depth) where
  abbrev pub becomes : Part → Step
  becomes Part.Nothing = text_of r k piece next last
  becomes Part.Text = text_of r k piece next last
  becomes Part.Reference = reference_of r piece next
  becomes Part.Comment = comment_of r k piece
  becomes Part.CData = cdata_of r k piece
  becomes Part.Instruction = instruction_of r k piece
  becomes Part.Closing = closing_of r k piece last
  becomes Part.Opened = opening_of r k piece room
  becomes Part.Bang = opening_of r k piece room
  becomes Part.Opening = opening_of r k piece room

  unfoldable pub whole_of : Step
  whole_of = pick (eqb k.letters.owed 0) (becomes k.part) (stopped r Error.Encoding (at k.letters.at) piece)

-- ---- where the piece ends, or the document

unfoldable pub behind : ℕ → Phase
behind b = pick (eqb b lt) Phase.InsideMarkup (pick (eqb b amp) Phase.InsideRef Phase.InsideText)

-- `<!` and neither `[` nor `-`
unfoldable pub no_markup : ℕ → Error
no_markup b = pick (eqb b upper_d || eqb b lower_d) Error.DocType Error.InvalidBangMarkup

-- by the quote that is open
unfoldable pub in_tag : ℕ → Error
in_tag q = pick (eqb q apos) Error.UnclosedSingleQuotedAttributeValue (pick (eqb q quot) Error.UnclosedDoubleQuotedAttributeValue Error.UnclosedTag)

abbrev pub closer : Known → Part → Error
closer k Part.Comment = Error.UnclosedComment
closer k Part.CData = Error.UnclosedCData
closer k Part.Instruction = pick (k.right && leb 5 (size_of k)) Error.UnclosedXmlDecl Error.UnclosedPI
closer k Part.Nothing = in_tag k.quote
closer k Part.Text = in_tag k.quote
closer k Part.Reference = in_tag k.quote
closer k Part.Opened = in_tag k.quote
closer k Part.Bang = in_tag k.quote
closer k Part.Closing = in_tag k.quote
closer k Part.Opening = in_tag k.quote

unfoldable pub no_closer : Known → Error
no_closer k = closer k k.part

module _ (r : Reader) (k : Known) (last : Span) (room : Depth) where
  abbrev pub kept : Span
  kept = span k.from k.from

  abbrev pub read : Span
  read = span k.from k.at

  abbrev pub closed_piece : ℕ → Span
  closed_piece b = span k.from (pick (eqb b lt || eqb b amp) k.at (k.at + 1))

  abbrev pub closed_in : ℕ → Part → Step
  closed_in b Part.Bang = stop r (no_markup b) kept
  closed_in b Part.Nothing = whole_of r k (closed_piece b) (behind b) last room
  closed_in b Part.Text = whole_of r k (closed_piece b) (behind b) last room
  closed_in b Part.Reference = whole_of r k (closed_piece b) (behind b) last room
  closed_in b Part.Opened = whole_of r k (closed_piece b) (behind b) last room
  closed_in b Part.Comment = whole_of r k (closed_piece b) (behind b) last room
  closed_in b Part.CData = whole_of r k (closed_piece b) (behind b) last room
  closed_in b Part.Instruction = whole_of r k (closed_piece b) (behind b) last room
  closed_in b Part.Closing = whole_of r k (closed_piece b) (behind b) last room
  closed_in b Part.Opening = whole_of r k (closed_piece b) (behind b) last room

  unfoldable pub closed_of : ℕ → Step
  closed_of b = closed_in b k.part

  abbrev pub unclosed_in : Part → Step
  unclosed_in Part.Nothing = whole_of r k read Phase.Done last room
  unclosed_in Part.Text = whole_of r k read Phase.Done last room
  unclosed_in Part.Reference = whole_of r k read Phase.Done last room
  unclosed_in Part.Opened = stop r Error.UnclosedTag kept
  unclosed_in Part.Bang = stop r Error.InvalidBangMarkup kept
  unclosed_in Part.Comment = stop r (no_closer k) read
  unclosed_in Part.CData = stop r (no_closer k) read
  unclosed_in Part.Instruction = stop r (no_closer k) read
  unclosed_in Part.Closing = stop r (no_closer k) read
  unclosed_in Part.Opening = stop r (no_closer k) read

  unfoldable pub unclosed_of : Step
  unclosed_of = unclosed_in k.part
