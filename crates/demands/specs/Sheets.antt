-- Worked examples of the layout: runs with a byte order mark, white space that is skipped, empty elements that are expanded, and refusals after which reading
-- goes on or ends.
use Rattle.std.specs.Prelude.{ℕ, Bool, true, false, List, [], ◌∷◌, replicate}
use Rattle.state.specs.declared.config.Config.{Config}
use Rattle.state.specs.Place.{span}
use Rattle.demands.specs.Run.{World, run}
use Rattle.demands.specs.Laid.{What, Laid, laid, layout, pieces}

-- what some calls have laid out, and where the reader stands
pub record Page : Type 0 where
  pub parts : List Laid
  pub position : ℕ

-- a document with settings, and the page that so many calls give
pub record Sheet : Type 0 where
  pub doc : List ℕ
  pub settings : Config
  pub calls : ℕ
  pub page : Page

abbrev pub sheet : List ℕ → Config → ℕ → List Laid → ℕ → Sheet
sheet doc settings calls parts position = record { doc = doc; settings = settings; calls = calls; page = record { parts = parts; position = position } }

abbrev pub a_mark : ℕ → ℕ → Laid
a_mark from to = laid What.ByteOrderMark (span from to)

abbrev pub a_white : ℕ → ℕ → Laid
a_white from to = laid What.WhiteSpace (span from to)

abbrev pub a_piece : ℕ → ℕ → Laid
a_piece from to = laid What.Piece (span from to)

-- empty elements expanded, text trimmed at the start and at the end, comments and open names checked; the other settings as by default
abbrev pub sheet_settings : Bool → Bool → Bool → Bool → Bool → Config
sheet_settings expand start end comments open_names =
    record {
      allow_dangling_amp = false;
      allow_unmatched_ends = false;
      check_comments = comments;
      check_end_names = true;
      expand_empty_elements = expand;
      trim_markup_names_in_closing_tags = true;
      trim_text_start = start;
      trim_text_end = end;
      check_open_names = open_names;
    }

-- by the definition of a call, with room for four names
unfoldable pub ran : Sheet → World
ran x = run x.doc (replicate 8 0) x.settings x.calls

unfoldable pub page_of : Sheet → Page
page_of x = record { parts = layout x.doc (pieces (ran x).answers); position = (ran x).reader.position.0 }

-- and as it is listed
unfoldable pub page_listed : Sheet → Page
page_listed x = x.page

-- EF BB BF, a line feed, `<r>`, a line feed and a space, `<s/>6 </r>`, a line feed
abbrev pub with_bom : List ℕ
with_bom = 0xEF ∷ 0xBB ∷ 0xBF ∷ 10 ∷ 60 ∷ 114 ∷ 62 ∷ 10 ∷ 32 ∷ 60 ∷ 115 ∷ 47 ∷ 62 ∷ 54 ∷ 32 ∷ 60 ∷ 47 ∷ 114 ∷ 62 ∷ 10 ∷ []

unfoldable pub sheets : List Sheet
sheets =
    -- expanded and trimmed: the End of `<s/>` is empty at 13, and the space behind the 6 is the text's
    sheet with_bom (sheet_settings true true false false false) 6
    (a_mark 0 3
    ∷ a_white 3 4
    ∷ a_piece 4 7
    ∷ a_white 7 9
    ∷ a_piece 9 13
    ∷ a_piece 13 13
    ∷ a_piece 13 15
    ∷ a_piece 15 19
    ∷ a_white 19 20
    ∷ a_piece 20 20 ∷ [])
    20
    -- neither: the white space is text
    ∷ sheet with_bom (sheet_settings false false false false false) 8
    (a_mark 0 3
    ∷ a_piece 3 4
    ∷ a_piece 4 7
    ∷ a_piece 7 9
    ∷ a_piece 9 13
    ∷ a_piece 13 15
    ∷ a_piece 15 19
    ∷ a_piece 19 20
    ∷ a_piece 20 20 ∷ [])
    20
    -- `<t></u>&y<!--a--b--></t>`, comments checked: 10, 12, 9 and 11, each with its piece, and reading goes on
    ∷ sheet
    (60 ∷ 116 ∷ 62 ∷ 60 ∷ 47 ∷ 117 ∷ 62 ∷ 38 ∷ 121 ∷ 60 ∷ 33 ∷ 45 ∷ 45 ∷ 97 ∷ 45 ∷ 45 ∷ 98 ∷ 45 ∷ 45 ∷ 62 ∷ 60 ∷ 47 ∷ 116 ∷ 62 ∷ [])
    (sheet_settings false false false true false) 6
    (a_piece 0 3 ∷ a_piece 3 7 ∷ a_piece 7 9 ∷ a_piece 9 20 ∷ a_piece 20 24 ∷ a_piece 24 24 ∷ [])
    24
    -- `<a>`, a space, C0, `</a>`, trimmed: 13 with its piece ends the run at 5, and `</a>` is left
    ∷ sheet (60 ∷ 97 ∷ 62 ∷ 32 ∷ 0xC0 ∷ 60 ∷ 47 ∷ 97 ∷ 62 ∷ []) (sheet_settings false true false false false) 3
    (a_piece 0 3 ∷ a_white 3 4 ∷ a_piece 4 5 ∷ a_piece 5 5 ∷ [])
    5
    -- a space, `<!x>`, trimmed: 8 ends the run where its piece starts; the space stays skipped
    ∷ sheet (32 ∷ 60 ∷ 33 ∷ 120 ∷ 62 ∷ []) (sheet_settings false true false false false) 2 (a_white 0 1 ∷ a_piece 1 1 ∷ a_piece 1 1 ∷ []) 1
    -- `<!--a-->6`: a comment, and text right behind it
    ∷ sheet (60 ∷ 33 ∷ 45 ∷ 45 ∷ 97 ∷ 45 ∷ 45 ∷ 62 ∷ 54 ∷ []) (sheet_settings false false false false false) 3 (a_piece 0 8 ∷ a_piece 8 9 ∷ a_piece 9 9 ∷ []) 9
    -- `<a>`, a line feed, trimmed at the end and open names checked: 18 has the line feed in its piece
    ∷ sheet (60 ∷ 97 ∷ 62 ∷ 10 ∷ []) (sheet_settings false false true false true) 3 (a_piece 0 3 ∷ a_piece 3 4 ∷ a_piece 4 4 ∷ []) 4
    -- a line feed alone, trimmed at the end: Eof has it in its piece
    ∷ sheet (10 ∷ []) (sheet_settings false false true false false) 1 (a_piece 0 1 ∷ []) 1
    -- `&b;<`: a lone `<` at the end is left
    ∷ sheet (38 ∷ 98 ∷ 59 ∷ 60 ∷ []) (sheet_settings false false false false false) 3 (a_piece 0 3 ∷ a_piece 3 3 ∷ a_piece 3 3 ∷ []) 3
    -- EF BB BF alone
    ∷ sheet (0xEF ∷ 0xBB ∷ 0xBF ∷ []) (sheet_settings false false false false false) 1 (a_mark 0 3 ∷ a_piece 3 3 ∷ []) 3
    ∷ []
