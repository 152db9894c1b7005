-- The worked examples of document 01 ("Proofs to pull"), with default settings, and those of 18: capacity 64.
use Rattle.std.specs.Prelude.{ℕ, List, [], ◌∷◌, map, reverse, length, replicate, Bool, true, false}
use Rattle.state.specs.declared.place.Span.{Span}
use Rattle.state.specs.declared.config.Config.{Config}
use Rattle.state.specs.declared.answer.Kind.{Kind}
use Rattle.state.specs.declared.answer.Values.{Values}
use Rattle.state.specs.declared.run.Phase.{Phase}
use Rattle.state.specs.Place.{span}
use Rattle.state.specs.Settings.{defaults}
use Rattle.state.specs.Values.{kind_number, values_of}
use Rattle.demands.specs.Run.{World, run}

-- an event: its kind, the piece, the content and the name length
abbrev pub event_row : Kind → ℕ → ℕ → ℕ → ℕ → ℕ → Values
event_row kind a b c d name =
    record {
      kind = kind_number kind;
      number = 0;
      place = 0;
      piece = span a b;
      content = span c d;
      name = name;
      expected = span 0 0;
      found = span 0 0;
    }

-- a refusal with spans: its number, its place, the piece, the expected name and the one found
abbrev pub mismatch_row : ℕ → ℕ → ℕ → ℕ → Span → Span → Values
mismatch_row number place a b expected found =
    record {
      kind = 0;
      number = number;
      place = place;
      piece = span a b;
      content = span 0 0;
      name = 0;
      expected = expected;
      found = found;
    }

-- any other refusal: its number, its place and the piece
abbrev pub refusal_row : ℕ → ℕ → ℕ → ℕ → Values
refusal_row number place a b = mismatch_row number place a b (span 0 0) (span 0 0)

-- what some calls say, and what they leave
pub record Shown : Type 0 where
  pub says : List Values
  pub phase : Phase
  pub position : ℕ
  pub depth : ℕ

-- a document with settings, and what as many calls show as it has answers listed
pub record Row : Type 0 where
  pub settings : Config
  pub doc : List ℕ
  pub shows : Shown

-- a stack with room for 64 names
abbrev pub slots64 : List ℕ
slots64 = replicate 128 0

-- `<t><r n="1"/>06:15</t>`
abbrev pub timetable : List ℕ
timetable = 60 ∷ 116 ∷ 62 ∷ 60 ∷ 114 ∷ 32 ∷ 110 ∷ 61 ∷ 34 ∷ 49 ∷ 34 ∷ 47 ∷ 62 ∷ 48 ∷ 54 ∷ 58 ∷ 49 ∷ 53 ∷ 60 ∷ 47 ∷ 116 ∷ 62 ∷ []

unfoldable pub shown : World → Shown
shown w =
    record {
      says = map values_of (reverse w.answers);
      phase = w.reader.phase;
      position = w.reader.position.0;
      depth = w.reader.depth.0;
    }

-- by the definition of a call, and by the table
unfoldable pub given : Row → Shown
given x = shown (run x.doc slots64 x.settings (length x.shows.says))

unfoldable pub wanted : Row → Shown
wanted x = x.shows

abbrev pub row_with : Config → List ℕ → List Values → Phase → ℕ → ℕ → Row
row_with settings doc says phase position depth =
    record { settings = settings; doc = doc; shows = record { says = says; phase = phase; position = position; depth = depth } }

abbrev pub row : List ℕ → List Values → Phase → ℕ → ℕ → Row
row = row_with defaults

-- open names checked, and text trimmed at its start or at its end; the other settings as by default
abbrev pub checking : Bool → Bool → Config
checking start end =
    record {
      allow_dangling_amp = false;
      allow_unmatched_ends = false;
      check_comments = false;
      check_end_names = true;
      expand_empty_elements = false;
      trim_markup_names_in_closing_tags = true;
      trim_text_start = start;
      trim_text_end = end;
      check_open_names = true;
    }

unfoldable pub table : List Row
table =
    -- P1: no bytes
    (row []
    (event_row Kind.Eof 0 0 0 0 0 ∷ [])
    Phase.Done 0 0)
    -- P2: `<t><r n="1"/>06:15</t>`
    ∷ (row timetable
    (event_row Kind.Start 0 3 1 2 1
    ∷ event_row Kind.Empty 3 13 4 11 1
    ∷ event_row Kind.Text 13 18 13 18 0
    ∷ event_row Kind.End 18 22 20 21 1
    ∷ event_row Kind.Eof 22 22 22 22 0 ∷ [])
    Phase.Done 22 0)
    -- P3: `<a></b>`
    ∷ (row (60 ∷ 97 ∷ 62 ∷ 60 ∷ 47 ∷ 98 ∷ 62 ∷ [])
    (event_row Kind.Start 0 3 1 2 1
    ∷ mismatch_row 10 3 3 7 (span 1 2) (span 5 6) ∷ [])
    Phase.InsideText 7 0)
    -- P4: `</a>`
    ∷ (row (60 ∷ 47 ∷ 97 ∷ 62 ∷ [])
    (mismatch_row 11 0 0 4 (span 0 0) (span 2 3) ∷ [])
    Phase.InsideText 4 0)
    -- P5: `<?>`
    ∷ (row (60 ∷ 63 ∷ 62 ∷ [])
    (refusal_row 6 0 0 3 ∷ [])
    Phase.Done 3 0)
    -- P6: `<??>`
    ∷ (row (60 ∷ 63 ∷ 63 ∷ 62 ∷ [])
    (event_row Kind.PI 0 4 2 2 0 ∷ [])
    Phase.InsideText 4 0)
    -- P7: `<!-->`
    ∷ (row (60 ∷ 33 ∷ 45 ∷ 45 ∷ 62 ∷ [])
    (refusal_row 4 0 0 5 ∷ [])
    Phase.Done 5 0)
    -- P7: `<!--->`
    ∷ (row (60 ∷ 33 ∷ 45 ∷ 45 ∷ 45 ∷ 62 ∷ [])
    (refusal_row 4 0 0 6 ∷ [])
    Phase.Done 6 0)
    -- P8: `<!---->`
    ∷ (row (60 ∷ 33 ∷ 45 ∷ 45 ∷ 45 ∷ 45 ∷ 62 ∷ [])
    (event_row Kind.Comment 0 7 4 4 0 ∷ [])
    Phase.InsideText 7 0)
    -- P9: `< ></ >`
    ∷ (row (60 ∷ 32 ∷ 62 ∷ 60 ∷ 47 ∷ 32 ∷ 62 ∷ [])
    (event_row Kind.Start 0 3 1 2 0
    ∷ mismatch_row 10 3 3 7 (span 1 1) (span 5 6) ∷ [])
    Phase.InsideText 7 0)
    -- P10: `<a b='>'>`
    ∷ (row (60 ∷ 97 ∷ 32 ∷ 98 ∷ 61 ∷ 39 ∷ 62 ∷ 39 ∷ 62 ∷ [])
    (event_row Kind.Start 0 9 1 8 1 ∷ [])
    Phase.InsideText 9 1)
    -- P11: `<a b='>`
    ∷ (row (60 ∷ 97 ∷ 32 ∷ 98 ∷ 61 ∷ 39 ∷ 62 ∷ [])
    (refusal_row 2 0 0 7 ∷ [])
    Phase.Done 7 0)
    -- P12: `<![]]>`
    ∷ (row (60 ∷ 33 ∷ 91 ∷ 93 ∷ 93 ∷ 62 ∷ [])
    (refusal_row 5 0 0 6 ∷ [])
    Phase.Done 6 0)
    -- P13: `<!x>`
    ∷ (row (60 ∷ 33 ∷ 120 ∷ 62 ∷ [])
    (refusal_row 8 0 0 0 ∷ [])
    Phase.Done 0 0)
    -- P14: `<!doctype x>`
    ∷ (row (60 ∷ 33 ∷ 100 ∷ 111 ∷ 99 ∷ 116 ∷ 121 ∷ 112 ∷ 101 ∷ 32 ∷ 120 ∷ 62 ∷ [])
    (refusal_row 14 0 0 0 ∷ [])
    Phase.Done 0 0)
    -- P15: `a&b;c`
    ∷ (row (97 ∷ 38 ∷ 98 ∷ 59 ∷ 99 ∷ [])
    (event_row Kind.Text 0 1 0 1 0
    ∷ event_row Kind.GeneralRef 1 4 2 3 0
    ∷ event_row Kind.Text 4 5 4 5 0 ∷ [])
    Phase.Done 5 0)
    -- P16: `a&b`
    ∷ (row (97 ∷ 38 ∷ 98 ∷ [])
    (event_row Kind.Text 0 1 0 1 0
    ∷ refusal_row 12 1 1 3 ∷ [])
    Phase.Done 3 0)
    -- `<a>` with open names checked
    ∷ (row_with (checking false false) (60 ∷ 97 ∷ 62 ∷ [])
    (event_row Kind.Start 0 3 1 2 1
    ∷ refusal_row 18 1 3 3
    ∷ event_row Kind.Eof 3 3 3 3 0 ∷ [])
    Phase.Done 3 1)
    -- and two spaces, trimmed at the end of text
    ∷ (row_with (checking false true) (60 ∷ 97 ∷ 62 ∷ 32 ∷ 32 ∷ [])
    (event_row Kind.Start 0 3 1 2 1
    ∷ refusal_row 18 1 3 5
    ∷ event_row Kind.Eof 5 5 5 5 0 ∷ [])
    Phase.Done 5 1)
    -- or at its start
    ∷ (row_with (checking true false) (60 ∷ 97 ∷ 62 ∷ 32 ∷ 32 ∷ [])
    (event_row Kind.Start 0 3 1 2 1
    ∷ refusal_row 18 1 5 5
    ∷ event_row Kind.Eof 5 5 5 5 0 ∷ [])
    Phase.Done 5 1)
    -- `<a>&b`: 12 at the end of input does not end the run
    ∷ (row_with (checking false false) (60 ∷ 97 ∷ 62 ∷ 38 ∷ 98 ∷ [])
    (event_row Kind.Start 0 3 1 2 1
    ∷ refusal_row 12 3 3 5
    ∷ refusal_row 18 1 5 5
    ∷ event_row Kind.Eof 5 5 5 5 0 ∷ [])
    Phase.Done 5 1)
    -- `<a><!x>`: 8 did
    ∷ (row_with (checking false false) (60 ∷ 97 ∷ 62 ∷ 60 ∷ 33 ∷ 120 ∷ 62 ∷ [])
    (event_row Kind.Start 0 3 1 2 1
    ∷ refusal_row 8 3 3 3
    ∷ event_row Kind.Eof 3 3 3 3 0 ∷ [])
    Phase.Done 3 1)
    ∷ []
