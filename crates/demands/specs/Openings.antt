-- Worked examples of demand 3 and of open names checked: what each call answers, and the names that are open after it.
use Rattle.std.specs.Prelude.{ℕ, zero, suc, Bool, true, false, List, [], ◌∷◌, length, replicate}
use Rattle.state.specs.declared.place.Span.{Span}
use Rattle.state.specs.declared.config.Config.{Config}
use Rattle.state.specs.declared.answer.Kind.{Kind}
use Rattle.state.specs.Place.{span}
use Rattle.state.specs.Values.{kind_number, values_of}
use Rattle.demands.specs.Run.{World, said, call, run}
use Rattle.demands.specs.Open.{opened}

-- one call: the kind of its event, or 0; the number of its refusal, or 0; the event's content, or 0..0; the open names after it, the latest first
pub record Turn : Type 0 where
  pub kind : ℕ
  pub number : ℕ
  pub content : Span
  pub names : List Span

abbrev pub says : Kind → Span → List Span → Turn
says kind content names = record { kind = kind_number kind; number = 0; content = content; names = names }

abbrev pub refuses : ℕ → List Span → Turn
refuses number names = record { kind = 0; number = number; content = span 0 0; names = names }

-- a document with settings and the slots of its stack, and what as many calls show as are listed
pub record Example : Type 0 where
  pub doc : List ℕ
  pub settings : Config
  pub slots : ℕ
  pub turns : List Turn

abbrev pub example : List ℕ → Config → ℕ → List Turn → Example
example doc settings slots turns = record { doc = doc; settings = settings; slots = slots; turns = turns }

-- end checks, unmatched ends, expanded empty elements and open names checked; the other settings as by default
abbrev pub settings : Bool → Bool → Bool → Bool → Config
settings check unmatched expand open_names =
    record {
      allow_dangling_amp = false;
      allow_unmatched_ends = unmatched;
      check_comments = false;
      check_end_names = check;
      expand_empty_elements = expand;
      trim_markup_names_in_closing_tags = true;
      trim_text_start = false;
      trim_text_end = false;
      check_open_names = open_names;
    }

-- by the definition of a call
unfoldable pub turns_from : List ℕ → World → ℕ → List Turn
turns_from doc w zero = []
turns_from doc w (suc n) =
    record { kind = (values_of (said doc w)).kind; number = (values_of (said doc w)).number; content = (values_of (said doc w)).content; names = opened (call doc w) }
    ∷ turns_from doc (call doc w) n

unfoldable pub turns_of : Example → List Turn
turns_of x = turns_from x.doc (run x.doc (replicate x.slots 0) x.settings 0) (length x.turns)

-- and as they are listed
unfoldable pub listed : Example → List Turn
listed x = x.turns

-- `<t><r/>6</t>`
abbrev pub nested : List ℕ
nested = 60 ∷ 116 ∷ 62 ∷ 60 ∷ 114 ∷ 47 ∷ 62 ∷ 54 ∷ 60 ∷ 47 ∷ 116 ∷ 62 ∷ []

-- `<d><t></d></t>`
abbrev pub crossed : List ℕ
crossed = 60 ∷ 100 ∷ 62 ∷ 60 ∷ 116 ∷ 62 ∷ 60 ∷ 47 ∷ 100 ∷ 62 ∷ 60 ∷ 47 ∷ 116 ∷ 62 ∷ []

-- `<a></a></a>`
abbrev pub twice : List ℕ
twice = 60 ∷ 97 ∷ 62 ∷ 60 ∷ 47 ∷ 97 ∷ 62 ∷ 60 ∷ 47 ∷ 97 ∷ 62 ∷ []

unfoldable pub openings : List Example
openings =
    -- `<t><r/>6</t>`: an element is opened and closed
    (example nested (settings true false false false) 4
    (says Kind.Start (span 1 2) (span 1 2 ∷ [])
    ∷ says Kind.Empty (span 4 5) (span 1 2 ∷ [])
    ∷ says Kind.Text (span 7 8) (span 1 2 ∷ [])
    ∷ says Kind.End (span 10 11) []
    ∷ says Kind.Eof (span 12 12) [] ∷ []))
    -- and with empty elements expanded
    ∷ (example nested (settings true false true false) 4
    (says Kind.Start (span 1 2) (span 1 2 ∷ [])
    ∷ says Kind.Start (span 4 5) (span 4 5 ∷ span 1 2 ∷ [])
    ∷ says Kind.End (span 4 5) (span 1 2 ∷ [])
    ∷ says Kind.Text (span 7 8) (span 1 2 ∷ [])
    ∷ says Kind.End (span 10 11) []
    ∷ says Kind.Eof (span 12 12) [] ∷ []))
    -- `<d><t></d></t>`: closed crosswise; each mismatch takes a name away, and there is no End
    ∷ (example crossed (settings true false false false) 4
    (says Kind.Start (span 1 2) (span 1 2 ∷ [])
    ∷ says Kind.Start (span 4 5) (span 4 5 ∷ span 1 2 ∷ [])
    ∷ refuses 10 (span 1 2 ∷ [])
    ∷ refuses 10 []
    ∷ says Kind.Eof (span 14 14) [] ∷ []))
    -- and with end checks off: two Ends, each with the other's name
    ∷ (example crossed (settings false false false false) 4
    (says Kind.Start (span 1 2) (span 1 2 ∷ [])
    ∷ says Kind.Start (span 4 5) (span 4 5 ∷ span 1 2 ∷ [])
    ∷ says Kind.End (span 8 9) (span 1 2 ∷ [])
    ∷ says Kind.End (span 12 13) []
    ∷ says Kind.Eof (span 14 14) [] ∷ []))
    -- `<a></a></a>`: the second end finds nothing open and is refused
    ∷ (example twice (settings true false false false) 4
    (says Kind.Start (span 1 2) (span 1 2 ∷ [])
    ∷ says Kind.End (span 5 6) []
    ∷ refuses 11 []
    ∷ says Kind.Eof (span 11 11) [] ∷ []))
    -- and with unmatched ends let through: an End more than Starts
    ∷ (example twice (settings true true false false) 4
    (says Kind.Start (span 1 2) (span 1 2 ∷ [])
    ∷ says Kind.End (span 5 6) []
    ∷ says Kind.End (span 9 10) []
    ∷ says Kind.Eof (span 11 11) [] ∷ []))
    -- `<a b></a ><!x>`: the name is not all of the tag's content, the end's white space does not count, a refusal ends the run where it stands
    ∷ (example (60 ∷ 97 ∷ 32 ∷ 98 ∷ 62 ∷ 60 ∷ 47 ∷ 97 ∷ 32 ∷ 62 ∷ 60 ∷ 33 ∷ 120 ∷ 62 ∷ []) (settings true false false false) 4
    (says Kind.Start (span 1 4) (span 1 2 ∷ [])
    ∷ says Kind.End (span 7 8) []
    ∷ refuses 8 []
    ∷ says Kind.Eof (span 10 10) [] ∷ []))
    -- `6<`: nothing after the last `<`
    ∷ (example (54 ∷ 60 ∷ []) (settings true false false false) 4
    (says Kind.Text (span 0 1) []
    ∷ refuses 1 []
    ∷ says Kind.Eof (span 1 1) [] ∷ []))
    -- `<a>&b&c;<d>` with room for one name: a refused reference, a reference, a refused Start; the name stays open
    ∷ (example (60 ∷ 97 ∷ 62 ∷ 38 ∷ 98 ∷ 38 ∷ 99 ∷ 59 ∷ 60 ∷ 100 ∷ 62 ∷ []) (settings true false false false) 3
    (says Kind.Start (span 1 2) (span 1 2 ∷ [])
    ∷ refuses 12 (span 1 2 ∷ [])
    ∷ says Kind.GeneralRef (span 6 7) (span 1 2 ∷ [])
    ∷ refuses 15 (span 1 2 ∷ [])
    ∷ says Kind.Eof (span 8 8) (span 1 2 ∷ []) ∷ []))
    -- and with open names checked: 15 ended the run, so there is no 18
    ∷ (example (60 ∷ 97 ∷ 62 ∷ 38 ∷ 98 ∷ 38 ∷ 99 ∷ 59 ∷ 60 ∷ 100 ∷ 62 ∷ []) (settings true false false true) 3
    (says Kind.Start (span 1 2) (span 1 2 ∷ [])
    ∷ refuses 12 (span 1 2 ∷ [])
    ∷ says Kind.GeneralRef (span 6 7) (span 1 2 ∷ [])
    ∷ refuses 15 (span 1 2 ∷ [])
    ∷ says Kind.Eof (span 8 8) (span 1 2 ∷ []) ∷ []))
    -- `<a>&b` with open names checked: 12 did not end the run, and 18 comes once; the name stays open
    ∷ (example (60 ∷ 97 ∷ 62 ∷ 38 ∷ 98 ∷ []) (settings true false false true) 4
    (says Kind.Start (span 1 2) (span 1 2 ∷ [])
    ∷ refuses 12 (span 1 2 ∷ [])
    ∷ refuses 18 (span 1 2 ∷ [])
    ∷ says Kind.Eof (span 5 5) (span 1 2 ∷ [])
    ∷ says Kind.Eof (span 5 5) (span 1 2 ∷ []) ∷ []))
    -- `<t><r/>6</t>` with open names checked: all is closed
    ∷ (example nested (settings true false false true) 4
    (says Kind.Start (span 1 2) (span 1 2 ∷ [])
    ∷ says Kind.Empty (span 4 5) (span 1 2 ∷ [])
    ∷ says Kind.Text (span 7 8) (span 1 2 ∷ [])
    ∷ says Kind.End (span 10 11) []
    ∷ says Kind.Eof (span 12 12) []
    ∷ says Kind.Eof (span 12 12) [] ∷ []))
    ∷ []
