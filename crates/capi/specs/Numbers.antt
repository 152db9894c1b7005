-- What the slots of a host hold: a reader's state and an answer as numbers.
use Rattle.std.specs.Prelude.{ℕ, ◌+◌, ◌/◌, ◌%◌, Bool, not, List, [], ◌∷◌, length, get_or, set, eqb, ltb}
use Rattle.ground.specs.Choose.{pick}
use Rattle.state.specs.declared.config.Config.{Config}
use Rattle.state.specs.declared.answer.Values.{Values}
use Rattle.state.specs.declared.run.Phase.{Phase}
use Rattle.state.specs.declared.run.Reader.{Reader}
use Rattle.state.specs.Place.{at, depth_of}
use Rattle.capi.specs.declared.slots.Held.{Held}

-- the phases, from 0 on
abbrev pub phase_number : Phase → ℕ
phase_number Phase.Init = 0
phase_number Phase.InsideText = 1
phase_number Phase.InsideMarkup = 2
phase_number Phase.InsideRef = 3
phase_number Phase.InsideEmpty = 4
phase_number Phase.Done = 5

-- the phase with a number of 5 at most
unfoldable pub phase_of : ℕ → Phase
phase_of n =
    pick (eqb n 0)
    Phase.Init
    (pick (eqb n 1) Phase.InsideText (pick (eqb n 2) Phase.InsideMarkup (pick (eqb n 3) Phase.InsideRef (pick (eqb n 4) Phase.InsideEmpty Phase.Done))))

-- the settings, a bit each
unfoldable pub settings_number : Config → ℕ
settings_number c =
    pick c.allow_dangling_amp 1 0
    + pick c.allow_unmatched_ends 2 0
    + pick c.check_comments 4 0
    + pick c.check_end_names 8 0
    + pick c.expand_empty_elements 16 0
    + pick c.trim_markup_names_in_closing_tags 32 0
    + pick c.trim_text_start 64 0
    + pick c.trim_text_end 128 0
    + pick c.check_open_names 256 0

-- the bit of a number is set that has this weight
abbrev pub bit : ℕ → ℕ → Bool
bit n weight = eqb (n / weight % 2) 1

-- the settings whose bits are set
unfoldable pub config_of : ℕ → Config
config_of n =
    record {
      allow_dangling_amp = bit n 1;
      allow_unmatched_ends = bit n 2;
      check_comments = bit n 4;
      check_end_names = bit n 8;
      expand_empty_elements = bit n 16;
      trim_markup_names_in_closing_tags = bit n 32;
      trim_text_start = bit n 64;
      trim_text_end = bit n 128;
      check_open_names = bit n 256;
    }

-- the mark, in a slot that held `was`: any number but 0 is a mark that is on, and stays
abbrev pub mark_number : ℕ → Bool → ℕ
mark_number was on = pick (eqb was 0) (pick on 1 0) was

-- a reader's state, written where the mark's slot held `was`, and how many slots that are; with 0 for `was` the mark is 1 or 0
unfoldable pub state_numbers : ℕ → Reader → List ℕ
state_numbers was r =
    phase_number r.phase ∷ r.position.0 ∷ r.depth.0 ∷ r.length ∷ settings_number r.settings ∷ mark_number was r.mark ∷ []

abbrev pub state_slots : ℕ
state_slots = 6

-- what the mark's slot holds
abbrev pub mark_slot : List ℕ → ℕ
mark_slot xs = get_or xs 5 0

-- slots in which a mark is written
abbrev pub noted : List ℕ → Bool → List ℕ
noted xs on = set xs 5 (mark_number (mark_slot xs) on)

-- the reader whose numbers slots begin with; none where they are too few, or the first or the fifth of them is no phase's or no settings'
unfoldable pub held_of : List ℕ → Held
held_of xs =
    pick (ltb (length xs) state_slots)
    Held.Nothing
    (pick (ltb 5 (get_or xs 0 0))
    Held.Nothing
    (pick (ltb 511 (get_or xs 4 0))
    Held.Nothing
    (Held.Reader
    (record {
      phase = phase_of (get_or xs 0 0);
      position = at (get_or xs 1 0);
      depth = depth_of (get_or xs 2 0);
      length = get_or xs 3 0;
      settings = config_of (get_or xs 4 0);
      mark = not (eqb (mark_slot xs) 0);
    }))))

-- an answer's values, and how many slots that are
unfoldable pub values_numbers : Values → List ℕ
values_numbers v =
    v.kind
    ∷ v.number
    ∷ v.place
    ∷ v.piece.from
    ∷ v.piece.to
    ∷ v.content.from
    ∷ v.content.to
    ∷ v.name
    ∷ v.expected.from
    ∷ v.expected.to
    ∷ v.found.from
    ∷ v.found.to
    ∷ []

abbrev pub answer_slots : ℕ
answer_slots = 12
