-- When an event may be added to a document (document 02, "A writer"): 28 is for every other.
use Rattle.std.specs.Prelude.{ℕ, List, [], ◌∷◌, ◌++◌, Bool, eqb}
use Rattle.ground.specs.Choose.{pick, all_of}
use Rattle.state.specs.declared.answer.Kind.{Kind}
use Rattle.state.specs.Values.{kind_number}
use Rattle.appends.specs.Reading.{Seen, same_all, heard, events, readable}
use Rattle.appends.specs.Marks.{piece_of}

-- "an event kind, content bytes and name length"
abbrev pub asked : Kind → List ℕ → ℕ → Seen
asked kind content name = record { kind = kind_number kind; content = content; name = name }

-- an event and those before it, and then Eof, which the event itself may be
abbrev pub to_eof : Seen → List Seen → List Seen
to_eof e before = pick (eqb e.kind (kind_number Kind.Eof)) (e ∷ before) (asked Kind.Eof [] 0 ∷ e ∷ before)

-- the document so far reads without a refusal, and with this piece added it "reads as the events so far and then this one"
unfoldable pub taken : List ℕ → List ℕ → Kind → List ℕ → ℕ → Bool
taken doc stack kind content name =
    all_of (readable doc stack ∷ same_all (heard (doc ++ piece_of kind content) stack) (to_eof (asked kind content name) (events doc stack)) ∷ [])
