-- The piece of an event: its content between the marks of its kind, "as document 01 has them".
use Rattle.std.specs.Prelude.{ℕ, List, [], ◌∷◌, ◌++◌}
use Rattle.ground.specs.Bytes.{amp, close_bracket, gt, hyphen, lt, question, semicolon, slash}
use Rattle.state.specs.declared.answer.Kind.{Kind}
use Rattle.emit.specs.Bang.{comment_opener, cdata_opener}

abbrev pub opener : Kind → List ℕ
opener Kind.Start = lt ∷ []
opener Kind.End = lt ∷ slash ∷ []
opener Kind.Empty = lt ∷ []
opener Kind.Text = []
opener Kind.GeneralRef = amp ∷ []
opener Kind.Comment = comment_opener
opener Kind.CData = cdata_opener
opener Kind.Decl = lt ∷ question ∷ []
opener Kind.PI = lt ∷ question ∷ []
opener Kind.Eof = []

abbrev pub closer : Kind → List ℕ
closer Kind.Start = gt ∷ []
closer Kind.End = gt ∷ []
closer Kind.Empty = slash ∷ gt ∷ []
closer Kind.Text = []
closer Kind.GeneralRef = semicolon ∷ []
closer Kind.Comment = hyphen ∷ hyphen ∷ gt ∷ []
closer Kind.CData = close_bracket ∷ close_bracket ∷ gt ∷ []
closer Kind.Decl = question ∷ gt ∷ []
closer Kind.PI = question ∷ gt ∷ []
closer Kind.Eof = []

-- "Eof appends nothing"
abbrev pub between : Kind → List ℕ → List ℕ
between Kind.Start content = content
between Kind.End content = content
between Kind.Empty content = content
between Kind.Text content = content
between Kind.GeneralRef content = content
between Kind.Comment content = content
between Kind.CData content = content
between Kind.Decl content = content
between Kind.PI content = content
between Kind.Eof content = []

abbrev pub piece_of : Kind → List ℕ → List ℕ
piece_of kind content = opener kind ++ (between kind content ++ closer kind)
