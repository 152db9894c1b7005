-- The answers that have attributes, and what is known of their contents.
use Rattle.std.specs.Prelude.{ℕ, ◌≤◌, ◌≡◌, Bool, true, List, length, eqb}
use Rattle.ground.specs.Choose.{pick}
use Rattle.white.specs.White.{name_len}
use Rattle.state.specs.declared.answer.Kind.{Kind}
use Rattle.state.specs.declared.answer.Answer.{Answer}
use Rattle.state.specs.Values.{kind_number, values_of}
use Rattle.reader.specs.Names.{bytes}
use Rattle.demands.specs.Answers.{is_start}

abbrev pub is_empty : Answer → Bool
is_empty a = eqb (values_of a).kind (kind_number Kind.Empty)

-- a Start or an Empty
abbrev pub is_tag : Answer → Bool
is_tag a = pick (is_start a) true (is_empty a)

-- its content is a part of the document, and its name length the one that document 01 gives this content
pub record ATag (doc : List ℕ) (a : Answer) : Type 0 where
  pub ordered : (values_of a).content.from ≤ (values_of a).content.to
  pub within : (values_of a).content.to ≤ length doc
  pub named : (values_of a).name ≡ name_len (bytes doc (values_of a).content)
