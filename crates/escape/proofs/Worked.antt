-- The definitions give what the tables of worked examples say. Assumes nothing.
use mathlib.Core.Path.{◌≡◌, refl}
use mathlib.Core.List.{map}
use Rattle.ground.specs.Equal.{begins, same}
use Rattle.white.specs.White.{until}
use Rattle.escape.specs.Scalar.{octets}
use Rattle.escape.specs.Reference.{digit, char_of, number_from, number_of, reference_of}
use Rattle.escape.specs.Text.{text_from}
use Rattle.escape.specs.Table.{given_one, given_whole, wanted, references, texts}

pub the_references_hold : map given_one references ≡ map wanted references
unfolding begins same octets digit char_of number_from number_of reference_of references
the_references_hold = refl

pub the_texts_hold : map given_whole texts ≡ map wanted texts
unfolding begins same until octets digit char_of number_from number_of reference_of text_from texts
the_texts_hold = refl
