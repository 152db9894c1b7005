-- `numbered` meets its contract. Assumes nothing.
use borrow.Author.Rules.{rules}
use Rattle.ground.proofs.Choices.{by_case}
use Rattle.state.specs.Values.{numbered_of}
use Rattle.state.proofs.answer.Error.numbered.Goals as goal

pub enum_told-1 : goal.enum_told-1
enum_told-1 c = search (rules, by_case numbered_of)

pub spanless-requires : goal.spanless-requires
spanless-requires c = search (rules, by_case numbered_of)

pub enum_told-in-UnclosedSingleQuotedAttributeValue : goal.enum_told-in-UnclosedSingleQuotedAttributeValue
enum_told-in-UnclosedSingleQuotedAttributeValue c = search (rules, by_case numbered_of)

pub spanless-requires-in-UnclosedSingleQuotedAttributeValue : goal.spanless-requires-in-UnclosedSingleQuotedAttributeValue
spanless-requires-in-UnclosedSingleQuotedAttributeValue c = search (rules, by_case numbered_of)

pub enum_told-in-UnclosedDoubleQuotedAttributeValue : goal.enum_told-in-UnclosedDoubleQuotedAttributeValue
enum_told-in-UnclosedDoubleQuotedAttributeValue c = search (rules, by_case numbered_of)

pub spanless-requires-in-UnclosedDoubleQuotedAttributeValue : goal.spanless-requires-in-UnclosedDoubleQuotedAttributeValue
spanless-requires-in-UnclosedDoubleQuotedAttributeValue c = search (rules, by_case numbered_of)

pub enum_told-in-UnclosedComment : goal.enum_told-in-UnclosedComment
enum_told-in-UnclosedComment c = search (rules, by_case numbered_of)

pub spanless-requires-in-UnclosedComment : goal.spanless-requires-in-UnclosedComment
spanless-requires-in-UnclosedComment c = search (rules, by_case numbered_of)

pub enum_told-in-UnclosedCData : goal.enum_told-in-UnclosedCData
enum_told-in-UnclosedCData c = search (rules, by_case numbered_of)

pub spanless-requires-in-UnclosedCData : goal.spanless-requires-in-UnclosedCData
spanless-requires-in-UnclosedCData c = search (rules, by_case numbered_of)

pub enum_told-in-UnclosedPI : goal.enum_told-in-UnclosedPI
enum_told-in-UnclosedPI c = search (rules, by_case numbered_of)

pub spanless-requires-in-UnclosedPI : goal.spanless-requires-in-UnclosedPI
spanless-requires-in-UnclosedPI c = search (rules, by_case numbered_of)

pub enum_told-in-UnclosedXmlDecl : goal.enum_told-in-UnclosedXmlDecl
enum_told-in-UnclosedXmlDecl c = search (rules, by_case numbered_of)

pub spanless-requires-in-UnclosedXmlDecl : goal.spanless-requires-in-UnclosedXmlDecl
spanless-requires-in-UnclosedXmlDecl c = search (rules, by_case numbered_of)

pub enum_told-in-InvalidBangMarkup : goal.enum_told-in-InvalidBangMarkup
enum_told-in-InvalidBangMarkup c = search (rules, by_case numbered_of)

pub spanless-requires-in-InvalidBangMarkup : goal.spanless-requires-in-InvalidBangMarkup
spanless-requires-in-InvalidBangMarkup c = search (rules, by_case numbered_of)

pub enum_told-in-DoubleHyphenInComment : goal.enum_told-in-DoubleHyphenInComment
enum_told-in-DoubleHyphenInComment c = search (rules, by_case numbered_of)

pub spanless-requires-in-DoubleHyphenInComment : goal.spanless-requires-in-DoubleHyphenInComment
spanless-requires-in-DoubleHyphenInComment c = search (rules, by_case numbered_of)

pub enum_known-self : goal.enum_known-self
enum_known-self c = search (rules, by_case numbered_of)

pub enum_known-self-in-UnmatchedEndTag-1 : goal.enum_known-self-in-UnmatchedEndTag-1
enum_known-self-in-UnmatchedEndTag-1 c = search (rules, by_case numbered_of)

pub enum_told-in-UnclosedReference : goal.enum_told-in-UnclosedReference
enum_told-in-UnclosedReference c = search (rules, by_case numbered_of)

pub spanless-requires-in-UnclosedReference : goal.spanless-requires-in-UnclosedReference
spanless-requires-in-UnclosedReference c = search (rules, by_case numbered_of)

pub enum_told-in-Encoding : goal.enum_told-in-Encoding
enum_told-in-Encoding c = search (rules, by_case numbered_of)

pub spanless-requires-in-Encoding : goal.spanless-requires-in-Encoding
spanless-requires-in-Encoding c = search (rules, by_case numbered_of)

pub enum_told-in-DocType : goal.enum_told-in-DocType
enum_told-in-DocType c = search (rules, by_case numbered_of)

pub spanless-requires-in-DocType : goal.spanless-requires-in-DocType
spanless-requires-in-DocType c = search (rules, by_case numbered_of)

pub enum_told-in-NameStackFull : goal.enum_told-in-NameStackFull
enum_told-in-NameStackFull c = search (rules, by_case numbered_of)

pub spanless-requires-in-NameStackFull : goal.spanless-requires-in-NameStackFull
spanless-requires-in-NameStackFull c = search (rules, by_case numbered_of)

pub enum_told-in-SliceTooLong : goal.enum_told-in-SliceTooLong
enum_told-in-SliceTooLong c = search (rules, by_case numbered_of)

pub spanless-requires-in-SliceTooLong : goal.spanless-requires-in-SliceTooLong
spanless-requires-in-SliceTooLong c = search (rules, by_case numbered_of)

pub enum_told-in-BadState : goal.enum_told-in-BadState
enum_told-in-BadState c = search (rules, by_case numbered_of)

pub spanless-requires-in-BadState : goal.spanless-requires-in-BadState
spanless-requires-in-BadState c = search (rules, by_case numbered_of)

pub enum_told-in-UnclosedElements : goal.enum_told-in-UnclosedElements
enum_told-in-UnclosedElements c = search (rules, by_case numbered_of)

pub spanless-requires-in-UnclosedElements : goal.spanless-requires-in-UnclosedElements
spanless-requires-in-UnclosedElements c = search (rules, by_case numbered_of)

pub returns-in-UnclosedTag : goal.returns-in-UnclosedTag
returns-in-UnclosedTag c = search (rules, by_case numbered_of)

pub returns-in-UnclosedSingleQuotedAttributeValue : goal.returns-in-UnclosedSingleQuotedAttributeValue
returns-in-UnclosedSingleQuotedAttributeValue c = search (rules, by_case numbered_of)

pub returns-in-UnclosedDoubleQuotedAttributeValue : goal.returns-in-UnclosedDoubleQuotedAttributeValue
returns-in-UnclosedDoubleQuotedAttributeValue c = search (rules, by_case numbered_of)

pub returns-in-UnclosedComment : goal.returns-in-UnclosedComment
returns-in-UnclosedComment c = search (rules, by_case numbered_of)

pub returns-in-UnclosedCData : goal.returns-in-UnclosedCData
returns-in-UnclosedCData c = search (rules, by_case numbered_of)

pub returns-in-UnclosedPI : goal.returns-in-UnclosedPI
returns-in-UnclosedPI c = search (rules, by_case numbered_of)

pub returns-in-UnclosedXmlDecl : goal.returns-in-UnclosedXmlDecl
returns-in-UnclosedXmlDecl c = search (rules, by_case numbered_of)

pub returns-in-InvalidBangMarkup : goal.returns-in-InvalidBangMarkup
returns-in-InvalidBangMarkup c = search (rules, by_case numbered_of)

pub returns-in-DoubleHyphenInComment : goal.returns-in-DoubleHyphenInComment
returns-in-DoubleHyphenInComment c = search (rules, by_case numbered_of)

pub returns-in-MismatchedEndTag : goal.returns-in-MismatchedEndTag
returns-in-MismatchedEndTag c = search (rules, by_case numbered_of)

pub returns-in-UnmatchedEndTag : goal.returns-in-UnmatchedEndTag
returns-in-UnmatchedEndTag c = search (rules, by_case numbered_of)

pub returns-in-UnclosedReference : goal.returns-in-UnclosedReference
returns-in-UnclosedReference c = search (rules, by_case numbered_of)

pub returns-in-Encoding : goal.returns-in-Encoding
returns-in-Encoding c = search (rules, by_case numbered_of)

pub returns-in-DocType : goal.returns-in-DocType
returns-in-DocType c = search (rules, by_case numbered_of)

pub returns-in-NameStackFull : goal.returns-in-NameStackFull
returns-in-NameStackFull c = search (rules, by_case numbered_of)

pub returns-in-SliceTooLong : goal.returns-in-SliceTooLong
returns-in-SliceTooLong c = search (rules, by_case numbered_of)

pub returns-in-BadState : goal.returns-in-BadState
returns-in-BadState c = search (rules, by_case numbered_of)

pub returns-in-UnclosedElements : goal.returns-in-UnclosedElements
returns-in-UnclosedElements c = search (rules, by_case numbered_of)
