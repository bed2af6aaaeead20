-- Claimed.
-- The names of parse errors, as the standard has them (13.2.2); those of tree construction have one.
use Rattle.std.specs.Prelude.{ℕ, List, codes}
use Rattle.html_tokens.specs.declared.fault_name.FaultName.{FaultName}
use Rattle.html_tokens.specs.declared.fault_name.FaultName.TheVariants as fault
use Rattle.html_parser.specs.declared.faults.PageFaultName.{PageFaultName}
use Rattle.html_parser.specs.declared.faults.PageFaultName.TheVariants.{Tokenizer, TreeConstruction}

abbrev pub fault_text : FaultName → List ℕ
fault_text fault.UnexpectedNullCharacter = codes "unexpected-null-character"
fault_text fault.EofBeforeTagName = codes "eof-before-tag-name"
fault_text fault.EofInTag = codes "eof-in-tag"
fault_text fault.EofInComment = codes "eof-in-comment"
fault_text fault.EofInDoctype = codes "eof-in-doctype"
fault_text fault.EofInScriptHtmlCommentLikeText = codes "eof-in-script-html-comment-like-text"
fault_text fault.InvalidFirstCharacterOfTagName = codes "invalid-first-character-of-tag-name"
fault_text fault.UnexpectedQuestionMarkInsteadOfTagName = codes "unexpected-question-mark-instead-of-tag-name"
fault_text fault.MissingEndTagName = codes "missing-end-tag-name"
fault_text fault.UnexpectedSolidusInTag = codes "unexpected-solidus-in-tag"
fault_text fault.DuplicateAttribute = codes "duplicate-attribute"
fault_text fault.MissingAttributeValue = codes "missing-attribute-value"
fault_text fault.MissingWhitespaceBetweenAttributes = codes "missing-whitespace-between-attributes"
fault_text fault.UnexpectedEqualsSignBeforeAttributeName = codes "unexpected-equals-sign-before-attribute-name"
fault_text fault.UnexpectedCharacterInAttributeName = codes "unexpected-character-in-attribute-name"
fault_text fault.UnexpectedCharacterInUnquotedAttributeValue = codes "unexpected-character-in-unquoted-attribute-value"
fault_text fault.EndTagWithAttributes = codes "end-tag-with-attributes"
fault_text fault.EndTagWithTrailingSolidus = codes "end-tag-with-trailing-solidus"
fault_text fault.AbruptClosingOfEmptyComment = codes "abrupt-closing-of-empty-comment"
fault_text fault.IncorrectlyClosedComment = codes "incorrectly-closed-comment"
fault_text fault.NestedComment = codes "nested-comment"
fault_text fault.IncorrectlyOpenedComment = codes "incorrectly-opened-comment"
fault_text fault.CdataInHtmlContent = codes "cdata-in-html-content"
fault_text fault.EofInCdata = codes "eof-in-cdata"
fault_text fault.MissingDoctypeName = codes "missing-doctype-name"
fault_text fault.MissingWhitespaceBeforeDoctypeName = codes "missing-whitespace-before-doctype-name"
fault_text fault.InvalidCharacterSequenceAfterDoctypeName = codes "invalid-character-sequence-after-doctype-name"
fault_text fault.AbruptDoctypePublicIdentifier = codes "abrupt-doctype-public-identifier"
fault_text fault.AbruptDoctypeSystemIdentifier = codes "abrupt-doctype-system-identifier"
fault_text fault.MissingDoctypePublicIdentifier = codes "missing-doctype-public-identifier"
fault_text fault.MissingDoctypeSystemIdentifier = codes "missing-doctype-system-identifier"
fault_text fault.MissingQuoteBeforeDoctypePublicIdentifier = codes "missing-quote-before-doctype-public-identifier"
fault_text fault.MissingQuoteBeforeDoctypeSystemIdentifier = codes "missing-quote-before-doctype-system-identifier"
fault_text fault.MissingWhitespaceAfterDoctypePublicKeyword = codes "missing-whitespace-after-doctype-public-keyword"
fault_text fault.MissingWhitespaceAfterDoctypeSystemKeyword = codes "missing-whitespace-after-doctype-system-keyword"
fault_text fault.MissingWhitespaceBetweenDoctypePublicAndSystemIdentifiers = codes "missing-whitespace-between-doctype-public-and-system-identifiers"
fault_text fault.UnexpectedCharacterAfterDoctypeSystemIdentifier = codes "unexpected-character-after-doctype-system-identifier"
fault_text fault.AbsenceOfDigitsInNumericCharacterReference = codes "absence-of-digits-in-numeric-character-reference"
fault_text fault.MissingSemicolonAfterCharacterReference = codes "missing-semicolon-after-character-reference"
fault_text fault.UnknownNamedCharacterReference = codes "unknown-named-character-reference"
fault_text fault.NullCharacterReference = codes "null-character-reference"
fault_text fault.CharacterReferenceOutsideUnicodeRange = codes "character-reference-outside-unicode-range"
fault_text fault.SurrogateCharacterReference = codes "surrogate-character-reference"
fault_text fault.NoncharacterCharacterReference = codes "noncharacter-character-reference"
fault_text fault.ControlCharacterReference = codes "control-character-reference"

abbrev pub page_fault_text : PageFaultName → List ℕ
page_fault_text (Tokenizer name) = fault_text name
page_fault_text TreeConstruction = codes "tree-construction"
