-- Why a document is refused, in the order in which kinds at one place go first; `Expected` goes last. `BadEncoding`: an
-- encoding that is not read. `BadByte`: no character of the encoding, or of XML text. `Expected`: the form needs
-- something else. `MismatchedEnd`: the end tag of another element. `TwiceAttribute`: an attribute, or a declaration of a
-- prefix, stands twice. `Entity`: an entity other than the five. `Prefix`: a prefix that is not declared. `TooDeep`: more
-- than 200 open elements. `Trailing`: something after the root. `Unsupported`: a document type declaration or CDATA.
pub use Rattle.doc_text.specs.declared.refusal.Fault.{Fault}
pub use Rattle.doc_text.specs.declared.refusal.Fault.TheVariants.{BadEncoding, BadByte, Expected, MismatchedEnd, TwiceAttribute, Entity, Prefix, TooDeep, Trailing, Unsupported}
