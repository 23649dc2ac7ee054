-- What reading a document's bytes answers: its root, or the refusal. Want of memory says nothing of the bytes.
use Rattle.std.specs.Prelude.{ℕ, ◌≡◌, List, Result, Ok, Err}
use Rattle.atl_base.specs.declared.place.Place.{Place}
use Rattle.doc_text.specs.declared.tree.Doc.{Doc}
use Rattle.doc_text.specs.declared.refusal.DocRefusal.{DocRefusal}
use Rattle.doc_text.specs.declared.refusal.DocRefusal.TheVariants as R
use Rattle.doc_text.specs.Faults.{Fault, BadEncoding, BadByte, Expected, MismatchedEnd, TwiceAttribute, Entity, Prefix, TooDeep, Trailing, Unsupported}
use Rattle.doc_text.specs.Machine.{End, Read, Refused}
use Rattle.doc_text.specs.Reading.{Resolves, read_bytes}

abbrev pub refusal_of : Fault → Place → DocRefusal
refusal_of BadEncoding p = R.BadEncoding p
refusal_of BadByte p = R.BadByte p
refusal_of Expected p = R.Expected p
refusal_of MismatchedEnd p = R.MismatchedEnd p
refusal_of TwiceAttribute p = R.TwiceAttribute p
refusal_of Entity p = R.Entity p
refusal_of Prefix p = R.Prefix p
refusal_of TooDeep p = R.TooDeep p
refusal_of Trailing p = R.Trailing p
refusal_of Unsupported p = R.Unsupported p

abbrev pub IsRefusal : End → DocRefusal → Type 0
IsRefusal end R.Memory = Unit {0}
IsRefusal (Read t) r = ⊥
IsRefusal (Refused f) r = r ≡ refusal_of f.0 f.1

abbrev pub IsRoot : End → Doc → Type 0
IsRoot (Read t) doc = Resolves t doc.root
IsRoot (Refused f) doc = ⊥

-- the answer to these bytes
abbrev pub IsAnswer : List ℕ → Result Doc DocRefusal → Type 0
IsAnswer bytes (Ok doc) = IsRoot (read_bytes bytes) doc
IsAnswer bytes (Err r) = IsRefusal (read_bytes bytes) r
