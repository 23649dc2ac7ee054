-- Why reading stops, by what of its state counts, and what is answered then.
use Rattle.std.specs.Prelude.{List, ◌≡◌, Result, Ok, Err}
use Rattle.atl_base.specs.declared.place.Place.{Place}
use Rattle.doc_text.specs.Symbols.{Symbol}
use Rattle.doc_text.specs.Faults.{Fault, Trailing}
use Rattle.doc_text.specs.Machine.{End, Read, after_root, declared, unwanted}
use Rattle.doc_text.specs.Answers.{refusal_of, IsRefusal}
use Rattle.doc_text.specs.Nexts.{root_of}
use Rattle.doc_text.specs.declared.reading.«open».Open.{Open}
use Rattle.doc_text.specs.declared.reading.why.Why.{Why}
use Rattle.doc_text.specs.declared.reading.why.Why.TheVariants as W
use Rattle.doc_text.specs.declared.refusal.DocRefusal.{DocRefusal}

abbrev pub why_of : Why → Place → List Symbol → Fault × Place
why_of (W.Trailing p) end ss = (Trailing, p)
why_of W.AfterRoot end ss = after_root end ss
why_of (W.Declares p) end ss = declared end p ss
why_of W.Unwanted end ss = unwanted end ss

abbrev pub refused : Fault × Place → DocRefusal
refused f = refusal_of f.0 f.1

-- the root before its names are resolved, or the refusal
abbrev pub IsRead : End → Result Open DocRefusal → Type 0
IsRead end (Ok root) = end ≡ Read (root_of root)
IsRead end (Err r) = IsRefusal end r
