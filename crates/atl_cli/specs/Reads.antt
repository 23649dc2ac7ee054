-- What the steps of `model` give: the bytes of a file, the metamodel or the model that they are, or the status that ends the call.
use Rattle.std.specs.Prelude.{◌≡◌, ◌⊎◌, ℕ, ◌≤◌, ◌<◌, List, [], Option, None, Result, Ok, Err, Vec, length}
use Rattle.std.specs.Option.{option_map}
use Rattle.std.specs.declared.alloc.Global.{Global}
use Rattle.atl_outside.specs.Held.{Held, with_content, SameElsewhere}
use Rattle.atl_outside.specs.Rose.{Rose}
use Rattle.doc_text.specs.Answers.{IsRefusal}
use Rattle.doc_text.specs.Reading.{IsDocumentOf, read_bytes}
use Rattle.doc_text.specs.declared.tree.Doc.{Doc}
use Rattle.ecore_meta.specs.declared.parts.Parts.{Parts}
use Rattle.model_store.specs.Contents.{Contents}
use Rattle.xmi_read.specs.Answers.{IsMetaAnswer}
use Rattle.xmi_read.specs.declared.refusal.MetaRefusal.{MetaRefusal}
use Rattle.xmi_read.specs.declared.refusal.MetaRefusal.TheVariants as E
use Rattle.xmi_links.specs.Answers.{IsModelAnswer}
use Rattle.xmi_links.specs.declared.refusal.ModelRefusal.{ModelRefusal}
use Rattle.xmi_links.specs.declared.refusal.ModelRefusal.TheVariants as M
use Rattle.atl_cli.specs.declared.status.Size.TheVariants.{File}
use Rattle.atl_cli.specs.declared.status.Status.{Status}
use Rattle.atl_cli.specs.declared.status.Status.TheVariants as status
use Rattle.atl_cli.specs.Model.{AreRead}
use Rattle.atl_cli.specs.Outcome.{file_limit}

-- how a call ends that a file ends, by what the file's bytes come to
pub data Stops {A : Type 0} (Of : List ℕ → Result A Status → Type 0) (before : Option Held) (path : List ℕ) (low high : ℕ) : Status → Type 0 where
  Unread : Rose low high → Stops Of before path low high (status.ReadFault path)
  Refused : (bytes : List ℕ) → AreRead before path bytes → (s : Status) → Of bytes (Err s) → Stops Of before path low high s
  Forgotten : Stops Of before path low high status.Memory

-- what a file is, or how it ends the call
abbrev pub IsJudged : {A : Type 0} → (List ℕ → Result A Status → Type 0) → Option Held → List ℕ → ℕ → ℕ → Result A Status → Type 0
IsJudged Of before path low high (Ok a) = (bytes : List ℕ) × AreRead before path bytes × Of bytes (Ok a)
IsJudged Of before path low high (Err s) = Stops Of before path low high s

-- bytes of a length that is read
abbrev pub OfBytes : List ℕ → Result (Vec ℕ Global) Status → Type 0
OfBytes bytes (Ok v) = (v.items ≡ bytes) × (length bytes ≤ file_limit)
OfBytes bytes (Err s) = (file_limit < length bytes) × (s ≡ status.TooLarge File)

abbrev pub IsMetaRefused : List ℕ → MetaRefusal → Type 0
IsMetaRefused bytes (E.Document refusal) = IsRefusal (read_bytes bytes) refusal
IsMetaRefused bytes refusal = (doc : Doc) × IsDocumentOf bytes doc.root × IsMetaAnswer doc (Err refusal)

abbrev pub IsMetaFile : List ℕ → Result Parts MetaRefusal → Type 0
IsMetaFile bytes (Ok parts) = (doc : Doc) × IsDocumentOf bytes doc.root × IsMetaAnswer doc (Ok parts)
IsMetaFile bytes (Err refusal) = IsMetaRefused bytes refusal

abbrev pub IsModelRefused : Parts → List ℕ → ModelRefusal → Type 0
IsModelRefused meta bytes (M.Document refusal) = IsRefusal (read_bytes bytes) refusal
IsModelRefused meta bytes refusal = (doc : Doc) × IsDocumentOf bytes doc.root × IsModelAnswer doc meta (Err refusal)

abbrev pub IsModelFile : Parts → List ℕ → Result Contents ModelRefusal → Type 0
IsModelFile meta bytes (Ok m) = (doc : Doc) × IsDocumentOf bytes doc.root × IsModelAnswer doc meta (Ok m)
IsModelFile meta bytes (Err refusal) = IsModelRefused meta bytes refusal

-- how the write of a text at a path ends a call
abbrev pub IsPut : List ℕ → List ℕ → Option Held → Option Held → ℕ → ℕ → Result (Unit {0}) Status → Type 0
IsPut path text before after low high (Ok _) = after ≡ option_map (λ held. with_content held path text) before
IsPut path text before after low high (Err s) = ((s ≡ status.Memory) × (after ≡ before)) ⊎ ((s ≡ status.WriteFault path) × Rose low high × SameElsewhere path before after)

abbrev pub status_in : {A : Type 0} → Result A Status → Status
status_in (Ok a) = status.Ok
status_in (Err s) = s
