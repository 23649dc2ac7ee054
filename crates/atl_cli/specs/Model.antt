-- What `model` answers: by the words behind it, then by the bytes of the metamodel's file, and then by those of the model's.
use Rattle.std.specs.Prelude.{◌≡◌, ◌⊎◌, ℕ, ◌≤◌, ◌<◌, List, [], ◌∷◌, Option, None, Some, IfSome, Result, Ok, Err, length, codes}
use Rattle.std.specs.Option.{option_map}
use Rattle.atl_base.specs.declared.place.Place.{Place}
use Rattle.atl_outside.specs.Held.{Held, bytes_at, with_content, SameElsewhere}
use Rattle.atl_outside.specs.Rose.{Rose}
use Rattle.doc_text.specs.declared.refusal.Fault.{Fault as DocumentFault}
use Rattle.doc_text.specs.Machine.{Refused}
use Rattle.doc_text.specs.Reading.{IsDocumentOf, read_bytes}
use Rattle.doc_text.specs.declared.tree.Doc.{Doc}
use Rattle.ecore_meta.specs.declared.parts.Parts.{Parts}
use Rattle.model_store.specs.Contents.{Contents}
use Rattle.ecore_faults.specs.Faults.{Fault as MetaFault, first_fault as first_meta_fault}
use Rattle.ecore_outline.specs.Outline.{outline as meta_outline}
use Rattle.xmi_read.specs.Parts.{parts_of}
use Rattle.xmi_models.specs.Faults.{Fault as ModelFault}
use Rattle.xmi_models.specs.Outline.{outline as model_outline}
use Rattle.xmi_links.specs.Answers.{file_fault}
use Rattle.xmi_links.specs.ModelOf.{model_of}
use Rattle.xmi_write.specs.Xmi.{xmi}
use Rattle.atl_cli.specs.declared.command.Misuse.TheVariants.{BadWords}
use Rattle.atl_cli.specs.declared.model.Paths.{Paths}
use Rattle.atl_cli.specs.declared.refused.MetaKind.TheVariants as meta
use Rattle.atl_cli.specs.declared.refused.ModelKind.TheVariants as model
use Rattle.atl_cli.specs.declared.status.Size.TheVariants.{File}
use Rattle.atl_cli.specs.declared.status.Status.{Status}
use Rattle.atl_cli.specs.declared.status.Status.TheVariants as status
use Rattle.atl_cli.specs.Operands.{operands}
use Rattle.atl_cli.specs.Outcome.{Outcome, Ends, Writes, file_limit}
use Rattle.atl_cli.specs.Refused.{meta_status, model_status}

-- ## The words

-- they name three files: of a metamodel, of a model, and of what is written
abbrev pub HasPaths : List (List ℕ) → Paths → Type 0
HasPaths words p = operands words ≡ Some (p.meta ∷ p.model ∷ p.out ∷ [])

abbrev pub HasNoPaths : List (List ℕ) → Type 0
HasNoPaths words = (p : Paths) → HasPaths words p → ⊥

abbrev pub bad_words : Status
bad_words = status.Usage (BadWords (codes "model"))

-- ## The files

-- a metamodel, unless its file has a fault
abbrev pub faultless_meta : List ℕ → Option (MetaFault × Place) → Parts → Result Parts Status
faultless_meta path None parts = Ok parts
faultless_meta path (Some fault) parts = Err (meta_status path fault)

abbrev pub meta_of_document : List ℕ → Doc → Result Parts Status
meta_of_document path doc = faultless_meta path (first_meta_fault (meta_outline doc)) (parts_of (meta_outline doc))

-- What the bytes of a metamodel's file come to.
pub data MetaOf (path bytes : List ℕ) : Result Parts Status → Type 0 where
  LongMeta : file_limit < length bytes → MetaOf path bytes (Err (status.TooLarge File))
  NoMetaDocument : length bytes ≤ file_limit → (f : DocumentFault) (at : Place) → read_bytes bytes ≡ Refused (f, at)
      → MetaOf path bytes (Err (status.Meta path (meta.Document f) [] at))
  IsMetaDocument : length bytes ≤ file_limit → (doc : Doc) → IsDocumentOf bytes doc.root → MetaOf path bytes (meta_of_document path doc)

-- a model, unless its file has a fault
abbrev pub faultless_model : List ℕ → Option (ModelFault × Place) → Contents → Result Contents Status
faultless_model path None m = Ok m
faultless_model path (Some fault) m = Err (model_status path fault)

abbrev pub model_of_document : Parts → List ℕ → Doc → Result Contents Status
model_of_document meta path doc = faultless_model path (file_fault meta (model_outline meta doc)) (model_of meta (model_outline meta doc))

-- What the bytes of a model's file come to, over its metamodel.
pub data ModelOf (meta : Parts) (path bytes : List ℕ) : Result Contents Status → Type 0 where
  LongModel : file_limit < length bytes → ModelOf meta path bytes (Err (status.TooLarge File))
  NoModelDocument : length bytes ≤ file_limit → (f : DocumentFault) (at : Place) → read_bytes bytes ≡ Refused (f, at)
      → ModelOf meta path bytes (Err (status.Model path (model.Document f) [] at))
  IsModelDocument : length bytes ≤ file_limit → (doc : Doc) → IsDocumentOf bytes doc.root → ModelOf meta path bytes (model_of_document meta path doc)

-- What both files come to: the metamodel is judged first.
pub data Comes (p : Paths) (first second : List ℕ) : Outcome → Type 0 where
  NoMetamodel : (s : Status) → MetaOf p.meta first (Err s) → Comes p first second (Ends s)
  NoModel : (parts : Parts) (s : Status) → MetaOf p.meta first (Ok parts) → ModelOf parts p.model second (Err s) → Comes p first second (Ends s)
  IsModel : (parts : Parts) (m : Contents) → MetaOf p.meta first (Ok parts) → ModelOf parts p.model second (Ok m) → Comes p first second (Writes p.out (xmi m))

-- What the words behind the command come to, where the files hold these contents.
abbrev pub Judges : List (List ℕ) → Held → Outcome → Type 0
Judges words held o = (HasNoPaths words × (o ≡ Ends bad_words))
    ⊎ ((p : Paths) × HasPaths words p × Comes p (bytes_at held p.meta) (bytes_at held p.model) o)

-- ## The run

-- these bytes were read at a path, and are what the files hold there, where they tell it
abbrev pub AreRead : Option Held → List ℕ → List ℕ → Type 0
AreRead before path bytes = IfSome before (λ held. bytes ≡ bytes_at held path)

-- How a run ends.
pub data Ended (words : List (List ℕ)) (before after : Option Held) (low high : ℕ) : Status → Type 0 where
  Misused : HasNoPaths words → after ≡ before → Ended words before after low high bad_words
  MetaUnread : (p : Paths) → HasPaths words p → Rose low high → after ≡ before → Ended words before after low high (status.ReadFault p.meta)
  ModelUnread : (p : Paths) → HasPaths words p → (first : List ℕ) → AreRead before p.meta first → (parts : Parts) → MetaOf p.meta first (Ok parts)
      → Rose low high → after ≡ before → Ended words before after low high (status.ReadFault p.model)
  Judged : (p : Paths) → HasPaths words p → (first second : List ℕ) → AreRead before p.meta first → AreRead before p.model second
      → (s : Status) → Comes p first second (Ends s) → after ≡ before → Ended words before after low high s
  Written : (p : Paths) → HasPaths words p → (first second : List ℕ) → AreRead before p.meta first → AreRead before p.model second
      → (text : List ℕ) → Comes p first second (Writes p.out text) → after ≡ option_map (λ held. with_content held p.out text) before
      → Ended words before after low high status.Ok
  Unwritten : (p : Paths) → HasPaths words p → (first second : List ℕ) → AreRead before p.meta first → AreRead before p.model second
      → (text : List ℕ) → Comes p first second (Writes p.out text) → Rose low high → SameElsewhere p.out before after
      → Ended words before after low high (status.WriteFault p.out)
  NoMemory : after ≡ before → Ended words before after low high status.Memory
