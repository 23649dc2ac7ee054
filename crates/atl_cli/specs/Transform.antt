-- What `transform` is to answer, where nothing outside fails and memory lasts: by cases on the words, the module, the names
-- of the pairs, the source and the number of its elements, in this order.
use Rattle.std.specs.Prelude.{◌≡◌, ◌≢◌, ◌⊎◌, ℕ, ◌≤◌, ◌<◌, List, [], Option, IfSome, length, Contains, IsTrue, codes}
use Rattle.std.specs.Option.{option_map}
use Rattle.atl_outside.specs.Held.{Held, bytes_at, with_content, SameElsewhere}
use Rattle.atl_outside.specs.Rose.{Rose}
use Rattle.atl_cli.specs.declared.words.Pair.{Pair}
use Rattle.atl_cli.specs.declared.words.Request.{Request}
use Rattle.atl_cli.specs.declared.one_rule.OneRule.{OneRule}
use Rattle.atl_cli.specs.declared.source.SourceElement.{SourceElement}
use Rattle.atl_cli.specs.declared.status.Status.{Status}
use Rattle.atl_cli.specs.declared.status.Status.TheVariants.{TooLarge, NotYet}
use Rattle.atl_cli.specs.declared.status.Status.TheVariants as status
use Rattle.atl_cli.specs.declared.status.Size.TheVariants.{File, Objects}
use Rattle.atl_cli.specs.declared.status.Form.TheVariants as form
use Rattle.atl_cli.specs.Flat.{flat, text_of}
use Rattle.atl_cli.specs.OneRule.{IsModule}
use Rattle.atl_cli.specs.Outcome.{Outcome, Ends, Writes, file_limit}
use Rattle.atl_cli.specs.Plain.{is_plain_name}
use Rattle.atl_cli.specs.Source.{IsSource}
use Rattle.atl_cli.specs.Words.{IsRequest}

-- the source's metamodel names a namespace other than XMI's
pub record HasSpace (m : OneRule) : Type 0 where
  pub name : IsTrue (is_plain_name m.source_metamodel)
  pub other : m.source_metamodel ≢ codes "xmi"

-- the path that a pair gives to a name
abbrev pub HasPath : List Pair → List ℕ → List ℕ → Type 0
HasPath pairs name path = Contains pairs (record { name = name; path = path })

-- The names of the pairs are the four of the module's header; these are the paths of its models.
pub record ArePaths (m : OneRule) (pairs : List Pair) (target source : List ℕ) : Type 0 where
  pub to_target : HasPath pairs m.target target
  pub to_target_metamodel : (path : List ℕ) × HasPath pairs m.target_metamodel path
  pub to_source : HasPath pairs m.source source
  pub to_source_metamodel : (path : List ℕ) × HasPath pairs m.source_metamodel path

-- a source's limit in objects
abbrev pub object_limit : ℕ
object_limit = 1000000

-- the words are a request, and its module is held
pub record HasModule (words : List (List ℕ)) (held : Held) (r : Request) (m : OneRule) : Type 0 where
  pub request : IsRequest words r
  pub short : length (bytes_at held r.module) ≤ file_limit
  pub is : IsModule (bytes_at held r.module) m

-- and the pairs name its models
pub record HasPaths (words : List (List ℕ)) (held : Held) (m : OneRule) (target source : List ℕ) : Type 0 where
  pub of : Request
  pub opened : HasModule words held of m
  pub paths : ArePaths m of.pairs target source

-- and its source is held
pub record HasElements (words : List (List ℕ)) (held : Held) (m : OneRule) (target : List ℕ) (es : List SourceElement) : Type 0 where
  pub at : List ℕ
  pub paths : HasPaths words held m target at
  pub short : length (bytes_at held at) ≤ file_limit
  pub elements : IsSource m.source_metamodel (bytes_at held at) es

-- Which it is, where the files hold these contents.
pub data Judges (words : List (List ℕ)) (held : Held) : Outcome → Type 0 where
  OtherWords : ((r : Request) → IsRequest words r → ⊥) → Judges words held (Ends (NotYet form.Words))
  LongModule : (r : Request) → IsRequest words r → file_limit < length (bytes_at held r.module) → Judges words held (Ends (TooLarge File))
  OtherModule : (r : Request) → IsRequest words r → length (bytes_at held r.module) ≤ file_limit
      → ((m : OneRule) → IsModule (bytes_at held r.module) m → ⊥) → Judges words held (Ends (NotYet form.Module))
  OtherNames : (r : Request) (m : OneRule) → HasModule words held r m
      → ((target source : List ℕ) → ArePaths m r.pairs target source → ⊥) → Judges words held (Ends (NotYet form.Words))
  LongSource : (m : OneRule) (target source : List ℕ) → HasPaths words held m target source → file_limit < length (bytes_at held source) → Judges words held (Ends (TooLarge File))
  OtherSource : (m : OneRule) (target source : List ℕ) → HasPaths words held m target source → length (bytes_at held source) ≤ file_limit
      → ((es : List SourceElement) → IsSource m.source_metamodel (bytes_at held source) es → ⊥) → Judges words held (Ends (NotYet form.Model))
  ManyObjects : (m : OneRule) (target : List ℕ) (es : List SourceElement) → HasElements words held m target es → object_limit < length es → Judges words held (Ends (TooLarge Objects))
  Copies : (m : OneRule) (target : List ℕ) (es : List SourceElement) → HasElements words held m target es → length es ≤ object_limit
      → Judges words held (Writes target (text_of m (flat m es)))

-- a path that is read
abbrev pub IsRead : List (List ℕ) → Held → List ℕ → Type 0
IsRead words held path = ((r : Request) × IsRequest words r × (path ≡ r.module)) ⊎ ((m : OneRule) × (target : List ℕ) × HasPaths words held m target path)

-- how the one write of a text at a path ends a run
abbrev pub IsWritten : List ℕ → List ℕ → Option Held → Option Held → ℕ → ℕ → Status → Type 0
IsWritten path text before after low high status.Ok = after ≡ option_map (λ held. with_content held path text) before
IsWritten path text before after low high status.Memory = ⊥
IsWritten path text before after low high (status.ReadFault at) = ⊥
IsWritten path text before after low high (status.WriteFault at) = Rose low high × (at ≡ path) × SameElsewhere path before after
IsWritten path text before after low high (status.Usage why) = ⊥
IsWritten path text before after low high (status.Syntax what at) = ⊥
IsWritten path text before after low high (status.Meta at kind value place) = ⊥
IsWritten path text before after low high (status.Model at kind value place) = ⊥
IsWritten path text before after low high (status.TooLarge what) = ⊥
IsWritten path text before after low high (status.NotYet what) = ⊥

-- How a run over files ends, before its line is put out: the files' content and count of faults before, and after it.
abbrev pub Ended : List (List ℕ) → Option Held → Option Held → ℕ → ℕ → Status → Type 0
Ended words before after low high status.Ok = (path : List ℕ) × (text : List ℕ) × IfSome before (λ held. Judges words held (Writes path text)) × (after ≡ option_map (λ held. with_content held path text) before)
Ended words before after low high status.Memory = after ≡ before
Ended words before after low high (status.ReadFault path) = Rose low high × (after ≡ before) × IfSome before (λ held. IsRead words held path)
Ended words before after low high (status.WriteFault path) = Rose low high × (path ≢ []) × SameElsewhere path before after × IfSome before (λ held. (text : List ℕ) × Judges words held (Writes path text))
Ended words before after low high (status.Usage why) = ⊥
Ended words before after low high (status.Syntax what at) = ⊥
Ended words before after low high (status.Meta path kind value at) = ⊥
Ended words before after low high (status.Model path kind value at) = ⊥
Ended words before after low high (status.TooLarge what) = (after ≡ before) × IfSome before (λ held. Judges words held (Ends (TooLarge what)))
Ended words before after low high (status.NotYet what) = (after ≡ before) × IfSome before (λ held. Judges words held (Ends (NotYet what)))
