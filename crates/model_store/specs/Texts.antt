-- The texts of values, as files have them. (XMI 2.0: a literal by its text, an object by its fragment.)
use Rattle.std.specs.Prelude.{ℕ, Bool, true, false, List, [], codes, slice_get}
use Rattle.std.specs.Fmt.{signed_decimal}
use Rattle.std.specs.Option.{option_map_or}
use Rattle.atl_base.specs.declared.numbers.FeatId.{FeatId}
use Rattle.ecore_meta.specs.declared.parts.FeatKind.{FeatKind}
use Rattle.ecore_meta.specs.declared.parts.FeatKind.TheVariants as Kind
use Rattle.ecore_meta.specs.declared.parts.Parts.{Parts}
use Rattle.model_store.specs.declared.parts.Cellv.{Cellv}
use Rattle.model_store.specs.declared.parts.Cellv.TheVariants.{Words, Int, Truth, Literal, Obj}
use Rattle.model_store.specs.Contents.{Contents}
use Rattle.model_store.specs.Paths.{path}

abbrev pub truth_text : Bool → List ℕ
truth_text true = codes "true"
truth_text false = codes "false"

-- the text of a literal of an enumeration
abbrev pub literal_text : Parts → FeatKind → ℕ → List ℕ
literal_text meta (Kind.Enum e) l = option_map_or (λ d. option_map_or (λ literal. literal.text) (slice_get d.literals l) []) (slice_get meta.enums e) []
literal_text meta kind l = []

-- the text of an attribute's value
abbrev pub plain_text : Parts → FeatId → Cellv → List ℕ
plain_text meta f (Words text) = text
plain_text meta f (Int n) = signed_decimal n
plain_text meta f (Truth b) = truth_text b
plain_text meta f (Literal l) = option_map_or (λ feature. literal_text meta feature.kind l) (slice_get meta.features f.0) []
plain_text meta f (Obj o) = []

-- the text of a feature's value; of an object its path
abbrev pub value_text : Contents → FeatId → Cellv → List ℕ
value_text m f (Obj o) = path m o
value_text m f value = plain_text m.meta f value
