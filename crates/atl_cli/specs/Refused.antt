-- Why a file has no metamodel or no model of it: the word that a line has for each kind, and how the first fault of a file ends a call.
use Rattle.std.specs.Prelude.{ℕ, List, codes}
use Rattle.atl_base.specs.declared.place.Place.{Place}
use Rattle.doc_text.specs.declared.refusal.Fault.{Fault as DocumentFault}
use Rattle.doc_text.specs.declared.refusal.Fault.TheVariants as D
use Rattle.ecore_faults.specs.Faults.{Fault as MetaFault}
use Rattle.ecore_faults.specs.declared.fault.Kind.{Kind}
use Rattle.ecore_faults.specs.declared.fault.Kind.TheVariants as E
use Rattle.xmi_models.specs.Faults.{Fault as ModelFault}
use Rattle.xmi_models.specs.declared.fault.Kind.TheVariants as M
use Rattle.atl_cli.specs.declared.refused.MetaKind.{MetaKind}
use Rattle.atl_cli.specs.declared.refused.MetaKind.TheVariants as meta
use Rattle.atl_cli.specs.declared.refused.ModelKind.{ModelKind}
use Rattle.atl_cli.specs.declared.refused.ModelKind.TheVariants as model
use Rattle.atl_cli.specs.declared.status.Size.TheVariants.{Objects}
use Rattle.atl_cli.specs.declared.status.Status.{Status}
use Rattle.atl_cli.specs.declared.status.Status.TheVariants as status

-- ## Words

abbrev pub document_word : DocumentFault → List ℕ
document_word D.BadEncoding = codes "BadEncoding"
document_word D.BadByte = codes "BadByte"
document_word D.Expected = codes "Expected"
document_word D.MismatchedEnd = codes "MismatchedEnd"
document_word D.TwiceAttribute = codes "TwiceAttribute"
document_word D.Entity = codes "Entity"
document_word D.Prefix = codes "Prefix"
document_word D.TooDeep = codes "TooDeep"
document_word D.Trailing = codes "Trailing"
document_word D.Unsupported = codes "Unsupported"

abbrev pub meta_word : MetaKind → List ℕ
meta_word (meta.Document f) = document_word f
meta_word meta.NotEcore = codes "NotEcore"
meta_word meta.SubPackage = codes "SubPackage"
meta_word meta.Generic = codes "Generic"
meta_word meta.NoName = codes "NoName"
meta_word meta.TwiceName = codes "TwiceName"
meta_word meta.OtherFile = codes "OtherFile"
meta_word meta.NoType = codes "NoType"
meta_word meta.SuperCycle = codes "SuperCycle"
meta_word meta.BadOpposite = codes "BadOpposite"
meta_word meta.BadNumber = codes "BadNumber"

abbrev pub model_word : ModelKind → List ℕ
model_word (model.Document f) = document_word f
model_word model.NoClass = codes "NoClass"
model_word model.Abstract = codes "Abstract"
model_word model.NoFeature = codes "NoFeature"
model_word model.StrayText = codes "StrayText"
model_word model.BadValue = codes "BadValue"
model_word model.Href = codes "Href"
model_word model.BadType = codes "BadType"
model_word model.BadPath = codes "BadPath"
model_word model.NoId = codes "NoId"
model_word model.TwiceId = codes "TwiceId"
model_word model.TwoContainers = codes "TwoContainers"
model_word model.TwoEnds = codes "TwoEnds"

-- ## Faults

abbrev pub meta_kind : Kind → MetaKind
meta_kind E.NotEcore = meta.NotEcore
meta_kind E.SubPackage = meta.SubPackage
meta_kind E.Generic = meta.Generic
meta_kind E.NoName = meta.NoName
meta_kind E.TwiceName = meta.TwiceName
meta_kind E.OtherFile = meta.OtherFile
meta_kind E.NoType = meta.NoType
meta_kind E.SuperCycle = meta.SuperCycle
meta_kind E.BadOpposite = meta.BadOpposite
meta_kind E.BadNumber = meta.BadNumber

-- the first fault of a metamodel's file, which lies at a path
abbrev pub meta_status : List ℕ → MetaFault × Place → Status
meta_status path ((kind, value), at) = status.Meta path (meta_kind kind) value at

-- that of a model's; of too many objects the limit is told
abbrev pub model_status : List ℕ → ModelFault × Place → Status
model_status path ((M.NoClass, value), at) = status.Model path model.NoClass value at
model_status path ((M.Abstract, value), at) = status.Model path model.Abstract value at
model_status path ((M.NoFeature, value), at) = status.Model path model.NoFeature value at
model_status path ((M.StrayText, value), at) = status.Model path model.StrayText value at
model_status path ((M.BadValue, value), at) = status.Model path model.BadValue value at
model_status path ((M.Href, value), at) = status.Model path model.Href value at
model_status path ((M.BadType, value), at) = status.Model path model.BadType value at
model_status path ((M.Full, value), at) = status.TooLarge Objects
model_status path ((M.BadPath, value), at) = status.Model path model.BadPath value at
model_status path ((M.NoId, value), at) = status.Model path model.NoId value at
model_status path ((M.TwiceId, value), at) = status.Model path model.TwiceId value at
model_status path ((M.TwoContainers, value), at) = status.Model path model.TwoContainers value at
model_status path ((M.TwoEnds, value), at) = status.Model path model.TwoEnds value at
