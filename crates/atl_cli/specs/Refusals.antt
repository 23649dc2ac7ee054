-- How the refusals of the readers end a call.
use Rattle.std.specs.Prelude.{ℕ, List, [], Option, Some, None}
use Rattle.std.specs.Option.{option_map_or}
use Rattle.atl_base.specs.declared.place.Place.{Place}
use Rattle.doc_text.specs.declared.refusal.Fault.{Fault}
use Rattle.doc_text.specs.declared.refusal.Fault.TheVariants as D
use Rattle.doc_text.specs.declared.refusal.DocRefusal.{DocRefusal}
use Rattle.doc_text.specs.declared.refusal.DocRefusal.TheVariants as R
use Rattle.xmi_read.specs.declared.refusal.MetaRefusal.{MetaRefusal}
use Rattle.xmi_read.specs.declared.refusal.MetaRefusal.TheVariants as E
use Rattle.xmi_links.specs.declared.refusal.ModelRefusal.{ModelRefusal}
use Rattle.xmi_links.specs.declared.refusal.ModelRefusal.TheVariants as M
use Rattle.atl_cli.specs.declared.refused.MetaKind.TheVariants as meta
use Rattle.atl_cli.specs.declared.refused.ModelKind.TheVariants as model
use Rattle.atl_cli.specs.declared.status.Size.TheVariants.{Objects}
use Rattle.atl_cli.specs.declared.status.Status.{Status}
use Rattle.atl_cli.specs.declared.status.Status.TheVariants as status

abbrev pub document_fault : DocRefusal → Option (Fault × Place)
document_fault (R.BadEncoding at) = Some (D.BadEncoding, at)
document_fault (R.BadByte at) = Some (D.BadByte, at)
document_fault (R.Expected at) = Some (D.Expected, at)
document_fault (R.MismatchedEnd at) = Some (D.MismatchedEnd, at)
document_fault (R.TwiceAttribute at) = Some (D.TwiceAttribute, at)
document_fault (R.Entity at) = Some (D.Entity, at)
document_fault (R.Prefix at) = Some (D.Prefix, at)
document_fault (R.TooDeep at) = Some (D.TooDeep, at)
document_fault (R.Trailing at) = Some (D.Trailing, at)
document_fault (R.Unsupported at) = Some (D.Unsupported, at)
document_fault R.Memory = None

abbrev pub meta_end : List ℕ → MetaRefusal → Status
meta_end path (E.NotEcore value at) = status.Meta path meta.NotEcore value at
meta_end path (E.SubPackage value at) = status.Meta path meta.SubPackage value at
meta_end path (E.Generic value at) = status.Meta path meta.Generic value at
meta_end path (E.NoName value at) = status.Meta path meta.NoName value at
meta_end path (E.TwiceName value at) = status.Meta path meta.TwiceName value at
meta_end path (E.OtherFile value at) = status.Meta path meta.OtherFile value at
meta_end path (E.NoType value at) = status.Meta path meta.NoType value at
meta_end path (E.SuperCycle value at) = status.Meta path meta.SuperCycle value at
meta_end path (E.BadOpposite value at) = status.Meta path meta.BadOpposite value at
meta_end path (E.BadNumber value at) = status.Meta path meta.BadNumber value at
meta_end path (E.Document refusal) = option_map_or (λ f. status.Meta path (meta.Document f.0) [] f.1) (document_fault refusal) status.Memory
meta_end path E.Memory = status.Memory

abbrev pub model_end : List ℕ → ModelRefusal → Status
model_end path (M.NoClass value at) = status.Model path model.NoClass value at
model_end path (M.Abstract value at) = status.Model path model.Abstract value at
model_end path (M.NoFeature value at) = status.Model path model.NoFeature value at
model_end path (M.StrayText value at) = status.Model path model.StrayText value at
model_end path (M.BadValue value at) = status.Model path model.BadValue value at
model_end path (M.Href value at) = status.Model path model.Href value at
model_end path (M.BadType value at) = status.Model path model.BadType value at
model_end path (M.Full at) = status.TooLarge Objects
model_end path (M.BadPath value at) = status.Model path model.BadPath value at
model_end path (M.NoId value at) = status.Model path model.NoId value at
model_end path (M.TwiceId value at) = status.Model path model.TwiceId value at
model_end path (M.TwoContainers value at) = status.Model path model.TwoContainers value at
model_end path (M.TwoEnds value at) = status.Model path model.TwoEnds value at
model_end path (M.Document refusal) = option_map_or (λ f. status.Model path (model.Document f.0) [] f.1) (document_fault refusal) status.Memory
model_end path M.Memory = status.Memory
