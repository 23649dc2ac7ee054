-- What the readers refuse is what the definitions tell of a file.
use Rattle.std.proofs.Common.{◌≡◌, ◌⊎◌, inl, inr, ℕ, ◌≤◌, List, [], Option, Some, None, Result, Ok, Err, length, ap, sym, subst, ◌∙◌, refl}
use Rattle.std.specs.Option.{option_map_or}
use Rattle.atl_base.specs.declared.place.Place.{Place}
use Rattle.doc_text.specs.Answers.{refusal_of, IsRefusal}
use Rattle.doc_text.specs.declared.refusal.Fault.{Fault as DocumentFault}
use Rattle.doc_text.specs.declared.refusal.Fault.TheVariants as D
use Rattle.doc_text.specs.Machine.{End, Read, Refused}
use Rattle.doc_text.specs.Reading.{IsDocumentOf, read_bytes}
use Rattle.doc_text.specs.declared.refusal.DocRefusal.{DocRefusal}
use Rattle.doc_text.specs.declared.refusal.DocRefusal.TheVariants as R
use Rattle.doc_text.specs.declared.tree.Doc.{Doc}
use Rattle.ecore_meta.specs.declared.parts.Parts.{Parts}
use Rattle.model_store.specs.Contents.{Contents}
use Rattle.xmi_read.specs.Answers as ER
use Rattle.ecore_faults.specs.Faults.{Fault as MetaFault, first_fault as first_meta_fault}
use Rattle.ecore_faults.specs.declared.fault.Kind.TheVariants as EF
use Rattle.ecore_outline.specs.Outline as EO
use Rattle.xmi_read.specs.Parts.{parts_of}
use Rattle.xmi_read.specs.declared.refusal.MetaRefusal.{MetaRefusal}
use Rattle.xmi_read.specs.declared.refusal.MetaRefusal.TheVariants as E
use Rattle.xmi_models.specs.Faults.{Fault as ModelFault}
use Rattle.xmi_models.specs.declared.fault.Kind.TheVariants as MF
use Rattle.xmi_models.specs.Outline as MO
use Rattle.xmi_links.specs.Answers as MR
use Rattle.xmi_links.specs.ModelOf.{model_of}
use Rattle.xmi_links.specs.declared.refusal.ModelRefusal.{ModelRefusal}
use Rattle.xmi_links.specs.declared.refusal.ModelRefusal.TheVariants as M
use Rattle.atl_cli.specs.declared.refused.MetaKind.TheVariants as meta
use Rattle.atl_cli.specs.declared.refused.ModelKind.TheVariants as model
use Rattle.atl_cli.specs.declared.status.Status.{Status}
use Rattle.atl_cli.specs.declared.status.Status.TheVariants as status
use Rattle.atl_cli.specs.Model.{MetaOf, NoMetaDocument, IsMetaDocument, faultless_meta, ModelOf, NoModelDocument, IsModelDocument, faultless_model}
use Rattle.atl_cli.specs.Outcome.{file_limit}
use Rattle.atl_cli.specs.Reads.{IsMetaRefused, IsModelRefused}
use Rattle.atl_cli.specs.Refused.{meta_status, model_status}
use Rattle.atl_cli.specs.Refusals.{document_fault, meta_end, model_end}

-- ## Documents

abbrev Refuses : End → DocRefusal → Type 0
Refuses end r = (r ≡ R.Memory) ⊎ ((f : DocumentFault × Place) × (end ≡ Refused f) × (r ≡ refusal_of f.0 f.1))

refuses : (end : End) (r : DocRefusal) → IsRefusal end r → Refuses end r
refuses end R.Memory p = inl refl
refuses (Read t) (R.BadEncoding at) p = absurd p
refuses (Refused f) (R.BadEncoding at) p = inr (f, refl, p)
refuses (Read t) (R.BadByte at) p = absurd p
refuses (Refused f) (R.BadByte at) p = inr (f, refl, p)
refuses (Read t) (R.Expected at) p = absurd p
refuses (Refused f) (R.Expected at) p = inr (f, refl, p)
refuses (Read t) (R.MismatchedEnd at) p = absurd p
refuses (Refused f) (R.MismatchedEnd at) p = inr (f, refl, p)
refuses (Read t) (R.TwiceAttribute at) p = absurd p
refuses (Refused f) (R.TwiceAttribute at) p = inr (f, refl, p)
refuses (Read t) (R.Entity at) p = absurd p
refuses (Refused f) (R.Entity at) p = inr (f, refl, p)
refuses (Read t) (R.Prefix at) p = absurd p
refuses (Refused f) (R.Prefix at) p = inr (f, refl, p)
refuses (Read t) (R.TooDeep at) p = absurd p
refuses (Refused f) (R.TooDeep at) p = inr (f, refl, p)
refuses (Read t) (R.Trailing at) p = absurd p
refuses (Refused f) (R.Trailing at) p = inr (f, refl, p)
refuses (Read t) (R.Unsupported at) p = absurd p
refuses (Refused f) (R.Unsupported at) p = inr (f, refl, p)

fault_back : (f : DocumentFault) (at : Place) → document_fault (refusal_of f at) ≡ Some (f, at)
fault_back D.BadEncoding at = refl
fault_back D.BadByte at = refl
fault_back D.Expected at = refl
fault_back D.MismatchedEnd at = refl
fault_back D.TwiceAttribute at = refl
fault_back D.Entity at = refl
fault_back D.Prefix at = refl
fault_back D.TooDeep at = refl
fault_back D.Trailing at = refl
fault_back D.Unsupported at = refl

-- ## Metamodels

abbrev MetaTold : Option (MetaFault × Place) → List ℕ → MetaRefusal → Type 0
MetaTold first path refusal = (meta_end path refusal ≡ status.Memory) ⊎ ((f : MetaFault × Place) × (first ≡ Some f) × (meta_end path refusal ≡ meta_status path f))

meta_told : (first : Option (MetaFault × Place)) (path : List ℕ) (refusal : MetaRefusal) → ER.IsTold first refusal → MetaTold first path refusal
meta_told first path (E.NotEcore value at) told = inr (((EF.NotEcore, value), at), told, refl)
meta_told first path (E.SubPackage value at) told = inr (((EF.SubPackage, value), at), told, refl)
meta_told first path (E.Generic value at) told = inr (((EF.Generic, value), at), told, refl)
meta_told first path (E.NoName value at) told = inr (((EF.NoName, value), at), told, refl)
meta_told first path (E.TwiceName value at) told = inr (((EF.TwiceName, value), at), told, refl)
meta_told first path (E.OtherFile value at) told = inr (((EF.OtherFile, value), at), told, refl)
meta_told first path (E.NoType value at) told = inr (((EF.NoType, value), at), told, refl)
meta_told first path (E.SuperCycle value at) told = inr (((EF.SuperCycle, value), at), told, refl)
meta_told first path (E.BadOpposite value at) told = inr (((EF.BadOpposite, value), at), told, refl)
meta_told first path (E.BadNumber value at) told = inr (((EF.BadNumber, value), at), told, refl)
meta_told first path (E.Document refusal) told = absurd told
meta_told first path E.Memory told = inl refl

-- what a refused metamodel's file comes to
abbrev MetaEnds : List ℕ → List ℕ → Status → Type 0
MetaEnds path bytes s = (s ≡ status.Memory) ⊎ MetaOf path bytes (Err s)

meta_document : (path bytes : List ℕ) (r : DocRefusal) → length bytes ≤ file_limit → IsRefusal (read_bytes bytes) r → MetaEnds path bytes (meta_end path (E.Document r))
meta_document path bytes r short p = go (refuses (read_bytes bytes) r p)
  where
    go : Refuses (read_bytes bytes) r → MetaEnds path bytes (meta_end path (E.Document r))
    go (inl m) = inl (ap (λ x. meta_end path (E.Document x)) m)
    go (inr x) =
        let fault = ap document_fault x.2 ∙ fault_back x.0.0 x.0.1 in
        let end : meta_end path (E.Document r) ≡ status.Meta path (meta.Document x.0.0) [] x.0.1 = ap (λ o. option_map_or (λ (f : DocumentFault × Place). status.Meta path (meta.Document f.0) [] f.1) o status.Memory) fault in
        inr (subst (λ s. MetaOf path bytes (Err s)) (sym end) (NoMetaDocument short x.0.0 x.0.1 x.1))

meta_faulty : (path bytes : List ℕ) (refusal : MetaRefusal) → length bytes ≤ file_limit → (doc : Doc) → IsDocumentOf bytes doc.root → ER.IsTold (first_meta_fault (EO.outline doc)) refusal → MetaEnds path bytes (meta_end path refusal)
meta_faulty path bytes refusal short doc is told = go (meta_told (first_meta_fault (EO.outline doc)) path refusal told)
  where
    go : MetaTold (first_meta_fault (EO.outline doc)) path refusal → MetaEnds path bytes (meta_end path refusal)
    go (inl m) = inl m
    go (inr x) =
        let same : faultless_meta path (first_meta_fault (EO.outline doc)) (parts_of (EO.outline doc)) ≡ Err (meta_end path refusal) = ap (λ o. faultless_meta path o (parts_of (EO.outline doc))) x.1 ∙ ap Err (sym x.2) in
        inr (subst (MetaOf path bytes) same (IsMetaDocument short doc is))

pub meta_refused : (path bytes : List ℕ) (refusal : MetaRefusal) → length bytes ≤ file_limit → IsMetaRefused bytes refusal → MetaEnds path bytes (meta_end path refusal)
meta_refused path bytes (E.NotEcore value at) short p = meta_faulty path bytes (E.NotEcore value at) short p.0 p.1 p.2
meta_refused path bytes (E.SubPackage value at) short p = meta_faulty path bytes (E.SubPackage value at) short p.0 p.1 p.2
meta_refused path bytes (E.Generic value at) short p = meta_faulty path bytes (E.Generic value at) short p.0 p.1 p.2
meta_refused path bytes (E.NoName value at) short p = meta_faulty path bytes (E.NoName value at) short p.0 p.1 p.2
meta_refused path bytes (E.TwiceName value at) short p = meta_faulty path bytes (E.TwiceName value at) short p.0 p.1 p.2
meta_refused path bytes (E.OtherFile value at) short p = meta_faulty path bytes (E.OtherFile value at) short p.0 p.1 p.2
meta_refused path bytes (E.NoType value at) short p = meta_faulty path bytes (E.NoType value at) short p.0 p.1 p.2
meta_refused path bytes (E.SuperCycle value at) short p = meta_faulty path bytes (E.SuperCycle value at) short p.0 p.1 p.2
meta_refused path bytes (E.BadOpposite value at) short p = meta_faulty path bytes (E.BadOpposite value at) short p.0 p.1 p.2
meta_refused path bytes (E.BadNumber value at) short p = meta_faulty path bytes (E.BadNumber value at) short p.0 p.1 p.2
meta_refused path bytes (E.Document r) short p = meta_document path bytes r short p
meta_refused path bytes E.Memory short p = inl refl

pub meta_read : (path bytes : List ℕ) (parts : Parts) → length bytes ≤ file_limit → (doc : Doc) → IsDocumentOf bytes doc.root → ER.IsMetaAnswer doc (Ok parts) → MetaOf path bytes (Ok parts)
meta_read path bytes parts short doc is answer =
    let same : faultless_meta path (first_meta_fault (EO.outline doc)) (parts_of (EO.outline doc)) ≡ Ok parts = ap (λ o. faultless_meta path o (parts_of (EO.outline doc))) answer.0 ∙ ap Ok (sym answer.1) in
    subst (MetaOf path bytes) same (IsMetaDocument short doc is)

-- ## Models

abbrev ModelTold : Option (ModelFault × Place) → List ℕ → ModelRefusal → Type 0
ModelTold first path refusal = (model_end path refusal ≡ status.Memory) ⊎ ((f : ModelFault × Place) × (first ≡ Some f) × (model_end path refusal ≡ model_status path f))

model_told : (first : Option (ModelFault × Place)) (path : List ℕ) (refusal : ModelRefusal) → MR.IsTold first refusal → ModelTold first path refusal
model_told first path (M.NoClass value at) told = inr (((MF.NoClass, value), at), told, refl)
model_told first path (M.Abstract value at) told = inr (((MF.Abstract, value), at), told, refl)
model_told first path (M.NoFeature value at) told = inr (((MF.NoFeature, value), at), told, refl)
model_told first path (M.StrayText value at) told = inr (((MF.StrayText, value), at), told, refl)
model_told first path (M.BadValue value at) told = inr (((MF.BadValue, value), at), told, refl)
model_told first path (M.Href value at) told = inr (((MF.Href, value), at), told, refl)
model_told first path (M.BadType value at) told = inr (((MF.BadType, value), at), told, refl)
model_told first path (M.Full at) told = inr (((MF.Full, told.0), at), told.1, refl)
model_told first path (M.BadPath value at) told = inr (((MF.BadPath, value), at), told, refl)
model_told first path (M.NoId value at) told = inr (((MF.NoId, value), at), told, refl)
model_told first path (M.TwiceId value at) told = inr (((MF.TwiceId, value), at), told, refl)
model_told first path (M.TwoContainers value at) told = inr (((MF.TwoContainers, value), at), told, refl)
model_told first path (M.TwoEnds value at) told = inr (((MF.TwoEnds, value), at), told, refl)
model_told first path (M.Document refusal) told = absurd told
model_told first path M.Memory told = inl refl

module _ (parts : Parts) where
  abbrev ModelEnds : List ℕ → List ℕ → Status → Type 0
  ModelEnds path bytes s = (s ≡ status.Memory) ⊎ ModelOf parts path bytes (Err s)

  model_document : (path bytes : List ℕ) (r : DocRefusal) → length bytes ≤ file_limit → IsRefusal (read_bytes bytes) r → ModelEnds path bytes (model_end path (M.Document r))
  model_document path bytes r short p = go (refuses (read_bytes bytes) r p)
    where
      go : Refuses (read_bytes bytes) r → ModelEnds path bytes (model_end path (M.Document r))
      go (inl m) = inl (ap (λ x. model_end path (M.Document x)) m)
      go (inr x) =
          let fault = ap document_fault x.2 ∙ fault_back x.0.0 x.0.1 in
          let end : model_end path (M.Document r) ≡ status.Model path (model.Document x.0.0) [] x.0.1 = ap (λ o. option_map_or (λ (f : DocumentFault × Place). status.Model path (model.Document f.0) [] f.1) o status.Memory) fault in
          inr (subst (λ s. ModelOf parts path bytes (Err s)) (sym end) (NoModelDocument short x.0.0 x.0.1 x.1))

  abbrev first_of : Doc → Option (ModelFault × Place)
  first_of doc = MR.file_fault parts (MO.outline parts doc)

  abbrev contents_of : Doc → Contents
  contents_of doc = model_of parts (MO.outline parts doc)

  model_faulty : (path bytes : List ℕ) (refusal : ModelRefusal) → length bytes ≤ file_limit → (doc : Doc) → IsDocumentOf bytes doc.root → MR.IsTold (first_of doc) refusal → ModelEnds path bytes (model_end path refusal)
  model_faulty path bytes refusal short doc is told = go (model_told (first_of doc) path refusal told)
    where
      go : ModelTold (first_of doc) path refusal → ModelEnds path bytes (model_end path refusal)
      go (inl m) = inl m
      go (inr x) =
          let same : faultless_model path (first_of doc) (contents_of doc) ≡ Err (model_end path refusal) = ap (λ o. faultless_model path o (contents_of doc)) x.1 ∙ ap Err (sym x.2) in
          inr (subst (ModelOf parts path bytes) same (IsModelDocument short doc is))

  pub model_refused : (path bytes : List ℕ) (refusal : ModelRefusal) → length bytes ≤ file_limit → IsModelRefused parts bytes refusal → ModelEnds path bytes (model_end path refusal)
  model_refused path bytes (M.NoClass value at) short p = model_faulty path bytes (M.NoClass value at) short p.0 p.1 p.2
  model_refused path bytes (M.Abstract value at) short p = model_faulty path bytes (M.Abstract value at) short p.0 p.1 p.2
  model_refused path bytes (M.NoFeature value at) short p = model_faulty path bytes (M.NoFeature value at) short p.0 p.1 p.2
  model_refused path bytes (M.StrayText value at) short p = model_faulty path bytes (M.StrayText value at) short p.0 p.1 p.2
  model_refused path bytes (M.BadValue value at) short p = model_faulty path bytes (M.BadValue value at) short p.0 p.1 p.2
  model_refused path bytes (M.Href value at) short p = model_faulty path bytes (M.Href value at) short p.0 p.1 p.2
  model_refused path bytes (M.BadType value at) short p = model_faulty path bytes (M.BadType value at) short p.0 p.1 p.2
  model_refused path bytes (M.Full at) short p = model_faulty path bytes (M.Full at) short p.0 p.1 p.2
  model_refused path bytes (M.BadPath value at) short p = model_faulty path bytes (M.BadPath value at) short p.0 p.1 p.2
  model_refused path bytes (M.NoId value at) short p = model_faulty path bytes (M.NoId value at) short p.0 p.1 p.2
  model_refused path bytes (M.TwiceId value at) short p = model_faulty path bytes (M.TwiceId value at) short p.0 p.1 p.2
  model_refused path bytes (M.TwoContainers value at) short p = model_faulty path bytes (M.TwoContainers value at) short p.0 p.1 p.2
  model_refused path bytes (M.TwoEnds value at) short p = model_faulty path bytes (M.TwoEnds value at) short p.0 p.1 p.2
  model_refused path bytes (M.Document r) short p = model_document path bytes r short p
  model_refused path bytes M.Memory short p = inl refl

  pub model_read : (path bytes : List ℕ) (m : Contents) → length bytes ≤ file_limit → (doc : Doc) → IsDocumentOf bytes doc.root → MR.IsModelAnswer doc parts (Ok m) → ModelOf parts path bytes (Ok m)
  model_read path bytes m short doc is answer =
      let same : faultless_model path (first_of doc) (contents_of doc) ≡ Ok m = ap (λ o. faultless_model path o (contents_of doc)) answer.0 ∙ ap Ok (sym answer.1) in
      subst (ModelOf parts path bytes) same (IsModelDocument short doc is)
