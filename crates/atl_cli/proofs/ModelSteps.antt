-- The steps of `model`: what a step that fails ends the call with, and what a file that was read comes to.
use Rattle.std.proofs.Common.{◌≡◌, ◌≢◌, ◌⊎◌, inl, inr, ℕ, ◌≤◌, List, [], Option, Some, None, Result, Ok, Err, IsErrAnd, IfSome, length, ap, sym, subst, ◌∙◌, refl, arith}
use Rattle.std.proofs.lemmas.Result.{err_from_is_err_and}
use Rattle.std.specs.Prelude.{◌∷◌, Contains}
use Rattle.atl_base.specs.declared.numbers.ObjId.{ObjId}
use Rattle.atl_outside.specs.Held.{Held}
use Rattle.atl_outside.specs.Rose.{Rose}
use Rattle.doc_text.specs.Answers.{IsRoot}
use Rattle.doc_text.specs.Machine.{End, Read, Refused}
use Rattle.doc_text.specs.Reading.{Gives, IsDocumentOf, read_bytes}
use Rattle.doc_text.specs.declared.tree.Doc.{Doc}
use Rattle.doc_text.proofs.ByteSizes.{document_within}
use Rattle.doc_text.proofs.Bytes.{bytes_exact}
use Rattle.ecore_meta.specs.declared.parts.Parts.{Parts}
use Rattle.model_store.specs.Contents.{Contents}
use Rattle.model_store.specs.Order.{contents, Encloses, itself, by_content, HasNoCycle}
use Rattle.xmi_read.specs.Answers.{IsMetaAnswer}
use Rattle.ecore_outline.specs.Outline.{outline}
use Rattle.xmi_read.specs.declared.refusal.MetaRefusal.{MetaRefusal}
use Rattle.xmi_read.specs.declared.refusal.MetaRefusal.TheVariants as E
use Rattle.ecore_outline.proofs.Sizes.{outline_within}
use Rattle.xmi_links.specs.Answers.{IsModelAnswer}
use Rattle.xmi_links.specs.declared.refusal.ModelRefusal.{ModelRefusal}
use Rattle.xmi_links.specs.declared.refusal.ModelRefusal.TheVariants as M
use Rattle.xmi_write.specs.Cycles.{IsChainTo, IsCycle}
use Rattle.atl_cli.specs.declared.status.Status.{Status}
use Rattle.atl_cli.specs.declared.status.Status.TheVariants as status
use Rattle.atl_cli.specs.Model.{AreRead, MetaOf, LongMeta, ModelOf, LongModel}
use Rattle.atl_cli.specs.Outcome.{file_limit}
use Rattle.atl_cli.specs.Reads.{Stops, Unread, Refused as RefusedBy, Forgotten, IsJudged, IsMetaFile, IsModelFile, OfBytes}
use Rattle.atl_cli.proofs.ModelRefusals.{meta_refused, meta_read, model_refused, model_read}

-- ## Ends

-- a step that failed ends the call as its fault says
pub from_err : {A : Type 0} (Q : Result A Status → Type 0) (P : Status → Type 0) (r : Result A Status) → IsErrAnd r P → ((s : Status) → P s → Q (Err s)) → Q r
from_err Q P r p f =
    let e = err_from_is_err_and r p in
    subst Q (sym e.1) (f e.0 e.2)

-- ## Documents

gives : (e : End) (doc : Doc) → IsRoot e doc → Gives e doc.root
gives (Read t) doc p = p
gives (Refused f) doc p = absurd p

pub is_document : (bytes : List ℕ) (doc : Doc) → IsRoot (read_bytes bytes) doc → IsDocumentOf bytes doc.root
is_document bytes doc p = (bytes_exact bytes).sound doc.root (gives (read_bytes bytes) doc p)

pub short_outline : (bytes : List ℕ) (doc : Doc) → length bytes ≤ file_limit → IsRoot (read_bytes bytes) doc → length (outline doc) ≤ 4294967294
short_outline bytes doc short p = omega (arith, short, outline_within doc, document_within bytes doc.root (is_document bytes doc p))

-- ## Metamodels

pub meta_file : (bytes : List ℕ) (doc : Doc) → IsDocumentOf bytes doc.root → (r : Result Parts MetaRefusal) → IsMetaAnswer doc r → IsMetaFile bytes r
meta_file bytes doc is (Ok parts) a = (doc, is, a)
meta_file bytes doc is (Err (E.NotEcore value at)) a = (doc, is, a)
meta_file bytes doc is (Err (E.SubPackage value at)) a = (doc, is, a)
meta_file bytes doc is (Err (E.Generic value at)) a = (doc, is, a)
meta_file bytes doc is (Err (E.NoName value at)) a = (doc, is, a)
meta_file bytes doc is (Err (E.TwiceName value at)) a = (doc, is, a)
meta_file bytes doc is (Err (E.OtherFile value at)) a = (doc, is, a)
meta_file bytes doc is (Err (E.NoType value at)) a = (doc, is, a)
meta_file bytes doc is (Err (E.SuperCycle value at)) a = (doc, is, a)
meta_file bytes doc is (Err (E.BadOpposite value at)) a = (doc, is, a)
meta_file bytes doc is (Err (E.BadNumber value at)) a = (doc, is, a)
meta_file bytes doc is (Err (E.Document refusal)) a = absurd a
meta_file bytes doc is (Err E.Memory) a = (doc, is, a)

pub longer_meta : (before : Option Held) (path : List ℕ) (low high : ℕ) (s : Status) → Stops OfBytes before path low high s → Stops (MetaOf path) before path low high s
longer_meta before path low high s (Unread rose) = Unread rose
longer_meta before path low high s (RefusedBy bytes read t x) = RefusedBy bytes read t (subst (λ u. MetaOf path bytes (Err u)) (sym x.1) (LongMeta x.0))
longer_meta before path low high s Forgotten = Forgotten

pub meta_stops : (before : Option Held) (path bytes : List ℕ) (low high : ℕ) (s : Status) → AreRead before path bytes → (s ≡ status.Memory) ⊎ MetaOf path bytes (Err s) → Stops (MetaOf path) before path low high s
meta_stops before path bytes low high s read (inl m) = subst (λ u. Stops (MetaOf path) before path low high u) (sym m) Forgotten
meta_stops before path bytes low high s read (inr x) = RefusedBy bytes read s x

-- ## Models

module _ (parts : Parts) where
  pub model_file : (bytes : List ℕ) (doc : Doc) → IsDocumentOf bytes doc.root → (r : Result Contents ModelRefusal) → IsModelAnswer doc parts r → IsModelFile parts bytes r
  model_file bytes doc is (Ok m) a = (doc, is, a)
  model_file bytes doc is (Err (M.NoClass value at)) a = (doc, is, a)
  model_file bytes doc is (Err (M.Abstract value at)) a = (doc, is, a)
  model_file bytes doc is (Err (M.NoFeature value at)) a = (doc, is, a)
  model_file bytes doc is (Err (M.StrayText value at)) a = (doc, is, a)
  model_file bytes doc is (Err (M.BadValue value at)) a = (doc, is, a)
  model_file bytes doc is (Err (M.Href value at)) a = (doc, is, a)
  model_file bytes doc is (Err (M.BadType value at)) a = (doc, is, a)
  model_file bytes doc is (Err (M.Full at)) a = (doc, is, a)
  model_file bytes doc is (Err (M.BadPath value at)) a = (doc, is, a)
  model_file bytes doc is (Err (M.NoId value at)) a = (doc, is, a)
  model_file bytes doc is (Err (M.TwiceId value at)) a = (doc, is, a)
  model_file bytes doc is (Err (M.TwoContainers value at)) a = (doc, is, a)
  model_file bytes doc is (Err (M.TwoEnds value at)) a = (doc, is, a)
  model_file bytes doc is (Err (M.Document refusal)) a = absurd a
  model_file bytes doc is (Err M.Memory) a = (doc, is, a)

  pub longer_model : (before : Option Held) (path : List ℕ) (low high : ℕ) (s : Status) → Stops OfBytes before path low high s → Stops (ModelOf parts path) before path low high s
  longer_model before path low high s (Unread rose) = Unread rose
  longer_model before path low high s (RefusedBy bytes read t x) = RefusedBy bytes read t (subst (λ u. ModelOf parts path bytes (Err u)) (sym x.1) (LongModel x.0))
  longer_model before path low high s Forgotten = Forgotten

  pub model_stops : (before : Option Held) (path bytes : List ℕ) (low high : ℕ) (s : Status) → AreRead before path bytes → (s ≡ status.Memory) ⊎ ModelOf parts path bytes (Err s) → Stops (ModelOf parts path) before path low high s
  model_stops before path bytes low high s read (inl m) = subst (λ u. Stops (ModelOf parts path) before path low high u) (sym m) Forgotten
  model_stops before path bytes low high s read (inr x) = RefusedBy bytes read s x

-- ## Cycles

module _ (m : Contents) where
  -- one of an object's contents encloses the last
  abbrev IsEnclosing : ObjId → ObjId → Type 0
  IsEnclosing last o = (q : ObjId) × Contains (contents m o) q × Encloses m q last

  encloses : (last o : ObjId) (os : List ObjId) → IsChainTo m last o os → IsEnclosing last o
  encloses last o [] h = (last, h, itself)
  encloses last o (p ∷ ps) h = let below = encloses last p ps h.1 in (p, h.0, by_content below.1 below.2)

  pub no_ring : (os : List ObjId) → HasNoCycle m → IsCycle m os → ⊥
  no_ring [] acyclic c = absurd c
  no_ring (o ∷ os) acyclic c = acyclic o (encloses o o os c.0.1)
