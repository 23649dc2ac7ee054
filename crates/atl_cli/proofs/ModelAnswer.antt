-- A call of `model` has one answer: the words name three files, and each file comes to one thing.
use Rattle.std.proofs.Common.{◌≡◌, ◌≤◌, ◌<◌, ◌⊎◌, inl, inr, ℕ, List, [], ◌∷◌, length, Result, Ok, Err, Some, ap, sym, subst, ◌∙◌, refl, arith}
use Rattle.atl_base.specs.declared.place.Place.{Place}
use Rattle.atl_outside.specs.Held.{Held, bytes_at}
use Rattle.doc_text.specs.declared.refusal.Fault.{Fault as DocumentFault}
use Rattle.doc_text.specs.Machine.{End, Read, Refused}
use Rattle.doc_text.specs.Raw.{Tree, Node, Words}
use Rattle.doc_text.specs.Reading.{Gives, IsDocumentOf, Resolves, read_bytes}
use Rattle.doc_text.specs.declared.tree.Doc.{Doc}
use Rattle.doc_text.specs.declared.tree.Element.{Element}
use Rattle.doc_text.proofs.Bytes.{bytes_exact}
use Rattle.ecore_meta.specs.declared.parts.Parts.{Parts}
use Rattle.model_store.specs.Contents.{Contents}
use Rattle.xmi_write.specs.Xmi.{xmi}
use Rattle.atl_cli.specs.declared.model.Paths.{Paths}
use Rattle.atl_cli.specs.declared.refused.MetaKind.TheVariants as meta
use Rattle.atl_cli.specs.declared.refused.ModelKind.TheVariants as model
use Rattle.atl_cli.specs.declared.status.Size.TheVariants.{File}
use Rattle.atl_cli.specs.declared.status.Status.{Status}
use Rattle.atl_cli.specs.declared.status.Status.TheVariants as status
use Rattle.atl_cli.specs.Model.{HasPaths, Judges, Comes, NoMetamodel, NoModel, IsModel, MetaOf, LongMeta, NoMetaDocument, IsMetaDocument, meta_of_document, ModelOf, LongModel, NoModelDocument, IsModelDocument, model_of_document}
use Rattle.atl_cli.specs.Outcome.{Outcome, Ends, Writes, file_limit}

-- ## A file is one document, or refused at one place

tree_root : (t : Tree) (a b : Element) → Resolves t a → Resolves t b → a ≡ b
tree_root (Node t ts) a b x y = sym x ∙ y
tree_root (Words text) a b x y = absurd x

end_root : (e : End) (a b : Element) → Gives e a → Gives e b → a ≡ b
end_root (Read t) a b x y = tree_root t a b x y
end_root (Refused f) a b x y = absurd x

one_root : (bytes : List ℕ) (a b : Element) → IsDocumentOf bytes a → IsDocumentOf bytes b → a ≡ b
one_root bytes a b x y = end_root (read_bytes bytes) a b ((bytes_exact bytes).reads a x) ((bytes_exact bytes).reads b y)

one_document : (bytes : List ℕ) (a b : Doc) → IsDocumentOf bytes a.root → IsDocumentOf bytes b.root → a ≡ b
one_document bytes a b x y = ap (λ r. let d : Doc = record { root = r } in d) (one_root bytes a.root b.root x y)

not_refused : (bytes : List ℕ) (a : Element) (f : DocumentFault × Place) → IsDocumentOf bytes a → read_bytes bytes ≡ Refused f → ⊥
not_refused bytes a f x e = subst (λ end. Gives end a) e ((bytes_exact bytes).reads a x)

one_fault : (bytes : List ℕ) (f g : DocumentFault × Place) → read_bytes bytes ≡ Refused f → read_bytes bytes ≡ Refused g → f ≡ g
one_fault bytes f g x y = let same : Refused f ≡ Refused g = sym x ∙ y in cc

-- ## What a file comes to

module _ (path bytes : List ℕ) where
  abbrev MetaShort : Result Parts Status → Type 0
  MetaShort r = ((f : DocumentFault × Place) × (read_bytes bytes ≡ Refused f) × (r ≡ Err (status.Meta path (meta.Document f.0) [] f.1)))
      ⊎ ((doc : Doc) × IsDocumentOf bytes doc.root × (r ≡ meta_of_document path doc))

  abbrev MetaStages : Result Parts Status → Type 0
  MetaStages r = ((file_limit < length bytes) × (r ≡ Err (status.TooLarge File))) ⊎ ((length bytes ≤ file_limit) × MetaShort r)

  meta_stages : (r : Result Parts Status) → MetaOf path bytes r → MetaStages r
  meta_stages r (LongMeta long) = inl (long, refl)
  meta_stages r (NoMetaDocument short f at e) = inr (short, inl ((f, at), e, refl))
  meta_stages r (IsMetaDocument short doc is) = inr (short, inr (doc, is, refl))

  meta_short : (a b : Result Parts Status) → MetaShort a → MetaShort b → a ≡ b
  meta_short a b (inl x) (inl y) = x.2 ∙ ap (λ (f : DocumentFault × Place). Err (status.Meta path (meta.Document f.0) [] f.1)) (one_fault bytes x.0 y.0 x.1 y.1) ∙ sym y.2
  meta_short a b (inl x) (inr y) = absurd (not_refused bytes y.0.root x.0 y.1 x.1)
  meta_short a b (inr x) (inl y) = absurd (not_refused bytes x.0.root y.0 x.1 y.1)
  meta_short a b (inr x) (inr y) = x.2 ∙ ap (λ doc. meta_of_document path doc) (one_document bytes x.0 y.0 x.1 y.1) ∙ sym y.2

  meta_one : (a b : Result Parts Status) → MetaStages a → MetaStages b → a ≡ b
  meta_one a b (inl x) (inl y) = x.1 ∙ sym y.1
  meta_one a b (inl x) (inr y) = absurd (omega (arith, x.0, y.0))
  meta_one a b (inr x) (inl y) = absurd (omega (arith, x.0, y.0))
  meta_one a b (inr x) (inr y) = meta_short a b x.1 y.1

module _ (parts : Parts) (path bytes : List ℕ) where
  abbrev ModelShort : Result Contents Status → Type 0
  ModelShort r = ((f : DocumentFault × Place) × (read_bytes bytes ≡ Refused f) × (r ≡ Err (status.Model path (model.Document f.0) [] f.1)))
      ⊎ ((doc : Doc) × IsDocumentOf bytes doc.root × (r ≡ model_of_document parts path doc))

  abbrev ModelStages : Result Contents Status → Type 0
  ModelStages r = ((file_limit < length bytes) × (r ≡ Err (status.TooLarge File))) ⊎ ((length bytes ≤ file_limit) × ModelShort r)

  model_stages : (r : Result Contents Status) → ModelOf parts path bytes r → ModelStages r
  model_stages r (LongModel long) = inl (long, refl)
  model_stages r (NoModelDocument short f at e) = inr (short, inl ((f, at), e, refl))
  model_stages r (IsModelDocument short doc is) = inr (short, inr (doc, is, refl))

  model_short : (a b : Result Contents Status) → ModelShort a → ModelShort b → a ≡ b
  model_short a b (inl x) (inl y) = x.2 ∙ ap (λ (f : DocumentFault × Place). Err (status.Model path (model.Document f.0) [] f.1)) (one_fault bytes x.0 y.0 x.1 y.1) ∙ sym y.2
  model_short a b (inl x) (inr y) = absurd (not_refused bytes y.0.root x.0 y.1 x.1)
  model_short a b (inr x) (inl y) = absurd (not_refused bytes x.0.root y.0 x.1 y.1)
  model_short a b (inr x) (inr y) = x.2 ∙ ap (λ doc. model_of_document parts path doc) (one_document bytes x.0 y.0 x.1 y.1) ∙ sym y.2

  model_one : (a b : Result Contents Status) → ModelStages a → ModelStages b → a ≡ b
  model_one a b (inl x) (inl y) = x.1 ∙ sym y.1
  model_one a b (inl x) (inr y) = absurd (omega (arith, x.0, y.0))
  model_one a b (inr x) (inl y) = absurd (omega (arith, x.0, y.0))
  model_one a b (inr x) (inr y) = model_short a b x.1 y.1

one_metamodel : (path bytes : List ℕ) (a b : Result Parts Status) → MetaOf path bytes a → MetaOf path bytes b → a ≡ b
one_metamodel path bytes a b x y = meta_one path bytes a b (meta_stages path bytes a x) (meta_stages path bytes b y)

one_model : (parts : Parts) (path bytes : List ℕ) (a b : Result Contents Status) → ModelOf parts path bytes a → ModelOf parts path bytes b → a ≡ b
one_model parts path bytes a b x y = model_one parts path bytes a b (model_stages parts path bytes a x) (model_stages parts path bytes b y)

-- ## What both come to

module _ (p : Paths) (first second : List ℕ) where
  abbrev OfMetamodel : Parts → Outcome → Type 0
  OfMetamodel parts o = ((s : Status) × ModelOf parts p.model second (Err s) × (o ≡ Ends s))
      ⊎ ((m : Contents) × ModelOf parts p.model second (Ok m) × (o ≡ Writes p.out (xmi m)))

  abbrev Stages : Outcome → Type 0
  Stages o = ((s : Status) × MetaOf p.meta first (Err s) × (o ≡ Ends s)) ⊎ ((parts : Parts) × MetaOf p.meta first (Ok parts) × OfMetamodel parts o)

  stages : (o : Outcome) → Comes p first second o → Stages o
  stages o (NoMetamodel s x) = inl (s, x, refl)
  stages o (NoModel parts s x y) = inr (parts, x, inl (s, y, refl))
  stages o (IsModel parts m x y) = inr (parts, x, inr (m, y, refl))

  of_metamodel : (parts : Parts) (a b : Outcome) → OfMetamodel parts a → OfMetamodel parts b → a ≡ b
  of_metamodel parts a b (inl x) (inl y) = let same : Err x.0 ≡ Err y.0 = one_model parts p.model second (Err x.0) (Err y.0) x.1 y.1 in cc
  of_metamodel parts a b (inl x) (inr y) = let same : Err x.0 ≡ Ok y.0 = one_model parts p.model second (Err x.0) (Ok y.0) x.1 y.1 in cc
  of_metamodel parts a b (inr x) (inl y) = let same : Ok x.0 ≡ Err y.0 = one_model parts p.model second (Ok x.0) (Err y.0) x.1 y.1 in cc
  of_metamodel parts a b (inr x) (inr y) = let same : Ok x.0 ≡ Ok y.0 = one_model parts p.model second (Ok x.0) (Ok y.0) x.1 y.1 in cc

  one_outcome : (a b : Outcome) → Stages a → Stages b → a ≡ b
  one_outcome a b (inl x) (inl y) = let same : Err x.0 ≡ Err y.0 = one_metamodel p.meta first (Err x.0) (Err y.0) x.1 y.1 in cc
  one_outcome a b (inl x) (inr y) = let same : Err x.0 ≡ Ok y.0 = one_metamodel p.meta first (Err x.0) (Ok y.0) x.1 y.1 in cc
  one_outcome a b (inr x) (inl y) = let same : Ok x.0 ≡ Err y.0 = one_metamodel p.meta first (Ok x.0) (Err y.0) x.1 y.1 in cc
  one_outcome a b (inr x) (inr y) =
      let same : Ok x.0 ≡ Ok y.0 = one_metamodel p.meta first (Ok x.0) (Ok y.0) x.1 y.1 in
      let parts : x.0 ≡ y.0 = cc in
      of_metamodel y.0 a b (subst (λ q. OfMetamodel q a) parts x.2) y.2

one_paths : (words : List (List ℕ)) (p q : Paths) → HasPaths words p → HasPaths words q → p ≡ q
one_paths words p q x y =
    let same : Some (p.meta ∷ p.model ∷ p.out ∷ []) ≡ Some (q.meta ∷ q.model ∷ q.out ∷ []) = sym x ∙ y in
    let metas : p.meta ≡ q.meta = cc in
    let models : p.model ≡ q.model = cc in
    let outs : p.out ≡ q.out = cc in
    let made : List ℕ → List ℕ → List ℕ → Paths = λ a b c. record { meta = a; model = b; out = c } in
    ap (λ a. made a p.model p.out) metas ∙ ap (λ b. made q.meta b p.out) models ∙ ap (λ c. made q.meta q.model c) outs

pub one_answer : (words : List (List ℕ)) (held : Held) (a b : Outcome) → Judges words held a → Judges words held b → a ≡ b
one_answer words held a b (inl x) (inl y) = x.1 ∙ sym y.1
one_answer words held a b (inl x) (inr y) = absurd (x.0 y.0 y.1)
one_answer words held a b (inr x) (inl y) = absurd (y.0 x.0 x.1)
one_answer words held a b (inr x) (inr y) =
    let same = one_paths words x.0 y.0 x.1 y.1 in
    let p = y.0 in
    let first = bytes_at held p.meta in
    let second = bytes_at held p.model in
    one_outcome p first second a b (stages p first second a (subst (λ q. Comes q (bytes_at held q.meta) (bytes_at held q.model) a) same x.2)) (stages p first second b y.2)
