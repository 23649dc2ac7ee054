-- A document is read, and one that fails a condition is not.
use Rattle.std.proofs.Common.{◌≡◌, List, refl, sym, ◌∙◌, subst}
use Rattle.std.specs.Prelude.{Bool, true, false}
use Rattle.atl_base.specs.declared.place.Place.{Place}
use Rattle.doc_text.specs.Symbols.{Symbol}
use Rattle.doc_text.specs.Raw.{Tree}
use Rattle.doc_text.specs.Faults.{Fault}
use Rattle.doc_text.specs.Form.{Document, document_spelt, tree_of}
use Rattle.doc_text.specs.Conditions.{IsDocument, DocumentFits, DocumentFails}
use Rattle.doc_text.specs.Machine.{read, End, Read, Refused}
use Rattle.doc_text.proofs.Elements.{Result, Fit, Unfit, result}
use Rattle.doc_text.proofs.Meets.{document_loosens, document_meets}

module _ (end : Place) where
  -- a document is read
  pub accepts : (strict : Bool) (ss : List Symbol) (t : Tree) → IsDocument strict ss t → read strict end ss ≡ Read t
  accepts strict ss t x = subst (λ l. read strict end l ≡ Read t) x.2 (subst (λ u. read strict end (document_spelt x.0) ≡ Read u) x.3 (on (result strict end x.0 (document_loosens strict x.0 x.1))))
    where
      on : Result strict end x.0 → read strict end (document_spelt x.0) ≡ Read (tree_of x.0.root)
      on (Fit f h) = h
      on (Unfit s e p v h) = absurd (document_meets e p x.0 (subst (λ b. DocumentFits b x.0) s x.1) (subst (λ b. DocumentFails b e p x.0) s v))

  abbrev pub Refuses : End → Type 0
  Refuses (Read t) = ⊥
  Refuses (Refused f) = Unit {0}

  abbrev pub Taken : End → Fault → Place → Type 0
  Taken (Refused f) e p = (f.0 ≡ e) × (f.1 ≡ p)
  Taken (Read t) e p = ⊥

  pub violated : (e : Fault) (p : Place) (d : Document) → DocumentFits false d → read true end (document_spelt d) ≡ Refused (e, p) → DocumentFails true e p d
  violated e p d f h = on (result true end d f)
    where
      on : Result true end d → DocumentFails true e p d
      on (Fit g k) = absurd (subst Refuses (sym h ∙ k) tt)
      on (Unfit s x q v k) = let same = subst (λ r. Taken r e p) (sym h ∙ k) (refl, refl) in subst (λ c. DocumentFails true c p d) same.0 (subst (λ c. DocumentFails true x c d) same.1 v)
