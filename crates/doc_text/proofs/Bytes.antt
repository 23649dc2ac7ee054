-- Reading bytes is exact, since reading their characters is.
use Rattle.doc_text.specs.Markup.{start_of}
use Rattle.std.proofs.Common.{◌≡◌, ℕ, List, refl, sym, ◌∙◌, subst, inl, inr}
use Rattle.std.specs.Prelude.{Bool, true, false, if◌then◌else◌, ◌⊎◌}
use Rattle.atl_base.specs.declared.place.Place.{Place}
use Rattle.doc_text.specs.Symbols.{Symbol}
use Rattle.doc_text.specs.Raw.{Tree, Nil}
use Rattle.doc_text.specs.Faults.{Fault, BadEncoding}
use Rattle.doc_text.specs.Form.{Element as Written, Full, EmptyElem, tree_of, trees_of}
use Rattle.doc_text.specs.Conditions.{IsDocument}
use Rattle.doc_text.specs.Machine.{End, Read, Refused, read}
use Rattle.doc_text.specs.Laws.{Tells, Exact}
use Rattle.doc_text.specs.Namespaces.{resolved}
use Rattle.doc_text.specs.Characters.{symbols, end_of, is_wide, place}
use Rattle.doc_text.specs.Reading.{Resolves, IsDocumentOf, read_bytes, Gives, ExactOf}
use Rattle.doc_text.specs.declared.tree.Element.{Element}
use Rattle.doc_text.proofs.Runs.{true-false}
use Rattle.doc_text.proofs.Main.{exact}

chosen : (w : Bool) (x y : End) → w ≡ true → (if w then x else y) ≡ x
chosen true x y h = refl
chosen false x y h = absurd (true-false (sym h))

passed : (w : Bool) (x y : End) → w ≡ false → (if w then x else y) ≡ y
passed true x y h = absurd (true-false h)
passed false x y h = refl

-- a root is an element
rooted : (ss : List Symbol) (t : Tree) → IsDocument true ss t → (root : Element) × Resolves t root
rooted ss t x = on x.0.root x.3
  where
    on : (e : Written) → tree_of e ≡ t → (root : Element) × Resolves t root
    on (Full g p is f) h = subst (λ u. (root : Element) × Resolves u root) h (resolved (start_of g) (trees_of is), refl)
    on (EmptyElem g p q) h = subst (λ u. (root : Element) × Resolves u root) h (resolved (start_of g) Nil, refl)

module _ (bytes : List ℕ) where
  e : Exact (end_of bytes) (symbols bytes)
  e = exact (end_of bytes) (symbols bytes)

  abbrev answer : End
  answer = read true (end_of bytes) (symbols bytes)

  tells : is_wide bytes ≡ false → Tells (end_of bytes) (symbols bytes) (read_bytes bytes)
  tells h = subst (Tells (end_of bytes) (symbols bytes)) (sym (passed (is_wide bytes) _ _ h)) e.tells

  sound : (root : Element) → Gives (read_bytes bytes) root → IsDocumentOf bytes root
  sound root = on (is_wide bytes) refl
    where
      of : (r : End) → Tells (end_of bytes) (symbols bytes) r → is_wide bytes ≡ false → Gives r root → IsDocumentOf bytes root
      of (Read t) x h g = (h, (t, x, g))
      of (Refused f) x h g = absurd g

      on : (w : Bool) → is_wide bytes ≡ w → Gives (if w then Refused (BadEncoding, place 1 1) else answer) root → IsDocumentOf bytes root
      on true h g = absurd g
      on false h g = of answer e.tells h g

  reads : (root : Element) → IsDocumentOf bytes root → Gives (read_bytes bytes) root
  reads root x = subst (λ r. Gives r root) (sym (passed (is_wide bytes) _ _ x.0 ∙ e.reads x.1.0 x.1.1)) x.1.2

  answers : ((root : Element) × Gives (read_bytes bytes) root) ⊎ ((f : Fault × Place) × (read_bytes bytes ≡ Refused f))
  answers = on (is_wide bytes)
    where
      of : (r : End) → Tells (end_of bytes) (symbols bytes) r → ((root : Element) × Gives r root) ⊎ ((f : Fault × Place) × (r ≡ Refused f))
      of (Read t) x = inl (rooted (symbols bytes) t x)
      of (Refused f) x = inr (f, refl)

      on : (w : Bool) → ((root : Element) × Gives (if w then Refused (BadEncoding, place 1 1) else answer) root) ⊎ ((f : Fault × Place) × ((if w then Refused (BadEncoding, place 1 1) else answer) ≡ Refused f))
      on true = inr ((BadEncoding, place 1 1), refl)
      on false = of answer e.tells

  pub bytes_exact : ExactOf bytes
  bytes_exact = record { reads = reads; sound = sound; answers = answers; wide = chosen (is_wide bytes) _ _; tells = tells }
