-- Reading a document's bytes: the root with its names resolved, or the refusal.
use Rattle.atl_base.specs.declared.place.Place.{Place}
use Rattle.doc_text.specs.Laws.{Tells}
use Rattle.std.specs.Prelude.{ℕ, ◌≡◌, List, true, false, if◌then◌else◌, ◌⊎◌}
use Rattle.doc_text.specs.Raw.{Tree, Node, Words}
use Rattle.doc_text.specs.Faults.{BadEncoding, Fault}
use Rattle.doc_text.specs.Namespaces.{resolved}
use Rattle.doc_text.specs.Characters.{symbols, end_of, is_wide, place}
use Rattle.doc_text.specs.Conditions.{IsDocument}
use Rattle.doc_text.specs.Machine.{End, Refused, read, Read}
use Rattle.doc_text.specs.declared.tree.Element.{Element}

-- a tree's element
abbrev pub Resolves : Tree → Element → Type 0
Resolves (Node t ts) root = resolved t ts ≡ root
Resolves (Words text) root = ⊥

-- These bytes are a document with this root.
abbrev pub IsDocumentOf : List ℕ → Element → Type 0
IsDocumentOf bytes root = (is_wide bytes ≡ false) × ((t : Tree) × IsDocument true (symbols bytes) t × Resolves t root)

abbrev pub read_bytes : List ℕ → End
read_bytes bytes = if is_wide bytes then Refused (BadEncoding, place 1 1) else read true (end_of bytes) (symbols bytes)

abbrev pub Gives : End → Element → Type 0
Gives (Read t) root = Resolves t root
Gives (Refused f) root = ⊥

-- What is said of reading bytes: each document is read to its root, what is read is a document, and each refusal is
-- the right one.
pub record ExactOf (bytes : List ℕ) : Type 0 where
  pub reads : (root : Element) → IsDocumentOf bytes root → Gives (read_bytes bytes) root
  pub sound : (root : Element) → Gives (read_bytes bytes) root → IsDocumentOf bytes root
  pub answers : ((root : Element) × Gives (read_bytes bytes) root) ⊎ ((f : Fault × Place) × (read_bytes bytes ≡ Refused f))
  pub wide : is_wide bytes ≡ true → read_bytes bytes ≡ Refused (BadEncoding, place 1 1)
  pub tells : is_wide bytes ≡ false → Tells (end_of bytes) (symbols bytes) (read_bytes bytes)
