-- Elements that begin, by what they are.
use Rattle.std.proofs.Common.{◌≡◌, ℕ, List, [], ◌∷◌, ◌++◌, map, reverse, refl, sym, ap, ◌∙◌, Option, Some, None}
use Rattle.std.proofs.lemmas.List.{append-nil}
use Rattle.std.specs.Option.{option_map_or}
use Rattle.atl_base.specs.declared.numbers.ObjId.{ObjId}
use Rattle.doc_text.specs.declared.tree.Attribute.{Attribute}
use Rattle.doc_text.specs.declared.tree.Child.{Child}
use Rattle.doc_text.specs.declared.tree.Element.{Element}
use Rattle.doc_text.specs.declared.tree.Prefix.{Prefix}
use Rattle.doc_text.specs.Written.{contents, end_tag, opening, written_child, written_element}
use Rattle.doc_text.proofs.WrittenElements.{element_is}
use Rattle.ecore_meta.specs.declared.parts.Parts.{Parts}
use Rattle.model_store.specs.declared.parts.Object.{Object}
use Rattle.model_store.specs.Contents.{Contents, object_at}
use Rattle.model_store.specs.Order.{HasNoCycle}
use Rattle.xmi_write.specs.declared.named.Named.{Named}
use Rattle.xmi_write.specs.declared.parts.Todo.{Todo}
use Rattle.xmi_write.specs.Pending.{begun, pending, todo_child, todo_part}
use Rattle.xmi_write.specs.Xmi.{attributes_of, declared, element, element_named, local_name, nowhere, object_element, outermost, parts_of, space_of, version}
use Rattle.xmi_write.proofs.ObjectElements.{object_is}
use Rattle.xmi_write.proofs.Stacked.{parts_inside}

-- an element without what stands in it
abbrev pub head_of : Element → Element
head_of e = record e { children = []; place = nowhere }

-- what a head is made of
abbrev pub head_with : Parts → Named → List Prefix → List Attribute → Element
head_with meta named declared attributes = record { space = space_of meta named; name = local_name meta named; declared = declared; attributes = attributes; children = []; place = nowhere }

pub head_same : (head : Element) (a b : Parts) (named : Named) (d e : List Prefix) (x y : List Attribute) → head ≡ head_with a named d x → a ≡ b → d ≡ e → x ≡ y → head ≡ head_with b named e y
head_same head a b named d e x y h m p q =
    h ∙ ap (λ (meta : Parts). head_with meta named d x) m ∙ ap (λ (l : List Prefix). head_with b named l x) p ∙ ap (λ (l : List Attribute). head_with b named e l) q

module _ (m : Contents) (named : Named) (depth : ℕ) where
  abbrev ds : List Prefix
  ds = declared m.meta

  abbrev line : Element → List ℕ → List ℕ → List Child → List ℕ
  line head space name children = opening ds head.space head.name head.declared head.attributes depth ++ contents (end_tag ds space name) depth (map (written_child ds) children)

  pub begun_element : (head e : Element) (inside : List Todo) → head ≡ head_of e → space_of m.meta named ≡ e.space → local_name m.meta named ≡ e.name → map (todo_child m) inside ≡ e.children
      → begun m named head inside depth ≡ written_element ds e depth
  begun_element head e inside h s n c =
      ap (λ (x : Element). line x (space_of m.meta named) (local_name m.meta named) (map (todo_child m) inside)) h
      ∙ ap (λ (x : List ℕ). line (head_of e) x (local_name m.meta named) (map (todo_child m) inside)) s
      ∙ ap (λ (x : List ℕ). line (head_of e) e.space x (map (todo_child m) inside)) n
      ∙ ap (line (head_of e) e.space e.name) c
      ∙ sym (element_is ds e depth)

  pub element_at : HasNoCycle m → (o : ObjId) (x : Option Object) → object_at m.objects o ≡ x → element m named o ≡ option_map_or (object_element (element m) m named) x (element_named m.meta named [] [])
  element_at acyclic o x there = object_is m acyclic named o ∙ ap (λ y. option_map_or (object_element (element m) m named) y (element_named m.meta named [] [])) there

  module _ (acyclic : HasNoCycle m) (o : ObjId) (object : Object) (head : Element) (inside : List Todo) (there : object_at m.objects o ≡ Some object) (p : map todo_part inside ≡ map Some (parts_of m.meta object)) where
    abbrev itself : Element
    itself = object_element (element m) m named object

    children : map (todo_child m) inside ≡ itself.children
    children = (parts_inside m inside (parts_of m.meta object) p).1

    pub begun_object : head ≡ head_with m.meta named [] (attributes_of m named object) → begun m named head inside depth ≡ written_element ds (element m named o) depth
    begun_object h = begun_element head itself inside h refl refl children ∙ ap (λ e. written_element ds e depth) (sym (element_at acyclic o (Some object) there))

    pub begun_root : head ≡ head_with m.meta named (declared m.meta) (version ∷ attributes_of m named object) → begun m named head inside depth ≡ written_element ds (outermost m.meta (element m named o)) depth
    begun_root h = begun_element head (outermost m.meta itself) inside h refl refl children ∙ ap (λ e. written_element ds (outermost m.meta e) depth) (sym (element_at acyclic o (Some object) there))

  module _ (acyclic : HasNoCycle m) (o : ObjId) (head : Element) (inside : List Todo) (there : object_at m.objects o ≡ None) (none : inside ≡ []) where
    abbrev nothing : Element
    nothing = element_named m.meta named [] []

    pub begun_none : head ≡ head_with m.meta named [] [] → begun m named head inside depth ≡ written_element ds (element m named o) depth
    begun_none h = begun_element head nothing inside h refl refl (ap (map (todo_child m)) none) ∙ ap (λ e. written_element ds e depth) (sym (element_at acyclic o None there))

    pub begun_no_root : head ≡ head_with m.meta named (declared m.meta) (version ∷ []) → begun m named head inside depth ≡ written_element ds (outermost m.meta (element m named o)) depth
    begun_no_root h = begun_element head (outermost m.meta nothing) inside h refl refl (ap (map (todo_child m)) none) ∙ ap (λ e. written_element ds (outermost m.meta e) depth) (sym (element_at acyclic o None there))

-- on an empty stack nothing else is pending
pub alone : (m : Contents) (out new begun whole : List ℕ) (old : List Todo) → old ≡ [] → begun ≡ whole → new ≡ out ++ (begun ++ pending m (reverse old)) → new ≡ out ++ whole
alone m out new begun whole old none same is =
    is ∙ ap (λ (l : List Todo). out ++ (begun ++ pending m (reverse l))) none ∙ ap (λ (l : List ℕ). out ++ l) (append-nil begun ∙ same)
