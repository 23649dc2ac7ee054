-- What keeps all conditions is of the form, and no condition fails in it.
use Rattle.std.proofs.Common.{List, ◌∷◌, refl, sym, ap, ◌∙◌, inl, inr, []}
use Rattle.std.specs.Prelude.{Bool, true, false, is_none}
use Rattle.atl_base.specs.declared.place.Place.{Place}
use Rattle.doc_text.specs.Raw.{Start}
use Rattle.doc_text.specs.Faults.{Fault}
use Rattle.doc_text.specs.Markup.{Reference, Values, Empty, Char, Refer, Attributes, Alone, Further, Tag, start_of}
use Rattle.doc_text.specs.Form.{Element, Full, EmptyElem, Items, Nothing, Then, Item, Sub, Text, Referred, Passed, Told, Versioned, Encoded, Clauses, Only, Standing, Prolog, Undeclared, Declared, Following, Helped, Document}
use Rattle.doc_text.specs.Conditions.{ReferenceFits, ValueFits, AttributesFit, TagFits, ElementFits, ItemsFit, ItemFits, ReferenceFails, ValueFails, AttributesFail, TagFails, ElementFails, ItemsFail, ItemFails, ToldFits, ClausesFit, PrologFits, DocumentFits, ToldFails, ClausesFail, PrologFails, DocumentFails}
use Rattle.doc_text.proofs.Runs.{true-false}

module _ (strict : Bool) where
  value_loosens : {double : Bool} (v : Values double) → ValueFits strict v → ValueFits false v
  value_loosens Empty h = tt
  value_loosens (Char v s i) h = value_loosens v h
  value_loosens (Refer v r) h = (value_loosens v h.0, refl)

  attributes_loosen : (list : Attributes) → AttributesFit strict list → AttributesFit false list
  attributes_loosen Alone h = tt
  attributes_loosen (Further list a) h = (attributes_loosen list h.0, value_loosens a.value h.1)

  tag_loosens : (outer : List Start) (t : Tag) → TagFits strict outer t → TagFits false outer t
  tag_loosens outer t h = record { shallow = refl; attributes = attributes_loosen t.attributes h.attributes; sound = refl }

  mutual
    pub element_loosens : (e : Element) (outer : List Start) → ElementFits strict outer e → ElementFits false outer e
    element_loosens (Full t g is e) outer h = (tag_loosens outer t h.0, items_loosen is (start_of t ∷ outer) h.1, refl)
    element_loosens (EmptyElem t s g) outer h = tag_loosens outer t h

    items_loosen : (is : Items) (outer : List Start) → ItemsFit strict outer is → ItemsFit false outer is
    items_loosen Nothing outer h = tt
    items_loosen (Then is i) outer h = (items_loosen is outer h.0, item_loosens i outer h.1, h.2)

    item_loosens : (i : Item) (outer : List Start) → ItemFits strict outer i → ItemFits false outer i
    item_loosens (Sub e) outer h = element_loosens e outer h
    item_loosens (Text s k) outer h = tt
    item_loosens (Referred r) outer h = refl
    item_loosens (Passed a) outer h = tt

  told_loosens : (t : Told) → ToldFits strict t → ToldFits false t
  told_loosens (Versioned t v) h = tt
  told_loosens (Encoded t v e) h = refl

  clauses_loosen : (c : Clauses) → ClausesFit strict c → ClausesFit false c
  clauses_loosen (Only t) h = told_loosens t h
  clauses_loosen (Standing t d) h = told_loosens t h

  prolog_loosens : (m : Prolog) → PrologFits strict m → PrologFits false m
  prolog_loosens Undeclared h = tt
  prolog_loosens (Declared d) h = clauses_loosen d.clauses h
  prolog_loosens (Following m s i) h = prolog_loosens m h
  prolog_loosens (Helped m a) h = prolog_loosens m h

  pub document_loosens : (d : Document) → DocumentFits strict d → DocumentFits false d
  document_loosens d h = (prolog_loosens d.prolog h.0, element_loosens d.root [] h.1)

reference_meets : (e : Fault) (p : Place) (r : Reference) → ReferenceFits true r → ReferenceFails e p r → ⊥
reference_meets e p r h v = true-false (sym h ∙ v.2)

value_meets : (e : Fault) (p : Place) {double : Bool} (v : Values double) → ValueFits true v → ValueFails true e p v → ⊥
value_meets e p Empty h x = absurd x
value_meets e p (Char v s i) h x = value_meets e p v h x
value_meets e p (Refer v r) h (inl x) = value_meets e p v h.0 x
value_meets e p (Refer v r) h (inr x) = reference_meets e p r h.1 x.1

attributes_meet : (e : Fault) (p : Place) (list : Attributes) → AttributesFit true list → AttributesFail true e p list → ⊥
attributes_meet e p Alone h x = absurd x
attributes_meet e p (Further list a) h (inl x) = attributes_meet e p list h.0 x
attributes_meet e p (Further list a) h (inr x) = value_meets e p a.value h.1 x.1

tag_meets : (e : Fault) (p : Place) (outer : List Start) (t : Tag) → TagFits true outer t → TagFails true e p outer t → ⊥
tag_meets e p outer t h (inl (inl x)) = true-false (sym h.shallow ∙ x.2)
tag_meets e p outer t h (inl (inr x)) = attributes_meet e p t.attributes h.attributes x.1
tag_meets e p outer t h (inr x) = true-false (sym h.sound ∙ ap is_none x.1)

mutual
  pub element_meets : (f : Element) (e : Fault) (p : Place) (outer : List Start) → ElementFits true outer f → ElementFails true e p outer f → ⊥
  element_meets (Full t g is f) e p outer h (inl (inl x)) = tag_meets e p outer t h.0 x
  element_meets (Full t g is f) e p outer h (inl (inr x)) = items_meet is e p (start_of t ∷ outer) h.1 x.1
  element_meets (Full t g is f) e p outer h (inr x) = true-false (sym h.2 ∙ x.1.2)
  element_meets (EmptyElem t s g) e p outer h x = tag_meets e p outer t h x

  items_meet : (is : Items) (e : Fault) (p : Place) (outer : List Start) → ItemsFit true outer is → ItemsFail true e p outer is → ⊥
  items_meet Nothing e p outer h x = absurd x
  items_meet (Then is i) e p outer h (inl x) = items_meet is e p outer h.0 x
  items_meet (Then is i) e p outer h (inr x) = item_meets i e p outer h.1 x.1

  item_meets : (i : Item) (e : Fault) (p : Place) (outer : List Start) → ItemFits true outer i → ItemFails true e p outer i → ⊥
  item_meets (Sub f) e p outer h x = element_meets f e p outer h x
  item_meets (Text s k) e p outer h x = absurd x
  item_meets (Referred r) e p outer h x = reference_meets e p r h x
  item_meets (Passed a) e p outer h x = absurd x

told_meets : (e : Fault) (p : Place) (t : Told) → ToldFits true t → ToldFails e p t → ⊥
told_meets e p (Versioned t v) h x = absurd x
told_meets e p (Encoded t v y) h x = true-false (sym h ∙ x.2)

clauses_meet : (e : Fault) (p : Place) (c : Clauses) → ClausesFit true c → ClausesFail e p c → ⊥
clauses_meet e p (Only t) h x = told_meets e p t h x
clauses_meet e p (Standing t d) h x = told_meets e p t h x

prolog_meets : (e : Fault) (p : Place) (m : Prolog) → PrologFits true m → PrologFails e p m → ⊥
prolog_meets e p Undeclared h x = absurd x
prolog_meets e p (Declared d) h x = clauses_meet e p d.clauses h x
prolog_meets e p (Following m s i) h x = prolog_meets e p m h x
prolog_meets e p (Helped m a) h x = prolog_meets e p m h x

pub document_meets : (e : Fault) (p : Place) (d : Document) → DocumentFits true d → DocumentFails true e p d → ⊥
document_meets e p d h (inl x) = prolog_meets e p d.prolog h.0 x
document_meets e p d h (inr x) = element_meets d.root e p [] h.1 x.1
