-- What is written is read, or breaks where a condition fails in it: tags, elements and documents.
use Rattle.std.proofs.Common.{◌≡◌, ℕ, List, [], ◌∷◌, refl, ap, ◌∙◌}
use Rattle.std.specs.Prelude.{Bool, true, false, ◌⊎◌, ◌&&◌, nat_eq, Option, Some, None, is_none}
use Rattle.atl_base.specs.declared.place.Place.{Place}
use Rattle.doc_text.specs.Symbols.{Kind, Less, Greater, Slash, And, Colon, Blank, Letter, Bad, Symbol, mark, utf8, is_blank, is_text, is_greater}
use Rattle.doc_text.specs.Raw.{Start, start, same_name, Node, Trees, Nil}
use Rattle.doc_text.specs.Faults.{Fault, TooDeep, MismatchedEnd}
use Rattle.doc_text.specs.Namespaces.{tag_fault}
use Rattle.doc_text.specs.Markup.{Run, No, More, spelt, plain_spelt, QName, Unprefixed, Prefixed, name_spelt, name_of, Attributes, pairs_of, Tag, tag_spelt, start_of, ETag, end_spelt}
use Rattle.doc_text.specs.Form.{Element, Full, EmptyElem, element_spelt, Items, Nothing, Then, items_spelt, Item, Sub, Text, Referred, Passed, item_spelt, tree_of, trees_of, grown, bracketed, last_brackets, brackets, IsApart, miscs_spelt, Document, document_spelt, Prolog, Undeclared, Declared, Following, Helped, prolog_spelt}
use Rattle.doc_text.specs.Conditions.{passes, is_shallow, is_sound, TagFits, AttributesFit, ElementFits, ItemsFit, ItemFits, AttributesFail, TagFails, ElementFails, ItemsFail, ItemFails, DocumentFits, DocumentFails, PrologFits, PrologFails}
use Rattle.doc_text.specs.State.{Open, opened, tags, grow, Around, Before, Within, OfStart, OfEnd, InText, State, InProlog, Inside, Begun, Naming, Spaced, Shutting, Ending, Closing, Step, Goes, Beginning, First}
use Rattle.doc_text.specs.Steps.{ended, weighed, tag_goes, begins_in, element_begins, step}
use Rattle.doc_text.specs.Machine.{Read, Refused, read}
use Rattle.doc_text.proofs.Runs.{false-true, true-false, letters, goes_if, goes_else, Leads, steps, breaks, gaps, optional, breaks_first, name_state, name_reads, name_goes, over, aside_reads, epilog_reads}
use Rattle.doc_text.proofs.Heads.{prolog_state, prolog_read}
use Rattle.doc_text.proofs.Outcomes.{failed, Outcome, Passes, Fails, both, turned, led, onward, decide, cites, tag_state, tag_step, attributes_read}

weigh_goes : (b : Bool) (o : Option (Fault × Place)) (x : Step) → passes b (is_none o) ≡ true → weighed b o x ≡ x
weigh_goes false o x h = refl
weigh_goes true None x h = refl
weigh_goes true (Some f) x h = absurd (false-true h)

some_of : (o : Option (Fault × Place)) → is_none o ≡ false → (f : Fault × Place) × (o ≡ Some f)
some_of None h = absurd (true-false h)
some_of (Some f) h = (f, refl)

module _ (strict : Bool) (end : Place) where
  weighs : (s : State) (c : Symbol) (o : Option (Fault × Place)) (u : State) → step strict s c.kind c.at ≡ weighed strict o (Goes u) → Outcome strict end (passes strict (is_none o) ≡ true) (λ e q. o ≡ Some (e, q)) s (λ r. c ∷ r) u
  weighs s c o u h = on (passes strict (is_none o)) refl
    where
      on : (b : Bool) → passes strict (is_none o) ≡ b → Outcome strict end (passes strict (is_none o) ≡ true) (λ e q. o ≡ Some (e, q)) s (λ r. c ∷ r) u
      on true k = Passes k (λ r. steps strict end s c r u (h ∙ weigh_goes strict o (Goes u) k))
      on false k =
          let f = failed strict (is_none o) k in
          let x = some_of o f.1 in
          Fails f.0 x.0.0 x.0.1 x.1 (λ r. breaks strict end s c r x.0.0 x.0.1 (h ∙ ap (λ b. weighed b o (Goes u)) f.0 ∙ ap (λ y. weighed true y (Goes u)) x.1))

  -- where blanks end
  abbrev after_blanks : State → State → Run is_blank → State
  after_blanks s u No = s
  after_blanks s u (More x c h) = u

  blanks_read : (s u : State) → ((c : ℕ) (p : Place) → step strict s (Blank c) p ≡ Goes u) → ((c : ℕ) (p : Place) → step strict u (Blank c) p ≡ Goes u) → (x : Run is_blank) (r : List Symbol) → Leads strict end s (spelt x r) (after_blanks s u x) r
  blanks_read s u f g No r = refl
  blanks_read s u f g (More x c h) r = gaps strict end s u f g x c h r

  begin_tag : (s : State) (a : Around) (fs : List Open) → ((p : Place) → step strict s Less p ≡ Goes (Begun a p)) → ((p : Place) (c : ℕ) (q : Place) → element_begins strict a p (Letter c) q ≡ begins_in strict fs p (Letter c) q) → (p : Place) (n : QName)
      → Outcome strict end (passes strict (is_shallow (tags fs)) ≡ true) (λ e q. (e ≡ TooDeep) × (q ≡ p) × (is_shallow (tags fs) ≡ false)) s (λ r. mark p Less ∷ name_spelt n r) (name_state strict end (OfStart fs p) n)
  begin_tag s a fs f g p (Unprefixed n) =
      led strict end (λ r. mark p Less ∷ r) (λ r. steps strict end s (mark p Less) r (Begun a p) (f p))
      (onward strict end (λ r. spelt n.others r) (decide strict end (is_shallow (tags fs)) (Begun a p) n.first (Naming (OfStart fs p) n.first.at (utf8 n.first.kind)) TooDeep p (letters (λ k. step strict (Begun a p) k n.first.at ≡ begins_in strict fs p k n.first.at) (λ c. g p c n.first.at) n.first.kind n.starts)) (name_goes strict end (OfStart fs p) (Unprefixed n)))
  begin_tag s a fs f g p (Prefixed n c m) =
      led strict end (λ r. mark p Less ∷ r) (λ r. steps strict end s (mark p Less) r (Begun a p) (f p))
      (onward strict end (λ r. spelt n.others (mark c Colon ∷ plain_spelt m r)) (decide strict end (is_shallow (tags fs)) (Begun a p) n.first (Naming (OfStart fs p) n.first.at (utf8 n.first.kind)) TooDeep p (letters (λ k. step strict (Begun a p) k n.first.at ≡ begins_in strict fs p k n.first.at) (λ x. g p x n.first.at) n.first.kind n.starts)) (name_goes strict end (OfStart fs p) (Prefixed n c m)))

  -- a start tag before what ends it
  abbrev tag_end : List Open → Tag → State
  tag_end fs t = after_blanks (tag_state strict end fs t.less t.name t.attributes) (Spaced fs (start_of t)) t.blanks

  tag_ends : (fs : List Open) (p : Place) (n : QName) (list : Attributes) (x : Run is_blank) (q : Place) → (step strict (after_blanks (tag_state strict end fs p n list) (Spaced fs (start p (name_of n) (pairs_of list))) x) Slash q ≡ tag_goes strict fs (start p (name_of n) (pairs_of list)) Slash) × (step strict (after_blanks (tag_state strict end fs p n list) (Spaced fs (start p (name_of n) (pairs_of list))) x) Greater q ≡ tag_goes strict fs (start p (name_of n) (pairs_of list)) Greater)
  tag_ends fs p n list No q = (tag_step strict end fs p n list Slash q tt, tag_step strict end fs p n list Greater q tt)
  tag_ends fs p n list (More x c h) q = (refl, refl)

  abbrev Half : List Open → Tag → State → Type 0
  Half fs t s = Outcome strict end ((passes strict (is_shallow (tags fs)) ≡ true) × AttributesFit strict t.attributes) (λ e q. ((e ≡ TooDeep) × (q ≡ t.less) × (is_shallow (tags fs) ≡ false)) ⊎ ((passes strict (is_shallow (tags fs)) ≡ true) × AttributesFail strict e q t.attributes)) s (λ r. tag_spelt t r) (tag_end fs t)

  half_tag : (s : State) (a : Around) (fs : List Open) → ((p : Place) → step strict s Less p ≡ Goes (Begun a p)) → ((p : Place) (c : ℕ) (q : Place) → element_begins strict a p (Letter c) q ≡ begins_in strict fs p (Letter c) q) → (t : Tag) → Half fs t s
  half_tag s a fs f g t =
      onward strict end (λ r. spelt t.blanks r)
      (both strict end (begin_tag s a fs f g t.less t.name) (attributes_read strict end fs t.less t.name t.attributes))
      (blanks_read (tag_state strict end fs t.less t.name t.attributes) (Spaced fs (start_of t)) (λ c p. tag_step strict end fs t.less t.name t.attributes (Blank c) p tt) (λ c p. refl) t.blanks)

  tag_fits : (outer : List Start) (t : Tag) → ((passes strict (is_shallow outer) ≡ true) × AttributesFit strict t.attributes) × (passes strict (is_sound outer (start_of t)) ≡ true) → TagFits strict outer t
  tag_fits outer t f = record { shallow = f.0.0; attributes = f.0.1; sound = f.1 }

  tag_opens : (fs : List Open) (t : Tag) (g : Place) (s : State) → Half fs t s → Outcome strict end (TagFits strict (tags fs) t) (λ e q. TagFails strict e q (tags fs) t) s (λ r. tag_spelt t (mark g Greater ∷ r)) (Inside 0 (opened (start_of t) Nil) fs)
  tag_opens fs t g s h = turned strict end (tag_fits (tags fs) t) (λ e q v. v) (both strict end h
      (weighs (tag_end fs t) (mark g Greater) (tag_fault (tags fs) (start_of t)) (Inside 0 (opened (start_of t) Nil) fs) (tag_ends fs t.less t.name t.attributes t.blanks g).1))

  tag_closes : (fs : List Open) (t : Tag) (o g : Place) (s : State) → Half fs t s → Outcome strict end (TagFits strict (tags fs) t) (λ e q. TagFails strict e q (tags fs) t) s (λ r. tag_spelt t (mark o Slash ∷ mark g Greater ∷ r)) (ended fs (Node (start_of t) Nil))
  tag_closes fs t o g s h = turned strict end (tag_fits (tags fs) t) (λ e q v. v) (both strict end
      (onward strict end (λ r. mark o Slash ∷ r) h (λ r. steps strict end (tag_end fs t) (mark o Slash) r (Shutting fs (start_of t)) (tag_ends fs t.less t.name t.attributes t.blanks o).0))
      (weighs (Shutting fs (start_of t)) (mark g Greater) (tag_fault (tags fs) (start_of t)) (ended fs (Node (start_of t) Nil)) refl))

  end_reads : (n : ℕ) (f : Open) (fs : List Open) (e : ETag) → Outcome strict end (passes strict (same_name (name_of e.name) f.tag.name) ≡ true) (λ x q. (x ≡ MismatchedEnd) × (q ≡ (name_of e.name).at) × (same_name (name_of e.name) f.tag.name ≡ false)) (Inside n f fs) (end_spelt e) (ended fs (Node f.tag f.children))
  end_reads n f fs e =
      led strict end (λ r. mark e.less Less ∷ mark e.slash Slash ∷ name_spelt e.name r) (λ r. name_reads strict end (Ending f fs) (OfEnd f fs) (λ c p. refl) e.name r)
      (on (passes strict (same_name (name_of e.name) f.tag.name)) refl)
    where
      on : (b : Bool) → passes strict (same_name (name_of e.name) f.tag.name) ≡ b → Outcome strict end (passes strict (same_name (name_of e.name) f.tag.name) ≡ true) (λ x q. (x ≡ MismatchedEnd) × (q ≡ (name_of e.name).at) × (same_name (name_of e.name) f.tag.name ≡ false)) (name_state strict end (OfEnd f fs) e.name) (λ r. spelt e.blanks (mark e.greater Greater ∷ r)) (ended fs (Node f.tag f.children))
      on true k = Passes k (λ r. optional strict end (name_state strict end (OfEnd f fs) e.name) (Closing f fs)
          (λ c p. over strict end (OfEnd f fs) e.name (Blank c) p tt ∙ goes_if (passes strict (same_name (name_of e.name) f.tag.name)) _ _ k) (λ c p. refl) e.blanks (mark e.greater Greater ∷ r) _
          (steps strict end (name_state strict end (OfEnd f fs) e.name) (mark e.greater Greater) r (ended fs (Node f.tag f.children)) (over strict end (OfEnd f fs) e.name Greater e.greater tt ∙ goes_if (passes strict (same_name (name_of e.name) f.tag.name)) _ _ k)) refl)
      on false k =
          let x = failed strict (same_name (name_of e.name) f.tag.name) k in
          Fails x.0 MismatchedEnd (name_of e.name).at (refl, refl, x.1) (λ r. breaks_first strict end (name_state strict end (OfEnd f fs) e.name) MismatchedEnd (name_of e.name).at
          (λ c p. over strict end (OfEnd f fs) e.name (Blank c) p tt ∙ goes_else (passes strict (same_name (name_of e.name) f.tag.name)) _ _ k) e.blanks (mark e.greater Greater ∷ r)
          (breaks strict end (name_state strict end (OfEnd f fs) e.name) (mark e.greater Greater) r MismatchedEnd (name_of e.name).at (over strict end (OfEnd f fs) e.name Greater e.greater tt ∙ goes_else (passes strict (same_name (name_of e.name) f.tag.name)) _ _ k)))

  text_step : (n : ℕ) (f : Open) (fs : List Open) (k : Kind) (p : Place) → is_text k ≡ true → is_greater k && nat_eq n 2 ≡ false → step strict (Inside n f fs) k p ≡ Goes (Inside (bracketed n k) (grow f (utf8 k)) fs)
  text_step n f fs Less p h a = absurd (false-true h)
  text_step n f fs And p h a = absurd (false-true h)
  text_step n f fs Bad p h a = absurd (false-true h)
  text_step n f fs Greater p h a = goes_else (nat_eq n 2) _ _ a
  text_step n f fs k p h a = refl

  mutual
    pub element_read : (e : Element) (s : State) (a : Around) (fs : List Open) → ((p : Place) → step strict s Less p ≡ Goes (Begun a p)) → ((p : Place) (c : ℕ) (q : Place) → element_begins strict a p (Letter c) q ≡ begins_in strict fs p (Letter c) q) → ElementFits false (tags fs) e → Outcome strict end (ElementFits strict (tags fs) e) (λ x q. ElementFails strict x q (tags fs) e) s (element_spelt e) (ended fs (tree_of e))
    element_read (Full t g is e) s a fs f i h = turned strict end (λ x. (x.0.0, x.0.1, x.1)) (λ x q v. v)
        (both strict end (both strict end (tag_opens fs t g s (half_tag s a fs f i t)) (items_read is (start_of t) fs h.1)) (end_reads (brackets is) (opened (start_of t) (trees_of is)) fs e))
    element_read (EmptyElem t o g) s a fs f i h = tag_closes fs t o g s (half_tag s a fs f i t)

    pub items_read : (is : Items) (t : Start) (fs : List Open) → ItemsFit false (t ∷ tags fs) is → Outcome strict end (ItemsFit strict (t ∷ tags fs) is) (λ x q. ItemsFail strict x q (t ∷ tags fs) is) (Inside 0 (opened t Nil) fs) (items_spelt is) (Inside (brackets is) (opened t (trees_of is)) fs)
    items_read Nothing t fs h = Passes tt (λ r. refl)
    items_read (Then is i) t fs h = turned strict end (λ x. (x.0, x.1, h.2)) (λ x q v. v) (both strict end (items_read is t fs h.0) (item_read i (brackets is) t (trees_of is) fs h.1 h.2))

    pub item_read : (i : Item) (n : ℕ) (t : Start) (ts : Trees) (fs : List Open) → ItemFits false (t ∷ tags fs) i → IsApart n i → Outcome strict end (ItemFits strict (t ∷ tags fs) i) (λ x q. ItemFails strict x q (t ∷ tags fs) i) (Inside n (opened t ts) fs) (item_spelt i) (Inside (last_brackets n i) (opened t (grown ts i)) fs)
    item_read (Sub e) n t ts fs h k = element_read e (Inside n (opened t ts) fs) (Within (opened t ts) fs) (opened t ts ∷ fs) (λ p. refl) (λ p c q. refl) h
    item_read (Text s i) n t ts fs h k = Passes tt (λ r. steps strict end (Inside n (opened t ts) fs) s r _ (text_step n (opened t ts) fs s.kind s.at i k))
    item_read (Referred r) n t ts fs h k = cites strict end r (InText (opened t ts) fs) (Inside n (opened t ts) fs) (λ p. refl)
    item_read (Passed a) n t ts fs h k = Passes tt (aside_reads strict end a (Within (opened t ts) fs) (Inside n (opened t ts) fs) (λ p. refl))

  -- a document of the form is read, or breaks where a condition fails in it
  pub data Result (d : Document) : Type 0 where
    Fit : DocumentFits strict d → read strict end (document_spelt d) ≡ Read (tree_of d.root) → Result d
    Unfit : strict ≡ true → (e : Fault) (p : Place) → DocumentFails strict e p d → read strict end (document_spelt d) ≡ Refused (e, p) → Result d

  root_read : (m : Prolog) (e : Element) → ElementFits false [] e → Outcome strict end (ElementFits strict [] e) (λ x q. ElementFails strict x q [] e) (prolog_state strict end m) (element_spelt e) (ended [] (tree_of e))
  root_read Undeclared e h = element_read e Beginning First [] (λ p. refl) (λ p c q. refl) h
  root_read (Declared d) e h = element_read e InProlog Before [] (λ p. refl) (λ p c q. refl) h
  root_read (Following m s i) e h = element_read e InProlog Before [] (λ p. refl) (λ p c q. refl) h
  root_read (Helped m a) e h = element_read e InProlog Before [] (λ p. refl) (λ p c q. refl) h

  pub result : (d : Document) → DocumentFits false d → Result d
  result d h = on (both strict end (prolog_read strict end d.prolog) (root_read d.prolog d.root h.1))
    where
      on : Outcome strict end (PrologFits strict d.prolog × ElementFits strict [] d.root) (λ x q. PrologFails x q d.prolog ⊎ (PrologFits strict d.prolog × ElementFails strict x q [] d.root)) Beginning (λ r. prolog_spelt d.prolog (element_spelt d.root r)) (ended [] (tree_of d.root)) → Result d
      on (Passes x k) = Fit x (k (miscs_spelt d.epilog []) ∙ epilog_reads strict end (tree_of d.root) d.epilog [])
      on (Fails t e p v k) = Unfit t e p v (k (miscs_spelt d.epilog []))
