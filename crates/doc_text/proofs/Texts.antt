-- What is written stands before the rest: the rest may be cut anywhere.
use Rattle.std.proofs.Common.{◌≡◌, List, ◌∷◌, ◌++◌, refl, ap, ◌∙◌}
use Rattle.std.specs.Prelude.{Bool, ℕ}
use Rattle.doc_text.specs.Symbols.{Kind, Less, Greater, Slash, And, Semicolon, Equals, Question, Bang, Hash, Colon, Dash, Symbol, mark, quote}
use Rattle.doc_text.specs.Markup.{Run, No, More, spelt, Plain, plain_spelt, QName, Unprefixed, Prefixed, name_spelt, Reference, EntityRef, CharRef, HexCharRef, reference_spelt, Values, Empty, Char, Refer, values_spelt, Attribute, attribute_spelt, Attributes, Alone, Further, attributes_spelt, Tag, tag_spelt, ETag, end_spelt, Remarks, Silent, Undashed, Dashed, remarks_spelt, Aside, Comment, PI, PISaying, aside_spelt}
use Rattle.doc_text.specs.Form.{Miscs, Bare, Blanked, Aided, miscs_spelt, Element, Full, EmptyElem, element_spelt, Items, Nothing, Then, items_spelt, Item, Sub, Text, Referred, Passed, item_spelt, Heading, heading_spelt, Title, title_spelt, VersionInfo, version_spelt, EncodingDecl, encoding_spelt, SDDecl, standalone_spelt, Told, Versioned, Encoded, told_spelt, Clauses, Only, Standing, clauses_spelt, Prolog, Undeclared, Declared, Following, Helped, prolog_spelt}
use Rattle.doc_text.proofs.Zipper.{Opens, Bottom, Opened, opens_spelt, ZAround, ZBefore, ZWithin, ZAfter, around_spelt, ZFirst}

spelt_cut : {of : Kind → Bool} (x : Run of) (r q : List Symbol) → spelt x (r ++ q) ≡ spelt x r ++ q
spelt_cut No r q = refl
spelt_cut (More x s h) r q = spelt_cut x (s ∷ r) q

plain_cut : (n : Plain) (r q : List Symbol) → plain_spelt n (r ++ q) ≡ plain_spelt n r ++ q
plain_cut n r q = ap (λ u. n.first ∷ u) (spelt_cut n.others r q)

name_cut : (n : QName) (r q : List Symbol) → name_spelt n (r ++ q) ≡ name_spelt n r ++ q
name_cut (Unprefixed n) r q = plain_cut n r q
name_cut (Prefixed m p n) r q = ap (λ u. plain_spelt m (mark p Colon ∷ u)) (plain_cut n r q) ∙ plain_cut m (mark p Colon ∷ plain_spelt n r) q

reference_cut : (x : Reference) (r q : List Symbol) → reference_spelt x (r ++ q) ≡ reference_spelt x r ++ q
reference_cut (EntityRef p n o) r q = ap (λ u. mark p And ∷ u) (plain_cut n (mark o Semicolon ∷ r) q)
reference_cut (CharRef p h s e x o) r q = ap (λ u. mark p And ∷ mark h Hash ∷ s ∷ u) (spelt_cut x (mark o Semicolon ∷ r) q)
reference_cut (HexCharRef p h y i s e x o) r q = ap (λ u. mark p And ∷ mark h Hash ∷ y ∷ s ∷ u) (spelt_cut x (mark o Semicolon ∷ r) q)

values_cut : {double : Bool} (v : Values double) (r q : List Symbol) → values_spelt v (r ++ q) ≡ values_spelt v r ++ q
values_cut Empty r q = refl
values_cut (Char v s h) r q = values_cut v (s ∷ r) q
values_cut (Refer v x) r q = ap (values_spelt v) (reference_cut x r q) ∙ values_cut v (reference_spelt x r) q

attribute_cut : (a : Attribute) (r q : List Symbol) → attribute_spelt a (r ++ q) ≡ attribute_spelt a r ++ q
attribute_cut a r q =
    let v = mark a.closes (quote a.double) ∷ r in
    let o = mark a.opens (quote a.double) ∷ values_spelt a.value v in
    let e = mark a.equals Equals ∷ spelt a.after o in
    ap (λ u. spelt a.gap.blanks (a.gap.last ∷ name_spelt a.name (spelt a.before (mark a.equals Equals ∷ spelt a.after (mark a.opens (quote a.double) ∷ u))))) (values_cut a.value v q)
    ∙ ap (λ u. spelt a.gap.blanks (a.gap.last ∷ name_spelt a.name (spelt a.before (mark a.equals Equals ∷ u)))) (spelt_cut a.after o q)
    ∙ ap (λ u. spelt a.gap.blanks (a.gap.last ∷ name_spelt a.name u)) (spelt_cut a.before e q)
    ∙ ap (λ u. spelt a.gap.blanks (a.gap.last ∷ u)) (name_cut a.name (spelt a.before e) q)
    ∙ spelt_cut a.gap.blanks (a.gap.last ∷ name_spelt a.name (spelt a.before e)) q

attributes_cut : (list : Attributes) (r q : List Symbol) → attributes_spelt list (r ++ q) ≡ attributes_spelt list r ++ q
attributes_cut Alone r q = refl
attributes_cut (Further list a) r q = ap (attributes_spelt list) (attribute_cut a r q) ∙ attributes_cut list (attribute_spelt a r) q

tag_cut : (t : Tag) (r q : List Symbol) → tag_spelt t (r ++ q) ≡ tag_spelt t r ++ q
tag_cut t r q = ap (λ u. mark t.less Less ∷ u)
    (ap (λ u. name_spelt t.name (attributes_spelt t.attributes u)) (spelt_cut t.blanks r q)
    ∙ ap (name_spelt t.name) (attributes_cut t.attributes (spelt t.blanks r) q)
    ∙ name_cut t.name (attributes_spelt t.attributes (spelt t.blanks r)) q)

end_cut : (e : ETag) (r q : List Symbol) → end_spelt e (r ++ q) ≡ end_spelt e r ++ q
end_cut e r q = ap (λ u. mark e.less Less ∷ mark e.slash Slash ∷ u)
    (ap (name_spelt e.name) (spelt_cut e.blanks (mark e.greater Greater ∷ r) q)
    ∙ name_cut e.name (spelt e.blanks (mark e.greater Greater ∷ r)) q)

remarks_cut : (c : Remarks) (r q : List Symbol) → remarks_spelt c (r ++ q) ≡ remarks_spelt c r ++ q
remarks_cut Silent r q = refl
remarks_cut (Undashed c s h) r q = remarks_cut c (s ∷ r) q
remarks_cut (Dashed c p s h) r q = remarks_cut c (mark p Dash ∷ s ∷ r) q

aside_cut : (x : Aside) (r q : List Symbol) → aside_spelt x (r ++ q) ≡ aside_spelt x r ++ q
aside_cut (Comment a b c d x t u v) r q = ap (λ y. mark a Less ∷ mark b Bang ∷ mark c Dash ∷ mark d Dash ∷ y) (remarks_cut x (mark t Dash ∷ mark u Dash ∷ mark v Greater ∷ r) q)
aside_cut (PI a b n h t u) r q = ap (λ y. mark a Less ∷ mark b Question ∷ y) (plain_cut n (mark t Question ∷ mark u Greater ∷ r) q)
aside_cut (PISaying a b n h s e x g t u) r q =
    let end = mark t Question ∷ mark u Greater ∷ r in
    ap (λ y. mark a Less ∷ mark b Question ∷ y) (ap (λ y. plain_spelt n (s ∷ y)) (spelt_cut x end q) ∙ plain_cut n (s ∷ spelt x end) q)

pub miscs_cut : (m : Miscs) (r q : List Symbol) → miscs_spelt m (r ++ q) ≡ miscs_spelt m r ++ q
miscs_cut Bare r q = refl
miscs_cut (Blanked m s h) r q = miscs_cut m (s ∷ r) q
miscs_cut (Aided m x) r q = ap (miscs_spelt m) (aside_cut x r q) ∙ miscs_cut m (aside_spelt x r) q

heading_cut : {text : List ℕ} (h : Heading text) (r q : List Symbol) → heading_spelt h (r ++ q) ≡ heading_spelt h r ++ q
heading_cut h r q =
    let o = mark h.opens (quote h.double) ∷ r in
    let e = mark h.equals Equals ∷ spelt h.after o in
    ap (λ u. spelt h.gap.blanks (h.gap.last ∷ spelt h.word.run (spelt h.before (mark h.equals Equals ∷ u)))) (spelt_cut h.after o q)
    ∙ ap (λ u. spelt h.gap.blanks (h.gap.last ∷ spelt h.word.run u)) (spelt_cut h.before e q)
    ∙ ap (λ u. spelt h.gap.blanks (h.gap.last ∷ u)) (spelt_cut h.word.run (spelt h.before e) q)
    ∙ spelt_cut h.gap.blanks (h.gap.last ∷ spelt h.word.run (spelt h.before e)) q

title_cut : (t : Title) (r q : List Symbol) → title_spelt t (r ++ q) ≡ title_spelt t r ++ q
title_cut t r q = ap (λ u. mark t.less Less ∷ mark t.asks Question ∷ u) (plain_cut t.target r q)

version_cut : (v : VersionInfo) (r q : List Symbol) → version_spelt v (r ++ q) ≡ version_spelt v r ++ q
version_cut v r q =
    let c = mark v.closes (quote v.heading.double) ∷ r in
    ap (λ u. heading_spelt v.heading (spelt v.one.run (v.digit ∷ u))) (spelt_cut v.digits c q)
    ∙ ap (heading_spelt v.heading) (spelt_cut v.one.run (v.digit ∷ spelt v.digits c) q)
    ∙ heading_cut v.heading (spelt v.one.run (v.digit ∷ spelt v.digits c)) q

encoding_cut : (e : EncodingDecl) (r q : List Symbol) → encoding_spelt e (r ++ q) ≡ encoding_spelt e r ++ q
encoding_cut e r q =
    let c = mark e.closes (quote e.heading.double) ∷ r in
    ap (heading_spelt e.heading) (spelt_cut e.name c q) ∙ heading_cut e.heading (spelt e.name c) q

standalone_cut : (d : SDDecl) (r q : List Symbol) → standalone_spelt d (r ++ q) ≡ standalone_spelt d r ++ q
standalone_cut d r q =
    let c = mark d.closes (quote d.heading.double) ∷ r in
    ap (heading_spelt d.heading) (spelt_cut d.word.run c q) ∙ heading_cut d.heading (spelt d.word.run c) q

told_cut : (t : Told) (r q : List Symbol) → told_spelt t (r ++ q) ≡ told_spelt t r ++ q
told_cut (Versioned t v) r q = ap (title_spelt t) (version_cut v r q) ∙ title_cut t (version_spelt v r) q
told_cut (Encoded t v e) r q = ap (λ u. title_spelt t (version_spelt v u)) (encoding_cut e r q) ∙ ap (title_spelt t) (version_cut v (encoding_spelt e r) q) ∙ title_cut t (version_spelt v (encoding_spelt e r)) q

clauses_cut : (c : Clauses) (r q : List Symbol) → clauses_spelt c (r ++ q) ≡ clauses_spelt c r ++ q
clauses_cut (Only t) r q = told_cut t r q
clauses_cut (Standing t d) r q = ap (told_spelt t) (standalone_cut d r q) ∙ told_cut t (standalone_spelt d r) q

pub prolog_cut : (m : Prolog) (r q : List Symbol) → prolog_spelt m (r ++ q) ≡ prolog_spelt m r ++ q
prolog_cut Undeclared r q = refl
prolog_cut (Declared d) r q =
    let e = mark d.asks Question ∷ mark d.greater Greater ∷ r in
    ap (clauses_spelt d.clauses) (spelt_cut d.blanks e q) ∙ clauses_cut d.clauses (spelt d.blanks e) q
prolog_cut (Following m s h) r q = prolog_cut m (s ∷ r) q
prolog_cut (Helped m x) r q = ap (prolog_spelt m) (aside_cut x r q) ∙ prolog_cut m (aside_spelt x r) q

mutual
  pub element_cut : (e : Element) (r q : List Symbol) → element_spelt e (r ++ q) ≡ element_spelt e r ++ q
  element_cut (Full t g is e) r q =
      ap (λ u. tag_spelt t (mark g Greater ∷ items_spelt is u)) (end_cut e r q)
      ∙ ap (λ u. tag_spelt t (mark g Greater ∷ u)) (items_cut is (end_spelt e r) q)
      ∙ tag_cut t (mark g Greater ∷ items_spelt is (end_spelt e r)) q
  element_cut (EmptyElem t s g) r q = tag_cut t (mark s Slash ∷ mark g Greater ∷ r) q

  items_cut : (is : Items) (r q : List Symbol) → items_spelt is (r ++ q) ≡ items_spelt is r ++ q
  items_cut Nothing r q = refl
  items_cut (Then is i) r q = ap (items_spelt is) (item_cut i r q) ∙ items_cut is (item_spelt i r) q

  item_cut : (i : Item) (r q : List Symbol) → item_spelt i (r ++ q) ≡ item_spelt i r ++ q
  item_cut (Sub e) r q = element_cut e r q
  item_cut (Text s h) r q = refl
  item_cut (Referred x) r q = reference_cut x r q
  item_cut (Passed a) r q = aside_cut a r q

pub opens_cut : (z : Opens) (r q : List Symbol) → opens_spelt z (r ++ q) ≡ opens_spelt z r ++ q
opens_cut (Bottom m) r q = prolog_cut m r q
opens_cut (Opened z t g is) r q =
    ap (λ u. opens_spelt z (tag_spelt t (mark g Greater ∷ u))) (items_cut is r q)
    ∙ ap (opens_spelt z) (tag_cut t (mark g Greater ∷ items_spelt is r) q)
    ∙ opens_cut z (tag_spelt t (mark g Greater ∷ items_spelt is r)) q

pub around_cut : (a : ZAround) (r q : List Symbol) → around_spelt a (r ++ q) ≡ around_spelt a r ++ q
around_cut ZFirst r q = refl
around_cut (ZBefore m) r q = prolog_cut m r q
around_cut (ZWithin z t g is) r q = opens_cut (Opened z t g is) r q
around_cut (ZAfter m e k) r q =
    ap (λ u. prolog_spelt m (element_spelt e u)) (miscs_cut k r q)
    ∙ ap (prolog_spelt m) (element_cut e (miscs_spelt k r) q)
    ∙ prolog_cut m (element_spelt e (miscs_spelt k r)) q
