-- Where a condition breaks at a character that the form does not take either, the name of an end tag was over: it would
-- break at > as well, which the form takes.
use Rattle.std.proofs.Common.{◌≡◌, ℕ, List, [], ◌∷◌, ◌++◌, refl}
use Rattle.std.specs.Prelude.{Bool, true, false, if◌then◌else◌, Option, Some, None}
use Rattle.atl_base.specs.declared.place.Place.{Place}
use Rattle.doc_text.specs.Symbols.{Kind, Greater, Semicolon, Colon, Letter, utf8, is_name, is_quote, is_good}
use Rattle.doc_text.specs.Raw.{Name, called, Start, start, same_name, Node, Nil}
use Rattle.doc_text.specs.Faults.{Fault, MismatchedEnd, TooDeep, BadEncoding}
use Rattle.doc_text.specs.Namespaces.{tag_fault}
use Rattle.doc_text.specs.Markup.{Target, ByName, ByNumber}
use Rattle.doc_text.specs.Form.{place_or}
use Rattle.doc_text.specs.Conditions.{is_known, unknown, is_shallow, is_encoding}
use Rattle.doc_text.specs.State.{Open, opened, tags, Around, Before, Within, After, Bearer, OfStart, OfAttribute, OfEnd, Citing, Cited, ByEntity, Decimal, Hexadecimal, State, Inside, Begun, Naming, Localing, Spaced, Valued, Shutting, Citation, Step, Goes, Stops, Breaks, First, Encoding, Stated, ToldEncoding}
use Rattle.doc_text.specs.Steps.{ended, weighed, tag_goes, end_goes, attribute_goes, named, element_begins, known, cite, step, encoded}

abbrev pub IsGoing : Step → Type 0
IsGoing (Goes v) = Unit {0}
IsGoing s = ⊥

-- the strict step, the form's, and both at >
abbrev pub Cuts : Step → Step → Step → Step → Type 0
Cuts (Breaks e p) Stops g h = (e ≡ MismatchedEnd) × (g ≡ Breaks e p) × IsGoing h
Cuts s t g h = Unit {0}

same_cuts : (u g h : Step) → Cuts u u g h
same_cuts (Goes v) g h = tt
same_cuts Stops g h = tt
same_cuts (Breaks e p) g h = tt

goes_cuts : (t : Bool) (v : State) (e : Fault) (p : Place) (g h : Step) → Cuts (if t then Goes v else Breaks e p) (Goes v) g h
goes_cuts true v e p g h = tt
goes_cuts false v e p g h = tt

weighed_cuts : (o : Option (Fault × Place)) (v : State) (g h : Step) → Cuts (weighed true o (Goes v)) (Goes v) g h
weighed_cuts None v g h = tt
weighed_cuts (Some f) v g h = tt

else_cuts : (t : Bool) (x y z g h : Step) → Cuts y z g h → Cuts (if t then x else y) (if t then x else z) g h
else_cuts true x y z g h c = same_cuts x g h
else_cuts false x y z g h c = c

matched_cuts : (t : Bool) (u w : Step) (v : State) (p : Place) → Cuts (if t then u else Breaks MismatchedEnd p) u (if t then w else Breaks MismatchedEnd p) (Goes v)
matched_cuts true u w v p = same_cuts u w (Goes v)
matched_cuts false (Goes x) w v p = tt
matched_cuts false Stops w v p = (refl, refl, tt)
matched_cuts false (Breaks e q) w v p = tt

tag_cuts : (fs : List Open) (t : Start) (k : Kind) (g h : Step) → Cuts (tag_goes true fs t k) (tag_goes false fs t k) g h
tag_cuts fs t Greater g h = weighed_cuts (tag_fault (tags fs) t) (Inside 0 (opened t Nil) fs) g h
tag_cuts fs t k g h = same_cuts (tag_goes true fs t k) g h

named_cuts : (b : Bearer) (n : Name) (k : Kind) → Cuts (named true b n k) (named false b n k) (named true b n Greater) (named false b n Greater)
named_cuts (OfStart fs p) n k = tag_cuts fs (start p n []) k (tag_goes true fs (start p n []) Greater) (tag_goes false fs (start p n []) Greater)
named_cuts (OfAttribute fs t) n k = same_cuts (attribute_goes fs t n k) (attribute_goes fs t n Greater) (attribute_goes fs t n Greater)
named_cuts (OfEnd f fs) n k = matched_cuts (same_name n f.tag.name) (end_goes f fs k) (end_goes f fs Greater) (ended fs (Node f.tag f.children)) n.at

element_cuts : (a : Around) (p : Place) (k : Kind) (q : Place) (g h : Step) → Cuts (element_begins true a p k q) (element_begins false a p k q) g h
element_cuts First p k q g h = goes_cuts (is_shallow []) (Naming (OfStart [] p) q (utf8 k)) TooDeep p g h
element_cuts Before p k q g h = goes_cuts (is_shallow []) (Naming (OfStart [] p) q (utf8 k)) TooDeep p g h
element_cuts (Within f fs) p k q g h = goes_cuts (is_shallow (tags (f ∷ fs))) (Naming (OfStart (f ∷ fs) p) q (utf8 k)) TooDeep p g h
element_cuts (After t) p k q g h = tt

known_cuts : (c : Citing) (p : Place) (t : Target) (g h : Step) → Cuts (known true c p t) (known false c p t) g h
known_cuts c p t g h = goes_cuts (is_known t) _ (unknown t) p g h

cite_cuts : (c : Citing) (p : Place) (x : Cited) (k : Kind) (g h : Step) → Cuts (cite true c p x k) (cite false c p x k) g h
cite_cuts c p (ByEntity n) Semicolon g h = known_cuts c p (ByName n) g h
cite_cuts c p (Decimal n) Semicolon g h = known_cuts c p (ByNumber n) g h
cite_cuts c p (Hexadecimal n) Semicolon g h = known_cuts c p (ByNumber n) g h
cite_cuts c p x k g h = same_cuts (cite true c p x k) g h

encoded_cuts : (d : Bool) (o : Option Place) (v : List ℕ) (k : Kind) (p : Place) (g h : Step) → Cuts (encoded true d o v k p) (encoded false d o v k p) g h
encoded_cuts d o v k p g h = on (is_quote d k)
  where
    on : (t : Bool) → Cuts (if t then (if is_encoding v then Goes (Stated ToldEncoding) else Breaks BadEncoding (place_or o p)) else (if is_good k then Goes (Encoding d (Some (place_or o p)) (v ++ utf8 k)) else Stops)) (if t then Goes (Stated ToldEncoding) else (if is_good k then Goes (Encoding d (Some (place_or o p)) (v ++ utf8 k)) else Stops)) g h
    on true = goes_cuts (is_encoding v) (Stated ToldEncoding) BadEncoding (place_or o p) g h
    on false = same_cuts (if is_good k then Goes (Encoding d (Some (place_or o p)) (v ++ utf8 k)) else Stops) g h

pub cuts : (s : State) (k : Kind) (p q : Place) → Cuts (step true s k p) (step false s k p) (step true s Greater q) (step false s Greater q)
cuts (Begun a o) (Letter c) p q = element_cuts a o (Letter c) p (step true (Begun a o) Greater q) (step false (Begun a o) Greater q)
cuts (Begun a o) k p q = same_cuts (step true (Begun a o) k p) (step true (Begun a o) Greater q) (step false (Begun a o) Greater q)
cuts (Naming b o n) Colon p q = tt
cuts (Naming b o n) k p q = else_cuts (is_name k) (Goes (Naming b o (n ++ utf8 k))) (named true b (called o [] n) k) (named false b (called o [] n) k) (named true b (called o [] n) Greater) (named false b (called o [] n) Greater) (named_cuts b (called o [] n) k)
cuts (Localing b o n m) k p q = else_cuts (is_name k) (Goes (Localing b o n (m ++ utf8 k))) (named true b (called o n m) k) (named false b (called o n m) k) (named true b (called o n m) Greater) (named false b (called o n m) Greater) (named_cuts b (called o n m) k)
cuts (Spaced fs t) (Letter c) p q = tt
cuts (Spaced fs t) k p q = tag_cuts fs t k (step true (Spaced fs t) Greater q) (step false (Spaced fs t) Greater q)
cuts (Valued fs t) k p q = tag_cuts fs t k (step true (Valued fs t) Greater q) (step false (Valued fs t) Greater q)
cuts (Shutting fs t) Greater p q = weighed_cuts (tag_fault (tags fs) t) (ended fs (Node t Nil)) (step true (Shutting fs t) Greater q) (step false (Shutting fs t) Greater q)
cuts (Shutting fs t) k p q = tt
cuts (Citation c o x) k p q = cite_cuts c o x k (step true (Citation c o x) Greater q) (step false (Citation c o x) Greater q)
cuts (Encoding d o v) k p q = encoded_cuts d o v k p (step true (Encoding d o v) Greater q) (step false (Encoding d o v) Greater q)
cuts s k p q = same_cuts (step true s k p) (step true s Greater q) (step false s Greater q)
