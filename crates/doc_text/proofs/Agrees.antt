-- The form's step is the strict one, unless that breaks.
use Rattle.std.proofs.Common.{◌≡◌, ℕ, List, [], ◌∷◌, ◌++◌, refl}
use Rattle.std.specs.Prelude.{Bool, true, false, if◌then◌else◌, Option, Some, None}
use Rattle.atl_base.specs.declared.place.Place.{Place}
use Rattle.doc_text.specs.Symbols.{Kind, Greater, Slash, Semicolon, Colon, Blank, Letter, utf8, is_name, is_quote, is_good}
use Rattle.doc_text.specs.Raw.{Name, called, Start, start, same_name, Node, Nil}
use Rattle.doc_text.specs.Faults.{Fault, MismatchedEnd, TooDeep, BadEncoding}
use Rattle.doc_text.specs.Namespaces.{tag_fault}
use Rattle.doc_text.specs.Markup.{Target, ByName, ByNumber}
use Rattle.doc_text.specs.Form.{place_or}
use Rattle.doc_text.specs.Conditions.{is_known, unknown, is_shallow, is_encoding}
use Rattle.doc_text.specs.State.{Open, opened, tags, Around, Before, Within, After, Bearer, OfStart, OfAttribute, OfEnd, Citing, Cited, Nameless, ByEntity, Hashed, Decimal, Hexed, Hexadecimal, State, Inside, Begun, Naming, Localing, Spaced, Valued, Shutting, Citation, Step, Goes, Stops, Breaks, First, Encoding, Stated, ToldEncoding}
use Rattle.doc_text.specs.Steps.{ended, weighed, tag_goes, end_goes, attribute_goes, named, element_begins, begins_in, known, cite, step, encoded}

abbrev pub Agrees : Step → Step → Type 0
Agrees (Breaks e p) u = Unit {0}
Agrees Stops u = u ≡ Stops
Agrees (Goes v) u = u ≡ Goes v

same : (u : Step) → Agrees u u
same (Goes v) = refl
same Stops = refl
same (Breaks e p) = tt

agrees_if : (t : Bool) (u : Step) (e : Fault) (p : Place) → Agrees (if t then u else Breaks e p) u
agrees_if true u e p = same u
agrees_if false u e p = tt

agrees_else : (t : Bool) (x y z : Step) → Agrees y z → Agrees (if t then x else y) (if t then x else z)
agrees_else true x y z h = same x
agrees_else false x y z h = h

agrees_weighed : (o : Option (Fault × Place)) (u : Step) → Agrees (weighed true o u) u
agrees_weighed None u = same u
agrees_weighed (Some f) u = tt

agrees_tag : (fs : List Open) (t : Start) (k : Kind) → Agrees (tag_goes true fs t k) (tag_goes false fs t k)
agrees_tag fs t Greater = agrees_weighed (tag_fault (tags fs) t) (Goes (Inside 0 (opened t Nil) fs))
agrees_tag fs t (Blank c) = refl
agrees_tag fs t Slash = refl
agrees_tag fs t k = refl

agrees_named : (b : Bearer) (n : Name) (k : Kind) → Agrees (named true b n k) (named false b n k)
agrees_named (OfStart fs p) n k = agrees_tag fs (start p n []) k
agrees_named (OfAttribute fs t) n k = same (attribute_goes fs t n k)
agrees_named (OfEnd f fs) n k = agrees_if (same_name n f.tag.name) (end_goes f fs k) MismatchedEnd n.at

agrees_begins : (fs : List Open) (p : Place) (k : Kind) (q : Place) → Agrees (begins_in true fs p k q) (begins_in false fs p k q)
agrees_begins fs p k q = agrees_if (is_shallow (tags fs)) (Goes (Naming (OfStart fs p) q (utf8 k))) TooDeep p

agrees_element : (a : Around) (p : Place) (k : Kind) (q : Place) → Agrees (element_begins true a p k q) (element_begins false a p k q)
agrees_element First p k q = agrees_begins [] p k q
agrees_element Before p k q = agrees_begins [] p k q
agrees_element (Within f fs) p k q = agrees_begins (f ∷ fs) p k q
agrees_element (After t) p k q = refl

agrees_known : (c : Citing) (p : Place) (t : Target) → Agrees (known true c p t) (known false c p t)
agrees_known c p t = agrees_if (is_known t) _ (unknown t) p

agrees_cite : (c : Citing) (p : Place) (x : Cited) (k : Kind) → Agrees (cite true c p x k) (cite false c p x k)
agrees_cite c p Nameless k = same (cite true c p Nameless k)
agrees_cite c p (ByEntity n) Semicolon = agrees_known c p (ByName n)
agrees_cite c p (ByEntity n) k = same (cite true c p (ByEntity n) k)
agrees_cite c p Hashed k = same (cite true c p Hashed k)
agrees_cite c p (Decimal n) Semicolon = agrees_known c p (ByNumber n)
agrees_cite c p (Decimal n) k = same (cite true c p (Decimal n) k)
agrees_cite c p Hexed k = same (cite true c p Hexed k)
agrees_cite c p (Hexadecimal n) Semicolon = agrees_known c p (ByNumber n)
agrees_cite c p (Hexadecimal n) k = same (cite true c p (Hexadecimal n) k)

agrees_local : (b : Bearer) (p : Place) (n m : List ℕ) (k : Kind) (q : Place) → Agrees (step true (Localing b p n m) k q) (step false (Localing b p n m) k q)
agrees_local b p n m k q = agrees_else (is_name k) (Goes (Localing b p n (m ++ utf8 k))) (named true b (called p n m) k) (named false b (called p n m) k) (agrees_named b (called p n m) k)

agrees_encoded : (d : Bool) (o : Option Place) (v : List ℕ) (k : Kind) (p : Place) → Agrees (encoded true d o v k p) (encoded false d o v k p)
agrees_encoded d o v k p = on (is_quote d k)
  where
    on : (t : Bool) → Agrees (if t then (if is_encoding v then Goes (Stated ToldEncoding) else Breaks BadEncoding (place_or o p)) else (if is_good k then Goes (Encoding d (Some (place_or o p)) (v ++ utf8 k)) else Stops)) (if t then Goes (Stated ToldEncoding) else (if is_good k then Goes (Encoding d (Some (place_or o p)) (v ++ utf8 k)) else Stops))
    on true = agrees_if (is_encoding v) (Goes (Stated ToldEncoding)) BadEncoding (place_or o p)
    on false = same (if is_good k then Goes (Encoding d (Some (place_or o p)) (v ++ utf8 k)) else Stops)

pub agrees : (s : State) (k : Kind) (p : Place) → Agrees (step true s k p) (step false s k p)
agrees (Begun a o) (Letter c) p = agrees_element a o (Letter c) p
agrees (Begun a o) k p = same (step true (Begun a o) k p)
agrees (Naming b o n) Colon p = refl
agrees (Naming b o n) k p = agrees_else (is_name k) (Goes (Naming b o (n ++ utf8 k))) (named true b (called o [] n) k) (named false b (called o [] n) k) (agrees_named b (called o [] n) k)
agrees (Localing b o n m) k p = agrees_local b o n m k p
agrees (Spaced fs t) (Letter c) p = refl
agrees (Spaced fs t) k p = agrees_tag fs t k
agrees (Valued fs t) k p = agrees_tag fs t k
agrees (Shutting fs t) Greater p = agrees_weighed (tag_fault (tags fs) t) (Goes (ended fs (Node t Nil)))
agrees (Shutting fs t) k p = refl
agrees (Citation c o x) k p = agrees_cite c o x k
agrees (Encoding d o v) k p = agrees_encoded d o v k p
agrees s k p = same (step true s k p)
