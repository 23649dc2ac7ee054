-- What is read was written.
use Rattle.std.proofs.Common.{◌≡◌, ℕ, List, [], ◌∷◌, ◌++◌, refl, subst}
use Rattle.std.specs.Prelude.{Bool, true, false, if◌then◌else◌, nat_eq}
use Rattle.atl_base.specs.declared.place.Place.{Place}
use Rattle.doc_text.specs.Symbols.{Kind, Less, Greater, Slash, And, Semicolon, Quote, Apostrophe, Equals, Bang, Question, Hash, Colon, Dash, Blank, Letter, Bad, Symbol, mark, utf8, is_good, is_blank, is_name, is_decimal, is_ex, is_hexadecimal}
use Rattle.doc_text.specs.Raw.{called, same_name}
use Rattle.doc_text.specs.Faults.{Fault, MismatchedEnd}
use Rattle.doc_text.specs.Namespaces.{tag_fault}
use Rattle.doc_text.specs.Markup.{Run, No, More, spelt, Plain, plain_spelt, plain_bytes, QName, Unprefixed, Prefixed, name_spelt, name_of, one_more, counted, Reference, EntityRef, CharRef, HexCharRef, reference_spelt, reference_at, target_of, Values, Empty, Char, Refer, Gap, gap_spelt, Alone, Further, Tag, start_of, Silent, Undashed, Dashed, ends_asking, IsUnclosed, is_reserved, Aside, Comment, PI, PISaying, aside_spelt, is_xml}
use Rattle.doc_text.specs.Form.{Bare, Blanked, Aided, Element, Full, EmptyElem, element_spelt, Items, Nothing, Then, Sub, Text, Referred, Passed, tree_of, trees_of, brackets, Undeclared, Declared, Following, Helped}
use Rattle.doc_text.specs.Conditions.{passes, is_known, is_shallow, ElementFits, IsDocument}
use Rattle.doc_text.specs.State.{opened, ByEntity, Decimal, Hexed, Hexadecimal, State, Naming, Citation, Step, Goes, Stops, Breaks}
use Rattle.doc_text.specs.Steps.{back, ended, end_begins, opening_quote, attribute_goes, end_goes, target_goes, telling, tag_goes, named, begins_in, element_begins, known, cite, step, targeted}
use Rattle.doc_text.specs.Machine.{End, Read, Refused, after, finish, reason, run}
use Rattle.doc_text.proofs.Zipper.{Opens, Bottom, Opened, opens_value, scope, opens_spelt, ZAround, ZBefore, ZWithin, ZAfter, around_value, around_spelt, Part, part_spelt, part_start, Half, ZBearer, ZStart, ZAttribute, ZEnd, bearer_value, bearer_spelt, ZCiting, ZText, ZValue, citing_value, citing_spelt, ZCited, ZNameless, ZEntity, ZHashed, ZDecimal, ZHexed, ZHexadecimal, cited_value, Pointed, Zip, ZProlog, ZInside, ZEpilog, ZBegun, ZBanged, ZBangDash, ZRemarking, ZRemarkDash, ZRemarkEnd, ZAsked, ZTargeting, ZTargetEnd, ZTelling, ZTellingAsked, ZNaming, ZColoned, ZLocaling, ZSpaced, ZValued, ZShutting, ZEqualling, ZOpening, ZValuing, ZEnding, ZClosing, ZCitation, ZFirst, ZBeginning, ZDeclaring, ZWording, ZEquating, ZQuoting, ZNumbering, ZNumbered, ZEncoding, ZAnswer, ZAnswering, ZStated, ZDeclEnd}
use Rattle.doc_text.proofs.Before.{value, OpensFit, AroundFit, PartFits, BearerFits, CitingFits, Fits, before}
use Rattle.doc_text.proofs.Stands.{chooses, with_more, letter, gap, tag, Stands, StepStands, to, tests, weighs}
use Rattle.doc_text.proofs.SoundHead.{title_stands, declaring_stands, wording_stands, equating_stands, quoting_stands, numbering_stands, numbered_stands, encoding_stands, answer_stands, answering_stands, stated_stands}

module _ (strict : Bool) (all : List Symbol → List Symbol) where
  back_stands : (a : ZAround) (x : Aside) → AroundFit strict a → ((rest : List Symbol) → around_spelt a (aside_spelt x rest) ≡ all rest) → Stands strict all (back (around_value a))
  back_stands ZFirst x f t = to strict all (ZProlog (Helped Undeclared x)) tt t
  back_stands (ZBefore m) x f t = to strict all (ZProlog (Helped m x)) f t
  back_stands (ZWithin z u g is) x f t = to strict all (ZInside z u g (Then is (Passed x))) (f.0, f.1, (f.2, tt, tt)) t
  back_stands (ZAfter m e k) x f t = to strict all (ZEpilog m e (Aided k x)) f t

  ended_stands : (z : Opens) (e : Element) → OpensFit strict z → ElementFits strict (scope z) e → ((rest : List Symbol) → opens_spelt z (element_spelt e rest) ≡ all rest) → Stands strict all (ended (opens_value z) (tree_of e))
  ended_stands (Bottom m) e f h t = to strict all (ZEpilog m e Bare) (f, h) t
  ended_stands (Opened z u g is) e f h t = to strict all (ZInside z u g (Then is (Sub e))) (f.0, f.1, (f.2, h, tt)) t

  tag_stands : (z : Opens) (t : Part) (run : Run is_blank) (k : Kind) (p : Place) → PartFits strict z t → ((rest : List Symbol) → opens_spelt z (part_spelt t (spelt run (mark p k ∷ rest))) ≡ all rest) → StepStands strict all (tag_goes strict (opens_value z) (part_start t) k)
  tag_stands z t run (Blank c) p f h = to strict all (ZSpaced z t (gap run c p)) f h
  tag_stands z t run Slash p f h = to strict all (ZShutting z (tag t run) p) f h
  tag_stands z t run Greater p f h = weighs strict all strict (tag_fault (scope z) (part_start t)) _ (λ s. to strict all (ZInside z (tag t run) p Nothing) (f.0, record { shallow = f.1; attributes = f.2; sound = s }, tt) h)
  tag_stands z t run k p f h = tt

  attribute_stands : (z : Opens) (t : Part) (g : Gap) (n : QName) (run : Run is_blank) (k : Kind) (p : Place) → PartFits strict z t → ((rest : List Symbol) → opens_spelt z (part_spelt t (gap_spelt g (name_spelt n (spelt run (mark p k ∷ rest))))) ≡ all rest) → StepStands strict all (attribute_goes (opens_value z) (part_start t) (name_of n) k)
  attribute_stands z t g n run (Blank c) p f h = to strict all (ZEqualling z t g n (More run (mark p (Blank c)) refl)) f h
  attribute_stands z t g n run Equals p f h = to strict all (ZOpening z t g n run p No) f h
  attribute_stands z t g n run k p f h = tt

  end_stands : (z : Opens) (t : Tag) (g : Place) (is : Items) (p q : Place) (n : QName) (run : Run is_blank) (k : Kind) (r : Place) → OpensFit strict (Opened z t g is) → passes strict (same_name (name_of n) (name_of t.name)) ≡ true → ((rest : List Symbol) → opens_spelt (Opened z t g is) (mark p Less ∷ mark q Slash ∷ name_spelt n (spelt run (mark r k ∷ rest))) ≡ all rest) → StepStands strict all (end_goes (opened (start_of t) (trees_of is)) (opens_value z) k)
  end_stands z t g is p q n run (Blank c) r f m h = to strict all (ZClosing z t g is p q n (More run (mark r (Blank c)) refl)) (f, m) h
  end_stands z t g is p q n run Greater r f m h = ended_stands z (Full t g is (record { less = p; slash = q; name = n; blanks = run; greater = r })) f.0 (f.1, f.2, m) h
  end_stands z t g is p q n run k r f m h = tt

  named_stands : (b : ZBearer) (n : QName) (k : Kind) (p : Place) → BearerFits strict b → ((rest : List Symbol) → bearer_spelt b (name_spelt n (mark p k ∷ rest)) ≡ all rest) → StepStands strict all (named strict (bearer_value b) (name_of n) k)
  named_stands (ZStart z q) n k p f h = tag_stands z (record { less = q; name = n; attributes = Alone }) No k p (f.0, f.1, tt) h
  named_stands (ZAttribute z t g) n k p f h = attribute_stands z t g n No k p f h
  named_stands (ZEnd z t g is o q) n k p f h = chooses (StepStands strict all) (passes strict (same_name (name_of n) (name_of t.name))) _ _ (λ m. end_stands z t g is o q n No k p f m h) (λ m. tt)

  begin_stands : (z : Opens) (p : Place) (c : ℕ) (q : Place) → OpensFit strict z → ((rest : List Symbol) → opens_spelt z (mark p Less ∷ mark q (Letter c) ∷ rest) ≡ all rest) → StepStands strict all (begins_in strict (opens_value z) p (Letter c) q)
  begin_stands z p c q f h = chooses (StepStands strict all) (passes strict (is_shallow (scope z))) _ _ (λ s. to strict all (ZNaming (ZStart z p) (letter c q)) (f, s) h) (λ s. tt)

  element_stands : (a : ZAround) (p : Place) (c : ℕ) (q : Place) → AroundFit strict a → ((rest : List Symbol) → around_spelt a (mark p Less ∷ mark q (Letter c) ∷ rest) ≡ all rest) → StepStands strict all (element_begins strict (around_value a) p (Letter c) q)
  element_stands ZFirst p c q f h = begin_stands (Bottom Undeclared) p c q tt h
  element_stands (ZBefore m) p c q f h = begin_stands (Bottom m) p c q f h
  element_stands (ZWithin z t g is) p c q f h = begin_stands (Opened z t g is) p c q f h
  element_stands (ZAfter m e k) p c q f h = tt

  ending_stands : (a : ZAround) (p q : Place) → AroundFit strict a → ((rest : List Symbol) → around_spelt a (mark p Less ∷ mark q Slash ∷ rest) ≡ all rest) → StepStands strict all (end_begins (around_value a))
  ending_stands ZFirst p q f h = tt
  ending_stands (ZBefore m) p q f h = tt
  ending_stands (ZWithin z t g is) p q f h = to strict all (ZEnding z t g is p q) f h
  ending_stands (ZAfter m e k) p q f h = tt

  quote_stands : (z : Opens) (t : Part) (g : Gap) (n : QName) (b : Run is_blank) (e : Place) (c : Run is_blank) (k : Kind) (p : Place) → PartFits strict z t → ((rest : List Symbol) → before (ZOpening z t g n b e c) (mark p k ∷ rest) ≡ all rest) → StepStands strict all (opening_quote (opens_value z) (part_start t) (name_of n) k)
  quote_stands z t g n b e c Quote p f h = to strict all (ZValuing z t (record { gap = g; name = n; before = b; equals = e; after = c; double = true; opens = p }) Empty) (f, tt) h
  quote_stands z t g n b e c Apostrophe p f h = to strict all (ZValuing z t (record { gap = g; name = n; before = b; equals = e; after = c; double = false; opens = p }) Empty) (f, tt) h
  quote_stands z t g n b e c (Blank d) p f h = to strict all (ZOpening z t g n b e (More c (mark p (Blank d)) refl)) f h
  quote_stands z t g n b e c k p f h = tt

  abbrev half : Gap → QName → Run is_blank → Place → Run is_blank → Bool → Place → Half
  half g n b e c d o = record { gap = g; name = n; before = b; equals = e; after = c; double = d; opens = o }

  abbrev closed : Part → (h : Half) → Values h.double → Place → Part
  closed t h v p = record { less = t.less; name = t.name; attributes = Further t.attributes (record { gap = h.gap; name = h.name; before = h.before; equals = h.equals; after = h.after; double = h.double; opens = h.opens; value = v; closes = p }) }

  value_stands : (z : Opens) (t : Part) (g : Gap) (n : QName) (b : Run is_blank) (e : Place) (c : Run is_blank) (d : Bool) (o : Place) (v : Values d) (k : Kind) (p : Place) → Fits strict (ZValuing z t (half g n b e c d o) v) → ((rest : List Symbol) → before (ZValuing z t (half g n b e c d o) v) (mark p k ∷ rest) ≡ all rest) → StepStands strict all (step strict (value (ZValuing z t (half g n b e c d o) v)) k p)
  value_stands z t g n b e c d o v And p f h = to strict all (ZCitation (ZValue z t (half g n b e c d o) v) p ZNameless) f h
  value_stands z t g n b e c true o v Quote p f h = to strict all (ZValued z (closed t (half g n b e c true o) v p)) (f.0.0, f.0.1, (f.0.2, f.1)) h
  value_stands z t g n b e c false o v Quote p f h = to strict all (ZValuing z t (half g n b e c false o) (Char v (mark p Quote) refl)) f h
  value_stands z t g n b e c true o v Apostrophe p f h = to strict all (ZValuing z t (half g n b e c true o) (Char v (mark p Apostrophe) refl)) f h
  value_stands z t g n b e c false o v Apostrophe p f h = to strict all (ZValued z (closed t (half g n b e c false o) v p)) (f.0.0, f.0.1, (f.0.2, f.1)) h
  value_stands z t g n b e c d o v Less p f h = tt
  value_stands z t g n b e c d o v Bad p f h = tt
  value_stands z t g n b e c d o v k p f h = to strict all (ZValuing z t (half g n b e c d o) (Char v (mark p k) refl)) f h

  known_stands : (c : ZCiting) (r : Reference) → CitingFits strict c → ((rest : List Symbol) → citing_spelt c (reference_spelt r rest) ≡ all rest) → StepStands strict all (known strict (citing_value c) (reference_at r) (target_of r))
  known_stands (ZText z t g is) r f h = chooses (StepStands strict all) (passes strict (is_known (target_of r))) _ _ (λ m. to strict all (ZInside z t g (Then is (Referred r))) (f.0, f.1, (f.2, m, tt)) h) (λ m. tt)
  known_stands (ZValue z t a v) r f h = chooses (StepStands strict all) (passes strict (is_known (target_of r))) _ _ (λ m. to strict all (ZValuing z t a (Refer v r)) (f.0, (f.1, m)) h) (λ m. tt)

  cite_stands : (c : ZCiting) (p : Place) (x : ZCited) (k : Kind) (q : Place) → CitingFits strict c → ((rest : List Symbol) → before (ZCitation c p x) (mark q k ∷ rest) ≡ all rest) → StepStands strict all (cite strict (citing_value c) p (cited_value x) k)
  cite_stands c p ZNameless (Letter d) q f h = to strict all (ZCitation c p (ZEntity (letter d q))) f h
  cite_stands c p ZNameless Hash q f h = to strict all (ZCitation c p (ZHashed q)) f h
  cite_stands c p ZNameless k q f h = tt
  cite_stands c p (ZEntity n) Semicolon q f h = known_stands c (EntityRef p n q) f h
  cite_stands c p (ZEntity n) k q f h = tests strict all (is_name k) (Citation (citing_value c) p (ByEntity (plain_bytes n ++ utf8 k))) (λ m. to strict all (ZCitation c p (ZEntity (with_more n (mark q k) m))) f h)
  cite_stands c p (ZHashed o) k q f h = chooses (StepStands strict all) (is_decimal k) _ _ (λ m. to strict all (ZCitation c p (ZDecimal o (mark q k) m No)) f h) (λ m. tests strict all (is_ex k) (Citation (citing_value c) p Hexed) (λ i. to strict all (ZCitation c p (ZHexed o (mark q k) i)) f h))
  cite_stands c p (ZDecimal o s e run) Semicolon q f h = known_stands c (CharRef p o s e run q) f h
  cite_stands c p (ZDecimal o s e run) k q f h = tests strict all (is_decimal k) (Citation (citing_value c) p (Decimal (one_more 10 (counted 10 (one_more 10 0 s.kind) run) k))) (λ m. to strict all (ZCitation c p (ZDecimal o s e (More run (mark q k) m))) f h)
  cite_stands c p (ZHexed o x i) k q f h = tests strict all (is_hexadecimal k) (Citation (citing_value c) p (Hexadecimal (one_more 16 0 k))) (λ m. to strict all (ZCitation c p (ZHexadecimal o x i (mark q k) m No)) f h)
  cite_stands c p (ZHexadecimal o x i s e run) Semicolon q f h = known_stands c (HexCharRef p o x i s e run q) f h
  cite_stands c p (ZHexadecimal o x i s e run) k q f h = tests strict all (is_hexadecimal k) (Citation (citing_value c) p (Hexadecimal (one_more 16 (counted 16 (one_more 16 0 s.kind) run) k))) (λ m. to strict all (ZCitation c p (ZHexadecimal o x i s e (More run (mark q k) m))) f h)

  target_stands : (a : ZAround) (p q : Place) (n : Plain) (h : is_reserved (plain_bytes n) ≡ false) (k : Kind) (r : Place) → AroundFit strict a → ((rest : List Symbol) → around_spelt a (mark p Less ∷ mark q Question ∷ plain_spelt n (mark r k ∷ rest)) ≡ all rest) → StepStands strict all (target_goes (around_value a) k)
  target_stands a p q n h (Blank c) r f t = to strict all (ZTelling a (record { less = p; asks = q; target = n; free = h }) (mark r (Blank c)) refl No tt refl) f t
  target_stands a p q n h Question r f t = to strict all (ZTargetEnd a (record { less = p; asks = q; target = n; free = h }) r) f t
  target_stands a p q n h k r f t = tt

  name_part : (b : ZBearer) (n : Plain) (k : Kind) (p : Place) → BearerFits strict b → ((rest : List Symbol) → bearer_spelt b (plain_spelt n (mark p k ∷ rest)) ≡ all rest) → StepStands strict all (if is_name k then Goes (Naming (bearer_value b) n.first.at (plain_bytes n ++ utf8 k)) else named strict (bearer_value b) (called n.first.at [] (plain_bytes n)) k)
  name_part b n k p f h = chooses (StepStands strict all) (is_name k) (Goes (Naming (bearer_value b) n.first.at (plain_bytes n ++ utf8 k))) (named strict (bearer_value b) (called n.first.at [] (plain_bytes n)) k) (λ x. to strict all (ZNaming b (with_more n (mark p k) x)) f h) (λ x. named_stands b (Unprefixed n) k p f h)

  targeted_stands : (a : ZAround) (p q : Place) (n : Plain) (k : Kind) (r : Place) → AroundFit strict a → ((rest : List Symbol) → around_spelt a (mark p Less ∷ mark q Question ∷ plain_spelt n (mark r k ∷ rest)) ≡ all rest) → StepStands strict all (targeted (around_value a) (plain_bytes n) k)
  targeted_stands ZFirst p q n k r f t = chooses (StepStands strict all) (is_reserved (plain_bytes n)) _ _ (λ x. chooses (StepStands strict all) (is_xml (plain_bytes n)) _ _ (λ y. title_stands strict all (record { less = p; asks = q; target = n; is = y }) k r t) (λ y. tt)) (λ x. target_stands ZFirst p q n x k r f t)
  targeted_stands (ZBefore m) p q n k r f t = chooses (StepStands strict all) (is_reserved (plain_bytes n)) _ _ (λ x. tt) (λ x. target_stands (ZBefore m) p q n x k r f t)
  targeted_stands (ZWithin z u g is) p q n k r f t = chooses (StepStands strict all) (is_reserved (plain_bytes n)) _ _ (λ x. tt) (λ x. target_stands (ZWithin z u g is) p q n x k r f t)
  targeted_stands (ZAfter m e j) p q n k r f t = chooses (StepStands strict all) (is_reserved (plain_bytes n)) _ _ (λ x. tt) (λ x. target_stands (ZAfter m e j) p q n x k r f t)

  inside_stands : (z : Opens) (t : Tag) (g : Place) (is : Items) (k : Kind) (p : Place) → OpensFit strict (Opened z t g is) → ((rest : List Symbol) → opens_spelt (Opened z t g is) (mark p k ∷ rest) ≡ all rest) → StepStands strict all (step strict (value (ZInside z t g is)) k p)
  inside_stands z t g is Less p f h = to strict all (ZBegun (ZWithin z t g is) p) f h
  inside_stands z t g is And p f h = to strict all (ZCitation (ZText z t g is) p ZNameless) f h
  inside_stands z t g is Bad p f h = tt
  inside_stands z t g is Greater p f h = chooses (StepStands strict all) (nat_eq (brackets is) 2) _ _ (λ m. tt) (λ m. to strict all (ZInside z t g (Then is (Text (mark p Greater) refl))) (f.0, f.1, (f.2, tt, m)) h)
  inside_stands z t g is k p f h = to strict all (ZInside z t g (Then is (Text (mark p k) refl))) (f.0, f.1, (f.2, tt, refl)) h

  telling_stands : (a : ZAround) (i : Pointed) (s : Symbol) (b : is_blank s.kind ≡ true) (run : Run is_good) (u : IsUnclosed run) (e : ends_asking run ≡ false) (k : Kind) (q : Place) → AroundFit strict a → ((rest : List Symbol) → before (ZTelling a i s b run u e) (mark q k ∷ rest) ≡ all rest) → StepStands strict all (telling (around_value a) false k)
  telling_stands a i s b run u e Bad q f h = tt
  telling_stands a i s b run u e Question q f h = to strict all (ZTellingAsked a i s b run u q) f h
  telling_stands a i s b run u e Greater q f h = to strict all (ZTelling a i s b (More run (mark q Greater) refl) (u, e) refl) f h
  telling_stands a i s b run u e k q f h = to strict all (ZTelling a i s b (More run (mark q k) refl) (u, refl) refl) f h

  asked_stands : (a : ZAround) (i : Pointed) (s : Symbol) (b : is_blank s.kind ≡ true) (run : Run is_good) (u : IsUnclosed run) (o : Place) (k : Kind) (q : Place) → AroundFit strict a → ((rest : List Symbol) → before (ZTellingAsked a i s b run u o) (mark q k ∷ rest) ≡ all rest) → StepStands strict all (telling (around_value a) true k)
  asked_stands a i s b run u o Bad q f h = tt
  asked_stands a i s b run u o Question q f h = to strict all (ZTellingAsked a i s b (More run (mark o Question) refl) (u, refl) q) f h
  asked_stands a i s b run u o Greater q f h = back_stands a (PISaying i.less i.asks i.target i.free s b run u o q) f h
  asked_stands a i s b run u o k q f h = to strict all (ZTelling a i s b (More (More run (mark o Question) refl) (mark q k) refl) ((u, refl), refl) refl) f h

  pub step_stands : (z : Zip) (k : Kind) (p : Place) → Fits strict z → ((rest : List Symbol) → before z (mark p k ∷ rest) ≡ all rest) → StepStands strict all (step strict (value z) k p)
  step_stands ZBeginning Less p f h = to strict all (ZBegun ZFirst p) tt h
  step_stands ZBeginning (Blank c) p f h = to strict all (ZProlog (Following Undeclared (mark p (Blank c)) refl)) tt h
  step_stands ZBeginning k p f h = tt
  step_stands (ZProlog m) Less p f h = to strict all (ZBegun (ZBefore m) p) f h
  step_stands (ZProlog m) (Blank c) p f h = to strict all (ZProlog (Following m (mark p (Blank c)) refl)) f h
  step_stands (ZProlog m) k p f h = tt
  step_stands (ZEpilog m e j) Less p f h = to strict all (ZBegun (ZAfter m e j) p) f h
  step_stands (ZEpilog m e j) (Blank c) p f h = to strict all (ZEpilog m e (Blanked j (mark p (Blank c)) refl)) f h
  step_stands (ZEpilog m e j) k p f h = tt
  step_stands (ZInside z t g is) k p f h = inside_stands z t g is k p f h
  step_stands (ZBegun a o) Bang p f h = to strict all (ZBanged a o p) f h
  step_stands (ZBegun a o) Question p f h = to strict all (ZAsked a o p) f h
  step_stands (ZBegun a o) Slash p f h = ending_stands a o p f h
  step_stands (ZBegun a o) (Letter c) p f h = element_stands a o c p f h
  step_stands (ZBegun a o) k p f h = tt
  step_stands (ZBanged a o q) Dash p f h = to strict all (ZBangDash a o q p) f h
  step_stands (ZBanged a o q) k p f h = tt
  step_stands (ZBangDash a o q r) Dash p f h = to strict all (ZRemarking a o q r p Silent) f h
  step_stands (ZBangDash a o q r) k p f h = tt
  step_stands (ZRemarking a o q r s c) Dash p f h = to strict all (ZRemarkDash a o q r s c p) f h
  step_stands (ZRemarking a o q r s c) Bad p f h = tt
  step_stands (ZRemarking a o q r s c) k p f h = to strict all (ZRemarking a o q r s (Undashed c (mark p k) refl)) f h
  step_stands (ZRemarkDash a o q r s c t) Dash p f h = to strict all (ZRemarkEnd a o q r s c t p) f h
  step_stands (ZRemarkDash a o q r s c t) Bad p f h = tt
  step_stands (ZRemarkDash a o q r s c t) k p f h = to strict all (ZRemarking a o q r s (Dashed c t (mark p k) refl)) f h
  step_stands (ZRemarkEnd a o q r s c t u) Greater p f h = back_stands a (Comment o q r s c t u p) f h
  step_stands (ZRemarkEnd a o q r s c t u) k p f h = tt
  step_stands (ZAsked a o q) (Letter c) p f h = to strict all (ZTargeting a o q (letter c p)) f h
  step_stands (ZAsked a o q) k p f h = tt
  step_stands (ZTargeting a o q n) k p f h = chooses (StepStands strict all) (is_name k) _ _ (λ m. to strict all (ZTargeting a o q (with_more n (mark p k) m)) f h) (λ m. targeted_stands a o q n k p f h)
  step_stands (ZTargetEnd a i q) Greater p f h = back_stands a (PI i.less i.asks i.target i.free q p) f h
  step_stands (ZTargetEnd a i q) k p f h = tt
  step_stands (ZTelling a i s b run u e) k p f h = telling_stands a i s b run u e k p f h
  step_stands (ZTellingAsked a i s b run u q) k p f h = asked_stands a i s b run u q k p f h
  step_stands (ZNaming b n) Colon p f h = to strict all (ZColoned b n p) f h
  step_stands (ZNaming b n) k p f h = name_part b n k p f h
  step_stands (ZColoned b n c) (Letter x) p f h = to strict all (ZLocaling b n c (letter x p)) f h
  step_stands (ZColoned b n c) k p f h = tt
  step_stands (ZLocaling b n c m) k p f h = chooses (StepStands strict all) (is_name k) _ _ (λ x. to strict all (ZLocaling b n c (with_more m (mark p k) x)) f h) (λ x. named_stands b (Prefixed n c m) k p f h)
  step_stands (ZSpaced z t g) (Letter c) p f h = to strict all (ZNaming (ZAttribute z t g) (letter c p)) f h
  step_stands (ZSpaced z t g) k p f h = tag_stands z t (More g.blanks g.last g.ends) k p f h
  step_stands (ZValued z t) k p f h = tag_stands z t No k p f h
  step_stands (ZShutting z t s) Greater p f h = weighs strict all strict (tag_fault (scope z) (start_of t)) _ (λ x. ended_stands z (EmptyElem t s p) f.0 (record { shallow = f.1; attributes = f.2; sound = x }) h)
  step_stands (ZShutting z t s) k p f h = tt
  step_stands (ZEqualling z t g n b) k p f h = attribute_stands z t g n b k p f h
  step_stands (ZOpening z t g n b e c) k p f h = quote_stands z t g n b e c k p f h
  step_stands (ZValuing z t a v) k p f h = value_stands z t a.gap a.name a.before a.equals a.after a.double a.opens v k p f h
  step_stands (ZEnding z t g is o q) (Letter c) p f h = to strict all (ZNaming (ZEnd z t g is o q) (letter c p)) f h
  step_stands (ZEnding z t g is o q) k p f h = tt
  step_stands (ZClosing z t g is o q n b) k p f h = end_stands z t g is o q n b k p f.0 f.1 h
  step_stands (ZCitation c o x) k p f h = cite_stands c o x k p f h
  step_stands (ZDeclaring s g) k p f h = declaring_stands strict all s g k p f h
  step_stands (ZWording q g run left i) k p f h = wording_stands strict all q g run left i k p f h
  step_stands (ZEquating q g w b) k p f h = equating_stands strict all q g w b k p f h
  step_stands (ZQuoting q g w b e c) k p f h = quoting_stands strict all q g w b e c k p f h
  step_stands (ZNumbering t a run left i) k p f h = numbering_stands strict all t a run left i k p f h
  step_stands (ZNumbered t a w s i run) k p f h = numbered_stands strict all t a w s i run k p f h
  step_stands (ZEncoding t v a run) k p f h = encoding_stands strict all t v a run k p f h
  step_stands (ZAnswer t a) k p f h = answer_stands strict all t a k p f h
  step_stands (ZAnswering t a y run left i) k p f h = answering_stands strict all t a y run left i k p f h
  step_stands (ZStated c) k p f h = stated_stands strict all c k p f h
  step_stands (ZDeclEnd c b q) Greater p f h = to strict all (ZProlog (Declared (record { clauses = c; blanks = b; asks = q; greater = p }))) f h
  step_stands (ZDeclEnd c b q) k p f h = tt

-- one character more
pub steps_on : (strict : Bool) (all : List Symbol → List Symbol) (s : State) (t : Symbol) → Stands strict all s → StepStands strict (λ r. all (t ∷ r)) (step strict s t.kind t.at)
steps_on strict all s t st = subst (λ u. StepStands strict (λ r. all (t ∷ r)) (step strict u t.kind t.at)) st.is (step_stands strict (λ r. all (t ∷ r)) st.zip t.kind t.at st.fits (λ r. st.text (t ∷ r)))

module _ (strict : Bool) (end : Place) where
  abbrev pub ReadOf : List Symbol → End → Type 0
  ReadOf all (Read t) = IsDocument strict all t
  ReadOf all (Refused f) = Unit {0}

  mismatched : (t : Bool) (all : List Symbol) (f : Fault × Place) (p : Place) → ReadOf all (after (if t then Stops else Breaks MismatchedEnd p) f (λ s. Refused f))
  mismatched true all f p = tt
  mismatched false all f p = tt

  finish_bearer : (b : ZBearer) (n : Plain) (all : List Symbol) → ReadOf all (finish strict end (value (ZNaming b n)))
  finish_bearer (ZStart z p) n all = tt
  finish_bearer (ZAttribute z t g) n all = tt
  finish_bearer (ZEnd z t g is p q) n all = mismatched (passes strict (same_name (called n.first.at [] (plain_bytes n)) (name_of t.name))) all _ _

  finish_local : (b : ZBearer) (n : Plain) (c : Place) (m : Plain) (all : List Symbol) → ReadOf all (finish strict end (value (ZLocaling b n c m)))
  finish_local (ZStart z p) n c m all = tt
  finish_local (ZAttribute z t g) n c m all = tt
  finish_local (ZEnd z t g is p q) n c m all = mismatched (passes strict (same_name (called n.first.at (plain_bytes n) (plain_bytes m)) (name_of t.name))) all _ _

  finish_stands : (z : Zip) (all : List Symbol) → Fits strict z → before z [] ≡ all → ReadOf all (finish strict end (value z))
  finish_stands (ZEpilog m e k) all f h = (record { prolog = m; root = e; epilog = k }, f, h, refl)
  finish_stands (ZNaming b n) all f h = finish_bearer b n all
  finish_stands (ZLocaling b n c m) all f h = finish_local b n c m all
  finish_stands z all f h = tt

  pub sound : (ss : List Symbol) (s : State) (all : List Symbol → List Symbol) → Stands strict all s → ReadOf (all ss) (run strict end s ss)
  sound [] s all st = subst (λ u. ReadOf (all []) (finish strict end u)) st.is (finish_stands st.zip (all []) st.fits (st.text []))
  sound (t ∷ ss) s all st = on (λ v. sound ss v (λ r. all (t ∷ r))) (step strict s t.kind t.at) (steps_on strict all s t st)
    where
      on : ((v : State) → Stands strict (λ r. all (t ∷ r)) v → ReadOf (all (t ∷ ss)) (run strict end v ss)) → (u : Step) → StepStands strict (λ r. all (t ∷ r)) u → ReadOf (all (t ∷ ss)) (after u (reason end s (t ∷ ss)) (λ v. run strict end v ss))
      on again Stops h = tt
      on again (Breaks e p) h = tt
      on again (Goes v) h = again v h
