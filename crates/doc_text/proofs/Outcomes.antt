-- What is written is read, or breaks where a condition fails in it: references, values and start tags.
use Rattle.std.proofs.Common.{◌≡◌, ℕ, List, [], ◌∷◌, ◌++◌, refl, ◌∙◌, inl, inr}
use Rattle.std.specs.Prelude.{Bool, true, false, if◌then◌else◌, ◌⊎◌, encode_utf8}
use Rattle.atl_base.specs.declared.place.Place.{Place}
use Rattle.doc_text.specs.Symbols.{Kind, Less, Greater, Slash, And, Semicolon, Quote, Apostrophe, Equals, Hash, Blank, Letter, Joint, Bad, Symbol, mark, utf8, quote, is_blank, is_name, is_value, is_decimal, is_ex, is_hexadecimal}
use Rattle.doc_text.specs.Raw.{Name, Start, start}
use Rattle.doc_text.specs.Faults.{Fault}
use Rattle.doc_text.specs.Markup.{Run, No, More, spelt, gap_spelt, plain_spelt, plain_bytes, QName, name_spelt, name_of, one_more, counted, Reference, EntityRef, CharRef, HexCharRef, reference_spelt, ByName, target_of, character_of, Values, Empty, Char, Refer, values_spelt, value_of, value_bytes, Attribute, attribute_spelt, Attributes, Alone, Further, attributes_spelt, pairs_of}
use Rattle.doc_text.specs.Conditions.{passes, is_known, ReferenceFits, ValueFits, AttributesFit, ReferenceFails, ValueFails, AttributesFail}
use Rattle.doc_text.specs.State.{Open, OfStart, OfAttribute, Citing, InValue, Nameless, ByEntity, Hashed, Decimal, Hexed, Hexadecimal, State, Spaced, Valued, Equalling, Opening, Valuing, Citation, Goes, Breaks}
use Rattle.doc_text.specs.Steps.{cited, further, tag_goes, step}
use Rattle.doc_text.specs.Machine.{Refused, run}
use Rattle.doc_text.proofs.Runs.{false-true, true-false, letters, names, decimals, hexadecimals, goes_if, goes_else, Leads, steps, breaks, gaps, optional, name_state, gathers, name_reads, over}

pub failed : (strict t : Bool) → passes strict t ≡ false → (strict ≡ true) × (t ≡ false)
failed false t h = absurd (true-false h)
failed true t h = (refl, h)

module _ (strict : Bool) (end : Place) where
  -- a text is read into a state and fits, or breaks where a condition fails in it
  pub data Outcome (F : Type 0) (V : Fault → Place → Type 0) (s : State) (text : List Symbol → List Symbol) (u : State) : Type 0 where
    Passes : F → ((r : List Symbol) → run strict end s (text r) ≡ run strict end u r) → Outcome F V s text u
    Fails : strict ≡ true → (e : Fault) (p : Place) → V e p → ((r : List Symbol) → run strict end s (text r) ≡ Refused (e, p)) → Outcome F V s text u

  pub both : {F G : Type 0} {V W : Fault → Place → Type 0} {s m u : State} {text more : List Symbol → List Symbol} → Outcome F V s text m → Outcome G W m more u → Outcome (F × G) (λ e p. V e p ⊎ (F × W e p)) s (λ r. text (more r)) u
  both (Passes f h) (Passes g k) = Passes (f, g) (λ r. h _ ∙ k r)
  both (Passes f h) (Fails t e p w k) = Fails t e p (inr (f, w)) (λ r. h _ ∙ k r)
  both (Fails t e p v h) o = Fails t e p (inl v) (λ r. h _)

  pub turned : {F G : Type 0} {V W : Fault → Place → Type 0} {s u : State} {text : List Symbol → List Symbol} → (F → G) → ((e : Fault) (p : Place) → V e p → W e p) → Outcome F V s text u → Outcome G W s text u
  turned f g (Passes x h) = Passes (f x) h
  turned f g (Fails t e p v h) = Fails t e p (g e p v) h

  -- read in any case, before it
  pub led : {F : Type 0} {V : Fault → Place → Type 0} {s m u : State} {text : List Symbol → List Symbol} (front : List Symbol → List Symbol) → ((r : List Symbol) → Leads strict end s (front r) m r) → Outcome F V m text u → Outcome F V s (λ r. front (text r)) u
  led front l (Passes x h) = Passes x (λ r. l _ ∙ h r)
  led front l (Fails t e p v h) = Fails t e p v (λ r. l _ ∙ h r)

  -- and after it
  pub onward : {F : Type 0} {V : Fault → Place → Type 0} {s m u : State} {text : List Symbol → List Symbol} (back : List Symbol → List Symbol) → Outcome F V s text m → ((r : List Symbol) → Leads strict end m (back r) u r) → Outcome F V s (λ r. text (back r)) u
  onward back (Passes x h) l = Passes x (λ r. h _ ∙ l r)
  onward back (Fails t e p v h) l = Fails t e p v (λ r. h _)

  pub decide : (t : Bool) (s : State) (c : Symbol) (u : State) (e : Fault) (p : Place) → step strict s c.kind c.at ≡ (if passes strict t then Goes u else Breaks e p) → Outcome (passes strict t ≡ true) (λ f q. (f ≡ e) × (q ≡ p) × (t ≡ false)) s (λ r. c ∷ r) u
  decide t s c u e p h = on (passes strict t) refl
    where
      on : (b : Bool) → passes strict t ≡ b → Outcome (passes strict t ≡ true) (λ f q. (f ≡ e) × (q ≡ p) × (t ≡ false)) s (λ r. c ∷ r) u
      on true k = Passes k (λ r. steps strict end s c r u (h ∙ goes_if (passes strict t) _ _ k))
      on false k = let f = failed strict t k in Fails f.0 e p (refl, refl, f.1) (λ r. breaks strict end s c r e p (h ∙ goes_else (passes strict t) _ _ k))

  -- references
  citing : (c : Citing) (p : Place) (n : List ℕ) (x : Symbol) → is_name x.kind ≡ true → step strict (Citation c p (ByEntity n)) x.kind x.at ≡ Goes (Citation c p (ByEntity (n ++ utf8 x.kind)))
  citing c p n x h = names (λ k. step strict (Citation c p (ByEntity n)) k x.at ≡ Goes (Citation c p (ByEntity (n ++ utf8 k)))) (λ y. refl) (λ y. refl) refl x.kind h

  counts : (c : Citing) (p : Place) (x : Run is_decimal) (n : ℕ) (r : List Symbol) → Leads strict end (Citation c p (Decimal n)) (spelt x r) (Citation c p (Decimal (counted 10 n x))) r
  counts c p No n r = refl
  counts c p (More x d h) n r = counts c p x n (d ∷ r) ∙ steps strict end (Citation c p (Decimal (counted 10 n x))) d r _ (decimals (λ k. step strict (Citation c p (Decimal (counted 10 n x))) k d.at ≡ Goes (Citation c p (Decimal (one_more 10 (counted 10 n x) k)))) (λ y i. goes_if (is_decimal (Joint y)) _ _ i) d.kind h)

  hex_counts : (c : Citing) (p : Place) (x : Run is_hexadecimal) (n : ℕ) (r : List Symbol) → Leads strict end (Citation c p (Hexadecimal n)) (spelt x r) (Citation c p (Hexadecimal (counted 16 n x))) r
  hex_counts c p No n r = refl
  hex_counts c p (More x d h) n r = hex_counts c p x n (d ∷ r) ∙ steps strict end (Citation c p (Hexadecimal (counted 16 n x))) d r _ (hexadecimals (λ k. step strict (Citation c p (Hexadecimal (counted 16 n x))) k d.at ≡ Goes (Citation c p (Hexadecimal (one_more 16 (counted 16 n x) k)))) (λ y i. goes_if (is_hexadecimal (Joint y)) _ _ i) (λ y i. goes_if (is_hexadecimal (Letter y)) _ _ i) d.kind h)

  hexed : (c : Citing) (p : Place) (k : Kind) (q : Place) → is_ex k ≡ true → step strict (Citation c p Hashed) k q ≡ Goes (Citation c p Hexed)
  hexed c p (Letter x) q h = goes_if (is_ex (Letter x)) _ _ h
  hexed c p k q h = absurd (false-true h)

  pub cites : (r : Reference) (c : Citing) (s : State) → ((p : Place) → step strict s And p ≡ Goes (Citation c p Nameless)) → Outcome (ReferenceFits strict r) (λ e p. ReferenceFails e p r) s (reference_spelt r) (cited c (encode_utf8 (character_of (target_of r))))
  cites (EntityRef p n q) c s f =
      led (λ r. mark p And ∷ plain_spelt n r) (λ r. steps strict end s (mark p And) _ _ (f p)
      ∙ steps strict end (Citation c p Nameless) n.first (spelt n.others r) _ (letters (λ k. step strict (Citation c p Nameless) k n.first.at ≡ Goes (Citation c p (ByEntity (utf8 k)))) (λ x. refl) n.first.kind n.starts)
      ∙ gathers strict end (λ m. Citation c p (ByEntity m)) (citing c p) n.others (utf8 n.first.kind) r)
      (decide (is_known (ByName (plain_bytes n))) (Citation c p (ByEntity (plain_bytes n))) (mark q Semicolon) _ _ p refl)
  cites (CharRef p o d e x q) c s f =
      led (λ r. mark p And ∷ mark o Hash ∷ d ∷ spelt x r) (λ r. steps strict end s (mark p And) _ _ (f p)
      ∙ steps strict end (Citation c p Hashed) d (spelt x r) _ (decimals (λ k. step strict (Citation c p Hashed) k d.at ≡ Goes (Citation c p (Decimal (one_more 10 0 k)))) (λ y i. goes_if (is_decimal (Joint y)) _ _ i) d.kind e)
      ∙ counts c p x (one_more 10 0 d.kind) r)
      (decide (is_known (target_of (CharRef p o d e x q))) (Citation c p (Decimal (counted 10 (one_more 10 0 d.kind) x))) (mark q Semicolon) _ _ p refl)
  cites (HexCharRef p o y i d e x q) c s f =
      led (λ r. mark p And ∷ mark o Hash ∷ y ∷ d ∷ spelt x r) (λ r. steps strict end s (mark p And) _ _ (f p)
      ∙ steps strict end (Citation c p Hashed) y (d ∷ spelt x r) _ (hexed c p y.kind y.at i)
      ∙ steps strict end (Citation c p Hexed) d (spelt x r) _ (hexadecimals (λ k. step strict (Citation c p Hexed) k d.at ≡ Goes (Citation c p (Hexadecimal (one_more 16 0 k)))) (λ z j. goes_if (is_hexadecimal (Joint z)) _ _ j) (λ z j. goes_if (is_hexadecimal (Letter z)) _ _ j) d.kind e)
      ∙ hex_counts c p x (one_more 16 0 d.kind) r)
      (decide (is_known (target_of (HexCharRef p o y i d e x q))) (Citation c p (Hexadecimal (counted 16 (one_more 16 0 d.kind) x))) (mark q Semicolon) _ _ p refl)

  -- values
  valuing : (d : Bool) (fs : List Open) (t : Start) (n : Name) (v : List ℕ) (k : Kind) (p : Place) → is_value d k ≡ true → step strict (Valuing d fs t n v) k p ≡ Goes (Valuing d fs t n (v ++ value_bytes k))
  valuing d fs t n v And p h = absurd (false-true h)
  valuing d fs t n v Less p h = absurd (false-true h)
  valuing d fs t n v Bad p h = absurd (false-true h)
  valuing true fs t n v Quote p h = absurd (false-true h)
  valuing false fs t n v Quote p h = refl
  valuing true fs t n v Apostrophe p h = refl
  valuing false fs t n v Apostrophe p h = absurd (false-true h)
  valuing d fs t n v k p h = refl

  values_read : {d : Bool} (fs : List Open) (t : Start) (n : Name) (v : Values d) → Outcome (ValueFits strict v) (λ e p. ValueFails strict e p v) (Valuing d fs t n []) (values_spelt v) (Valuing d fs t n (value_of v))
  values_read {d} fs t n Empty = Passes tt (λ r. refl)
  values_read {d} fs t n (Char v s h) = onward (λ r. s ∷ r) (values_read fs t n v) (λ r. steps strict end (Valuing d fs t n (value_of v)) s r _ (valuing d fs t n (value_of v) s.kind s.at h))
  values_read {d} fs t n (Refer v x) = both (values_read fs t n v) (cites x (InValue d fs t n (value_of v)) (Valuing d fs t n (value_of v)) (λ p. refl))

  opens_value : (d : Bool) (fs : List Open) (t : Start) (n : Name) (p : Place) (r : List Symbol) → Leads strict end (Opening fs t n) (mark p (quote d) ∷ r) (Valuing d fs t n []) r
  opens_value true fs t n p r = refl
  opens_value false fs t n p r = refl

  shuts_value : (d : Bool) (fs : List Open) (t : Start) (n : Name) (v : List ℕ) (p : Place) (r : List Symbol) → Leads strict end (Valuing d fs t n v) (mark p (quote d) ∷ r) (Valued fs (further t n v)) r
  shuts_value true fs t n v p r = refl
  shuts_value false fs t n v p r = refl

  wants : (fs : List Open) (t : Start) (n : Name) (x : Run is_blank) (d : Bool) (p : Place) (r : List Symbol) → Leads strict end (Opening fs t n) (spelt x (mark p (quote d) ∷ r)) (Valuing d fs t n []) r
  wants fs t n x d p r = optional strict end (Opening fs t n) (Opening fs t n) (λ c p. refl) (λ c p. refl) x (mark p (quote d) ∷ r) _ (opens_value d fs t n p r) (opens_value d fs t n p r)

  equals : (fs : List Open) (t : Start) (n : QName) (b : Run is_blank) (e : Place) (r : List Symbol) → Leads strict end (name_state strict end (OfAttribute fs t) n) (spelt b (mark e Equals ∷ r)) (Opening fs t (name_of n)) r
  equals fs t n b e r = optional strict end (name_state strict end (OfAttribute fs t) n) (Equalling fs t (name_of n)) (λ c p. over strict end (OfAttribute fs t) n (Blank c) p tt) (λ c p. refl) b (mark e Equals ∷ r) _
      (steps strict end (name_state strict end (OfAttribute fs t) n) (mark e Equals) r (Opening fs t (name_of n)) (over strict end (OfAttribute fs t) n Equals e tt)) refl

  attribute_reads : (s : State) (fs : List Open) (t : Start) → ((c : ℕ) (p : Place) → step strict s (Blank c) p ≡ Goes (Spaced fs t)) → (a : Attribute) → Outcome (ValueFits strict a.value) (λ e p. ValueFails strict e p a.value) s (attribute_spelt a) (Valued fs (further t (name_of a.name) (value_of a.value)))
  attribute_reads s fs t f a =
      led (λ r. gap_spelt a.gap (name_spelt a.name (spelt a.before (mark a.equals Equals ∷ spelt a.after (mark a.opens (quote a.double) ∷ r))))) (λ r.
      gaps strict end s (Spaced fs t) f (λ c p. refl) a.gap.blanks a.gap.last a.gap.ends _
      ∙ name_reads strict end (Spaced fs t) (OfAttribute fs t) (λ c p. refl) a.name _
      ∙ equals fs t a.name a.before a.equals _
      ∙ wants fs t (name_of a.name) a.after a.double a.opens r)
      (onward (λ r. mark a.closes (quote a.double) ∷ r) (values_read fs t (name_of a.name) a.value) (λ r. shuts_value a.double fs t (name_of a.name) (value_of a.value) a.closes r))

  -- a start tag's name and attributes
  abbrev pub tag_state : List Open → Place → QName → Attributes → State
  tag_state fs p n Alone = name_state strict end (OfStart fs p) n
  tag_state fs p n (Further list a) = Valued fs (start p (name_of n) (pairs_of (Further list a)))

  abbrev pub Stands : Kind → Type 0
  Stands (Blank c) = Unit {0}
  Stands Slash = Unit {0}
  Stands Greater = Unit {0}
  Stands k = ⊥

  pub tag_step : (fs : List Open) (p : Place) (n : QName) (list : Attributes) (k : Kind) (q : Place) → Stands k → step strict (tag_state fs p n list) k q ≡ tag_goes strict fs (start p (name_of n) (pairs_of list)) k
  tag_step fs p n Alone (Blank c) q h = over strict end (OfStart fs p) n (Blank c) q tt
  tag_step fs p n Alone Slash q h = over strict end (OfStart fs p) n Slash q tt
  tag_step fs p n Alone Greater q h = over strict end (OfStart fs p) n Greater q tt
  tag_step fs p n (Further list a) (Blank c) q h = refl
  tag_step fs p n (Further list a) Slash q h = refl
  tag_step fs p n (Further list a) Greater q h = refl
  tag_step fs p n list k q h = absurd h

  pub attributes_read : (fs : List Open) (p : Place) (n : QName) (list : Attributes) → Outcome (AttributesFit strict list) (λ e q. AttributesFail strict e q list) (tag_state fs p n Alone) (attributes_spelt list) (tag_state fs p n list)
  attributes_read fs p n Alone = Passes tt (λ r. refl)
  attributes_read fs p n (Further list a) = both (attributes_read fs p n list) (attribute_reads (tag_state fs p n list) fs (start p (name_of n) (pairs_of list)) (λ c q. tag_step fs p n list (Blank c) q tt) a)
