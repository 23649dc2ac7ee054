-- Written values and texts are read again: what stands for a character gives that character.
use Rattle.std.proofs.Common.{◌≡◌, ◌≢◌, ℕ, ◌<◌, ◌≤◌, List, [], ◌∷◌, ◌++◌, ◌⊎◌, inl, inr, refl, sym, ap, ◌∙◌, subst, append_assoc, arith}
use Rattle.std.specs.Prelude.{Bool, true, false, ◌||◌, ◌==◌, not, if◌then◌else◌, encode_utf8, encode_utf8_all, codes}
use Rattle.std.specs.List.{list_all, flat_map}
use Rattle.std.proofs.lemmas.Bool.{and_parts, and_from, eqb-true, eq-eqb, ne_eqb, not_from_false, cases_lt}
use Rattle.std.proofs.lemmas.List.{append-nil}
use Rattle.std.proofs.lemmas.Grind.{flat_map-append}
use Rattle.std.proofs.lemmas.Str.{encode_ascii}
use Rattle.atl_base.specs.declared.place.Place.{Place}
use Rattle.atl_base.specs.XmlText.{is_xml_character, IsXmlText}
use Rattle.doc_text.specs.Symbols.{Kind, Less, Greater, And, Quote, Blank, Letter, Bad, code_of, kind_of, utf8}
use Rattle.doc_text.specs.Raw.{Name, Start, Trees, Nil, Also, Words, add_text}
use Rattle.doc_text.specs.Namespaces.{is_blank_text}
use Rattle.doc_text.specs.Markup.{ByName}
use Rattle.doc_text.specs.Form.{bracketed}
use Rattle.doc_text.specs.State.{Open, opened, grow, Citing, InText, InValue, State, Citation, Nameless, ByEntity, Valuing, Inside, Goes}
use Rattle.doc_text.specs.Steps.{step, cited, known}
use Rattle.doc_text.specs.Escapes.{escaped}
use Rattle.doc_text.specs.declared.escape.Escapes.TheVariants as place
use Rattle.doc_text.proofs.Escaping.{escaped_wide, escaped_ascii}
use Rattle.doc_text.proofs.KindsKept.{kind_is, is_proper, is_blank_code}
use Rattle.doc_text.proofs.Leading.{Leads, leads_to, Reads, nothing, reads_on, reads_to, plainly, is_plain, is_written}
use Rattle.doc_text.proofs.Runs.{false-true, true-false}

-- ## References

module _ (c : Citing) (p : Place) where
  abbrev From : List ℕ → ℕ → Type 0
  From text n = Leads (Citation c p Nameless) text (λ u. u ≡ cited c (encode_utf8 n))

  abbrev entity : List ℕ → State
  entity n = Citation c p (ByEntity n)

  named_so : (n name : List ℕ) (k : ℕ) → n ≡ name → known true c p (ByName name) ≡ Goes (cited c (encode_utf8 k)) → known true c p (ByName n) ≡ Goes (cited c (encode_utf8 k))
  named_so n name k e h = ap (λ m. known true c p (ByName m)) e ∙ h

  pub amp : From (codes "amp;") 38
  amp = λ p. (_, refl, λ q. (_, refl, λ r. (_, refl, λ s. (_, named_so ((utf8 (Letter 97) ++ utf8 (Letter 109)) ++ utf8 (Letter 112)) (codes "amp") 38 (simp (encode_ascii 97 (omega arith), encode_ascii 109 (omega arith), encode_ascii 112 (omega arith)) refl) refl, refl))))

  pub less_than : From (codes "lt;") 60
  less_than = λ p. (_, refl, λ q. (_, refl, λ s. (_, named_so (utf8 (Letter 108) ++ utf8 (Letter 116)) (codes "lt") 60 (simp (encode_ascii 108 (omega arith), encode_ascii 116 (omega arith)) refl) refl, refl)))

  pub greater_than : From (codes "gt;") 62
  greater_than = λ p. (_, refl, λ q. (_, refl, λ s. (_, named_so (utf8 (Letter 103) ++ utf8 (Letter 116)) (codes "gt") 62 (simp (encode_ascii 103 (omega arith), encode_ascii 116 (omega arith)) refl) refl, refl)))

  pub quot : From (codes "quot;") 34
  quot = λ p. (_, refl, λ q. (_, refl, λ r. (_, refl, λ o. (_, refl, λ s. (_, named_so (((utf8 (Letter 113) ++ utf8 (Letter 117)) ++ utf8 (Letter 111)) ++ utf8 (Letter 116)) (codes "quot") 34 (simp (encode_ascii 113 (omega arith), encode_ascii 117 (omega arith), encode_ascii 111 (omega arith), encode_ascii 116 (omega arith)) refl) refl, refl)))))

  pub return : From (codes "#xD;") 13
  return = λ p. (_, refl, λ q. (_, refl, λ r. (_, refl, λ s. (_, refl, refl))))

  pub tab : From (codes "#x9;") 9
  tab = λ p. (_, refl, λ q. (_, refl, λ r. (_, refl, λ s. (_, refl, refl))))

  pub feed : From (codes "#xA;") 10
  feed = λ p. (_, refl, λ q. (_, refl, λ r. (_, refl, λ s. (_, refl, refl))))

-- ## Characters

chosen : (P : List ℕ → Type 0) (c d : ℕ) (x y : List ℕ) → (c ≡ d → P x) → ((c == d) ≡ false → P y) → P (if c == d then x else y)
chosen P c d x y f g = on (c == d) refl
  where
    on : (b : Bool) → (c == d) ≡ b → P (if b then x else y)
    on true e = f (eqb-true c d e)
    on false e = g e

-- this is not that character
apart : (c d : ℕ) → d ≡ c → (c == d) ≡ false → ⊥
apart c d h n = true-false (sym (eq-eqb c d (sym h)) ∙ n)

module _ (c : ℕ) where
  -- a character that stands for itself in a value: no &, <, tab, line feed, carriage return or quote
  record IsPlainInValue : Type 0 where
    pub ampersand : (c == 38) ≡ false
    pub less : (c == 60) ≡ false
    pub return : (c == 13) ≡ false
    pub quote : (c == 34) ≡ false
    pub tab : (c == 9) ≡ false
    pub feed : (c == 10) ≡ false

  -- and in a text: no &, <, carriage return or >
  record IsPlainInText : Type 0 where
    pub ampersand : (c == 38) ≡ false
    pub less : (c == 60) ≡ false
    pub return : (c == 13) ≡ false
    pub greater : (c == 62) ≡ false

  -- the only blank of them
  space_is : (x : ℕ) → x ≡ c → is_blank_code x ≡ true → IsPlainInValue → c ≡ 32
  space_is x e h n = eqb-true c 32 (sym (simp (n.tab, n.feed, n.return) refl) ∙ subst (λ d. is_blank_code d ≡ true) e h)

module _ (fs : List Open) (t : Start) (n : Name) where
  abbrev pub value_state : List ℕ → State
  value_state v = Valuing true fs t n v

  -- a character that stands for itself
  value_step : (c : ℕ) (v : List ℕ) (p : Place) (k : Kind) → code_of k ≡ c → is_proper k ≡ true → IsPlainInValue c → step true (value_state v) k p ≡ Goes (value_state (v ++ encode_utf8 c))
  value_step c v p Less h o x = absurd (apart c 60 h x.less)
  value_step c v p And h o x = absurd (apart c 38 h x.ampersand)
  value_step c v p Quote h o x = absurd (apart c 34 h x.quote)
  value_step c v p Bad h o x = absurd (false-true o)
  value_step c v p (Blank b) h o x = ap (λ l. Goes (value_state (v ++ l))) (sym (encode_ascii 32 (omega arith)) ∙ ap encode_utf8 (sym (space_is c b h o x)))
  value_step c v p k h o x = ap (λ d. Goes (value_state (v ++ encode_utf8 d))) h

  abbrev ValueOf : (c : ℕ) → List ℕ → List ℕ → Type 0
  ValueOf c v text = Reads (value_state v) text (λ u. u ≡ value_state (v ++ encode_utf8 c))

  -- one that a reference stands for
  referred : (c d : ℕ) (v text : List ℕ) → c ≡ d → list_all is_plain (38 ∷ text) ≡ true → ((p : Place) → Leads (Citation (InValue true fs t n v) p Nameless) text (λ u. u ≡ value_state (v ++ encode_utf8 d))) → ValueOf c v (38 ∷ text)
  referred c d v text e h l = subst (λ x. ValueOf x v (38 ∷ text)) (sym e) (plainly (value_state v) (38 ∷ text) _ h (λ p. (_, refl, l p)))

  itself : (c : ℕ) (v : List ℕ) → is_xml_character c ≡ true → IsPlainInValue c → ValueOf c v (encode_utf8 c)
  itself c v h x =
      let k = kind_is c h in
      record {
        characters = c ∷ [];
        spelt = append-nil (encode_utf8 c);
        written = and_from (is_written c) true (and_from (is_xml_character c) (not (c == 13)) h (not_from_false (c == 13) x.return)) refl;
        leads = λ p. (value_state (v ++ encode_utf8 c), value_step c v p (kind_of c) k.code k.proper x, refl);
      }

  narrow : (c : ℕ) (v : List ℕ) → is_xml_character c ≡ true → c < 128 → ValueOf c v (escaped place.Value c)
  narrow c v h lt =
      chosen (ValueOf c v) c 38 _ _ (λ e. referred c 38 v (codes "amp;") e refl (λ p. amp (InValue true fs t n v) p)) (λ ampersand.
      chosen (ValueOf c v) c 60 _ _ (λ e. referred c 60 v (codes "lt;") e refl (λ p. lt_leads p)) (λ less.
      chosen (ValueOf c v) c 13 _ _ (λ e. referred c 13 v (codes "#xD;") e refl (λ p. return (InValue true fs t n v) p)) (λ returns.
      chosen (ValueOf c v) c 34 _ _ (λ e. referred c 34 v (codes "quot;") e refl (λ p. quot (InValue true fs t n v) p)) (λ quotes.
      chosen (ValueOf c v) c 9 _ _ (λ e. referred c 9 v (codes "#x9;") e refl (λ p. tab (InValue true fs t n v) p)) (λ tabs.
      chosen (ValueOf c v) c 10 _ _ (λ e. referred c 10 v (codes "#xA;") e refl (λ p. feed (InValue true fs t n v) p)) (λ feeds.
      subst (ValueOf c v) (encode_ascii c lt) (itself c v h (record { ampersand = ampersand; less = less; return = returns; quote = quotes; tab = tabs; feed = feeds }))))))))
    where
      lt_leads : (p : Place) → Leads (Citation (InValue true fs t n v) p Nameless) (codes "lt;") (λ u. u ≡ value_state (v ++ encode_utf8 60))
      lt_leads p = less_than (InValue true fs t n v) p

  wide : (c : ℕ) (v : List ℕ) → is_xml_character c ≡ true → 128 ≤ c → ValueOf c v (encode_utf8 c)
  wide c v h ge = itself c v h (record {
    ampersand = ne_eqb c 38 (λ e. absurd (omega (arith, e, ge)));
    less = ne_eqb c 60 (λ e. absurd (omega (arith, e, ge)));
    return = ne_eqb c 13 (λ e. absurd (omega (arith, e, ge)));
    quote = ne_eqb c 34 (λ e. absurd (omega (arith, e, ge)));
    tab = ne_eqb c 9 (λ e. absurd (omega (arith, e, ge)));
    feed = ne_eqb c 10 (λ e. absurd (omega (arith, e, ge)));
  })

  value_character : (c : ℕ) (v : List ℕ) → is_xml_character c ≡ true → ValueOf c v (flat_map (escaped place.Value) (encode_utf8 c))
  value_character c v h = on (cases_lt c 128)
    where
      on : (c < 128) ⊎ (128 ≤ c) → ValueOf c v (flat_map (escaped place.Value) (encode_utf8 c))
      on (inl l) = subst (ValueOf c v) (sym (escaped_ascii place.Value c l)) (narrow c v h l)
      on (inr l) = subst (ValueOf c v) (sym (escaped_wide place.Value c l)) (wide c v h l)

  values : (cs v : List ℕ) → list_all is_xml_character cs ≡ true → Reads (value_state v) (flat_map (escaped place.Value) (encode_utf8_all cs)) (λ u. u ≡ value_state (v ++ encode_utf8_all cs))
  values [] v h = nothing (value_state v) _ (ap value_state (sym (append-nil v)))
  values (c ∷ cs) v h =
      let k = and_parts (is_xml_character c) (list_all is_xml_character cs) h in
      subst (λ l. Reads (value_state v) l (λ u. u ≡ value_state (v ++ (encode_utf8 c ++ encode_utf8_all cs)))) (sym (flat_map-append (escaped place.Value) (encode_utf8 c) (encode_utf8_all cs)))
      (reads_on (value_state v) (flat_map (escaped place.Value) (encode_utf8 c)) (flat_map (escaped place.Value) (encode_utf8_all cs)) _ _ (value_character c v k.0) (λ u e.
      subst (λ s. Reads s (flat_map (escaped place.Value) (encode_utf8_all cs)) (λ u. u ≡ value_state (v ++ (encode_utf8 c ++ encode_utf8_all cs)))) (sym e)
      (reads_to (value_state (v ++ encode_utf8 c)) _ _ _ (values cs (v ++ encode_utf8 c) k.1) (λ w g. g ∙ ap value_state (append_assoc v (encode_utf8 c) (encode_utf8_all cs))))))

  pub value_reads : (text : List ℕ) → IsXmlText text → Reads (value_state []) (flat_map (escaped place.Value) text) (λ u. u ≡ value_state text)
  value_reads text h = subst (λ l. Reads (value_state []) (flat_map (escaped place.Value) l) (λ u. u ≡ value_state l)) h.2 (values h.0 [] h.1)

module _ (fs : List Open) where
  -- in an element, whatever brackets stand last
  abbrev pub IsInside : Open → State → Type 0
  IsInside f u = (j : ℕ) × (u ≡ Inside j f fs)

  abbrev TextOf : ℕ → Open → ℕ → List ℕ → Type 0
  TextOf c f j text = Reads (Inside j f fs) text (IsInside (grow f (encode_utf8 c)))

  -- a character that stands for itself
  text_step : (c j : ℕ) (f : Open) (p : Place) (k : Kind) → code_of k ≡ c → is_proper k ≡ true → IsPlainInText c → step true (Inside j f fs) k p ≡ Goes (Inside (bracketed j k) (grow f (encode_utf8 c)) fs)
  text_step c j f p Less h o x = absurd (apart c 60 h x.less)
  text_step c j f p And h o x = absurd (apart c 38 h x.ampersand)
  text_step c j f p Greater h o x = absurd (apart c 62 h x.greater)
  text_step c j f p Bad h o x = absurd (false-true o)
  text_step c j f p k h o x = ap (λ d. Goes (Inside (bracketed j k) (grow f (encode_utf8 d)) fs)) h

  text_itself : (c j : ℕ) (f : Open) → is_xml_character c ≡ true → IsPlainInText c → TextOf c f j (encode_utf8 c)
  text_itself c j f h x =
      let k = kind_is c h in
      record {
        characters = c ∷ [];
        spelt = append-nil (encode_utf8 c);
        written = and_from (is_written c) true (and_from (is_xml_character c) (not (c == 13)) h (not_from_false (c == 13) x.return)) refl;
        leads = λ p. (Inside (bracketed j (kind_of c)) (grow f (encode_utf8 c)) fs, text_step c j f p (kind_of c) k.code k.proper x, (bracketed j (kind_of c), refl));
      }

  text_referred : (c d j : ℕ) (f : Open) (text : List ℕ) → c ≡ d → list_all is_plain (38 ∷ text) ≡ true → ((p : Place) → Leads (Citation (InText f fs) p Nameless) text (λ u. u ≡ Inside 0 (grow f (encode_utf8 d)) fs)) → TextOf c f j (38 ∷ text)
  text_referred c d j f text e h l = subst (λ x. TextOf x f j (38 ∷ text)) (sym e) (plainly (Inside j f fs) (38 ∷ text) _ h (λ p. (_, refl, leads_to (Citation (InText f fs) p Nameless) text _ _ (l p) (λ u g. (0, g)))))

  text_narrow : (c j : ℕ) (f : Open) → is_xml_character c ≡ true → c < 128 → TextOf c f j (escaped place.Text c)
  text_narrow c j f h lt =
      chosen (TextOf c f j) c 38 _ _ (λ e. text_referred c 38 j f (codes "amp;") e refl (λ p. amp (InText f fs) p)) (λ ampersand.
      chosen (TextOf c f j) c 60 _ _ (λ e. text_referred c 60 j f (codes "lt;") e refl (λ p. less_than (InText f fs) p)) (λ less.
      chosen (TextOf c f j) c 13 _ _ (λ e. text_referred c 13 j f (codes "#xD;") e refl (λ p. return (InText f fs) p)) (λ returns.
      chosen (TextOf c f j) c 62 _ _ (λ e. text_referred c 62 j f (codes "gt;") e refl (λ p. greater_than (InText f fs) p)) (λ greater.
      subst (TextOf c f j) (encode_ascii c lt) (text_itself c j f h (record { ampersand = ampersand; less = less; return = returns; greater = greater }))))))

  text_wide : (c j : ℕ) (f : Open) → is_xml_character c ≡ true → 128 ≤ c → TextOf c f j (encode_utf8 c)
  text_wide c j f h ge = text_itself c j f h (record {
    ampersand = ne_eqb c 38 (λ e. absurd (omega (arith, e, ge)));
    less = ne_eqb c 60 (λ e. absurd (omega (arith, e, ge)));
    return = ne_eqb c 13 (λ e. absurd (omega (arith, e, ge)));
    greater = ne_eqb c 62 (λ e. absurd (omega (arith, e, ge)));
  })

  text_character : (c j : ℕ) (f : Open) → is_xml_character c ≡ true → TextOf c f j (flat_map (escaped place.Text) (encode_utf8 c))
  text_character c j f h = on (cases_lt c 128)
    where
      on : (c < 128) ⊎ (128 ≤ c) → TextOf c f j (flat_map (escaped place.Text) (encode_utf8 c))
      on (inl l) = subst (TextOf c f j) (sym (escaped_ascii place.Text c l)) (text_narrow c j f h l)
      on (inr l) = subst (TextOf c f j) (sym (escaped_wide place.Text c l)) (text_wide c j f h l)

  -- behind the text that stands last in an element
  abbrev pub behind : Start → Trees → List ℕ → Open
  behind t ts words = opened t (Also ts (Words words))

  more_text : (cs words : List ℕ) (j : ℕ) (t : Start) (ts : Trees) → list_all is_xml_character cs ≡ true → Reads (Inside j (behind t ts words) fs) (flat_map (escaped place.Text) (encode_utf8_all cs)) (IsInside (behind t ts (words ++ encode_utf8_all cs)))
  more_text [] words j t ts h = nothing (Inside j (behind t ts words) fs) _ (j, ap (λ l. Inside j (behind t ts l) fs) (sym (append-nil words)))
  more_text (c ∷ cs) words j t ts h =
      let k = and_parts (is_xml_character c) (list_all is_xml_character cs) h in
      subst (λ l. Reads (Inside j (behind t ts words) fs) l (IsInside (behind t ts (words ++ (encode_utf8 c ++ encode_utf8_all cs))))) (sym (flat_map-append (escaped place.Text) (encode_utf8 c) (encode_utf8_all cs)))
      (reads_on (Inside j (behind t ts words) fs) (flat_map (escaped place.Text) (encode_utf8 c)) (flat_map (escaped place.Text) (encode_utf8_all cs)) _ _ (text_character c j (behind t ts words) k.0) (λ u e.
      subst (λ s. Reads s (flat_map (escaped place.Text) (encode_utf8_all cs)) (IsInside (behind t ts (words ++ (encode_utf8 c ++ encode_utf8_all cs))))) (sym e.1)
      (subst (λ l. Reads (Inside e.0 (behind t ts (words ++ encode_utf8 c)) fs) (flat_map (escaped place.Text) (encode_utf8_all cs)) (IsInside (behind t ts l))) (append_assoc words (encode_utf8 c) (encode_utf8_all cs))
      (more_text cs (words ++ encode_utf8 c) e.0 t ts k.1))))

  all_text : (cs : List ℕ) (j : ℕ) (t : Start) → encode_utf8_all cs ≢ [] → list_all is_xml_character cs ≡ true → Reads (Inside j (opened t Nil) fs) (flat_map (escaped place.Text) (encode_utf8_all cs)) (IsInside (behind t Nil (encode_utf8_all cs)))
  all_text [] j t n h = absurd (n refl)
  all_text (c ∷ cs) j t n h =
      let k = and_parts (is_xml_character c) (list_all is_xml_character cs) h in
      subst (λ l. Reads (Inside j (opened t Nil) fs) l (IsInside (behind t Nil (encode_utf8 c ++ encode_utf8_all cs)))) (sym (flat_map-append (escaped place.Text) (encode_utf8 c) (encode_utf8_all cs)))
      (reads_on (Inside j (opened t Nil) fs) (flat_map (escaped place.Text) (encode_utf8 c)) (flat_map (escaped place.Text) (encode_utf8_all cs)) _ _ (text_character c j (opened t Nil) k.0) (λ u e.
      subst (λ s. Reads s (flat_map (escaped place.Text) (encode_utf8_all cs)) (IsInside (behind t Nil (encode_utf8 c ++ encode_utf8_all cs)))) (sym e.1)
      (more_text cs (encode_utf8 c) e.0 t Nil k.1)))

  -- the text that an element has alone
  pub text_reads : (text : List ℕ) (j : ℕ) (t : Start) → text ≢ [] → IsXmlText text → Reads (Inside j (opened t Nil) fs) (flat_map (escaped place.Text) text) (IsInside (behind t Nil text))
  text_reads text j t n h = on h.0 h.1 h.2
    where
      on : (cs : List ℕ) → list_all is_xml_character cs ≡ true → encode_utf8_all cs ≡ text → Reads (Inside j (opened t Nil) fs) (flat_map (escaped place.Text) text) (IsInside (behind t Nil text))
      on cs x e = subst (λ l. Reads (Inside j (opened t Nil) fs) (flat_map (escaped place.Text) l) (IsInside (behind t Nil l))) e (all_text cs j t (λ z. n (sym e ∙ z)) x)

  -- ## Blanks between elements

  abbrev pub is_space : ℕ → Bool
  is_space c = c == 32 || c == 10

  -- blanks at the end of what an element has
  abbrev pub IsBlankBehind : Start → Trees → State → Type 0
  IsBlankBehind t ts u = (words : List ℕ) × (is_blank_text words ≡ true) × IsInside (behind t ts words) u

  abbrev blank_code : ℕ → Bool
  blank_code c = c == 32 || c == 9 || c == 10 || c == 13

  blank_append : (xs ys : List ℕ) → is_blank_text xs ≡ true → is_blank_text ys ≡ true → is_blank_text (xs ++ ys) ≡ true
  blank_append [] ys h k = k
  blank_append (x ∷ xs) ys h k =
      let g = and_parts (blank_code x) (is_blank_text xs) h in
      and_from (blank_code x) (is_blank_text (xs ++ ys)) g.0 (blank_append xs ys g.1 k)

  space_plain : (c : ℕ) → is_space c ≡ true → (P : ℕ → Type 0) → P 32 → P 10 → P c
  space_plain c h P x y = on (c == 32) refl
    where
      on : (b : Bool) → (c == 32) ≡ b → P c
      on true e = subst P (sym (eqb-true c 32 e)) x
      on false e = subst P (sym (eqb-true c 10 (ap (λ b. b || (c == 10)) (sym e) ∙ h))) y

  -- one blank more
  blank_step : (c j : ℕ) (t : Start) (ts : Trees) (words : List ℕ) (p : Place) → is_space c ≡ true → step true (Inside j (behind t ts words) fs) (kind_of c) p ≡ Goes (Inside 0 (behind t ts (words ++ encode_utf8 c)) fs)
  blank_step c j t ts words p h = space_plain c h (λ c. step true (Inside j (behind t ts words) fs) (kind_of c) p ≡ Goes (Inside 0 (behind t ts (words ++ encode_utf8 c)) fs)) refl refl

  blank_bytes : (c : ℕ) → is_space c ≡ true → is_blank_text (encode_utf8 c) ≡ true
  blank_bytes c h = space_plain c h (λ c. is_blank_text (encode_utf8 c) ≡ true) (ap is_blank_text (encode_ascii 32 (omega arith))) (ap is_blank_text (encode_ascii 10 (omega arith)))

  blanks_plain : (cs : List ℕ) → list_all is_space cs ≡ true → list_all is_plain cs ≡ true
  blanks_plain [] h = refl
  blanks_plain (c ∷ cs) h =
      let k = and_parts (is_space c) (list_all is_space cs) h in
      and_from (is_plain c) (list_all is_plain cs) (space_plain c k.0 (λ c. is_plain c ≡ true) refl refl) (blanks_plain cs k.1)

  blanks_lead : (cs : List ℕ) (j : ℕ) (t : Start) (ts : Trees) (words : List ℕ) → list_all is_space cs ≡ true → is_blank_text words ≡ true → Leads (Inside j (behind t ts words) fs) cs (IsBlankBehind t ts)
  blanks_lead [] j t ts words h w = (words, w, (j, refl))
  blanks_lead (c ∷ cs) j t ts words h w = λ p.
      let k = and_parts (is_space c) (list_all is_space cs) h in (
        Inside 0 (behind t ts (words ++ encode_utf8 c)) fs,
        blank_step c j t ts words p k.0,
        blanks_lead cs 0 t ts (words ++ encode_utf8 c) k.1 (blank_append words (encode_utf8 c) w (blank_bytes c k.0)),
      )

  pub blanks_read : (cs : List ℕ) (t : Start) (ts : Trees) (u : State) → list_all is_space cs ≡ true → IsBlankBehind t ts u → Reads u cs (IsBlankBehind t ts)
  blanks_read cs t ts u h b = subst (λ v. Reads v cs (IsBlankBehind t ts)) (sym b.2.1) (plainly (Inside b.2.0 (behind t ts b.0) fs) cs _ (blanks_plain cs h) (blanks_lead cs b.2.0 t ts b.0 h b.1))

  -- a line ends behind what is no text
  pub line_reads : (j : ℕ) (t : Start) (ts : Trees) → ((bytes : List ℕ) → add_text bytes ts ≡ Also ts (Words bytes)) → Reads (Inside j (opened t ts) fs) (codes "\n") (IsBlankBehind t ts)
  line_reads j t ts e = plainly (Inside j (opened t ts) fs) (codes "\n") _ refl (λ p. (_, refl, (encode_utf8 10, blank_bytes 10 refl, (0, ap (λ us. Inside 0 (opened t us) fs) (e (encode_utf8 10))))))
