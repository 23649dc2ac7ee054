-- A metamodel's names are plain names of XML: a byte from 128 on belongs to a character from 128 on, and each of those begins names.
use Rattle.std.proofs.Common.{◌≡◌, ℕ, ◌<◌, ◌≤◌, ◌⊎◌, Bool, true, false, List, [], ◌∷◌, ◌++◌, refl, sym, ap, subst, ◌∙◌, inl, inr, arith}
use Rattle.std.specs.Prelude.{◌||◌, ◌==◌, nat_lt, if◌then◌else◌, encode_utf8, encode_utf8_all}
use Rattle.std.specs.Int.{is_in_range}
use Rattle.std.specs.List.{list_all}
use Rattle.std.proofs.lemmas.Bool.{and_parts, and_from, or_left, or_right, cases_lt, eqb-true, lt-ltb, true≢false}
use Rattle.std.proofs.lemmas.List.Folds.{list_all-append}
use Rattle.std.proofs.lemmas.Str.{encode_ascii}
use Rattle.atl_base.specs.XmlText.{is_xml_character, IsXmlText}
use Rattle.doc_text.specs.declared.symbol.Kind.TheVariants.{Letter, Joint, Blank, Bad}
use Rattle.doc_text.specs.Symbols.{is_letter, is_name, is_start, kind_of, mark_of}
use Rattle.doc_text.specs.ReadBack.{IsPlain, IsPlainName}
use Rattle.doc_text.proofs.KindsKept.{is_blank_code, sort_of}
use Rattle.ecore_meta.specs.Names.{IsName, begins_name, continues_name, is_plain_name}
use Rattle.xmi_round_trip.proofs.Names.{all_go_on}

-- ## One character

-- the kind of one that may begin a name, and of a digit or a point
letter_kind : (c : ℕ) → is_xml_character c ≡ true → is_letter c ≡ true → kind_of c ≡ Letter c
letter_kind c h e =
    ap (λ b. if b then sort_of c else Bad) h
    ∙ ap (λ b. if b then Letter c else if is_in_range 48 57 c || c == 46 then Joint c else if is_blank_code c then Blank c else mark_of c) e

joint_kind : (c : ℕ) → is_xml_character c ≡ true → is_letter c ≡ false → (is_in_range 48 57 c || c == 46) ≡ true → kind_of c ≡ Joint c
joint_kind c h n e =
    ap (λ b. if b then sort_of c else Bad) h
    ∙ ap (λ b. if b then Letter c else if is_in_range 48 57 c || c == 46 then Joint c else if is_blank_code c then Blank c else mark_of c) n
    ∙ ap (λ b. if b then Joint c else if is_blank_code c then Blank c else mark_of c) e

-- any that may go on a name
character_named : (c : ℕ) → is_xml_character c ≡ true → continues_name c ≡ true → is_name (kind_of c) ≡ true
character_named c h e = first (begins_name c) refl
  where
    third : (b : Bool) → (c == 45) ≡ b → is_in_range 48 57 c ≡ false → begins_name c ≡ false → is_name (kind_of c) ≡ true
    third true is low none = subst (λ d. is_name (kind_of d) ≡ true) (sym (eqb-true c 45 is)) refl
    third false is low none =
        let point : (c == 46) ≡ true =
        sym (ap (λ b. b || c == 46) is) ∙ sym (ap (λ b. b || c == 45 || c == 46) low) ∙ sym (ap (λ b. b || is_in_range 48 57 c || c == 45 || c == 46) none) ∙ e in
        ap is_name (joint_kind c h none (or_right (is_in_range 48 57 c) (c == 46) point))

    second : (b : Bool) → is_in_range 48 57 c ≡ b → begins_name c ≡ false → is_name (kind_of c) ≡ true
    second true is none = ap is_name (joint_kind c h none (or_left (is_in_range 48 57 c) (c == 46) is))
    second false is none = third (c == 45) refl is none

    first : (b : Bool) → begins_name c ≡ b → is_name (kind_of c) ≡ true
    first true is = ap is_name (letter_kind c h is)
    first false is = second (is_in_range 48 57 c) refl is

-- one from 128 on is a letter
high_letter : (c : ℕ) → 128 ≤ c → is_letter c ≡ true
high_letter c h = or_right (is_in_range 65 90 c || is_in_range 97 122 c || c == 95) (nat_lt 127 c) (lt-ltb 127 c (omega (arith, h)))

-- ## A name, character by character

-- the first character of bytes that go on a name goes on a name
goes_on : (c : ℕ) (rest : List ℕ) → is_xml_character c ≡ true → list_all continues_name (encode_utf8 c ++ rest) ≡ true → is_name (kind_of c) ≡ true
goes_on c rest h e = on (cases_lt c 128)
  where
    on : (c < 128) ⊎ (128 ≤ c) → is_name (kind_of c) ≡ true
    on (inl low) =
        let same : list_all continues_name (c ∷ rest) ≡ true = ap (λ l. list_all continues_name (l ++ rest)) (sym (encode_ascii c low)) ∙ e in
        character_named c h (and_parts (continues_name c) (list_all continues_name rest) same).0
    on (inr high) = ap is_name (letter_kind c h (high_letter c high))

-- so does each character of them
go_on : (cs : List ℕ) → list_all is_xml_character cs ≡ true → list_all continues_name (encode_utf8_all cs) ≡ true → list_all (λ c. is_name (kind_of c)) cs ≡ true
go_on [] h e = refl
go_on (c ∷ cs) h e =
    let parts = and_parts (is_xml_character c) (list_all is_xml_character cs) h in
    let rest = and_parts (list_all continues_name (encode_utf8 c)) (list_all continues_name (encode_utf8_all cs)) (sym (list_all-append continues_name (encode_utf8 c) (encode_utf8_all cs)) ∙ e) in
    and_from (is_name (kind_of c)) (list_all (λ c. is_name (kind_of c)) cs) (goes_on c (encode_utf8_all cs) parts.0 e) (go_on cs parts.1 rest.1)

-- the first character of a plain name begins a name
begins : (c : ℕ) (rest : List ℕ) → is_xml_character c ≡ true → is_plain_name (encode_utf8 c ++ rest) ≡ true → is_start (kind_of c) ≡ true
begins c rest h e = on (cases_lt c 128)
  where
    on : (c < 128) ⊎ (128 ≤ c) → is_start (kind_of c) ≡ true
    on (inl low) =
        let same : is_plain_name (c ∷ rest) ≡ true = ap (λ l. is_plain_name (l ++ rest)) (sym (encode_ascii c low)) ∙ e in
        ap is_start (letter_kind c h (and_parts (begins_name c) (list_all continues_name rest) same).0)
    on (inr high) = ap is_start (letter_kind c h (high_letter c high))

-- so a name that is plain by its bytes is plain by its characters
spelt_plain : (characters name : List ℕ) → list_all is_xml_character characters ≡ true → encode_utf8_all characters ≡ name → is_plain_name name ≡ true → IsPlain name
spelt_plain [] name h e p = absurd (true≢false (sym p ∙ ap is_plain_name (sym e)))
spelt_plain (c ∷ cs) name h e p =
    let parts = and_parts (is_xml_character c) (list_all is_xml_character cs) h in
    let plain : is_plain_name (encode_utf8 c ++ encode_utf8_all cs) ≡ true = ap is_plain_name e ∙ p in
    let all = all_go_on (encode_utf8 c ++ encode_utf8_all cs) plain in
    let rest = and_parts (list_all continues_name (encode_utf8 c)) (list_all continues_name (encode_utf8_all cs)) (sym (list_all-append continues_name (encode_utf8 c) (encode_utf8_all cs)) ∙ all) in
    record { first = c; others = cs; starts = begins c (encode_utf8_all cs) parts.0 plain; goes_on = go_on cs parts.1 rest.1; spelt = e }

-- a metamodel's name that is a text is a plain name of XML
pub name_is_plain : (name : List ℕ) → IsName name → IsXmlText name → IsPlainName name
name_is_plain name h t = record { plain = spelt_plain t.0 name t.1 t.2 h.plain; no_declaration = h.no_declaration }
