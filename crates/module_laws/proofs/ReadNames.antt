-- The text of each name, text and number is read as that name, text or number.
use Rattle.std.proofs.Common.{◌≡◌, ◌≢◌, ℕ, ◌+◌, ◌-◌, ◌*◌, ◌/◌, ◌%◌, ◌^◌, ◌<◌, ◌≤◌, ◌==◌, ◌⊎◌, inl, inr, List, [], ◌∷◌, ◌++◌, Option, None, Some, true, false, refl, sym, ap, subst, ◌∙◌, append_assoc, arith}
use Rattle.std.specs.Prelude.{Bool, map, ◌||◌, ℤ, pos, nat_lt, codes, decimal, encode_utf8_all, if◌then◌else◌}
use Rattle.std.specs.Char.{encode_utf8}
use Rattle.std.specs.List.{list_all, list_any, flat_map}
use Rattle.std.specs.Str.{bytes_eq}
use Rattle.std.proofs.lemmas.Bool.{and_parts, and_from, cases_lt, eqb-true}
use Rattle.std.proofs.lemmas.Bool.Decides.{nat_tests}
use Rattle.std.proofs.lemmas.Fmt.{decimal_by_steps}
use Rattle.std.proofs.lemmas.List.{append-nil}
use Rattle.std.proofs.lemmas.List.Concat.{flat_map-append}
use Rattle.std.proofs.lemmas.Slice.Eq.{bytes_eq-Decides}
use Rattle.std.proofs.lemmas.Str.{encode_ascii, encodes-append}
use Rattle.atl_tree.specs.declared.token.TokenSort.TheVariants as T
use Rattle.atl_tree.specs.Pieces.{IsPlain, IsDigits, Sign, Itself, Escaped, is_sign, spelling, is_letter, is_digit, is_escape, is_in_quotes, is_in_words}
use Rattle.atl_tree.specs.Tokens.{fault_of, value_from, is_wide, has_fraction}
use Rattle.ocl_parse.specs.declared.sign.Sign.{Sign as SomeSign}
use Rattle.ocl_parse.specs.declared.sign.Sign.TheVariants as S
use Rattle.ocl_parse.specs.declared.symbol.Symbol.TheVariants.{Number, Words, Name as Named}
use Rattle.ocl_parse.specs.Signs as G
use Rattle.ocl_parse.specs.Signs.{word as sign_of}
use Rattle.ocl_parse.specs.Symbols.{unquoted, resolved_from, fixed_or_name}
use Rattle.ocl_parse.proofs.Resolving.{unquoted_stays}
use Rattle.module_grammar.specs.declared.keyword.Keyword.{Keyword}
use Rattle.module_grammar.specs.Keywords as K
use Rattle.module_grammar.specs.Keywords.{find, keyword}
use Rattle.module_grammar.specs.Marks.{Shared, word_or, content_of}
use Rattle.module_print.specs.Printed.{is_plain, name_text, escaped, words_text}
use Rattle.module_print.proofs.Escaping.{itself, escaped_ascii, escaped_wide}
use Rattle.module_laws.proofs.Tokened.{Reads}
use Rattle.module_laws.proofs.ReadMarks.{small_text}
use Rattle.module_laws.specs.Held.{IsNameText, IsWordsText, IsNumber}

-- ---- names

abbrev AreSigns : List (List ℕ × Keyword) → Type 0
AreSigns [] = Unit {0}
AreSigns (w ∷ ws) = (sign_of w.0 ≡ Some S.Other) × AreSigns ws

words_are_signs : AreSigns K.words
unfolding K.words G.operator_words G.structure_words G.constant_words G.type_words G.other_words
words_are_signs = (refl, (refl, (refl, (refl, (refl, (refl, (refl, (refl, (refl, (refl, (refl, (refl, (refl, (refl, (refl, (refl, (refl, (refl, (refl, (refl, (refl, tt)))))))))))))))))))))

-- what is no keyword of expressions is none of modules
none_found : (text : List ℕ) (ws : List (List ℕ × Keyword)) → AreSigns ws → sign_of text ≡ None → find text ws ≡ None
none_found text [] h e = refl
none_found text (w ∷ ws) h e = on (bytes_eq text w.0) refl (none_found text ws h.1 e)
  where
    on : (t : Bool) → bytes_eq text w.0 ≡ t → find text ws ≡ None → (if t then Some w.1 else find text ws) ≡ None
    on true q again = absurd (let same : sign_of text ≡ Some S.Other = ap sign_of ((bytes_eq-Decides text w.0).0 q) ∙ h.0 in cc)
    on false q again = again

real_is_sign : sign_of (codes "Real") ≡ Some S.Other
unfolding G.operator_words G.structure_words G.constant_words G.type_words G.other_words
real_is_sign = refl

not_real : (text : List ℕ) → sign_of text ≡ None → bytes_eq text (codes "Real") ≡ false
not_real text e = on (bytes_eq text (codes "Real")) refl
  where
    on : (t : Bool) → bytes_eq text (codes "Real") ≡ t → t ≡ false
    on true q = absurd (let same : sign_of text ≡ Some S.Other = ap sign_of ((bytes_eq-Decides text (codes "Real")).0 q) ∙ real_is_sign in cc)
    on false q = refl

letter_small : (c : ℕ) → (is_letter c || is_digit c) ≡ true → nat_lt c 128 ≡ true
unfolding is_letter is_digit
letter_small c h = grind (arith, nat_tests)

letter_first : (c : ℕ) → is_letter c ≡ true → nat_lt c 128 ≡ true
unfolding is_letter
letter_first c h = grind (arith, nat_tests)

letters_small : (w : List ℕ) → list_all (λ d. is_letter d || is_digit d) w ≡ true → list_all (λ c. nat_lt c 128) w ≡ true
letters_small [] h = refl
letters_small (c ∷ w) h =
    let parts = and_parts (is_letter c || is_digit c) (list_all (λ d. is_letter d || is_digit d) w) h in
    and_from (nat_lt c 128) (list_all (λ d. nat_lt d 128) w) (letter_small c parts.0) (letters_small w parts.1)

plain_form : (s : List ℕ) → is_plain s ≡ true → IsPlain s × (list_all (λ c. nat_lt c 128) s ≡ true)
plain_form [] h = absurd cc
plain_form (c ∷ w) h =
    let parts = and_parts (is_letter c) (list_all (λ d. is_letter d || is_digit d) w) h in
    ((parts.0, parts.1), and_from (nat_lt c 128) (list_all (λ d. nat_lt d 128) w) (letter_first c parts.0) (letters_small w parts.1))

bare_name : (s : List ℕ) → is_plain s ≡ true → sign_of s ≡ None → Reads (Shared (Named s))
bare_name s plain none =
    let written : name_text s ≡ s = rw plain (rw none refl) in record {
      sort = T.Plain;
      chars = s;
      token = (plain_form s plain).0;
      text = small_text s (plain_form s plain).1 ∙ sym written;
      content = λ named h. ap (λ w. content_of T.Plain w named) written ∙ of_content named;
      fine = λ named p h. ap (λ w. fault_of T.Plain w named p) written ∙ rw (not_real s none) refl;
      leads = refl;
      gives = refl;
    }
  where
    of_content : (named : Bool) → content_of T.Plain s named ≡ Shared (Named s)
    of_content true = refl
    of_content false = ap (λ k. word_or k (fixed_or_name (sign_of s) s)) (none_found s K.words words_are_signs none) ∙ ap (λ o. Shared (fixed_or_name o s)) none

quoted_bytes : (cs : List ℕ) → list_all is_in_quotes cs ≡ true → flat_map unquoted (encode_utf8_all cs) ≡ encode_utf8_all cs
unfolding is_in_quotes
quoted_bytes [] h = refl
quoted_bytes (c ∷ cs) h =
    let parts = and_parts (is_in_quotes c) (list_all is_in_quotes cs) h in
    let inside : is_in_quotes c ≡ true = parts.0 in
    let other : c ≢ 34 = grind (arith, nat_tests) in
    flat_map-append unquoted (encode_utf8 c) (encode_utf8_all cs) ∙ ap (λ l. l ++ flat_map unquoted (encode_utf8_all cs)) (unquoted_stays c other) ∙ ap (λ l. encode_utf8 c ++ l) (quoted_bytes cs parts.1)

one_quote : encode_utf8 34 ≡ 34 ∷ []
one_quote = encode_ascii 34 (omega arith)

quoted_chars : (cs : List ℕ) → encode_utf8_all (34 ∷ (cs ++ (34 ∷ []))) ≡ 34 ∷ (encode_utf8_all cs ++ (34 ∷ []))
quoted_chars cs =
    ap (λ l. l ++ encode_utf8_all (cs ++ (34 ∷ []))) one_quote ∙ ap (λ l. 34 ∷ l) (encodes-append cs (34 ∷ []) ∙ ap (λ l. encode_utf8_all cs ++ (l ++ [])) one_quote)

-- the quotes of a name go, and all else stays
pub quoted_outside : (cs : List ℕ) → list_all is_in_quotes cs ≡ true → flat_map unquoted (encode_utf8_all (34 ∷ (cs ++ (34 ∷ [])))) ≡ encode_utf8_all cs
quoted_outside cs h =
    ap (flat_map unquoted) (quoted_chars cs) ∙ flat_map-append unquoted (encode_utf8_all cs) (34 ∷ []) ∙ append-nil (flat_map unquoted (encode_utf8_all cs)) ∙ quoted_bytes cs h

quoted_name : (s : List ℕ) → IsNameText s → name_text s ≡ 34 ∷ (s ++ (34 ∷ [])) → Reads (Shared (Named s))
quoted_name s g written =
    let text : 34 ∷ (encode_utf8_all g.0 ++ (34 ∷ [])) ≡ name_text s = ap (λ w. 34 ∷ (w ++ (34 ∷ []))) g.2 ∙ sym written in
    let inside : flat_map unquoted s ≡ s = ap (flat_map unquoted) (sym g.2) ∙ quoted_bytes g.0 g.1 ∙ g.2 in
    let outside : flat_map unquoted (34 ∷ (s ++ (34 ∷ []))) ≡ s = flat_map-append unquoted s (34 ∷ []) ∙ append-nil (flat_map unquoted s) ∙ inside in record {
      sort = T.Quoted;
      chars = 34 ∷ (g.0 ++ (34 ∷ []));
      token = (g.0, g.1, refl);
      text = quoted_chars g.0 ∙ text;
      content = λ named h. ap (λ w. Shared (Named (flat_map unquoted w))) written ∙ ap (λ w. Shared (Named w)) outside;
      fine = λ named p h. refl;
      leads = refl;
      gives = refl;
    }

pub name_reads : (s : List ℕ) → IsNameText s → Reads (Shared (Named s))
name_reads s g = on (is_plain s) (sign_of s) refl refl
  where
    on : (b : Bool) (o : Option SomeSign) → is_plain s ≡ b → sign_of s ≡ o → Reads (Shared (Named s))
    on true None p e = bare_name s p e
    on true (Some k) p e = quoted_name s g (rw p (rw e refl))
    on false o p e = quoted_name s g (rw p refl)

-- ---- texts

-- a character as it is written
abbrev sign_for : ℕ → Sign
sign_for c = if c == 10 then Escaped 110 else if c == 9 then Escaped 116 else if c == 13 then Escaped 114 else if c == 92 then Escaped 92 else if c == 39 then Escaped 39 else Itself c

same_spelling : (a b d e f : Bool) (c : ℕ) → spelling (if a then Escaped 110 else if b then Escaped 116 else if d then Escaped 114 else if e then Escaped 92 else if f then Escaped 39 else Itself c)
    ≡ (if a then codes "\\n" else if b then codes "\\t" else if d then codes "\\r" else if e then codes "\\\\" else if f then codes "\\'" else c ∷ [])
same_spelling true b d e f c = refl
same_spelling false true d e f c = refl
same_spelling false false true e f c = refl
same_spelling false false false true f c = refl
same_spelling false false false false true c = refl
same_spelling false false false false false c = refl

spelt_so : (c : ℕ) → spelling (sign_for c) ≡ escaped c
spelt_so c = same_spelling (c == 10) (c == 9) (c == 13) (c == 92) (c == 39) c

may_stand : (a b d e f : Bool) (c : ℕ) → (c == 10) ≡ a → (c == 92) ≡ e → (c == 39) ≡ f
    → is_sign (if a then Escaped 110 else if b then Escaped 116 else if d then Escaped 114 else if e then Escaped 92 else if f then Escaped 39 else Itself c) ≡ true
unfolding is_escape is_in_words
may_stand true b d e f c h k l = refl
may_stand false true d e f c h k l = refl
may_stand false false true e f c h k l = refl
may_stand false false false true f c h k l = refl
may_stand false false false false true c h k l = refl
may_stand false false false false false c h k l = rw h (rw k (rw l refl))

signs_stand : (cs : List ℕ) → list_all is_sign (map sign_for cs) ≡ true
signs_stand [] = refl
signs_stand (c ∷ cs) = and_from (is_sign (sign_for c)) (list_all is_sign (map sign_for cs)) (may_stand (c == 10) (c == 9) (c == 13) (c == 92) (c == 39) c refl refl refl) (signs_stand cs)

signs_spelt : (cs : List ℕ) → flat_map spelling (map sign_for cs) ≡ flat_map escaped cs
signs_spelt [] = refl
signs_spelt (c ∷ cs) = ap (λ l. l ++ flat_map spelling (map sign_for cs)) (spelt_so c) ∙ ap (λ l. escaped c ++ l) (signs_spelt cs)

small_escape : (a b d e f : Bool) (c : ℕ) → nat_lt c 128 ≡ true → list_all (λ x. nat_lt x 128)
    (if a then codes "\\n" else if b then codes "\\t" else if d then codes "\\r" else if e then codes "\\\\" else if f then codes "\\'" else c ∷ []) ≡ true
small_escape true b d e f c h = refl
small_escape false true d e f c h = refl
small_escape false false true e f c h = refl
small_escape false false false true f c h = refl
small_escape false false false false true c h = refl
small_escape false false false false false c h = and_from (nat_lt c 128) true h refl

escape_by : (c : ℕ) → (c < 128) ⊎ (128 ≤ c) → encode_utf8_all (escaped c) ≡ flat_map escaped (encode_utf8 c)
escape_by c (inl h) =
    let small : nat_lt c 128 ≡ true = grind (arith, nat_tests) in
    small_text (escaped c) (small_escape (c == 10) (c == 9) (c == 13) (c == 92) (c == 39) c small) ∙ sym (escaped_ascii c h)
escape_by c (inr h) = ap encode_utf8_all (itself c h) ∙ append-nil (encode_utf8 c) ∙ sym (escaped_wide c h)

escapes : (cs : List ℕ) → encode_utf8_all (flat_map escaped cs) ≡ flat_map escaped (encode_utf8_all cs)
escapes [] = refl
escapes (c ∷ cs) =
    encodes-append (escaped c) (flat_map escaped cs) ∙ ap (λ l. l ++ encode_utf8_all (flat_map escaped cs)) (escape_by c (cases_lt c 128))
    ∙ ap (λ l. flat_map escaped (encode_utf8 c) ++ l) (escapes cs) ∙ sym (flat_map-append escaped (encode_utf8 c) (encode_utf8_all cs))

one_resolved : (a b d e f : Bool) (c : ℕ) (r : List ℕ) → (c == 10) ≡ a → (c == 9) ≡ b → (c == 13) ≡ d → (c == 92) ≡ e → (c == 39) ≡ f
    → resolved_from false ((if a then codes "\\n" else if b then codes "\\t" else if d then codes "\\r" else if e then codes "\\\\" else if f then codes "\\'" else c ∷ []) ++ r) ≡ c ∷ resolved_from false r
one_resolved true b d e f c r h i j k l = ap (λ x. x ∷ resolved_from false r) (sym (eqb-true c 10 h))
one_resolved false true d e f c r h i j k l = ap (λ x. x ∷ resolved_from false r) (sym (eqb-true c 9 i))
one_resolved false false true e f c r h i j k l = ap (λ x. x ∷ resolved_from false r) (sym (eqb-true c 13 j))
one_resolved false false false true f c r h i j k l = ap (λ x. x ∷ resolved_from false r) (sym (eqb-true c 92 k))
one_resolved false false false false true c r h i j k l = ap (λ x. x ∷ resolved_from false r) (sym (eqb-true c 39 l))
one_resolved false false false false false c r h i j k l = rw k (rw l refl)

resolves : (s : List ℕ) → resolved_from false (flat_map escaped s ++ (39 ∷ [])) ≡ s
resolves [] = refl
resolves (c ∷ s) =
    ap (resolved_from false) (append_assoc (escaped c) (flat_map escaped s) (39 ∷ []))
    ∙ one_resolved (c == 10) (c == 9) (c == 13) (c == 92) (c == 39) c (flat_map escaped s ++ (39 ∷ [])) refl refl refl refl refl ∙ ap (λ l. c ∷ l) (resolves s)

one_mark : encode_utf8 39 ≡ 39 ∷ []
one_mark = encode_ascii 39 (omega arith)

words_chars : (cs : List ℕ) → encode_utf8_all (39 ∷ (flat_map escaped cs ++ (39 ∷ []))) ≡ words_text (encode_utf8_all cs)
words_chars cs =
    ap (λ l. l ++ encode_utf8_all (flat_map escaped cs ++ (39 ∷ []))) one_mark
    ∙ ap (λ l. 39 ∷ l) (encodes-append (flat_map escaped cs) (39 ∷ []) ∙ ap (λ l. encode_utf8_all (flat_map escaped cs) ++ (l ++ [])) one_mark ∙ ap (λ l. l ++ (39 ∷ [])) (escapes cs))

pub words_read : (s : List ℕ) → IsWordsText s → Reads (Shared (Words s))
words_read s g = record {
  sort = T.Words;
  chars = 39 ∷ (flat_map escaped g.0 ++ (39 ∷ []));
  token = (map sign_for g.0, signs_stand g.0, ap (λ l. 39 ∷ (l ++ (39 ∷ []))) (sym (signs_spelt g.0)));
  text = words_chars g.0 ∙ ap words_text g.1;
  content = λ named h. ap (λ l. Shared (Words l)) (resolves s);
  fine = λ named p h. refl;
  leads = refl;
  gives = refl;
}

-- ---- numbers

abbrev Digits : List ℕ → Type 0
Digits ds = list_all is_digit ds ≡ true

value_more : (m : ℕ) (ds : List ℕ) (c : ℕ) → Digits ds → is_digit c ≡ true → value_from m (ds ++ (c ∷ [])) ≡ value_from m ds * 10 + (c - 48)
unfolding value_from
value_more m [] c h d = rw d refl
value_more m (e ∷ ds) c h d =
    let parts = and_parts (is_digit e) (list_all is_digit ds) h in
    let first : is_digit e ≡ true = parts.0 in
    rw first (value_more (m * 10 + (e - 48)) ds c parts.1 d)

digit_is : (k : ℕ) → k < 10 → is_digit (48 + k) ≡ true
unfolding is_digit
digit_is k h = grind (arith, nat_tests)

all_more : (ds : List ℕ) (c : ℕ) → Digits ds → is_digit c ≡ true → Digits (ds ++ (c ∷ []))
all_more [] c h d = and_from (is_digit c) true d refl
all_more (e ∷ ds) c h d =
    let parts = and_parts (is_digit e) (list_all is_digit ds) h in
    and_from (is_digit e) (list_all is_digit (ds ++ (c ∷ []))) parts.0 (all_more ds c parts.1 d)

-- some digits, of this value
abbrev Numeral : ℕ → List ℕ → Type 0
Numeral n ds = IsDigits ds × Digits ds × (value_from 0 ds ≡ n)

some_more : (ds : List ℕ) (c : ℕ) → IsDigits ds → is_digit c ≡ true → IsDigits (ds ++ (c ∷ []))
some_more [] c h d = absurd h
some_more (e ∷ ds) c h d = (h.0, all_more ds c h.1 d)

numeral_one : (n : ℕ) → n < 10 → Numeral n ((48 + n) ∷ [])
unfolding value_from
numeral_one n h = let d = digit_is n h in ((d, refl), and_from (is_digit (48 + n)) true d refl, rw d (omega (arith, h)))

numeral_more : (n : ℕ) (ds : List ℕ) → 10 ≤ n → Numeral (n / 10) ds → Numeral n (ds ++ ((48 + n % 10) ∷ []))
numeral_more n ds h r =
    let d = digit_is (n % 10) (omega arith) in
    (some_more ds (48 + n % 10) r.0 d, all_more ds (48 + n % 10) r.1 d, value_more 0 ds (48 + n % 10) r.1 d ∙ omega (arith, r.2))

numeral : (n : ℕ) → n < 2 ^ 64 → Numeral n (decimal n)
numeral n h = decimal_by_steps Numeral numeral_one numeral_more n h

digit_small : (c : ℕ) → is_digit c ≡ true → nat_lt c 128 ≡ true
unfolding is_digit
digit_small c h = grind (arith, nat_tests)

digit_no_point : (c : ℕ) → is_digit c ≡ true → (c == 46) ≡ false
unfolding is_digit
digit_no_point c h = grind (arith, nat_tests)

digits_small : (ds : List ℕ) → Digits ds → list_all (λ c. nat_lt c 128) ds ≡ true
digits_small [] h = refl
digits_small (c ∷ ds) h =
    let parts = and_parts (is_digit c) (list_all is_digit ds) h in
    and_from (nat_lt c 128) (list_all (λ d. nat_lt d 128) ds) (digit_small c parts.0) (digits_small ds parts.1)

no_point : (ds : List ℕ) → Digits ds → has_fraction ds ≡ false
no_point [] h = refl
no_point (c ∷ ds) h =
    let parts = and_parts (is_digit c) (list_all is_digit ds) h in
    ap (λ b. b || list_any (λ d. d == 46) ds) (digit_no_point c parts.0) ∙ no_point ds parts.1

not_wide : (k : ℕ) → k ≤ 9223372036854775807 → nat_lt 9223372036854775807 k ≡ false
not_wide k h = grind (arith, nat_tests)

number_is : (k : ℕ) → k ≤ 9223372036854775807 → Reads (Shared (Number (pos k)))
number_is k h =
    let n = numeral k (omega (arith, h)) in
    let wide : is_wide (decimal k) ≡ false = ap (nat_lt 9223372036854775807) n.2 ∙ not_wide k h in record {
      sort = T.Number;
      chars = decimal k;
      token = inl n.0;
      text = small_text (decimal k) (digits_small (decimal k) n.1);
      content = λ named g. ap (λ v. Shared (Number (pos (if nat_lt 9223372036854775807 v then 9223372036854775807 else v)))) n.2 ∙ ap (λ b. Shared (Number (pos (if b then 9223372036854775807 else k)))) (not_wide k h);
      fine = λ named p g. rw wide (rw (no_point (decimal k) n.1) refl);
      leads = refl;
      gives = refl;
    }

pub number_reads : (n : ℤ) → IsNumber n → Reads (Shared (Number n))
number_reads n g = subst (λ m. Reads (Shared (Number m))) (sym g.1) (number_is g.0 g.2)
