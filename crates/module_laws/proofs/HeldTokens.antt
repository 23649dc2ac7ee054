-- The names, texts and numbers of a text's tokens are such as tokens can have: each is written so again.
use Rattle.std.proofs.Common.{◌≡◌, ◌≢◌, ℕ, ◌≤◌, List, [], ◌∷◌, ◌++◌, Option, None, Some, Ok, true, false, refl, sym, ap, subst, ◌∙◌, arith}
use Rattle.std.specs.Prelude.{Bool, ◌||◌, map, encode_utf8_all}
use Rattle.std.specs.Char.{encode_utf8}
use Rattle.std.specs.List.{list_all, flat_map}
use Rattle.std.proofs.lemmas.Bool.{and_parts, and_from}
use Rattle.std.proofs.lemmas.Bool.Decides.{nat_tests}
use Rattle.atl_base.specs.declared.place.Place.{Place}
use Rattle.atl_tree.specs.declared.token.Token.{Token}
use Rattle.atl_tree.specs.declared.token.Tokens.{Tokens}
use Rattle.atl_tree.specs.declared.token.TokenSort.{TokenSort}
use Rattle.atl_tree.specs.declared.token.TokenSort.TheVariants as T
use Rattle.atl_tree.specs.Pieces.{Piece, IsPieceOf, IsToken, IsPlain, IsQuoted, IsWords, Sign, Itself, Escaped, is_sign, spelling, is_letter, is_digit, is_in_quotes, is_in_words}
use Rattle.atl_tree.specs.Cutting.{Begins}
use Rattle.atl_tree.specs.Tokens.{token_of, tokens_from, place, value_from, begins_arrow, begin_byte, body_of, tokens_of}
use Rattle.atl_tree.proofs.Exact.{exact}
use Rattle.ocl_parse.specs.declared.sign.Sign.{Sign as SomeSign}
use Rattle.ocl_parse.specs.declared.symbol.Symbol.TheVariants.{Fixed}
use Rattle.ocl_parse.specs.Signs.{word as sign_of, mark as mark_of}
use Rattle.ocl_parse.specs.Symbols.{unquoted, resolved_char, resolved_from, at_most, value_of, fixed_or_name}
use Rattle.ocl_parse.proofs.Resolving.{resolved_plain, resolved_backslash, resolved_behind, resolved_quote}
use Rattle.module_grammar.specs.declared.keyword.Keyword.{Keyword}
use Rattle.module_grammar.specs.Keywords.{keyword, arrow}
use Rattle.module_grammar.specs.Marks.{word_or, content_of, marks}
use Rattle.module_laws.specs.Held.{IsNameText, IsWordsText, IsHeld, AreHeld}
use Rattle.module_laws.proofs.ReadNames.{quoted_outside}

letter_inside : (c : ℕ) → (is_letter c || is_digit c) ≡ true → is_in_quotes c ≡ true
unfolding is_letter is_digit is_in_quotes
letter_inside c h = grind (arith, nat_tests)

letter_stays : (c : ℕ) → is_letter c ≡ true → is_in_quotes c ≡ true
unfolding is_letter is_in_quotes
letter_stays c h = grind (arith, nat_tests)

letters_inside : (w : List ℕ) → list_all (λ d. is_letter d || is_digit d) w ≡ true → list_all is_in_quotes w ≡ true
letters_inside [] h = refl
letters_inside (c ∷ w) h =
    let parts = and_parts (is_letter c || is_digit c) (list_all (λ d. is_letter d || is_digit d) w) h in
    and_from (is_in_quotes c) (list_all is_in_quotes w) (letter_inside c parts.0) (letters_inside w parts.1)

plain_inside : (w : List ℕ) → IsPlain w → list_all is_in_quotes w ≡ true
plain_inside [] h = absurd h
plain_inside (c ∷ w) h = and_from (is_in_quotes c) (list_all is_in_quotes w) (letter_stays c h.0) (letters_inside w h.1)

plain_name : (w : List ℕ) → IsPlain w → IsNameText (encode_utf8_all w)
plain_name w h = (w, plain_inside w h, refl)

quoted_name : (w : List ℕ) → IsQuoted w → IsNameText (flat_map unquoted (encode_utf8_all w))
quoted_name w h = (h.0, h.1, sym (quoted_outside h.0 h.1) ∙ ap (λ l. flat_map unquoted (encode_utf8_all l)) (sym h.2))

-- what a character of a text as it is written stands for
abbrev meaning : Sign → ℕ
meaning (Itself c) = c
meaning (Escaped c) = resolved_char c

no_backslash : (c : ℕ) → is_in_words c ≡ true → c ≢ 92
unfolding is_in_words
no_backslash c h = grind (arith, nat_tests)

no_quote : (c : ℕ) → is_in_words c ≡ true → c ≢ 39
unfolding is_in_words
no_quote c h = grind (arith, nat_tests)

signs_mean : (signs : List Sign) → list_all is_sign signs ≡ true → resolved_from false (encode_utf8_all (flat_map spelling signs ++ (39 ∷ []))) ≡ encode_utf8_all (map meaning signs)
signs_mean [] h = resolved_quote [] 39 [] refl
signs_mean (Itself c ∷ signs) h =
    let parts = and_parts (is_in_words c) (list_all is_sign signs) h in
    resolved_plain [] c (encode_utf8_all (flat_map spelling signs ++ (39 ∷ []))) (no_backslash c parts.0) (no_quote c parts.0) ∙ ap (λ l. encode_utf8 c ++ l) (signs_mean signs parts.1)
signs_mean (Escaped c ∷ signs) h =
    let parts = and_parts (is_sign (Escaped c)) (list_all is_sign signs) h in
    let rest = encode_utf8_all (flat_map spelling signs ++ (39 ∷ [])) in
    resolved_backslash [] 92 (encode_utf8 c ++ rest) refl ∙ resolved_behind [] c rest ∙ ap (λ l. encode_utf8 (resolved_char c) ++ l) (signs_mean signs parts.1)

words_text : (w : List ℕ) → IsWords w → IsWordsText (resolved_from false (encode_utf8_all w))
words_text w h = (
  map meaning h.0,
  sym (signs_mean h.0 h.1) ∙ sym (resolved_quote [] 39 (encode_utf8_all (flat_map spelling h.0 ++ (39 ∷ []))) refl) ∙ ap (λ l. resolved_from false (encode_utf8_all l)) (sym h.2),
)

small : (n : ℕ) → at_most n ≤ 9223372036854775807
small n = grind (arith, nat_tests)

held_or : (o : Option Keyword) (s : Option SomeSign) (text : List ℕ) → IsNameText text → IsHeld (word_or o (fixed_or_name s text))
held_or (Some k) s text h = tt
held_or None (Some s) text h = tt
held_or None None text h = h

held_mark : (o : Option Keyword) (text : List ℕ) → IsHeld (word_or o (Fixed (mark_of text)))
held_mark (Some k) text = tt
held_mark None text = tt

held_content : (s : TokenSort) (w : List ℕ) (named : Bool) → IsToken s w → IsHeld (content_of s (encode_utf8_all w) named)
held_content T.Plain w true h = plain_name w h
held_content T.Plain w false h = held_or (keyword (encode_utf8_all w)) (sign_of (encode_utf8_all w)) (encode_utf8_all w) (plain_name w h)
held_content T.Quoted w named h = quoted_name w h
held_content T.Words w named h = words_text w h
held_content T.Number w named h = (value_of (encode_utf8_all w), refl, small (value_from 0 (encode_utf8_all w)))
held_content T.Mark w named h = held_mark (arrow (encode_utf8_all w)) (encode_utf8_all w)

-- a piece's token before tokens whose marks are held
held_more : (s : Option TokenSort) (w : List ℕ) (at : ℕ) (p : Place) (ts : List Token) → IsPieceOf s w → ((led : Bool) → AreHeld (marks led ts)) → (led : Bool) → AreHeld (marks led (token_of s (encode_utf8_all w) at p ++ ts))
held_more None w at p ts h k led = k led
held_more (Some s) w at p ts h k led = (held_content s w (led || begins_arrow ts) h, k _)

held_pieces : (ps : List Piece) (text rest : List ℕ) (at : ℕ) (p : Place) → Begins text ps rest → (led : Bool) → AreHeld (marks led (tokens_from at p ps))
held_pieces [] text rest at p h led = tt
held_pieces (q ∷ qs) text rest at p h led = held_more q.sort q.chars at p _ h.2 (held_pieces qs h.0 rest _ _ h.4) led

pub held_tokens : (text : List ℕ) (l : Tokens) → tokens_of text ≡ Ok l → AreHeld (marks false l.list)
held_tokens text l e =
    let t = (exact text).tells l e in
    subst (λ ts. AreHeld (marks false ts)) (sym t.2) (held_pieces t.0 (body_of text) [] (begin_byte text) (place 1 1) t.1 false)
