-- To an expression the marks of tokens are the tokens' symbols.
use Rattle.std.proofs.Common.{◌≡◌, ℕ, List, [], ◌∷◌, refl, sym, ap, ◌∙◌}
use Rattle.std.specs.Prelude.{Bool, true, false, ◌||◌, map, None, Some, if◌then◌else◌, codes}
use Rattle.std.specs.Str.{bytes_eq}
use Rattle.std.proofs.lemmas.Slice.Eq.{bytes_eq-Decides}
use Rattle.atl_tree.specs.declared.token.Token.{Token}
use Rattle.atl_tree.specs.declared.token.TokenSort.{TokenSort}
use Rattle.atl_tree.specs.declared.token.TokenSort.TheVariants as T
use Rattle.atl_tree.specs.Tokens.{leads_name, begins_arrow}
use Rattle.ocl_parse.specs.declared.sign.Sign.TheVariants as S
use Rattle.ocl_parse.specs.declared.symbol.Symbol.TheVariants.{Fixed}
use Rattle.ocl_parse.specs.Signs as G
use Rattle.ocl_parse.specs.Signs.{word as sign_of, mark as mark_of}
use Rattle.ocl_parse.specs.Symbols.{lexeme, lexemes, symbol_of, fixed_or_name}
use Rattle.module_grammar.specs.declared.keyword.Keyword.{Keyword}
use Rattle.module_grammar.specs.declared.keyword.Keyword.TheVariants as W
use Rattle.module_grammar.specs.Keywords as K
use Rattle.module_grammar.specs.Keywords.{find, keyword, arrow}
use Rattle.module_grammar.specs.Marks.{symbol, word_or, content_of, marks}
use Rattle.module_laws.specs.Laws.{inner}

-- no expression has any of these
abbrev AreOther : List (List ℕ × Keyword) → Type 0
AreOther [] = Unit {0}
AreOther (w ∷ ws) = (sign_of w.0 ≡ Some S.Other) × AreOther ws

words_are_other : AreOther K.words
unfolding K.words G.operator_words G.structure_words G.constant_words G.type_words G.other_words
words_are_other = (refl, (refl, (refl, (refl, (refl, (refl, (refl, (refl, (refl, (refl, (refl, (refl, (refl, (refl, (refl, (refl, (refl, (refl, (refl, (refl, (refl, tt)))))))))))))))))))))

-- a keyword that is found is no symbol of expressions
found : (text : List ℕ) (ws : List (List ℕ × Keyword)) → AreOther ws → symbol (word_or (find text ws) (fixed_or_name (sign_of text) text)) ≡ fixed_or_name (sign_of text) text
found text [] h = refl
found text (w ∷ ws) h = on (found text ws h.1) (bytes_eq text w.0) refl
  where
    on : symbol (word_or (find text ws) (fixed_or_name (sign_of text) text)) ≡ fixed_or_name (sign_of text) text → (t : Bool) → bytes_eq text w.0 ≡ t → symbol (word_or (if t then Some w.1 else find text ws) (fixed_or_name (sign_of text) text)) ≡ fixed_or_name (sign_of text) text
    on again true e = sym (ap (λ s. fixed_or_name s text) (ap sign_of ((bytes_eq-Decides text w.0).0 e) ∙ h.0))
    on again false e = again

arrow_is_other : mark_of (codes "<-") ≡ S.Other
unfolding G.marks
arrow_is_other = refl

arrow_says : (text : List ℕ) → symbol (word_or (arrow text) (Fixed (mark_of text))) ≡ Fixed (mark_of text)
arrow_says text = on (bytes_eq text (codes "<-")) refl
  where
    on : (t : Bool) → bytes_eq text (codes "<-") ≡ t → symbol (word_or (if t then Some W.Gives else None) (Fixed (mark_of text))) ≡ Fixed (mark_of text)
    on true e = sym (ap (λ s. Fixed s) (ap mark_of ((bytes_eq-Decides text (codes "<-")).0 e) ∙ arrow_is_other))
    on false e = refl

content_says : (s : TokenSort) (text : List ℕ) (named : Bool) → symbol (content_of s text named) ≡ symbol_of s text named
content_says T.Plain text true = refl
content_says T.Plain text false = found text K.words words_are_other
content_says T.Quoted text named = refl
content_says T.Words text named = refl
content_says T.Number text named = refl
content_says T.Mark text named = arrow_says text

pub shares : (led : Bool) (ts : List Token) → map inner (marks led ts) ≡ lexemes led ts
shares led [] = refl
shares led (t ∷ ts) = ap (λ s. lexeme t.place s ∷ map inner (marks (leads_name t) ts)) (content_says t.sort t.text (led || begins_arrow ts)) ∙ ap (λ l. lexeme t.place (symbol_of t.sort t.text (led || begins_arrow ts)) ∷ l) (shares (leads_name t) ts)
