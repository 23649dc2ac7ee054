-- The text of each keyword and mark is read as that keyword or mark.
use Rattle.std.proofs.Common.{◌≡◌, ℕ, ◌<◌, List, [], ◌∷◌, ◌++◌, None, true, false, refl, ap, ◌∙◌, arith}
use Rattle.std.specs.Prelude.{Bool, ◌||◌, nat_lt, codes, encode_utf8_all}
use Rattle.std.specs.List.{list_all}
use Rattle.std.specs.Str.{bytes_eq}
use Rattle.std.proofs.lemmas.Bool.{and_parts}
use Rattle.std.proofs.lemmas.Bool.Decides.{nat_tests}
use Rattle.std.proofs.lemmas.Str.{encode_ascii}
use Rattle.atl_base.specs.declared.place.Place.{Place}
use Rattle.atl_tree.specs.declared.token.TokenSort.TheVariants as T
use Rattle.atl_tree.specs.declared.expr.BinaryOp.{BinaryOp}
use Rattle.atl_tree.specs.declared.expr.BinaryOp.TheVariants as O
use Rattle.atl_tree.specs.declared.kind.BasicWord.TheVariants as B
use Rattle.atl_tree.specs.declared.kind.CollWord.TheVariants as C
use Rattle.atl_tree.specs.Pieces.{IsPlain, IsMark, is_letter, is_digit, is_single}
use Rattle.atl_tree.specs.Tokens.{fault_of}
use Rattle.ocl_parse.specs.declared.sign.Constant.TheVariants as N
use Rattle.ocl_parse.specs.declared.sign.Ender.TheVariants as E
use Rattle.ocl_parse.specs.declared.sign.Sign.{Sign}
use Rattle.ocl_parse.specs.declared.sign.Sign.TheVariants as S
use Rattle.ocl_parse.specs.declared.symbol.Symbol.TheVariants.{Fixed}
use Rattle.ocl_parse.specs.Signs as G
use Rattle.module_grammar.specs.declared.keyword.Keyword.{Keyword}
use Rattle.module_grammar.specs.declared.keyword.Keyword.TheVariants as W
use Rattle.module_grammar.specs.Keywords as K
use Rattle.module_grammar.specs.Marks.{Content, Word, Shared, content_of}
use Rattle.module_print.specs.Printed.{mark_text}
use Rattle.module_laws.proofs.Spacing.{is_lead, is_gives, is_name, IsSign}
use Rattle.module_laws.proofs.Tokened.{Reads}

-- a byte of ASCII is its own character
pub small_text : (w : List ℕ) → list_all (λ c. nat_lt c 128) w ≡ true → encode_utf8_all w ≡ w
small_text [] h = refl
small_text (c ∷ w) h =
    let parts = and_parts (nat_lt c 128) (list_all (λ d. nat_lt d 128) w) h in
    let small : nat_lt c 128 ≡ true = parts.0 in
    let below : c < 128 = grind (arith, nat_tests) in
    ap (λ l. l ++ encode_utf8_all w) (encode_ascii c below) ∙ ap (λ l. c ∷ l) (small_text w parts.1)

-- a plain word that is no name
pub plain_reads : (t : Content) → IsPlain (mark_text t) → list_all (λ c. nat_lt c 128) (mark_text t) ≡ true → content_of T.Plain (mark_text t) false ≡ t
    → bytes_eq (mark_text t) (codes "Real") ≡ false → is_name t ≡ false → false ≡ is_lead t → false ≡ is_gives t → Reads t
plain_reads t token small content real name lead gives = record {
  sort = T.Plain;
  chars = mark_text t;
  token = token;
  text = small_text (mark_text t) small;
  content = of_content;
  fine = of_fault;
  leads = lead;
  gives = gives;
}
  where
    of_content : (named : Bool) → (named ≡ true → is_name t ≡ true) → content_of T.Plain (mark_text t) named ≡ t
    of_content false h = content
    of_content true h = absurd (let yes : is_name t ≡ true = h refl in cc)

    of_fault : (named : Bool) (p : Place) → (named ≡ true → is_name t ≡ true) → fault_of T.Plain (mark_text t) named p ≡ None
    of_fault false p h = rw real refl
    of_fault true p h = absurd (let yes : is_name t ≡ true = h refl in cc)

pub mark_reads : (t : Content) → IsMark (mark_text t) → list_all (λ c. nat_lt c 128) (mark_text t) ≡ true → ((named : Bool) → content_of T.Mark (mark_text t) named ≡ t)
    → bytes_eq (mark_text t) (codes "/") ≡ false → (bytes_eq (mark_text t) (codes ".") || bytes_eq (mark_text t) (codes "->") || bytes_eq (mark_text t) (codes "!")) ≡ is_lead t
    → bytes_eq (mark_text t) (codes "<-") ≡ is_gives t → Reads t
mark_reads t token small content slash lead gives = record {
  sort = T.Mark;
  chars = mark_text t;
  token = token;
  text = small_text (mark_text t) small;
  content = λ named h. content named;
  fine = λ named p h. rw slash refl;
  leads = lead;
  gives = gives;
}

pub keyword_reads : (k : Keyword) → Reads (Word k)
unfolding is_letter is_digit K.words G.operator_words G.structure_words G.constant_words G.type_words G.other_words is_single G.marks
keyword_reads W.Module = plain_reads (Word W.Module) (refl, refl) refl refl refl refl refl refl
keyword_reads W.Create = plain_reads (Word W.Create) (refl, refl) refl refl refl refl refl refl
keyword_reads W.From = plain_reads (Word W.From) (refl, refl) refl refl refl refl refl refl
keyword_reads W.Refining = plain_reads (Word W.Refining) (refl, refl) refl refl refl refl refl refl
keyword_reads W.Uses = plain_reads (Word W.Uses) (refl, refl) refl refl refl refl refl refl
keyword_reads W.Query = plain_reads (Word W.Query) (refl, refl) refl refl refl refl refl refl
keyword_reads W.Library = plain_reads (Word W.Library) (refl, refl) refl refl refl refl refl refl
keyword_reads W.Helper = plain_reads (Word W.Helper) (refl, refl) refl refl refl refl refl refl
keyword_reads W.Context = plain_reads (Word W.Context) (refl, refl) refl refl refl refl refl refl
keyword_reads W.Def = plain_reads (Word W.Def) (refl, refl) refl refl refl refl refl refl
keyword_reads W.Rule = plain_reads (Word W.Rule) (refl, refl) refl refl refl refl refl refl
keyword_reads W.Lazy = plain_reads (Word W.Lazy) (refl, refl) refl refl refl refl refl refl
keyword_reads W.Unique = plain_reads (Word W.Unique) (refl, refl) refl refl refl refl refl refl
keyword_reads W.Abstract = plain_reads (Word W.Abstract) (refl, refl) refl refl refl refl refl refl
keyword_reads W.Entrypoint = plain_reads (Word W.Entrypoint) (refl, refl) refl refl refl refl refl refl
keyword_reads W.Endpoint = plain_reads (Word W.Endpoint) (refl, refl) refl refl refl refl refl refl
keyword_reads W.Extends = plain_reads (Word W.Extends) (refl, refl) refl refl refl refl refl refl
keyword_reads W.Using = plain_reads (Word W.Using) (refl, refl) refl refl refl refl refl refl
keyword_reads W.To = plain_reads (Word W.To) (refl, refl) refl refl refl refl refl refl
keyword_reads W.Do = plain_reads (Word W.Do) (refl, refl) refl refl refl refl refl refl
keyword_reads W.For = plain_reads (Word W.For) (refl, refl) refl refl refl refl refl refl
keyword_reads W.Gives = mark_reads (Word W.Gives) refl refl (λ named. refl) refl refl refl

operator_reads : (o : BinaryOp) → Reads (Shared (Fixed (S.Operator o)))
unfolding is_letter is_digit K.words G.operator_words G.structure_words G.constant_words G.type_words G.other_words is_single G.marks
operator_reads O.And = plain_reads (Shared (Fixed (S.Operator O.And))) (refl, refl) refl refl refl refl refl refl
operator_reads O.Or = plain_reads (Shared (Fixed (S.Operator O.Or))) (refl, refl) refl refl refl refl refl refl
operator_reads O.Xor = plain_reads (Shared (Fixed (S.Operator O.Xor))) (refl, refl) refl refl refl refl refl refl
operator_reads O.Implies = plain_reads (Shared (Fixed (S.Operator O.Implies))) (refl, refl) refl refl refl refl refl refl
operator_reads O.Eq = mark_reads (Shared (Fixed (S.Operator O.Eq))) refl refl (λ named. refl) refl refl refl
operator_reads O.Ne = mark_reads (Shared (Fixed (S.Operator O.Ne))) refl refl (λ named. refl) refl refl refl
operator_reads O.Lt = mark_reads (Shared (Fixed (S.Operator O.Lt))) refl refl (λ named. refl) refl refl refl
operator_reads O.Gt = mark_reads (Shared (Fixed (S.Operator O.Gt))) refl refl (λ named. refl) refl refl refl
operator_reads O.Le = mark_reads (Shared (Fixed (S.Operator O.Le))) refl refl (λ named. refl) refl refl refl
operator_reads O.Ge = mark_reads (Shared (Fixed (S.Operator O.Ge))) refl refl (λ named. refl) refl refl refl
operator_reads O.Plus = mark_reads (Shared (Fixed (S.Operator O.Plus))) refl refl (λ named. refl) refl refl refl
operator_reads O.Minus = mark_reads (Shared (Fixed (S.Operator O.Minus))) refl refl (λ named. refl) refl refl refl
operator_reads O.Times = mark_reads (Shared (Fixed (S.Operator O.Times))) refl refl (λ named. refl) refl refl refl
operator_reads O.Div = plain_reads (Shared (Fixed (S.Operator O.Div))) (refl, refl) refl refl refl refl refl refl
operator_reads O.Mod = plain_reads (Shared (Fixed (S.Operator O.Mod))) (refl, refl) refl refl refl refl refl refl

pub sign_reads : (s : Sign) → IsSign s → Reads (Shared (Fixed s))
unfolding is_letter is_digit K.words G.operator_words G.structure_words G.constant_words G.type_words G.other_words is_single G.marks
sign_reads (S.Operator o) h = operator_reads o
sign_reads S.Not h = plain_reads (Shared (Fixed S.Not)) (refl, refl) refl refl refl refl refl refl
sign_reads (S.Constant N.True) h = plain_reads (Shared (Fixed (S.Constant N.True))) (refl, refl) refl refl refl refl refl refl
sign_reads (S.Constant N.False) h = plain_reads (Shared (Fixed (S.Constant N.False))) (refl, refl) refl refl refl refl refl refl
sign_reads (S.Constant N.Undefined) h = plain_reads (Shared (Fixed (S.Constant N.Undefined))) (refl, refl) refl refl refl refl refl refl
sign_reads (S.Constant N.Own) h = plain_reads (Shared (Fixed (S.Constant N.Own))) (refl, refl) refl refl refl refl refl refl
sign_reads (S.Constant N.Module) h = plain_reads (Shared (Fixed (S.Constant N.Module))) (refl, refl) refl refl refl refl refl refl
sign_reads (S.Basic B.Words) h = plain_reads (Shared (Fixed (S.Basic B.Words))) (refl, refl) refl refl refl refl refl refl
sign_reads (S.Basic B.Whole) h = plain_reads (Shared (Fixed (S.Basic B.Whole))) (refl, refl) refl refl refl refl refl refl
sign_reads (S.Basic B.Truth) h = plain_reads (Shared (Fixed (S.Basic B.Truth))) (refl, refl) refl refl refl refl refl refl
sign_reads (S.Basic B.Any) h = plain_reads (Shared (Fixed (S.Basic B.Any))) (refl, refl) refl refl refl refl refl refl
sign_reads (S.Coll C.Sequence) h = plain_reads (Shared (Fixed (S.Coll C.Sequence))) (refl, refl) refl refl refl refl refl refl
sign_reads (S.Coll C.Set) h = plain_reads (Shared (Fixed (S.Coll C.Set))) (refl, refl) refl refl refl refl refl refl
sign_reads (S.Coll C.Bag) h = plain_reads (Shared (Fixed (S.Coll C.Bag))) (refl, refl) refl refl refl refl refl refl
sign_reads (S.Coll C.OrderedSet) h = plain_reads (Shared (Fixed (S.Coll C.OrderedSet))) (refl, refl) refl refl refl refl refl refl
sign_reads S.Let h = plain_reads (Shared (Fixed S.Let)) (refl, refl) refl refl refl refl refl refl
sign_reads S.If h = plain_reads (Shared (Fixed S.If)) (refl, refl) refl refl refl refl refl refl
sign_reads S.Dot h = mark_reads (Shared (Fixed S.Dot)) refl refl (λ named. refl) refl refl refl
sign_reads S.Arrow h = mark_reads (Shared (Fixed S.Arrow)) refl refl (λ named. refl) refl refl refl
sign_reads S.Open h = mark_reads (Shared (Fixed S.Open)) refl refl (λ named. refl) refl refl refl
sign_reads S.OpenBrace h = mark_reads (Shared (Fixed S.OpenBrace)) refl refl (λ named. refl) refl refl refl
sign_reads S.Colon h = mark_reads (Shared (Fixed S.Colon)) refl refl (λ named. refl) refl refl refl
sign_reads S.Semicolon h = mark_reads (Shared (Fixed S.Semicolon)) refl refl (λ named. refl) refl refl refl
sign_reads S.Bang h = mark_reads (Shared (Fixed S.Bang)) refl refl (λ named. refl) refl refl refl
sign_reads S.Hash h = mark_reads (Shared (Fixed S.Hash)) refl refl (λ named. refl) refl refl refl
sign_reads (S.End E.Close) h = mark_reads (Shared (Fixed (S.End E.Close))) refl refl (λ named. refl) refl refl refl
sign_reads (S.End E.CloseBrace) h = mark_reads (Shared (Fixed (S.End E.CloseBrace))) refl refl (λ named. refl) refl refl refl
sign_reads (S.End E.Comma) h = mark_reads (Shared (Fixed (S.End E.Comma))) refl refl (λ named. refl) refl refl refl
sign_reads (S.End E.Bar) h = mark_reads (Shared (Fixed (S.End E.Bar))) refl refl (λ named. refl) refl refl refl
sign_reads (S.End E.Then) h = plain_reads (Shared (Fixed (S.End E.Then))) (refl, refl) refl refl refl refl refl refl
sign_reads (S.End E.Else) h = plain_reads (Shared (Fixed (S.End E.Else))) (refl, refl) refl refl refl refl refl refl
sign_reads (S.End E.Endif) h = plain_reads (Shared (Fixed (S.End E.Endif))) (refl, refl) refl refl refl refl refl refl
sign_reads (S.End E.In) h = plain_reads (Shared (Fixed (S.End E.In))) (refl, refl) refl refl refl refl refl refl
sign_reads S.Other h = absurd h
