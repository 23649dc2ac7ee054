-- The tokens of canonical text are the canonical marks.
use Rattle.std.proofs.Common.{◌≡◌, ℕ, inl, inr, List, [], ◌∷◌, ◌++◌, refl, sym, ap, subst, ◌∙◌, append_assoc, arith}
use Rattle.std.specs.Prelude.{encode_utf8_all}
use Rattle.std.proofs.lemmas.List.{map-append}
use Rattle.std.proofs.lemmas.Str.{encode_ascii, encodes-append, encodes_same}
use Rattle.atl_tree.specs.declared.module.Module.{Module}
use Rattle.atl_tree.specs.Tokens.{tokens_of}
use Rattle.atl_tree.proofs.Exact.{exact}
use Rattle.ocl_parse.specs.declared.sign.Sign.TheVariants as S
use Rattle.ocl_parse.specs.declared.symbol.Symbol.TheVariants.{Number, Words, Name as Named, Fixed}
use Rattle.module_grammar.specs.declared.keyword.Keyword.TheVariants as W
use Rattle.module_grammar.specs.Marks.{Content, Word, Shared, Mark, word, sign, called}
use Rattle.module_grammar.specs.Grammar.{WrittenItem, Help, Make, Define, Matched, Called, Items, NoItems, MoreItems, WrittenModule, Composed, models_marks, words_marks, start_marks, item_marks, items_marks, module_marks}
use Rattle.module_print.specs.Writing.{module_written}
use Rattle.module_print.specs.Printed.{mark_text, line_text, items_text, text_of, printed}
use Rattle.module_laws.specs.ReadBack.{contents, TokensAre}
use Rattle.module_laws.proofs.Spacing.{IsGood, AreGood}
use Rattle.module_laws.proofs.Tokened.{Reads, Texts, Texts-append, texts_have_tokens}
use Rattle.module_laws.proofs.ReadMarks.{keyword_reads, sign_reads}
use Rattle.module_laws.proofs.ReadNames.{name_reads, words_read, number_reads}
use Rattle.module_laws.proofs.Clears.{clear_module}

reads : (t : Content) → IsGood t → Reads t
reads (Word k) g = keyword_reads k
reads (Shared (Number n)) g = number_reads n g
reads (Shared (Words s)) g = words_read s g
reads (Shared (Named s)) g = name_reads s g
reads (Shared (Fixed s)) g = sign_reads s g

-- characters of these bytes that are read as these marks
abbrev Lined : List Mark → List ℕ → Type 0
Lined ts text = (cs : List ℕ) × Texts (contents ts) cs × (encode_utf8_all cs ≡ text)

one_blank : encode_utf8_all (32 ∷ []) ≡ 32 ∷ []
one_blank = ap (λ l. l ++ []) (encode_ascii 32 (omega arith))

one_line : encode_utf8_all (10 ∷ []) ≡ 10 ∷ []
one_line = ap (λ l. l ++ []) (encode_ascii 10 (omega arith))

spelt_blank : (a rest : List ℕ) → encode_utf8_all (a ++ (32 ∷ rest)) ≡ encode_utf8_all a ++ (32 ∷ encode_utf8_all rest)
spelt_blank a rest = encodes-append a (32 ∷ rest) ∙ ap (λ l. encode_utf8_all a ++ l) (encodes-append (32 ∷ []) rest ∙ ap (λ l. l ++ encode_utf8_all rest) one_blank)

spelt_line : (a : List ℕ) → encode_utf8_all (a ++ (10 ∷ [])) ≡ encode_utf8_all a ++ (10 ∷ [])
spelt_line a = encodes-append a (10 ∷ []) ∙ ap (λ l. encode_utf8_all a ++ l) one_line

line : (t : Mark) (ts : List Mark) → AreGood (t ∷ ts) → Lined (t ∷ ts) (line_text (t ∷ ts))
line t [] g = let r = reads t.content g.0 in (r.chars ++ (10 ∷ []), (r, 10, [], inr refl, refl, refl), spelt_line r.chars ∙ ap (λ l. l ++ (10 ∷ [])) r.text)
line t (u ∷ ts) g =
    let r = reads t.content g.0 in
    let rest = line u ts g.1 in (
      r.chars ++ (32 ∷ rest.0),
      (r, 32, rest.0, inl refl, refl, rest.1),
      spelt_blank r.chars rest.0 ∙ ap (λ l. l ++ (32 ∷ encode_utf8_all rest.0)) r.text ∙ ap (λ l. mark_text t.content ++ (32 ∷ l)) rest.2,
    )

abbrev IsSome : List Mark → Type 0
IsSome [] = ⊥
IsSome (t ∷ ts) = Unit {0}

some_line : (ts : List Mark) → IsSome ts → AreGood ts → Lined ts (line_text ts)
some_line [] h g = absurd h
some_line (t ∷ ts) h g = line t ts g

both : (ts us : List Mark) (a b : List ℕ) → Lined ts a → Lined us b → Lined (ts ++ us) (a ++ b)
both ts us a b l k = (
  l.0 ++ k.0,
  subst (λ c. Texts c (l.0 ++ k.0)) (sym (map-append (λ m. m.content) ts us)) (Texts-append (contents ts) (contents us) l.0 k.0 l.1 k.1),
  encodes-append l.0 k.0 ∙ ap (λ x. x ++ encode_utf8_all k.0) l.2 ∙ ap (λ x. a ++ x) k.2,
)

good_parts : (ts us : List Mark) → AreGood (ts ++ us) → AreGood ts × AreGood us
good_parts [] us g = (tt, g)
good_parts (t ∷ ts) us g = let r = good_parts ts us g.1 in ((g.0, r.0), r.1)

some_append : (ts us : List Mark) → IsSome us → IsSome (ts ++ us)
some_append [] us h = h
some_append (t ∷ ts) us h = tt

some_item : (i : WrittenItem) → IsSome (item_marks i)
some_item (Help (Define p c q r n s t k u e v)) = tt
some_item (Make (Matched ws p n x q r ss g u t b s)) = some_append (words_marks ws) _ tt
some_item (Make (Called x p n ps q u t b s)) = some_append (start_marks x) _ tt

items_lined : (xs : Items) → AreGood (items_marks xs) → Lined (items_marks xs) (items_text xs)
items_lined NoItems g = ([], refl, refl)
items_lined (MoreItems xs i) g =
    let parts = good_parts (items_marks xs) (item_marks i) g in
    both (items_marks xs) (item_marks i) (items_text xs) (line_text (item_marks i)) (items_lined xs parts.0) (some_line (item_marks i) (some_item i) parts.1)

module_lined : (w : WrittenModule) → AreGood (module_marks w) → Lined (module_marks w) (text_of w)
module_lined (Composed p n q r ts s ss t xs) g =
    let first : List Mark = word p W.Module ∷ called n ∷ sign q S.Semicolon ∷ [] in
    let second : List Mark = word r W.Create ∷ (models_marks ts ++ (word s W.From ∷ (models_marks ss ++ (sign t S.Semicolon ∷ [])))) in
    let whole : module_marks (Composed p n q r ts s ss t xs) ≡ first ++ (second ++ items_marks xs) = simp append_assoc in
    let parts = good_parts first (second ++ items_marks xs) (subst AreGood whole g) in
    let others = good_parts second (items_marks xs) parts.1 in
    subst (λ l. Lined l (text_of (Composed p n q r ts s ss t xs))) (sym whole)
    (both first (second ++ items_marks xs) (line_text first) (line_text second ++ items_text xs) (some_line first tt parts.0)
    (both second (items_marks xs) (line_text second) (items_text xs) (some_line second tt others.0) (items_lined xs others.1)))

-- canonical text is one of characters
pub canonical_characters : (m : Module) → AreGood (module_marks (module_written m)) → (cs : List ℕ) × (encode_utf8_all cs ≡ printed m)
canonical_characters m g = let lined = module_lined (module_written m) g in (lined.0, lined.2)

pub printed_tokens : (m : Module) (cs : List ℕ) → encode_utf8_all cs ≡ printed m → AreGood (module_marks (module_written m)) → TokensAre m cs
printed_tokens m cs e g =
    let lined = module_lined (module_written m) g in
    let same : lined.0 ≡ cs = encodes_same lined.0 cs (lined.2 ∙ sym e) in
    let t = texts_have_tokens (contents (module_marks (module_written m))) lined.0 lined.1 (clear_module (module_written m)) in
    (t.0, ap tokens_of (sym same) ∙ (exact lined.0).reads t.0 t.1, t.2)
