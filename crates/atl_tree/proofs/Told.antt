-- From the scanner's answer to the tokens of a text: the byte order mark, and the verdict.
use Rattle.std.proofs.Common.{◌≡◌, ℕ, ◌+◌, cond, ◌==◌, Bool, true, false, List, [], ◌∷◌, drop, refl, sym, ap, subst, ◌∙◌, arith, Result, Err, eqb-true}
use Rattle.std.specs.Str.{IsUtf8, encode_utf8_all, all_scalars, IsCharBoundary, chars}
use Rattle.std.specs.Char.{len_utf8}
use Rattle.std.proofs.lemmas.Bool.{and_parts}
use Rattle.std.proofs.lemmas.Str.{chars-encodes, chars_from_encodes, IsCharBoundary-start, IsCharBoundary-past_char, drop_past_char}
use Rattle.atl_tree.specs.declared.token.Tokens.{Tokens}
use Rattle.atl_tree.specs.declared.token.LexRefusal.{LexRefusal}
use Rattle.atl_tree.specs.declared.token.LexRefusal.TheVariants as R
use Rattle.atl_tree.specs.declared.cursor.Scanned.{Scanned}
use Rattle.atl_tree.specs.Machine.{cut_of}
use Rattle.atl_tree.specs.Tokens.{body_of, begin_byte, first_fault, verdict, lexed, tokens_of, Fails}
use Rattle.atl_tree.specs.Scanner.{scan_of}

-- a text begins with its mark, and the characters after it are its body
abbrev pub Marked : List ℕ → ℕ → List ℕ → Type 0
Marked text n body = IsCharBoundary text n × (chars (drop n text) ≡ body)

marked-on : (c : ℕ) (cs : List ℕ) (b : Bool) → all_scalars (c ∷ cs) ≡ true → (c == 0xFEFF) ≡ b → Marked (encode_utf8_all (c ∷ cs)) (cond b 3 0) (cond b cs (c ∷ cs))
marked-on c cs true s e =
    let is : c ≡ 0xFEFF = eqb-true c 0xFEFF e in
    let u : IsUtf8 (encode_utf8_all (c ∷ cs)) = (c ∷ cs, (s, refl)) in
    let n : 0 + len_utf8 c ≡ 3 = ap (λ d. 0 + len_utf8 d) is in (
      subst (IsCharBoundary (encode_utf8_all (c ∷ cs))) n (IsCharBoundary-past_char (encode_utf8_all (c ∷ cs)) (encode_utf8_all cs) 0 c (omega arith) u refl),
      ap (λ k. chars (drop k (encode_utf8_all (c ∷ cs)))) (sym n) ∙ ap chars (drop_past_char (encode_utf8_all (c ∷ cs)) (encode_utf8_all cs) 0 c refl)
          ∙ chars-encodes cs (and_parts _ _ s).1,
    )
marked-on c cs false s e = (IsCharBoundary-start (encode_utf8_all (c ∷ cs)) (c ∷ cs, (s, refl)), chars-encodes (c ∷ cs) s)

marked : (cs : List ℕ) → all_scalars cs ≡ true → Marked (encode_utf8_all cs) (begin_byte cs) (body_of cs)
marked [] s = (IsCharBoundary-start [] ([], (refl, refl)), chars-encodes [] s)
marked (c ∷ cs) s = marked-on c cs (c == 0xFEFF) s refl

pub marked-text : (text : List ℕ) → IsUtf8 text → Marked text (begin_byte (chars text)) (body_of (chars text))
marked-text text u =
    let same : u.0 ≡ chars text = chars_from_encodes u.0 text u u.1.1 in
    subst (λ cs. Marked text (begin_byte cs) (body_of cs)) same (subst (λ t. Marked t (begin_byte u.0) (body_of u.0)) u.1.1 (marked u.0 u.1.0))

-- what the scanner answered decides
pub told : (text : List ℕ) (from : ℕ) (s : Scanned) → IsUtf8 text → from ≡ begin_byte (chars text) → s ≡ scan_of from (cut_of (chars (drop from text)))
    → tokens_of (chars text) ≡ verdict (first_fault false s.list) s.stop s.list s.place
unfolding tokens_of
told text from s u f e =
    let body : chars (drop from text) ≡ body_of (chars text) = ap (λ n. chars (drop n text)) f ∙ (marked-text text u).1 in
    ap (λ cs. lexed (begin_byte (chars text)) (cut_of cs)) (sym body)
    ∙ ap (λ n. lexed n (cut_of (chars (drop from text)))) (sym f)
    ∙ ap (λ t. verdict (first_fault false t.list) t.stop t.list t.place) (sym e)

pub fails : (e : LexRefusal) (r : Result Tokens LexRefusal) → r ≡ Err e → Fails e r
fails (R.BadByte p) r h = h
fails (R.OpenText p) r h = h
fails (R.WideNumber p) r h = h
fails (R.RealNumber p) r h = h
fails R.Memory r h = tt
