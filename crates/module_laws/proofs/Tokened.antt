-- The tokens of a text in which a blank or a line feed stands behind each token.
use Rattle.std.proofs.Common.{◌≡◌, append_assoc, ℕ, ◌+◌, inl, List, [], ◌∷◌, ◌++◌, length, None, Some, true, false, refl, sym, ap, subst, ◌∙◌}
use Rattle.std.specs.Prelude.{Bool, ◌||◌, ◌&&◌, codes, encode_utf8_all}
use Rattle.std.specs.Str.{bytes_eq}
use Rattle.atl_base.specs.declared.place.Place.{Place}
use Rattle.atl_tree.specs.declared.token.Token.{Token}
use Rattle.atl_tree.specs.declared.token.Tokens.{Tokens}
use Rattle.atl_tree.specs.declared.token.TokenSort.{TokenSort}
use Rattle.atl_tree.specs.Pieces.{Piece, IsToken}
use Rattle.atl_tree.specs.Cutting.{Begins}
use Rattle.atl_tree.specs.Machine.{piece}
use Rattle.atl_tree.specs.Tokens.{place, after, token, tokens_from, fault_of, is_mark, leads_name, begins_arrow, or_else, first_fault, body_of, begin_byte, HasTokens}
use Rattle.atl_tree.proofs.Breaks.{Break, break_is_gap, token_longest, gap_longest, unmarked}
use Rattle.module_grammar.specs.Marks.{Content, content_of, marks}
use Rattle.module_print.specs.Printed.{mark_text}
use Rattle.module_laws.specs.ReadBack.{contents}
use Rattle.module_laws.proofs.Spacing.{is_lead, is_gives, is_name, gives_next, Clear}

-- a mark whose text is read as that mark
pub record Reads (t : Content) : Type 0 where
  pub sort : TokenSort
  pub chars : List ℕ
  pub token : IsToken sort chars
  pub text : encode_utf8_all chars ≡ mark_text t
  pub content : (named : Bool) → (named ≡ true → is_name t ≡ true) → content_of sort (mark_text t) named ≡ t
  pub fine : (named : Bool) (p : Place) → (named ≡ true → is_name t ≡ true) → fault_of sort (mark_text t) named p ≡ None
  pub leads : (is_mark sort && (bytes_eq (mark_text t) (codes ".") || bytes_eq (mark_text t) (codes "->") || bytes_eq (mark_text t) (codes "!"))) ≡ is_lead t
  pub gives : (is_mark sort && bytes_eq (mark_text t) (codes "<-")) ≡ is_gives t

-- these characters are the marks' tokens with a break behind each
abbrev pub Texts : List Content → List ℕ → Type 0
Texts [] cs = cs ≡ []
Texts (t ∷ ts) cs = (r : Reads t) × (g : ℕ) × (rest : List ℕ) × Break g × (cs ≡ r.chars ++ (g ∷ rest)) × Texts ts rest

abbrev pieces : (ts : List Content) (cs : List ℕ) → Texts ts cs → List Piece
pieces [] cs h = []
pieces (t ∷ ts) cs h = piece (Some h.0.sort) h.0.chars ∷ (piece None (h.1 ∷ []) ∷ pieces ts h.2 h.5)

begins : (ts : List Content) (cs : List ℕ) (h : Texts ts cs) → Begins cs (pieces ts cs h) []
begins [] cs h = h
begins (t ∷ ts) cs h =
    (h.1 ∷ h.2, h.4, h.0.token, token_longest h.0.sort h.0.chars h.1 h.2 h.0.token h.3, (h.2, refl, inl (h.1, break_is_gap h.1 h.3, refl), gap_longest h.1 h.2 h.3, begins ts h.2 h.5))

arrow_next : (ts : List Content) (cs : List ℕ) (h : Texts ts cs) (at : ℕ) (p : Place) → begins_arrow (tokens_from at p (pieces ts cs h)) ≡ gives_next ts
arrow_next [] cs h at p = refl
arrow_next (t ∷ ts) cs h at p = ap (λ w. is_mark h.0.sort && bytes_eq w (codes "<-")) h.0.text ∙ h.0.gives

-- none of the tokens is refused, and their marks are these
abbrev AreRead : Bool → List Token → List Content → Type 0
AreRead led tokens ts = (first_fault led tokens ≡ None) × (contents (marks led tokens) ≡ ts)

one_more : (led : Bool) (t : Content) (ts : List Content) (r : Reads t) (at end : ℕ) (p : Place) (l : List Token)
    → ((led || gives_next ts) ≡ true → is_name t ≡ true) → begins_arrow l ≡ gives_next ts → AreRead (is_lead t) l ts
    → AreRead led (token r.sort (encode_utf8_all r.chars) at end p ∷ l) (t ∷ ts)
one_more led t ts r at end p l unled arrow h =
    let first = token r.sort (encode_utf8_all r.chars) at end p in
    let lead : leads_name first ≡ is_lead t = ap (λ w. is_mark r.sort && (bytes_eq w (codes ".") || bytes_eq w (codes "->") || bytes_eq w (codes "!"))) r.text ∙ r.leads in
    let fault : fault_of r.sort (encode_utf8_all r.chars) (led || begins_arrow l) p ≡ None =
    ap (λ w. fault_of r.sort w (led || begins_arrow l) p) r.text ∙ ap (λ b. fault_of r.sort (mark_text t) (led || b) p) arrow ∙ r.fine (led || gives_next ts) p unled in
    let content : content_of r.sort (encode_utf8_all r.chars) (led || begins_arrow l) ≡ t =
    ap (λ w. content_of r.sort w (led || begins_arrow l)) r.text ∙ ap (λ b. content_of r.sort (mark_text t) (led || b)) arrow ∙ r.content (led || gives_next ts) unled in (
      ap (λ o. or_else o (first_fault (leads_name first) l)) fault ∙ ap (λ b. first_fault b l) lead ∙ h.0,
      ap (λ c. c ∷ contents (marks (leads_name first) l)) content ∙ ap (λ b. t ∷ contents (marks b l)) lead ∙ ap (λ k. t ∷ k) h.1,
    )

are_read : (ts : List Content) (cs : List ℕ) (h : Texts ts cs) (led : Bool) (at : ℕ) (p : Place) → Clear led ts → AreRead led (tokens_from at p (pieces ts cs h)) ts
are_read [] cs h led at p c = (refl, refl)
are_read (t ∷ ts) cs h led at p c =
    let text = encode_utf8_all h.0.chars in
    let next = at + length text + length (encode_utf8_all (h.1 ∷ [])) in
    let q = after (after p h.0.chars) (h.1 ∷ []) in
    one_more led t ts h.0 at (at + length text) p (tokens_from next q (pieces ts h.2 h.5)) c.0 (arrow_next ts h.2 h.5 next q) (are_read ts h.2 h.5 (is_lead t) next q c.1)

unmarked_texts : (ts : List Content) (cs : List ℕ) → Texts ts cs → (body_of cs ≡ cs) × (begin_byte cs ≡ 0)
unmarked_texts [] cs h = (ap body_of h ∙ sym h, ap begin_byte h)
unmarked_texts (t ∷ ts) cs h =
    let u = unmarked h.0.sort h.0.chars (h.1 ∷ h.2) h.0.token in
    (ap body_of h.4 ∙ u.0 ∙ sym h.4, ap begin_byte h.4 ∙ u.1)

-- the text has tokens, and their marks are these
pub texts_have_tokens : (ts : List Content) (cs : List ℕ) → Texts ts cs → Clear false ts → (l : Tokens) × HasTokens cs l × (contents (marks false l.list) ≡ ts)
texts_have_tokens ts cs h c =
    let ps = pieces ts cs h in
    let u = unmarked_texts ts cs h in
    let read = are_read ts cs h false 0 (place 1 1) c in (
      record { list = tokens_from 0 (place 1 1) ps; end = after (place 1 1) cs },
      (ps, subst (λ b. Begins b ps []) (sym u.0) (begins ts cs h), ap (λ n. tokens_from n (place 1 1) ps) (sym u.1), read.0, ap (after (place 1 1)) (sym u.0)),
      read.1,
    )

pub Texts-append : (ts us : List Content) (a b : List ℕ) → Texts ts a → Texts us b → Texts (ts ++ us) (a ++ b)
Texts-append [] us a b h k = subst (λ l. Texts us (l ++ b)) (sym h) k
Texts-append (t ∷ ts) us a b h k =
    (h.0, h.1, h.2 ++ b, h.3, ap (λ l. l ++ b) h.4 ∙ append_assoc h.0.chars (h.1 ∷ h.2) b, Texts-append ts us h.2 b h.5 k)
