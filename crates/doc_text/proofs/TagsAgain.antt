-- Written start tags are read again: their names, declarations and attributes.
use Rattle.std.proofs.Common.{◌≡◌, ℕ, List, [], ◌∷◌, ◌++◌, refl, sym, ap, ◌∙◌, subst, append_assoc, arith}
use Rattle.std.specs.Prelude.{true, codes, All, filter, not}
use Rattle.std.specs.List.{flat_map}
use Rattle.std.proofs.lemmas.List.{append-nil}
use Rattle.std.proofs.lemmas.Str.{encodes_same, encode_ascii}
use Rattle.atl_base.specs.declared.place.Place.{Place}
use Rattle.atl_base.specs.XmlText.{IsXmlText}
use Rattle.doc_text.specs.Symbols.{Slash, Greater, Equals, Blank}
use Rattle.doc_text.specs.Raw.{Name, called, Pair, pair, Start, start, Nil}
use Rattle.doc_text.specs.State.{Open, opened, OfStart, OfAttribute, State, Spaced, Shutting, Opening, Valuing, Valued, Inside, Goes}
use Rattle.doc_text.specs.Steps.{step, further, judged}
use Rattle.doc_text.specs.Written.{quoted, written_attribute, written_declaration, written_attributes, behind_colon, is_version}
use Rattle.doc_text.specs.Escapes.{escaped}
use Rattle.doc_text.specs.ReadBack.{IsPlain, IsPlainName, IsAttribute}
use Rattle.doc_text.specs.declared.escape.Escapes.TheVariants.{Value}
use Rattle.doc_text.specs.declared.tree.Attribute.{Attribute}
use Rattle.doc_text.specs.declared.tree.Prefix.{Prefix}
use Rattle.doc_text.proofs.Leading.{Reads, nothing, reads_on, reads_to, plainly}
use Rattle.doc_text.proofs.NamesAgain.{IsAtName, name_reads, prefixed_reads, prefix_in, All_first, All_rest}
use Rattle.doc_text.proofs.TextsAgain.{value_reads}

-- this tag has been read so far: it goes on, or ends
pub record IsAtTag (fs : List Open) (t : Start) (u : State) : Type 0 where
  pub blank : (p : Place) → step true u (Blank 32) p ≡ Goes (Spaced fs t)
  pub slash : (p : Place) → step true u Slash p ≡ Goes (Shutting fs t)
  pub greater : (p : Place) → step true u Greater p ≡ judged true fs t (Goes (Inside 0 (opened t Nil) fs))

pub named_tag : (fs : List Open) (p : Place) (n : Name) (u : State) → IsAtName (OfStart fs p) n u → IsAtTag fs (start p n []) u
named_tag fs p n u h = record { blank = λ q. h (Blank 32) q refl; slash = λ q. h Slash q refl; greater = λ q. h Greater q refl }

valued_tag : (fs : List Open) (t : Start) → IsAtTag fs t (Valued fs t)
valued_tag fs t = record { blank = λ q. refl; slash = λ q. refl; greater = λ q. refl }

module _ (fs : List Open) (t : Start) where
  -- = and a value behind an attribute's name
  quoted_reads : (n : Name) (u : State) (value : List ℕ) → IsXmlText value → IsAtName (OfAttribute fs t) n u → Reads u (quoted value) (IsAtTag fs (further t n value))
  quoted_reads n u value x h =
      reads_on u (codes "=\"") (flat_map (escaped Value) value ++ codes "\"") (λ w. w ≡ Valuing true fs t n []) _
      (plainly u (codes "=\"") _ refl (λ p. (Opening fs t n, h Equals p refl, λ q. (Valuing true fs t n [], refl, refl))))
      (λ w e. subst (λ s. Reads s (flat_map (escaped Value) value ++ codes "\"") (IsAtTag fs (further t n value))) (sym e)
      (reads_on (Valuing true fs t n []) (flat_map (escaped Value) value) (codes "\"") _ _ (value_reads fs t n value x) (λ s g.
      subst (λ z. Reads z (codes "\"") (IsAtTag fs (further t n value))) (sym g)
      (plainly (Valuing true fs t n value) (codes "\"") _ refl (λ p. (Valued fs (further t n value), refl, valued_tag fs (further t n value)))))))

  -- a blank, and then an attribute's name is begun
  blank_reads : (u : State) → IsAtTag fs t u → Reads u (codes " ") (λ w. w ≡ Spaced fs t)
  blank_reads u h = plainly u (codes " ") _ refl (λ p. (Spaced fs t, h.blank p, refl))

  -- of a name with these parts, and a value, one pair more
  abbrev pub IsFurther : List ℕ → List ℕ → List ℕ → State → Type 0
  IsFurther prefix local value u = (q : Place) × IsAtTag fs (further t (called q prefix local) value) u

  pair_reads : (u : State) (name prefix local value : List ℕ) → IsXmlText value → IsAtTag fs t u → Reads (Spaced fs t) name (λ w. (q : Place) × IsAtName (OfAttribute fs t) (called q prefix local) w) → Reads u (codes " " ++ (name ++ quoted value)) (IsFurther prefix local value)
  pair_reads u name prefix local value x h r =
      reads_on u (codes " ") (name ++ quoted value) _ _ (blank_reads u h) (λ w e.
      subst (λ s. Reads s (name ++ quoted value) (IsFurther prefix local value)) (sym e)
      (reads_on (Spaced fs t) name (quoted value) _ _ r (λ s g.
      reads_to s (quoted value) _ _ (quoted_reads (called g.0 prefix local) s value x g.1) (λ z k. (g.0, k)))))

-- ## Lists of them

-- pairs as they were read: of attributes, and of declarations
abbrev pub IsPairOf : List Prefix → Attribute → Pair → Type 0
IsPairOf ds a x = (q : Place) × (x ≡ pair (called q (prefix_in ds a.space) a.name) a.value)

abbrev pub IsPairOfDeclaration : Prefix → Pair → Type 0
IsPairOfDeclaration d x = (q : Place) × (x ≡ pair (called q (codes "xmlns") d.prefix) d.uri)

abbrev pub Match : {A B : Type 0} → (A → B → Type 0) → List A → List B → Type 0
Match R [] [] = Unit {0}
Match R [] (y ∷ ys) = ⊥
Match R (x ∷ xs) [] = ⊥
Match R (x ∷ xs) (y ∷ ys) = R x y × Match R xs ys

-- this tag with further pairs
abbrev pub wider : Start → List Pair → Start
wider t ps = start t.at t.name (t.pairs ++ ps)

abbrev pub IsWider : {A : Type 0} → List Open → Start → (A → Pair → Type 0) → List A → State → Type 0
IsWider fs t R xs u = (ps : List Pair) × Match R xs ps × IsAtTag fs (wider t ps) u

module _ {A : Type 0} (fs : List Open) (text : A → List ℕ) (R : A → Pair → Type 0) where
  -- where each is read, all are
  abbrev EachReads : A → Type 0
  EachReads x = (t : Start) (u : State) → IsAtTag fs t u → Reads u (text x) (λ w. (p : Pair) × R x p × IsAtTag fs (wider t (p ∷ [])) w)

  all_read : (xs : List A) → All EachReads xs → (t : Start) (u : State) → IsAtTag fs t u → Reads u (flat_map text xs) (IsWider fs t R xs)
  all_read [] f t u h = nothing u _ ([], tt, subst (λ ps. IsAtTag fs (start t.at t.name ps) u) (sym (append-nil t.pairs)) h)
  all_read (x ∷ xs) f t u h =
      reads_on u (text x) (flat_map text xs) _ _ (All_first EachReads x xs f t u h) (λ w g.
      reads_to w (flat_map text xs) _ _ (all_read xs (All_rest EachReads x xs f) (wider t (g.0 ∷ [])) w g.2) (λ z k.
      (g.0 ∷ k.0, (g.1, k.1), subst (λ ps. IsAtTag fs (start t.at t.name ps) z) (append_assoc t.pairs (g.0 ∷ []) k.0) k.2)))

module _ (ds : List Prefix) (plain : All (λ d. IsPlainName d.prefix) ds) (fs : List Open) where
  attribute_reads : (a : Attribute) → IsAttribute ds a → (t : Start) (u : State) → IsAtTag fs t u → Reads u (written_attribute ds a) (λ w. (p : Pair) × IsPairOf ds a p × IsAtTag fs (wider t (p ∷ [])) w)
  attribute_reads a k t u h =
      reads_to u (written_attribute ds a) _ _
      (pair_reads fs t u _ (prefix_in ds a.space) a.name a.value k.value h (name_reads ds plain (Spaced fs t) (OfAttribute fs t) (λ c p. refl) a.space a.name k.space k.name))
      (λ w g. (pair (called g.0 (prefix_in ds a.space) a.name) a.value, (g.0, refl), g.1))

  pub attributes_read : (list : List Attribute) → All (IsAttribute ds) list → (t : Start) (u : State) → IsAtTag fs t u → Reads u (flat_map (written_attribute ds) list) (IsWider fs t (IsPairOf ds) list)
  attributes_read list k = all_read fs (written_attribute ds) (IsPairOf ds) list (λ i d l. attribute_reads _ (k i d l))

-- a plain name is not empty
pub not_empty : (n : List ℕ) → IsPlain n → n ≡ [] → ⊥
not_empty n h e = some (encodes_same (h.first ∷ h.others) [] (h.spelt ∙ e))
  where
    Some : List ℕ → Type 0
    Some [] = ⊥
    Some (c ∷ cs) = Unit {0}

    some : h.first ∷ h.others ≡ [] → ⊥
    some g = subst Some g tt

behind_colon_is : (n : List ℕ) → IsPlain n → behind_colon n ≡ codes ":" ++ n
behind_colon_is [] h = absurd (not_empty [] h refl)
behind_colon_is (c ∷ cs) h = refl

xmlns : IsPlain (codes "xmlns")
xmlns = record { first = 120; others = codes "mlns"; starts = refl; goes_on = refl; spelt = simp (encode_ascii 120 (omega arith), encode_ascii 109 (omega arith), encode_ascii 108 (omega arith), encode_ascii 110 (omega arith), encode_ascii 115 (omega arith)) refl }

module _ (fs : List Open) where
  declaration_reads : (d : Prefix) → IsPlainName d.prefix → IsXmlText d.uri → (t : Start) (u : State) → IsAtTag fs t u → Reads u (written_declaration d) (λ w. (p : Pair) × IsPairOfDeclaration d p × IsAtTag fs (wider t (p ∷ [])) w)
  declaration_reads d n x t u h =
      subst (λ l. Reads u (codes " xmlns" ++ (l ++ quoted d.uri)) (λ w. (p : Pair) × IsPairOfDeclaration d p × IsAtTag fs (wider t (p ∷ [])) w)) (sym (behind_colon_is d.prefix n.plain))
      (reads_to u (codes " " ++ ((codes "xmlns" ++ (codes ":" ++ d.prefix)) ++ quoted d.uri)) _ _
      (pair_reads fs t u (codes "xmlns" ++ (codes ":" ++ d.prefix)) (codes "xmlns") d.prefix d.uri x h (prefixed_reads (Spaced fs t) (OfAttribute fs t) (λ c p. refl) (codes "xmlns") d.prefix xmlns n.plain))
      (λ w g. (pair (called g.0 (codes "xmlns") d.prefix) d.uri, (g.0, refl), g.1)))

  pub declarations_read : (list : List Prefix) → All (λ d. IsPlainName d.prefix) list → All (λ d. IsXmlText d.uri) list → (t : Start) (u : State) → IsAtTag fs t u → Reads u (flat_map written_declaration list) (IsWider fs t IsPairOfDeclaration list)
  declarations_read list n x = all_read fs written_declaration IsPairOfDeclaration list (λ i d l. declaration_reads _ (n i d l) (x i d l))

-- ## All that stands in a start tag

-- the pairs read, in the order in which they are written
pub record AreRead (ds declared : List Prefix) (attributes : List Attribute) (ps : List Pair) : Type 0 where
  pub versions : List Pair
  pub declarations : List Pair
  pub others : List Pair
  pub whole : ps ≡ versions ++ (declarations ++ others)
  pub are_versions : Match (IsPairOf ds) (filter is_version attributes) versions
  pub are_declarations : Match IsPairOfDeclaration declared declarations
  pub are_others : Match (IsPairOf ds) (filter (λ a. not (is_version a)) attributes) others

module _ (ds : List Prefix) (plain : All (λ d. IsPlainName d.prefix) ds) (fs : List Open) where
  pub tag_reads : (declared : List Prefix) → All (λ d. IsPlainName d.prefix) declared → All (λ d. IsXmlText d.uri) declared → (attributes : List Attribute) → All (IsAttribute ds) (filter is_version attributes) → All (IsAttribute ds) (filter (λ a. not (is_version a)) attributes) →
      (t : Start) (u : State) → t.pairs ≡ [] → IsAtTag fs t u → Reads u (written_attributes ds declared attributes) (λ w. (ps : List Pair) × AreRead ds declared attributes ps × IsAtTag fs (start t.at t.name ps) w)
  tag_reads declared n x attributes v o t u z h =
      reads_on u (flat_map (written_attribute ds) (filter is_version attributes)) _ _ _ (attributes_read ds plain fs (filter is_version attributes) v t u h) (λ w a.
      reads_on w (flat_map written_declaration declared) _ _ _ (declarations_read fs declared n x (wider t a.0) w a.2) (λ s b.
      reads_to s (flat_map (written_attribute ds) (filter (λ a. not (is_version a)) attributes)) _ _ (attributes_read ds plain fs (filter (λ a. not (is_version a)) attributes) o (wider (wider t a.0) b.0) s b.2) (λ y c. (
        a.0 ++ (b.0 ++ c.0),
        record { versions = a.0; declarations = b.0; others = c.0; whole = refl; are_versions = a.1; are_declarations = b.1; are_others = c.1 },
        subst (λ ps. IsAtTag fs (start t.at t.name ps) y) (append_assoc (t.pairs ++ a.0) b.0 c.0 ∙ append_assoc t.pairs a.0 (b.0 ++ c.0) ∙ ap (λ l. l ++ (a.0 ++ (b.0 ++ c.0))) z) c.2,
      ))))
