-- The namespaces of a tag that is read again: all its names are found, none stands twice, and what it keeps is what
-- was written.
use Rattle.std.proofs.Common.{◌≡◌, ◌≢◌, ℕ, zero, suc, List, [], ◌∷◌, ◌++◌, refl, sym, ap, ◌∙◌, subst, append_assoc, arith}
use Rattle.std.specs.Prelude.{Bool, true, false, ◌&&◌, ◌||◌, if◌then◌else◌, codes, All, AllPairs, filter, not, bytes_eq, Option, Some, None, is_some}
use Rattle.std.specs.Option.{option_map_or}
use Rattle.std.proofs.lemmas.Bool.{false_from_ne_true, or_from, or_left, or_right, and_right}
use Rattle.std.proofs.lemmas.List.{append-nil}
use Rattle.std.proofs.lemmas.Slice.Eq.{bytes_eq-Decides}
use Rattle.atl_base.specs.declared.place.Place.{Place}
use Rattle.doc_text.specs.Faults.{TwiceAttribute, Prefix as PrefixFault}
use Rattle.doc_text.specs.Raw.{Name, called, Pair, pair, Start, start}
use Rattle.doc_text.specs.Namespaces.{is_default, is_declaration, declared_prefix, own_uri, uri_of, attribute_space, both, is_twice, stands_before, name_fault, or_else, pairs_fault, tag_fault, or_empty, declared_of, attributes_of}
use Rattle.doc_text.specs.ReadBack.{IsPlainName, IsDeclared, IsAttribute, IsTag, Differ}
use Rattle.doc_text.specs.Written.{is_version}
use Rattle.doc_text.specs.declared.tree.Attribute.{Attribute}
use Rattle.doc_text.specs.declared.tree.Prefix.{Prefix}
use Rattle.doc_text.specs.declared.tree.Element.{Element}
use Rattle.doc_text.proofs.NamesAgain.{found, prefix_in, All_first, All_rest}
use Rattle.doc_text.proofs.TagsAgain.{IsPairOf, IsPairOfDeclaration, Match, AreRead, not_empty}
use Rattle.doc_text.proofs.Runs.{false-true, true-false}

-- texts that differ
pub differs : (xs ys : List ℕ) → (xs ≡ ys → ⊥) → bytes_eq xs ys ≡ false
differs xs ys h = false_from_ne_true (bytes_eq xs ys) (λ e. h ((bytes_eq-Decides xs ys).0 e))

pub same_bytes : (xs : List ℕ) → bytes_eq xs xs ≡ true
same_bytes xs = (bytes_eq-Decides xs xs).1 refl

-- ## Lists

abbrev pub Each : {X : Type 0} → (X → Type 0) → List X → Type 0
Each P [] = Unit {0}
Each P (x ∷ xs) = P x × Each P xs

abbrev pub Pairwise : {X : Type 0} → (X → X → Type 0) → List X → Type 0
Pairwise R [] = Unit {0}
Pairwise R (x ∷ xs) = Each (R x) xs × Pairwise R xs

module _ {X : Type 0} where
  pub each_from : (P : X → Type 0) (xs : List X) → All P xs → Each P xs
  each_from P [] h = tt
  each_from P (x ∷ xs) h = (All_first P x xs h, each_from P xs (All_rest P x xs h))

  pub all_cons : (P : X → Type 0) (x : X) (xs : List X) → P x → All P xs → All P (x ∷ xs)
  all_cons P x xs h hs zero d l = h
  all_cons P x xs h hs (suc k) d l = hs k d (omega (arith, l))

  pub each_to : (P : X → Type 0) (xs : List X) → Each P xs → All P xs
  each_to P [] h = λ k d l. absurd (omega (arith, l))
  each_to P (x ∷ xs) h = all_cons P x xs h.0 (each_to P xs h.1)

  pub each_more : (P Q : X → Type 0) → ((x : X) → P x → Q x) → (xs : List X) → Each P xs → Each Q xs
  each_more P Q f [] h = tt
  each_more P Q f (x ∷ xs) h = (f x h.0, each_more P Q f xs h.1)

  pub each_append : (P : X → Type 0) (xs ys : List X) → Each P xs → Each P ys → Each P (xs ++ ys)
  each_append P [] ys h k = k
  each_append P (x ∷ xs) ys h k = (h.0, each_append P xs ys h.1 k)

  pub each_left : (P : X → Type 0) (xs ys : List X) → Each P (xs ++ ys) → Each P xs
  each_left P [] ys h = tt
  each_left P (x ∷ xs) ys h = (h.0, each_left P xs ys h.1)

  pub each_right : (P : X → Type 0) (xs ys : List X) → Each P (xs ++ ys) → Each P ys
  each_right P [] ys h = h
  each_right P (x ∷ xs) ys h = each_right P xs ys h.1

  pub each_between : (P : X → Type 0) (xs ms ys : List X) → Each P (xs ++ ys) → Each P ms → Each P (xs ++ (ms ++ ys))
  each_between P xs ms ys h k = each_append P xs (ms ++ ys) (each_left P xs ys h) (each_append P ms ys k (each_right P xs ys h))

  pub pairwise_from : (R : X → X → Type 0) (xs : List X) → AllPairs R xs → Pairwise R xs
  pairwise_from R [] h = tt
  pairwise_from R (x ∷ xs) h = (
    each_from (R x) xs (λ k d l. h 0 (suc k) d (omega arith) (omega (arith, l))),
    pairwise_from R xs (λ i j d lt l. h (suc i) (suc j) d (omega (arith, lt)) (omega (arith, l))),
  )

  pub pairwise_before : (R : X → X → Type 0) (before : List X) (x : X) (rest : List X) → Pairwise R (before ++ (x ∷ rest)) → Each (λ b. R b x) before
  pairwise_before R [] x rest h = tt
  pairwise_before R (b ∷ before) x rest h = ((each_right (R b) before (x ∷ rest) h.0).0, pairwise_before R before x rest h.1)

  pub pairwise_append : (R : X → X → Type 0) (xs ys : List X) → Pairwise R xs → Pairwise R ys → Each (λ x. Each (R x) ys) xs → Pairwise R (xs ++ ys)
  pairwise_append R [] ys h k c = k
  pairwise_append R (x ∷ xs) ys h k c = (each_append (R x) xs ys h.0 c.0, pairwise_append R xs ys h.1 k c.1)

  pub pairwise_between : (R : X → X → Type 0) (xs ms ys : List X) → Pairwise R (xs ++ ys) → Pairwise R ms → Each (λ x. Each (R x) ms) xs → Each (λ m. Each (R m) ys) ms → Pairwise R (xs ++ (ms ++ ys))
  pairwise_between R [] ms ys h k c d = pairwise_append R ms ys k h d
  pairwise_between R (x ∷ xs) ms ys h k c d = (each_between (R x) xs ms ys h.0 c.0, pairwise_between R xs ms ys h.1 k c.1 d)

module _ {A B : Type 0} where
  pub match_append : (S : A → B → Type 0) (xs us : List A) (ys vs : List B) → Match S xs ys → Match S us vs → Match S (xs ++ us) (ys ++ vs)
  match_append S [] us [] vs h k = k
  match_append S [] us (y ∷ ys) vs h k = absurd h
  match_append S (x ∷ xs) us [] vs h k = absurd h
  match_append S (x ∷ xs) us (y ∷ ys) vs h k = (h.0, match_append S xs us ys vs h.1 k)

  pub match_with : (P : A → Type 0) (S : A → B → Type 0) (xs : List A) (ys : List B) → Each P xs → Match S xs ys → Match (λ x y. P x × S x y) xs ys
  match_with P S [] [] h k = tt
  match_with P S [] (y ∷ ys) h k = absurd k
  match_with P S (x ∷ xs) [] h k = absurd k
  match_with P S (x ∷ xs) (y ∷ ys) h k = ((h.0, k.0), match_with P S xs ys h.1 k.1)

  pub match_each : (S : A → B → Type 0) (Q : B → Type 0) → ((x : A) (y : B) → S x y → Q y) → (xs : List A) (ys : List B) → Match S xs ys → Each Q ys
  match_each S Q f [] [] h = tt
  match_each S Q f [] (y ∷ ys) h = absurd h
  match_each S Q f (x ∷ xs) [] h = absurd h
  match_each S Q f (x ∷ xs) (y ∷ ys) h = (f x y h.0, match_each S Q f xs ys h.1)

  pub match_every : (S : A → B → Type 0) (P : A → Type 0) (Q : B → Type 0) → ((x : A) (y : B) → S x y → P x → Q y) → (xs : List A) (ys : List B) → Match S xs ys → Each P xs → Each Q ys
  match_every S P Q f [] [] h k = tt
  match_every S P Q f [] (y ∷ ys) h k = absurd h
  match_every S P Q f (x ∷ xs) [] h k = absurd h
  match_every S P Q f (x ∷ xs) (y ∷ ys) h k = (f x y h.0 k.0, match_every S P Q f xs ys h.1 k.1)

  pub match_pairwise : (S : A → B → Type 0) (R : A → A → Type 0) (Q : B → B → Type 0) → ((x u : A) (y v : B) → S x y → S u v → R x u → Q y v) → (xs : List A) (ys : List B) → Match S xs ys → Pairwise R xs → Pairwise Q ys
  match_pairwise S R Q f [] [] h k = tt
  match_pairwise S R Q f [] (y ∷ ys) h k = absurd h
  match_pairwise S R Q f (x ∷ xs) [] h k = absurd h
  match_pairwise S R Q f (x ∷ xs) (y ∷ ys) h k = (match_every S (R x) (Q y) (λ u v s r. f x u y v h.0 s r) xs ys h.1 k.0, match_pairwise S R Q f xs ys h.1 k.1)

-- ## Names

not_declaration : (q : Place) (m n : List ℕ) → m ≢ codes "xmlns" → n ≢ codes "xmlns" → is_declaration (called q m n) ≡ false
not_declaration q m n h k = or_from (is_default (called q m n)) (bytes_eq m (codes "xmlns")) (and_right (bytes_eq m []) (bytes_eq n (codes "xmlns")) (differs n (codes "xmlns") k)) (differs m (codes "xmlns") h)

empty_or_not : [] ≢ codes "xmlns"
empty_or_not e = subst (λ l. IsEmpty l) e tt
  where
    IsEmpty : List ℕ → Type 0
    IsEmpty [] = Unit {0}
    IsEmpty (c ∷ cs) = ⊥

-- what a prefix stands for among these open tags
pub record StandsFor (open_tags : List Start) (space prefix : List ℕ) : Type 0 where
  pub uri : uri_of prefix open_tags ≡ Some space
  pub no_declaration : prefix ≢ codes "xmlns"
  pub attribute : (q : Place) (n : List ℕ) → attribute_space (called q prefix n) open_tags ≡ Some space

-- the declarations are in force
pub record IsScope (ds : List Prefix) (open_tags : List Start) : Type 0 where
  pub none : uri_of [] open_tags ≡ Some []
  pub each : All (λ d. uri_of d.prefix open_tags ≡ Some d.uri) ds

module _ (ds : List Prefix) (plain : All (λ d. IsPlainName d.prefix) ds) (open_tags : List Start) (scope : IsScope ds open_tags) where
  both_hold : All (λ d. IsPlainName d.prefix × (uri_of d.prefix open_tags ≡ Some d.uri)) ds
  both_hold = λ k d l. (plain k d l, scope.each k d l)

  declared_for : (space : List ℕ) (d : Prefix) → d.uri ≡ space → IsPlainName d.prefix → uri_of d.prefix open_tags ≡ Some d.uri → StandsFor open_tags space d.prefix
  declared_for space d e n u = record {
    uri = u ∙ ap Some e;
    no_declaration = n.no_declaration;
    attribute = λ q m. ap (λ b. if b then Some [] else uri_of d.prefix open_tags) (differs d.prefix [] (not_empty d.prefix n.plain)) ∙ u ∙ ap Some e;
  }

  pub stands_for : (space : List ℕ) → IsDeclared ds space → StandsFor open_tags space (prefix_in ds space)
  stands_for [] h = record { uri = scope.none; no_declaration = empty_or_not; attribute = λ q n. refl }
  stands_for (c ∷ cs) h =
      let g = found (λ d. IsPlainName d.prefix × (uri_of d.prefix open_tags ≡ Some d.uri)) ds (c ∷ cs) both_hold h in
      subst (StandsFor open_tags (c ∷ cs)) (sym (ap (λ o. option_map_or (λ d. d.prefix) o []) g.is_first))
      (declared_for (c ∷ cs) g.declaration g.uri g.keeps.0 g.keeps.1)

-- ## What was read of a tag

abbrev pub IsNoDeclaration : Pair → Type 0
IsNoDeclaration x = is_declaration x.name ≡ false

abbrev pub Declares : Pair → Type 0
Declares x = is_declaration x.name ≡ true

module _ (p : List ℕ) (outer : Option (List ℕ)) where
  no_uri : (ys rest : List Pair) → Each IsNoDeclaration ys → own_uri p (ys ++ rest) outer ≡ own_uri p rest outer
  no_uri [] rest h = refl
  no_uri (y ∷ ys) rest h =
      ap (λ b. if b && bytes_eq (declared_prefix y.name) p then Some y.value else own_uri p (ys ++ rest) outer) h.0 ∙ no_uri ys rest h.1

  no_uris : (ys : List Pair) → Each IsNoDeclaration ys → own_uri p ys outer ≡ outer
  no_uris ys h = ap (λ l. own_uri p l outer) (sym (append-nil ys)) ∙ no_uri ys [] h

  -- a declaration of another prefix
  other_uri : (q : Place) (d : Prefix) (rest : List Pair) → bytes_eq d.prefix p ≡ false → own_uri p (pair (called q (codes "xmlns") d.prefix) d.uri ∷ rest) outer ≡ own_uri p rest outer
  other_uri q d rest h = ap (λ b. if b then Some d.uri else own_uri p rest outer) h

  -- and of this one
  this_uri : (q : Place) (d : Prefix) (rest : List Pair) → bytes_eq d.prefix p ≡ true → own_uri p (pair (called q (codes "xmlns") d.prefix) d.uri ∷ rest) outer ≡ Some d.uri
  this_uri q d rest h = ap (λ b. if b then Some d.uri else own_uri p rest outer) h

  pub other_uris : (list : List Prefix) (ns rest : List Pair) → Match IsPairOfDeclaration list ns → Each (λ d. bytes_eq d.prefix p ≡ false) list → own_uri p (ns ++ rest) outer ≡ own_uri p rest outer
  other_uris [] [] rest h k = refl
  other_uris [] (n ∷ ns) rest h k = absurd h
  other_uris (d ∷ list) [] rest h k = absurd h
  other_uris (d ∷ list) (n ∷ ns) rest h k =
      subst (λ n. own_uri p (n ∷ (ns ++ rest)) outer ≡ own_uri p (ns ++ rest) outer) (sym h.0.1) (other_uri h.0.0 d (ns ++ rest) k.0)
      ∙ other_uris list ns rest h.1 k.1

-- each declared prefix stands for its namespace
own_uris : (outer : List ℕ → Option (List ℕ)) (list : List Prefix) (ns rest : List Pair) → Match IsPairOfDeclaration list ns → Pairwise (λ c d. c.prefix ≢ d.prefix) list → Each (λ d. own_uri d.prefix (ns ++ rest) (outer d.prefix) ≡ Some d.uri) list
own_uris outer [] ns rest h k = tt
own_uris outer (d ∷ list) [] rest h k = absurd h
own_uris outer (d ∷ list) (n ∷ ns) rest h k = (
  subst (λ n. own_uri d.prefix (n ∷ (ns ++ rest)) (outer d.prefix) ≡ Some d.uri) (sym h.0.1) (this_uri d.prefix (outer d.prefix) h.0.0 d (ns ++ rest) (same_bytes d.prefix)),
  each_both list k.0 (own_uris outer list ns rest h.1 k.1),
)
  where
    each_both : (xs : List Prefix) → Each (λ e. d.prefix ≢ e.prefix) xs → Each (λ e. own_uri e.prefix (ns ++ rest) (outer e.prefix) ≡ Some e.uri) xs → Each (λ e. own_uri e.prefix (n ∷ (ns ++ rest)) (outer e.prefix) ≡ Some e.uri) xs
    each_both [] f g = tt
    each_both (e ∷ xs) f g = (
      subst (λ n. own_uri e.prefix (n ∷ (ns ++ rest)) (outer e.prefix) ≡ Some e.uri) (sym h.0.1) (other_uri e.prefix (outer e.prefix) h.0.0 d (ns ++ rest) (differs d.prefix e.prefix f.0) ∙ g.0),
      each_both xs f.1 g.1,
    )

-- what is read of attributes declares nothing, and declarations do
module _ (ds : List Prefix) (plain : All (λ d. IsPlainName d.prefix) ds) where
  prefix_no_declaration : (space : List ℕ) → IsDeclared ds space → prefix_in ds space ≢ codes "xmlns"
  prefix_no_declaration [] h = empty_or_not
  prefix_no_declaration (c ∷ cs) h =
      let g = found (λ d. IsPlainName d.prefix) ds (c ∷ cs) plain h in
      subst (λ m. m ≢ codes "xmlns") (sym (ap (λ o. option_map_or (λ d. d.prefix) o []) g.is_first)) g.keeps.no_declaration

  attribute_declares_nothing : (a : Attribute) (x : Pair) → IsPairOf ds a x → IsAttribute ds a → IsNoDeclaration x
  attribute_declares_nothing a x h k = subst IsNoDeclaration (sym h.1) (not_declaration h.0 (prefix_in ds a.space) a.name (prefix_no_declaration a.space k.space) k.name.no_declaration)

  pub declare_nothing : (list : List Attribute) (ys : List Pair) → Match (IsPairOf ds) list ys → Each (IsAttribute ds) list → Each IsNoDeclaration ys
  declare_nothing = match_every (IsPairOf ds) (IsAttribute ds) IsNoDeclaration attribute_declares_nothing

declaration_declares : (d : Prefix) (x : Pair) → IsPairOfDeclaration d x → Declares x
declaration_declares d x h = subst Declares (sym h.1) refl

pub all_declare : (list : List Prefix) (ys : List Pair) → Match IsPairOfDeclaration list ys → Each Declares ys
all_declare = match_each IsPairOfDeclaration Declares declaration_declares

-- ## The namespaces in force

module _ (ds : List Prefix) (plain : All (λ d. IsPlainName d.prefix) ds) (attributes : List Attribute) (vs os : List Pair)
    (v : Each IsNoDeclaration vs) (o : Each IsNoDeclaration os) where
  abbrev root_uri : List ℕ → Option (List ℕ)
  root_uri p = uri_of p []

  -- those of the root are declared there
  pub root_scope : (q : Place) (n : Name) (ns : List Pair) → Match IsPairOfDeclaration ds ns → AllPairs (λ c d. c.prefix ≢ d.prefix) ds → IsScope ds (start q n (vs ++ (ns ++ os)) ∷ [])
  root_scope q n ns h differ = record {
    none = no_uri [] (Some []) vs (ns ++ os) v ∙ other_uris [] (Some []) ds ns os h (no_empty ds plain) ∙ no_uris [] (Some []) os o;
    each = each_to (λ d. own_uri d.prefix (vs ++ (ns ++ os)) (root_uri d.prefix) ≡ Some d.uri) ds (each_more _ _ (λ d e. no_uri d.prefix (root_uri d.prefix) vs (ns ++ os) v ∙ e) ds (own_uris root_uri ds ns os h (pairwise_from _ ds differ)));
  }
    where
      no_empty : (list : List Prefix) → All (λ d. IsPlainName d.prefix) list → Each (λ d. bytes_eq d.prefix [] ≡ false) list
      no_empty list k = each_more (λ d. IsPlainName d.prefix) (λ d. bytes_eq d.prefix [] ≡ false) (λ d n. differs d.prefix [] (not_empty d.prefix n.plain)) list (each_from (λ d. IsPlainName d.prefix) list k)

  -- a tag without declarations leaves all as it is
  same_uri : (q : Place) (n : Name) (outer : List Start) (p : List ℕ) → uri_of p (start q n (vs ++ ([] ++ os)) ∷ outer) ≡ uri_of p outer
  same_uri q n outer p = no_uri p (uri_of p outer) vs os v ∙ no_uris p (uri_of p outer) os o

  pub below_scope : (q : Place) (n : Name) (outer : List Start) → IsScope ds outer → IsScope ds (start q n (vs ++ ([] ++ os)) ∷ outer)
  below_scope q n outer s = record {
    none = same_uri q n outer [] ∙ s.none;
    each = λ k d l. same_uri q n outer _ ∙ s.each k d l;
  }

-- ## No name is wrong

module _ (open_tags : List Start) where
  abbrev Apart : Pair → Pair → Type 0
  Apart x y = is_twice open_tags x.name y.name ≡ false

  abbrev Fine : Pair → Type 0
  Fine x = (is_declaration x.name || is_some (attribute_space x.name open_tags)) ≡ true

  stands_not : (n : Name) (before : List Pair) → Each (λ b. is_twice open_tags b.name n ≡ false) before → stands_before open_tags n before ≡ false
  stands_not n [] h = refl
  stands_not n (b ∷ before) h = or_from (is_twice open_tags b.name n) (stands_before open_tags n before) h.0 (stands_not n before h.1)

  no_name_fault : (before : List Pair) (x : Pair) → stands_before open_tags x.name before ≡ false → Fine x → name_fault open_tags before x.name ≡ None
  no_name_fault before x h k =
      ap (λ b. if b then Some (TwiceAttribute, x.name.at) else (if is_declaration x.name || is_some (attribute_space x.name open_tags) then None else Some (PrefixFault, x.name.at))) h
      ∙ ap (λ b. if b then None else Some (PrefixFault, x.name.at)) k

  pub no_fault : (rest before : List Pair) → Pairwise Apart (before ++ rest) → Each Fine rest → pairs_fault open_tags before rest ≡ None
  no_fault [] before h k = refl
  no_fault (x ∷ rest) before h k =
      ap (λ f. or_else f (pairs_fault open_tags (before ++ (x ∷ [])) rest)) (no_name_fault before x (stands_not x.name before (pairwise_before Apart before x rest h)) k.0)
      ∙ no_fault rest (before ++ (x ∷ [])) (subst (Pairwise Apart) (sym (append_assoc before (x ∷ []) rest)) h) k.1

  -- a declaration and an attribute
  declaration_apart : (x y : Pair) → Declares x → IsNoDeclaration y → Apart x y
  declaration_apart x y h k = apart_by (is_declaration x.name) (is_declaration y.name) h k
    where
      apart_by : (a b : Bool) → a ≡ true → b ≡ false → (if a && b then bytes_eq (declared_prefix x.name) (declared_prefix y.name) else (if a || b then false else (both (attribute_space x.name open_tags) (attribute_space y.name open_tags) && bytes_eq x.name.local y.name.local))) ≡ false
      apart_by true false e f = refl
      apart_by true true e f = absurd (true-false f)
      apart_by false b e f = absurd (false-true e)

  attribute_apart : (x y : Pair) → IsNoDeclaration x → Declares y → Apart x y
  attribute_apart x y h k = apart_by (is_declaration x.name) (is_declaration y.name) h k
    where
      apart_by : (a b : Bool) → a ≡ false → b ≡ true → (if a && b then bytes_eq (declared_prefix x.name) (declared_prefix y.name) else (if a || b then false else (both (attribute_space x.name open_tags) (attribute_space y.name open_tags) && bytes_eq x.name.local y.name.local))) ≡ false
      apart_by false true e f = refl
      apart_by false false e f = absurd (false-true f)
      apart_by true b e f = absurd (true-false e)

  -- two declarations
  declarations_apart : (c d : Prefix) (x y : Pair) → IsPairOfDeclaration c x → IsPairOfDeclaration d y → c.prefix ≢ d.prefix → Apart x y
  declarations_apart c d x y h k n = subst (λ x. Apart x y) (sym h.1) (subst (Apart (pair (called h.0 (codes "xmlns") c.prefix) c.uri)) (sym k.1) (differs c.prefix d.prefix n))

  -- two attributes, neither of which declares
  attributes_apart : (x y : Pair) (s t : List ℕ) → IsNoDeclaration x → IsNoDeclaration y → attribute_space x.name open_tags ≡ Some s → attribute_space y.name open_tags ≡ Some t → (s ≡ t → x.name.local ≢ y.name.local) → Apart x y
  attributes_apart x y s t h k e f n =
      ap (λ a. if a && is_declaration y.name then bytes_eq (declared_prefix x.name) (declared_prefix y.name) else (if a || is_declaration y.name then false else by_space)) h
      ∙ ap (λ b. if b then false else by_space) k
      ∙ ap (λ a. both a (attribute_space y.name open_tags) && bytes_eq x.name.local y.name.local) e
      ∙ ap (λ b. both (Some s) b && bytes_eq x.name.local y.name.local) f
      ∙ not_both (bytes_eq s t) refl
    where
      by_space : Bool
      by_space = both (attribute_space x.name open_tags) (attribute_space y.name open_tags) && bytes_eq x.name.local y.name.local

      not_both : (b : Bool) → bytes_eq s t ≡ b → (b && bytes_eq x.name.local y.name.local) ≡ false
      not_both true g = differs x.name.local y.name.local (n ((bytes_eq-Decides s t).0 g))
      not_both false g = refl

-- ## A tag that is read again

abbrev pub IsRead : List Prefix → Attribute → Pair → Type 0
IsRead ds a x = IsAttribute ds a × IsPairOf ds a x

module _ (ds : List Prefix) (plain : All (λ d. IsPlainName d.prefix) ds) (open_tags : List Start) (scope : IsScope ds open_tags) where
  read_space : (a : Attribute) (x : Pair) → IsRead ds a x → attribute_space x.name open_tags ≡ Some a.space
  read_space a x h = subst (λ x. attribute_space x.name open_tags ≡ Some a.space) (sym h.1.1) ((stands_for ds plain open_tags scope a.space h.0.space).attribute h.1.0 a.name)

  read_nothing : (a : Attribute) (x : Pair) → IsRead ds a x → IsNoDeclaration x
  read_nothing a x h = attribute_declares_nothing ds plain a x h.1 h.0

  read_local : (a : Attribute) (x : Pair) → IsRead ds a x → x.name.local ≡ a.name
  read_local a x h = ap (λ x. x.name.local) h.1.1

  read_fine : (a : Attribute) (x : Pair) → IsRead ds a x → Fine open_tags x
  read_fine a x h = or_right (is_declaration x.name) (is_some (attribute_space x.name open_tags)) (ap is_some (read_space a x h))

  read_apart : (a b : Attribute) (x y : Pair) → IsRead ds a x → IsRead ds b y → Differ a b → Apart open_tags x y
  read_apart a b x y h k d = attributes_apart open_tags x y a.space b.space (read_nothing a x h) (read_nothing b y k) (read_space a x h) (read_space b y k)
      (λ e g. d e (sym (read_local a x h) ∙ g ∙ read_local b y k))

  -- what is kept of the attributes
  read_attributes : (list : List Attribute) (ys rest : List Pair) → Match (IsRead ds) list ys → attributes_of open_tags (ys ++ rest) ≡ list ++ attributes_of open_tags rest
  read_attributes [] [] rest h = refl
  read_attributes [] (y ∷ ys) rest h = absurd h
  read_attributes (a ∷ list) [] rest h = absurd h
  read_attributes (a ∷ list) (y ∷ ys) rest h =
      ap (λ b. if b then attributes_of open_tags (ys ++ rest) else record { space = or_empty (attribute_space y.name open_tags); name = y.name.local; value = y.value } ∷ attributes_of open_tags (ys ++ rest)) (read_nothing a y h.0)
      ∙ ap (λ l. record { space = l; name = y.name.local; value = y.value } ∷ attributes_of open_tags (ys ++ rest)) (ap or_empty (read_space a y h.0))
      ∙ ap (λ x. record { space = a.space; name = x.name.local; value = x.value } ∷ attributes_of open_tags (ys ++ rest)) h.0.1.1
      ∙ ap (λ l. a ∷ l) (read_attributes list ys rest h.1)

  no_attributes : (ns rest : List Pair) → Each Declares ns → attributes_of open_tags (ns ++ rest) ≡ attributes_of open_tags rest
  no_attributes [] rest h = refl
  no_attributes (n ∷ ns) rest h =
      ap (λ b. if b then attributes_of open_tags (ns ++ rest) else record { space = or_empty (attribute_space n.name open_tags); name = n.name.local; value = n.value } ∷ attributes_of open_tags (ns ++ rest)) h.0
      ∙ no_attributes ns rest h.1

-- what is kept of the declarations
no_declarations : (ys rest : List Pair) → Each IsNoDeclaration ys → declared_of (ys ++ rest) ≡ declared_of rest
no_declarations [] rest h = refl
no_declarations (y ∷ ys) rest h = ap (λ b. if b then record { prefix = declared_prefix y.name; uri = y.value } ∷ declared_of (ys ++ rest) else declared_of (ys ++ rest)) h.0 ∙ no_declarations ys rest h.1

read_declarations : (list : List Prefix) (ns rest : List Pair) → Match IsPairOfDeclaration list ns → declared_of (ns ++ rest) ≡ list ++ declared_of rest
read_declarations [] [] rest h = refl
read_declarations [] (n ∷ ns) rest h = absurd h
read_declarations (d ∷ list) [] rest h = absurd h
read_declarations (d ∷ list) (n ∷ ns) rest h =
    ap (λ n. declared_of (n ∷ (ns ++ rest))) h.0.1 ∙ ap (λ l. d ∷ l) (read_declarations list ns rest h.1)

-- All that is known of a start tag that is read again, among these open tags.
pub record IsReadTag (outer : List Start) (e : Element) (t : Start) : Type 0 where
  pub sound : tag_fault outer t ≡ None
  pub space : or_empty (uri_of t.name.prefix (t ∷ outer)) ≡ e.space
  pub local : t.name.local ≡ e.name
  pub declared : declared_of t.pairs ≡ e.declared
  pub attributes : attributes_of (t ∷ outer) t.pairs ≡ e.attributes

module _ (ds : List Prefix) (plain : All (λ d. IsPlainName d.prefix) ds) (e : Element) (tag : IsTag ds e) (outer : List Start) (p q : Place) (ps : List Pair) (r : AreRead ds e.declared e.attributes ps)
    (differ : Pairwise (λ c d. c.prefix ≢ d.prefix) e.declared) where
  abbrev tag_read : Start
  tag_read = start p (called q (prefix_in ds e.space) e.name) ps

  abbrev versions : List Attribute
  versions = filter is_version e.attributes

  abbrev others : List Attribute
  others = filter (λ a. not (is_version a)) e.attributes

  are_attributes : Each (IsAttribute ds) (versions ++ others)
  are_attributes = subst (Each (IsAttribute ds)) (sym tag.version_first) (each_from (IsAttribute ds) e.attributes tag.attributes)

  v_read : Match (IsRead ds) versions r.versions
  v_read = match_with (IsAttribute ds) (IsPairOf ds) versions r.versions (each_left (IsAttribute ds) versions others are_attributes) r.are_versions

  o_read : Match (IsRead ds) others r.others
  o_read = match_with (IsAttribute ds) (IsPairOf ds) others r.others (each_right (IsAttribute ds) versions others are_attributes) r.are_others

  pub v_nothing : Each IsNoDeclaration r.versions
  v_nothing = match_each (IsRead ds) IsNoDeclaration (λ a x h. attribute_declares_nothing ds plain a x h.1 h.0) versions r.versions v_read

  pub o_nothing : Each IsNoDeclaration r.others
  o_nothing = match_each (IsRead ds) IsNoDeclaration (λ a x h. attribute_declares_nothing ds plain a x h.1 h.0) others r.others o_read

  n_declare : Each Declares r.declarations
  n_declare = all_declare e.declared r.declarations r.are_declarations

  module _ (scope : IsScope ds (tag_read ∷ outer)) where
    abbrev open_tags : List Start
    open_tags = tag_read ∷ outer

    attributes_differ : Pairwise (Apart open_tags) (r.versions ++ r.others)
    attributes_differ = match_pairwise (IsRead ds) Differ (Apart open_tags) (λ a b x y h k d. read_apart ds plain open_tags scope a b x y h k d) (versions ++ others) (r.versions ++ r.others)
        (match_append (IsRead ds) versions others r.versions r.others v_read o_read) (subst (Pairwise Differ) (sym tag.version_first) (pairwise_from Differ e.attributes tag.differ))

    declared_differ : Pairwise (Apart open_tags) r.declarations
    declared_differ = match_pairwise IsPairOfDeclaration (λ c d. c.prefix ≢ d.prefix) (Apart open_tags) (λ c d x y h k n. declarations_apart open_tags c d x y h k n) e.declared r.declarations r.are_declarations differ

    all_differ : Pairwise (Apart open_tags) (r.versions ++ (r.declarations ++ r.others))
    all_differ = pairwise_between (Apart open_tags) r.versions r.declarations r.others attributes_differ declared_differ
        (each_more IsNoDeclaration (λ x. Each (Apart open_tags x) r.declarations) (λ x h. each_more Declares (Apart open_tags x) (λ y k. attribute_apart open_tags x y h k) r.declarations n_declare) r.versions v_nothing)
        (each_more Declares (λ x. Each (Apart open_tags x) r.others) (λ x h. each_more IsNoDeclaration (Apart open_tags x) (λ y k. declaration_apart open_tags x y h k) r.others o_nothing) r.declarations n_declare)

    all_fine : Each (Fine open_tags) (r.versions ++ (r.declarations ++ r.others))
    all_fine = each_append (Fine open_tags) r.versions (r.declarations ++ r.others) (match_each (IsRead ds) (Fine open_tags) (read_fine ds plain open_tags scope) versions r.versions v_read)
        (each_append (Fine open_tags) r.declarations r.others
        (each_more Declares (Fine open_tags) (λ x h. or_left (is_declaration x.name) (is_some (attribute_space x.name open_tags)) h) r.declarations n_declare)
        (match_each (IsRead ds) (Fine open_tags) (read_fine ds plain open_tags scope) others r.others o_read))

    name : StandsFor open_tags e.space (prefix_in ds e.space)
    name = stands_for ds plain open_tags scope e.space tag.space

    pub read_tag : IsReadTag outer e tag_read
    read_tag = record {
      sound = ap (λ b. if is_some b then pairs_fault open_tags [] ps else Some (PrefixFault, q)) name.uri
          ∙ ap (pairs_fault open_tags []) r.whole ∙ no_fault open_tags (r.versions ++ (r.declarations ++ r.others)) [] all_differ all_fine;
      space = ap or_empty name.uri;
      local = refl;
      declared = ap declared_of r.whole ∙ no_declarations r.versions (r.declarations ++ r.others) v_nothing ∙ read_declarations e.declared r.declarations r.others r.are_declarations
          ∙ ap (λ l. e.declared ++ declared_of l) (sym (append-nil r.others)) ∙ ap (λ l. e.declared ++ l) (no_declarations r.others [] o_nothing) ∙ append-nil e.declared;
      attributes = ap (attributes_of open_tags) r.whole ∙ read_attributes ds plain open_tags scope versions r.versions (r.declarations ++ r.others) v_read
          ∙ ap (λ l. versions ++ l) (no_attributes ds plain open_tags scope r.declarations r.others n_declare ∙ ap (attributes_of open_tags) (sym (append-nil r.others)) ∙ read_attributes ds plain open_tags scope others r.others [] o_read ∙ append-nil others)
          ∙ tag.version_first;
    }
