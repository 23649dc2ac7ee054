-- Written names are read again.
use Rattle.std.proofs.Common.{◌≡◌, ℕ, suc, List, [], ◌∷◌, ◌++◌, refl, sym, ap, ◌∙◌, subst, append_assoc, arith}
use Rattle.std.specs.Prelude.{Bool, true, false, ◌||◌, ◌==◌, not, if◌then◌else◌, encode_utf8, encode_utf8_all, codes, find, Some, bytes_eq, All}
use Rattle.std.specs.Option.{option_map_or}
use Rattle.std.specs.List.{list_all, list_any}
use Rattle.std.proofs.lemmas.Bool.{and_parts, and_from, eqb-true, not_from_false}
use Rattle.std.proofs.lemmas.List.{append-nil}
use Rattle.std.proofs.lemmas.Slice.Eq.{bytes_eq-Decides}
use Rattle.atl_base.specs.declared.place.Place.{Place}
use Rattle.atl_base.specs.XmlText.{is_xml_character}
use Rattle.doc_text.specs.Symbols.{Kind, Slash, Greater, Equals, Blank, Letter, Bad, kind_of, utf8, is_good, is_start, is_name}
use Rattle.doc_text.specs.Raw.{Name, called}
use Rattle.doc_text.specs.State.{Bearer, State, Naming, Coloned, Localing, Goes}
use Rattle.doc_text.specs.Steps.{step, named}
use Rattle.doc_text.specs.Names.{prefix_of, written_name}
use Rattle.doc_text.specs.ReadBack.{IsPlain, IsPlainName, IsDeclared}
use Rattle.doc_text.specs.declared.tree.Prefix.{Prefix}
use Rattle.doc_text.proofs.KindsKept.{kind_is, sort_of}
use Rattle.doc_text.proofs.Leading.{Leads, leads_to, Reads, reads_on, reads_to, plainly, is_written}
use Rattle.doc_text.proofs.Runs.{false-true, letters, names}

-- what may follow a name
abbrev pub is_past_name : Kind → Bool
is_past_name (Blank c) = true
is_past_name Slash = true
is_past_name Greater = true
is_past_name Equals = true
is_past_name k = false

past : (P : Kind → Type 0) → ((c : ℕ) → P (Blank c)) → P Slash → P Greater → P Equals → (k : Kind) → is_past_name k ≡ true → P k
past P b s g e (Blank c) h = b c
past P b s g e Slash h = s
past P b s g e Greater h = g
past P b s g e Equals h = e
past P b s g e k h = absurd (false-true h)

-- a name has been read, and what follows ends it
abbrev pub IsAtName : Bearer → Name → State → Type 0
IsAtName b n u = (k : Kind) (p : Place) → is_past_name k ≡ true → step true u k p ≡ named true b n k

at_naming : (b : Bearer) (q : Place) (n : List ℕ) → IsAtName b (called q [] n) (Naming b q n)
at_naming b q n k p h = past (λ k. step true (Naming b q n) k p ≡ named true b (called q [] n) k) (λ c. refl) refl refl refl k h

at_localing : (b : Bearer) (q : Place) (m n : List ℕ) → IsAtName b (called q m n) (Localing b q m n)
at_localing b q m n k p h = past (λ k. step true (Localing b q m n) k p ≡ named true b (called q m n) k) (λ c. refl) refl refl refl k h

-- a character with a kind is one of XML text
pub xml_of : (c : ℕ) → is_good (kind_of c) ≡ true → is_xml_character c ≡ true
xml_of c h = on (is_xml_character c) refl
  where
    on : (b : Bool) → is_xml_character c ≡ b → is_xml_character c ≡ true
    on true e = e
    on false e = absurd (false-true (subst (λ b. is_good (if b then sort_of c else Bad) ≡ true) e h))

named_good : (k : Kind) → is_name k ≡ true → is_good k ≡ true
named_good k h = names (λ k. is_good k ≡ true) (λ c. refl) (λ c. refl) refl k h

start_name : (k : Kind) → is_start k ≡ true → is_name k ≡ true
start_name k h = letters (λ k. is_name k ≡ true) (λ c. refl) k h

name_written : (c : ℕ) → is_name (kind_of c) ≡ true → is_written c ≡ true
name_written c h = and_from (is_xml_character c) (not (c == 13)) (xml_of c (named_good (kind_of c) h)) (not_from_false (c == 13) (on (c == 13) refl))
  where
    on : (b : Bool) → (c == 13) ≡ b → (c == 13) ≡ false
    on true e = absurd (false-true (subst (λ d. is_name (kind_of d) ≡ true) (eqb-true c 13 e) h))
    on false e = e

names_written : (cs : List ℕ) → list_all (λ c. is_name (kind_of c)) cs ≡ true → list_all is_written cs ≡ true
names_written [] h = refl
names_written (c ∷ cs) h =
    let k = and_parts (is_name (kind_of c)) (list_all (λ c. is_name (kind_of c)) cs) h in
    and_from (is_written c) (list_all is_written cs) (name_written c k.0) (names_written cs k.1)

pub utf8_is : (c : ℕ) → is_good (kind_of c) ≡ true → utf8 (kind_of c) ≡ encode_utf8 c
utf8_is c h = ap encode_utf8 (kind_is c (xml_of c h)).code

-- the states that gather a name
run_reads : (g : List ℕ → State) → ((n : List ℕ) (k : Kind) (p : Place) → is_name k ≡ true → step true (g n) k p ≡ Goes (g (n ++ utf8 k))) → (cs : List ℕ) → list_all (λ c. is_name (kind_of c)) cs ≡ true → (n : List ℕ) → Leads (g n) cs (λ u. u ≡ g (n ++ encode_utf8_all cs))
run_reads g f [] h n = ap g (sym (append-nil n))
run_reads g f (c ∷ cs) h n = λ p.
    let k = and_parts (is_name (kind_of c)) (list_all (λ c. is_name (kind_of c)) cs) h in (
      g (n ++ utf8 (kind_of c)),
      f n (kind_of c) p k.0,
      leads_to (g (n ++ utf8 (kind_of c))) cs _ _ (run_reads g f cs k.1 (n ++ utf8 (kind_of c))) (λ u e.
          e ∙ ap g (append_assoc n (utf8 (kind_of c)) (encode_utf8_all cs) ∙ ap (λ l. n ++ (l ++ encode_utf8_all cs)) (utf8_is c (named_good (kind_of c) k.0)))),
    )

-- a plain name, in states that gather it
abbrev pub Begins : State → (Place → List ℕ → State) → Type 0
Begins s g = (c : ℕ) (p : Place) → step true s (Letter c) p ≡ Goes (g p (utf8 (Letter c)))

abbrev Gathers : (Place → List ℕ → State) → Type 0
Gathers g = (q : Place) (n : List ℕ) (k : Kind) (p : Place) → is_name k ≡ true → step true (g q n) k p ≡ Goes (g q (n ++ utf8 k))

plain_reads : (s : State) (g : Place → List ℕ → State) → Begins s g → Gathers g → (n : List ℕ) → IsPlain n → Reads s n (λ u. (q : Place) × (u ≡ g q n))
plain_reads s g b f n h = record {
  characters = h.first ∷ h.others;
  spelt = h.spelt;
  written = and_from (is_written h.first) (list_all is_written h.others) (name_written h.first (start_name (kind_of h.first) h.starts)) (names_written h.others h.goes_on);
  leads = λ p. (
    g p (utf8 (kind_of h.first)),
    letters (λ k. step true s k p ≡ Goes (g p (utf8 k))) (λ c. b c p) (kind_of h.first) h.starts,
    leads_to (g p (utf8 (kind_of h.first))) h.others _ _ (run_reads (g p) (f p) h.others h.goes_on (utf8 (kind_of h.first))) (λ u e.
        (p, e ∙ ap (g p) (ap (λ l. l ++ encode_utf8_all h.others) (utf8_is h.first (named_good (kind_of h.first) (start_name (kind_of h.first) h.starts))) ∙ h.spelt))),
  );
}

naming : (b : Bearer) → Gathers (Naming b)
naming b q n k p h = names (λ k. step true (Naming b q n) k p ≡ Goes (Naming b q (n ++ utf8 k))) (λ x. refl) (λ x. refl) refl k h

localing : (b : Bearer) (q : Place) (m : List ℕ) → Gathers (λ r. Localing b q m)
localing b q m r n k p h = names (λ k. step true (Localing b q m n) k p ≡ Goes (Localing b q m (n ++ utf8 k))) (λ x. refl) (λ x. refl) refl k h

-- a name without a prefix
pub unprefixed_reads : (s : State) (b : Bearer) → Begins s (Naming b) → (n : List ℕ) → IsPlain n → Reads s n (λ u. (q : Place) × IsAtName b (called q [] n) u)
unprefixed_reads s b f n h = reads_to s n _ _ (plain_reads s (Naming b) f (naming b) n h) (λ u e. (e.0, subst (IsAtName b (called e.0 [] n)) (sym e.1) (at_naming b e.0 n)))

-- behind a colon
colon_reads : (b : Bearer) (q : Place) (m n : List ℕ) → IsPlain n → Reads (Naming b q m) (codes ":" ++ n) (λ u. (p : Place) × (u ≡ Localing b q m n))
colon_reads b q m n h =
    reads_on (Naming b q m) (codes ":") n (λ u. u ≡ Coloned b q m) _
    (plainly (Naming b q m) (codes ":") _ refl (λ p. (Coloned b q m, refl, refl)))
    (λ u e. subst (λ v. Reads v n (λ u. (p : Place) × (u ≡ Localing b q m n))) (sym e) (plain_reads (Coloned b q m) (λ p. Localing b q m) (λ c p. refl) (localing b q m) n h))

pub prefixed_reads : (s : State) (b : Bearer) → Begins s (Naming b) → (m n : List ℕ) → IsPlain m → IsPlain n → Reads s (m ++ (codes ":" ++ n)) (λ u. (q : Place) × IsAtName b (called q m n) u)
prefixed_reads s b f m n h k =
    reads_on s m (codes ":" ++ n) _ _ (plain_reads s (Naming b) f (naming b) m h) (λ u e.
    subst (λ v. Reads v (codes ":" ++ n) (λ w. (q : Place) × IsAtName b (called q m n) w)) (sym e.1)
    (reads_to (Naming b e.0 m) (codes ":" ++ n) _ _ (colon_reads b e.0 m n k) (λ w g. (e.0, subst (IsAtName b (called e.0 m n)) (sym g.1) (at_localing b e.0 m n)))))

-- ## Names in namespaces

-- the first declaration of a namespace, and what holds of all
pub record Found (P : Prefix → Type 0) (ds : List Prefix) (space : List ℕ) : Type 0 where
  pub declaration : Prefix
  pub is_first : find (λ d. bytes_eq d.uri space) ds ≡ Some declaration
  pub uri : declaration.uri ≡ space
  pub keeps : P declaration

pub All_first : {X : Type 0} (P : X → Type 0) (x : X) (xs : List X) → All P (x ∷ xs) → P x
All_first P x xs h = h 0 x (omega arith)

pub All_rest : {X : Type 0} (P : X → Type 0) (x : X) (xs : List X) → All P (x ∷ xs) → All P xs
All_rest P x xs h = λ k d l. h (suc k) d (omega (arith, l))

pub found : (P : Prefix → Type 0) (ds : List Prefix) (space : List ℕ) → All P ds → list_any (λ d. bytes_eq d.uri space) ds ≡ true → Found P ds space
found P [] space a h = absurd (false-true h)
found P (d ∷ ds) space a h = on (bytes_eq d.uri space) refl (λ g. found P ds space (All_rest P d ds a) g)
  where
    on : (b : Bool) → bytes_eq d.uri space ≡ b → (list_any (λ d. bytes_eq d.uri space) ds ≡ true → Found P ds space) → Found P (d ∷ ds) space
    on true e again = record {
      declaration = d;
      is_first = ap (λ b. if b then Some d else find (λ d. bytes_eq d.uri space) ds) e;
      uri = (bytes_eq-Decides d.uri space).0 e;
      keeps = All_first P d ds a;
    }
    on false e again =
        let g = again (ap (λ b. b || list_any (λ d. bytes_eq d.uri space) ds) (sym e) ∙ h) in
        record {
          declaration = g.declaration;
          is_first = ap (λ b. if b then Some d else find (λ d. bytes_eq d.uri space) ds) e ∙ g.is_first;
          uri = g.uri;
          keeps = g.keeps;
        }

-- the prefix that a name in this namespace is written with
abbrev pub prefix_in : List Prefix → List ℕ → List ℕ
prefix_in ds [] = []
prefix_in ds (c ∷ cs) = prefix_of ds (c ∷ cs)

pub name_reads : (ds : List Prefix) → All (λ d. IsPlainName d.prefix) ds → (s : State) (b : Bearer) → Begins s (Naming b) → (space n : List ℕ) → IsDeclared ds space → IsPlainName n →
    Reads s (written_name ds space n) (λ u. (q : Place) × IsAtName b (called q (prefix_in ds space) n) u)
name_reads ds hs s b f [] n d h = unprefixed_reads s b f n h.plain
name_reads ds hs s b f (c ∷ cs) n d h =
    let g = found (λ d. IsPlainName d.prefix) ds (c ∷ cs) hs d in
    subst (λ m. Reads s (m ++ (codes ":" ++ n)) (λ u. (q : Place) × IsAtName b (called q m n) u)) (sym (ap (λ o. option_map_or (λ d. d.prefix) o []) g.is_first))
    (prefixed_reads s b f g.declaration.prefix n g.keeps.plain h.plain)
