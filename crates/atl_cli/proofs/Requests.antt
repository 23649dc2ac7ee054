-- Pairs of several words, names that differ, and the words of a request.
use Rattle.std.proofs.Common.{◌≡◌, ◌≢◌, ℕ, ◌+◌, ◌-◌, ◌<◌, Bool, true, false, not, List, [], ◌∷◌, ◌++◌, map, length, take, drop, get_or, refl, sym, ap, subst, ◌∙◌, arith, codes}
use Rattle.std.specs.Prelude.{All, Any, AllPairs}
use Rattle.std.specs.List.{AllByRecursion}
use Rattle.std.proofs.lemmas.List.{get_or_default, get_or-map, get_or-take, take_more, take_all, length-take-le, length-drop, map-append, length-map}
use Rattle.std.proofs.lemmas.List.Elements.{recursion_from_All}
use Rattle.std.proofs.lemmas.List.Quantifiers.{all_pairs_push}
use Rattle.std.specs.Str.{bytes_eq}
use Rattle.std.proofs.lemmas.Slice.Eq.{bytes_eq-Decides}
use Rattle.atl_cli.specs.declared.words.Pair.{Pair}
use Rattle.atl_cli.specs.declared.words.Request.{Request}
use Rattle.atl_cli.specs.Words.{IsPair, IsRequest, pair_word}
use Rattle.atl_cli.proofs.Pairs.{one_split}

abbrev pub Differ : Pair → Pair → Type 0
Differ p q = p.name ≢ q.name

no_pair : Pair
no_pair = record { name = []; path = [] }

-- a word among them that is no pair
pub not_all_pairs : (words : List (List ℕ)) (i : ℕ) (word : List ℕ) (ps : List Pair) → i < length words → word ≡ get_or words i word → ((p : Pair) → IsPair p → word ≡ pair_word p → ⊥) → All IsPair ps → words ≡ map pair_word ps → ⊥
not_all_pairs words i word ps lt is none all same =
    let within : i < length ps = omega (arith, ap length same, length-map {A = Pair} {B = List ℕ}) in
    none (get_or ps i no_pair) (all i no_pair within) (is ∙ ap (λ l. get_or l i word) same ∙ get_or-map pair_word ps i no_pair word within)

pub one_more_pair : (words : List (List ℕ)) (i : ℕ) (word : List ℕ) (ps : List Pair) (p : Pair) → i < length words → word ≡ get_or words i word → take i words ≡ map pair_word ps → word ≡ pair_word p → take (i + 1) words ≡ map pair_word (ps ++ (p ∷ []))
one_more_pair words i word ps p lt is before it =
    take_more words i word lt ∙ ap (λ l. l ++ (get_or words i word ∷ [])) before ∙ ap (λ w. map pair_word ps ++ (w ∷ [])) (sym is ∙ it) ∙ sym (map-append pair_word ps (p ∷ []))

-- a name that stood before
pub names_clash : (ps : List Pair) (i : ℕ) (x : Pair) → i < length ps → x ≡ get_or ps i x → Any (λ p. p.name ≡ x.name) (take i ps) → AllPairs (λ p q. p.name ≢ q.name) ps → ⊥
names_clash ps i x lt is (k, y, within, at, same) all =
    let below : k < i = omega (arith, within, length-take-le i ps (omega (arith, lt))) in
    all k i y below lt (ap (λ p. p.name) (sym (get_or-take i ps k y below) ∙ at) ∙ same ∙ ap (λ p. p.name) (is ∙ get_or_default ps i x y lt))

pub one_more_name : (ps : List Pair) (i : ℕ) (x : Pair) → i < length ps → x ≡ get_or ps i x → (Any (λ p. p.name ≡ x.name) (take i ps) → ⊥) → AllPairs (λ p q. p.name ≢ q.name) (take i ps) → AllPairs (λ p q. p.name ≢ q.name) (take (i + 1) ps)
one_more_name ps i x lt is none before =
    subst (λ l. AllPairs Differ l) (sym (take_more ps i x lt))
    (all_pairs_push Differ (take i ps) (get_or ps i x) before
    (λ k d within same. none (k, get_or (take i ps) k d, within, get_or_default (take i ps) k (get_or (take i ps) k d) d within, same ∙ ap (λ p. p.name) (sym is))))

-- a pair is told by its word, and pairs by their words
same_pair : (p q : Pair) → IsPair p → IsPair q → pair_word p ≡ pair_word q → p ≡ q
same_pair p q ok fine e =
    let parts = one_split p.name p.path q.name q.path ok.first fine.first e in
    ap (λ n. let r : Pair = record { name = n; path = p.path } in r) parts.0 ∙ ap (λ t. let r : Pair = record { name = q.name; path = t } in r) parts.1

pub same_pairs : (ps qs : List Pair) → AllByRecursion IsPair ps → AllByRecursion IsPair qs → map pair_word ps ≡ map pair_word qs → ps ≡ qs
same_pairs [] [] ok fine e = refl
same_pairs [] (q ∷ qs) ok fine e = cc
same_pairs (p ∷ ps) [] ok fine e = cc
same_pairs (p ∷ ps) (q ∷ qs) ok fine e =
    let heads : pair_word p ≡ pair_word q = cc in
    let tails : map pair_word ps ≡ map pair_word qs = cc in
    ap (λ x. x ∷ ps) (same_pair p q ok.0 fine.0 heads) ∙ ap (λ l. q ∷ l) (same_pairs ps qs ok.1 fine.1 tails)

pub same_bytes : (a b : List ℕ) → false ≡ not (bytes_eq a b) → a ≡ b
same_bytes a b e = (bytes_eq-Decides a b).0 (opposite (bytes_eq a b) e)
  where
    opposite : (x : Bool) → false ≡ not x → x ≡ true
    opposite true e = refl
    opposite false e = cc

pub spelled_so : (words : List (List ℕ)) (command word : List ℕ) (ps : List Pair) → length words ≡ 6 → command ≡ get_or words 0 command → word ≡ get_or words 1 word → command ≡ codes "transform" → drop 2 words ≡ map pair_word ps → words ≡ codes "transform" ∷ (word ∷ map pair_word ps)
spelled_so [] command word ps six first second it rest = cc
spelled_so (a ∷ []) command word ps six first second it rest = absurd (omega arith)
spelled_so (a ∷ (b ∷ words)) command word ps six first second it rest =
    ap (λ x. x ∷ (b ∷ words)) (sym first ∙ it) ∙ ap (λ x. codes "transform" ∷ (x ∷ words)) (sym second) ∙ ap (λ l. codes "transform" ∷ (word ∷ l)) rest

-- the words from the third on
pub from_third : (words : List (List ℕ)) → take (length words - 2) (drop 2 words) ≡ drop 2 words
from_third words = take_all (length words - 2) (drop 2 words) (omega (arith, length-drop 2 words))

pub four_pairs : (words : List (List ℕ)) (ps : List Pair) → length words ≡ 6 → drop 2 words ≡ map pair_word ps → length ps ≡ 4
four_pairs words ps six rest = omega (arith, ap length rest, length-map {A = Pair} {B = List ℕ}, length-drop 2 words)

-- where the names of the pairs do not differ
pub no_request : (words : List (List ℕ)) (ps : List Pair) → All IsPair ps → drop 2 words ≡ map pair_word ps → (AllPairs (λ p q. p.name ≢ q.name) ps → ⊥) → (r : Request) → IsRequest words r → ⊥
no_request words ps all rest clash r is =
    let same : ps ≡ r.pairs = same_pairs ps r.pairs (recursion_from_All IsPair ps all) (recursion_from_All IsPair r.pairs is.pairs) (sym rest ∙ ap (λ l. drop 2 l) is.spelled) in
    clash (subst (λ l. AllPairs Differ l) (sym same) is.differ)
