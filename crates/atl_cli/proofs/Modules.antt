-- A module of one rule is told by the texts of its tokens, and its names fit exactly where the tests say so.
use Rattle.std.proofs.Common.{◌≡◌, ◌≢◌, ℕ, ◌+◌, ◌<◌, Bool, true, false, not, List, [], ◌∷◌, ◌++◌, map, length, take, drop, get_or, refl, sym, ap, subst, ◌∙◌, arith, lit<, Bor}
use Rattle.std.specs.Prelude.{AllPairs, IfOk, MatchOption, Result, Ok, Err, Option, None, Some}
use Rattle.std.specs.List.{list_all}
use Rattle.std.specs.Str.{bytes_eq, chars}
use Rattle.std.specs.Cmp.Derive.{both_true}
use Rattle.std.proofs.lemmas.Bool.{and_parts}
use Rattle.std.proofs.lemmas.List.{take_all, take-map, drop-map, take-append-drop, map-append, length-map, get_or-map, take_more_same}
use Rattle.std.proofs.lemmas.List.Folds.{list_all-append, list_any_at}
use Rattle.std.proofs.lemmas.List.Elements.{All-nil, All-cons}
use Rattle.std.proofs.lemmas.List.Quantifiers.{all_pairs_push}
use Rattle.std.proofs.lemmas.Slice.Eq.{bytes_eq-Decides}
use Rattle.atl_base.specs.XmlText.{IsXmlText, IsFirstOffence}
use Rattle.atl_tree.specs.declared.token.Token.{Token}
use Rattle.atl_tree.specs.declared.token.Tokens.{Tokens}
use Rattle.atl_tree.specs.Tokens.{HasTokens}
use Rattle.atl_tree.proofs.Exact.{exact}
use Rattle.atl_cli.specs.declared.one_rule.OneRule.{OneRule}
use Rattle.atl_cli.specs.OneRule.{is_among, is_name, is_reserved, header_words, rule_words, header_names, rule_names, model_names, spelled, made_of, HasNames, IsOneRule, differ, models_differ_in, names_fit_in}

pub told : (m : OneRule) → made_of (spelled m) ≡ m
told m = refl

pub other-length : (words : List (List ℕ)) (m : OneRule) → words ≡ spelled m → length words ≡ 35
other-length words m e = ap length e

-- bytes with an offence are no text
pub no_text : (bytes : List ℕ) (n : ℕ) → IsFirstOffence bytes n → IsXmlText bytes → ⊥
no_text bytes n at text =
    at.longest (n + 1 + length bytes) (omega arith) (subst IsXmlText (sym (take_all (n + 1 + length bytes) bytes (omega arith))) text)

differs : (a b : List ℕ) → differ a b ≡ true → a ≢ b
differs a b e same = let yes = ap not ((bytes_eq-Decides a b).1 same) in cc

differs-so : (a b : List ℕ) → a ≢ b → differ a b ≡ true
differs-so a b ne = opposite (bytes_eq a b) (λ e. ne ((bytes_eq-Decides a b).0 e))
  where
    opposite : (x : Bool) → (x ≡ true → ⊥) → not x ≡ true
    opposite true h = absurd (h refl)
    opposite false h = refl

not-true : (x : Bool) → not x ≡ true → x ≡ false
not-true true e = cc
not-true false e = refl

not-false : (x : Bool) → x ≡ false → not x ≡ true
not-false x e = ap not e

abbrev Apart : List ℕ → List ℕ → Type 0
Apart a b = a ≢ b

four : (a b c d : List ℕ) → a ≢ b → a ≢ c → a ≢ d → b ≢ c → b ≢ d → c ≢ d → AllPairs (λ x y. x ≢ y) (a ∷ b ∷ c ∷ d ∷ [])
four a b c d ab ac ad bc bd cd =
    all_pairs_push Apart (a ∷ b ∷ c ∷ []) d
    (all_pairs_push Apart (a ∷ b ∷ []) c
    (all_pairs_push Apart (a ∷ []) b
    (all_pairs_push Apart [] a (λ i j e lt within. absurd (omega (arith, within))) (All-nil (λ x. Apart x a)))
    (All-cons (λ x. Apart x b) a [] ab (All-nil (λ x. Apart x b))))
    (All-cons (λ x. Apart x c) a (b ∷ []) ac (All-cons (λ x. Apart x c) b [] bc (All-nil (λ x. Apart x c)))))
    (All-cons (λ x. Apart x d) a (b ∷ c ∷ []) ad (All-cons (λ x. Apart x d) b (c ∷ []) bd (All-cons (λ x. Apart x d) c [] cd (All-nil (λ x. Apart x d)))))

models : (m : OneRule) → models_differ_in m ≡ true → AllPairs (λ x y. x ≢ y) (model_names m)
models m e =
    let p = and_parts (differ m.target m.target_metamodel) _ e in
    let q = and_parts (differ m.target m.source) _ p.1 in
    let r = and_parts (differ m.target m.source_metamodel) _ q.1 in
    let s = and_parts (differ m.target_metamodel m.source) _ r.1 in
    let t = and_parts (differ m.target_metamodel m.source_metamodel) (differ m.source m.source_metamodel) s.1 in
    four m.target m.target_metamodel m.source m.source_metamodel
    (differs _ _ p.0) (differs _ _ q.0) (differs _ _ r.0) (differs _ _ s.0) (differs _ _ t.0) (differs _ _ t.1)

models-so : (m : OneRule) → AllPairs (λ x y. x ≢ y) (model_names m) → models_differ_in m ≡ true
models-so m all =
    both_true (differs-so m.target m.target_metamodel (all 0 1 [] (lit< tt) (lit< tt)))
    (both_true (differs-so m.target m.source (all 0 2 [] (lit< tt) (lit< tt)))
    (both_true (differs-so m.target m.source_metamodel (all 0 3 [] (lit< tt) (lit< tt)))
    (both_true (differs-so m.target_metamodel m.source (all 1 2 [] (lit< tt) (lit< tt)))
    (both_true (differs-so m.target_metamodel m.source_metamodel (all 1 3 [] (lit< tt) (lit< tt)))
    (differs-so m.source m.source_metamodel (all 2 3 [] (lit< tt) (lit< tt)))))))

pub fits : (m : OneRule) → names_fit_in m ≡ true → HasNames m
fits m e =
    let p = and_parts (list_all is_name (header_names m)) _ e in
    let q = and_parts (list_all is_name (rule_names m)) _ p.1 in
    let r = and_parts (models_differ_in m) _ q.1 in
    let s = and_parts (not (is_reserved m.source_metamodel)) _ r.1 in
    let t = and_parts (not (is_reserved m.target_metamodel)) (differ m.made m.matched) s.1 in
    record {
      names = list_all-append is_name (header_names m) (rule_names m) ∙ both_true p.0 q.0;
      models = models m r.0;
      source_space = not-true (is_reserved m.source_metamodel) s.0;
      target_space = not-true (is_reserved m.target_metamodel) t.0;
      variables = differs m.made m.matched t.1;
    }

pub fits-so : (m : OneRule) → HasNames m → names_fit_in m ≡ true
fits-so m h =
    let p = and_parts (list_all is_name (header_names m)) (list_all is_name (rule_names m)) (sym (list_all-append is_name (header_names m) (rule_names m)) ∙ h.names) in
    both_true p.0 (both_true p.1 (both_true (models-so m h.models)
    (both_true (not-false (is_reserved m.source_metamodel) h.source_space)
    (both_true (not-false (is_reserved m.target_metamodel) h.target_space) (differs-so m.made m.matched h.variables)))))

-- the words that tokens have, where one differs from what it ought to be
pub among-here : (name : List ℕ) (words : List (Bor (List ℕ))) (i : ℕ) (d : Bor (List ℕ)) → i < length words → true ≡ bytes_eq name (get_or words i d).now → true ≡ is_among name (map (λ w. w.now) words)
among-here name words i d lt e =
    let within : i < length (map (λ w. w.now) words) = omega (arith, lt, length-map words (λ w. w.now)) in
    sym (list_any_at (λ w. bytes_eq name w) (map (λ w. w.now) words) i [] within
    (ap (λ w. bytes_eq name w) (get_or-map (λ w. w.now) words i d [] lt) ∙ sym e))

same-at : (a b : List ℕ) → false ≡ not (bytes_eq a b) → a ≡ b
same-at a b e = (bytes_eq-Decides a b).0 (opposite (bytes_eq a b) e)
  where
    opposite : (x : Bool) → false ≡ not x → x ≡ true
    opposite true h = refl
    opposite false h = cc

text-at : (tokens : List Token) (i : ℕ) (t : Token) → i < length tokens → t ≡ get_or tokens i t → get_or (map (λ x. x.text) tokens) i [] ≡ t.text
text-at tokens i t lt is = get_or-map (λ x. x.text) tokens i t [] lt ∙ ap (λ x. x.text) (sym is)

pub other-word : (tokens : List Token) (words : List (Bor (List ℕ))) (i : ℕ) (t : Token) (d : Bor (List ℕ)) (text : List ℕ) → i < length tokens → length tokens ≡ length words → t ≡ get_or tokens i t → text ≡ t.text → true ≡ not (bytes_eq text (get_or words i d).now) → map (λ x. x.text) tokens ≡ map (λ w. w.now) words → ⊥
other-word tokens words i t d text lt long is read ne same =
    let within : i < length words = omega (arith, lt, long) in
    differs text (get_or words i d).now (sym ne)
    (read ∙ sym (text-at tokens i t lt is) ∙ ap (λ l. get_or l i []) same ∙ get_or-map (λ w. w.now) words i d [] within)

pub one-more-word : (tokens : List Token) (words : List (Bor (List ℕ))) (i : ℕ) (t : Token) (d : Bor (List ℕ)) (text : List ℕ) → i < length tokens → length tokens ≡ length words → t ≡ get_or tokens i t → text ≡ t.text → false ≡ not (bytes_eq text (get_or words i d).now)
    → take i (map (λ x. x.text) tokens) ≡ take i (map (λ w. w.now) words) → take (i + 1) (map (λ x. x.text) tokens) ≡ take (i + 1) (map (λ w. w.now) words)
one-more-word tokens words i t d text lt long is read eq before =
    let within : i < length words = omega (arith, lt, long) in
    take_more_same (map (λ x. x.text) tokens) (map (λ w. w.now) words) i [] (omega (arith, lt, length-map tokens (λ x. x.text))) (omega (arith, within, length-map words (λ w. w.now))) before
    (text-at tokens i t lt is ∙ sym read ∙ same-at text (get_or words i d).now eq ∙ sym (get_or-map (λ w. w.now) words i d [] within))

-- a module is told by texts in one way
pub one-way : (words : List (List ℕ)) (made m : OneRule) → made ≡ made_of words → words ≡ spelled m → made ≡ m
one-way words made m e same = e ∙ ap made_of same ∙ told m

pub front-words : (tokens : List Token) (m : OneRule) → map (λ t. t.text) tokens ≡ spelled m → map (λ t. t.text) (take 12 tokens) ≡ header_words m
front-words tokens m same = sym (take-map (λ t. t.text) 12 tokens) ∙ ap (λ l. take 12 l) same

pub later-words : (tokens : List Token) (m : OneRule) → map (λ t. t.text) tokens ≡ spelled m → map (λ t. t.text) (drop 12 tokens) ≡ rule_words m
later-words tokens m same = sym (drop-map (λ t. t.text) 12 tokens) ∙ ap (λ l. drop 12 l) same

pub both-words : (tokens : List Token) (m : OneRule) → map (λ t. t.text) (take 12 tokens) ≡ header_words m → map (λ t. t.text) (drop 12 tokens) ≡ rule_words m → map (λ t. t.text) tokens ≡ spelled m
both-words tokens m front later =
    ap (λ l. map (λ t. t.text) l) (sym (take-append-drop 12 tokens)) ∙ map-append (λ t. t.text) (take 12 tokens) (drop 12 tokens) ∙ ap (λ l. l ++ map (λ t. t.text) (drop 12 tokens)) front ∙ ap (λ l. header_words m ++ l) later

-- a text has one list of tokens at most
one-list : (text : List ℕ) (ts us : Tokens) → HasTokens (chars text) ts → HasTokens (chars text) us → us.list ≡ ts.list
one-list text ts us has other =
    let a = (exact (chars text)).reads ts has in
    let b = (exact (chars text)).reads us other in
    let same : us ≡ ts = cc in
    ap (λ x. x.list) same

pub from-tokens : {E : Type 0} (text : List ℕ) (ts : Tokens) (list : List Token) (r : Result (Option OneRule) E) → HasTokens (chars text) ts → list ≡ ts.list
    → IfOk r (λ read. MatchOption read ((m : OneRule) → map (λ t. t.text) list ≡ spelled m → HasNames m → ⊥) (λ m. (map (λ t. t.text) list ≡ spelled m) × HasNames m))
    → IfOk r (λ read. MatchOption read ((m : OneRule) → IsOneRule text m → ⊥) (λ m. IsOneRule text m))
from-tokens text ts list (Err e) has it h = h
from-tokens text ts list (Ok None) has it h =
    λ m is. h m (ap (λ l. map (λ t. t.text) l) (it ∙ sym (one-list text ts is.tokens.0 has is.tokens.1)) ∙ is.tokens.2) is.names
from-tokens text ts list (Ok (Some m)) has it h =
    record { tokens = (ts, has, ap (λ l. map (λ t. t.text) l) (sym it) ∙ h.0); names = h.1 }
