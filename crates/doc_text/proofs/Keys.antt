-- Two attributes of a start tag are the same where their keys are, and what that says of the faults of its names.
use Rattle.std.proofs.Common.{◌≡◌, ℕ, ◌+◌, ◌<◌, suc, List, [], ◌∷◌, ◌++◌, length, take, drop, get_or, refl, ap, sym, ◌∙◌, add-one, drop-cons}
use Rattle.std.proofs.lemmas.List.{map-append, take_more}
use Rattle.std.specs.Prelude.{Bool, true, false, not, map, ◌&&◌, ◌||◌, if◌then◌else◌, bytes_eq, Option, Some, None, is_some}
use Rattle.std.specs.Option.{option_map}
use Rattle.std.specs.Cmp.Lexicographic.{nat_list_eq_equiv}
use Rattle.std.specs.List.{list_any}
use Rattle.atl_base.specs.declared.place.Place.{Place}
use Rattle.doc_text.specs.Faults.{Fault, TwiceAttribute, Prefix}
use Rattle.doc_text.specs.Raw.{Name, Pair, Start}
use Rattle.doc_text.specs.Namespaces.{is_declaration, declared_prefix, attribute_space, both, is_twice, stands_before, name_fault, or_else, pairs_fault}
use Rattle.doc_text.specs.Keys.{Key, declaring, naming, key_of, same, is_same, are_same}
use Rattle.doc_text.specs.SeenKeys.{key_in}
use Rattle.doc_text.specs.declared.reading.keys.Key.{Key as SomeKey}

twice_cases : (dm dn : Bool) (pm pn : List ℕ) (sm sn : Option (List ℕ)) (lm ln : List ℕ) →
    (if dm && dn then bytes_eq pm pn else if dm || dn then false else both sm sn && bytes_eq lm ln)
    ≡ are_same (if dm then Some (declaring pm) else option_map (λ s. naming s lm) sm) (if dn then Some (declaring pn) else option_map (λ s. naming s ln) sn)
twice_cases true true pm pn sm sn lm ln = refl
twice_cases true false pm pn sm None lm ln = refl
twice_cases true false pm pn sm (Some t) lm ln = refl
twice_cases false true pm pn None sn lm ln = refl
twice_cases false true pm pn (Some s) sn lm ln = refl
twice_cases false false pm pn None None lm ln = refl
twice_cases false false pm pn None (Some t) lm ln = refl
twice_cases false false pm pn (Some s) None lm ln = refl
twice_cases false false pm pn (Some s) (Some t) lm ln = refl

pub twice_is : (open_tags : List Start) (m n : Name) → is_twice open_tags m n ≡ are_same (key_of open_tags m) (key_of open_tags n)
twice_is open_tags m n = twice_cases (is_declaration m) (is_declaration n) (declared_prefix m) (declared_prefix n) (attribute_space m open_tags) (attribute_space n open_tags) m.local n.local

abbrev pub keys_of : List Start → List Pair → List (Option Key)
keys_of open_tags ps = map (λ a. key_of open_tags a.name) ps

pub stands_is : (open_tags : List Start) (n : Name) (before : List Pair) → stands_before open_tags n before ≡ list_any (λ k. are_same k (key_of open_tags n)) (keys_of open_tags before)
stands_is open_tags n [] = refl
stands_is open_tags n (a ∷ rest) =
    ap (λ b. b || stands_before open_tags n rest) (twice_is open_tags a.name n)
    ∙ ap (λ b. are_same (key_of open_tags a.name) (key_of open_tags n) || b) (stands_is open_tags n rest)

none_same : (ks : List (Option Key)) → list_any (λ k. are_same k None) ks ≡ false
none_same [] = refl
none_same (None ∷ ks) = none_same ks
none_same (Some k ∷ ks) = none_same ks

spaceless : (d : Bool) (p : List ℕ) (s : Option (List ℕ)) (l : List ℕ) → (if d then Some (declaring p) else option_map (λ t. naming t l) s) ≡ None → (d || is_some s) ≡ false
spaceless true p s l h = cc
spaceless false p None l h = refl
spaceless false p (Some t) l h = cc

spaced : (d : Bool) (p : List ℕ) (s : Option (List ℕ)) (l : List ℕ) (k : Key) → (if d then Some (declaring p) else option_map (λ t. naming t l) s) ≡ Some k → (d || is_some s) ≡ true
spaced true p s l k h = refl
spaced false p None l k h = cc
spaced false p (Some t) l k h = refl

abbrev judged : Bool → Bool → Place → Option (Fault × Place)
judged stands named at = if stands then Some (TwiceAttribute, at) else if named then None else Some (Prefix, at)

fault_is : (open_tags : List Start) (before : List Pair) (n : Name) →
    name_fault open_tags before n ≡ judged (stands_before open_tags n before) (is_declaration n || is_some (attribute_space n open_tags)) n.at
fault_is open_tags before n = refl

-- an attribute without a key
pub undeclared : (open_tags : List Start) (before : List Pair) (n : Name) → key_of open_tags n ≡ None → name_fault open_tags before n ≡ Some (Prefix, n.at)
undeclared open_tags before n h =
    ap (λ b. judged b (is_declaration n || is_some (attribute_space n open_tags)) n.at)
    (stands_is open_tags n before ∙ ap (λ k. list_any (λ m. are_same m k) (keys_of open_tags before)) h ∙ none_same (keys_of open_tags before))
    ∙ ap (λ b. judged false b n.at) (spaceless (is_declaration n) (declared_prefix n) (attribute_space n open_tags) n.local h)

-- and one with a key
pub keyed : (open_tags : List Start) (before : List Pair) (n : Name) (k : Key) → key_of open_tags n ≡ Some k →
    name_fault open_tags before n ≡ (if list_any (λ m. are_same m (Some k)) (keys_of open_tags before) then Some (TwiceAttribute, n.at) else None)
keyed open_tags before n k h =
    ap (λ b. judged b (is_declaration n || is_some (attribute_space n open_tags)) n.at)
    (stands_is open_tags n before ∙ ap (λ l. list_any (λ m. are_same m l) (keys_of open_tags before)) h)
    ∙ ap (λ b. judged (list_any (λ m. are_same m (Some k)) (keys_of open_tags before)) b n.at) (spaced (is_declaration n) (declared_prefix n) (attribute_space n open_tags) n.local k h)

-- the faults from one attribute on
pub fault_step : (open_tags : List Start) (ps : List Pair) (i : ℕ) (d : Pair) → i < length ps →
    pairs_fault open_tags (take i ps) (drop i ps) ≡ or_else (name_fault open_tags (take i ps) (get_or ps i d).name) (pairs_fault open_tags (take (i + 1) ps) (drop (i + 1) ps))
fault_step open_tags ps i d h =
    ap (pairs_fault open_tags (take i ps)) (drop-cons ps i d h)
    ∙ ap (λ before. or_else (name_fault open_tags (take i ps) (get_or ps i d).name) (pairs_fault open_tags before (drop (suc i) ps))) (sym (take_more ps i d h))
    ∙ ap (λ j. or_else (name_fault open_tags (take i ps) (get_or ps i d).name) (pairs_fault open_tags (take (i + 1) ps) (drop j ps))) (sym (add-one i))

any_is : (l : Key) (ks : List SomeKey) → list_any (λ m. are_same m (Some l)) (map (λ k. Some (key_in k)) ks) ≡ list_any (λ k. is_same (key_in k) l) ks
any_is l [] = refl
any_is l (k ∷ ks) = ap (λ b. is_same (key_in k) l || b) (any_is l ks)

-- An attribute at i, whose front has no fault. First one without a key.
pub stops_undeclared : (open_tags : List Start) (ps : List Pair) (i : ℕ) (p : Pair) (whole : Option (Fault × Place)) → i < length ps → p ≡ get_or ps i p →
    pairs_fault open_tags (take i ps) (drop i ps) ≡ whole → key_of open_tags p.name ≡ None → Some (Prefix, p.name.at) ≡ whole
stops_undeclared open_tags ps i p whole h at so_far none =
    let rest = pairs_fault open_tags (take (i + 1) ps) (drop (i + 1) ps) in
    sym (ap (λ f. or_else f rest) (undeclared open_tags (take i ps) p.name none))
    ∙ ap (λ q. or_else (name_fault open_tags (take i ps) q.name) rest) at
    ∙ sym (fault_step open_tags ps i p h) ∙ so_far

judged_at : (open_tags : List Start) (ps : List Pair) (i : ℕ) (p : Pair) (whole : Option (Fault × Place)) (l : Key) (ks : List SomeKey) → i < length ps → p ≡ get_or ps i p →
    pairs_fault open_tags (take i ps) (drop i ps) ≡ whole → key_of open_tags p.name ≡ Some l → map (λ k. Some (key_in k)) ks ≡ keys_of open_tags (take i ps) →
    or_else (if list_any (λ k. is_same (key_in k) l) ks then Some (TwiceAttribute, p.name.at) else None) (pairs_fault open_tags (take (i + 1) ps) (drop (i + 1) ps)) ≡ whole
judged_at open_tags ps i p whole l ks h at so_far some seen =
    let rest = pairs_fault open_tags (take (i + 1) ps) (drop (i + 1) ps) in
    ap (λ b. or_else (if b then Some (TwiceAttribute, p.name.at) else None) rest) (sym (any_is l ks) ∙ ap (λ m. list_any (λ k. are_same k (Some l)) m) seen)
    ∙ sym (ap (λ f. or_else f rest) (keyed open_tags (take i ps) p.name l some))
    ∙ ap (λ q. or_else (name_fault open_tags (take i ps) q.name) rest) at
    ∙ sym (fault_step open_tags ps i p h) ∙ so_far

-- one whose key has been seen
pub stops_twice : (open_tags : List Start) (ps : List Pair) (i : ℕ) (p : Pair) (whole : Option (Fault × Place)) (l : Key) (ks : List SomeKey) → i < length ps → p ≡ get_or ps i p →
    pairs_fault open_tags (take i ps) (drop i ps) ≡ whole → key_of open_tags p.name ≡ Some l → map (λ k. Some (key_in k)) ks ≡ keys_of open_tags (take i ps) →
    list_any (λ k. is_same (key_in k) l) ks ≡ true → Some (TwiceAttribute, p.name.at) ≡ whole
stops_twice open_tags ps i p whole l ks h at so_far some seen twice =
    let rest = pairs_fault open_tags (take (i + 1) ps) (drop (i + 1) ps) in
    sym (ap (λ b. or_else (if b then Some (TwiceAttribute, p.name.at) else None) rest) twice)
    ∙ judged_at open_tags ps i p whole l ks h at so_far some seen

-- and one whose key has not
pub goes_on : (open_tags : List Start) (ps : List Pair) (i : ℕ) (p : Pair) (whole : Option (Fault × Place)) (l : Key) (ks : List SomeKey) → i < length ps → p ≡ get_or ps i p →
    pairs_fault open_tags (take i ps) (drop i ps) ≡ whole → key_of open_tags p.name ≡ Some l → map (λ k. Some (key_in k)) ks ≡ keys_of open_tags (take i ps) →
    list_any (λ k. is_same (key_in k) l) ks ≡ false → pairs_fault open_tags (take (i + 1) ps) (drop (i + 1) ps) ≡ whole
goes_on open_tags ps i p whole l ks h at so_far some seen fresh =
    let rest = pairs_fault open_tags (take (i + 1) ps) (drop (i + 1) ps) in
    sym (ap (λ b. or_else (if b then Some (TwiceAttribute, p.name.at) else None) rest) fresh)
    ∙ judged_at open_tags ps i p whole l ks h at so_far some seen

-- its key is seen then
pub keys_more : (open_tags : List Start) (ps : List Pair) (i : ℕ) (p : Pair) (k : SomeKey) (ks new : List SomeKey) → i < length ps → p ≡ get_or ps i p → key_of open_tags p.name ≡ Some (key_in k) →
    map (λ k. Some (key_in k)) ks ≡ keys_of open_tags (take i ps) → new ≡ ks ++ (k ∷ []) → map (λ k. Some (key_in k)) new ≡ keys_of open_tags (take (i + 1) ps)
keys_more open_tags ps i p k ks new h at some seen pushed =
    let key : Pair → Option Key = λ a. key_of open_tags a.name in
    ap (map (λ k. Some (key_in k))) pushed ∙ map-append (λ k. Some (key_in k)) ks (k ∷ [])
    ∙ ap (λ l. l ++ (Some (key_in k) ∷ [])) seen
    ∙ ap (λ o. keys_of open_tags (take i ps) ++ (o ∷ [])) (sym some ∙ ap key at)
    ∙ sym (map-append key (take i ps) (get_or ps i p ∷ []))
    ∙ ap (map key) (sym (take_more ps i p h))

-- a set of keys, whose test is that they are the same
same_flips : (b c : Bool) → same b c ≡ same c b
same_flips true true = refl
same_flips true false = refl
same_flips false true = refl
same_flips false false = refl

is_same_flips : (k l : Key) → is_same k l ≡ is_same l k
is_same_flips k l = ap (λ b. b && (bytes_eq k.space l.space && bytes_eq k.local l.local)) (same_flips k.declares l.declares)
    ∙ ap (λ b. same l.declares k.declares && (b && bytes_eq k.local l.local)) (nat_list_eq_equiv.symm k.space l.space)
    ∙ ap (λ b. same l.declares k.declares && (bytes_eq l.space k.space && b)) (nat_list_eq_equiv.symm k.local l.local)

not_false : (b : Bool) → not b ≡ false → b ≡ true
not_false true h = refl
not_false false h = cc

not_true : (b : Bool) → not b ≡ true → b ≡ false
not_true true h = cc
not_true false h = refl

module _ (eq : SomeKey → SomeKey → Bool) (tells : (k l : SomeKey) → eq k l ≡ is_same (key_in k) (key_in l)) (k : SomeKey) where
  found : (ks : List SomeKey) → list_any (eq k) ks ≡ list_any (λ m. is_same (key_in m) (key_in k)) ks
  found [] = refl
  found (m ∷ ks) = ap (λ b. b || list_any (eq k) ks) (tells k m ∙ is_same_flips (key_in k) (key_in m)) ∙ ap (λ b. is_same (key_in m) (key_in k) || b) (found ks)

  pub found_again : (ks : List SomeKey) (is_new : Bool) → is_new ≡ not (list_any (eq k) ks) → is_new ≡ false → list_any (λ m. is_same (key_in m) (key_in k)) ks ≡ true
  found_again ks is_new told is = sym (found ks) ∙ not_false (list_any (eq k) ks) (sym told ∙ is)

  pub found_first : (ks : List SomeKey) (is_new : Bool) → is_new ≡ not (list_any (eq k) ks) → is_new ≡ true → list_any (λ m. is_same (key_in m) (key_in k)) ks ≡ false
  found_first ks is_new told is = sym (found ks) ∙ not_true (list_any (eq k) ks) (sym told ∙ is)

  pub added : (ks new : List SomeKey) (is_new : Bool) → is_new ≡ not (list_any (eq k) ks) → is_new ≡ true → new ≡ (if list_any (eq k) ks then ks else ks ++ (k ∷ [])) → new ≡ ks ++ (k ∷ [])
  added ks new is_new told is put = put ∙ ap (λ b. if b then ks else ks ++ (k ∷ [])) (not_true (list_any (eq k) ks) (sym told ∙ is))
