-- What the table of ends says, and clashes with the ends that were given before.
use Rattle.std.proofs.Common.{◌≡◌, ◌≢◌, ℕ, List, [], ◌∷◌, ◌++◌, refl, sym, ap, subst, ◌∙◌, arith}
use Rattle.std.specs.Prelude.{Bool, true, false, ◌==◌, ◌&&◌, ◌||◌, not, Some, None, if◌then◌else◌}
use Rattle.std.specs.List.{list_any}
use Rattle.std.proofs.lemmas.Bool.{eqb-true, and_parts, false≢true}
use Rattle.std.proofs.lemmas.List.{append-nil, append_assoc}
use Rattle.std.proofs.lemmas.List.Folds.{list_any-append}
use Rattle.std.proofs.lemmas.Option.{none-some, same_Some}
use Rattle.ecore_meta.specs.declared.parts.Parts.{Parts}
use Rattle.model_store.specs.Contents.{is_many}
use Rattle.xmi_links.specs.declared.ends.Ends.{Ends}
use Rattle.xmi_links.specs.References.{Link, clashes, has_clash}
use Rattle.xmi_links.specs.Found.{AreEnds, AreKept, IsGiven, end_found, is_end}
use Rattle.xmi_links.proofs.Steps.{or_false, or_assoc, or_true}

-- ## Tests

none_of_many : (a b d : Bool) → ((a && b && not true) && d) ≡ false
none_of_many true true d = refl
none_of_many true false d = refl
none_of_many false true d = refl
none_of_many false false d = refl

of_single : (e x : Bool) → ((e && not false) && x) ≡ (e && x)
of_single true x = refl
of_single false x = refl

once_more : (rest x : Bool) → (x || (rest && x)) ≡ x
once_more rest true = refl
once_more true false = refl
once_more false false = refl

module _ (meta : Parts) where
  -- ## Clashes with what was given

  none_many : (l : Link) → is_many meta l.by ≡ true → (ks : List Link) → list_any (clashes meta l) ks ≡ false
  none_many l many [] = refl
  none_many l many (k ∷ ks) =
      ap (λ x. x || list_any (clashes meta l) ks)
      (ap (λ b. (k.from.0 == l.from.0 && k.by.0 == l.by.0 && not b) && not (k.to.0 == l.to.0)) many ∙ none_of_many (k.from.0 == l.from.0) (k.by.0 == l.by.0) (not (k.to.0 == l.to.0)))
      ∙ none_many l many ks

  -- a clash at a single end
  clash_is : (l k : Link) → is_many meta l.by ≡ false → clashes meta l k ≡ (is_end l.from.0 l.by.0 k && not (k.to.0 == l.to.0))
  clash_is l k single =
      ap (λ b. (k.from.0 == l.from.0 && k.by.0 == l.by.0 && not b) && not (k.to.0 == l.to.0)) single
      ∙ of_single (is_end l.from.0 l.by.0 k) (not (k.to.0 == l.to.0))

  -- what an end has that is the same
  same_end : (ends : Ends) (o f : ℕ) (k : Link) → is_end o f k ≡ true → (is_many meta k.by ≡ false → end_found ends k.from.0 k.by.0 ≡ Some k.to.0)
      → is_many meta (record { 0 = f }) ≡ false → end_found ends o f ≡ Some k.to.0
  same_end ends o f k e kept single =
      let parts = and_parts (k.from.0 == o) (k.by.0 == f) e in
      let from : k.from.0 ≡ o = eqb-true k.from.0 o parts.0 in
      let by : k.by.0 ≡ f = eqb-true k.by.0 f parts.1 in
      ap (λ n. end_found ends n f) (sym from) ∙ ap (end_found ends k.from.0) (sym by)
      ∙ kept (ap (λ n. is_many meta (record { 0 = n })) by ∙ single)

  module _ (ends : Ends) (l : Link) (single : is_many meta l.by ≡ false) where
    clash_where : (q : ℕ) → end_found ends l.from.0 l.by.0 ≡ Some q → (ks : List Link) → AreKept meta ends ks
        → list_any (clashes meta l) ks ≡ (list_any (is_end l.from.0 l.by.0) ks && not (q == l.to.0))
    clash_where q found [] kept = refl
    clash_where q found (k ∷ ks) kept =
        ap (λ x. x || list_any (clashes meta l) ks) (clash_is l k single)
        ∙ ap (λ x. (is_end l.from.0 l.by.0 k && not (k.to.0 == l.to.0)) || x) (clash_where q found ks kept.1)
        ∙ by (is_end l.from.0 l.by.0 k) refl
      where
        by : (e : Bool) → is_end l.from.0 l.by.0 k ≡ e
            → ((e && not (k.to.0 == l.to.0)) || (list_any (is_end l.from.0 l.by.0) ks && not (q == l.to.0))) ≡ ((e || list_any (is_end l.from.0 l.by.0) ks) && not (q == l.to.0))
        by true e =
            let same : k.to.0 ≡ q = same_Some k.to.0 q (sym (same_end ends l.from.0 l.by.0 k e kept.0 single) ∙ found) in
            ap (λ n. not (n == l.to.0) || (list_any (is_end l.from.0 l.by.0) ks && not (q == l.to.0))) same
            ∙ once_more (list_any (is_end l.from.0 l.by.0) ks) (not (q == l.to.0))
        by false e = refl

    none_new : end_found ends l.from.0 l.by.0 ≡ None → (ks : List Link) → AreKept meta ends ks → list_any (clashes meta l) ks ≡ false
    none_new found [] kept = refl
    none_new found (k ∷ ks) kept =
        ap (λ x. x || list_any (clashes meta l) ks) (clash_is l k single ∙ by (is_end l.from.0 l.by.0 k) refl)
        ∙ none_new found ks kept.1
      where
        by : (e : Bool) → is_end l.from.0 l.by.0 k ≡ e → (e && not (k.to.0 == l.to.0)) ≡ false
        by true e = absurd (none-some k.to.0 (sym found ∙ same_end ends l.from.0 l.by.0 k e kept.0 single))
        by false e = refl

  -- ## One end more

  kept_more : (ends : Ends) (l : Link) (ks : List Link) → AreKept meta ends ks → (is_many meta l.by ≡ false → end_found ends l.from.0 l.by.0 ≡ Some l.to.0) → AreKept meta ends (ks ++ l ∷ [])
  kept_more ends l [] h new = (new, tt)
  kept_more ends l (k ∷ ks) h new = (h.0, kept_more ends l ks h.1 new)

  only_more : (o f : ℕ) (l : Link) (ks : List Link) → list_any (is_end o f) ks ≡ true → list_any (is_end o f) (ks ++ l ∷ []) ≡ true
  only_more o f l ks h = list_any-append (is_end o f) ks (l ∷ []) ∙ ap (λ x. x || list_any (is_end o f) (l ∷ [])) h

  alone : (before : List Link) (l : Link) → has_clash meta before (l ∷ []) ≡ list_any (clashes meta l) before
  alone before l = or_false (list_any (clashes meta l) before)

  pub given_many : (ends : Ends) (l : Link) → is_many meta l.by ≡ true → IsGiven meta ends (l ∷ []) false ends
  given_many ends l many = λ before are. (
    sym (alone before l ∙ none_many l many before),
    λ e. record {
      all = kept_more ends l before are.all (λ single. absurd (false≢true (sym single ∙ many)));
      only = λ o f h. only_more o f l before (are.only o f h);
    },
  )

  pub given_known : (ends : Ends) (l : Link) (q : ℕ) → is_many meta l.by ≡ false → end_found ends l.from.0 l.by.0 ≡ Some q → IsGiven meta ends (l ∷ []) (not (q == l.to.0)) ends
  given_known ends l q single found = λ before are. (
    sym (alone before l ∙ clash_where ends l single q found before are.all
        ∙ ap (λ x. x && not (q == l.to.0)) (are.only l.from.0 l.by.0 (λ none. none-some q (sym none ∙ found)))),
    λ e. record {
      all = kept_more ends l before are.all (λ single. found ∙ ap Some (same q l.to.0 e));
      only = λ o f h. only_more o f l before (are.only o f h);
    },
  )
    where
      same : (n m : ℕ) → not (n == m) ≡ false → n ≡ m
      same n m h = eqb-true n m (back (n == m) h)
        where
          back : (b : Bool) → not b ≡ false → b ≡ true
          back true h = refl
          back false h = absurd (false≢true (sym h))

  pub given_new : (old new : Ends) (l : Link) → is_many meta l.by ≡ false → end_found old l.from.0 l.by.0 ≡ None
      → ((o f : ℕ) → end_found new o f ≡ (if l.from.0 == o && l.by.0 == f then Some l.to.0 else end_found old o f)) → IsGiven meta old (l ∷ []) false new
  given_new old new l single found put = λ before are. (
    sym (alone before l ∙ none_new old l single found before are.all),
    λ e. record {
      all = kept_more new l before (others before are.all) (λ s. put l.from.0 l.by.0 ∙ at_end (l.from.0 == l.from.0 && l.by.0 == l.by.0) (itself l.from.0 l.by.0));
      only = λ o f h. list_any-append (is_end o f) before (l ∷ []) ∙ by o f before (are.only o f) (l.from.0 == o && l.by.0 == f) refl h;
    },
  )
    where
      itself : (o f : ℕ) → (o == o && f == f) ≡ true
      itself o f = grind arith

      at_end : (b : Bool) → b ≡ true → (if b then Some l.to.0 else end_found old l.from.0 l.by.0) ≡ Some l.to.0
      at_end true h = refl
      at_end false h = absurd (false≢true h)

      others : (ks : List Link) → AreKept meta old ks → AreKept meta new ks
      others [] h = tt
      others (k ∷ ks) h = (λ s. put k.from.0 k.by.0 ∙ apart (l.from.0 == k.from.0 && l.by.0 == k.by.0) refl s, others ks h.1)
        where
          apart : (b : Bool) → (l.from.0 == k.from.0 && l.by.0 == k.by.0) ≡ b → is_many meta k.by ≡ false → (if b then Some l.to.0 else end_found old k.from.0 k.by.0) ≡ Some k.to.0
          apart true e s =
              let parts = and_parts (l.from.0 == k.from.0) (l.by.0 == k.by.0) e in
              absurd (none-some k.to.0 (sym found ∙ ap (λ n. end_found old n l.by.0) (eqb-true l.from.0 k.from.0 parts.0) ∙ ap (end_found old k.from.0) (eqb-true l.by.0 k.by.0 parts.1) ∙ h.0 s))
          apart false e s = h.0 s

      by : (o f : ℕ) (ks : List Link) → (end_found old o f ≢ None → list_any (is_end o f) ks ≡ true) → (b : Bool) → (l.from.0 == o && l.by.0 == f) ≡ b → end_found new o f ≢ None
          → (list_any (is_end o f) ks || list_any (is_end o f) (l ∷ [])) ≡ true
      by o f ks only true e h = ap (λ x. list_any (is_end o f) ks || (x || false)) e ∙ or_true (list_any (is_end o f) ks)
      by o f ks only false e h =
          ap (λ x. x || list_any (is_end o f) (l ∷ []))
          (only (λ none. h (put o f ∙ ap (λ b. if b then Some l.to.0 else end_found old o f) e ∙ none)))

  -- ## Several ends

  pub given_none : (ends : Ends) → IsGiven meta ends [] false ends
  given_none ends = λ before are. (refl, λ e. subst (λ l. AreEnds meta l ends) (sym (append-nil before)) are)

  clash_append : (before xs ys : List Link) → has_clash meta before (xs ++ ys) ≡ (has_clash meta before xs || has_clash meta (before ++ xs) ys)
  clash_append before [] ys = ap (λ l. has_clash meta l ys) (sym (append-nil before))
  clash_append before (x ∷ xs) ys =
      ap (λ b. list_any (clashes meta x) before || b)
      (clash_append (before ++ x ∷ []) xs ys ∙ ap (λ l. has_clash meta (before ++ x ∷ []) xs || has_clash meta l ys) (append_assoc before (x ∷ []) xs))
      ∙ or_assoc (list_any (clashes meta x) before) (has_clash meta (before ++ x ∷ []) xs) (has_clash meta (before ++ x ∷ xs) ys)

  pub given_then : (a b c : Ends) (xs ys : List Link) (clash : Bool) → IsGiven meta a xs false b → IsGiven meta b ys clash c → IsGiven meta a (xs ++ ys) clash c
  given_then a b c xs ys clash g h = λ before are.
      let first = g before are in
      let second = h (before ++ xs) (first.1 refl) in (
        second.0 ∙ sym (clash_append before xs ys ∙ ap (λ x. x || has_clash meta (before ++ xs) ys) (sym first.0)),
        λ e. subst (λ l. AreEnds meta l c) (append_assoc before xs ys) (second.1 e),
      )

  pub given_stop : (a b : Ends) (xs ys : List Link) → IsGiven meta a xs true b → IsGiven meta a (xs ++ ys) true b
  given_stop a b xs ys g = λ before are.
      let first = g before are in (
        sym (clash_append before xs ys ∙ ap (λ x. x || has_clash meta (before ++ xs) ys) (sym first.0)),
        λ e. absurd (false≢true (sym e)),
      )
