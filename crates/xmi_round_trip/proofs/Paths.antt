-- What no path of an object holds: a test that fails of slashes, of `@`, of dots, of digits and of what names consist of fails of all
-- that stands in a path. So a path is one word, and names no file, and paths with blanks between are read back as their words.
use Rattle.std.proofs.Common.{◌≡◌, ℕ, zero, suc, ◌<◌, ◌≤◌, ◌^◌, List, [], ◌∷◌, ◌++◌, length, refl, sym, ap, ◌∙◌, subst, arith, Option, Some, None, map}
use Rattle.std.specs.Prelude.{Bool, true, false, ◌==◌, not, slice_get, if◌then◌else◌, ◌||◌, None, Contains, find}
use Rattle.std.specs.Fmt.{decimal}
use Rattle.std.specs.Int.{is_in_range}
use Rattle.std.specs.List.{flat_map, list_all, list_any, position_or_len}
use Rattle.std.specs.Option.{option_map_or}
use Rattle.std.proofs.lemmas.Bool.{and_parts, eqb-true, false_from_ne_true, or_from, true≢false, or_parts}
use Rattle.std.proofs.lemmas.Grind.{flat_map-append}
use Rattle.std.proofs.lemmas.List.Sums.{prefix_len-le-length}
use Rattle.std.proofs.lemmas.Option.{get_or_from_slice_get, slice_get_within}
use Rattle.atl_base.specs.declared.numbers.FeatId.{FeatId}
use Rattle.atl_base.specs.declared.numbers.ObjId.{ObjId}
use Rattle.ecore_meta.specs.declared.parts.Feature.{Feature}
use Rattle.ecore_meta.specs.declared.parts.Parts.{Parts}
use Rattle.ecore_meta.specs.Inheritance.{name_of}
use Rattle.ecore_meta.specs.Names.{IsName, HasNoDot, continues_name, is_plain_name}
use Rattle.ecore_meta.specs.Valid.{IsMetamodel}
use Rattle.model_store.specs.Contents.{Contents, holder, is_many, is_object_no, refers_to, slot}
use Rattle.model_store.specs.Paths.{are_digits, path, root_text, step_text, steps_within, top_within}
use Rattle.model_store.specs.Valid.{IsValid}
use Rattle.model_store.proofs.Counted.{at_most}
use Rattle.model_store.proofs.PathDigits.{any_append, digits_read}
use Rattle.model_store.proofs.PathSteps.{place_small, step}
use Rattle.model_store.proofs.Slots.{same_object}
use Rattle.xmi_round_trip.proofs.Numbers.{there_within}
use Rattle.xmi_text.specs.Markup.{is_blank, words_of}
use Rattle.xmi_text.specs.Fragments.{has_hash, names_file}
use Rattle.xmi_round_trip.proofs.Words.{IsWord, words_joined}
use Rattle.model_store.specs.declared.parts.Cellv.{Cellv}
use Rattle.model_store.specs.declared.parts.Cellv.TheVariants.{Obj}
use Rattle.model_store.specs.Texts.{value_text}
use Rattle.xmi_text.proofs.Lists.{in_map}
use Rattle.xmi_write.specs.Values.{joined}
use Rattle.xmi_round_trip.proofs.Lists.{none_found}
use Rattle.xmi_round_trip.proofs.Names.{all_go_on}

-- one byte passes a test that another one does not
pub other_byte : (test : ℕ → Bool) (k : ℕ) → test k ≡ false → (c : ℕ) → test c ≡ true → (c == k) ≡ false
other_byte test k e c h = false_from_ne_true (c == k) (λ s. true≢false (sym h ∙ ap test (eqb-true c k s) ∙ e))

-- a path begins with a slash
pub path_some : (m : Contents) (o : ObjId) → path m o ≡ [] → ⊥
unfolding path
path_some m o e = absurd (cc)

module _ (p : ℕ → Bool) where
  -- where all bytes pass one test and none of them the other
  all_free : (test : ℕ → Bool) (cs : List ℕ) → ((c : ℕ) → test c ≡ true → p c ≡ false) → list_all test cs ≡ true → list_any p cs ≡ false
  all_free test [] each h = refl
  all_free test (c ∷ cs) each h = let parts = and_parts (test c) (list_all test cs) h in or_from (p c) (list_any p cs) (each c parts.0) (all_free test cs each parts.1)

  -- of one digit or more
  some_digits : (ds : List ℕ) → ((c : ℕ) → is_in_range 48 57 c ≡ true → p c ≡ false) → are_digits ds ≡ true → list_any p ds ≡ false
  some_digits [] digit h = refl
  some_digits (d ∷ ds) digit h = all_free (is_in_range 48 57) (d ∷ ds) digit h

  -- such a test
  pub record IsForeign : Type 0 where
    pub slash : p 47 ≡ false
    pub at : p 64 ≡ false
    pub dot : p 46 ≡ false
    pub digit : (c : ℕ) → is_in_range 48 57 c ≡ true → p c ≡ false
    pub letter : (c : ℕ) → continues_name c ≡ true → p c ≡ false

  module _ (foreign : IsForeign) where
    -- a plain name
    plain_free : (name : List ℕ) → is_plain_name name ≡ true → list_any p name ≡ false
    plain_free name h = all_free continues_name name foreign.letter (all_go_on name h)

    -- a feature's name
    pub name_free : (meta : Parts) → IsMetamodel meta → (f : FeatId) → list_any p (name_of meta.features f) ≡ false
    name_free meta valid f = on (slice_get meta.features f.0) refl
      where
        on : (x : Option Feature) → slice_get meta.features f.0 ≡ x → list_any p (option_map_or (λ feature. feature.name) x []) ≡ false
        on None e = refl
        on (Some feature) e =
            let good : IsName feature.name × HasNoDot feature.name =
            subst (λ (x : Feature). IsName x.name × HasNoDot x.name) (get_or_from_slice_get meta.features f.0 feature feature e) (valid.names.features f.0 feature (slice_get_within meta.features f.0 feature e)) in
            plain_free feature.name good.0.plain

    -- a number
    pub decimal_free : (n : ℕ) → n < 2 ^ 64 → list_any p (decimal n) ≡ false
    decimal_free n l = some_digits (decimal n) foreign.digit (digits_read n l)

    module _ (m : Contents) (valid : IsValid m) (few : length m.objects < 2 ^ 32) where
      -- a step from container to content
      step_free : (r o : ObjId) (f : FeatId) → holder m o ≡ Some (r, f) → list_any p (step_text m (step r f o)) ≡ false
      step_free r o f e =
          let place : ℕ = position_or_len (refers_to o) (slot m r f) in
          or_from _ _ foreign.slash (or_from _ _ foreign.at
          (any_append p (name_of m.meta.features f) (if is_many m.meta f then 46 ∷ decimal place else []) (name_free m.meta valid.metamodel f) (on (is_many m.meta f))))
        where
          on : (b : Bool) → list_any p (if b then 46 ∷ decimal (position_or_len (refers_to o) (slot m r f)) else []) ≡ false
          on true = or_from _ _ foreign.dot (decimal_free (position_or_len (refers_to o) (slot m r f)) (place_small m valid.metamodel valid.model few o r f e))
          on false = refl

      -- all steps
      steps_free : (n : ℕ) (o : ObjId) → list_any p (flat_map (step_text m) (steps_within n m o)) ≡ false
      unfolding steps_within
      steps_free zero o = refl
      steps_free (suc n) o = on (holder m o) refl (λ q. steps_free n q)
        where
          on : (x : Option (ObjId × FeatId)) → holder m o ≡ x → ((q : ObjId) → list_any p (flat_map (step_text m) (steps_within n m q)) ≡ false)
              → list_any p (flat_map (step_text m) (option_map_or (λ (at : ObjId × FeatId). steps_within n m at.0 ++ step at.0 at.1 o ∷ []) x [])) ≡ false
          on None e again = refl
          on (Some at) e again =
              let last = step at.0 at.1 o in
              ap (list_any p) (flat_map-append (step_text m) (steps_within n m at.0) (last ∷ []))
              ∙ any_append p (flat_map (step_text m) (steps_within n m at.0)) (flat_map (step_text m) (last ∷ [])) (again at.0)
              (any_append p (step_text m last) [] (step_free at.0 o at.1 e) refl)

      -- there are no more roots than objects
      roots_few : length m.roots ≤ length m.objects
      roots_few = on m.roots refl
        where
          on : (roots : List ObjId) → m.roots ≡ roots → length roots ≤ length m.objects
          on [] e = omega arith
          on (t ∷ ts) e = subst (λ (l : List ObjId). length l ≤ length m.objects) e
              (at_most (λ (q : ObjId). q.0) (length m.objects) t m.roots valid.model.roots_differ (λ x y _ _ s. same_object x y s) (λ q h. there_within m.objects q ((valid.model.roots q).0 h).0))

      -- the number of a root
      root_free : (t : ObjId) → list_any p (root_text m t) ≡ false
      root_free t = or_from _ _ foreign.slash (on (length m.roots == 1))
        where
          small : position_or_len (is_object_no t) m.roots < 2 ^ 64
          small = let low : position_or_len (is_object_no t) m.roots ≤ length m.roots = prefix_len-le-length (λ (q : ObjId). not (is_object_no t q)) m.roots in omega (arith, low, roots_few, few)

          on : (b : Bool) → list_any p (if b then [] else decimal (position_or_len (is_object_no t) m.roots)) ≡ false
          on true = refl
          on false = decimal_free (position_or_len (is_object_no t) m.roots) small

      -- a whole path
      pub path_free : (o : ObjId) → list_any p (path m o) ≡ false
      unfolding path
      path_free o =
          let n : ℕ = suc (length m.objects) in
          any_append p (root_text m (top_within n m o)) (flat_map (step_text m) (steps_within n m o)) (root_free (top_within n m o)) (steps_free n o)

-- ## Blanks and hashes

-- four tests that fail
four : (a b c d : Bool) → a ≡ false → b ≡ false → c ≡ false → d ≡ false → (a || b || c || d) ≡ false
four a b c d p q r s = ap (λ x. x || b || c || d) p ∙ ap (λ x. false || x || c || d) q ∙ ap (λ x. false || false || x || d) r ∙ s

-- what passes a test that no blank passes is no blank
not_blank : (test : ℕ → Bool) → test 32 ≡ false → test 9 ≡ false → test 10 ≡ false → test 13 ≡ false → (c : ℕ) → test c ≡ true → is_blank c ≡ false
not_blank test space tab line return c h = four (c == 32) (c == 9) (c == 10) (c == 13) (other_byte test 32 space c h) (other_byte test 9 tab c h) (other_byte test 10 line c h) (other_byte test 13 return c h)

-- no blank is in a path
no_blanks : IsForeign is_blank
no_blanks = record {
  slash = refl;
  at = refl;
  dot = refl;
  digit = not_blank (is_in_range 48 57) refl refl refl refl;
  letter = not_blank continues_name refl refl refl refl;
}

-- and no hash
no_hashes : IsForeign (λ c. c == 35)
no_hashes = record {
  slash = refl;
  at = refl;
  dot = refl;
  digit = other_byte (is_in_range 48 57) 35 refl;
  letter = other_byte continues_name 35 refl;
}

-- a text without a hash names no file
not_a_file : (text : List ℕ) → has_hash text ≡ false → names_file text ≡ false
not_a_file [] h = refl
not_a_file (c ∷ cs) h =
    let parts = or_parts (c == 35) (has_hash cs) h in
    ap (λ b. if b then false else has_hash cs) parts.0 ∙ parts.1

module _ (m : Contents) (valid : IsValid m) (few : length m.objects < 2 ^ 32) where
  -- so a path is a word
  pub path_word : (o : ObjId) → IsWord (path m o)
  path_word o = record { some = path_some m o; whole = path_free is_blank no_blanks m valid few o }

  -- and names no file
  pub path_local : (o : ObjId) → names_file (path m o) ≡ false
  path_local o = not_a_file (path m o) (path_free (λ c. c == 35) no_hashes m valid few o)

  -- ## The text of a reference's slot

  module _ (f : FeatId) (cells : List Cellv) (objects : (v : Cellv) → Contains cells v → (q : ObjId) × (Obj q ≡ v)) where
    -- each of its words is a path
    pub reference_words : words_of (joined (map (value_text m f) cells)) ≡ map (value_text m f) cells
    reference_words = words_joined (value_text m f) cells (λ v h. let o = objects v h in subst (λ (w : Cellv). IsWord (value_text m f w)) o.1 (path_word o.0))

    -- and none names a file
    pub no_file_named : find names_file (words_of (joined (map (value_text m f) cells))) ≡ None
    no_file_named = ap (find names_file) reference_words ∙ none_found names_file (map (value_text m f) cells) (λ t h.
        let x = in_map (value_text m f) cells t h in
        let o = objects x.0 x.1 in
        subst (λ (w : List ℕ). names_file w ≡ false) (ap (value_text m f) o.1 ∙ x.2) (path_local o.0))
