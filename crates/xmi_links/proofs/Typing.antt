-- Texts that pass the test of a type are texts of it.
use Rattle.std.proofs.Common.{◌≡◌, ℕ, zero, suc, ◌<◌, List, [], ◌∷◌, get_or, length, map, refl, sym, ap, ◌∙◌, inl, inr, ⊎_elim, arith}
use Rattle.std.specs.Prelude.{Bool, true, false, ◌&&◌, ◌==◌, nat_lt, nat_le, bytes_eq, codes, Contains, Option, Some, None, filter_map, slice_get, if◌then◌else◌}
use Rattle.std.specs.List.{cons_option, list_any}
use Rattle.std.specs.Option.{option_map_or}
use Rattle.std.proofs.lemmas.Bool.{and_parts, or_cases, eqb-true, leb-true, ltb-true, false≢true}
use Rattle.std.proofs.lemmas.Slice.Eq.{bytes_eq-Decides}
use Rattle.ecore_meta.specs.declared.parts.FeatKind.{FeatKind}
use Rattle.ecore_meta.specs.declared.parts.FeatKind.TheVariants as holds
use Rattle.ecore_meta.specs.declared.parts.Literal.{Literal}
use Rattle.ecore_meta.specs.declared.parts.Parts.{Parts}
use Rattle.ecore_meta.specs.Valid.{IsDigits, IsIntText, IsTextOf, is_reference, number_of}
use Rattle.xmi_text.specs.Numbers.{is_digits, is_int_text}
use Rattle.xmi_models.specs.Faults.{is_text_of}

digits_are : (text : List ℕ) → is_digits text ≡ true → IsDigits text
digits_are [] h = absurd (false≢true h)
digits_are (c ∷ cs) h = record { some = λ e. cc; digits = h }

int_is : (text : List ℕ) → is_int_text text ≡ true → IsIntText text
int_is [] h = absurd (false≢true h)
int_is (c ∷ cs) h = by (c == 45) refl h
  where
    by : (t : Bool) → (c == 45) ≡ t → (if t then is_digits cs && nat_le (number_of cs) 9223372036854775808 else is_digits (c ∷ cs) && nat_lt (number_of (c ∷ cs)) 9223372036854775808) ≡ true → IsIntText (c ∷ cs)
    by true e h =
        let p = and_parts (is_digits cs) (nat_le (number_of cs) 9223372036854775808) h in
        inr (cs, ap (λ b. b ∷ cs) (eqb-true c 45 e), digits_are cs p.0, leb-true (number_of cs) 9223372036854775808 p.1)
    by false e h =
        let p = and_parts (is_digits (c ∷ cs)) (nat_lt (number_of (c ∷ cs)) 9223372036854775808) h in
        inl (digits_are (c ∷ cs) p.0, ltb-true (number_of (c ∷ cs)) 9223372036854775808 p.1)

literal_is : (ls : List Literal) (text : List ℕ) → list_any (λ l. bytes_eq l.text text) ls ≡ true → Contains (map (λ l. l.text) ls) text
literal_is [] text h = absurd (false≢true h)
literal_is (l ∷ ls) text h = ⊎_elim
    (λ (e : bytes_eq l.text text ≡ true). (0, omega arith, (bytes_eq-Decides l.text text).0 e))
    (λ (e : list_any (λ l. bytes_eq l.text text) ls ≡ true). let r = literal_is ls text e in (suc r.0, omega (arith, r.1), r.2))
    (or_cases (bytes_eq l.text text) (list_any (λ l. bytes_eq l.text text) ls) h)

pub text_typed : (meta : Parts) (kind : FeatKind) (text : List ℕ) → is_reference kind ≡ false → is_text_of meta kind text ≡ true → IsTextOf meta kind text
text_typed meta holds.Str text r h = tt
text_typed meta holds.Int text r h = int_is text h
text_typed meta holds.Truth text r h = ⊎_elim
    (λ (e : bytes_eq text (codes "true") ≡ true). inl ((bytes_eq-Decides text (codes "true")).0 e))
    (λ (e : bytes_eq text (codes "false") ≡ true). inr ((bytes_eq-Decides text (codes "false")).0 e))
    (or_cases (bytes_eq text (codes "true")) (bytes_eq text (codes "false")) h)
text_typed meta (holds.Enum n) text r h = literal_is (option_map_or (λ d. d.literals) (slice_get meta.enums n) []) text h
text_typed meta holds.Opaque text r h = tt
text_typed meta (holds.Refer class contains opposite) text r h = absurd (false≢true (sym r))

-- ## Lists in which a test finds nothing

pub none_within : {X Y : Type 0} (h : X → Option Y) (xs : List X) → filter_map h xs ≡ [] → (i : ℕ) (d : X) → i < length xs → h (get_or xs i d) ≡ None
none_within h [] e i d l = absurd (omega (arith, l))
none_within {X} {Y} h (y ∷ xs) e i d l = by (h y) refl e i l (λ k j m. none_within h xs k j d m)
  where
    by : (z : Option Y) → h y ≡ z → cons_option z (filter_map h xs) ≡ [] → (i : ℕ) → i < length (y ∷ xs) → (filter_map h xs ≡ [] → (j : ℕ) → j < length xs → h (get_or xs j d) ≡ None) → h (get_or (y ∷ xs) i d) ≡ None
    by None k e zero l again = k
    by None k e (suc i) l again = again e i (omega (arith, l))
    by (Some z) k e i l again = absurd (cc)

pub none_at : {X Y : Type 0} (h : X → Option Y) (xs : List X) → filter_map h xs ≡ [] → (i : ℕ) (x : X) → i < length xs → x ≡ get_or xs i x → h x ≡ None
none_at h xs e i x l is = ap h is ∙ none_within h xs e i x l
