-- The first fault of a file, element by element.
use Rattle.std.proofs.Common.{◌≡◌, ℕ, suc, ◌+◌, ◌<◌, ◌≤◌, List, [], ◌∷◌, ◌++◌, length, get_or, take, drop, refl, sym, ap, ◌∙◌, arith}
use Rattle.std.specs.Prelude.{Bool, true, false, Option, Some, None, if◌then◌else◌}
use Rattle.std.specs.Option.{option_map_or}
use Rattle.std.proofs.lemmas.List.{take_more, drop_more, map-append, length-map, length-take}
use Rattle.atl_base.specs.declared.place.Place.{Place}
use Rattle.ecore_meta.specs.declared.parts.Parts.{Parts}
use Rattle.xmi_models.specs.declared.part.Entry.{Entry as CodeEntry}
use Rattle.xmi_models.specs.Outline.{is_object, objects_in}
use Rattle.xmi_models.specs.Faults.{Fault, Kind, first_of, of_kind, fault_at, fault_from}
use Rattle.xmi_models.specs.Entries.{entry_of, entries_of}
use Rattle.xmi_models.specs.FoundFaults.{first_value}
use Rattle.xmi_models.proofs.Walking.{counted_together, counted_short}

-- ## The first of several

pub first_some : (f : Fault) (o : Option Fault) (os : List (Option Fault)) → Some f ≡ o → Some f ≡ first_of (o ∷ os)
first_some f o os h = ap (λ o. first_of (o ∷ os)) h

pub first_none : (r o : Option Fault) (os : List (Option Fault)) → None ≡ o → r ≡ first_of os → r ≡ first_of (o ∷ os)
first_none r o os h k = k ∙ ap (λ o. first_of (o ∷ os)) h

pub first_last : (o : Option Fault) → o ≡ first_of (o ∷ [])
first_last (Some f) = refl
first_last None = refl

-- a first value, told of a kind
pub kind_some : (kind : Kind) (value : List ℕ) (values : List (List ℕ)) → Some value ≡ first_value values → Some (kind, value) ≡ of_kind kind values
kind_some kind value [] h = cc
kind_some kind value (v ∷ values) h = ap (λ o. option_map_or (λ v. Some (kind, v)) o None) h

pub kind_none : (kind : Kind) (values : List (List ℕ)) → None ≡ first_value values → None ≡ of_kind kind values
kind_none kind [] h = refl
kind_none kind (v ∷ values) h = cc

pub first_left : (value : List ℕ) (xs ys : List (List ℕ)) → Some value ≡ first_value xs → Some value ≡ first_value (xs ++ ys)
first_left value [] ys h = cc
first_left value (x ∷ xs) ys h = h

pub first_right : (r : Option (List ℕ)) (xs ys : List (List ℕ)) → None ≡ first_value xs → r ≡ first_value ys → r ≡ first_value (xs ++ ys)
first_right r [] ys h k = k
first_right r (x ∷ xs) ys h k = cc

-- ## Element by element

module _ (file : List CodeEntry) (i : ℕ) where
  cut_here : (d : CodeEntry) → i < length file → drop i file ≡ get_or file i d ∷ drop (i + 1) file
  cut_here d l = drop_more file i d l

  pub next_part : (e : CodeEntry) → i < length file → e ≡ get_or file i e → entries_of (take (i + 1) file) ≡ entries_of (take i file) ++ (entry_of e ∷ [])
  next_part e l h =
      ap entries_of (take_more file i e l) ∙ map-append entry_of (take i file) (get_or file i e ∷ [])
      ∙ ap (λ x. entries_of (take i file) ++ (entry_of x ∷ [])) (sym h)

  module _ (meta : Parts) (e : CodeEntry) (l : i < length file) (h : e ≡ get_or file i e) where
    next_fault : fault_from meta (entries_of (take i file)) (entries_of (drop i file))
        ≡ option_map_or {U = Option (Fault × Place)} (λ f. Some (f, (entry_of e).tag.place)) (fault_at meta (entries_of (take i file)) (entry_of e)) (fault_from meta (entries_of (take (i + 1) file)) (entries_of (drop (i + 1) file)))
    next_fault =
        ap (λ es. fault_from meta (entries_of (take i file)) (entries_of es)) (cut_here e l ∙ ap (λ x. x ∷ drop (i + 1) file) (sym h))
        ∙ ap (λ b. option_map_or {U = Option (Fault × Place)} (λ f. Some (f, (entry_of e).tag.place)) (fault_at meta (entries_of (take i file)) (entry_of e)) (fault_from meta b (entries_of (drop (i + 1) file)))) (sym (next_part e l h))

    pub found_here : (f : Fault) → Some f ≡ fault_at meta (entries_of (take i file)) (entry_of e)
        → Some (f, (entry_of e).tag.place) ≡ fault_from meta (entries_of (take i file)) (entries_of (drop i file))
    found_here f k = sym (next_fault ∙ ap (λ o. option_map_or {U = Option (Fault × Place)} (λ f. Some (f, (entry_of e).tag.place)) o (fault_from meta (entries_of (take (i + 1) file)) (entries_of (drop (i + 1) file)))) (sym k))

    pub none_here : None ≡ fault_at meta (entries_of (take i file)) (entry_of e)
        → fault_from meta (entries_of (take (i + 1) file)) (entries_of (drop (i + 1) file)) ≡ fault_from meta (entries_of (take i file)) (entries_of (drop i file))
    none_here k = sym (next_fault ∙ ap (λ o. option_map_or {U = Option (Fault × Place)} (λ f. Some (f, (entry_of e).tag.place)) o (fault_from meta (entries_of (take (i + 1) file)) (entries_of (drop (i + 1) file)))) (sym k))

  -- an object more, where it is one
  pub next_number : (e : CodeEntry) (n m : ℕ) → i < length file → e ≡ get_or file i e → n ≡ objects_in (entries_of (take i file)) → m ≡ (if is_object (entry_of e).part then suc n else n)
      → m ≡ objects_in (entries_of (take (i + 1) file))
  next_number e n m l h k c =
      c ∙ ap (λ n. if is_object (entry_of e).part then suc n else n) k ∙ by (is_object (entry_of e).part)
      ∙ sym (ap objects_in (next_part e l h) ∙ counted_together (entries_of (take i file)) (entry_of e ∷ []))
    where
      by : (b : Bool) → (if b then suc (objects_in (entries_of (take i file))) else objects_in (entries_of (take i file))) ≡ objects_in (entries_of (take i file)) + (if b then suc 0 else 0)
      by true = omega arith
      by false = omega arith

  pub few : objects_in (entries_of (take i file)) ≤ i
  few = omega (arith, counted_short (entries_of (take i file)), length-map (take i file) entry_of, length-take i file)
