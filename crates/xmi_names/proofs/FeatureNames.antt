-- The feature of a name in a class: as names differ there, whichever bears the name is the first that does.
use Rattle.std.proofs.Common.{◌≡◌, ◌≢◌, ℕ, zero, suc, ◌<◌, ◌≤◌, List, [], ◌∷◌, ◌++◌, length, get_or, map, refl, sym, ap, ◌∙◌, subst, ⊎_elim, arith}
use Rattle.std.specs.Prelude.{Bool, true, false, bytes_eq, find, flat_map, Option, Some, None, Contains, IfSome, IfNone}
use Rattle.std.specs.Option.{option_map_or}
use Rattle.std.proofs.lemmas.Bool.{false≢true, cases_Bool, cond-true, cond-false, false_from_ne_true}
use Rattle.std.proofs.lemmas.Option.{slice_get_past}
use Rattle.std.proofs.lemmas.Slice.Eq.{bytes_eq-Decides}
use Rattle.atl_base.specs.declared.numbers.ClassId.{ClassId}
use Rattle.atl_base.specs.declared.numbers.FeatId.{FeatId}
use Rattle.ecore_meta.specs.declared.parts.Class.{Class}
use Rattle.ecore_meta.specs.Inheritance.{distinct, features_within, features, supers_of, own_of}
use Rattle.ecore_meta.specs.Valid.{AllDiffer}
use Rattle.ecore_meta.proofs.Membership.{head_or}
use Rattle.xmi_text.proofs.Lists.{pairs_rest}

module _ (name_of : FeatId → List ℕ) (name : List ℕ) where
  abbrev bears : FeatId → Bool
  bears f = bytes_eq (name_of f) name

  -- a name that none bears
  pub none_found : (fs : List FeatId) → ((f : FeatId) → Contains fs f → name_of f ≢ name) → find bears fs ≡ None
  none_found [] h = refl
  none_found (f ∷ fs) h =
      cond-false (bears f) (Some f) (find bears fs) (false_from_ne_true (bears f) (λ t. h f (0, omega arith, refl) ((bytes_eq-Decides (name_of f) name).0 t)))
      ∙ none_found fs (λ g m. h g (suc m.0, omega (arith, m.1), m.2))

  later_differ : (f : FeatId) (fs : List FeatId) → AllDiffer (map name_of (f ∷ fs)) → (g : FeatId) → Contains fs g → name_of f ≢ name_of g
  later_differ f fs apart g m = at fs m.0 m.1 m.2 (λ k h. apart 0 (suc k) (name_of g) (omega arith) (omega (arith, h)))
    where
      at : (gs : List FeatId) (k : ℕ) → k < length gs → get_or gs k g ≡ g → ((k : ℕ) → k < length (map name_of gs) → name_of f ≢ get_or (map name_of gs) k (name_of g)) → name_of f ≢ name_of g
      at [] k l e h = absurd (omega (arith, l))
      at (x ∷ gs) zero l e h = subst (λ x. name_of f ≢ name_of x) e (h 0 (omega arith))
      at (x ∷ gs) (suc k) l e h = at gs k (omega (arith, l)) e (λ j b. h (suc j) (omega (arith, b)))

  -- the one that bears it
  pub one_found : (fs : List FeatId) (f : FeatId) → AllDiffer (map name_of fs) → Contains fs f → name_of f ≡ name → find bears fs ≡ Some f
  one_found [] f apart m e = absurd (omega (arith, m.1))
  one_found (x ∷ fs) f apart m e = ⊎_elim
      (λ (t : bears x ≡ true). cond-true (bears x) (Some x) (find bears fs) t ∙ ⊎_elim
      (λ (s : x ≡ f). ap Some s)
      (λ (later : Contains fs f). absurd (later_differ x fs apart f later ((bytes_eq-Decides (name_of x) name).0 t ∙ sym e)))
      (head_or x fs f m.0 m.1 m.2))
      (λ (n : bears x ≡ false). cond-false (bears x) (Some x) (find bears fs) n ∙ ⊎_elim
      (λ (s : x ≡ f). absurd (false≢true (sym n ∙ (bytes_eq-Decides (name_of x) name).1 (ap name_of s ∙ e))))
      (λ (later : Contains fs f). one_found fs f (pairs_rest (λ a b. a ≢ b) (name_of x) (map name_of fs) apart) later e)
      (head_or x fs f m.0 m.1 m.2))
      (cases_Bool (bears x))

  pub found_is : (fs : List FeatId) (r : Option FeatId) → AllDiffer (map name_of fs) → IfSome r (λ f. Contains fs f × (name_of f ≡ name)) → IfNone r ((f : FeatId) → Contains fs f → name_of f ≢ name)
      → r ≡ find bears fs
  found_is fs (Some f) apart s n = sym (one_found fs f apart s.0 s.1)
  found_is fs None apart s n = sym (none_found fs n)

-- there are no features of a class that is none
pub none_outside : (classes : List Class) (c : ClassId) → length classes ≤ c.0 → features classes c ≡ []
unfolding features features_within
none_outside classes c l = by (length classes)
  where
    supers_none : supers_of classes c ≡ []
    supers_none = ap (λ o. option_map_or (λ (k : Class). k.supers) o []) (slice_get_past classes c.0 l)

    own_none : own_of classes c ≡ []
    own_none = ap (λ o. option_map_or (λ (k : Class). k.own) o []) (slice_get_past classes c.0 l)

    by : (n : ℕ) → features_within n classes c ≡ []
    by zero = refl
    by (suc n) = ap (λ s. distinct (flat_map (features_within n classes) s) ++ own_of classes c) supers_none ∙ own_none
