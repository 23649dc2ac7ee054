-- The features of a class differ.
use Rattle.std.proofs.Common.{◌≡◌, ℕ, zero, suc, ◌<◌, ◌≤◌, List, [], ◌∷◌, ◌++◌, length, get_or, refl, sym, ap, subst, ◌∙◌, arith, ⊎_elim}
use Rattle.std.specs.Prelude.{flat_map, Option}
use Rattle.std.specs.Option.{option_map_or}
use Rattle.std.proofs.lemmas.Bool.{ne_eqb, cases_lt}
use Rattle.std.proofs.lemmas.List.{length-map, get_or-map}
use Rattle.std.proofs.lemmas.List.Folds.{list_any_none}
use Rattle.std.proofs.lemmas.Option.{slice_get_past}
use Rattle.atl_base.specs.declared.numbers.ClassId.{ClassId}
use Rattle.atl_base.specs.declared.numbers.FeatId.{FeatId}
use Rattle.ecore_meta.specs.declared.parts.Class.{Class}
use Rattle.ecore_meta.specs.declared.parts.Parts.{Parts}
use Rattle.ecore_meta.specs.Inheritance.{distinct, features, features_within, name_of}
use Rattle.ecore_meta.specs.Valid.{AllDiffer, IsMetamodel}
use Rattle.xmi_links.proofs.Built.{AreApart, is_feature, same_feature}

apart_from : (gs : List FeatId) → AllDiffer gs → AreApart gs
apart_from [] h = tt
apart_from (g ∷ gs) h = (
  list_any_none (is_feature g) gs (λ k d l. ne_eqb (get_or gs k d).0 g.0 (λ e. h 0 (suc k) d (omega arith) (omega (arith, l)) (same_feature g (get_or gs k d) (sym e)))),
  apart_from gs (λ i j d lt l. h (suc i) (suc j) d (omega (arith, lt)) (omega (arith, l))),
)

-- a class that is none sees nothing
module _ (classes : List Class) (c : ClassId) (past : length classes ≤ c.0) where
  none_above : (n : ℕ) → features_within n classes c ≡ []
  unfolding features_within
  none_above zero = refl
  none_above (suc n) =
      ap (λ (s : Option Class). distinct (flat_map (features_within n classes) (option_map_or (λ class. class.supers) s [])) ++ option_map_or (λ class. class.own) s []) (slice_get_past classes c.0 past)

  none_seen : features classes c ≡ []
  unfolding features
  none_seen = none_above (length classes)

pub all_apart : (meta : Parts) → IsMetamodel meta → (c : ClassId) → AreApart (features meta.classes c)
all_apart meta valid c = ⊎_elim
    (λ (within : c.0 < length meta.classes). apart_from (features meta.classes c) (λ i j d lt l same.
    valid.seen_differ c within i j [] lt (omega (arith, l, length-map (features meta.classes c) (name_of meta.features)))
    (get_or-map (name_of meta.features) (features meta.classes c) i d [] (omega (arith, lt, l)) ∙ ap (name_of meta.features) same ∙ sym (get_or-map (name_of meta.features) (features meta.classes c) j d [] l))))
    (λ (past : length meta.classes ≤ c.0). subst AreApart (sym (none_seen meta.classes c past)) tt)
    (cases_lt c.0 (length meta.classes))
