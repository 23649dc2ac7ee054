-- The features that the classes of a file declare, each under its class and name: the attributes and references in their order, and
-- behind them what is derived, volatile or transient. What stands in front of all classes is not among them.
use Rattle.std.specs.Prelude.{ℕ, zero, suc, Bool, true, false, List, [], ◌∷◌, ◌++◌, if◌then◌else◌}
use Rattle.std.specs.Option.{option_map_or}
use Rattle.ecore_outline.specs.Outline.{Entry, is_class_role, is_feature_role, name_of}
use Rattle.ecore_names.specs.References.{Own, own_here}
use Rattle.xmi_text.specs.Keys.{Key}

pub record OwnRow : Type 0 where
  pub key : Key
  pub own : Own

abbrev pub row_key : OwnRow → Key
row_key r = r.key

abbrev pub row_own : OwnRow → Own
row_own r = r.own

-- what the last of so many classes declares here
abbrev pub own_row : Bool → ℕ → ℕ → Entry → List OwnRow
own_row kept zero features e = []
own_row kept (suc class) features e = option_map_or (λ own. record { key = (class, name_of e); own = own } ∷ []) (own_here kept features e) []

abbrev pub owns_from : Bool → ℕ → ℕ → List Entry → List OwnRow
owns_from kept classes features [] = []
owns_from kept classes features (e ∷ es) =
    own_row kept classes features e ++ owns_from kept (if is_class_role e.role then suc classes else classes) (if is_feature_role e.role then suc features else features) es

abbrev pub owns_of : List Entry → List OwnRow
owns_of file = owns_from true 0 0 file ++ owns_from false 0 0 file
