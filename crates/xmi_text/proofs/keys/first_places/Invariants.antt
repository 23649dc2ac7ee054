use Rattle.std.proofs.Common.{◌≡◌, ℕ, List, ◌-◌, length, drop}
use Rattle.std.specs.List.{position_from}
use Rattle.xmi_text.specs.Keys.{is_key, keys_of, has_place}
use Rattle.xmi_text.proofs.keys.first_places.Given as goal

-- the keys from some place on
abbrev pub invariant-loop-step : goal.invariant-loop-step
invariant-loop-step l = (n : ℕ) (q : List ℕ) → has_place l.places n q ≡ position_from (is_key n q) (length l.keys - l.step) (keys_of (drop (length l.keys - l.step) l.keys))
