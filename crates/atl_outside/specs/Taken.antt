-- What a sink has taken, where it tells it, after a piece of which only a front part went in.
use Rattle.std.specs.Prelude.{◌≡◌, ℕ, ◌≤◌, List, ◌++◌, length, take}
use Rattle.std.specs.Option.{option_map}
use Rattle.std.specs.declared.option.Option.{Option}

abbrev pub TakesFront : List ℕ → Option (List ℕ) → Option (List ℕ) → Type 0
TakesFront piece before after = (n : ℕ) × (n ≤ length piece) × (after ≡ option_map (λ bytes. bytes ++ take n piece) before)
