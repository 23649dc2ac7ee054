-- What the code's faults stand for: a kind and its value, and the place of the element.
use Rattle.std.specs.Prelude.{ℕ, List, [], ◌∷◌, Option, Some, None}
use Rattle.atl_base.specs.declared.place.Place.{Place}
use Rattle.xmi_models.specs.declared.fault.Fault.{Fault as CodeFault}
use Rattle.xmi_models.specs.declared.fault.FoundFault.{FoundFault}
use Rattle.xmi_models.specs.Faults.{Fault}

abbrev pub fault_of : CodeFault → Fault
fault_of f = (f.kind, f.value)

abbrev pub fault_in : Option CodeFault → Option Fault
fault_in (Some f) = Some (fault_of f)
fault_in None = None

-- the first fault of a file, with its place
abbrev pub told : Option FoundFault → Option (Fault × Place)
told (Some f) = Some (fault_of f.fault, f.place)
told None = None

abbrev pub first_value : List (List ℕ) → Option (List ℕ)
first_value [] = None
first_value (value ∷ values) = Some value
