-- What the code's faults stand for: a kind and its value, and the place of the element.
use Rattle.std.specs.Prelude.{Option, Some, None}
use Rattle.atl_base.specs.declared.place.Place.{Place}
use Rattle.ecore_faults.specs.declared.fault.Fault.{Fault as CodeFault}
use Rattle.ecore_faults.specs.declared.fault.FoundFault.{FoundFault}
use Rattle.ecore_faults.specs.Faults.{Fault}

abbrev pub fault_of : CodeFault → Fault
fault_of f = (f.kind, f.value.now)

abbrev pub fault_in : Option CodeFault → Option Fault
fault_in (Some f) = Some (fault_of f)
fault_in None = None

-- the first fault of a file, with its place
abbrev pub told : Option FoundFault → Option (Fault × Place)
told (Some f) = Some (fault_of f.fault, f.place)
told None = None
