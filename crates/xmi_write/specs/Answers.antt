-- What writing a model answers: its text, or the containment cycle for which it has none.
use Rattle.std.specs.Prelude.{◌≡◌, ℕ, List, Result, Ok, Err, Option, Some, None}
use Rattle.atl_base.specs.declared.numbers.ObjId.{ObjId}
use Rattle.model_store.specs.Contents.{Contents}
use Rattle.model_store.specs.Order.{HasNoCycle}
use Rattle.xmi_write.specs.declared.refusal.WriteRefusal.{WriteRefusal}
use Rattle.xmi_write.specs.declared.refusal.WriteRefusal.TheVariants.{Cycle, Memory}
use Rattle.xmi_write.specs.Cycles.{IsCycle}
use Rattle.xmi_write.specs.Xmi.{xmi}

abbrev pub WritesModel : Contents → Result (List ℕ) WriteRefusal → Type 0
WritesModel m (Ok text) = HasNoCycle m × (text ≡ xmi m)
WritesModel m (Err (Cycle os)) = IsCycle m os
WritesModel m (Err Memory) = Unit {0}

-- the cycle of a model, or that it has none
abbrev pub FindsCycle : Contents → Option (List ObjId) → Type 0
FindsCycle m (Some os) = IsCycle m os
FindsCycle m None = HasNoCycle m
