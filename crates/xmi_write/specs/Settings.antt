-- What a writing reads is what it is made from: the model's defaults, and the namespaces of its packages.
use Rattle.std.specs.Prelude.{◌≡◌, ◌<◌, ℕ, List, [], length, slice_index_or}
use Rattle.ecore_meta.specs.declared.parts.Parts.{Parts}
use Rattle.model_store.specs.declared.parts.Cellv.{Cellv}
use Rattle.model_store.specs.Order.{HasNoCycle}
use Rattle.model_store.specs.Writes.{initial}
use Rattle.xmi_write.specs.declared.setting.Setting.{Setting}
use Rattle.xmi_write.specs.Xmi.{declared}

-- what a slot of each feature holds that nothing was written to, of those that have a place
abbrev pub AreDefaults : Parts → List (List Cellv) → Type 0
AreDefaults meta defaults = (n : ℕ) → n < length defaults → slice_index_or defaults n [] ≡ initial meta (record { 0 = n })

pub record IsSetting (s : Setting) : Type 0 where
  pub defaults : AreDefaults s.model.now.meta s.defaults.items
  pub declared : s.declared ≡ declared s.model.now.meta
  pub acyclic : HasNoCycle s.model.now
