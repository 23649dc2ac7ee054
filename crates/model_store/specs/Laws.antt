-- What a write leaves alone: the metamodel, how many numbers have been given, and which objects there are, each with its class.
use Rattle.std.specs.Prelude.{◌≡◌, List, length}
use Rattle.atl_base.specs.declared.numbers.FeatId.{FeatId}
use Rattle.atl_base.specs.declared.numbers.ObjId.{ObjId}
use Rattle.model_store.specs.declared.parts.Cellv.{Cellv}
use Rattle.model_store.specs.Contents.{Contents, class_of}
use Rattle.model_store.specs.Writes.{write}

pub record KeepsObjects (before after : Contents) : Type 0 where
  pub meta : after.meta ≡ before.meta
  pub numbers : length after.objects ≡ length before.objects
  pub classes : (o : ObjId) → class_of after o ≡ class_of before o

-- so does each write
abbrev pub IsWriteLaw : Type 0
IsWriteLaw = (m : Contents) (o : ObjId) (f : FeatId) (values : List Cellv) → KeepsObjects m (write m o f values)
