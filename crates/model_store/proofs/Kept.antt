-- Creating and writing keep what is true of each model, also where they are refused.
use Rattle.std.proofs.Common.{◌≡◌, ◌<◌, List, length, sym, subst, Result, Ok, Err}
use Rattle.atl_base.specs.declared.numbers.ClassId.{ClassId}
use Rattle.atl_base.specs.declared.numbers.FeatId.{FeatId}
use Rattle.atl_base.specs.declared.numbers.ObjId.{ObjId}
use Rattle.ecore_meta.specs.Valid.{IsMetamodel}
use Rattle.model_store.specs.declared.parts.Cellv.{Cellv}
use Rattle.model_store.specs.declared.refusal.StoreRefusal.{StoreRefusal}
use Rattle.model_store.specs.declared.refusal.StoreRefusal.TheVariants.{NoObject, NoFeature, BadType, Full, Memory}
use Rattle.model_store.specs.Contents.{Contents}
use Rattle.model_store.specs.Valid.{IsConcrete, IsValid}
use Rattle.model_store.specs.Writes.{Creates, Writes}
use Rattle.model_store.proofs.CreatedModel.{created_is_model}
use Rattle.model_store.proofs.Keeping.{write_keeps}
use Rattle.model_store.proofs.ReferenceWrites.{write_is_model}

module _ (m after : Contents) (valid : IsValid m) where
  as_before : after ≡ m → IsValid after
  as_before e = subst IsValid (sym e) valid

  pub create_keeps : (class : ClassId) (r : Result ObjId StoreRefusal) → class.0 < length m.meta.classes → IsConcrete m.meta class → Creates m class r after → IsValid after
  create_keeps class (Ok o) within concrete h = subst IsValid (sym h.2) (record { metamodel = valid.metamodel; model = created_is_model m valid.metamodel valid.model class within concrete })
  create_keeps class (Err Full) within concrete h = as_before h.1
  create_keeps class (Err Memory) within concrete h = as_before h
  create_keeps class (Err NoObject) within concrete h = absurd h
  create_keeps class (Err NoFeature) within concrete h = absurd h
  create_keeps class (Err BadType) within concrete h = absurd h

  pub write_keeps_valid : (o : ObjId) (f : FeatId) (values : List Cellv) (r : Result (Unit {0}) StoreRefusal) → Writes m o f values r after → IsValid after
  write_keeps_valid o f values (Ok done) h = subst IsValid (sym h.2) (record {
    metamodel = subst IsMetamodel (sym (write_keeps m o f values).meta) valid.metamodel;
    model = write_is_model m valid.metamodel valid.model o f values h.0 h.1;
  })
  write_keeps_valid o f values (Err NoObject) h = as_before h.1
  write_keeps_valid o f values (Err NoFeature) h = as_before h.1
  write_keeps_valid o f values (Err BadType) h = as_before h.2
  write_keeps_valid o f values (Err Memory) h = as_before h
  write_keeps_valid o f values (Err Full) h = absurd h
