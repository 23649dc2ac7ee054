use Rattle.std.proofs.Common.{◌≡◌, subst}
use Rattle.std.specs.List.{list_any}
use Rattle.model_store.specs.declared.met.Met.{Met}
use Rattle.model_store.specs.declared.parts.Cellv.TheVariants.{Words, Int, Obj}
use Rattle.model_store.specs.Rows.{Knows, met_or}
use Rattle.model_store.specs.Writes.{same_value}
use Rattle.model_store.proofs.met.has.Goals as goal

pub has_object-requires : goal.has_object-requires
has_object-requires c = λ q. subst (λ (met : Met). met_or met (Obj (record { 0 = q })) (list_any (same_value (Obj (record { 0 = q }))) c.args.cells.now) ≡ list_any (same_value (Obj (record { 0 = q }))) c.args.cells.now) c.in-Objects.is (c.requires.all (Obj (record { 0 = q })))

pub has_int-requires : goal.has_int-requires
has_int-requires c = λ q. subst (λ (met : Met). met_or met (Int q) (list_any (same_value (Int q)) c.args.cells.now) ≡ list_any (same_value (Int q)) c.args.cells.now) c.in-Ints.is (c.requires.all (Int q))

pub has_text-requires : goal.has_text-requires
has_text-requires c = λ q. subst (λ (met : Met). met_or met (Words q) (list_any (same_value (Words q)) c.args.cells.now) ≡ list_any (same_value (Words q)) c.args.cells.now) c.in-Texts.is (c.requires.all (Words q))
