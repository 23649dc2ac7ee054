use Rattle.std.proofs.Common.{◌≡◌, drop, true}
use Rattle.std.specs.Prelude.{All}
use Rattle.model_store.specs.Contents.{refers}
use Rattle.model_store.specs.Drafts.{current, restored, IsReady}
use Rattle.model_store.specs.Valid.{HasSlot, IsOfType}
use Rattle.model_store.specs.Writes.{add_all}
use Rattle.model_store.proofs.adding.add_all.Given as goal

-- the values that are left may be added to what stands, and give the same
abbrev pub invariant-loop-value : goal.invariant-loop-value
invariant-loop-value l = (add_all l.o l.f (drop l.value-index l.values) (current l.model) ≡ add_all l.o l.f l.values (current l.initial.model))
    × IsReady (current l.model) l.model.holders.items
    × HasSlot (current l.model) l.o l.f
    × (refers (current l.model).meta l.f ≡ true)
    × All (IsOfType (current l.model) l.f) l.values
    × (restored l.model ≡ restored l.initial.model)
