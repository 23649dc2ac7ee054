use Rattle.std.proofs.Common.{[]}
use Rattle.model_store.specs.Writes.{initial}
use Rattle.xmi_write.proofs.Tables.{IsTable}
use Rattle.xmi_write.proofs.setting.defaults.Given as goal

-- the defaults so far
abbrev pub invariant-loop-f : goal.invariant-loop-f
invariant-loop-f l = IsTable [] l.f (λ n. initial l.meta (record { 0 = n })) l.list.items
