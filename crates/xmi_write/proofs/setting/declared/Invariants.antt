use Rattle.std.proofs.Common.{◌≡◌, ◌++◌, take, map}
use Rattle.xmi_write.specs.Xmi.{package_prefix}
use Rattle.xmi_write.proofs.setting.declared.Given as goal

-- the packages so far
abbrev pub invariant-loop-found : goal.invariant-loop-found
invariant-loop-found l = l.list ≡ l.initial.list ++ map package_prefix (take l.found-index l.packages)
