use Rattle.std.proofs.Common.{◌≡◌, ◌≤◌, take, count_by}
use Rattle.atl_cli.specs.Format.{is_rule}
use Rattle.atl_cli.proofs.format.rule_count.Given as goal

-- the rules so far
abbrev pub invariant-loop-item : goal.invariant-loop-item
invariant-loop-item l = record { counted : l.count ≡ count_by is_rule (take l.item-index l.item-items); below : l.count ≤ l.item-index }
