use Rattle.std.proofs.Common.{◌≡◌, ◌∷◌, ap, sym, subst, List}
use Rattle.std.specs.Prelude.{reverse}
use Rattle.std.specs.List.{flat_map}
use Rattle.atl_tree.specs.declared.module.Stat.{Stat}
use Rattle.module_print.specs.Pending.{pending, singles, extras, stat_text, Opens}
use Rattle.module_print.proofs.Opened.{OnOk-then, first_opens}
use Rattle.module_print.proofs.print.statement.open_statements.Goals as goal

pub returns-in_ok-push_all-in-Some : goal.returns-in_ok-push_all-in-Some
returns-in_ok-push_all-in-Some c = OnOk-then c.open_statement.result c.open_statement.ensures (λ o.
    let cases : c.args.stats.now ≡ c.in-Some.stat.now ∷ c.in-Some.others.now = c.in-Some.ensures.cases.0 in
    let m = c.in_ok-push_all-in-Some.ensures in
    subst (λ (l : List Stat). Opens 1 (reverse c.args.stack.now.items) (reverse c.open_statement.new.stack.items) (flat_map stat_text l)) (sym cases)
    (first_opens (reverse c.args.stack.now.items) (reverse c.push_all.new.stack.items) (reverse c.open_statement.new.stack.items) (stat_text c.in-Some.stat.now) (flat_map stat_text c.in-Some.others.now) (ap pending m) (ap singles m) (ap extras m) o))
