use Rattle.std.proofs.Common.{◌≡◌, ap, drop, length, ◌∙◌, arith, rules}
use Rattle.model_store.proofs.RisingRoots.{drop_shifted, drop_remove}
use Rattle.model_store.proofs.roots.remove_at.Goals as goal

pub returns-then-at-len-clause-items : goal.returns-then-at-len-clause-items
returns-then-at-len-clause-items c =
    let size : length c.copy_within.new.self.items ≡ length c.args.list.now.items = search rules in
    drop_shifted c.args.from c.args.at c.args.list.now.items c.copy_within.new.self.items c.requires size
    (λ k d b l. c.copy_within.ensures.by_index.0 k d b (omega arith))
    (λ k d b. c.copy_within.ensures.by_index.2 k d (omega arith))

pub returns-clause-items : goal.returns-clause-items
returns-clause-items c = ap (drop c.args.from) c.remove.ensures.items ∙ drop_remove c.args.from c.args.at c.args.list.now.items (omega arith)
