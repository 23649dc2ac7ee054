use Rattle.std.proofs.Common.{◌≡◌, Some, rules}
use Rattle.model_store.specs.Contents.{Contents, holder}
use Rattle.model_store.specs.Drafts.{current}
use Rattle.model_store.proofs.Added.{contains_refers}
use Rattle.model_store.proofs.SameHolders.{by_holder}
use Rattle.model_store.proofs.adding.leave.Goals as goal

pub unlink-requires-clause-reference : goal.unlink-requires-clause-reference
unlink-requires-clause-reference c =
    let m : Contents = current c.args.model.now in
    let found : holder m c.args.p ≡ Some (c.in-Some.r, c.in-Some.h) = search rules in
    contains_refers m.meta c.in-Some.h (by_holder m c.requires.valid c.args.p c.in-Some.r c.in-Some.h found).0

pub unlink-requires-clause-pair : goal.unlink-requires-clause-pair
unlink-requires-clause-pair c =
    let m : Contents = current c.args.model.now in
    let found : holder m c.args.p ≡ Some (c.in-Some.r, c.in-Some.h) = search rules in
    (by_holder m c.requires.valid c.args.p c.in-Some.r c.in-Some.h found).1
