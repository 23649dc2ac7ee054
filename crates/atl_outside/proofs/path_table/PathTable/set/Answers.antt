use Rattle.std.proofs.Common.{◌∙◌, ap, sym, refl}
use Rattle.std.specs.List.{position_from}
use Rattle.atl_outside.specs.Held.{with_content, held_of}
use Rattle.atl_outside.proofs.Pairs.{held_of-set, held_of-push, at_path}
use Rattle.atl_outside.proofs.path_table.PathTable.set.Goals as goal

pub returns-in-Some-clause-ok : goal.returns-in-Some-clause-ok
returns-in-Some-clause-ok c =
    held_of-set c.self.inside.pairs.items c.in-Some.place c.args.path.now c.index_mut.result.now (c.index_mut.result.now.0, c.in_ok-bytes.bytes)
    (ap (position_from (at_path c.args.path.now) 0) (sym c.deref.ensures.value) ∙ sym c.in-Some.ensures.first) c.index_mut.ensures.value refl
    ∙ ap (with_content (held_of c.self.inside.pairs.items) c.args.path.now) c.in_ok-bytes.ensures.items
    ∙ ap (λ held. with_content held c.args.path.now c.args.bytes.now) c.self.view_is

pub returns-in_ok-push-in-None-clause-ok : goal.returns-in_ok-push-in-None-clause-ok
returns-in_ok-push-in-None-clause-ok c =
    ap held_of c.in_ok-push-in-None.ensures.items
    ∙ held_of-push c.self.inside.pairs.items c.args.path.now (c.in_ok-copy-in-None.field-0, c.in_ok-bytes.bytes)
    (ap (position_from (at_path c.args.path.now) 0) (sym c.deref.ensures.value) ∙ sym c.in-None.ensures.first) c.in_ok-copy-in-None.ensures
    ∙ ap (with_content (held_of c.self.inside.pairs.items) c.args.path.now) c.in_ok-bytes.ensures.items
    ∙ ap (λ held. with_content held c.args.path.now c.args.bytes.now) c.self.view_is
