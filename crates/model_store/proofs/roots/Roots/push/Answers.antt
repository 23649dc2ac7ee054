use Rattle.std.proofs.Common.{◌≡◌, ◌++◌, ◌∷◌, [], List, drop, length, subst, sym, ap, ◌∙◌, arith, rules, length-append}
use Rattle.std.specs.List.{insert}
use Rattle.std.proofs.lemmas.List.{drop-append-le}
use Rattle.std.proofs.lemmas.List.Edits.{insert_end}
use Rattle.atl_base.specs.declared.numbers.ObjId.{ObjId}
use Rattle.model_store.specs.Roots.{Rise}
use Rattle.model_store.proofs.roots.Roots.push.Goals as goal

pub invariant_of-self-2 : goal.invariant_of-self-2
invariant_of-self-2 c =
    let list : List ObjId = c.self.inside.list.items in
    let from = c.self.inside.known.from in
    let same : c.live-roots.result.now ≡ drop from list = search rules in
    record {
      within = omega (arith, ap length c.in_ok-push.ensures.items, length-append list (c.args.o ∷ []), c.self.invariant.within);
      rises = λ e. subst Rise (sym (ap (drop from) c.in_ok-push.ensures.items ∙ drop-append-le from list (c.args.o ∷ []) c.self.invariant.within))
          (subst (λ (roots : List ObjId). Rise (roots ++ c.args.o ∷ [])) same
          (subst Rise (insert_end c.live-roots.result.now c.args.o) (c.still_rise-rise.ensures e)));
    }
