use Rattle.std.proofs.Common.{◌≡◌, ◌+◌, ◌-◌, ◌≤◌, List, drop, length, cond, subst, sym, ap, ◌∙◌, arith, rules}
use Rattle.std.specs.List.{insert, position_or_len}
use Rattle.std.specs.Prelude.{nat_lt}
use Rattle.std.proofs.lemmas.List.{length-drop}
use Rattle.std.proofs.lemmas.List.Edits.{length-insert}
use Rattle.atl_base.specs.declared.numbers.ObjId.{ObjId}
use Rattle.model_store.specs.Roots.{Rise}
use Rattle.model_store.proofs.RisingRoots.{at_place, drop_insert}
use Rattle.model_store.proofs.roots.insert_root.Goals as goal

pub still_rise-rise-requires-clause-below : goal.still_rise-rise-requires-clause-below
still_rise-rise-requires-clause-below c = at_place c.args.o c.live-roots.result.now c.place_for-at.result c.place_for-at.ensures.place

-- there is room, so the root is inserted
pub returns-clause-items : goal.returns-clause-items
returns-clause-items c =
    let list : List ObjId = c.args.list.now.items in
    let from = c.args.known.from in
    let same : c.live-roots.result.now ≡ drop from list = search rules in
    let longer : c.insert.new.self.items ≡ insert list (from + c.place_for-at.result) c.args.o =
    c.insert.ensures.items ∙ ap (λ done. cond done (insert list (from + c.place_for-at.result) c.args.o) list) (c.insert.ensures.succeeds c.requires.room) in
    ap (drop from) longer
    ∙ drop_insert from c.place_for-at.result list c.args.o c.requires.known.within
    ∙ ap (λ n. insert (drop from list) n c.args.o) (c.place_for-at.ensures.place ∙ ap (position_or_len (λ r. nat_lt c.args.o.0 r.0)) same)

pub returns-clause-known : goal.returns-clause-known
returns-clause-known c =
    let list : List ObjId = c.args.list.now.items in
    let from = c.args.known.from in
    let same : c.live-roots.result.now ≡ drop from list = search rules in
    let size : length c.live-roots.result.now ≡ length list - from = ap length same ∙ length-drop from list in
    let place : from + c.place_for-at.result ≤ length list = omega (arith, size, c.place_for-at.ensures.within, c.requires.known.within) in
    let longer : c.insert.new.self.items ≡ insert list (from + c.place_for-at.result) c.args.o =
    c.insert.ensures.items ∙ ap (λ done. cond done (insert list (from + c.place_for-at.result) c.args.o) list) (c.insert.ensures.succeeds c.requires.room) in
    record {
      within = omega (arith, ap length longer, length-insert list (from + c.place_for-at.result) c.args.o place);
      rises = λ e. subst Rise (sym (ap (drop from) longer ∙ drop_insert from c.place_for-at.result list c.args.o c.requires.known.within))
          (subst (λ (roots : List ObjId). Rise (insert roots c.place_for-at.result c.args.o)) same (c.still_rise-rise.ensures e));
    }
