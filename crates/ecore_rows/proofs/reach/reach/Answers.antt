use Rattle.std.proofs.Common.{ℕ, ◌<◌, ◌≤◌, List, length, get_or, sym, ap, ◌∙◌, subst, eqb, arith}
use Rattle.indexmap.specs.IndexSet.{insert_all}
use Rattle.ecore_rows.proofs.Reaching.{walk_begin, walk_step, walk_end, walk_short, walk_inside}
use Rattle.ecore_rows.proofs.reach.reach.Goals as goal

pub loop-at-init : goal.loop-at-init
loop-at-init c = walk_begin c.args.supers.now c.args.starts.now _ c.requires.starts (c.in_ok-add_new.ensures ∙ ap (λ ks. insert_all eqb ks c.args.starts.now) c.new-reached.ensures.empty)

pub above-requires : goal.above-requires
above-requires c =
    let inside : c.loop-at.at < length c.loop-at.reached.keys = omega (arith, c.if-at-len.false, c.len.ensures.len) in
    subst (λ (ks : List ℕ). get_or ks c.loop-at.at 0 < length c.args.supers.now) (sym c.as_slice.ensures.keys) (walk_inside c.args.supers.now c.args.starts.now c.loop-at.reached.keys c.loop-at.at c.loop-at.at inside c.loop-at.invariant)

pub loop-at-preserved : goal.loop-at-preserved
loop-at-preserved c =
    let inside : c.loop-at.at < length c.loop-at.reached.keys = omega (arith, c.if-at-len.false, c.len.ensures.len) in
    walk_step c.args.supers.now c.requires.leads c.args.starts.now c.loop-at.reached.keys _ c.loop-at.at (get_or c.as_slice.result.now c.loop-at.at 0)
    inside (ap (λ (ks : List ℕ). get_or ks c.loop-at.at 0) c.as_slice.ensures.keys)
    (c.in_ok-add_new-2.ensures ∙ ap (λ (row : List ℕ). insert_all eqb c.loop-at.reached.keys row) c.above.ensures)
    c.loop-at.invariant

pub returns-then-at-len : goal.returns-then-at-len
returns-then-at-len c =
    let done : length c.loop-at.reached.keys ≤ c.loop-at.at = omega (arith, c.if-at-len.true, c.len.ensures.len) in
    walk_end c.args.supers.now c.requires.leads c.args.starts.now c.loop-at.reached.keys c.loop-at.at c.requires.starts done c.loop-at.invariant

pub returns : goal.returns
returns c =
    let done : length c.loop-at.reached.keys ≤ c.loop-at.at = omega (arith, c.loop-at-test.false, walk_short c.args.supers.now c.args.starts.now c.loop-at.reached.keys c.loop-at.at c.loop-at.invariant) in
    walk_end c.args.supers.now c.requires.leads c.args.starts.now c.loop-at.reached.keys c.loop-at.at c.requires.starts done c.loop-at.invariant
