use Rattle.std.proofs.Common.{◌≡◌, ◌∷◌, sym, ap, ◌∙◌, Some}
use Rattle.std.specs.Option.{option_map}
use Rattle.doc_text.specs.Keys.{key_of}
use Rattle.doc_text.specs.RawTrees.{stack_of}
use Rattle.doc_text.specs.SeenKeys.{key_in}
use Rattle.doc_text.specs.State.{tags}
use Rattle.doc_text.proofs.Keys.{stops_undeclared, stops_twice, goes_on, keys_more}
use Rattle.doc_text.proofs.reading.tag_fault.few_fault.Goals as goal

pub returns-in_default : goal.returns-in_default
returns-in_default c =
    let open_tags = c.args.tag.now ∷ tags (stack_of c.args.outer.now) in
    stops_undeclared open_tags c.as_slice-pair-items.result.now c.loop-pair.pair-index c.pair-item.result _ c.loop-pair-test.true c.pair-item.is c.loop-pair.invariant.faults
    (sym c.key_of.ensures ∙ ap (option_map key_in) c.in_default.is)

pub returns-then-is_among : goal.returns-then-is_among
returns-then-is_among c =
    let open_tags = c.args.tag.now ∷ tags (stack_of c.args.outer.now) in
    stops_twice open_tags c.as_slice-pair-items.result.now c.loop-pair.pair-index c.pair-item.result _ (key_in c.in-Some.key) c.loop-pair.seen.items c.loop-pair-test.true c.pair-item.is c.loop-pair.invariant.faults
    (sym c.key_of.ensures ∙ ap (option_map key_in) c.in-Some.is) c.loop-pair.invariant.keys cc

pub loop-pair-preserved : goal.loop-pair-preserved
loop-pair-preserved c =
    let open_tags = c.args.tag.now ∷ tags (stack_of c.args.outer.now) in
    let some : key_of open_tags c.pair-item.result.name ≡ Some (key_in c.in-Some.key) = sym c.key_of.ensures ∙ ap (option_map key_in) c.in-Some.is in
    record {
      faults = goes_on open_tags c.as_slice-pair-items.result.now c.loop-pair.pair-index c.pair-item.result _ (key_in c.in-Some.key) c.loop-pair.seen.items c.loop-pair-test.true c.pair-item.is c.loop-pair.invariant.faults some c.loop-pair.invariant.keys (cc);
      keys = keys_more open_tags c.as_slice-pair-items.result.now c.loop-pair.pair-index c.pair-item.result c.in-Some.key c.loop-pair.seen.items c.push.new.self.items c.loop-pair-test.true c.pair-item.is some c.loop-pair.invariant.keys c.in_ok-push.ensures.items;
    }
