use Rattle.std.proofs.Common.{◌≡◌, ◌∷◌, refl, sym, ap, ◌∙◌, Some}
use Rattle.std.specs.Option.{option_map}
use Rattle.doc_text.specs.Keys.{key_of}
use Rattle.doc_text.specs.RawTrees.{stack_of}
use Rattle.doc_text.specs.SeenKeys.{key_in}
use Rattle.doc_text.specs.State.{tags}
use Rattle.doc_text.proofs.Keys.{stops_undeclared, stops_twice, goes_on, keys_more, found_again, found_first, added}
use Rattle.doc_text.proofs.reading.tag_fault.many_fault.Goals as goal

pub returns-in_default : goal.returns-in_default
returns-in_default c =
    let open_tags = c.args.tag.now ∷ tags (stack_of c.args.outer.now) in
    stops_undeclared open_tags c.as_slice-pair-items.result.now c.loop-pair.pair-index c.pair-item.result _ c.loop-pair-test.true c.pair-item.is c.loop-pair.invariant.faults
    (sym c.key_of.ensures ∙ ap (option_map key_in) c.in_default.is)

pub returns-then-not-is_new : goal.returns-then-not-is_new
returns-then-not-is_new c =
    let open_tags = c.args.tag.now ∷ tags (stack_of c.args.outer.now) in
    let seen = c.loop-pair.seen.keys in
    stops_twice open_tags c.as_slice-pair-items.result.now c.loop-pair.pair-index c.pair-item.result _ (key_in c.in-Some.key) seen c.loop-pair-test.true c.pair-item.is c.loop-pair.invariant.faults
    (sym c.key_of.ensures ∙ ap (option_map key_in) c.in-Some.is) c.loop-pair.invariant.keys
    (found_again _ (λ k l. refl) c.in-Some.key seen c.in_ok-is_new.is_new c.in_ok-is_new.ensures.added c.if-not-is_new.true)

pub loop-pair-preserved : goal.loop-pair-preserved
loop-pair-preserved c =
    let open_tags = c.args.tag.now ∷ tags (stack_of c.args.outer.now) in
    let seen = c.loop-pair.seen.keys in
    let some : key_of open_tags c.pair-item.result.name ≡ Some (key_in c.in-Some.key) = sym c.key_of.ensures ∙ ap (option_map key_in) c.in-Some.is in
    record {
      faults = goes_on open_tags c.as_slice-pair-items.result.now c.loop-pair.pair-index c.pair-item.result _ (key_in c.in-Some.key) seen c.loop-pair-test.true c.pair-item.is c.loop-pair.invariant.faults some c.loop-pair.invariant.keys
          (found_first _ (λ k l. refl) c.in-Some.key seen c.in_ok-is_new.is_new c.in_ok-is_new.ensures.added c.if-not-is_new.false);
      keys = keys_more open_tags c.as_slice-pair-items.result.now c.loop-pair.pair-index c.pair-item.result c.in-Some.key seen c.insert.new.self.keys c.loop-pair-test.true c.pair-item.is some c.loop-pair.invariant.keys
          (added _ (λ k l. refl) c.in-Some.key seen _ c.in_ok-is_new.is_new c.in_ok-is_new.ensures.added c.if-not-is_new.false c.in_ok-is_new.ensures.keys);
    }
