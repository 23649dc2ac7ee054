use Rattle.std.proofs.Common.{◌≡◌, List, ◌∷◌, [], length, ap, length-append, arith}
use Rattle.std.specs.Prelude.{map}
use Rattle.doc_text.specs.Raw.{Start}
use Rattle.doc_text.specs.Resolving.{space_in}
use Rattle.doc_text.proofs.Resolving.{declared_step, attributes_step, spaces_step}
use Rattle.doc_text.proofs.reading.resolve.split.Goals as goal

pub loop-pair-preserved : goal.loop-pair-preserved
loop-pair-preserved c =
    let so_far = c.loop-pair.invariant in
    let left = c.pop.new.self in
    let pair = c.in-Some.pair in
    let spaces = c.pop-in-Some.new.self.items in
    let both = λ (o : List Start) (e : c.args.spaces.items ≡ map (space_in o) c.args.pairs). spaces_step (space_in o) left c.loop-pair.pairs pair spaces c.loop-pair.spaces.items c.in-Some-pop.space c.in-Some.ensures c.in-Some-pop.ensures.items (so_far.spaces o e) in
    record {
      lengths = omega (arith, so_far.lengths, ap length c.in-Some.ensures, ap length c.in-Some-pop.ensures.items, length-append left (pair ∷ []), length-append spaces (c.in-Some-pop.space ∷ []));
      declared = declared_step left c.loop-pair.pairs pair c.loop-pair.parts.declared.items _ _ c.in-Some.ensures so_far.declared c.in_ok-push_part.ensures.declared;
      spaces = λ o e. (both o e).0;
      attributes = λ o e. attributes_step o left c.loop-pair.pairs pair c.loop-pair.parts.attributes.items _ _ c.in-Some.ensures (so_far.attributes o e) (c.in_ok-push_part.ensures.attributes o (both o e).1);
    }
