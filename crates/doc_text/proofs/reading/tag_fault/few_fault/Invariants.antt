use Rattle.std.proofs.Common.{◌≡◌, [], ◌∷◌, take, drop}
use Rattle.std.specs.Prelude.{map, Some}
use Rattle.doc_text.specs.Namespaces.{pairs_fault}
use Rattle.doc_text.specs.RawTrees.{stack_of}
use Rattle.doc_text.specs.SeenKeys.{key_in}
use Rattle.doc_text.specs.State.{tags}
use Rattle.doc_text.proofs.Keys.{keys_of}
use Rattle.doc_text.proofs.reading.tag_fault.few_fault.Given as goal

-- the attributes so far have no fault, and their keys have been seen
abbrev pub invariant-loop-pair : goal.invariant-loop-pair
invariant-loop-pair l =
    let open_tags = l.tag ∷ tags (stack_of l.outer) in
    record {
      faults : pairs_fault open_tags (take l.pair-index l.pair-items) (drop l.pair-index l.pair-items) ≡ pairs_fault open_tags [] l.tag.pairs;
      keys : map (λ k. Some (key_in k)) l.seen.items ≡ keys_of open_tags (take l.pair-index l.pair-items);
    }
