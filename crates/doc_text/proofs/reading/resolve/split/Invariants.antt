use Rattle.std.proofs.Common.{◌≡◌, List, ◌++◌, length}
use Rattle.std.specs.Prelude.{map, reverse}
use Rattle.doc_text.specs.Namespaces.{attributes_of, declared_of}
use Rattle.doc_text.specs.Resolving.{space_in}
use Rattle.doc_text.specs.declared.state.Start.{Start}
use Rattle.doc_text.proofs.reading.resolve.split.Given as goal

-- what is left, and behind it what has been split
abbrev pub invariant-loop-pair : goal.invariant-loop-pair
invariant-loop-pair l = record {
  lengths : length l.spaces.items ≡ length l.pairs;
  declared : declared_of l.pairs ++ reverse l.parts.declared.items ≡ declared_of l.fn.pairs;
  spaces : (open_tags : List Start) → l.fn.spaces.items ≡ map (space_in open_tags) l.fn.pairs → l.spaces.items ≡ map (space_in open_tags) l.pairs;
  attributes : (open_tags : List Start) → l.fn.spaces.items ≡ map (space_in open_tags) l.fn.pairs → attributes_of open_tags l.pairs ++ reverse l.parts.attributes.items ≡ attributes_of open_tags l.fn.pairs;
}

abbrev pub decreases-loop-pair : goal.decreases-loop-pair
decreases-loop-pair l = length l.pairs
