-- Reading on from a character, by the step that is taken there.
use Rattle.std.proofs.Common.{◌≡◌, List, ◌∷◌, ap}
use Rattle.std.specs.Prelude.{true}
use Rattle.atl_base.specs.declared.place.Place.{Place}
use Rattle.doc_text.specs.Symbols.{Symbol}
use Rattle.doc_text.specs.State.{State, Step}
use Rattle.doc_text.specs.Steps.{step}
use Rattle.doc_text.specs.Machine.{after, reason, run}

pub run_by : (end : Place) (s : State) (t : Symbol) (ts : List Symbol) (m : Step) → step true s t.kind t.at ≡ m → run true end s (t ∷ ts) ≡ after m (reason end s (t ∷ ts)) (λ u. run true end u ts)
run_by end s t ts m e = ap (λ n. after n (reason end s (t ∷ ts)) (λ u. run true end u ts)) e
