-- How many elements are open in a stack.
use Rattle.std.proofs.Common.{◌≡◌, ◌≤◌, ◌<◌, suc, List, [], ◌∷◌, length, refl, ap, ◌∙◌, arith}
use Rattle.std.specs.Prelude.{true, if◌then◌else◌, map, reverse}
use Rattle.std.proofs.lemmas.Bool.{le-ltb, lt-ltb}
use Rattle.std.proofs.lemmas.List.{length-reverse}
use Rattle.atl_base.specs.declared.place.Place.{Place}
use Rattle.doc_text.specs.Symbols.{Kind, utf8}
use Rattle.doc_text.specs.Faults.{TooDeep}
use Rattle.doc_text.specs.RawTrees.{open_of, stack_of}
use Rattle.doc_text.specs.State.{tags, Breaks, Goes, Naming, OfStart}
use Rattle.doc_text.specs.Steps.{begins_in}
use Rattle.doc_text.specs.declared.reading.«open».Open.{Open}

tags_length : (fs : List Open) → length (tags (map open_of fs)) ≡ length fs
tags_length [] = refl
tags_length (f ∷ fs) = ap (λ n. suc n) (tags_length fs)

pub stack_length : (fs : List Open) → length (tags (stack_of fs)) ≡ length fs
stack_length fs = tags_length (reverse fs) ∙ length-reverse fs

pub too_deep : (fs : List Open) (p : Place) (k : Kind) (q : Place) → 200 ≤ length fs → begins_in true (stack_of fs) p k q ≡ Breaks TooDeep p
too_deep fs p k q h =
    let deep : 200 ≤ length (tags (stack_of fs)) = omega (arith, h, stack_length fs) in
    ap (λ b. if b then Goes (Naming (OfStart (stack_of fs) p) q (utf8 k)) else Breaks TooDeep p) (le-ltb (length (tags (stack_of fs))) 200 deep)

pub shallow : (fs : List Open) (p : Place) (k : Kind) (q : Place) → length fs < 200 → begins_in true (stack_of fs) p k q ≡ Goes (Naming (OfStart (stack_of fs) p) q (utf8 k))
shallow fs p k q h =
    let few : length (tags (stack_of fs)) < 200 = omega (arith, h, stack_length fs) in
    ap (λ b. if b then Goes (Naming (OfStart (stack_of fs) p) q (utf8 k)) else Breaks TooDeep p) (lt-ltb (length (tags (stack_of fs))) 200 few)
