use Rattle.std.proofs.Common.{◌∙◌, List, ℕ, ◌++◌, sym, ap, subst, append_assoc, encode_utf8}
use Rattle.std.specs.List.{flat_map}
use Rattle.std.specs.Str.Iter.{chars_rest}
use Rattle.std.proofs.lemmas.List.Concat.{flat_map-append}
use Rattle.atl_base.specs.XmlText.{IsXmlText}
use Rattle.atl_base.proofs.XmlTexts.{IsXmlText-parts}
use Rattle.ocl_parse.specs.Symbols.{unquoted}
use Rattle.ocl_parse.proofs.symbol.unquoted.Goals as goal

pub push_unquoted-requires : goal.push_unquoted-requires
push_unquoted-requires c =
    (IsXmlText-parts c.in-Some.c (chars_rest c.next.new.self) (subst IsXmlText c.in-Some.ensures.steps.0 c.loop-c.invariant.1)).0

pub loop-c-preserved : goal.loop-c-preserved
loop-c-preserved c =
    let i = c.loop-c.invariant in
    let here : List ℕ = encode_utf8 c.in-Some.c in
    let rest : List ℕ = chars_rest c.next.new.self in
    let write = λ (l : List ℕ). flat_map unquoted l in (
      ap (λ l. l ++ write rest) c.in_ok-push_unquoted.ensures ∙ append_assoc c.loop-c.name (write here) (write rest)
          ∙ ap (λ l. c.loop-c.name ++ l) (sym (flat_map-append unquoted here rest)) ∙ ap (λ l. c.loop-c.name ++ write l) (sym c.in-Some.ensures.steps.0) ∙ i.0,
      (IsXmlText-parts c.in-Some.c rest (subst IsXmlText c.in-Some.ensures.steps.0 i.1)).1,
    )
