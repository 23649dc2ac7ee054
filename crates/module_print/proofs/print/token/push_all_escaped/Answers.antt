use Rattle.std.proofs.Common.{◌∙◌, List, ℕ, ◌++◌, sym, ap, subst, append_assoc, encode_utf8}
use Rattle.std.specs.List.{flat_map}
use Rattle.std.specs.Str.Iter.{chars_rest}
use Rattle.std.proofs.lemmas.List.Concat.{flat_map-append}
use Rattle.atl_base.specs.XmlText.{IsXmlText}
use Rattle.atl_base.proofs.XmlTexts.{IsXmlText-parts}
use Rattle.module_print.specs.Printed.{escaped}
use Rattle.module_print.proofs.print.token.push_all_escaped.Goals as goal

pub push_escaped-requires : goal.push_escaped-requires
push_escaped-requires c =
    (IsXmlText-parts c.in-Some.c (chars_rest c.next.new.self) (subst IsXmlText c.in-Some.ensures.steps.0 c.loop-c.invariant.3)).0

pub loop-c-preserved : goal.loop-c-preserved
loop-c-preserved c =
    let i = c.loop-c.invariant in
    let here : List ℕ = encode_utf8 c.in-Some.c in
    let rest : List ℕ = chars_rest c.next.new.self in
    let write = λ (l : List ℕ). flat_map escaped l in (
      i.0 ++ here,
      i.1 ∙ ap (λ l. i.0 ++ l) c.in-Some.ensures.steps.0 ∙ sym (append_assoc i.0 here rest),
      c.in_ok-push_escaped.ensures ∙ ap (λ l. l ++ write here) i.2 ∙ append_assoc c.args.out.now (write i.0) (write here) ∙ ap (λ l. c.args.out.now ++ l) (sym (flat_map-append escaped i.0 here)),
      (IsXmlText-parts c.in-Some.c rest (subst IsXmlText c.in-Some.ensures.steps.0 i.3)).1,
    )
