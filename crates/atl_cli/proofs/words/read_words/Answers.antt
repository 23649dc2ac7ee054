use Rattle.std.proofs.Common.{sym, ap, subst, ◌∙◌, refl, codes, ◌∷◌, map}
use Rattle.std.specs.Prelude.{AllPairs}
use Rattle.atl_cli.specs.Words.{pair_word}
use Rattle.atl_cli.proofs.Requests.{Differ, no_request, same_bytes, spelled_so, from_third, four_pairs}
use Rattle.atl_cli.proofs.words.read_words.Goals as goal

pub returns-then-not-names_differ : goal.returns-then-not-names_differ
returns-then-not-names_differ c r is =
    let words = c.args.words.now in
    let read = rw c.in-Some.is at c.in_ok-pairs.ensures in
    let clash : AllPairs Differ c.in-Some.pairs → ⊥ = λ all. let no = c.if-not-names_differ.ensures.1 (subst (λ l. AllPairs Differ l) (sym c.as_slice.ensures) all) in cc in
    no_request words c.in-Some.pairs read.0 (sym (from_third words) ∙ read.1) clash r is

pub returns : goal.returns
returns c =
    let words = c.args.words.now in
    let read = rw c.in-Some.is at c.in_ok-pairs.ensures in
    let rest = sym (from_third words) ∙ read.1 in
    record {
      spelled =
          spelled_so words c.index-words-0.result c.index-words-1.result c.in-Some.pairs c.if-words-ne6.false c.index-words-0.is c.index-words-1.is (sym c.as_str.ensures.text ∙ same_bytes _ _ c.if-ne.ensures) rest
          ∙ ap (λ m. codes "transform" ∷ (m ∷ map pair_word c.in-Some.pairs)) (sym c.in_ok-copy.ensures);
      plain = sym c.if-not-are_plain.ensures ∙ refl;
      four = four_pairs words c.in-Some.pairs c.if-words-ne6.false rest;
      pairs = read.0;
      differ = subst (λ l. AllPairs Differ l) c.as_slice.ensures (c.if-not-names_differ.ensures.0 refl);
    }
