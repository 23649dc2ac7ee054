use Rattle.std.proofs.Common.{◌≡◌, ◌∙◌, ◌++◌, ◌∷◌, [], List, ℕ, map, get_or, take, sym, ap, subst}
use Rattle.std.specs.Prelude.{All}
use Rattle.std.proofs.lemmas.List.{map-append, take_more, take_all}
use Rattle.std.proofs.lemmas.List.Elements.{All-push}
use Rattle.atl_base.specs.XmlText.{IsXmlText}
use Rattle.atl_cli.proofs.operands.strings.Goals as goal

pub loop-word-preserved : goal.loop-word-preserved
loop-word-preserved c =
    let words = c.args.words.now in
    let i = c.loop-word.word-index in
    let w : List ℕ = c.word-item.result in
    let more = take_more words i w c.loop-word-test.true in
    let here : get_or words i w ≡ w = sym c.word-item.is in
    record {
      same =
          ap (map (λ s. s.now)) c.in_ok-push.ensures.items ∙ map-append (λ s. s.now) c.loop-word.strings.items (c.as_str.result ∷ [])
          ∙ ap (λ l. l ++ (c.as_str.result.now ∷ [])) c.loop-word.invariant.same ∙ ap (λ x. take i words ++ (x ∷ [])) (c.as_str.ensures.text ∙ sym here) ∙ sym more;
      texts = subst (λ l. All IsXmlText l) (sym more) (All-push IsXmlText _ _ c.loop-word.invariant.texts (subst IsXmlText (sym here) c.as_str.ensures.xml));
    }

pub returns : goal.returns
returns c =
    let all = take_all c.loop-word.word-index c.args.words.now c.loop-word-test.false in
    (c.loop-word.invariant.same ∙ all, subst (λ l. All IsXmlText l) all c.loop-word.invariant.texts)
