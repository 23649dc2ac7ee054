use Rattle.std.proofs.Common.{◌≡◌, ◌<◌, ℕ, List, [], get_or, length, sym, ap, subst, ◌∙◌, Bor}
use Rattle.std.proofs.lemmas.List.{length-map}
use Rattle.atl_base.specs.XmlText.{IsXmlText}
use Rattle.xmi_text.specs.Markup.{words_of}
use Rattle.xmi_text.proofs.TextWords.{words_are_texts}
use Rattle.xmi_models.proofs.FirstValues.{text_at, get_now}
use Rattle.xmi_models.proofs.Walking.{if_ok}
use Rattle.xmi_models.proofs.value.word_text.Goals as goal

pub text_of-requires : goal.text_of-requires
text_of-requires c =
    let text = c.args.text.now in
    let none : Bor (List ℕ) = record { ref_ptr = (0, 0); now = [] } in
    let inside : c.args.at < length (words_of text) = subst (λ n. c.args.at < n) (sym (length-map c.args.words.now (λ w. w.now)) ∙ ap length c.requires.words) c.requires.at in
    let same : get_or (words_of text) c.args.at [] ≡ (get_or c.args.words.now c.args.at none).now =
    ap (λ l. get_or l c.args.at []) (sym c.requires.words) ∙ get_now c.args.words.now c.args.at none in
    subst IsXmlText same (text_at (words_of text) c.args.at [] (words_are_texts text c.requires.text) inside)

pub returns : goal.returns
returns c =
    let none : Bor (List ℕ) = record { ref_ptr = (0, 0); now = [] } in
    let same : get_or (words_of c.args.text.now) c.args.at [] ≡ (get_or c.args.words.now c.args.at none).now =
    ap (λ l. get_or l c.args.at []) (sym c.requires.words) ∙ get_now c.args.words.now c.args.at none in
    if_ok c.text_of.result (λ t h. h ∙ sym same) c.text_of.ensures
