-- Words of a text are texts.
use Rattle.std.proofs.Common.{◌≡◌, ◌<◌, ℕ, List, [], get_or, length, map, sym, ap, subst, ◌∙◌, Bor}
use Rattle.std.proofs.lemmas.List.{get_or-map, length-map}
use Rattle.atl_base.specs.XmlText.{IsXmlText}
use Rattle.xmi_text.specs.Markup.{words_of}
use Rattle.xmi_text.proofs.TextWords.{words_are_texts}
use Rattle.xmi_models.proofs.FirstValues.{text_at}

pub word_is_text : (text : List ℕ) → IsXmlText text → (ws : List (Bor (List ℕ))) → map (λ w. w.now) ws ≡ words_of text → (i : ℕ) (w : Bor (List ℕ)) → i < length ws → w ≡ get_or ws i w → IsXmlText w.now
word_is_text text xml ws words i w l is =
    let inside : i < length (words_of text) = subst (λ n. i < n) (sym (length-map ws (λ (w : Bor (List ℕ)). w.now)) ∙ ap length words) l in
    let there : get_or (words_of text) i [] ≡ w.now =
    ap (λ l. get_or l i []) (sym words) ∙ get_or-map (λ (w : Bor (List ℕ)). w.now) ws i w [] l ∙ ap (λ (w : Bor (List ℕ)). w.now) (sym is) in
    subst IsXmlText there (text_at (words_of text) i [] (words_are_texts text xml) inside)
