use Rattle.std.proofs.Common.{◌≡◌, ◌==◌, ◌++◌, List, ℕ, length, codes, true, false, sym, ap, ◌∙◌}
use Rattle.std.specs.List.{flat_map}
use Rattle.doc_text.specs.declared.escape.Escapes.TheVariants as escape
use Rattle.doc_text.specs.declared.tree.Prefix.{Prefix}
use Rattle.doc_text.specs.Escapes.{escaped}
use Rattle.doc_text.specs.Written.{end_tag}
use Rattle.doc_text.proofs.Opened.{OnOk-map}
use Rattle.xmi_write.proofs.Pieces.{three, words_contents}
use Rattle.xmi_write.proofs.elements.push_words.Goals as goal

pub returns : goal.returns
returns c =
    let ds : List Prefix = c.args.setting.now.declared in
    let head = c.args.head.now in
    let text : List ℕ = c.args.text.now in
    let end : List ℕ = end_tag ds head.space head.name in
    let some : length text ≡ 0 → ⊥ = λ h.
    let both : true ≡ false = sym (ap (λ n. n == 0) h) ∙ ap (λ (l : List ℕ). length l == 0) (sym c.as_str.ensures.text) ∙ sym c.is_empty.ensures ∙ c.if-is_empty.false in cc in
    OnOk-map c.push_end_tag.result
    (λ is. three c.args.out.now c.push_ascii-2.new.self c.push_escaped.new.out c.push_end_tag.new.out (codes ">") (flat_map (escaped escape.Text) text) end
    c.in_ok-push_ascii.ensures.ok c.in_ok-push_escaped.ensures (is ∙ ap (λ (x : List Prefix). c.push_escaped.new.out ++ end_tag x head.space head.name) c.as_slice.ensures)
    ∙ ap (λ (l : List ℕ). c.args.out.now ++ l) (sym (words_contents ds end text 0 some)))
    c.push_end_tag.ensures
