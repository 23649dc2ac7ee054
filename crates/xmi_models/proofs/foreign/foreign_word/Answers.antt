use Rattle.std.proofs.Common.{◌≡◌, ◌<◌, ℕ, List, [], get_or, length, sym, ap, ◌∙◌, Bor, arith}
use Rattle.std.specs.Prelude.{true, false, Some}
use Rattle.std.proofs.lemmas.List.{length-map, get_or_default}
use Rattle.xmi_text.specs.Markup.{words_of}
use Rattle.xmi_text.specs.Fragments.{names_file}
use Rattle.xmi_models.proofs.FirstValues.{get_now}
use Rattle.xmi_models.proofs.Passing.{word_passed, word_found}
use Rattle.xmi_models.proofs.foreign.foreign_word.Goals as goal

pub loop-i-preserved : goal.loop-i-preserved
loop-i-preserved c =
    let words = c.in_ok-words.words.items in
    let here = c.index.result.now in
    let inside : c.loop-i.i < length words = omega (arith, c.loop-i-test.true, c.len-i-end.ensures, c.in_ok-words.words.ok.0) in
    let names : names_file (get_or words c.loop-i.i here).now ≡ false = ap (λ (w : Bor (List ℕ)). names_file w.now) (sym c.index.ensures) ∙ sym c.names_file.ensures ∙ c.if-names_file.false in
    word_passed names_file words c.loop-i.i here inside names ∙ c.loop-i.invariant

pub returns-then-names_file : goal.returns-then-names_file
returns-then-names_file c =
    let words = c.in_ok-words.words.items in
    let here = c.index.result.now in
    let text = c.bytes-bytes.result.now in
    let inside : c.loop-i.i < length words = omega (arith, c.loop-i-test.true, c.len-i-end.ensures, c.in_ok-words.words.ok.0) in
    let names : names_file (get_or words c.loop-i.i here).now ≡ true = ap (λ (w : Bor (List ℕ)). names_file w.now) (sym c.index.ensures) ∙ sym c.names_file.ensures ∙ c.if-names_file.true in
    let within : c.loop-i.i < length (words_of text) = omega (arith, inside, length-map words (λ w. w.now), ap length c.in_ok-words.ensures) in
    let word : get_or (words_of text) c.loop-i.i [] ≡ (get_or words c.loop-i.i here).now =
    sym (get_or_default (words_of text) c.loop-i.i here.now [] within)
    ∙ ap (λ l. get_or l c.loop-i.i here.now) (sym c.in_ok-words.ensures)
    ∙ get_now words c.loop-i.i here in
    ap Some (c.in_ok-word.ensures ∙ word) ∙ word_found names_file words c.loop-i.i here inside names ∙ c.loop-i.invariant
