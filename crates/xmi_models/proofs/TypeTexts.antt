-- The class that a type's text names, by where its colon stands.
use Rattle.std.proofs.Common.{◌≡◌, ℕ, suc, ◌+◌, ◌-◌, ◌<◌, ◌≤◌, List, [], length, take, drop, sym, ap, subst, ◌∙◌}
use Rattle.std.specs.Prelude.{Some}
use Rattle.std.specs.Option.{option_map_or}
use Rattle.doc_text.specs.declared.tree.Prefix.{Prefix}
use Rattle.ecore_meta.specs.declared.parts.Parts.{Parts}
use Rattle.xmi_text.specs.Markup.{behind_colon}
use Rattle.xmi_text.specs.Cuts.{place_of}
use Rattle.xmi_text.proofs.Cuts.{before_some, before_none, behind, rest_cut}
use Rattle.xmi_models.specs.Outline.{class_of_text, class_behind}

pub text_cut : (meta : Parts) (scope : List Prefix) (text : List ℕ) (n : ℕ) → n ≡ place_of 58 text → n < length text
    → class_behind meta scope (take n text) (take (length text - (n + 1)) (drop (n + 1) text)) ≡ class_of_text meta scope text
text_cut meta scope text n e h =
    sym (ap (λ o. option_map_or (λ prefix. class_behind meta scope prefix (behind_colon text)) o (class_behind meta scope [] text))
    (before_some text (subst (λ k. k < length text) e h) ∙ ap (λ k. Some (take k text)) (sym e))
    ∙ ap (λ local. class_behind meta scope (take n text) local) (behind text ∙ ap (λ k. drop (suc k) text) (sym e) ∙ rest_cut n text))

pub text_whole : (meta : Parts) (scope : List Prefix) (text : List ℕ) (n : ℕ) → n ≡ place_of 58 text → length text ≤ n → class_behind meta scope [] text ≡ class_of_text meta scope text
text_whole meta scope text n e h =
    sym (ap (λ o. option_map_or (λ prefix. class_behind meta scope prefix (behind_colon text)) o (class_behind meta scope [] text)) (before_none text (subst (λ k. length text ≤ k) e h)))
