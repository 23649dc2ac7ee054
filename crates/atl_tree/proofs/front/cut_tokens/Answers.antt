use Rattle.std.proofs.Common.{◌≡◌, List, ℕ, drop, sym, ap, subst, ◌∙◌}
use Rattle.std.specs.Str.{IsCharBoundary, IsUtf8, chars}
use Rattle.atl_base.proofs.XmlTexts.{IsUtf8-from_text}
use Rattle.atl_tree.specs.declared.cursor.Scanned.{Scanned}
use Rattle.atl_tree.specs.Front.{cut_tokens}
use Rattle.atl_tree.specs.Machine.{cut_of}
use Rattle.atl_tree.specs.Scanner.{scan_of}
use Rattle.atl_tree.specs.Tokens.{begin_byte, body_of, place, tokens_from}
use Rattle.atl_tree.proofs.Told.{marked-text}
use Rattle.atl_tree.proofs.front.cut_tokens.Goals as goal

-- what the scanner has cut
cut_list : (text : List ℕ) (from : ℕ) (s : Scanned) → IsUtf8 text → from ≡ begin_byte (chars text) → s ≡ scan_of from (cut_of (chars (drop from text)))
    → s.list ≡ cut_tokens (chars text)
unfolding cut_tokens
cut_list text from s u f e =
    let body : chars (drop from text) ≡ body_of (chars text) = ap (λ n. chars (drop n text)) f ∙ (marked-text text u).1 in
    ap (λ t. t.list) e
    ∙ ap (λ n. tokens_from n (place 1 1) (cut_of (chars (drop from text))).pieces) f
    ∙ ap (λ cs. tokens_from (begin_byte (chars text)) (place 1 1) (cut_of cs).pieces) body

pub scan-requires-clause-edge : goal.scan-requires-clause-edge
scan-requires-clause-edge c =
    let text = c.args.text.now in
    let from : c.mark_length.result ≡ begin_byte (chars text) = c.mark_length.ensures ∙ ap (λ t. begin_byte (chars t)) c.as_str.ensures.text in
    subst (IsCharBoundary text) (sym from) (marked-text text (IsUtf8-from_text text c.as_str.ensures.xml)).0

pub returns : goal.returns
returns c =
    let text = c.args.text.now in
    let from : c.mark_length.result ≡ begin_byte (chars text) = c.mark_length.ensures ∙ ap (λ t. begin_byte (chars t)) c.as_str.ensures.text in
    cut_list text c.mark_length.result c.in_ok-scanned.scanned (IsUtf8-from_text text c.as_str.ensures.xml) from c.in_ok-scanned.ensures
