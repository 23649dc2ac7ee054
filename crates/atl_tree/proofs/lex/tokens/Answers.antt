use Rattle.std.proofs.Common.{◌≡◌, false, None, Some, sym, ap, subst, ◌∙◌}
use Rattle.std.specs.Str.{IsCharBoundary, chars}
use Rattle.atl_base.proofs.XmlTexts.{IsUtf8-from_text}
use Rattle.atl_tree.specs.Tokens.{begin_byte, verdict, first_fault, tokens_of}
use Rattle.atl_tree.proofs.Told.{marked-text, told, fails}
use Rattle.atl_tree.proofs.lex.tokens.Goals as goal

pub scan-requires-clause-edge : goal.scan-requires-clause-edge
scan-requires-clause-edge c =
    let text = c.args.text.now in
    let from : c.mark_length.result ≡ begin_byte (chars text) = c.mark_length.ensures ∙ ap (λ t. begin_byte (chars t)) c.as_str.ensures.text in
    subst (IsCharBoundary text) (sym from) (marked-text text (IsUtf8-from_text text c.as_str.ensures.xml)).0

pub returns-in-Some : goal.returns-in-Some
returns-in-Some c =
    let text = c.args.text.now in
    let s = c.in_ok-scanned.scanned in
    let from : c.mark_length.result ≡ begin_byte (chars text) = c.mark_length.ensures ∙ ap (λ t. begin_byte (chars t)) c.as_str.ensures.text in
    let fault : first_fault false s.list ≡ Some c.in-Some.refusal = ap (first_fault false) (sym c.as_slice.ensures) ∙ sym c.in-Some.ensures in
    fails c.in-Some.refusal (tokens_of (chars text))
    (told text c.mark_length.result s (IsUtf8-from_text text c.as_str.ensures.xml) from c.in_ok-scanned.ensures ∙ ap (λ o. verdict o s.stop s.list s.place) fault)

pub returns-in-Over : goal.returns-in-Over
returns-in-Over c =
    let text = c.args.text.now in
    let s = c.in_ok-scanned.scanned in
    let from : c.mark_length.result ≡ begin_byte (chars text) = c.mark_length.ensures ∙ ap (λ t. begin_byte (chars t)) c.as_str.ensures.text in
    let fault : first_fault false s.list ≡ None = ap (first_fault false) (sym c.as_slice.ensures) ∙ sym c.in_default.ensures in
    told text c.mark_length.result s (IsUtf8-from_text text c.as_str.ensures.xml) from c.in_ok-scanned.ensures
    ∙ ap (λ o. verdict o s.stop s.list s.place) fault ∙ ap (λ h. verdict None h s.list s.place) c.in-Over.is

pub returns-in-Bad : goal.returns-in-Bad
returns-in-Bad c =
    let text = c.args.text.now in
    let s = c.in_ok-scanned.scanned in
    let from : c.mark_length.result ≡ begin_byte (chars text) = c.mark_length.ensures ∙ ap (λ t. begin_byte (chars t)) c.as_str.ensures.text in
    let fault : first_fault false s.list ≡ None = ap (first_fault false) (sym c.as_slice.ensures) ∙ sym c.in_default.ensures in
    told text c.mark_length.result s (IsUtf8-from_text text c.as_str.ensures.xml) from c.in_ok-scanned.ensures
    ∙ ap (λ o. verdict o s.stop s.list s.place) fault ∙ ap (λ h. verdict None h s.list s.place) c.in-Bad.is

pub returns-in-Open : goal.returns-in-Open
returns-in-Open c =
    let text = c.args.text.now in
    let s = c.in_ok-scanned.scanned in
    let from : c.mark_length.result ≡ begin_byte (chars text) = c.mark_length.ensures ∙ ap (λ t. begin_byte (chars t)) c.as_str.ensures.text in
    let fault : first_fault false s.list ≡ None = ap (first_fault false) (sym c.as_slice.ensures) ∙ sym c.in_default.ensures in
    told text c.mark_length.result s (IsUtf8-from_text text c.as_str.ensures.xml) from c.in_ok-scanned.ensures
    ∙ ap (λ o. verdict o s.stop s.list s.place) fault ∙ ap (λ h. verdict None h s.list s.place) c.in-Open.is
