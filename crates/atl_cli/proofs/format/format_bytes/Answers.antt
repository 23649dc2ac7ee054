use Rattle.std.proofs.Common.{◌∙◌, take, ap, sym, subst}
use Rattle.std.specs.Str.{chars}
use Rattle.std.proofs.lemmas.Result.{IfOk-weaker}
use Rattle.module_parse.specs.Reading.{module_of_text}
use Rattle.atl_cli.specs.declared.status.Status.TheVariants.{Syntax}
use Rattle.atl_cli.specs.declared.syntax.SyntaxKind.TheVariants.{BadByte}
use Rattle.atl_cli.specs.Format.{Formats, IsDocument, NoText, IsText, place_behind, text_outcome}
use Rattle.atl_cli.specs.Outcome.{Ends}
use Rattle.atl_cli.proofs.format.format_bytes.Goals as goal

pub returns-then-is_document : goal.returns-then-is_document
returns-then-is_document c = IsDocument c.requires (sym c.if-is_document.ensures)

pub returns-in-Ok : goal.returns-in-Ok
returns-in-Ok c =
    let text = c.in-Ok.ensures.ok in
    IfOk-weaker c.format_text.result _ _
    (λ e h. subst (λ o. Formats c.args.bytes.now o) (sym (h ∙ ap (λ l. text_outcome (module_of_text (chars l))) text.0)) (IsText c.requires (sym c.if-is_document.ensures) text.1))
    c.format_text.ensures

pub returns-in-Err-BadByte : goal.returns-in-Err-BadByte
returns-in-Err-BadByte c =
    let first = (rw c.in-Err-BadByte.field-0-is at c.in-Err-BadByte.ensures).refused in
    let is = c.bad_byte.ensures ∙ ap (λ n. Syntax BadByte (place_behind (take n c.args.bytes.now))) c.in-Err-BadByte.at-is in
    subst (λ s. Formats c.args.bytes.now (Ends s)) (sym is) (NoText c.requires (sym c.if-is_document.ensures) c.in-Err-BadByte.at first)
