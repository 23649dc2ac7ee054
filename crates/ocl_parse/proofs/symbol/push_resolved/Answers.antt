use Rattle.std.proofs.Common.{◌∙◌, ◌++◌, false, sym, ap, encode_utf8}
use Rattle.ocl_parse.specs.Symbols.{resolved_from}
use Rattle.ocl_parse.proofs.Resolving.{resolved_behind, resolved_plain}
use Rattle.ocl_parse.proofs.symbol.push_resolved.Goals as goal

pub returns-then-behind : goal.returns-then-behind
returns-then-behind c = λ rest.
    ap (λ b. c.args.words.now ++ resolved_from b (encode_utf8 c.args.c ++ rest)) c.if-behind.true
    ∙ resolved_behind c.args.words.now c.args.c rest
    ∙ ap (λ l. l ++ resolved_from false rest) (ap (λ k. c.args.words.now ++ encode_utf8 k) (sym c.escaped.ensures) ∙ sym c.in_ok-push_char.ensures.ok)

pub returns-in_ok-push_char-2 : goal.returns-in_ok-push_char-2
returns-in_ok-push_char-2 c = λ rest.
    ap (λ b. c.args.words.now ++ resolved_from b (encode_utf8 c.args.c ++ rest)) c.if-behind.false
    ∙ resolved_plain c.args.words.now c.args.c rest c.if-c-eq92.false c.if-c-ne39.true
    ∙ ap (λ l. l ++ resolved_from false rest) (sym c.in_ok-push_char-2.ensures.ok)
