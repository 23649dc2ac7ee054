use Rattle.std.proofs.Common.{◌≡◌, codes, length, true, false, refl, sym, ap, ◌∙◌, ◌==◌}
use Rattle.std.specs.Prelude.{map, reverse}
use Rattle.std.proofs.lemmas.Bool.{eqb-true}
use Rattle.doc_text.specs.Pending.{pending}
use Rattle.doc_text.specs.Written.{written_child, lone_text}
use Rattle.doc_text.proofs.Opened.{OnOk-map, opened, written_empty, written_text, joined, begun}
use Rattle.doc_text.proofs.write.push_start.Goals as goal

pub returns-then-is_empty-clause-written : goal.returns-then-is_empty-clause-written
returns-then-is_empty-clause-written c base d =
    let ds = c.args.declared.now in
    let e = c.args.element.now in
    let none : length e.children ≡ 0 = ap length (sym c.as_slice-children.ensures) ∙ eqb-true _ _ (sym c.is_empty.ensures ∙ c.if-is_empty.true) in
    OnOk-map c.push_ascii.result
    (λ is. joined c.args.out.now c.push_opening.new.out c.push_ascii.new.self (opened ds e c.args.depth) (codes "/>\n") _ (pending ds base (reverse c.args.stack.now.items)) c.in_ok-push_opening.ensures is (written_empty ds e c.args.depth none))
    c.push_ascii.ensures.ok

pub returns-in-Some-clause-written : goal.returns-in-Some-clause-written
returns-in-Some-clause-written c base d =
    let ds = c.args.declared.now in
    let e = c.args.element.now in
    let alone = c.in-Some.ensures ds ∙ ap (λ l. lone_text (map (written_child ds) l)) c.as_slice-children.ensures in
    OnOk-map c.push_lone_text.result
    (λ is. joined c.args.out.now c.push_opening.new.out c.push_lone_text.new.out (opened ds e c.args.depth) _ _ (pending ds base (reverse c.args.stack.now.items)) c.in_ok-push_opening.ensures is (written_text ds e c.args.depth c.in-Some.text.now alone))
    c.push_lone_text.ensures

pub returns-clause-written : goal.returns-clause-written
returns-clause-written c base d =
    let ds = c.args.declared.now in
    let e = c.args.element.now in
    begun ds base c.args.depth e (record { element = c.args.element; next = 0 }) c.args.stack.now.items c.push.new.self.items c.args.out.now c.push_opening.new.out c.push_ascii-2.new.self refl refl c.in_ok-push.ensures.items d
    (λ h. let both : true ≡ false = sym (ap (λ n. n == 0) h) ∙ ap (λ l. length l == 0) (sym c.as_slice-children.ensures) ∙ sym c.is_empty.ensures ∙ c.if-is_empty.false in cc)
    (c.in_default.ensures ds ∙ ap (λ l. lone_text (map (written_child ds) l)) c.as_slice-children.ensures)
    c.in_ok-push_opening.ensures c.in_ok-push_ascii.ensures.ok
