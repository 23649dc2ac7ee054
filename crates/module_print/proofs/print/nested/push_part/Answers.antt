use Rattle.std.proofs.Common.{refl}
use Rattle.std.specs.Prelude.{reverse, decimal, codes}
use Rattle.module_print.specs.declared.print.part.Part.TheVariants as P
use Rattle.module_print.specs.Printed.{sign_text, keyword_text, words_text, name_text}
use Rattle.module_print.proofs.Opened.{OnOk-map, token_printed, token_less, opened_text, opened_less}
use Rattle.module_print.proofs.print.nested.push_part.Goals as goal

pub returns-in-Fixed-clause-text : goal.returns-in-Fixed-clause-text
returns-in-Fixed-clause-text c = OnOk-map c.push_sign.result (λ e. rw c.in-Fixed.is (token_printed _ _ (sign_text c.in-Fixed.sign) _ e)) c.push_sign.ensures

pub returns-in-Fixed-clause-less : goal.returns-in-Fixed-clause-less
returns-in-Fixed-clause-less c = OnOk-map c.push_sign.result (λ e. rw c.in-Fixed.is (token_less (P.Fixed c.in-Fixed.sign) (reverse c.args.stack.now.items) refl refl)) c.push_sign.ensures

pub returns-in-Keyword-clause-text : goal.returns-in-Keyword-clause-text
returns-in-Keyword-clause-text c = OnOk-map c.push_keyword.result (λ e. rw c.in-Keyword.is (token_printed _ _ (keyword_text c.in-Keyword.keyword) _ e)) c.push_keyword.ensures

pub returns-in-Keyword-clause-less : goal.returns-in-Keyword-clause-less
returns-in-Keyword-clause-less c = OnOk-map c.push_keyword.result (λ e. rw c.in-Keyword.is (token_less (P.Keyword c.in-Keyword.keyword) (reverse c.args.stack.now.items) refl refl)) c.push_keyword.ensures

pub returns-in-Number-clause-text : goal.returns-in-Number-clause-text
returns-in-Number-clause-text c = OnOk-map c.push_number.result (λ e. rw c.in-Number.is (token_printed _ _ (decimal c.in-Number.number) _ e)) c.push_number.ensures

pub returns-in-Number-clause-less : goal.returns-in-Number-clause-less
returns-in-Number-clause-less c = OnOk-map c.push_number.result (λ e. rw c.in-Number.is (token_less (P.Number c.in-Number.number) (reverse c.args.stack.now.items) refl refl)) c.push_number.ensures

pub returns-in-Words-clause-text : goal.returns-in-Words-clause-text
returns-in-Words-clause-text c = OnOk-map c.push_words.result (λ e. rw c.in-Words.is (token_printed _ _ (words_text c.in-Words.words.now) _ e)) c.push_words.ensures

pub returns-in-Words-clause-less : goal.returns-in-Words-clause-less
returns-in-Words-clause-less c = OnOk-map c.push_words.result (λ e. rw c.in-Words.is (token_less (P.Words c.in-Words.words) (reverse c.args.stack.now.items) refl refl)) c.push_words.ensures

pub returns-in-Name-clause-text : goal.returns-in-Name-clause-text
returns-in-Name-clause-text c = OnOk-map c.push_name.result (λ e. rw c.in-Name.is (token_printed _ _ (name_text c.in-Name.name.now) _ e)) c.push_name.ensures

pub returns-in-Name-clause-less : goal.returns-in-Name-clause-less
returns-in-Name-clause-less c = OnOk-map c.push_name.result (λ e. rw c.in-Name.is (token_less (P.Name c.in-Name.name) (reverse c.args.stack.now.items) refl refl)) c.push_name.ensures

pub returns-in-Iterate-clause-text : goal.returns-in-Iterate-clause-text
returns-in-Iterate-clause-text c = OnOk-map c.push_ascii.result (λ e. rw c.in-Iterate.is (token_printed _ _ (codes "iterate") _ e)) c.push_ascii.ensures.ok

pub returns-in-Iterate-clause-less : goal.returns-in-Iterate-clause-less
returns-in-Iterate-clause-less c = OnOk-map c.push_ascii.result (λ e. rw c.in-Iterate.is (token_less P.Iterate (reverse c.args.stack.now.items) refl refl)) c.push_ascii.ensures.ok

pub returns-in-Kind-clause-text : goal.returns-in-Kind-clause-text
returns-in-Kind-clause-text c = OnOk-map c.open_kind.result (λ o. rw c.in-Kind.is (opened_text (P.Kind c.in-Kind.kind) _ _ _ c.args.out.now (λ rest. refl) o)) c.open_kind.ensures

pub returns-in-Kind-clause-less : goal.returns-in-Kind-clause-less
returns-in-Kind-clause-less c = OnOk-map c.open_kind.result (λ o. rw c.in-Kind.is (opened_less (P.Kind c.in-Kind.kind) _ _ _ (λ rest. refl) refl o)) c.open_kind.ensures

pub returns-in-Expression-clause-text : goal.returns-in-Expression-clause-text
returns-in-Expression-clause-text c = OnOk-map c.open_expression.result (λ o. rw c.in-Expression.is (opened_text (P.Expression c.in-Expression.expr c.in-Expression.least c.in-Expression.first) _ _ _ c.args.out.now (λ rest. refl) o)) c.open_expression.ensures

pub returns-in-Expression-clause-less : goal.returns-in-Expression-clause-less
returns-in-Expression-clause-less c = OnOk-map c.open_expression.result (λ o. rw c.in-Expression.is (opened_less (P.Expression c.in-Expression.expr c.in-Expression.least c.in-Expression.first) _ _ _ (λ rest. refl) refl o)) c.open_expression.ensures

pub returns-in-Elements-clause-text : goal.returns-in-Elements-clause-text
returns-in-Elements-clause-text c = OnOk-map c.open_elements.result (λ o. rw c.in-Elements.is (opened_text (P.Elements c.in-Elements.elements) _ _ _ c.args.out.now (λ rest. refl) o)) c.open_elements.ensures

pub returns-in-Elements-clause-less : goal.returns-in-Elements-clause-less
returns-in-Elements-clause-less c = OnOk-map c.open_elements.result (λ o. rw c.in-Elements.is (opened_less (P.Elements c.in-Elements.elements) _ _ _ (λ rest. refl) refl o)) c.open_elements.ensures

pub returns-in-Others-clause-text : goal.returns-in-Others-clause-text
returns-in-Others-clause-text c = OnOk-map c.open_others.result (λ o. rw c.in-Others.is (opened_text (P.Others c.in-Others.elements) _ _ _ c.args.out.now (λ rest. refl) o)) c.open_others.ensures

pub returns-in-Others-clause-less : goal.returns-in-Others-clause-less
returns-in-Others-clause-less c = OnOk-map c.open_others.result (λ o. rw c.in-Others.is (opened_less (P.Others c.in-Others.elements) _ _ _ (λ rest. refl) refl o)) c.open_others.ensures

pub returns-in-Statements-clause-text : goal.returns-in-Statements-clause-text
returns-in-Statements-clause-text c = OnOk-map c.open_statements.result (λ o. rw c.in-Statements.is (opened_text (P.Statements c.in-Statements.stats) _ _ _ c.args.out.now (λ rest. refl) o)) c.open_statements.ensures

pub returns-in-Statements-clause-less : goal.returns-in-Statements-clause-less
returns-in-Statements-clause-less c = OnOk-map c.open_statements.result (λ o. rw c.in-Statements.is (opened_less (P.Statements c.in-Statements.stats) _ _ _ (λ rest. refl) refl o)) c.open_statements.ensures
