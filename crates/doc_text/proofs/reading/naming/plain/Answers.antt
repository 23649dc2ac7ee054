use Rattle.std.proofs.Common.{◌∙◌, sym, ap}
use Rattle.doc_text.specs.Raw.{called}
use Rattle.doc_text.specs.Nexts.{bearer_of}
use Rattle.doc_text.specs.State.{Goes, Naming}
use Rattle.doc_text.specs.Steps.{named}
use Rattle.std.specs.Prelude.{true}
use Rattle.doc_text.proofs.Moves.{name_colon, name_goes, name_over}
use Rattle.doc_text.proofs.reading.naming.plain.Goals as goal

pub returns-then-is_colon : goal.returns-then-is_colon
returns-then-is_colon c =
    name_colon (bearer_of c.args.bearer) c.args.at c.args.name c.args.symbol.kind c.args.symbol.at (sym c.is_colon.ensures ∙ c.if-is_colon.true)

pub returns-then-is_name : goal.returns-then-is_name
returns-then-is_name c =
    name_goes (bearer_of c.args.bearer) c.args.at c.args.name c.args.symbol.kind c.args.symbol.at (sym c.is_name.ensures ∙ c.if-is_name.true)
    ∙ ap (λ n. Goes (Naming (bearer_of c.args.bearer) c.args.at n)) (sym c.in_ok-longer.ensures)

pub returns : goal.returns
returns c =
    let over = name_over (bearer_of c.args.bearer) c.args.at c.args.name c.args.symbol.kind c.args.symbol.at (sym c.is_colon.ensures ∙ c.if-is_colon.false) (sym c.is_name.ensures ∙ c.if-is_name.false)
    ∙ ap (λ q. named true (bearer_of c.args.bearer) (called c.args.at q c.args.name) c.args.symbol.kind) (sym c.new.ensures) in
    rw over c.named.ensures
