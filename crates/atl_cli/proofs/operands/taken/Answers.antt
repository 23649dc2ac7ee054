use Rattle.std.proofs.Common.{◌≡◌, ◌∙◌, map, codes, ap, sym, subst}
use Rattle.std.specs.List.{AllByRecursion}
use Rattle.std.proofs.lemmas.Result.{IfOk-weaker}
use Rattle.std.proofs.lemmas.List.Elements.{All-from_recursion}
use Rattle.atl_base.specs.XmlText.{IsXmlText}
use Rattle.clap.specs.Words.{all_of, rows_of, found_of}
use Rattle.clap.proofs.WalkLemmas.{raw_values-rows}
use Rattle.atl_cli.specs.OperandCommand.{listed}
use Rattle.atl_cli.proofs.operands.taken.Goals as goal

pub texts-requires : goal.texts-requires
texts-requires c =
    let same : listed (all_of (codes "operands") (rows_of (found_of c.args.matches.now))) ≡ map (λ s. s.now) c.in-Some.values.now =
    ap listed (sym (c.in-Some.ensures ∙ raw_values-rows (found_of c.args.matches.now) (codes "operands"))) in
    All-from_recursion IsXmlText _ (subst (λ l. AllByRecursion IsXmlText l) same c.requires)

pub returns-in-Some : goal.returns-in-Some
returns-in-Some c =
    let same : listed (all_of (codes "operands") (rows_of (found_of c.args.matches.now))) ≡ map (λ s. s.now) c.in-Some.values.now =
    ap listed (sym (c.in-Some.ensures ∙ raw_values-rows (found_of c.args.matches.now) (codes "operands"))) in
    IfOk-weaker c.texts.result _ _ (λ t h. h ∙ sym same) c.texts.ensures

pub returns-in-None : goal.returns-in-None
returns-in-None c =
    c.new.ensures ∙ ap listed (c.in-None.ensures ∙ raw_values-rows (found_of c.args.matches.now) (codes "operands"))
