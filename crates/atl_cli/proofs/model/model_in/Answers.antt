use Rattle.atl_cli.proofs.ModelSteps.{is_document, model_file}
use Rattle.atl_cli.proofs.model.model_in.Goals as goal

pub returns-in-Ok-clause-answer : goal.returns-in-Ok-clause-answer
returns-in-Ok-clause-answer c = model_file c.args.meta.value c.args.bytes.now c.in-Ok.doc (is_document c.args.bytes.now c.in-Ok.doc c.in-Ok.ensures) c.read_model.result c.read_model.ensures.answer
