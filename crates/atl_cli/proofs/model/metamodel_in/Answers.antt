use Rattle.atl_cli.proofs.ModelSteps.{is_document, short_outline, meta_file}
use Rattle.atl_cli.proofs.model.metamodel_in.Goals as goal

pub read_metamodel-requires : goal.read_metamodel-requires
read_metamodel-requires c = short_outline c.args.bytes.now c.in-Ok.doc c.requires c.in-Ok.ensures

pub returns-in-Ok : goal.returns-in-Ok
returns-in-Ok c = meta_file c.args.bytes.now c.in-Ok.doc (is_document c.args.bytes.now c.in-Ok.doc c.in-Ok.ensures) c.read_metamodel.result c.read_metamodel.ensures
