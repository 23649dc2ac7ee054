use Rattle.std.specs.Str.{chars}
use Rattle.atl_tree.specs.Front.{front_of}
use Rattle.module_parse.proofs.Passing.{parsed_by, refused_by}
use Rattle.module_parse.proofs.parse.parse_module.Goals as goal

pub returns-in-Ok : goal.returns-in-Ok
returns-in-Ok c =
    parsed_by (front_of (chars c.args.text.now)) _ c.in-Ok.read _ c.run.result c.in-Ok.ensures c.as_slice.ensures c.run.ensures

pub returns-in-Err : goal.returns-in-Err
returns-in-Err c =
    refused_by (front_of (chars c.args.text.now)) c.in-Err.refusal _ c.first_refusal.result c.in-Err.ensures c.first_refusal.ensures
