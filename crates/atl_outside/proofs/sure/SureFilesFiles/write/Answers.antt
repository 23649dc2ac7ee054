use Rattle.std.proofs.Common.{◌∙◌, ap}
use Rattle.atl_outside.specs.Held.{content_of}
use Rattle.atl_outside.specs.Contents.{content_of-with_content_other}
use Rattle.atl_outside.proofs.sure.SureFilesFiles.write.Goals as goal

pub returns-clause-elsewhere : goal.returns-clause-elsewhere
returns-clause-elsewhere c = λ other apart.
    ap (λ held. content_of held other) c.in_ok-set.ensures.ok
    ∙ content_of-with_content_other c.self.inside.table c.args.path.now c.args.bytes.now other apart
    ∙ ap (λ held. content_of held other) c.self.view_is
