use Rattle.std.proofs.Common.{◌≡◌, ◌++◌, ◌∙◌, ap}
use Rattle.doc_text.specs.Characters.{tail}
use Rattle.doc_text.specs.Cursors.{rest_at}
use Rattle.doc_text.specs.Sources.{coming}
use Rattle.doc_text.proofs.Placing.{at_end}
use Rattle.doc_text.proofs.cursor.Cursor.end.Goals as goal

pub returns : goal.returns
returns c =
    let cs = coming c.self.inside.source ++ tail c.self.inside.whole in
    let here : rest_at c.self.inside.line c.self.inside.column cs ≡ c.args.self.now = c.self.view_is in
    at_end c.self.inside.line c.self.inside.column cs (ap (λ r. r.symbols) here ∙ c.requires) ∙ ap (λ r. r.end) here
