use Rattle.std.proofs.Common.{ap, ◌∙◌}
use Rattle.std.specs.Prelude.{is_some}
use Rattle.ecore_outline.specs.Entries.{entries_of}
use Rattle.ecore_names.proofs.LiteralKeys.{has_literal_is}
use Rattle.ecore_names.proofs.literals.is_text.Goals as goal

pub returns : goal.returns
returns c = c.is_some.ensures ∙ ap is_some c.first_place-place.ensures ∙ has_literal_is c.args.enumeration c.args.text.now (entries_of c.args.entries.now) c.args.table.now c.requires
