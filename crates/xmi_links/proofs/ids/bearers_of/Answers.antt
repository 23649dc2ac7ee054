use Rattle.std.proofs.Common.{ap, ◌∙◌, None}
use Rattle.xmi_links.specs.Found.{borne_by}
use Rattle.xmi_links.proofs.Borne.{borne_is}
use Rattle.xmi_links.proofs.Steps.{if_ok}
use Rattle.xmi_links.proofs.ids.bearers_of.Goals as goal

pub returns : goal.returns
returns c = if_ok c.table_of.result (λ table h m file same q. h q ∙ ap (borne_by q None) same ∙ borne_is q m file) c.table_of.ensures
