use Rattle.std.proofs.Common.{take, sym, ap, ◌∙◌}
use Rattle.xmi_text.proofs.Cuts.{file_cut}
use Rattle.ecore_names.proofs.data_type.file_of.Goals as goal

pub returns : goal.returns
returns c = ap (λ k. take k c.args.word.now) c.place_of-at.ensures.place ∙ sym (file_cut c.args.word.now)
