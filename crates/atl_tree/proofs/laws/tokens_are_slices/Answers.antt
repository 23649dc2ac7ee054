use Rattle.atl_base.proofs.XmlTexts.{IsUtf8-from_text}
use Rattle.atl_tree.proofs.Fronts.{slices}
use Rattle.atl_tree.proofs.laws.tokens_are_slices.Goals as goal

pub returns : goal.returns
returns c = λ text ts x h. slices text ts (IsUtf8-from_text text x) h
