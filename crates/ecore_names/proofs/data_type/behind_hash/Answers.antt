use Rattle.std.proofs.Common.{sym}
use Rattle.xmi_text.proofs.Cuts.{hash_cut, hash_none}
use Rattle.ecore_names.proofs.data_type.behind_hash.Goals as goal

pub returns-then-at-word : goal.returns-then-at-word
returns-then-at-word c = sym (hash_cut _ _ c.place_of-at.ensures.place)

pub returns : goal.returns
returns c = sym (hash_none _ _ c.place_of-at.ensures.place c.if-at-word.false)
