use Rattle.module_laws.proofs.Symbols.{shares}
use Rattle.module_laws.proofs.laws.marks_share_symbols.Goals as goal

pub returns : goal.returns
returns c = λ ts led. shares led ts
