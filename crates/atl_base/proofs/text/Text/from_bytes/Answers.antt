use Rattle.atl_base.proofs.XmlTexts.{offence_of_front, offence_past_front}
use Rattle.atl_base.proofs.text.Text.from_bytes.Goals as goal

pub returns-in-Some-clause-refused : goal.returns-in-Some-clause-refused
returns-in-Some-clause-refused c = offence_of_front c.args.bytes.now c.utf8_front-front.result.now c.in-Some.at c.utf8_front-front.ensures c.in-Some.ensures

pub returns-then-front-bytes-clause-refused : goal.returns-then-front-bytes-clause-refused
returns-then-front-bytes-clause-refused c = offence_past_front c.args.bytes.now c.utf8_front-front.result.now c.utf8_front-front.ensures c.if-front-bytes.true c.in_default.ensures
