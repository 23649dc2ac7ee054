use Rattle.ecore_names.proofs.literals.literals_in.Goals as goal

pub returns : goal.returns
returns c = record { texts = c.in_ok-texts.ensures; places = c.in_ok-places.ensures; begins = c.in_ok-begins.ensures }
