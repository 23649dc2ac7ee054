use Rattle.atl_cli.proofs.format.tests.rules_are_counted.Given as goal

-- a ledger of its own for the steps
abbrev pub ghosts-number_of : goal.ghosts-number_of
ghosts-number_of a b = record { name = b.blank.name; parts = b.blank.parts }
