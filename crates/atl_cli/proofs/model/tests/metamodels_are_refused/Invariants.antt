use Rattle.atl_cli.proofs.model.tests.metamodels_are_refused.Given as goal

-- a ledger of its own for the steps
abbrev pub ghosts-holds : goal.ghosts-holds
ghosts-holds a b = record { name = b.blank.name; parts = b.blank.parts }
