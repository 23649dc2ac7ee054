use Rattle.atl_cli.proofs.model.tests.words_are_judged.Given as goal

-- a ledger of its own for the steps
abbrev pub ghosts-holds : goal.ghosts-holds
ghosts-holds a b = record { name = b.blank.name; parts = b.blank.parts }
