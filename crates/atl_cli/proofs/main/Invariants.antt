use Rattle.atl_cli.proofs.main.Given as goal

-- a ledger of its own for the steps
abbrev pub ghosts-run : goal.ghosts-run
ghosts-run a = record { name = a.blank.name; parts = a.blank.parts }
