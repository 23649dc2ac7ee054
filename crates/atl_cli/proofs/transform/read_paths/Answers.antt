use Rattle.atl_cli.proofs.transform.read_paths.Goals as goal

pub returns-in_default : goal.returns-in_default
returns-in_default c t s p = c.in_default.ensures t p.to_target

pub returns-in_default-path_of : goal.returns-in_default-path_of
returns-in_default-path_of c t s p = c.in_default-path_of.ensures s p.to_source

pub returns-in_default-path_of-2 : goal.returns-in_default-path_of-2
returns-in_default-path_of-2 c t s p = c.in_default-path_of-2.ensures p.to_target_metamodel.0 p.to_target_metamodel.1

pub returns-in_default-path_of-3 : goal.returns-in_default-path_of-3
returns-in_default-path_of-3 c t s p = c.in_default-path_of-3.ensures p.to_source_metamodel.0 p.to_source_metamodel.1
