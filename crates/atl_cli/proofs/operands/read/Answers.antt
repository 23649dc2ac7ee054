use Rattle.std.proofs.Common.{◌≡◌, ◌∙◌, ◌⊎◌, Some, map, sym, ap, subst}
use Rattle.clap.specs.Words.{app_of}
use Rattle.clap.specs.Kinds.{Kinds, IsAmong}
use Rattle.clap.specs.Faults.{fault_of}
use Rattle.clap.specs.declared.error.kind.ErrorKind.{ErrorKind}
use Rattle.clap.specs.declared.error.kind.ErrorKind.TheVariants.{OutOfMemory}
use Rattle.atl_cli.proofs.Taking.{parsed, unparsed}
use Rattle.atl_cli.proofs.operands.read.Goals as goal

abbrev HasKindOf : ErrorKind → Kinds → Type 0
HasKindOf k kinds = (k ≡ OutOfMemory) ⊎ IsAmong k kinds

pub taken-requires : goal.taken-requires
taken-requires c =
    (parsed (app_of c.in_ok-command.command) (map (λ s. s.now) c.args.words.now) c.in-Ok.matches c.in_ok-command.ensures c.requires.words c.in-Ok.ensures.kinds c.in-Ok.ensures.matches).1

pub returns-in-Ok : goal.returns-in-Ok
returns-in-Ok c =
    let k = (parsed (app_of c.in_ok-command.command) (map (λ s. s.now) c.args.words.now) c.in-Ok.matches c.in_ok-command.ensures c.requires.words c.in-Ok.ensures.kinds c.in-Ok.ensures.matches).0 in
    ap (λ l. Some l) c.in_ok-taken-in-Ok.ensures ∙ sym k

pub returns : goal.returns
returns c =
    sym (unparsed (app_of c.in_ok-command.command) (map (λ s. s.now) c.args.words.now) c.kind.result c.in_ok-command.ensures c.requires.words c.requires.short
    (λ e. subst (λ (k : ErrorKind). HasKindOf k (fault_of (app_of c.in_ok-command.command) (map (λ s. s.now) c.args.words.now))) (sym c.kind.ensures) (c.in-Err.ensures.kinds e)) c.in_default.not-OutOfMemory)
