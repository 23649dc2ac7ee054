use Rattle.std.proofs.Common.{inl, Err, Option, IfSome, MatchOption, List, ℕ, ap, sym, subst, refl}
use Rattle.atl_cli.specs.declared.one_rule.OneRule.{OneRule}
use Rattle.atl_cli.specs.Transform.{LongModule, ArePaths, HasPaths, Ended}
use Rattle.atl_cli.specs.OneRule.{IsModule}
use Rattle.atl_cli.specs.declared.words.Pair.{Pair}
use Rattle.atl_cli.specs.declared.transform.Paths.{Paths}
use Rattle.atl_cli.proofs.Endings.{IfSome-map, IfSome-always, IfOk-map, after_fault, Ended-earlier, space_of, other_module, other_names, has_module, has_paths, NoModule, NoPaths}
use Rattle.atl_cli.proofs.transform.run_request.Goals as goal

pub returns-in-Err-clause-ended : goal.returns-in-Err-clause-ended
returns-in-Err-clause-ended g c words asked =
    let r = c.args.request.now in
    after_fault (λ s. Ended words (g.F.Files.held c.args.files.now) (g.F.Files.held c.read.new.self) (g.F.Files.faults c.args.files.now) (g.F.Files.faults c.read.new.self) s) c.in-Err.fault r.module c.after_read_fault.result c.after_read_fault.ensures.failed c.after_read_fault.ensures.too_big c.after_read_fault.ensures.memory
    (λ e. (c.in-Err.ensures.failed (ap Err e), c.in-Err.ensures.kept, IfSome-always _ (λ held. inl (r, asked, refl))))
    (λ e. (c.in-Err.ensures.kept, IfSome-map _ (λ held long. LongModule r asked (long (ap Err e))) c.in-Err.ensures.too_big))

abbrev Read : List ℕ → Option OneRule → Type 0
Read bytes read = MatchOption read (NoModule bytes) (λ m. IsModule bytes m)

abbrev Located : OneRule → List Pair → Option Paths → Type 0
Located m pairs read = MatchOption read (NoPaths m pairs) (λ p. ArePaths m pairs p.target p.source)

pub returns-in_default-clause-ended : goal.returns-in_default-clause-ended
returns-in_default-clause-ended g c words asked =
    let none = subst (Read c.deref.result.now) c.in_default.is c.in_ok-rule.ensures in
    (c.in-Ok.ensures.kept, other_module words _ c.args.request.now c.in-Ok.bytes.items asked c.in-Ok.ensures.bytes c.in-Ok.ensures.within (subst NoModule c.deref.ensures.value none))

pub returns-in_default-2-clause-ended : goal.returns-in_default-2-clause-ended
returns-in_default-2-clause-ended g c words asked =
    let r = c.args.request.now in
    let m = c.in-Some.rule in
    let is = subst (Read c.deref.result.now) c.in-Some.is c.in_ok-rule.ensures in
    let none = subst (Located m c.as_slice.result.now) c.in_default-2.is c.in_ok-paths.ensures in (
      c.in-Ok.ensures.kept,
      other_names words _ r m (has_module words _ r m c.in-Ok.bytes.items asked c.in-Ok.ensures.bytes c.in-Ok.ensures.within (subst (λ b. IsModule b m) c.deref.ensures.value is)) (subst (NoPaths m) c.as_slice.ensures none),
    )

pub run_rule-requires-clause-names : goal.run_rule-requires-clause-names
run_rule-requires-clause-names g c = space_of c.deref.result.now c.in-Some.rule (subst (Read c.deref.result.now) c.in-Some.is c.in_ok-rule.ensures)

pub returns-clause-ended : goal.returns-clause-ended
returns-clause-ended g c words asked =
    let held = g.F.Files.held in
    let faults = g.F.Files.faults in
    let r = c.args.request.now in
    let m = c.in-Some.rule in
    let p = c.in-Some-2.paths in
    let is = subst (Read c.deref.result.now) c.in-Some.is c.in_ok-rule.ensures in
    let located = subst (Located m c.as_slice.result.now) c.in-Some-2.is c.in_ok-paths.ensures in
    let has = has_paths words (held c.args.files.now) r m p.target p.source
    (has_module words _ r m c.in-Ok.bytes.items asked c.in-Ok.ensures.bytes c.in-Ok.ensures.within (subst (λ b. IsModule b m) c.deref.ensures.value is))
    (subst (λ l. ArePaths m l p.target p.source) c.as_slice.ensures located) in
    IfOk-map c.run_rule.result
    (λ s e. Ended-earlier words (held c.args.files.now) (held c.read.new.self) (held c.run_rule.new.files) (faults c.args.files.now) (faults c.read.new.self) (faults c.run_rule.new.files) s c.in-Ok.ensures.kept c.in-Ok.ensures.counted e)
    (c.run_rule.ensures.ended words (subst (λ o. IfSome o (λ h. HasPaths words h m p.target p.source)) (sym c.in-Ok.ensures.kept) has))
