use Rattle.std.proofs.Common.{inr, Err, MatchOption, ap, subst, ◌∙◌}
use Rattle.std.specs.Prelude.{map}
use Rattle.atl_cli.specs.Transform.{LongSource, Ended, IsWritten}
use Rattle.atl_cli.specs.Flat.{item, text_of}
use Rattle.atl_cli.proofs.Endings.{IfSome-map, IfSome-both, IfOk-map, after_fault, written_ends, NoElements, KeepsElements, other_source, many_objects, copied}
use Rattle.atl_cli.proofs.transform.run_rule.Goals as goal

pub returns-in-Err-clause-ended : goal.returns-in-Err-clause-ended
returns-in-Err-clause-ended g c words paths =
    let rule = c.args.rule.now in
    let t = c.args.paths.target in
    let s = c.args.paths.source in
    after_fault (λ r. Ended words (g.F.Files.held c.args.files.now) (g.F.Files.held c.read.new.self) (g.F.Files.faults c.args.files.now) (g.F.Files.faults c.read.new.self) r) c.in-Err.fault s c.after_read_fault.result c.after_read_fault.ensures.failed c.after_read_fault.ensures.too_big c.after_read_fault.ensures.memory
    (λ e. (c.in-Err.ensures.failed (ap Err e), c.in-Err.ensures.kept, IfSome-map _ (λ held p. inr (rule, t, p)) paths))
    (λ e. (c.in-Err.ensures.kept, IfSome-both _ (λ held p long. LongSource rule t s p (long (ap Err e))) paths c.in-Err.ensures.too_big))

pub returns-in_default-clause-ended : goal.returns-in_default-clause-ended
returns-in_default-clause-ended g c words paths =
    let rule = c.args.rule.now in
    let same = c.deref.ensures.value in
    let none = subst (λ o. MatchOption o (NoElements rule c.deref.result.now) (λ k. KeepsElements rule c.deref.result.now k.values k.count)) c.in_default.is c.in_ok-kept.ensures in
    (c.in-Ok.ensures.kept, other_source words _ rule c.args.paths.target c.args.paths.source c.in-Ok.bytes.items paths c.in-Ok.ensures.bytes c.in-Ok.ensures.within (subst (NoElements rule) same none))

pub returns-then-kept-gt-OBJECT_LIMIT-clause-ended : goal.returns-then-kept-gt-OBJECT_LIMIT-clause-ended
returns-then-kept-gt-OBJECT_LIMIT-clause-ended g c words paths =
    let rule = c.args.rule.now in
    let k = c.in-Some.kept in
    let kept = subst (λ o. MatchOption o (NoElements rule c.deref.result.now) (λ k. KeepsElements rule c.deref.result.now k.values k.count)) c.in-Some.is c.in_ok-kept.ensures in
    (c.in-Ok.ensures.kept, many_objects words _ rule c.args.paths.target c.args.paths.source c.in-Ok.bytes.items k.values k.count paths c.in-Ok.ensures.bytes c.in-Ok.ensures.within (subst (λ b. KeepsElements rule b k.values k.count) c.deref.ensures.value kept) c.if-kept-gt-OBJECT_LIMIT.true)

pub returns-clause-ended : goal.returns-clause-ended
returns-clause-ended g c words paths =
    let held = g.F.Files.held in
    let faults = g.F.Files.faults in
    let rule = c.args.rule.now in
    let k = c.in-Some.kept in
    let kept = subst (λ o. MatchOption o (NoElements rule c.deref.result.now) (λ k. KeepsElements rule c.deref.result.now k.values k.count)) c.in-Some.is c.in_ok-kept.ensures in
    let judged = copied words _ rule c.args.paths.target c.args.paths.source c.in-Ok.bytes.items k.values k.count c.in_ok-text.text paths c.in-Ok.ensures.bytes c.in-Ok.ensures.within
    (subst (λ b. KeepsElements rule b k.values k.count) c.deref.ensures.value kept) c.if-kept-gt-OBJECT_LIMIT.false (c.in_ok-text.ensures ∙ ap (λ l. text_of rule (map (item rule) l)) c.as_slice.ensures) in
    IfOk-map c.write_target.result
    (λ s w. written_ends words c.args.paths.target c.in_ok-text.text (held c.args.files.now) (held c.write_target.new.files) (faults c.args.files.now) (faults c.read.new.self) (faults c.write_target.new.files) s c.requires.target c.in-Ok.ensures.counted judged (subst (λ o. IsWritten c.args.paths.target c.in_ok-text.text o (held c.write_target.new.files) (faults c.read.new.self) (faults c.write_target.new.files) s) c.in-Ok.ensures.kept w))
    c.write_target.ensures.ended
