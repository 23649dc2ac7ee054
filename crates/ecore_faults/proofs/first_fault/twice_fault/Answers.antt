use Rattle.std.proofs.Common.{sym, ap, ◌∙◌}
use Rattle.std.specs.Prelude.{option_map}
use Rattle.ecore_outline.specs.Outline.{name_of}
use Rattle.ecore_outline.specs.Entries.{entry_of, entries_of}
use Rattle.ecore_rows.specs.Rows.{twice_seen}
use Rattle.ecore_faults.specs.Faults.{when, or_else, TwiceName}
use Rattle.ecore_faults.specs.Seen.{repeats}
use Rattle.ecore_faults.specs.FoundFaults.{fault_in}
use Rattle.ecore_faults.proofs.SeenBefore.{class_repeats, other_repeats}
use Rattle.ecore_faults.proofs.first_fault.twice_fault.Goals as goal

pub returns-then-is_class : goal.returns-then-is_class
returns-then-is_class c =
    let F = entries_of c.args.file.now in
    let B = entries_of c.args.before.now in
    let e = entry_of c.args.entry.now in
    class_repeats F B (fault_in c.in_ok-fault.fault) e (sym c.is_class.ensures ∙ c.if-is_class.true)
    (c.in_ok-fault.ensures
    ∙ ap (λ b. or_else (when b TwiceName (name_of e)) (option_map (λ n. (TwiceName, n)) (twice_seen F c.args.counts.now.classes))) c.requires.repeated
    ∙ ap (λ k. or_else (when (repeats B e) TwiceName (name_of e)) (option_map (λ n. (TwiceName, n)) (twice_seen F k))) c.requires.counts.classes)

pub returns : goal.returns
returns c =
    let e = entry_of c.args.entry.now in
    c.when.ensures
    ∙ ap (when c.args.repeated TwiceName) (c.as_bytes.ensures.value ∙ c.name_of-name.ensures)
    ∙ ap (λ b. when b TwiceName (name_of e)) c.requires.repeated
    ∙ other_repeats (entries_of c.args.file.now) (entries_of c.args.before.now) e (sym c.is_class.ensures ∙ c.if-is_class.false)
