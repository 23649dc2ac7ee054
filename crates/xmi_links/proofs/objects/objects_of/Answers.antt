use Rattle.std.proofs.Common.{◌≡◌, ℕ, ◌<◌, length, sym, ap, subst, ◌∙◌, arith, add-one}
use Rattle.ecore_meta.specs.declared.parts.Parts.{Parts}
use Rattle.ecore_meta.specs.Valid.{IsMetamodel}
use Rattle.model_store.specs.Contents.{Contents}
use Rattle.xmi_models.specs.Faults.{objects}
use Rattle.xmi_models.specs.Entries.{entries_of}
use Rattle.xmi_links.specs.References.{roots_from}
use Rattle.xmi_links.specs.Stages.{built, drafted_to, raw_slot, with_defaults}
use Rattle.xmi_links.proofs.Building.{length_by, no}
use Rattle.xmi_links.proofs.Defaulting.{defaults_all, defaults_none, defaults_step}
use Rattle.xmi_links.proofs.objects.objects_of.Goals as goal

pub loop-number-init : goal.loop-number-init
loop-number-init c =
    let valid : IsMetamodel c.args.meta.now.value = subst IsMetamodel c.deref.ensures c.parts.ensures.valid in
    c.in_ok-sketch.ensures ∙ defaults_none c.args.meta.now.value valid (entries_of c.args.file.now)

pub loop-number-preserved : goal.loop-number-preserved
loop-number-preserved c =
    let meta : Parts = c.args.meta.now.value in
    let file = entries_of c.args.file.now in
    let n : ℕ = c.loop-number.number in
    let valid : IsMetamodel meta = subst IsMetamodel c.deref.ensures c.parts.ensures.valid in
    let many : c.given-number-end.result ≡ length (objects file) =
    c.given-number-end.ensures ∙ ap (λ (m : Contents). length m.objects) c.in_ok-sketch.ensures ∙ length_by meta (raw_slot meta file) 0 (objects file) in
    let within : n < length (objects file) = omega (arith, many, c.loop-number-test.true) in
    c.in_ok-push_defaults.ensures
    ∙ ap (λ (m : Parts). with_defaults m (no n) c.loop-number.sketch) c.deref-in-loop-number.ensures
    ∙ ap (with_defaults meta (no n)) c.loop-number.invariant
    ∙ defaults_step meta valid file n within
    ∙ ap (λ k. built meta (drafted_to meta file k) (objects file) (roots_from 0 (objects file))) (sym (add-one n))

pub returns : goal.returns
returns c =
    let meta : Parts = c.args.meta.now.value in
    let file = entries_of c.args.file.now in
    let n : ℕ = c.loop-number.number in
    let valid : IsMetamodel meta = subst IsMetamodel c.deref.ensures c.parts.ensures.valid in
    let many : c.given-number-end.result ≡ length (objects file) =
    c.given-number-end.ensures ∙ ap (λ (m : Contents). length m.objects) c.in_ok-sketch.ensures ∙ length_by meta (raw_slot meta file) 0 (objects file) in
    let all : n ≡ length (objects file) = omega (arith, many, c.loop-number-test.false, c.loop-number.auto.number-end) in
    c.loop-number.invariant
    ∙ ap (λ k. built meta (drafted_to meta file k) (objects file) (roots_from 0 (objects file))) all
    ∙ defaults_all meta valid file
