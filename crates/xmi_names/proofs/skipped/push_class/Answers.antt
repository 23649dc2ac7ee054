use Rattle.std.proofs.Common.{◌≡◌, ◌<◌, length, sym, ap, ◌∙◌, subst}
use Rattle.std.specs.Prelude.{◌==◌, ◌&&◌, ◌||◌, flat_map}
use Rattle.std.specs.List.{list_any}
use Rattle.std.proofs.lemmas.List.Folds.{list_any-append}
use Rattle.atl_base.specs.declared.numbers.ClassId.{ClassId}
use Rattle.ecore_meta.specs.Order.{class_no}
use Rattle.xmi_text.specs.Keys.{is_key, keys_of}
use Rattle.xmi_names.specs.Names.{class_at}
use Rattle.xmi_names.specs.Tables.{has_skipped, keyed, names_in}
use Rattle.xmi_names.proofs.SkippedLaws.{at_same, class_is, class_sees, kept, no_class, on_ok}
use Rattle.xmi_names.proofs.skipped.push_class.Goals as goal

pub returns-in-Some : goal.returns-in-Some
returns-in-Some c =
    let m = c.args.meta.now in
    let class : ClassId = c.in-Some.class in
    let here : class ≡ class_no c.args.place = class_is c.args.place class (sym c.class_at.ensures ∙ c.in-Some.is) in
    let within : class.0 < length m.classes = subst (λ (k : ClassId). k.0 < length m.classes) (sym here) c.requires.within in
    let old = keys_of c.args.keys.now.items in
    on_ok c.push_seen.result
    (λ told n q l. ap (list_any (is_key n q)) told
    ∙ list_any-append (is_key n q) old (flat_map (λ d. keyed c.args.place (names_in c.args.rows.now d)) c.conformed.result.now)
    ∙ ap (λ b. list_any (is_key n q) old || b)
    (subst (λ (k : ClassId). list_any (is_key n q) (flat_map (λ d. keyed k.0 (names_in c.args.rows.now d)) c.conformed.result.now) ≡ (k.0 == n && has_skipped m k q)) here
    (class_sees m c.requires.valid c.args.rows.now c.requires.rows class within c.conformed.result.now c.conformed.ensures.each n q)
    ∙ at_same (λ k. has_skipped m (class_no k) q) c.args.place n))
    c.push_seen.ensures

pub returns-in-None : goal.returns-in-None
returns-in-None c = λ n q l.
    sym (kept (list_any (is_key n q) (keys_of c.args.keys.now.items)) c.args.place n (has_skipped c.args.meta.now (class_no n) q)
    (λ e. no_class n (ap class_at (sym e) ∙ sym c.class_at.ensures ∙ c.in-None.is) l))
