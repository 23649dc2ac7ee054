use Rattle.std.proofs.Common.{ℕ, map, sym, ap, ◌∙◌}
use Rattle.std.specs.Prelude.{Option, position}
use Rattle.ecore_meta.specs.declared.parts.Parts.{Parts}
use Rattle.xmi_text.specs.Keys.{place_of}
use Rattle.xmi_text.specs.Options.{then_}
use Rattle.xmi_names.specs.Names.{is_class_named}
use Rattle.xmi_names.specs.Tables.{class_key}
use Rattle.xmi_names.proofs.TableLaws.{class_found}
use Rattle.xmi_names.proofs.vocabulary.Vocabulary.place_named.Goals as goal

pub returns-in-Some : goal.returns-in-Some
returns-in-Some c =
    let m = c.self.inside.meta.now in
    let space = c.args.space.now in
    let name = c.args.name.now in
    let tables = c.self.invariant in
    c.first_place-in-Some.ensures
    ∙ tables.classes c.in-Some.number name
    ∙ sym (class_found m tables.valid.uris_differ space name
    ∙ ap (λ (o : Option ℕ). then_ o (λ number. place_of number name (map class_key m.classes))) (sym (tables.packages 0 space) ∙ sym c.first_place.ensures ∙ c.in-Some.is))
    ∙ ap (λ (p : Parts). position (is_class_named p space name) p.classes) c.self.view_is

pub returns-in-None : goal.returns-in-None
returns-in-None c =
    let m = c.self.inside.meta.now in
    let space = c.args.space.now in
    let name = c.args.name.now in
    let tables = c.self.invariant in
    sym (class_found m tables.valid.uris_differ space name
    ∙ ap (λ (o : Option ℕ). then_ o (λ number. place_of number name (map class_key m.classes))) (sym (tables.packages 0 space) ∙ sym c.first_place.ensures ∙ c.in-None.is))
    ∙ ap (λ (p : Parts). position (is_class_named p space name) p.classes) c.self.view_is
