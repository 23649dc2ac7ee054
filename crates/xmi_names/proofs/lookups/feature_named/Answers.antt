use Rattle.std.proofs.Common.{length, sym, ap, arith}
use Rattle.std.specs.Prelude.{bytes_eq, find}
use Rattle.ecore_meta.specs.Inheritance.{name_of, features}
use Rattle.xmi_names.proofs.FeatureNames.{found_is, none_outside}
use Rattle.xmi_names.proofs.lookups.feature_named.Goals as goal

pub returns-then-class-len : goal.returns-then-class-len
returns-then-class-len c =
    let m = c.args.meta.now in
    sym (ap (find (λ f. bytes_eq (name_of m.features f) c.args.name.now)) (none_outside m.classes c.args.class (omega (arith, ap (λ m. length m.classes) c.parts-parts.ensures.parts))))

pub returns : goal.returns
returns c =
    let m = c.args.meta.now in
    found_is (name_of m.features) c.args.name.now (features m.classes c.args.class) c.feature_of.result
    (c.parts-parts.ensures.valid.seen_differ c.args.class (omega (arith, ap (λ m. length m.classes) c.parts-parts.ensures.parts))) c.feature_of.ensures.some c.feature_of.ensures.none
