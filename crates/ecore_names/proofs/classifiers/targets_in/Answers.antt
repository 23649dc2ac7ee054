use Rattle.std.proofs.Common.{map, ap, ◌∙◌, subst}
use Rattle.xmi_text.specs.Keys.{AreFirsts}
use Rattle.ecore_names.specs.Classifiers.{named, numbered, aliased}
use Rattle.ecore_names.specs.FileTables.{rows_of}
use Rattle.ecore_names.proofs.classifiers.targets_in.Goals as goal

pub returns : goal.returns
returns c = record {
  rows = c.in_ok-rows.ensures;
  holders = c.in_ok-holders.ensures;
  names = subst (λ l. AreFirsts c.in_ok-names.names (map named l)) (ap rows_of c.deref.ensures.value ∙ c.in_ok-rows.ensures) c.in_ok-names.ensures;
  numbers = subst (λ l. AreFirsts c.in_ok-numbers.numbers (map numbered l)) (ap rows_of c.deref-2.ensures.value ∙ c.in_ok-rows.ensures) c.in_ok-numbers.ensures;
  aliases = subst (λ l. AreFirsts c.in_ok-aliases.aliases (map aliased l)) (ap rows_of c.deref-3.ensures.value ∙ c.in_ok-rows.ensures) c.in_ok-aliases.ensures;
}
