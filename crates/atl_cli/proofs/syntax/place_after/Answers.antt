use Rattle.std.proofs.Common.{◌∙◌, List, ℕ, length, ap, sym}
use Rattle.std.specs.Str.{chars}
use Rattle.std.specs.Str.Iter.{chars_rest}
use Rattle.std.proofs.lemmas.List.{nil_from_length}
use Rattle.std.proofs.lemmas.Str.{IsUtf8-past_char, chars-nil}
use Rattle.atl_tree.specs.Tokens.{after}
use Rattle.atl_cli.proofs.Places.{after_step, shorter, within}
use Rattle.atl_cli.proofs.syntax.place_after.Goals as goal

pub loop-c-preserved : goal.loop-c-preserved
loop-c-preserved c =
    let i = c.loop-c.invariant in
    let old : List ℕ = chars_rest c.loop-c.c-iterator in
    let new : List ℕ = chars_rest c.next.new.self in
    let e = c.in-Some.ensures.steps.0 in
    let w = within c.loop-c.place c.in-Some.c (length old) (length new) (length c.args.text.now) (shorter c.in-Some.c old new e) i.begun i.line i.column in
    let is = sym c.past-place.ensures in
    record {
      utf8 = IsUtf8-past_char old new c.in-Some.c i.utf8 e;
      same = i.same ∙ after_step c.loop-c.place c.in-Some.c old new i.utf8 e ∙ ap (λ p. after p (chars new)) is;
      begun = rw is at w.0;
      line = rw is at w.1;
      column = rw is at w.2;
    }

pub returns : goal.returns
returns c =
    let none = nil_from_length (chars_rest c.loop-c.c-iterator) c.in-None.ensures.steps.0.0 in
    sym (c.loop-c.invariant.same ∙ ap (λ l. after c.loop-c.place (chars l)) none ∙ ap (after c.loop-c.place) chars-nil)
