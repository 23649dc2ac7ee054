use Rattle.std.proofs.Common.{◌≡◌, ◌≤◌, ◌+◌, length}
use Rattle.std.specs.Str.{IsUtf8, chars}
use Rattle.std.specs.Str.Iter.{chars_rest}
use Rattle.atl_tree.specs.Tokens.{place, after}
use Rattle.atl_cli.proofs.syntax.place_after.Given as goal

-- the place so far, before what is left of the text
abbrev pub invariant-loop-c : goal.invariant-loop-c
invariant-loop-c l = record {
  utf8 : IsUtf8 (chars_rest l.c-iterator);
  same : after (place 1 1) (chars l.text) ≡ after l.place (chars (chars_rest l.c-iterator));
  begun : 1 ≤ l.place.line;
  line : l.place.line + length (chars_rest l.c-iterator) ≤ length l.text + 1;
  column : l.place.column + length (chars_rest l.c-iterator) ≤ length l.text + 1;
}
