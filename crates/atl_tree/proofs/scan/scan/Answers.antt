use Rattle.std.proofs.Common.{◌≡◌, true, false, [], ◌++◌, length, drop, sym, ap, subst, ◌∙◌, arith}
use Rattle.std.specs.Str.{IsUtf8}
use Rattle.std.specs.Char.{encode_utf8}
use Rattle.std.specs.Str.Iter.{chars_rest}
use Rattle.std.proofs.lemmas.List.{length-append, nil_from_length}
use Rattle.std.proofs.lemmas.Str.{length-encode, len_utf8_bounds}
use Rattle.atl_base.proofs.XmlTexts.{IsUtf8-from_text}
use Rattle.atl_tree.specs.declared.state.State.TheVariants as S
use Rattle.atl_tree.specs.Tokens.{place}
use Rattle.atl_tree.specs.Scanner.{Closes, cursor, ended_at}
use Rattle.atl_tree.proofs.Simulation.{Agrees, Sim, SimTo, simulates, ready, begins-scan, ends-scan, small}
use Rattle.atl_tree.proofs.scan.scan.Goals as goal

pub loop-c-init : goal.loop-c-init
loop-c-init c =
    let text = c.args.text.now in
    let left : chars_rest c.into_iter-c-iterator.result ≡ drop c.args.from text =
    ap chars_rest c.into_iter-c-iterator.ensures.into_iter_gives ∙ c.chars-c-items.ensures.rest ∙ c.range_from.ensures.value ∙ ap (drop c.args.from) c.as_str.ensures.text in
    let u : IsUtf8 text = IsUtf8-from_text text c.as_str.ensures.xml in
    subst (λ l. Agrees text c.args.from l (cursor S.Start c.args.from (place 1 1) c.args.from (place 1 1)) (chars_rest c.into_iter-c-iterator.result)) (sym c.new-list.ensures)
    (subst (λ r. Agrees text c.args.from [] (cursor S.Start c.args.from (place 1 1) c.args.from (place 1 1)) r) (sym left) (begins-scan text c.args.from u c.requires.edge))

pub step-requires-clause-ready : goal.step-requires-clause-ready
step-requires-clause-ready c = ready _ _ _ _ _ c.loop-c.invariant

pub step-requires-clause-line : goal.step-requires-clause-line
step-requires-clause-line c =
    let s = small _ _ _ _ _ c.loop-c.invariant in
    omega (arith, s.1, c.requires.size, ap length c.in-Some.ensures.steps.0, length-append (encode_utf8 c.in-Some.c) (chars_rest c.next.new.self), length-encode c.in-Some.c, len_utf8_bounds c.in-Some.c)

pub step-requires-clause-column : goal.step-requires-clause-column
step-requires-clause-column c =
    let s = small _ _ _ _ _ c.loop-c.invariant in
    omega (arith, s.2, c.requires.size, ap length c.in-Some.ensures.steps.0, length-append (encode_utf8 c.in-Some.c) (chars_rest c.next.new.self), length-encode c.in-Some.c, len_utf8_bounds c.in-Some.c)

pub step-requires-clause-at : goal.step-requires-clause-at
step-requires-clause-at c =
    let s = small _ _ _ _ _ c.loop-c.invariant in
    omega (arith, s.0, c.requires.size, ap length c.in-Some.ensures.steps.0, length-append (encode_utf8 c.in-Some.c) (chars_rest c.next.new.self), length-encode c.in-Some.c)

pub loop-c-preserved : goal.loop-c-preserved
loop-c-preserved c =
    let text = c.args.text.now in
    let rest = chars_rest c.next.new.self in
    let a : Agrees text c.args.from c.loop-c.list c.loop-c.cursor (encode_utf8 c.in-Some.c ++ rest) = subst (λ r. Agrees text c.args.from c.loop-c.list c.loop-c.cursor r) c.in-Some.ensures.steps.0 c.loop-c.invariant in
    subst (λ m. SimTo text c.args.from rest c.step.new.list m) c.in-Goes.is
    (subst (λ m. Sim text c.args.from rest m) c.in_ok-next.ensures (simulates text c.args.from c.loop-c.list c.loop-c.cursor c.in-Some.c rest a))

pub returns-in-Stops : goal.returns-in-Stops
returns-in-Stops c =
    let text = c.args.text.now in
    let rest = chars_rest c.next.new.self in
    let a : Agrees text c.args.from c.loop-c.list c.loop-c.cursor (encode_utf8 c.in-Some.c ++ rest) = subst (λ r. Agrees text c.args.from c.loop-c.list c.loop-c.cursor r) c.in-Some.ensures.steps.0 c.loop-c.invariant in
    subst (λ m. SimTo text c.args.from rest c.step.new.list m) c.in-Stops.is
    (subst (λ m. Sim text c.args.from rest m) c.in_ok-next.ensures (simulates text c.args.from c.loop-c.list c.loop-c.cursor c.in-Some.c rest a))

pub close-requires : goal.close-requires
close-requires c = ready _ _ _ _ _ c.loop-c.invariant

pub returns-then-branch : goal.returns-then-branch
returns-then-branch c =
    let text = c.args.text.now in
    let a : Agrees text c.args.from c.loop-c.list c.loop-c.cursor [] = subst (λ r. Agrees text c.args.from c.loop-c.list c.loop-c.cursor r) (nil_from_length _ c.in-None.ensures.steps.0.0) c.loop-c.invariant in
    ends-scan text c.args.from c.loop-c.list c.close.new.list c.loop-c.cursor true a
    (subst (λ b. Closes c.loop-c.list c.close.new.list b (ended_at text c.loop-c.cursor c.loop-c.cursor.state)) c.if-branch.true c.in_ok-close.ensures)

pub returns-else-branch : goal.returns-else-branch
returns-else-branch c =
    let text = c.args.text.now in
    let a : Agrees text c.args.from c.loop-c.list c.loop-c.cursor [] = subst (λ r. Agrees text c.args.from c.loop-c.list c.loop-c.cursor r) (nil_from_length _ c.in-None.ensures.steps.0.0) c.loop-c.invariant in
    ends-scan text c.args.from c.loop-c.list c.close.new.list c.loop-c.cursor false a
    (subst (λ b. Closes c.loop-c.list c.close.new.list b (ended_at text c.loop-c.cursor c.loop-c.cursor.state)) c.if-branch.false c.in_ok-close.ensures)
