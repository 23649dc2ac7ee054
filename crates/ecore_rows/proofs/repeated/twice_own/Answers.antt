use Rattle.std.proofs.Common.{◌≡◌, ◌+◌, ◌∷◌, map, drop, sym, ap, ◌∙◌, arith}
use Rattle.std.specs.Prelude.{Bool, Some, if◌then◌else◌}
use Rattle.std.proofs.lemmas.Bool.{eq-eqb, ne_eqb}
use Rattle.std.proofs.lemmas.List.{drop_more}
use Rattle.ecore_outline.specs.Outline.{name_of}
use Rattle.xmi_text.specs.Inheriting.{conforms}
use Rattle.ecore_rows.specs.Rows.{twice_from}
use Rattle.ecore_rows.specs.Runs.{past_run}
use Rattle.ecore_rows.specs.CodeRows.{feature_row_of, feature_rows_of}
use Rattle.ecore_rows.proofs.SeenRows.{run_ends, run_goes_on}
use Rattle.ecore_rows.proofs.repeated.twice_own.Goals as goal

pub returns-then-row-owner : goal.returns-then-row-owner
returns-then-row-owner c = λ supers class h.
    let row = feature_row_of c.index-rows-i.result in
    let rest = feature_rows_of (drop (c.loop-i.i + 1) c.args.rows.now) in
    let cut : feature_rows_of (drop c.loop-i.i c.args.rows.now) ≡ row ∷ rest =
    ap feature_rows_of (drop_more c.args.rows.now c.loop-i.i c.index-rows-i.result c.loop-i-test.true) ∙ ap (λ x. feature_row_of x ∷ rest) (sym c.index-rows-i.is) in
    c.loop-i.invariant.told supers class h
    ∙ ap (twice_from supers class (map (λ k. k.now) c.loop-i.seen.keys))
    (cut ∙ sym (run_ends c.args.owner row rest (ne_eqb row.owner c.args.owner (λ s. omega (arith, s, c.if-row-owner.true)))) ∙ ap (past_run c.args.owner) (sym cut) ∙ sym c.loop-i.invariant.past)

pub returns-then-twice : goal.returns-then-twice
returns-then-twice c = λ supers class h.
    let row = feature_row_of c.index-rows-i.result in
    let rest = feature_rows_of (drop (c.loop-i.i + 1) c.args.rows.now) in
    let cut : feature_rows_of (drop c.loop-i.i c.args.rows.now) ≡ row ∷ rest =
    ap feature_rows_of (drop_more c.args.rows.now c.loop-i.i c.index-rows-i.result c.loop-i-test.true) ∙ ap (λ x. feature_row_of x ∷ rest) (sym c.index-rows-i.is) in
    let same : row.owner ≡ c.args.owner = omega (arith, c.if-row-owner.false) in
    c.loop-i.invariant.told supers class h
    ∙ ap (twice_from supers class (map (λ k. k.now) c.loop-i.seen.keys)) cut
    ∙ c.in_ok-twice.ensures supers class rest (ap (conforms supers class) same ∙ h)
    ∙ ap (λ (b : Bool). if b then Some (name_of row.entry) else twice_from supers class (map (λ k. k.now) c.twice_here.new.seen.keys) rest) c.if-twice.true
    ∙ ap Some (sym c.name_of.ensures)

pub loop-i-preserved : goal.loop-i-preserved
loop-i-preserved c =
    let row = feature_row_of c.index-rows-i.result in
    let rest = feature_rows_of (drop (c.loop-i.i + 1) c.args.rows.now) in
    let cut : feature_rows_of (drop c.loop-i.i c.args.rows.now) ≡ row ∷ rest =
    ap feature_rows_of (drop_more c.args.rows.now c.loop-i.i c.index-rows-i.result c.loop-i-test.true) ∙ ap (λ x. feature_row_of x ∷ rest) (sym c.index-rows-i.is) in
    let same : row.owner ≡ c.args.owner = omega (arith, c.if-row-owner.false) in
    record {
      told = λ supers class h.
          c.loop-i.invariant.told supers class h
          ∙ ap (twice_from supers class (map (λ k. k.now) c.loop-i.seen.keys)) cut
          ∙ c.in_ok-twice.ensures supers class rest (ap (conforms supers class) same ∙ h)
          ∙ ap (λ (b : Bool). if b then Some (name_of row.entry) else twice_from supers class (map (λ k. k.now) c.twice_here.new.seen.keys) rest) c.if-twice.false;
      past = c.loop-i.invariant.past ∙ ap (past_run c.args.owner) cut ∙ run_goes_on c.args.owner row rest (eq-eqb row.owner c.args.owner same);
    }
