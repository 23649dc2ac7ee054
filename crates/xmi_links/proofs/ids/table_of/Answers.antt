use Rattle.std.proofs.Common.{take, sym, ap, ◌∙◌, None}
use Rattle.std.specs.Prelude.{bytes_eq, Some, if◌then◌else◌}
use Rattle.std.proofs.lemmas.List.{take_all}
use Rattle.xmi_links.specs.Found.{bearers_found, borne_by, id_in, ids_in, with_bearer}
use Rattle.xmi_links.proofs.Borne.{borne_more}
use Rattle.xmi_links.proofs.Steps.{taken}
use Rattle.xmi_links.proofs.ids.table_of.Goals as goal

pub loop-i-preserved : goal.loop-i-preserved
loop-i-preserved c = λ q.
    let before = ids_in (take c.loop-i.i c.args.ids.now) in
    let id = c.index-ids-i.result in
    c.in_ok-note.ensures q
    ∙ ap (λ text. if bytes_eq text q then Some (with_bearer (bearers_found c.loop-i.table q) c.index-ids-i.result.bearer) else bearers_found c.loop-i.table q) c.bytes.ensures.bytes
    ∙ ap (λ known. if bytes_eq id.text q then Some (with_bearer known c.index-ids-i.result.bearer) else known) (c.loop-i.invariant q)
    ∙ sym (ap (borne_by q None) (taken id_in c.args.ids.now c.loop-i.i id c.loop-i-test.true c.index-ids-i.is) ∙ borne_more q before (id_in id))

pub returns : goal.returns
returns c = λ q. c.loop-i.invariant q ∙ ap (λ l. borne_by q None (ids_in l)) (take_all c.loop-i.i c.args.ids.now c.loop-i-test.false)
