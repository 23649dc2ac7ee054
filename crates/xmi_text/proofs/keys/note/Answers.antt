use Rattle.xmi_text.specs.declared.keys.Key.{Key}
use Rattle.xmi_text.proofs.keys.note.Goals as goal

pub returns : goal.returns
returns c = λ n q.
    let asked : Key = record { number = n; text = record { ref_ptr = c.args.key.text.ref_ptr; now = q } } in
    c.in_ok-insert.ensures.updates.0 asked
