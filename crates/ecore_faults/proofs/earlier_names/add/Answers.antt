use Rattle.std.proofs.Common.{◌∙◌}
use Rattle.xmi_text.specs.Keys.{is_key, key_of}
use Rattle.ecore_faults.specs.Seen.{has_key}
use Rattle.xmi_text.specs.declared.keys.Key.{Key}
use Rattle.ecore_faults.proofs.SeenBefore.{or_cond}
use Rattle.ecore_faults.proofs.earlier_names.add.Goals as goal

pub returns : goal.returns
returns c = λ n q.
    let asked : Key = record { number = n; text = record { ref_ptr = c.args.key.text.ref_ptr; now = q } } in
    c.in_ok-insert.ensures.updates.0 asked ∙ or_cond (is_key n q (key_of c.args.key)) (has_key c.args.keys.now n q)
