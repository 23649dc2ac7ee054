use Rattle.std.proofs.Common.{◌≡◌, ℕ, List, Bor, refl, ◌∙◌, ap}
use Rattle.std.specs.Prelude.{Bool, true, false, bytes_eq, Some, if◌then◌else◌}
use Rattle.std.proofs.lemmas.Slice.Eq.{bytes_eq-Decides}
use Rattle.xmi_links.specs.declared.ids.Ids.{Ids}
use Rattle.xmi_links.specs.Found.{bearers_found, with_bearer}
use Rattle.atl_base.specs.declared.numbers.ObjId.{ObjId}
use Rattle.xmi_links.proofs.ids.note.Goals as goal

-- the same text has the same bearers
same : (ids : Ids) (o : ObjId) (id q : List ℕ) (b : Bool) → bytes_eq id q ≡ b
    → (if b then Some (with_bearer (bearers_found ids id) o) else bearers_found ids q) ≡ (if b then Some (with_bearer (bearers_found ids q) o) else bearers_found ids q)
same ids o id q true e = ap (λ k. Some (with_bearer (bearers_found ids k) o)) ((bytes_eq-Decides id q).0 e)
same ids o id q false e = refl

pub returns : goal.returns
returns c = λ q.
    let asked : Bor (List ℕ) = record { ref_ptr = c.args.id.ref_ptr; now = q } in
    c.in_ok-insert.ensures.updates.0 asked
    ∙ ap (λ b. if bytes_eq c.args.id.now q then Some b else bearers_found c.args.ids.now q)
    (c.with_bearer-bearers.ensures ∙ ap (λ k. with_bearer k c.args.bearer) c.bearers_in.ensures)
    ∙ same c.args.ids.now c.args.bearer c.args.id.now q (bytes_eq c.args.id.now q) refl
