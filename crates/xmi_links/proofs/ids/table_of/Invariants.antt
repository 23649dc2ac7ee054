use Rattle.std.proofs.Common.{◌≡◌, ℕ, List, take, None}
use Rattle.xmi_links.specs.Found.{bearers_found, borne_by, ids_in}
use Rattle.xmi_links.proofs.ids.table_of.Given as goal

-- who bears the ids so far
abbrev pub invariant-loop-i : goal.invariant-loop-i
invariant-loop-i l = (q : List ℕ) → bearers_found l.table q ≡ borne_by q None (ids_in (take l.i l.ids))
