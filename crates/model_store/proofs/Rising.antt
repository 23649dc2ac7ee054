-- Where each object has a smaller number than its contents, none is on a cycle.
use Rattle.std.proofs.Common.{ℕ, ◌<◌, ◌≤◌, [], length, subst, ⊎_elim, arith, None}
use Rattle.std.specs.Option.{option_map_or}
use Rattle.std.specs.List.{Contains}
use Rattle.std.proofs.lemmas.Bool.{cases_lt}
use Rattle.std.proofs.lemmas.List.{get_or_past}
use Rattle.atl_base.specs.declared.numbers.ObjId.{ObjId}
use Rattle.model_store.specs.Contents.{Contents}
use Rattle.model_store.specs.Order.{contents, contents_of, Encloses, itself, by_content, HasNoCycle}

-- the contents of the object of a number stand above it
abbrev pub RisesAt : Contents → ℕ → Type 0
RisesAt m n = (q : ObjId) → Contains (contents m (record { 0 = n })) q → n < q.0

enclosed_above : (m : Contents) → ((n : ℕ) → RisesAt m n) → {o p : ObjId} → Encloses m o p → o.0 ≤ p.0
enclosed_above m rises itself = omega arith
enclosed_above m rises {o} {p} (by_content {q = q} part rest) =
    let above = enclosed_above m rises rest in
    let first = rises o.0 q part in
    omega (arith, above, first)

pub no_cycle : (m : Contents) → ((n : ℕ) → n < length m.objects → RisesAt m n) → HasNoCycle m
no_cycle m rises = λ o on.
    let each : (n : ℕ) → RisesAt m n = λ n q h. ⊎_elim
    (λ (low : n < length m.objects). rises n low q h)
    (λ (past : length m.objects ≤ n).
    let none : Contains [] q = subst (λ x. Contains (option_map_or (contents_of m.meta) x []) q) (get_or_past m.objects n None past) h in
    absurd (omega (arith, none.1)))
    (cases_lt n (length m.objects)) in
    let first = each o.0 on.0 on.1 in
    let rest = enclosed_above m each on.2 in
    let no : ⊥ = omega (arith, first, rest) in
    no
