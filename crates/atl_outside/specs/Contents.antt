-- The two laws of what files hold: the content at a path written, and elsewhere.
use Rattle.std.specs.Prelude.{◌≡◌, ◌≢◌, ℕ, true, false, cond, List, Some, refl}
use Rattle.std.proofs.Common.{ap, ◌∙◌}
use Rattle.std.specs.Ordering.{nat_cmp, eq_by_cmp}
use Rattle.std.specs.Cmp.{eq_by_cmp_equiv}
use Rattle.std.specs.Cmp.Lexicographic.{slice_cmp, texts_ties, nat_list_cmp_total}
use Rattle.std.proofs.lemmas.Slice.Eq.{bytes_eq-Decides}
use Rattle.std.specs.FinMap.{get, get-insert}
use Rattle.atl_outside.specs.Held.{Held, content_of, with_content}

pub content_of-with_content_same : (held : Held) (path bytes : List ℕ) → content_of (with_content held path bytes) path ≡ Some bytes
content_of-with_content_same held path bytes =
    get-insert nat_list_cmp_total held path bytes path
    ∙ ap (λ b. cond b (Some bytes) (get held path)) ((eq_by_cmp_equiv nat_list_cmp_total).refl path)

pub content_of-with_content_other : (held : Held) (path bytes other : List ℕ) → other ≢ path → content_of (with_content held path bytes) other ≡ content_of held other
content_of-with_content_other held path bytes other apart =
    get-insert nat_list_cmp_total held path bytes other
    ∙ elim (eq_by_cmp (slice_cmp nat_cmp) other path) as (λ b. eq_by_cmp (slice_cmp nat_cmp) other path ≡ b → cond b (Some bytes) (get held other) ≡ get held other) [
      | true ↦ λ same. absurd (apart ((bytes_eq-Decides other path).0 (texts_ties other path ∙ same)))
      | false ↦ λ _. refl
    ] refl
