-- How a run of `model` ends, by the step that ended it.
use Rattle.std.proofs.Common.{◌≡◌, ◌⊎◌, inl, inr, ℕ, ◌≤◌, List, [], Option, Some, None, IfSome, Result, Ok, Err, ap, sym, subst, ◌∙◌, refl, arith}
use Rattle.atl_outside.specs.Held.{Held, bytes_at}
use Rattle.atl_outside.specs.Rose.{Rose}
use Rattle.ecore_meta.specs.declared.parts.Parts.{Parts}
use Rattle.model_store.specs.Contents.{Contents}
use Rattle.xmi_write.specs.Xmi.{xmi}
use Rattle.atl_cli.specs.declared.model.Paths.{Paths}
use Rattle.atl_cli.specs.declared.status.Status.{Status}
use Rattle.atl_cli.specs.declared.status.Status.TheVariants as status
use Rattle.atl_cli.specs.Model.{AreRead, Ended, MetaUnread, ModelUnread, Judged, Written, Unwritten, NoMemory, HasPaths, Comes, NoMetamodel, NoModel, IsModel, MetaOf, ModelOf}
use Rattle.atl_cli.specs.Outcome.{Outcome, Ends, Writes}
use Rattle.atl_cli.specs.Reads.{Stops, Unread, Refused, Forgotten, IsJudged, IsPut, status_in}
use Rattle.atl_cli.proofs.Endings.{Rose-earlier}

-- some bytes are what the files hold at a path, where they tell it
some_bytes : (before : Option Held) (path : List ℕ) → (bytes : List ℕ) × AreRead before path bytes
some_bytes (Some held) path = (bytes_at held path, refl)
some_bytes None path = ([], tt)

module _ (words : List (List ℕ)) (before after : Option Held) where
  pub meta_ended : (low high : ℕ) (p : Paths) → HasPaths words p → (s : Status) → Stops (MetaOf p.meta) before p.meta low high s → after ≡ before → Ended words before after low high s
  meta_ended low high p file s (Unread rose) same = MetaUnread p file rose same
  meta_ended low high p file s (Refused bytes read t x) same =
      let other = some_bytes before p.model in
      Judged p file bytes other.0 read other.1 t (NoMetamodel t x) same
  meta_ended low high p file s Forgotten same = NoMemory same

  pub model_ended : (low mid high : ℕ) (p : Paths) → HasPaths words p → (meta parts : Parts) → parts ≡ meta
      → IsJudged (MetaOf p.meta) before p.meta low mid (Ok meta) → low ≤ mid
      → (s : Status) → Stops (ModelOf parts p.model) before p.model mid high s → after ≡ before → Ended words before after low high s
  model_ended low mid high p file meta parts is judged le s (Unread rose) same =
      ModelUnread p file judged.0 judged.1 meta judged.2 (Rose-earlier low mid high le rose) same
  model_ended low mid high p file meta parts is judged le s (Refused bytes read t x) same =
      Judged p file judged.0 bytes judged.1 read t (NoModel parts t (subst (λ m. MetaOf p.meta judged.0 (Ok m)) (sym is) judged.2) x) same
  model_ended low mid high p file meta parts is judged le s Forgotten same = NoMemory same

  pub put_ended : (low mid late high : ℕ) (p : Paths) → HasPaths words p → (meta parts : Parts) → parts ≡ meta
      → IsJudged (MetaOf p.meta) before p.meta low mid (Ok meta) → low ≤ mid
      → (m : Contents) → IsJudged (ModelOf parts p.model) before p.model mid late (Ok m) → mid ≤ late
      → (text : List ℕ) → text ≡ xmi m → (r : Result (Unit {0}) Status) → IsPut p.out text before after late high r → Ended words before after low high (status_in r)
  put_ended low mid late high p file meta parts is first le m second lf text spelt r put = go r put
    where
      writes : Comes p first.0 second.0 (Writes p.out text)
      writes = subst (λ t. Comes p first.0 second.0 (Writes p.out t)) (sym spelt) (IsModel parts m (subst (λ x. MetaOf p.meta first.0 (Ok x)) (sym is) first.2) second.2)

      go : (r : Result (Unit {0}) Status) → IsPut p.out text before after late high r → Ended words before after low high (status_in r)
      go (Ok u) x = Written p file first.0 second.0 first.1 second.1 text writes x
      go (Err s) (inl x) = subst (λ u. Ended words before after low high u) (sym x.0) (NoMemory x.1)
      go (Err s) (inr x) =
          let early : low ≤ late = omega (arith, le, lf) in
          subst (λ u. Ended words before after low high u) (sym x.0) (Unwritten p file first.0 second.0 first.1 second.1 text writes (Rose-earlier low late high early x.1) x.2)
