use Rattle.std.proofs.Common.{◌≡◌, ◌++◌, ℕ, List, suc, length, reverse, ap, ◌∙◌}
use Rattle.std.specs.List.{flat_map}
use Rattle.model_store.specs.declared.path.Step.{Step}
use Rattle.model_store.specs.Paths.{path, root_text, step_text, top_within, steps_within}
use Rattle.model_store.proofs.model.Model.fragment.Goals as goal

pub returns : goal.returns
unfolding path
returns c =
    let m = c.args.self.now in
    let n : ℕ = suc (length m.objects) in
    let top : c.in_ok-top.field-0.top ≡ top_within n m c.args.o = c.in_ok-top.ensures.top in
    let steps : reverse c.in_ok-top.field-0.steps.items ≡ steps_within n m c.args.o = c.in_ok-top.ensures.steps in
    let root : c.push_root.new.text ≡ root_text m c.in_ok-top.field-0.top = c.in_ok-push_root.ensures
    ∙ ap (λ (t : List ℕ). t ++ root_text m c.in_ok-top.field-0.top) c.new-text.ensures in
    let text : c.push_steps.new.text ≡ c.push_root.new.text ++ flat_map (step_text m) (reverse c.in_ok-top.field-0.steps.items) = c.in_ok-push_steps.ensures in
    text
    ∙ ap (λ (t : List ℕ). t ++ flat_map (step_text m) (reverse c.in_ok-top.field-0.steps.items)) (root ∙ ap (root_text m) top)
    ∙ ap (λ (s : List Step). root_text m (top_within n m c.args.o) ++ flat_map (step_text m) s) steps
