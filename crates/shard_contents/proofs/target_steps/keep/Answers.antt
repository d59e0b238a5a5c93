use Rattle.std.proofs.Common.{rules, ap, ◌∙◌, ◌++◌, ◌∷◌, [], List}
use Rattle.std.proofs.lemmas.Fn.{filter_same}
use Rattle.shard_contents.specs.declared.target_steps.TargetStep.{TargetStep}
use Rattle.shard_contents.proofs.target_steps.keep.Goals as goal

pub returns : goal.returns
returns c =
    c.push_reserved.ensures.items ∙ ap (λ (l : List TargetStep). l ++ c.args.step ∷ []) (filter_same _ _ _ (λ x b f' k. search rules) _ _ c.retain.ensures.filtered)
