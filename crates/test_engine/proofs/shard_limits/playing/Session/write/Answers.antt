use Rattle.std.proofs.Common.{◌≡◌, ap, ◌∙◌}
use Rattle.vschema.specs.declared.changes.Write.{Write}
use Rattle.journal.specs.Views.{PassView}
use Rattle.shard_run.specs.declared.Entry.{Entry}
use Rattle.shard_run.specs.declared.ShardRecord.{ShardRecord}
use Rattle.shard_run.specs.Runs.{Opening}
use Rattle.shard_contents.specs.Limits.{Limits}
use Rattle.shard_contents.specs.declared.outcomes.CommitOutcome.{CommitOutcome}
use Rattle.shard_contents.specs.Commits as a
use Rattle.shard_contents.specs.Commits.{HasAnswered}
use Rattle.test_engine.proofs.shard_limits.playing.Session.write.Goals as goal

-- what a shard answers leaves the session
same_session : (o : Opening) (l : Limits) (s : ShardRecord) (p : PassView Entry) (w : Write) (c : CommitOutcome) (now : PassView Entry) → HasAnswered o l s p w c now
    → now.session ≡ p.session
same_session o l s p w _ now (a.committed h) = ap (λ (v : PassView Entry). v.session) h.pass ∙ ap (λ (v : PassView Entry). v.session) h.look.pass
same_session o l s p w _ now (a.frozen look m) = ap (λ (v : PassView Entry). v.session) look.pass
same_session o l s p w _ now (a.not_serving look m) = ap (λ (v : PassView Entry). v.session) look.pass

pub commit-requires-clause-placed : goal.commit-requires-clause-placed
commit-requires-clause-placed g c = rw c.args.self.now.here c.requires.placed
