use Rattle.std.proofs.Common.{◌≡◌, ℕ, ◌<◌, get_or, vec_len}
use Rattle.vtgate_serve.specs.script.inner.UnderWay.{KeptSession, KnowsOwn}
use Rattle.vtgate_serve.proofs.script.sessions.confirm_all.Given as goal

-- nothing has changed, and the sessions so far have confirmed
abbrev pub invariant-loop-i : goal.invariant-loop-i
invariant-loop-i g l = record {
  same : l.sessions.items ≡ l.initial.sessions.items;
  all : l.all ≡ l.initial.all;
  long : vec_len l.sessions ≡ l.i-end;
  own : (k : ℕ) (d : KeptSession) → k < l.i → KnowsOwn l.initial.all.seen (get_or l.initial.sessions.items k d);
}
