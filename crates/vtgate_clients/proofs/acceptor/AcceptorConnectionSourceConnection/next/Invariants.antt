use Rattle.std.proofs.Common.{◌≡◌, ◌≤◌}
use Rattle.vtgate_clients.proofs.acceptor.AcceptorConnectionSourceConnection.next.Given as goal

-- connections that could have no session may have been counted
abbrev pub invariant-loop : goal.invariant-loop
invariant-loop g l = record {
  later : l.fn.self.accepted ≤ l.self.accepted;
  last : l.self.last ≡ l.fn.self.last;
  next : (goal.iterator-loop g).can_next l.iterator' × (goal.iterator-loop g).is_finite l.iterator';
}
