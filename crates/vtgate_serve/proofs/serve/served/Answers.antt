use Rattle.std.proofs.Common.{◌≡◌, ℕ, List, ap, subst, sym}
use Rattle.std.proofs.lemmas.Result.{on_ok_weaker, err_from_is_err_and}
use Rattle.vtgate_clients.specs.setup.ServeArgs.{ServeArgsView}
use Rattle.vtgate_lines.specs.Partitions.{NamesPartition}
use Rattle.vtgate_clients.specs.setup.Statuses.{TellsNone}
use Rattle.vtgate_clients.specs.setup.Statuses as w
use Rattle.vtgate_serve.proofs.serve.served.Goals as goal

pub returns-in_err-schema-clause-untouched : goal.returns-in_err-schema-clause-untouched
returns-in_err-schema-clause-untouched g c none =
    let is : c.asked.inside.shards.now ≡ c.args.asked.now.shards = ap (λ (a : ServeArgsView). a.shards) c.asked.view_is in
    absurd (none c.in_ok-ranges.ranges.items (subst (λ (s : List ℕ). NamesPartition s c.in_ok-ranges.ranges.items) is c.in_ok-ranges.ensures.told))

pub returns-clause-untouched : goal.returns-clause-untouched
returns-clause-untouched g c none =
    let is : c.asked.inside.shards.now ≡ c.args.asked.now.shards = ap (λ (a : ServeArgsView). a.shards) c.asked.view_is in
    absurd (none c.in_ok-ranges.ranges.items (subst (λ (s : List ℕ). NamesPartition s c.in_ok-ranges.ranges.items) is c.in_ok-ranges.ensures.told))

pub returns-clause-ok : goal.returns-clause-ok
returns-clause-ok g c =
    let is : c.asked.inside.shards.now ≡ c.args.asked.now.shards = ap (λ (a : ServeArgsView). a.shards) c.asked.view_is in
    on_ok_weaker c.serve_in_world.result (λ printed. record {
      schema = c.in_ok-schema.schema;
      ranges = c.in_ok-ranges.ranges.items;
      read = c.in_ok-schema.ensures.read;
      partition = subst (λ (s : List ℕ). NamesPartition s c.in_ok-ranges.ranges.items) is c.in_ok-ranges.ensures.told;
      fit = rw (sym c.deref.ensures.value) c.in_ok-schema.ensures.fit;
      printed = printed;
    }) c.serve_in_world.ensures.told

pub returns-in_err-ranges-clause-fault : goal.returns-in_err-ranges-clause-fault
returns-in_err-ranges-clause-fault g c =
    let is : c.asked.inside.shards.now ≡ c.args.asked.now.shards = ap (λ (a : ServeArgsView). a.shards) c.asked.view_is in
    let p = err_from_is_err_and c.from_residual.result c.from_residual.ensures.1 in
    rw (p.1, p.2) (λ two. w.by_word (subst TellsNone is (c.in_err-ranges.ensures.fault two)))

pub returns-in_err-schema-clause-fault : goal.returns-in_err-schema-clause-fault
returns-in_err-schema-clause-fault g c =
    let is : c.asked.inside.shards.now ≡ c.args.asked.now.shards = ap (λ (a : ServeArgsView). a.shards) c.asked.view_is in
    let p = err_from_is_err_and c.from_residual-in_err-schema.result c.from_residual-in_err-schema.ensures.1 in
    let names = subst (λ (s : List ℕ). NamesPartition s c.in_ok-ranges.ranges.items) is c.in_ok-ranges.ensures.told in
    rw (p.1, p.2) (λ two. c.in_err-schema.ensures.fault two c.args.asked.now.shards (rw c.deref.ensures.value names))
