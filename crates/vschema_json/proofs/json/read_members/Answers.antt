use Rattle.std.proofs.Common.{◌≡◌, ℕ, List, Some, map, ap, sym, ◌∙◌}
use Rattle.serde_json.specs.Data.{Data}
use Rattle.serde_json.specs.View.{view, members_view}
use Rattle.vschema_json.specs.Json.{all_some, named_values}
use Rattle.vschema_json.proofs.Lists.{Entry, names_once, named, resumed, reads_more}
use Rattle.vschema_json.proofs.json.read_members.Goals as goal

pub returns-in_err-read-clause-distinct : goal.returns-in_err-read-clause-distinct
returns-in_err-read-clause-distinct g c = names_once c.args.members.now.entries c.iter-name-items.ensures.ordered

pub returns-in_err-push-clause-distinct : goal.returns-in_err-push-clause-distinct
returns-in_err-push-clause-distinct g c = names_once c.args.members.now.entries c.iter-name-items.ensures.ordered

pub returns-clause-distinct : goal.returns-clause-distinct
returns-clause-distinct g c = names_once c.args.members.now.entries c.iter-name-items.ensures.ordered

pub loop-name-preserved : goal.loop-name-preserved
loop-name-preserved g c =
    let l = c.loop-name in
    let f = λ (m : List ℕ × Data). g.T.Member.reads m.0 m.1 in
    let e : Entry = (c.in-Some.name.now, c.in-Some.value.now) in
    let rest = λ (es : List Entry). all_some (map f (named_values (members_view es))) in
    let x = c.in_ok-read.field-0 in
    let said : f (named e) ≡ Some x = ap (λ s. g.T.Member.reads s (view e.1)) (sym c.as_str.ensures.value) ∙ c.in_ok-read.ensures.ok in
    ap (λ xs. resumed xs (rest c.next.new.self)) c.in_ok-push.ensures.ok ∙ sym (reads_more f l.found x (named e) (named_values (members_view c.next.new.self)) said)
    ∙ ap (λ es. resumed l.found (rest es)) (sym c.in-Some.ensures.steps) ∙ l.invariant
