use Rattle.std.proofs.Common.{lit<, rules}
use Rattle.std.proofs.lemmas.Str.Pattern.{split_parts}
use Rattle.vtgate_lines.proofs.Named.{read_more, all_read, bad_name, bad_end}
use Rattle.vtgate_lines.proofs.ranges.named_ranges.Goals as goal

pub returns-then-not-branch-clause-only : goal.returns-then-not-branch-clause-only
returns-then-not-branch-clause-only c =
    let s = split_parts 44 c.loop-name.rest.now c.split_once.result c.split_once.ensures.cases (lit< tt) in
    let parts = rw c.in-Some.is at s in
    bad_name c.args.text.now c.loop-name.rest.now c.in-Some.name.now c.in-Some.more.now c.loop-name.ranges.items c.loop-name.invariant.read parts.0 parts.1
    (c.in_ok-push_named.ensures.none c.if-not-branch.true)

pub loop-name-preserved : goal.loop-name-preserved
loop-name-preserved c =
    let s = split_parts 44 c.loop-name.rest.now c.split_once.result c.split_once.ensures.cases (lit< tt) in
    let parts = rw c.in-Some.is at s in
    let f = c.in_ok-push_named.ensures.found c.if-not-branch.false in
    record {
      read =
          read_more c.args.text.now c.loop-name.rest.now c.in-Some.name.now c.in-Some.more.now c.loop-name.ranges.items c.push_named.new.ranges.items f.0
          c.loop-name.invariant.read parts.0 parts.1 f.1 f.2;
      utf8 = search rules;
    }

pub returns-then-branch-clause-found : goal.returns-then-branch-clause-found
returns-then-branch-clause-found c =
    let s = split_parts 44 c.loop-name.rest.now c.split_once.result c.split_once.ensures.cases (lit< tt) in
    let end = rw c.in_default.is at s in
    let f = c.in_ok-push_named-2.ensures.found c.if-branch.true in
    (all_read c.args.text.now c.loop-name.rest.now c.loop-name.ranges.items c.push_named-2.new.ranges.items f.0 c.loop-name.invariant.read end f.1 f.2).0

pub returns-then-branch-clause-only : goal.returns-then-branch-clause-only
returns-then-branch-clause-only c =
    let s = split_parts 44 c.loop-name.rest.now c.split_once.result c.split_once.ensures.cases (lit< tt) in
    let end = rw c.in_default.is at s in
    let f = c.in_ok-push_named-2.ensures.found c.if-branch.true in
    (all_read c.args.text.now c.loop-name.rest.now c.loop-name.ranges.items c.push_named-2.new.ranges.items f.0 c.loop-name.invariant.read end f.1 f.2).1

pub returns-else-branch-clause-only : goal.returns-else-branch-clause-only
returns-else-branch-clause-only c =
    let s = split_parts 44 c.loop-name.rest.now c.split_once.result c.split_once.ensures.cases (lit< tt) in
    let end = rw c.in_default.is at s in
    bad_end c.args.text.now c.loop-name.rest.now c.loop-name.ranges.items c.loop-name.invariant.read end (c.in_ok-push_named-2.ensures.none c.if-branch.false)
