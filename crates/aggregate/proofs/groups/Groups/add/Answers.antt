use Rattle.std.proofs.Common.{drop, reverse, ap, ◌∙◌}
use Rattle.std.proofs.lemmas.List.{reverse-reverse}
use Rattle.aggregate.specs.inner.Grouping.{key_values}
use Rattle.aggregate.proofs.GroupingLemmas.{all_opened, within_parts, can_add_at, grown_at}
use Rattle.aggregate.proofs.groups.Groups.add.Goals as goal

pub add_at-requires : goal.add_at-requires
add_at-requires c =
    let aggregates = c.args.aggregates.now in
    let width = c.args.width in
    let row = c.args.row in
    let keys = key_values c.open.new.self in
    let parts = c.open.new.self.parts.items in
    let key = c.in_ok-move_parts.ensures.values in
    let trailing = ap reverse c.in_ok-move_parts.ensures.parts ∙ reverse-reverse (drop width row) in
    let rows = c.requires.0 in
    let all = all_opened aggregates width rows row c.move_parts.new.row key (key_values c.args.self.now) keys c.args.self.now.parts.items parts c.requires.1 c.in_ok-ordinal.ensures.keys c.in_ok-ordinal.ensures.parts in
    record {
      within = within_parts aggregates width rows row c.move_parts.new.row key keys parts all c.in_ok-ordinal.ordinal c.in_ok-ordinal.ensures.ordinal _ trailing;
      holds = can_add_at aggregates width rows row c.move_parts.new.row key keys parts all c.in_ok-ordinal.ordinal c.in_ok-ordinal.ensures.ordinal _ trailing c.requires.2;
    }

pub returns : goal.returns
returns c = record {
  ok = (λ rows groups.
      (let aggregates = c.args.aggregates.now in
      let width = c.args.width in
      let row = c.args.row in
      let keys = key_values c.open.new.self in
      let parts = c.open.new.self.parts.items in
      let key = c.in_ok-move_parts.ensures.values in
      let trailing = ap reverse c.in_ok-move_parts.ensures.parts ∙ reverse-reverse (drop width row) in
      let all = all_opened aggregates width rows row c.move_parts.new.row key (key_values c.args.self.now) keys c.args.self.now.parts.items parts groups c.in_ok-ordinal.ensures.keys c.in_ok-ordinal.ensures.parts in
      grown_at aggregates width rows row c.move_parts.new.row key keys parts all c.in_ok-ordinal.ordinal c.in_ok-ordinal.ensures.ordinal _ trailing
      (key_values c.args.self.now) (key_values c.add_at.new.self) c.add_at.new.self.parts.items groups.0 c.in_ok-ordinal.ensures.keys c.in_ok-ordinal.ensures.distinct c.add_at.ensures.keys c.add_at.ensures.parts));
}
