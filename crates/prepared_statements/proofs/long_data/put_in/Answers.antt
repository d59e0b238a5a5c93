use Rattle.std.proofs.Common.{◌≡◌, ◌<◌, ◌^◌, ◌++◌, ℕ, List, length, refl, ap, sym, subst, ◌∙◌, arith, Option}
use Rattle.std.specs.Prelude.{slice_set}
use Rattle.mysql_packet.specs.Numbers.{little_endian}
use Rattle.prepared_statements.proofs.HoleLaws.{put_long_is}
use Rattle.prepared_statements.proofs.long_data.put_in.Goals as goal

pub returns-clause-ok : goal.returns-clause-ok
returns-clause-ok c =
    let there : c.from-hole.result < length c.args.holes.now.items = omega (arith, c.if-hole-len.false, c.len.ensures) in
    let small : c.from-hole.result < 2 ^ 16 = omega (arith, c.from-hole.ensures, c.in-Some.ensures.below) in (
      c.from-hole.result,
      c.in-Some.more.now,
      record {
        small = small;
        there = there;
        parts = subst (λ (h : ℕ). c.args.bytes.now ≡ little_endian 2 h ++ c.in-Some.more.now) (sym c.from-hole.ensures) c.in-Some.ensures.found;
      },
      refl,
      omega (arith, c.if-more-room.false),
      ap (λ (h : Option (List ℕ)). slice_set c.args.holes.now.items c.from-hole.result h) c.in_ok-append_in.ensures
          ∙ put_long_is c.args.holes.now.items c.from-hole.result c.in-Some.more.now c.index_mut.result.now there c.index_mut.ensures.value,
    )
