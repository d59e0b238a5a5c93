use Rattle.std.proofs.Common.{rules, ◌≡◌, ◌∷◌, [], ◌++◌, IfSome, refl, sym, ap, subst, ◌∙◌}
use Rattle.planner.specs.KnownIds.{known_bytes}
use Rattle.planner.specs.declared.spans.Span.{Span}
use Rattle.planner.specs.inner.Spans.{AllIn}
use Rattle.planner.proofs.Between.{same, known_in, one_more, all_widened}
use Rattle.planner.proofs.spans.span_with.Goals as goal

pub returns-then-is_first : goal.returns-then-is_first
returns-then-is_first c values v none all right =
    let bytes = c.in-Eight.bytes in
    let s : Span = record { vindex = c.args.vindex; least = bytes; greatest = bytes } in
    let own = known_in s c.args.vindex v c.args.id bytes refl right (ap known_bytes c.in-Eight.is) (same bytes, same bytes) in
    subst (λ l. AllIn (l ++ v ∷ []) s) (sym (none c.if-is_first.true)) (own, tt)

pub returns-in-Some : goal.returns-in-Some
returns-in-Some c values v none all right =
    let alike : c.in-Some.span.vindex ≡ c.args.vindex = search rules in
    let before : AllIn values c.in-Some.span = subst (λ o. IfSome o (AllIn values)) c.in-Some.is all in
    one_more c.widened.result values v
    (all_widened c.in-Some.span c.widened.result c.widened.ensures.vindex c.widened.ensures.both values before)
    (known_in c.widened.result c.args.vindex v c.args.id c.in-Eight.bytes (c.widened.ensures.vindex ∙ alike) right (ap known_bytes c.in-Eight.is) c.widened.ensures.id)
