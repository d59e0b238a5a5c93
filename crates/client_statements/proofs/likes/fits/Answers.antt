use Rattle.std.proofs.Common.{◌≡◌, ◌∷◌, ◌++◌, ◌∙◌, ◌-◌, ℕ, Bool, List, suc, length, drop, get_or, take, false, sym, ap, arith, drop-cons}
use Rattle.std.proofs.Math.Seq.{take-append_seam}
use Rattle.std.proofs.lemmas.Bool.{ltb-true}
use Rattle.client_statements.specs.declared.likes.Piece.{Piece}
use Rattle.client_statements.specs.declared.likes.Piece.TheVariants.{Any}
use Rattle.client_statements.specs.inner.Rows.{row_of, next_row}
use Rattle.client_statements.specs.inner.Patterns.{needed}
use Rattle.client_statements.proofs.Patterns.{short_unfit}
use Rattle.client_statements.proofs.Rows.{row_next, row_size, row_first}
use Rattle.client_statements.proofs.likes.fits.Goals as goal

pub next_row-requires : goal.next_row-requires
next_row-requires c =
    ap length (c.as_mut_slice.ensures.value ∙ c.loop-left.invariant.row) ∙ row_size (drop c.loop-left.left c.args.pieces.now) c.args.name.now

pub loop-left-preserved : goal.loop-left-preserved
loop-left-preserved c =
    let left = c.loop-left.left in
    let one = left - 1 in
    let ps = c.args.pieces.now in
    let name = c.args.name.now in
    let p = get_or ps one Any in
    let new = c.next_row.new.row in
    let items = c.loop-left.row.items in
    let cut : drop one ps ≡ p ∷ drop (suc one) ps = drop-cons ps one Any (omega arith) in
    let next : suc one ≡ left = omega arith in
    let whole : drop one ps ≡ p ∷ drop left ps = cut ∙ ap (λ (k : ℕ). p ∷ drop k ps) next in
    let made : new ≡ row_of (drop one ps) name =
    c.next_row.ensures ∙ ap (next_row p name) (c.as_mut_slice.ensures.value ∙ c.loop-left.invariant.row) ∙ row_next p (drop left ps) name
    ∙ ap (λ (qs : List Piece). row_of qs name) (sym whole) in
    let new_size : length new ≡ suc (length name) = ap length made ∙ row_size (drop one ps) name in
    let old_size : length items ≡ suc (length name) = ap length c.loop-left.invariant.row ∙ row_size (drop left ps) name in
    let room : length items ≡ c.loop-left.row.len = ap length (sym c.as_mut_slice.ensures.value) ∙ c.as_mut_slice.ensures.len in
    let same : c.loop-left.row.len ≡ length new = sym room ∙ old_size ∙ sym new_size in
    record {
      within = omega arith;
      row = ap (λ (k : ℕ). take k (new ++ drop (length new) items)) same ∙ take-append_seam new (drop (length new) items) ∙ made;
    }

pub returns-then-need_more : goal.returns-then-need_more
returns-then-need_more c =
    sym (short_unfit c.args.pieces.now c.args.name.now (ltb-true (length c.args.name.now) (needed c.args.pieces.now) (sym c.need_more.ensures ∙ c.if-need_more.true)))

pub returns : goal.returns
returns c =
    let ps = c.args.pieces.now in
    let name = c.args.name.now in
    let none : c.loop-left.left ≡ 0 = omega arith in
    let row : c.loop-left.row.items ≡ row_of ps name = c.loop-left.invariant.row ∙ ap (λ (k : ℕ). row_of (drop k ps) name) none in
    c.first.ensures ∙ ap (λ (xs : List Bool). get_or xs 0 false) (c.as_slice.ensures.value ∙ row) ∙ row_first ps name
