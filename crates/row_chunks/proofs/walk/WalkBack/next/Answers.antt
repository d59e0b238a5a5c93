use Rattle.std.proofs.Common.{◌≡◌, ◌∙◌, ◌∷◌, ◌++◌, [], ap, sym, rules, List}
use Rattle.std.proofs.lemmas.List.{append-nil, append_assoc}
use Rattle.std.specs.Map.Iter.{deref_pair}
use Rattle.row_chunks.specs.Chunks.{ChunkView, all_of}
use Rattle.row_chunks.proofs.Shelf.{all_between, all_last}
use Rattle.row_chunks.proofs.walk.WalkBack.next.Goals as goal

pub returns-in-Some-next_back-2 : goal.returns-in-Some-next_back-2
returns-in-Some-next_back-2 g c =
    let parts : c.loop-chunk.self-inside.rest.now ≡ c.in-Some-split_last.rest.now ++ c.in-Some-split_last.chunk.now ∷ [] = search rules in
    let all = c.range-last.ensures.between tt ∙ all_between g.met.K.Ord.total c.rows.result.now.entries ∙ c.rows.ensures in
    let steps : c.range-last.result ≡ c.next_back-in-Some-split_last.new.self ++ deref_pair c.in-Some-next_back-2.entry ∷ [] = c.in-Some-next_back-2.ensures.steps in
    sym c.loop-chunk.invariant.0
    ∙ ap (λ (cs : List (ChunkView _ _)). all_of cs) parts
    ∙ all_last g.met.K.Ord.total c.in-Some-split_last.rest.now c.in-Some-split_last.chunk.now
    ∙ ap (λ (es : List _). all_of c.in-Some-split_last.rest.now ++ es) (sym all ∙ steps)
    ∙ sym (append_assoc (all_of c.in-Some-split_last.rest.now) c.next_back-in-Some-split_last.new.self (deref_pair c.in-Some-next_back-2.entry ∷ []))

pub loop-chunk-preserved : goal.loop-chunk-preserved
loop-chunk-preserved g c =
    let parts : c.loop-chunk.self-inside.rest.now ≡ c.in-Some-split_last.rest.now ++ c.in-Some-split_last.chunk.now ∷ [] = search rules in
    let all = c.range-last.ensures.between tt ∙ all_between g.met.K.Ord.total c.rows.result.now.entries ∙ c.rows.ensures in
    let none = append-nil (all_of c.in-Some-split_last.rest.now) in
    let empty : c.in-Some-split_last.chunk.now.entries ≡ [] = search rules in
    let left : all_of c.in-Some-split_last.rest.now ≡ c.args.self.now =
    sym none
    ∙ ap (λ (es : List _). all_of c.in-Some-split_last.rest.now ++ es) (sym empty)
    ∙ sym (all_last g.met.K.Ord.total c.in-Some-split_last.rest.now c.in-Some-split_last.chunk.now)
    ∙ ap (λ (cs : List (ChunkView _ _)). all_of cs) (sym parts)
    ∙ c.loop-chunk.invariant.0 in
    search rules
