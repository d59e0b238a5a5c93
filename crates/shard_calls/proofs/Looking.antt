-- What was read of a look.
use Rattle.std.specs.Prelude.{IfOk}
use Rattle.std.proofs.Common.{◌≡◌, List, [], ◌∷◌, Ok, Err, Result, sym, subst}
use Rattle.std.specs.List.{AllZip}
use Rattle.std.specs.declared.alloc.AllocError.{AllocError}
use Rattle.vschema.specs.declared.schema.Query.{Query}
use Rattle.shard.specs.ShardRecord.{ShardRecord}
use Rattle.shard.specs.Runs.{Opening, Run}
use Rattle.shard.specs.ReadOutcome.{ReadOutcome}
use Rattle.shard.specs.Shards.{AnswersQuery}
use Rattle.shard.specs.BegunReads.{HasBegunRead}
use Rattle.shard.specs.declared.snapshot.BegunRead.{BegunRead}
use Rattle.shard_calls.specs.inner.Scatter.{ShardRequest, ShardLook, ShardReply, IsLookFor, IsFinishOf, IsReadingOf}

-- what a begun read gives is an answer of each run at which it may have begun
pub finished : (q : Query) (given : Result BegunRead AllocError) (b : BegunRead) → given ≡ Ok b → (r : Result ReadOutcome AllocError)
    → IfOk r (λ x. (o : Opening) (run : Run) (s : ShardRecord) → HasBegunRead o run s q b → AnswersQuery o run s q x)
    → (o : Opening) (run : Run) (s : ShardRecord) → IfOk given (HasBegunRead o run s q) → IfOk r (AnswersQuery o run s q)
finished q given b is (Ok x) h o run s has = h o run s (subst (λ (g : Result BegunRead AllocError). IfOk g (HasBegunRead o run s q)) is has)
finished q given b is (Err e) h o run s has = h

-- the query is the one that was asked
pub read_so : (o : Opening) (run : Run) (s : ShardRecord) (b : Result BegunRead AllocError) (r : Result ReadOutcome AllocError) (p q : Query) → p ≡ q
    → (IfOk b (HasBegunRead o run s p) → IfOk r (AnswersQuery o run s p)) → IfOk b (HasBegunRead o run s q) → IfOk r (AnswersQuery o run s q)
read_so o run s b r p q same gives has =
    subst (λ (x : Query). IfOk r (AnswersQuery o run s x)) same (gives (subst (λ (x : Query). IfOk b (HasBegunRead o run s x)) (sym same) has))

-- each was looked at as it was asked, and then read as of its look
pub both_ways : {X Y Z : Type 0} (ask : X → ShardRequest) (look : Y → ShardLook) (give : Z → ShardReply) (o : Opening) (xs : List X) (ys : List Y) (zs : List Z)
    → AllZip (λ x y. IsLookFor o (ask x) (look y)) xs ys → AllZip (λ y z. IsFinishOf o (look y) (give z)) ys zs → AllZip (λ x z. IsReadingOf o (ask x) (give z)) xs zs
both_ways ask look give o [] [] [] looked read = tt
both_ways ask look give o [] [] (z ∷ zs) looked read = absurd read
both_ways ask look give o [] (y ∷ ys) zs looked read = absurd looked
both_ways ask look give o (x ∷ xs) [] zs looked read = absurd looked
both_ways ask look give o (x ∷ xs) (y ∷ ys) [] looked read = absurd read
both_ways ask look give o (x ∷ xs) (y ∷ ys) (z ∷ zs) looked read = (read.0 (ask x) looked.0, both_ways ask look give o xs ys zs looked.1 read.1)
