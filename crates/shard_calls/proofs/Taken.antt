-- The shards that are asked, one after the other.
use Rattle.std.proofs.Common.{◌≡◌, ℕ, ◌+◌, Bool, true, false, cond, List, [], ◌∷◌, ◌++◌, map, length, sym, ap, subst, ◌∙◌, arith}
use Rattle.std.proofs.lemmas.List.{append_assoc, length-map}
use Rattle.vschema.specs.declared.schema.Table.{Table}
use Rattle.planner.specs.declared.plans.Plan.{Plan}
use Rattle.shard.specs.Entry.{Entry}
use Rattle.planner.specs.Routes.{takes}
use Rattle.serving.specs.Partitions.{Seat}
use Rattle.shard_calls.specs.Answers.{needed}
use Rattle.shard_calls.specs.inner.Scatter.{ShardRequest, asked, all_asked, AreConsecutive}
use Rattle.shard_calls.proofs.Gathers.{map-push}

module _ (t : Table) (p : Plan) (before : List Entry) (xs rest : List Seat) (x : Seat) (is : xs ≡ x ∷ rest) (done all : List ShardRequest)
    (so_far : done ++ all_asked t p before xs ≡ all) where
  cut : (b : Bool) → takes t p.route x.1 ≡ b
      → all_asked t p before xs ≡ map (asked t p before) (cond b (x ∷ needed t p.route rest) (needed t p.route rest))
  cut b e =
      ap (λ (l : List Seat). all_asked t p before l) is
      ∙ ap (λ (c : Bool). map (asked t p before) (cond c (x ∷ needed t p.route rest) (needed t p.route rest))) e

  pub asked_next : takes t p.route x.1 ≡ true → (done ++ asked t p before x ∷ []) ++ all_asked t p before rest ≡ all
  asked_next e = append_assoc done (asked t p before x ∷ []) (all_asked t p before rest) ∙ ap (λ l. done ++ l) (sym (cut true e)) ∙ so_far

  pub skipped_next : takes t p.route x.1 ≡ false → done ++ all_asked t p before rest ≡ all
  skipped_next e = ap (λ l. done ++ l) (sym (cut false e)) ∙ so_far

-- a job was pushed that asks the next shard
pub asked_pushed : {J : Type 0} (ask : J → ShardRequest) (t : Table) (p : Plan) (before : List Entry) (xs rest : List Seat) (x : Seat) → xs ≡ x ∷ rest
    → (jobs jobs' : List J) (job : J) → jobs' ≡ jobs ++ job ∷ [] → ask job ≡ asked t p before x → takes t p.route x.1 ≡ true → (all : List ShardRequest)
    → map ask jobs ++ all_asked t p before xs ≡ all → map ask jobs' ++ all_asked t p before rest ≡ all
asked_pushed ask t p before xs rest x is jobs jobs' job pushed asks is_needed all so_far =
    ap (λ l. map ask l ++ all_asked t p before rest) pushed
    ∙ ap (λ l. l ++ all_asked t p before rest) (map-push ask jobs job ∙ ap (λ a. map ask jobs ++ a ∷ []) asks)
    ∙ asked_next t p before xs rest x is (map ask jobs) all so_far is_needed

-- one more number
pub numbered_next : (n : ℕ) (xs : List ℕ) (x : ℕ) → AreConsecutive n xs → x ≡ n + length xs → AreConsecutive n (xs ++ x ∷ [])
numbered_next n [] x all is = (omega (arith, is), tt)
numbered_next n (y ∷ xs) x all is = (all.0, numbered_next (n + 1) xs x all.1 (omega (arith, is)))

pub numbered_pushed : {J : Type 0} (turn : J → ℕ) (jobs jobs' : List J) (job : J) → jobs' ≡ jobs ++ job ∷ [] → turn job ≡ length jobs
    → AreConsecutive 0 (map turn jobs) → AreConsecutive 0 (map turn jobs')
numbered_pushed turn jobs jobs' job pushed is all =
    subst (λ l. AreConsecutive 0 (map turn l)) (sym pushed)
    (subst (AreConsecutive 0) (sym (map-push turn jobs job))
    (numbered_next 0 (map turn jobs) (turn job) all (let h = length-map jobs turn in omega (arith, is, h))))
