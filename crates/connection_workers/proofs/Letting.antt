-- One connection more.
use Rattle.std.proofs.Common.{◌≡◌, ℕ, zero, suc, ◌+◌, List, [], ◌∷◌, ◌++◌, map, replicate, sym, refl, ap, ◌∙◌, append_assoc, add-one}
use Rattle.std.proofs.lemmas.List.{append-nil, map-append}
use Rattle.connection_workers.specs.declared.pool.Job.{Job}
use Rattle.connection_workers.specs.declared.pool.Job.TheVariants.{Serve, Stop}
use Rattle.connection_workers.specs.Letting as t
use Rattle.connection_workers.specs.Letting.{HasYielded, GaveAll}
use Rattle.connection_workers.specs.inner.Letting.{EachWas, HasLetIn, HasBegunConnections}

module _ {X : Type 0} where
  -- What a worker took so far were connections, of each of which the conversation was begun.
  pub record Begun (P : X → Type 0) (before now : List (Job X)) : Type 0 where
    pub taken : List X
    pub own : now ≡ before ++ map Serve taken
    pub each : EachWas P taken

  -- What an entrance gave so far was put.
  pub record LetIn {E : Type 0} (gives : E → X → E → Type 0) (from now : E) (before after : List (Job X)) : Type 0 where
    pub given : List X
    pub gave : HasYielded gives from given now
    pub put : after ≡ before ++ map Serve given

  each_more : (P : X → Type 0) (xs : List X) (x : X) → EachWas P xs → P x → EachWas P (xs ++ x ∷ [])
  each_more P [] x each last = (last, tt)
  each_more P (y ∷ xs) x each last = (each.0, each_more P xs x each.1 last)

  job_more : (before now after : List (Job X)) (xs : List X) (x : X) → now ≡ before ++ map Serve xs → after ≡ now ++ Serve x ∷ []
      → after ≡ before ++ map Serve (xs ++ x ∷ [])
  job_more before now after xs x so is = is ∙ (ap (λ (l : List (Job X)). l ++ Serve x ∷ []) so
      ∙ (append_assoc before (map Serve xs) (Serve x ∷ []) ∙ ap (λ (l : List (Job X)). before ++ l) (sym (map-append Serve xs (x ∷ [])))))

  pub none_begun : (P : X → Type 0) (before : List (Job X)) → Begun P before before
  none_begun P before = record { taken = []; own = sym (append-nil before); each = tt }

  pub one_begun : (P : X → Type 0) (before now after : List (Job X)) (x : X) → Begun P before now → after ≡ now ++ Serve x ∷ [] → P x → Begun P before after
  one_begun P before now after x so is last = record {
    taken = so.taken ++ x ∷ [];
    own = job_more before now after so.taken x so.own is;
    each = each_more P so.taken x so.each last;
  }

  pub all_begun : (P : X → Type 0) (before now after : List (Job X)) → Begun P before now → after ≡ now ++ Stop ∷ [] → HasBegunConnections before after P
  all_begun P before now after so is = record {
    taken = so.taken;
    own = is ∙ ap (λ (l : List (Job X)). l ++ Stop ∷ []) so.own;
    each = so.each;
  }

  pub none_let_in : {E : Type 0} (gives : E → X → E → Type 0) (from : E) (before : List (Job X)) → LetIn gives from from before before
  none_let_in gives from before = record { given = []; gave = t.none; put = sym (append-nil before) }

  pub one_let_in : {E : Type 0} (gives : E → X → E → Type 0) (from mid now : E) (before then after : List (Job X)) (x : X) → LetIn gives from mid before then
      → gives mid x now → after ≡ then ++ Serve x ∷ [] → LetIn gives from now before after
  one_let_in gives from mid now before then after x so one is = record {
    given = so.given ++ x ∷ [];
    gave = t.next so.gave one;
    put = job_more before then after so.given x so.put is;
  }

  pub all_let_in : {E : Type 0} (gives : E → X → E → Type 0) (ends : E → E → Type 0) (workers : ℕ) (from last now : E) (before then after : List (Job X))
      → LetIn gives from last before then → ends last now → after ≡ then ++ replicate workers Stop → HasLetIn gives ends workers from now before after
  all_let_in gives ends workers from last now before then after so ended is = record {
    given = so.given;
    all = record { last = last; gave = so.gave; ended = ended };
    put = is ∙ ap (λ (l : List (Job X)). l ++ replicate workers Stop) so.put;
  }

  stops : ℕ → List (Job X)
  stops n = replicate n Stop

  stop_more : (n : ℕ) → stops n ++ Stop ∷ [] ≡ stops (suc n)
  unfolding stops
  stop_more zero = refl
  stop_more (suc n) = ap (λ (l : List (Job X)). Stop ∷ l) (stop_more n)

  pub no_stop : (before : List (Job X)) → before ≡ before ++ replicate 0 Stop
  no_stop before = sym (append-nil before)

  pub one_stop : (n : ℕ) (before now after : List (Job X)) → now ≡ before ++ replicate n Stop → after ≡ now ++ Stop ∷ [] → after ≡ before ++ replicate (n + 1) Stop
  unfolding stops
  one_stop n before now after so is = rw add-one (is ∙ (ap (λ (l : List (Job X)). l ++ Stop ∷ []) so ∙ (append_assoc before (replicate n Stop) (Stop ∷ [])
      ∙ ap (λ (l : List (Job X)). before ++ l) (stop_more n))))
