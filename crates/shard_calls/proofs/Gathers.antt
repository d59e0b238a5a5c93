-- Readings are joined into a session's pass one after the other.
use Rattle.std.specs.Prelude.{Contains}
use Rattle.std.proofs.Common.{◌≡◌, ℕ, true, List, [], ◌∷◌, ◌++◌, map, flat_map, Ok, Result, sym, refl, ap, subst, inl, ◌∙◌}
use Rattle.std.proofs.lemmas.List.{append-nil, append_assoc, map-append}
use mathlib.Core.List.{IsPrefix}
use Rattle.std.specs.declared.alloc.AllocError.{AllocError}
use Rattle.vt_value.specs.Values.{Row}
use Rattle.journal.specs.Runs.{IsLegal}
use Rattle.journal.specs.Views.{PassView, IsLonger}
use Rattle.journal.proofs.Fronts.{prefix_trans}
use Rattle.shard.specs.Entry.{Entry}
use Rattle.shard.specs.Runs.{Opening}
use Rattle.shard.proofs.Lists.{AllByRecursion-push, all-weaker, flat_map-push, In-right, Contains-from_In}
use Rattle.shard.specs.Reading.{Reading}
use Rattle.shard.specs.ReadOutcome.{ReadOutcome}
use Rattle.shard.specs.ReadOutcome.TheVariants as r
use Rattle.shard.specs.Entries.{slot_of, commit_of, MayFollow}
use Rattle.shard_calls.specs.declared.reply.ShardRead.{ShardRead}
use Rattle.shard_calls.specs.Answers.{HasGoneOn, HasGone}
use Rattle.shard_calls.specs.inner.Scatter.{ShardReply, is_read, IsGathered, IsStalled, given_rows, given_read, given_looks}

pub map-push : {X Y : Type 0} (f : X → Y) (xs : List X) (x : X) → map f (xs ++ x ∷ []) ≡ map f xs ++ f x ∷ []
map-push f [] x = refl
map-push f (y ∷ xs) x = ap (λ l. f y ∷ l) (map-push f xs x)

-- a pass that has seen a legal run has gone on by no look
pub stays : (o : Opening) (p : PassView Entry) → IsLegal (MayFollow o) p.seen → HasGoneOn o p [] p
stays o p legal = record {
  legal = legal;
  later = ([], append-nil p.seen);
  own = λ n mine. refl;
  pass = ap (λ (l : List (ℕ × ℕ)). record p { looks = l }) (sym (append-nil p.looks));
}

-- and by the looks of a pass that is joined to it
pub goes_on : (o : Opening) (p now q new : PassView Entry) (added : List (ℕ × ℕ)) → HasGoneOn o p added now
    → IsLonger slot_of commit_of (MayFollow o) now q new.seen → new ≡ record now { seen = new.seen; looks = now.looks ++ q.looks }
    → HasGoneOn o p (added ++ q.looks) new
goes_on o p now q new added gone longer pass = record {
  legal = longer.legal;
  later = prefix_trans p.seen now.seen new.seen gone.later longer.one;
  own = λ n mine. longer.own n (ap (λ (v : PassView Entry). v.session) gone.pass ∙ mine) ∙ gone.own n mine;
  pass =
      pass ∙ ap (λ (v : PassView Entry). record v { seen = new.seen; looks = v.looks ++ q.looks }) gone.pass
      ∙ ap (λ (l : List (ℕ × ℕ)). record p { seen = new.seen; looks = l }) (append_assoc p.looks added q.looks);
}

-- the readings so far are joined, and the rest is to come
pub record Gathers (o : Opening) (p now : PassView Entry) (pieces : List (List Row)) (reads : List ShardRead) (rest all : List ShardReply) : Type 0 where
  pub front : List ShardReply
  pub whole : front ++ rest ≡ all
  pub is : IsGathered o front p now
  pub pieces_are : pieces ≡ map given_rows front
  pub reads_are : reads ≡ map given_read front

module _ (o : Opening) (p now new : PassView Entry) (pieces : List (List Row)) (reads : List ShardRead) (g : ShardReply) (rest all : List ShardReply)
    (so_far : Gathers o p now pieces reads (g ∷ rest) all) (longer : IsLonger slot_of commit_of (MayFollow o) now g.pass new.seen)
    (pass : new ≡ record now { seen = new.seen; looks = now.looks ++ g.pass.looks }) where
  abbrev pub looks_so_far : List (ℕ × ℕ)
  looks_so_far = flat_map given_looks so_far.front

  pub gone_joined : HasGoneOn o p (looks_so_far ++ g.pass.looks) new
  gone_joined = goes_on o p now g.pass new looks_so_far so_far.is.gone longer pass

  pub has_gone : HasGone o p new
  has_gone = (looks_so_far ++ g.pass.looks, gone_joined)

  pub joined : (reading : Reading) → g.outcome ≡ Ok (r.Rows reading)
      → Gathers o p new (pieces ++ reading.rows ∷ []) (reads ++ record { slot = g.slot; entries = reading.entries } ∷ []) rest all
  joined reading ok = record {
    front = so_far.front ++ g ∷ [];
    whole = append_assoc so_far.front (g ∷ []) rest ∙ so_far.whole;
    is = record {
      gone = subst (λ l. HasGoneOn o p l new) (sym (flat_map-push given_looks so_far.front g)) gone_joined;
      seen =
          AllByRecursion-push (λ x. IsPrefix x.pass.seen new.seen) so_far.front g
          (all-weaker (λ x. IsPrefix x.pass.seen now.seen) (λ x. IsPrefix x.pass.seen new.seen) (λ x h. prefix_trans x.pass.seen now.seen new.seen h longer.one)
          so_far.front so_far.is.seen)
          longer.other;
      answered =
          AllByRecursion-push (λ x. is_read x.outcome ≡ true) so_far.front g so_far.is.answered
          (subst (λ (r : Result ReadOutcome AllocError). is_read r ≡ true) (sym ok) refl);
    };
    pieces_are =
        ap (λ (l : List (List Row)). l ++ reading.rows ∷ []) so_far.pieces_are
        ∙ ap (λ (r : Result ReadOutcome AllocError). map given_rows so_far.front ++ Rattle.shard_calls.specs.inner.Scatter.outcome_rows r ∷ []) (sym ok)
        ∙ sym (map-push given_rows so_far.front g);
    reads_are =
        ap (λ (l : List ShardRead). l ++ record { slot = g.slot; entries = reading.entries } ∷ []) so_far.reads_are
        ∙ ap (λ (r : Result ReadOutcome AllocError). map given_read so_far.front ++ record { slot = g.slot; entries = Rattle.shard_calls.specs.inner.Scatter.entries_in r } ∷ []) (sym ok)
        ∙ sym (map-push given_read so_far.front g);
  }

-- once none is to come, all are joined
pub ends : (o : Opening) (p now : PassView Entry) (pieces : List (List Row)) (reads : List ShardRead) (all : List ShardReply)
    → Gathers o p now pieces reads [] all → IsGathered o all p now × (pieces ≡ map given_rows all) × (reads ≡ map given_read all)
ends o p now pieces reads all g =
    let same : g.front ≡ all = sym (append-nil g.front) ∙ g.whole in (
      subst (λ gs. IsGathered o gs p now) same g.is,
      g.pieces_are ∙ ap (map given_rows) same,
      g.reads_are ∙ ap (map given_read) same,
    )

-- ---- the same along a loop over what the readings are told by

module _ {X : Type 0} (f : X → ShardReply) (o : Opening) (p : PassView Entry) where
  pub begins_at : (items all : List X) (pieces : List (List Row)) (reads : List ShardRead) → items ≡ all → pieces ≡ [] → reads ≡ []
      → IsLegal (MayFollow o) p.seen → Gathers o p p pieces reads (map f items) (map f all)
  begins_at items all pieces reads same none_made none_read legal =
      record {
        front = [];
        whole = ap (map f) same;
        is = record { gone = stays o p legal; seen = tt; answered = tt };
        pieces_are = none_made;
        reads_are = none_read;
      }

  next_given : (now : PassView Entry) (pieces : List (List Row)) (reads : List ShardRead) (items rest : List X) (x : X) (all : List ShardReply) → items ≡ x ∷ rest
      → Gathers o p now pieces reads (map f items) all → Gathers o p now pieces reads (f x ∷ map f rest) all
  next_given now pieces reads items rest x all is so_far = subst (λ (l : List X). Gathers o p now pieces reads (map f l) all) is so_far

  module _ (now new : PassView Entry) (pieces : List (List Row)) (reads : List ShardRead) (items rest : List X) (x : X) (all : List ShardReply)
      (is : items ≡ x ∷ rest) (so_far : Gathers o p now pieces reads (map f items) all)
      (longer : IsLonger slot_of commit_of (MayFollow o) now (f x).pass new.seen)
      (pass : new ≡ record now { seen = new.seen; looks = now.looks ++ (f x).pass.looks }) where
    pub gone_at : HasGone o p new
    gone_at = has_gone o p now new pieces reads (f x) (map f rest) all (next_given now pieces reads items rest x all is so_far) longer pass

    pub joined_at : (reading : Reading) → (f x).outcome ≡ Ok (r.Rows reading) → (made : List Row) → made ≡ reading.rows → (pieces' : List (List Row))
        → pieces' ≡ pieces ++ made ∷ [] → (reads' : List ShardRead)
        → reads' ≡ reads ++ record { slot = (f x).slot; entries = reading.entries } ∷ [] → Gathers o p new pieces' reads' (map f rest) all
    joined_at reading ok made made_is pieces' pieces_are reads' reads_are =
        let step = joined o p now new pieces reads (f x) (map f rest) all (next_given now pieces reads items rest x all is so_far) longer pass reading ok in
        subst (λ (l : List ShardRead). Gathers o p new pieces' l (map f rest) all) (sym reads_are)
        (subst (λ (l : List (List Row)). Gathers o p new l (reads ++ record { slot = (f x).slot; entries = reading.entries } ∷ []) (map f rest) all)
        (sym (pieces_are ∙ ap (λ (l : List Row). pieces ++ l ∷ []) made_is)) step)

  pub ends_at : (now : PassView Entry) (pieces : List (List Row)) (reads : List ShardRead) (items all : List X) → items ≡ []
      → Gathers o p now pieces reads (map f items) (map f all)
      → IsGathered o (map f all) p now × (pieces ≡ map given_rows (map f all)) × (reads ≡ map given_read (map f all))
  ends_at now pieces reads items all none so_far =
      ends o p now pieces reads (map f all) (subst (λ (l : List X). Gathers o p now pieces reads (map f l) (map f all)) none so_far)

pub map_twice : {X Y Z : Type 0} (f : Y → Z) (g : X → Y) (xs : List X) → map f (map g xs) ≡ map (λ x. f (g x)) xs
map_twice f g [] = refl
map_twice f g (x ∷ xs) = ap (λ l. f (g x) ∷ l) (map_twice f g xs)

-- a reading of a shard that doesn't serve ends it
pub stalled_at : {X : Type 0} (f : X → ShardReply) (o : Opening) (p now new : PassView Entry) (pieces : List (List Row)) (reads : List ShardRead) (items rest : List X) (x : X)
    (all : List X) → items ≡ x ∷ rest → Gathers o p now pieces reads (map f items) (map f all) → IsLonger slot_of commit_of (MayFollow o) now (f x).pass new.seen
    → (f x).outcome ≡ Ok r.NotServing → IsStalled (map f all) new
stalled_at f o p now new pieces reads items rest x all is so_far longer held_up = record {
  given = f x;
  there =
      subst (λ l. Contains l (f x)) (ap (λ l. so_far.front ++ map f l) (sym is) ∙ so_far.whole)
      (Contains-from_In (f x) (so_far.front ++ f x ∷ map f rest) (In-right (f x) so_far.front (f x ∷ map f rest) (inl refl)));
  held_up = held_up;
  seen = longer.other;
}

-- ---- a pass that goes on by looks alone, of whichever came of them

pub has_joined : (o : Opening) (p now q new : PassView Entry) → HasGone o p now → IsLonger slot_of commit_of (MayFollow o) now q new.seen
    → new ≡ record now { seen = new.seen; looks = now.looks ++ q.looks } → HasGone o p new
has_joined o p now q new (added, gone) longer pass = (added ++ q.looks, goes_on o p now q new added gone longer pass)

-- one of all readings was of a shard that doesn't serve
pub stalled_there : {X : Type 0} (f : X → ShardReply) (o : Opening) (now new : PassView Entry) (front items rest : List X) (x : X) (all : List X) → front ++ items ≡ all
    → items ≡ x ∷ rest → IsLonger slot_of commit_of (MayFollow o) now (f x).pass new.seen → (f x).outcome ≡ Ok r.NotServing → IsStalled (map f all) new
stalled_there f o now new front items rest x all whole is longer held_up = record {
  given = f x;
  there =
      subst (λ l. Contains l (f x)) (sym (map-append f front (x ∷ rest)) ∙ ap (λ l. map f (front ++ l)) (sym is) ∙ ap (map f) whole)
      (Contains-from_In (f x) (map f front ++ f x ∷ map f rest) (In-right (f x) (map f front) (f x ∷ map f rest) (inl refl)));
  held_up = held_up;
  seen = longer.other;
}
