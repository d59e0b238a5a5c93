-- Each step keeps the order.
use Rattle.std.proofs.Common.{◌≡◌, ◌≢◌, ◌+◌, ◌<◌, ◌⊎◌, inl, inr, ℕ, zero, suc, true, true≢false, List, [], ◌∷◌, ◌++◌, length, set, sym, refl, ap, ◌∙◌, subst, ⊎_elim, append_assoc, arith}
use mathlib.Core.Option.{some, some-ne-none, some-injective}
use lib.ListN.{get_elem?}
use Rattle.std.proofs.lemmas.List.{map-append, append-nil, length-append}
use Rattle.crossbeam_queue.specs.Fifo.{Pushes, Pops, Forks, Merges, Learns}
use Rattle.crossbeam_queue.proofs.Lists.{at_set}
use Rattle.connection_workers.specs.declared.queue.Joined.{Joined}
use Rattle.connection_workers.specs.declared.queue.QueueView.{QueueView}
use Rattle.connection_workers.specs.Order.{items_of, taken_by, StartsWith, Each, IsJoined, Fits, InOrder, first_view, with_one_more, new_view, with_joined, no_queue_view, Puts, Takes, IsCompared, HeldThen}
use Rattle.connection_workers.proofs.Lists.{one_more, begins_itself, begins_through, IsLonger, longer_begins, each_more, each_last}
use Rattle.connection_workers.proofs.Takings.{taken_same, taken_other, taken_between, none_before}

module _ {T : Type 0} where
  abbrev All : (ℕ → QueueView T → Type 0) → List (QueueView T) → Type 0
  All F views = (pass : ℕ) (v : QueueView T) → get_elem? views pass ≡ some v → F pass v

  all_set : (F : ℕ → QueueView T → Type 0) (views : List (QueueView T)) (pass : ℕ) (w : QueueView T) → F pass w → ((j : ℕ) (u : QueueView T) → j ≢ pass → get_elem? views j ≡ some u → F j u) → All F (set views pass w)
  all_set F views pass w mine others j u e = ⊎_elim (λ (x : (j ≡ pass) × (w ≡ u)). subst (λ (y : ℕ × QueueView T). F y.0 y.1) (λ i. (sym x.0 i, x.1 i)) mine)
      (λ (x : (j ≢ pass) × (get_elem? views j ≡ some u)). others j u x.0 x.1) (at_set views pass j w u e)

  length_set : (views : List (QueueView T)) (pass : ℕ) (w : QueueView T) → length (set views pass w) ≡ length views
  length_set [] pass w = refl
  length_set (x ∷ xs) zero w = refl
  length_set (x ∷ xs) (suc n) w = ap suc (length_set xs n w)

  in_range : (views : List (QueueView T)) (pass : ℕ) (v : QueueView T) → get_elem? views pass ≡ some v → pass < length views
  in_range [] pass v e = absurd (some-ne-none v (sym e))
  in_range (x ∷ xs) zero v e = omega arith
  in_range (x ∷ xs) (suc n) v e = let r = in_range xs n v e in omega arith

  last_or_before : (l : List (QueueView T)) (a b : QueueView T) (j : ℕ) → get_elem? (l ++ a ∷ []) j ≡ some b → (get_elem? l j ≡ some b) ⊎ ((j ≡ length l) × (a ≡ b))
  last_or_before [] a b zero e = inr (refl, some-injective a b e)
  last_or_before [] a b (suc j) e = absurd (some-ne-none b (sym e))
  last_or_before (x ∷ xs) a b zero e = inl e
  last_or_before (x ∷ xs) a b (suc j) e = ⊎_elim (λ y. inl y) (λ (y : (j ≡ length xs) × (a ≡ b)). inr (ap suc y.0, y.1)) (last_or_before xs a b j e)

  -- two passes that put are one
  one_acceptor : {put : List T} {taken : List (ℕ × T)} {joined : List (Joined T)} {passes : ℕ} (pass j : ℕ) (v u : QueueView T)
      → Fits put taken joined passes pass v → Fits put taken joined passes j u → v.puts ≡ true → u.puts ≡ true → j ≡ pass
  one_acceptor pass j v u mine their p q = (their.puts q).first ∙ sym (mine.puts p).first

  still_joined : (order taken : List (ℕ × T)) (e : Joined T) → StartsWith order taken → IsJoined taken e → taken_by e.number order ≡ e.own → IsJoined order e
  still_joined order taken e more j own = record { own = own; theirs = begins_through order taken e.taken more j.theirs; before = begins_through order taken e.before more j.before }

  pub begins : InOrder {T = T} [] (first_view ∷ [])
  begins = (
    [],
    [],
    [],
    refl,
    (λ j u e. ⊎_elim (λ (y : get_elem? [] j ≡ some u). absurd (some-ne-none u (sym y)))
        (λ (y : (j ≡ 0) × (first_view ≡ u)). subst (Fits [] [] [] 1 j) y.1 (record {
          puts = λ _. record { first = y.0; put = refl; passes = refl; joined = refl; each = tt };
          takes = λ _. record { number = sym y.0; all = refl; seen = refl; apart = tt };
          put = ([], refl);
          taken = ([], refl);
        })) (last_or_before [] first_view u j e)),
    (λ by far. refl),
    tt,
  )

  pub puts_keep : (n pass : ℕ) (v : QueueView T) (x : T) → v.puts ≡ true → Pushes InOrder n pass v x (Puts v x)
  puts_keep n pass v x may items views room h at =
      let w : QueueView T = record v { put = v.put ++ x ∷ [] } in
      let put : List T = h.0 ++ x ∷ [] in
      let mine = h.4 pass v at in
      let l : length (set views pass w) ≡ length views = length_set views pass w in
      let all : v.put ++ x ∷ [] ≡ put = ap (λ l. l ++ x ∷ []) (mine.puts may).put in (
        w,
        (
          put,
          h.1,
          h.2,
          ap (λ l. l ++ x ∷ []) h.3 ∙ append_assoc (items_of h.1) items (x ∷ []),
          subst (λ n. All (Fits put h.1 h.2 n) (set views pass w)) (sym l) (all_set (Fits put h.1 h.2 (length views)) views pass w
              (record {
                puts = λ p. record { first = (mine.puts may).first; put = all; passes = (mine.puts may).passes; joined = (mine.puts may).joined; each = (mine.puts may).each };
                takes = λ p. let t = mine.takes p in record { number = t.number; all = t.all; seen = t.seen; apart = t.apart };
                put = ([], sym all ∙ sym (append-nil (v.put ++ x ∷ [])));
                taken = mine.taken;
              })
              (λ j u other e. let their = h.4 j u e in record {
                puts = λ p. absurd (other (one_acceptor pass j v u mine their may p));
                takes = their.takes;
                put = one_more h.0 u.put x their.put;
                taken = their.taken;
              })),
          (λ by far. h.5 by (omega arith)),
          subst (λ n. Each (λ (e : Joined T). (e.number < n) × (taken_by e.number h.1 ≡ e.own)) h.2) (sym l) h.6,
        ),
        refl,
      )

  pub takes_keep : (pass : ℕ) (v : QueueView T) → v.takes ≡ true → Pops InOrder pass v (Takes v)
  takes_keep pass v may x items views h at =
      let order : List (ℕ × T) = h.1 ++ (pass, x) ∷ [] in
      let mine = h.4 pass v at in
      let taker = mine.takes may in
      let w : QueueView T = record v { put = h.0; taken = order; own = v.own ++ x ∷ [] } in
      let l : length (set views pass w) ≡ length views = length_set views pass w in
      let whole : h.0 ≡ items_of order ++ items =
      h.3 ∙ sym (append_assoc (items_of h.1) (x ∷ []) items) ∙ ap (λ l. l ++ items) (sym (map-append (λ (y : ℕ × T). y.1) h.1 ((pass, x) ∷ []))) in
      let own : taken_by pass order ≡ v.own ++ x ∷ [] = taken_same pass h.1 x ∙ ap (λ l. l ++ x ∷ []) taker.all in
      let more : StartsWith order h.1 = ((pass, x) ∷ [], refl) in
      let still : Each (λ (e : Joined T). taken_by e.number order ≡ e.own) h.2 =
      each_more (λ e apart (is : (e.number < length views) × (taken_by e.number h.1 ≡ e.own)). taken_other pass e.number h.1 x apart ∙ is.1) h.2 taker.apart h.6 in
      let begins_seen : StartsWith order v.taken = begins_through order h.1 v.taken more mine.taken in (
        w,
        (
          h.0,
          order,
          h.2,
          whole,
          subst (λ n. All (Fits h.0 order h.2 n) (set views pass w)) (sym l) (all_set (Fits h.0 order h.2 (length views)) views pass w
              (record {
                puts = λ p. record { first = (mine.puts p).first; put = refl; passes = (mine.puts p).passes; joined = (mine.puts p).joined; each = each_more (λ e j is. still_joined order v.taken e begins_seen j is) h.2 (mine.puts p).each still };
                takes = λ _. record { number = taker.number; all = own; seen = own; apart = taker.apart };
                put = begins_itself h.0;
                taken = begins_itself order;
              })
              (λ j u other e. let their = h.4 j u e in record {
                puts = their.puts;
                takes = λ p. let t = their.takes p in record { number = t.number; all = taken_other pass j h.1 x other ∙ t.all; seen = t.seen; apart = t.apart };
                put = their.put;
                taken = one_more h.1 u.taken (pass, x) their.taken;
              })),
          (λ by far. let r = in_range views pass v at in taken_other pass by h.1 x (λ e. absurd (omega arith)) ∙ h.5 by (omega arith)),
          subst (λ n. Each (λ (e : Joined T). (e.number < n) × (taken_by e.number order ≡ e.own)) h.2) (sym l)
              (each_more (λ (e : Joined T) (is : (e.number < length views) × (taken_by e.number h.1 ≡ e.own)) own. (is.0, own)) h.2 h.6 still),
        ),
        record {
          between = mine.taken.0;
          waiting = items;
          next = ap (λ l. l ++ (pass, x) ∷ []) mine.taken.1 ∙ ap (λ n. (v.taken ++ mine.taken.0) ++ (n, x) ∷ []) (sym taker.number);
          beginning = whole;
          later = mine.put;
          own = refl;
          once = ap (λ n. taken_by n order) taker.number ∙ own;
          same = refl;
        },
      )

  pub forks_keep : (pass : ℕ) (v : QueueView T) → v.puts ≡ true → Forks InOrder pass v (with_one_more v) (new_view v)
  forks_keep pass v may items views h at =
      let left : QueueView T = with_one_more v in
      let right : QueueView T = new_view v in
      let mine = h.4 pass v at in
      let acceptor = mine.puts may in
      let vs : List (QueueView T) = set views pass left in
      let l : length vs ≡ length views = length_set views pass left in
      let count : length (vs ++ right ∷ []) ≡ length views + 1 = omega (arith, length-append vs (right ∷ [])) in
      let ended = h.6 in
      let old : All (Fits h.0 h.1 h.2 (length views + 1)) vs = all_set (Fits h.0 h.1 h.2 (length views + 1)) views pass left
      (record {
        puts = λ _. record { first = acceptor.first; put = acceptor.put; passes = ap (λ n. n + 1) acceptor.passes; joined = acceptor.joined; each = acceptor.each };
        takes = λ p. let t = mine.takes p in record { number = t.number; all = t.all; seen = t.seen; apart = t.apart };
        put = mine.put;
        taken = mine.taken;
      })
      (λ j u other e. let their = h.4 j u e in record {
        puts = λ p. absurd (other (one_acceptor pass j v u mine their may p));
        takes = their.takes;
        put = their.put;
        taken = their.taken;
      }) in
      let none : taken_by v.passes h.1 ≡ [] = h.5 v.passes (omega (arith, acceptor.passes)) in
      let new : Fits h.0 h.1 h.2 (length views + 1) v.passes right = record {
        puts = λ p. absurd (true≢false (sym p));
        takes = λ _. record {
          number = refl;
          all = none;
          seen = none_before v.passes h.1 v.taken mine.taken none;
          apart = each_more (λ (e : Joined T) (is : (e.number < length views) × (taken_by e.number h.1 ≡ e.own)) (_ : (e.number < length views) × (taken_by e.number h.1 ≡ e.own)). λ same. omega (arith, is.0, same, acceptor.passes)) h.2 ended ended;
        };
        put = mine.put;
        taken = mine.taken;
      } in (
        h.0,
        h.1,
        h.2,
        h.3,
        subst (λ n. All (Fits h.0 h.1 h.2 n) (vs ++ right ∷ [])) (sym count) (λ j u e. ⊎_elim (λ y. old j u y)
            (λ (y : (j ≡ length vs) × (right ≡ u)).
            let at_end : v.passes ≡ j = acceptor.passes ∙ sym l ∙ sym y.0 in
            subst (λ (z : ℕ × QueueView T). Fits h.0 h.1 h.2 (length views + 1) z.0 z.1) (λ i. (at_end i, y.1 i)) new)
            (last_or_before vs right u j e)),
        (λ by far. h.5 by (omega arith)),
        subst (λ n. Each (λ (e : Joined T). (e.number < n) × (taken_by e.number h.1 ≡ e.own)) h.2) (sym count)
            (each_more (λ (e : Joined T) (is : (e.number < length views) × (taken_by e.number h.1 ≡ e.own)) (_ : (e.number < length views) × (taken_by e.number h.1 ≡ e.own)). (omega (arith, is.0), is.1)) h.2 ended ended),
      )

  pub merges_keep : (pass : ℕ) (v : QueueView T) (other : ℕ) (w : QueueView T) → v.puts ≡ true → w.takes ≡ true → Merges InOrder pass v other w (with_joined v w) no_queue_view
  merges_keep pass v other w a b items views h at two at' =
      let both : QueueView T = with_joined v w in
      let vs : List (QueueView T) = set views pass both in
      let was : get_elem? views other ≡ some w =
      ⊎_elim (λ (x : (other ≡ pass) × (both ≡ w)). absurd (two x.0)) (λ (x : (other ≢ pass) × (get_elem? views other ≡ some w)). x.1) (at_set views pass other both w at') in
      let mine = h.4 pass v at in
      let theirs = h.4 other w was in
      let acceptor = mine.puts a in
      let taker = theirs.takes b in
      let one : Joined T = record { number = w.number; own = w.own; taken = w.taken; before = v.taken } in
      let ended : List (Joined T) = h.2 ++ one ∷ [] in
      let l : length (set vs other no_queue_view) ≡ length views = length_set vs other no_queue_view ∙ length_set views pass both in
      let longer : IsLonger h.1 v.taken w.taken = longer_begins h.1 v.taken w.taken mine.taken theirs.taken in
      let all : taken_by w.number h.1 ≡ w.own = ap (λ n. taken_by n h.1) taker.number ∙ taker.all in
      let old : Each (IsJoined both.taken) h.2 =
      each_more (λ e (j : IsJoined v.taken e) (is : (e.number < length views) × (taken_by e.number h.1 ≡ e.own)).
      still_joined both.taken v.taken e longer.left j (taken_between e.number h.1 both.taken v.taken e.own longer.whole longer.left j.own is.1))
      h.2 acceptor.each h.6 in
      let new : IsJoined both.taken one = record {
        own = taken_between w.number h.1 both.taken w.taken w.own longer.whole longer.right (ap (λ n. taken_by n w.taken) taker.number ∙ taker.seen) all;
        theirs = longer.right;
        before = longer.left;
      } in
      let Now : ℕ → QueueView T → Type 0 = λ j u. j ≢ other → Fits h.0 h.1 ended (length views) j u in
      let now : All Now vs = all_set Now views pass both
      (λ _. record {
        puts = λ p. record {
          first = acceptor.first;
          put = acceptor.put;
          passes = acceptor.passes;
          joined = ap (λ l. l ++ one ∷ []) acceptor.joined;
          each = each_last (IsJoined both.taken) h.2 one old new;
        };
        takes = λ p. let t = mine.takes p in record {
          number = t.number;
          all = t.all;
          seen = taken_between pass h.1 both.taken v.taken v.own longer.whole longer.left t.seen t.all;
          apart = each_last (λ (e : Joined T). e.number ≢ pass) h.2 one t.apart (λ same. two (sym taker.number ∙ same));
        };
        put = mine.put;
        taken = longer.whole;
      })
      (λ j u else e apart. let their = h.4 j u e in record {
        puts = λ p. absurd (else (one_acceptor pass j v u mine their a p));
        takes = λ p. let t = their.takes p in record {
          number = t.number;
          all = t.all;
          seen = t.seen;
          apart = each_last (λ (e : Joined T). e.number ≢ j) h.2 one t.apart (λ same. apart (sym same ∙ taker.number));
        };
        put = their.put;
        taken = their.taken;
      }) in (
        h.0,
        h.1,
        ended,
        h.3,
        subst (λ n. All (Fits h.0 h.1 ended n) (set vs other no_queue_view)) (sym l) (all_set (Fits h.0 h.1 ended (length views)) vs other no_queue_view
            (record {
              puts = λ p. absurd (true≢false (sym p));
              takes = λ p. absurd (true≢false (sym p));
              put = (h.0, refl);
              taken = (h.1, refl);
            })
            (λ j u apart e. now j u e apart)),
        (λ by far. h.5 by (omega arith)),
        subst (λ n. Each (λ (e : Joined T). (e.number < n) × (taken_by e.number h.1 ≡ e.own)) ended) (sym l)
            (each_last (λ (e : Joined T). (e.number < length views) × (taken_by e.number h.1 ≡ e.own)) h.2 one h.6 (omega (arith, taker.number, in_range views other w was), all)),
      )

  pub compares : (pass : ℕ) (v : QueueView T) → v.puts ≡ true → Learns InOrder pass v (λ items. IsCompared v)
  compares pass v may items views h at =
      let mine = h.4 pass v at in
      let acceptor = mine.puts may in
      record {
        waiting = items_of mine.taken.0 ++ items;
        beginning =
            acceptor.put ∙ h.3 ∙ ap (λ l. items_of l ++ items) mine.taken.1
            ∙ ap (λ l. l ++ items) (map-append (λ (y : ℕ × T). y.1) v.taken mine.taken.0) ∙ append_assoc (items_of v.taken) (items_of mine.taken.0) items;
        each = subst (Each (IsJoined v.taken)) (sym acceptor.joined) acceptor.each;
        others = λ by far. none_before by h.1 v.taken mine.taken (h.5 by (omega (arith, acceptor.passes)));
      }

  pub learns : (pass : ℕ) (v : QueueView T) → Learns InOrder pass v (HeldThen v)
  learns pass v items views h at = let mine = h.4 pass v at in (h.0, h.1, mine.put, mine.taken, h.3, λ p. (mine.puts p).put)

  -- a pass that puts still does after it joined another
  pub puts_after : (v u w : QueueView T) → w ≡ with_joined v u → v.puts ≡ true → w.puts ≡ true
  puts_after v u w joined may = ap (λ (x : QueueView T). x.puts) joined ∙ may
