-- What is put into a queue and what is taken out of it.
use Rattle.std.specs.Prelude.{◌≡◌, ◌≢◌, ℕ, Bool, true, false, ◌+◌, ◌<◌, ◌≤◌, ◌==◌, nat_le, if◌then◌else◌, List, [], ◌∷◌, ◌++◌, length, map}
use mathlib.Core.Option.{some}
use lib.ListN.{get_elem?}
use Rattle.connection_workers.specs.declared.queue.Joined.{Joined}
use Rattle.connection_workers.specs.declared.queue.QueueView.{QueueView}

abbrev pub StartsWith : {A : Type 0} → List A → List A → Type 0
StartsWith {A} whole front = (rest : List A) × (whole ≡ front ++ rest)

abbrev pub longer : {A : Type 0} → List A → List A → List A
longer xs ys = if nat_le (length xs) (length ys) then ys else xs

abbrev pub Each : {A : Type 0} → (A → Type 0) → List A → Type 0
Each P [] = Unit {0}
Each P (x ∷ xs) = P x × Each P xs

module _ {T : Type 0} where
  -- What was taken is a list of pairs: the number of the pass that took, and what it took.
  abbrev pub items_of : List (ℕ × T) → List T
  items_of taken = map (λ x. x.1) taken

  abbrev pub with_first : Bool → T → List T → List T
  with_first true x xs = x ∷ xs
  with_first false x xs = xs

  -- what one pass took
  abbrev pub taken_by : ℕ → List (ℕ × T) → List T
  taken_by by [] = []
  taken_by by (x ∷ taken) = with_first (x.0 == by) x.1 (taken_by by taken)

  -- Of what was taken so far, a pass that was joined took just what it knew that it took; and what either had seen is a prefix of it.
  pub record IsJoined (taken : List (ℕ × T)) (e : Joined T) : Type 0 where
    pub own : taken_by e.number taken ≡ e.own
    pub theirs : StartsWith taken e.taken
    pub before : StartsWith taken e.before

  -- A pass that puts is the first and the only one that does. It knows all that was put, how many passes there are, and which were joined.
  pub record IsAcceptor (everything : List T) (ended : List (Joined T)) (count pass : ℕ) (v : QueueView T) : Type 0 where
    pub first : pass ≡ 0
    pub put : v.put ≡ everything
    pub passes : v.passes ≡ count
    pub joined : v.joined ≡ ended
    pub each : Each (IsJoined v.taken) ended

  -- A pass that takes knows its number, and what it took. It wasn't joined.
  pub record IsTaker (order : List (ℕ × T)) (ended : List (Joined T)) (pass : ℕ) (v : QueueView T) : Type 0 where
    pub number : v.number ≡ pass
    pub all : taken_by pass order ≡ v.own
    pub seen : taken_by pass v.taken ≡ v.own
    pub apart : Each (λ e. e.number ≢ pass) ended

  -- What any pass has seen of what was put and of what was taken are prefixes of these.
  pub record Fits (everything : List T) (order : List (ℕ × T)) (ended : List (Joined T)) (count pass : ℕ) (v : QueueView T) : Type 0 where
    pub puts : v.puts ≡ true → IsAcceptor everything ended count pass v
    pub takes : v.takes ≡ true → IsTaker order ended pass v
    pub put : StartsWith everything v.put
    pub taken : StartsWith order v.taken

  -- What was put is what was taken, in the order of taking, and then what the queue holds. A pass that was joined takes no more.
  abbrev pub InOrder : List T → List (QueueView T) → Type 0
  InOrder items views =
      (put : List T) × (taken : List (ℕ × T)) × (joined : List (Joined T))
      × (put ≡ items_of taken ++ items)
      × ((pass : ℕ) (v : QueueView T) → get_elem? views pass ≡ some v → Fits put taken joined (length views) pass v)
      × ((pass : ℕ) → length views ≤ pass → taken_by pass taken ≡ [])
      × Each (λ e. (e.number < length views) × (taken_by e.number taken ≡ e.own)) joined

  abbrev pub first_view : QueueView T
  first_view = record { puts = true; takes = true; number = 0; passes = 1; put = []; taken = []; own = []; joined = [] }

  -- the acceptor's, if one more pass was made, and the pass that was made: it has seen what the acceptor had
  abbrev pub with_one_more : QueueView T → QueueView T
  with_one_more v = record v { passes = v.passes + 1 }

  abbrev pub new_view : QueueView T → QueueView T
  new_view v = record { puts = false; takes = true; number = v.passes; passes = 0; put = v.put; taken = v.taken; own = []; joined = [] }

  -- the acceptor's, if it joined another, and what is left of that
  abbrev pub with_joined : QueueView T → QueueView T → QueueView T
  with_joined v w =
      record v { taken = longer v.taken w.taken; joined = v.joined ++ (record { number = w.number; own = w.own; taken = w.taken; before = v.taken }) ∷ [] }

  abbrev pub no_queue_view : QueueView T
  no_queue_view = record { puts = false; takes = false; number = 0; passes = 0; put = []; taken = []; own = []; joined = [] }

  -- One more was put.
  abbrev pub Puts : QueueView T → T → QueueView T → Type 0
  Puts v x w = w ≡ record v { put = v.put ++ x ∷ [] }

  -- One was taken: after all that the pass had seen, and perhaps more that others took. What was taken so far is a prefix of what was put
  -- so far, and of it this pass took just what it knows that it took.
  pub record Takes (v : QueueView T) (x : T) (w : QueueView T) : Type 0 where
    pub between : List (ℕ × T)
    pub waiting : List T
    pub next : w.taken ≡ (v.taken ++ between) ++ ((v.number, x) ∷ [])
    pub beginning : w.put ≡ items_of w.taken ++ waiting
    pub later : StartsWith w.put v.put
    pub own : w.own ≡ v.own ++ x ∷ []
    pub once : taken_by v.number w.taken ≡ w.own
    pub same : w ≡ record v { put = w.put; taken = w.taken; own = w.own }

  -- Several passes compared, by the one that puts: what they saw taken is a prefix of what was put, in one order; of it each pass that was
  -- joined took just what it knew that it took; and nobody took but the passes that were made.
  pub record IsCompared (v : QueueView T) : Type 0 where
    pub waiting : List T
    pub beginning : v.put ≡ items_of v.taken ++ waiting
    pub each : Each (IsJoined v.taken) v.joined
    pub others : (pass : ℕ) → v.passes ≤ pass → taken_by pass v.taken ≡ []

  -- There was a moment at which the queue held these, of all that was put
  abbrev pub HeldThen : QueueView T → List T → Type 0
  HeldThen v items =
      (put : List T) × (taken : List (ℕ × T)) × StartsWith put v.put × StartsWith taken v.taken × (put ≡ items_of taken ++ items) × (v.puts ≡ true → v.put ≡ put)
