-- Where each counter stands.
use Rattle.std.specs.Prelude.{ℕ, zero, suc, List, ◌+◌, ◌*◌, ◌%◌, ◌^◌, min, codes, slice_index}
use Rattle.status_figures.specs.declared.kind.Kind.{Kind}
use Rattle.status_figures.specs.declared.kind.Kind.TheVariants.{Select, Insert, Update, Delete, Begin, Commit, Rollback, Set, Show, Prepare, Execute, Other}
use Rattle.status_figures.specs.declared.ending.Ending.{Ending}
use Rattle.status_figures.specs.declared.ending.Ending.TheVariants.{Quit, Closed, Truncated, Broken, Denied, Silent, Unread, Unwritten, Memory}
use Rattle.status_figures.specs.declared.counter.Counter.{Counter}
use Rattle.status_figures.specs.declared.totals.Totals.{Totals}
use Rattle.status_figures.specs.declared.counter.Counter.TheVariants.{Bucket, Micros, Refusal, Ended, Begun, Rows, Received, Sent}

abbrev pub kind_number : Kind → ℕ
kind_number Select = 0
kind_number Insert = 1
kind_number Update = 2
kind_number Delete = 3
kind_number Begin = 4
kind_number Commit = 5
kind_number Rollback = 6
kind_number Set = 7
kind_number Show = 8
kind_number Prepare = 9
kind_number Execute = 10
kind_number Other = 11

abbrev pub kind_name : Kind → List ℕ
kind_name Select = codes "select"
kind_name Insert = codes "insert"
kind_name Update = codes "update"
kind_name Delete = codes "delete"
kind_name Begin = codes "begin"
kind_name Commit = codes "commit"
kind_name Rollback = codes "rollback"
kind_name Set = codes "set"
kind_name Show = codes "show"
kind_name Prepare = codes "prepare"
kind_name Execute = codes "execute"
kind_name Other = codes "other"

abbrev pub ending_number : Ending → ℕ
ending_number Quit = 0
ending_number Closed = 1
ending_number Truncated = 2
ending_number Broken = 3
ending_number Denied = 4
ending_number Silent = 5
ending_number Unread = 6
ending_number Unwritten = 7
ending_number Memory = 8

abbrev pub ending_name : Ending → List ℕ
ending_name Quit = codes "quit"
ending_name Closed = codes "closed"
ending_name Truncated = codes "truncated"
ending_name Broken = codes "broken"
ending_name Denied = codes "denied"
ending_name Silent = codes "silent"
ending_name Unread = codes "unread"
ending_name Unwritten = codes "unwritten"
ending_name Memory = codes "memory"

-- a kind's buckets and its time are 20 words; then come the refusals, the endings and the rest
abbrev pub index_of_counter : Counter → ℕ
index_of_counter (Bucket kind bucket) = kind_number kind * 20 + min bucket 17
index_of_counter (Micros kind) = kind_number kind * 20 + 18
index_of_counter (Refusal number) = 240 + min number 26
index_of_counter (Ended ending) = 267 + ending_number ending
index_of_counter Begun = 276
index_of_counter Rows = 277
index_of_counter Received = 278
index_of_counter Sent = 279

-- what a counter came to
abbrev pub counted : Totals → Counter → ℕ
counted totals counter = slice_index totals.words (index_of_counter counter)

-- how many statements of a kind are in so many of its first buckets
abbrev pub in_buckets : Totals → Kind → ℕ → ℕ
in_buckets totals kind zero = 0
in_buckets totals kind (suc n) = (in_buckets totals kind n + counted totals (Bucket kind n)) % 2 ^ 64

-- how many statements of a kind there were
unfoldable pub statements_of : Totals → Kind → ℕ
statements_of totals kind = in_buckets totals kind 18
