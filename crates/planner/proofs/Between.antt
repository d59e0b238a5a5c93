-- Ids between a least and a greatest one, and the ranges that hold none of them.
use Rattle.std.proofs.Common.{◌≡◌, ℕ, Bool, true, false, not, ◌&&◌, IsTrue, List, [], ◌∷◌, ◌++◌, Some, refl, sym, ap, subst, ◌∙◌, if◌then◌else◌}
use Rattle.std.specs.List.{list_any, AllByRecursion}
use Rattle.std.proofs.lemmas.Bool.{not-true}
use Rattle.vt_value.specs.declared.value.Value.{Value}
use Rattle.vindex.specs.KeyspaceIds.{keyspace_id, is_key}
use Rattle.vindex.specs.declared.AnyVindex.{AnyVindex}
use Rattle.keyrange.specs.declared.KeyRange.{KeyRange}
use Rattle.keyrange.specs.Ranges.{is_before, is_before_end, has_id}
use Rattle.keyrange.proofs.Order.{one_way, up, itself, below}
use Rattle.vschema.specs.declared.schema.Table.{Table}
use Rattle.vschema.specs.declared.schema.ColumnVindex.{ColumnVindex}
use Rattle.planner.specs.Routes.{id_by, id_of}
use Rattle.planner.specs.KnownIds.{known_bytes, IsIdOf}
use Rattle.planner.specs.declared.members.KnownId.{KnownId}
use Rattle.planner.specs.declared.spans.Span.{Span}
use Rattle.planner.specs.inner.Spans.{IsBetween, IsIn, AllIn}

pub same : (id : List ℕ) → is_before id id ≡ false
same id = itself id

-- b < a ≤ id
pub from_first : (a b : List ℕ) (t : Bool) → t ≡ is_before b a → t ≡ true → (id : List ℕ) → is_before id a ≡ false → is_before id b ≡ false
from_first a b t told less id h = up b a id (one_way b a (sym told ∙ less)) h

-- id ≤ a < b
pub to_last : (a b : List ℕ) (t : Bool) → t ≡ is_before a b → t ≡ true → (id : List ℕ) → is_before a id ≡ false → is_before b id ≡ false
to_last a b t told less id h = up id a b h (one_way a b (sym told ∙ less))

and_false : (b : Bool) → (b && false) ≡ false
and_false true = refl
and_false false = refl

pub missed_below : (s : Span) (r : KeyRange) (t : Bool) → t ≡ is_before s.greatest r.begin → t ≡ true → (id : List ℕ) → IsBetween s id → has_id r id ≡ false
missed_below s r t told less id h = rw (below id s.greatest r.begin h.1 (sym told ∙ less)) refl

pub missed_above : (s : Span) (r : KeyRange) (end : List ℕ) (t : Bool) → r.end ≡ Some end → t ≡ is_before s.least end → IsTrue (not t) → (id : List ℕ) → IsBetween s id → has_id r id ≡ false
missed_above s r end t is told more id h =
    let less : is_before s.least end ≡ false = sym told ∙ not-true t more in
    ap (λ o. not (is_before id r.begin) && is_before_end id o) is
    ∙ ap (λ b. not (is_before id r.begin) && b) (up end s.least id less h.0)
    ∙ and_false (not (is_before id r.begin))

pub none_in : (t : Table) (r : KeyRange) (s : Span) (x : ColumnVindex) → t.vindex ≡ Some x → x.vindex ≡ s.vindex
    → ((id : List ℕ) → IsBetween s id → has_id r id ≡ false)
    → (values : List Value) → AllIn values s → list_any (λ v. has_id r (id_of t v)) values ≡ false
none_in t r s x has alike missed [] all = refl
none_in t r s x has alike missed (v ∷ values) all =
    let own : id_of t v ≡ keyspace_id s.vindex v =
    ap (λ o. id_by o v) has
    ∙ ap (λ z. if is_key z v then keyspace_id z v else []) alike
    ∙ ap (λ b. if b then keyspace_id s.vindex v else []) all.0.0 in
    let outside : has_id r (id_of t v) ≡ false = ap (has_id r) own ∙ missed (keyspace_id s.vindex v) all.0.1 in
    rw outside (none_in t r s x has alike missed values all.1)

pub all_widened : (s w : Span) → w.vindex ≡ s.vindex → ((id : List ℕ) → IsBetween s id → IsBetween w id)
    → (values : List Value) → AllIn values s → AllIn values w
all_widened s w alike wider [] all = all
all_widened s w alike wider (v ∷ values) all = (
  subst (λ x. (is_key x v ≡ true) × IsBetween w (keyspace_id x v)) (sym alike) (all.0.0, wider (keyspace_id s.vindex v) all.0.1),
  all_widened s w alike wider values all.1,
)

pub one_more : (s : Span) (values : List Value) (v : Value) → AllIn values s → IsIn s v → AllIn (values ++ v ∷ []) s
one_more s [] v all own = (own, all)
one_more s (other ∷ values) v all own = (all.0, one_more s values v all.1 own)

-- a value whose id is known
pub known_in : (s : Span) (x : AnyVindex) (v : Value) (id : KnownId) (bytes : List ℕ)
    → s.vindex ≡ x → IsIdOf x v id → known_bytes id ≡ Some bytes → IsBetween s bytes → IsIn s v
known_in s x v id bytes alike right known between =
    let told = right bytes known in
    subst (λ z. (is_key z v ≡ true) × IsBetween s (keyspace_id z v)) (sym alike) (told.0, subst (λ b. IsBetween s b) (sym told.1) between)
