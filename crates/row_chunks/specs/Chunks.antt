-- A sorted map as a list of chunks.
use Rattle.std.specs.Prelude.{◌≡◌, Bool, false, List, [], ◌∷◌, ◌++◌, if◌then◌else◌, flat_map, map, Option, Some, None}
use Rattle.std.specs.List.{AllByRecursion}
use Rattle.std.specs.Ordering.{is_gt}
use Rattle.std.specs.declared.cmp.Ordering.{Ordering}
use Rattle.std.specs.declared.cmp.Ordering.TheVariants.{Less}
use Rattle.std.specs.Arc.{arc_value}
use Rattle.std.specs.declared.sync.Arc.{Arc}
use Rattle.std.specs.Map.{keys_of}
use Rattle.std.specs.List.Sorted.{IsStrictlySortedBy}

-- a chunk: a key that none of its keys is below, its entries, and whether they can be changed without memory
pub record ChunkView (K X : Type 0) : Type 0 where
  pub from : K
  pub entries : List (K × X)
  pub is_open : Bool

module _ {K X : Type 0} where
  -- the entries of all chunks, in order
  abbrev pub all_of : List (ChunkView K X) → List (K × X)
  all_of chunks = flat_map (λ c. c.entries) chunks

  -- those of a chunk that can be changed without memory
  abbrev pub changeable : ChunkView K X → List (K × X)
  changeable c = if c.is_open then c.entries else []

  -- and those of all chunks
  abbrev pub open_of : List (ChunkView K X) → List (K × X)
  open_of chunks = flat_map changeable chunks

  -- where chunks begin, and their entries
  abbrev pub span : ChunkView K X → K × List (K × X)
  span c = (c.from, c.entries)

  abbrev pub spans : List (ChunkView K X) → List (K × List (K × X))
  spans chunks = map span chunks

  module _ (cmp : K → K → Ordering) where
    -- each key is below this one
    abbrev pub AreBelow : K → List (K × X) → Type 0
    AreBelow k es = AllByRecursion (λ e. cmp e.0 k ≡ Less) es

    -- none is below it
    abbrev pub AreFrom : K → List (K × X) → Type 0
    AreFrom k es = AllByRecursion (λ e. is_gt (cmp k e.0) ≡ false) es

    -- a chunk's keys are below where each later chunk begins, which rises from chunk to chunk
    abbrev pub IsBefore : K × List (K × X) → K × List (K × X) → Type 0
    IsBefore c d = (cmp c.0 d.0 ≡ Less) × AreBelow d.0 c.1

    unfoldable pub AreParted : List (K × List (K × X)) → Type 0
    AreParted [] = Unit {0}
    AreParted (c ∷ chunks) = AreFrom c.0 c.1 × AllByRecursion (IsBefore c) chunks × AreParted chunks

    -- chunks of a sorted map
    pub record IsShelf (chunks : List (ChunkView K X)) : Type 0 where
      pub parted : AreParted (spans chunks)
      pub sorted : IsStrictlySortedBy cmp (keys_of (all_of chunks))

  -- what is left of a walk: of a chunk's entries, and of the chunks behind it
  abbrev pub left_of : Option (List (K × X)) → List (ChunkView K X) → List (K × X)
  left_of None rest = all_of rest
  left_of (Some first) rest = first ++ all_of rest

  -- what is left of a walk from the last entry on: of the first chunks, and of one chunk's entries
  abbrev pub before_of : List (ChunkView K X) → Option (List (K × X)) → List (K × X)
  before_of rest None = all_of rest
  before_of rest (Some last) = all_of rest ++ last

  -- the chunks of a map, its own or those that it shares
  abbrev pub content : {Z : Type 0} → List (ChunkView K X) → Option (Arc (List (ChunkView K X)) Z) → List (ChunkView K X)
  content own None = own
  content own (Some shared) = arc_value shared

  -- the entries that can be changed without memory: none of chunks that are shared
  abbrev pub changeable_in : {Z : Type 0} → List (ChunkView K X) → Option (Arc (List (ChunkView K X)) Z) → List (K × X)
  changeable_in own None = open_of own
  changeable_in own (Some shared) = []

-- a map: its entries in the order of their keys, and those that can be changed without memory
pub record MapView (K X : Type 0) : Type 0 where
  pub entries : List (K × X)
  pub ready : List (K × X)
