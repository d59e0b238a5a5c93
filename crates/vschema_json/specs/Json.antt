-- JSON values taken apart. An object has each name once, and its members are in the order of their names.
use Rattle.std.specs.Prelude.{ℕ, Bool, List, [], ◌∷◌, map, bytes_eq, Option, Some, None, option_map, option_and_then, unwrap_or}
use Rattle.std.specs.List.{list_all, list_any}
use Rattle.serde_json.specs.Data.{Data, Items, no_items, item, Members, no_members, member}
use Rattle.serde_json.specs.Find.{get, as_array, as_object}

abbrev pub elements : Items → List Data
elements no_items = []
elements (item d ds) = d ∷ elements ds

abbrev pub named_values : Members → List (List ℕ × Data)
named_values no_members = []
named_values (member name d ms) = (name, d) ∷ named_values ms

-- the list of all, if none is missing
abbrev pub all_some : {A : Type 0} → List (Option A) → Option (List A)
all_some [] = Some []
all_some (o ∷ os) = option_and_then (λ x. option_map (λ xs. x ∷ xs) (all_some os)) o

-- an array, each element as `read` takes it
abbrev pub array_of : {A : Type 0} → (Data → Option A) → Data → Option (List A)
array_of read d = option_and_then (λ ds. all_some (map read (elements ds))) (as_array d)

-- an object, each member as `read` takes its name and its value
abbrev pub object_of : {A : Type 0} → (List ℕ → Data → Option A) → Data → Option (List A)
object_of read d = option_and_then (λ ms. all_some (map (λ m. read m.0 m.1) (named_values ms))) (as_object d)

-- the members of an object; what is no object has none
abbrev pub members_in : Data → List (List ℕ × Data)
members_in d = unwrap_or (option_map named_values (as_object d)) []

-- no member has another name than these
abbrev pub has_only : List (List ℕ) → Data → Bool
has_only names d = list_all (λ m. list_any (bytes_eq m.0) names) (members_in d)

-- a member that an object has to have
abbrev pub needed_member : {A : Type 0} → (Data → Option A) → List ℕ → Data → Option A
needed_member read name d = option_and_then read (get name d)

abbrev pub if_there : {A : Type 0} → (Data → Option A) → Option Data → Option (Option A)
if_there read None = Some None
if_there read (Some d) = option_map Some (read d)

-- a member that an object may have
abbrev pub optional : {A : Type 0} → (Data → Option A) → List ℕ → Data → Option (Option A)
optional read name d = if_there read (get name d)
