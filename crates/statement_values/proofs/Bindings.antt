-- Values of holes that are read one after another.
use Rattle.std.proofs.Common.{◌≡◌, ℕ, suc, ◌+◌, ◌<◌, ◌≤◌, Bool, true, false, List, [], ◌∷◌, ◌++◌, length, get_or, Option, Some, None, Result, Err, refl, ap, sym, subst, ◌∙◌, append_assoc, append-nil, drop, arith, ◌⊎◌, inl, inr}
use Rattle.std.proofs.lemmas.Bool.{cases_lt}
use Rattle.std.proofs.lemmas.List.{length_push}
use Rattle.std.proofs.lemmas.Option.{none-some}
use Rattle.vt_value.specs.declared.value.Value.{Value}
use Rattle.vt_value.specs.declared.value.Value.TheVariants.{Null, Bytes}
use Rattle.statement_values.specs.declared.ParameterType.{ParameterType}
use Rattle.statement_values.specs.Executions.{has_bit, BindsHole, Binds, TellsTypes, TellsForeign, PartsForeign, PartsOther, HoleIsOther, HoldsOther, IsNotSupported, HoldTypes, Parts, once, Executes}
use Rattle.statement_values.specs.Executions as e
use Rattle.statement_values.specs.declared.unread.Unread.{Unread}
use Rattle.statement_values.specs.declared.unread.Unread.TheVariants as u
use Rattle.statement_values.specs.Values.{Spells, type_named}

-- ---- types

-- one more type
pub one_more : (n t flags : ℕ) (bytes more : List ℕ) (types : List ParameterType) (type : ParameterType) → TellsTypes n bytes types (t ∷ flags ∷ more)
    → type_named t flags ≡ Some type → TellsTypes (suc n) bytes (types ++ type ∷ []) more
one_more _ t flags _ more _ type e.none is = e.more is e.none
one_more _ t flags _ more _ type (e.more {n = n} {types = types} first rest) is = e.more first (one_more n t flags _ more types type rest is)

given : Option ParameterType → ParameterType → ParameterType
given (Some t) other = t
given None other = other

same_first : (a b : ParameterType) (o : Option ParameterType) (ts us : List ParameterType) → o ≡ Some a → o ≡ Some b → ts ≡ us → a ∷ ts ≡ b ∷ us
unfolding given
same_first a b o ts us is is' same =
    ap (λ (x : Option ParameterType). given x a ∷ ts) (sym is ∙ is') ∙ ap (λ (w : List ParameterType). b ∷ w) same

-- bytes tell one list of so many types
pub types_same : (n : ℕ) (bytes left rest : List ℕ) (ts all : List ParameterType) → TellsTypes n bytes ts left → TellsTypes n bytes all rest
    → (ts ≡ all) × (left ≡ rest)
types_same _ _ _ _ _ _ e.none e.none = (refl, refl)
types_same _ _ left rest _ _ (e.more {n = n} {bytes = bytes} {type = a} {types = ts} is first) (e.more {type = b} {types = us} is' told) =
    let r = types_same n bytes left rest ts us first told in (same_first a b _ ts us is is' r.0, r.1)

-- after some of them the next one is told
pub next_type : (n k : ℕ) (bytes left rest : List ℕ) (ts all : List ParameterType) → TellsTypes n bytes ts left → TellsTypes k bytes all rest → n < k
    → (t : ℕ) × (flags : ℕ) × (more : List ℕ) × (type : ParameterType) × (left ≡ t ∷ flags ∷ more) × (type_named t flags ≡ Some type)
next_type _ _ _ _ _ _ _ e.none e.none lt = absurd (omega (arith, lt))
next_type _ _ _ _ _ _ _ e.none (e.more {t = t} {flags = flags} {bytes = more} {type = type} is told) lt = (t, flags, more, type, refl, is)
next_type _ _ _ _ _ _ _ (e.more is first) e.none lt = absurd (omega (arith, lt))
next_type _ _ _ left rest _ _ (e.more {n = n} {bytes = bytes} {types = ts} is first) (e.more {n = k} {types = us} is' told) lt =
    next_type n k bytes left rest ts us first told (omega (arith, lt))

-- ---- holes

-- Values read so far: with those of the other holes they are all, and all begin with them.
pub record BoundSoFar (bitmap : List ℕ) (long : List (Option (List ℕ))) (types : List ParameterType) (bytes : List ℕ) (read : List Value)
    (left : List (Option (List ℕ))) (kinds : List ParameterType) (rest : List ℕ) : Type 0 where
  pub found : (values : List Value) → Binds bitmap (length read) left kinds rest values → Binds bitmap 0 long types bytes (read ++ values)
  pub only : (all : List Value) → Binds bitmap 0 long types bytes all → (values : List Value) × Binds bitmap (length read) left kinds rest values × (all ≡ read ++ values)
  pub other : HoldsOther bitmap (length read) left kinds rest → HoldsOther bitmap 0 long types bytes
  pub other_only : HoldsOther bitmap 0 long types bytes → HoldsOther bitmap (length read) left kinds rest

pub bound_first : (bitmap : List ℕ) (long : List (Option (List ℕ))) (types : List ParameterType) (bytes : List ℕ) → BoundSoFar bitmap long types bytes [] long types bytes
bound_first bitmap long types bytes = record { found = λ values b. b; only = λ all b. (all, b, refl); other = λ o. o; other_only = λ o. o }

-- what the first of some holes binds
pub first_hole : (bitmap : List ℕ) (n : ℕ) (sent : Option (List ℕ)) (long : List (Option (List ℕ))) (t : ParameterType) (types : List ParameterType) (bytes : List ℕ) (all : List Value)
    → Binds bitmap n (sent ∷ long) (t ∷ types) bytes all
    → (front : List ℕ) × (rest : List ℕ) × (v : Value) × (values : List Value) × (bytes ≡ front ++ rest) × BindsHole (has_bit bitmap n) sent t front v
    × Binds bitmap (n + 1) long types rest values × (all ≡ v ∷ values)
first_hole bitmap n sent long t types _ _ (e.next {front = front} {rest = rest} {v = v} {values = values} hole others) =
    (front, rest, v, values, refl, hole, others, refl)

-- a value that isn't taken comes after the first of some holes, if that has its value
other_later : (bitmap : List ℕ) (n : ℕ) (sent : Option (List ℕ)) (long : List (Option (List ℕ))) (t : ParameterType) (types : List ParameterType) (bytes after : List ℕ)
    → HoldsOther bitmap n (sent ∷ long) (t ∷ types) bytes
    → ((f r : List ℕ) (w : Value) → BindsHole (has_bit bitmap n) sent t f w → bytes ≡ f ++ r → after ≡ r)
    → ((f r : List ℕ) → HoleIsOther (has_bit bitmap n) sent t f → bytes ≡ f ++ r → ⊥) → HoldsOther bitmap (n + 1) long types after
other_later bitmap n sent long t types _ after (e.here {front = front} rest hole) one none = absurd (none front rest hole refl)
other_later bitmap n sent long t types _ after (e.later {front = front} {rest = rest} {v = v} hole others) one none =
    subst (λ (w : List ℕ). HoldsOther bitmap (n + 1) long types w) (sym (one front rest v hole refl)) others

pub bound_next : (bitmap : List ℕ) (long : List (Option (List ℕ))) (types : List ParameterType) (bytes : List ℕ) (read : List Value)
    (sent : Option (List ℕ)) (left : List (Option (List ℕ))) (t : ParameterType) (kinds : List ParameterType) (rest after front : List ℕ) (v : Value)
    → BoundSoFar bitmap long types bytes read (sent ∷ left) (t ∷ kinds) rest
    → rest ≡ front ++ after → BindsHole (has_bit bitmap (length read)) sent t front v
    → ((f r : List ℕ) (w : Value) → BindsHole (has_bit bitmap (length read)) sent t f w → rest ≡ f ++ r → (v ≡ w) × (after ≡ r))
    → ((f r : List ℕ) → HoleIsOther (has_bit bitmap (length read)) sent t f → rest ≡ f ++ r → ⊥)
    → BoundSoFar bitmap long types bytes (read ++ v ∷ []) left kinds after
bound_next bitmap long types bytes read sent left t kinds rest after front v so_far is hole one no_other =
    let len : length (read ++ v ∷ []) ≡ length read + 1 = length_push read v in
    record {
      found = λ values b.
          subst (λ (w : List Value). Binds bitmap 0 long types bytes w) (sym (append_assoc read (v ∷ []) values))
          (so_far.found (v ∷ values) (subst (λ (w : List ℕ). Binds bitmap (length read) (sent ∷ left) (t ∷ kinds) w (v ∷ values)) (sym is)
          (e.next hole (subst (λ (n : ℕ). Binds bitmap n left kinds after values) len b))));
      only = λ all b.
          let r = so_far.only all b in
          let f = first_hole bitmap (length read) sent left t kinds rest r.0 r.1 in
          let o = one f.0 f.1 f.2 f.5 f.4 in (
            f.3,
            subst (λ (n : ℕ). Binds bitmap n left kinds after f.3) (sym len)
                (subst (λ (w : List ℕ). Binds bitmap (length read + 1) left kinds w f.3) (sym o.1) f.6),
            r.2 ∙ ap (λ (w : List Value). read ++ w) (f.7 ∙ ap (λ (w : Value). w ∷ f.3) (sym o.0)) ∙ sym (append_assoc read (v ∷ []) f.3),
          );
      other = λ o.
          so_far.other
          (subst (λ (w : List ℕ). HoldsOther bitmap (length read) (sent ∷ left) (t ∷ kinds) w) (sym is)
          (e.later hole (subst (λ (n : ℕ). HoldsOther bitmap n left kinds after) len o)));
      other_only = λ o.
          subst (λ (n : ℕ). HoldsOther bitmap n left kinds after) (sym len)
          (other_later bitmap (length read) sent left t kinds rest after (so_far.other_only o) (λ f r w h p. (one f r w h p).1) no_other);
    }

-- ---- one hole

-- without long data a hole whose bit isn't set has what is sent
of_sent : (t : ParameterType) (bytes : List ℕ) (v : Value) → BindsHole false None t bytes v → Spells t bytes v
of_sent t bytes v (e.sent s) = s

pub sent_hole : (is_null : Bool) (t : ParameterType) (bytes : List ℕ) (v : Value) → is_null ≡ false → BindsHole is_null None t bytes v → Spells t bytes v
sent_hole is_null t bytes v n h = of_sent t bytes v (subst (λ (b : Bool). BindsHole b None t bytes v) n h)

-- with long data, or with its bit, a hole has no bytes
of_long : (is_null : Bool) (content : List ℕ) (t : ParameterType) (bytes : List ℕ) (v : Value) → BindsHole is_null (Some content) t bytes v
    → (v ≡ Bytes content) × (bytes ≡ [])
of_long is_null content t _ _ e.long = (refl, refl)

pub long_hole : (is_null : Bool) (long : Option (List ℕ)) (content : List ℕ) (t : ParameterType) (bytes : List ℕ) (v : Value) → long ≡ Some content
    → BindsHole is_null long t bytes v → (v ≡ Bytes content) × (bytes ≡ [])
long_hole is_null long content t bytes v l h = of_long is_null content t bytes v (subst (λ (o : Option (List ℕ)). BindsHole is_null o t bytes v) l h)

of_null : (t : ParameterType) (bytes : List ℕ) (v : Value) → BindsHole true None t bytes v → (v ≡ Null) × (bytes ≡ [])
of_null t _ _ e.null = (refl, refl)

pub null_hole : (is_null : Bool) (t : ParameterType) (bytes : List ℕ) (v : Value) → is_null ≡ true → BindsHole is_null None t bytes v
    → (v ≡ Null) × (bytes ≡ [])
null_hole is_null t bytes v n h = of_null t bytes v (subst (λ (b : Bool). BindsHole b None t bytes v) n h)

-- ---- the loop over types

-- Types read so far, of so many.
abbrev pub TypesSoFar : ℕ → List ℕ → List ParameterType → List ℕ → Type 0
TypesSoFar count bytes types rest = TellsTypes (length types) bytes types rest × (length types ≤ count)

pub types_begin : (count : ℕ) (bytes : List ℕ) (types : List ParameterType) → types ≡ [] → TypesSoFar count bytes types bytes
types_begin count bytes types is =
    subst (λ (ts : List ParameterType). TypesSoFar count bytes ts bytes) (sym is) (e.none, omega arith)

pub types_told : (count : ℕ) (bytes rest more : List ℕ) (t flags : ℕ) (types pushed : List ParameterType) (type : ParameterType) → TypesSoFar count bytes types rest
    → length types < count → rest ≡ t ∷ flags ∷ more → type_named t flags ≡ Some type → pushed ≡ types ++ type ∷ [] → TypesSoFar count bytes pushed more
types_told count bytes rest more t flags types pushed type so_far lt is named p =
    let len : length pushed ≡ suc (length types) = ap length p ∙ length_push types type ∙ omega arith in (
      subst (λ (n : ℕ). TellsTypes n bytes pushed more) (sym len)
          (subst (λ (ts : List ParameterType). TellsTypes (suc (length types)) bytes ts more) (sym p)
          (one_more (length types) t flags bytes more types type (subst (λ (w : List ℕ). TellsTypes (length types) bytes types w) is so_far.0) named)),
      omega (arith, len, lt),
    )

pub types_short : (count : ℕ) (bytes left rest : List ℕ) (types all : List ParameterType) → TypesSoFar count bytes types left → length types < count → length left < 2
    → TellsTypes count bytes all rest → ⊥
types_short count bytes left rest types all so_far lt short told =
    let n = next_type (length types) count bytes left rest types all so_far.0 told lt in
    omega (arith, short, ap length n.4)

pub types_foreign : (count : ℕ) (bytes left rest more : List ℕ) (t flags : ℕ) (types all : List ParameterType) → TypesSoFar count bytes types left → length types < count
    → left ≡ t ∷ flags ∷ more → type_named t flags ≡ None → TellsTypes count bytes all rest → ⊥
types_foreign count bytes left rest more t flags types all so_far lt is none told =
    let n = next_type (length types) count bytes left rest types all so_far.0 told lt in
    let q : t ∷ flags ∷ more ≡ n.0 ∷ n.1 ∷ n.2 = sym is ∙ n.4 in
    let first : t ≡ n.0 = ap (λ (l : List ℕ). get_or l 0 0) q in
    let second : flags ≡ n.1 = ap (λ (l : List ℕ). get_or l 1 0) q in
    none-some n.3 (sym none ∙ ap (λ (x : ℕ). type_named x flags) first ∙ ap (λ (x : ℕ). type_named n.0 x) second ∙ n.5)

pub types_all : (count : ℕ) (bytes left rest : List ℕ) (types all : List ParameterType) → TypesSoFar count bytes types left → count ≤ length types
    → TellsTypes count bytes all rest → (types ≡ all) × (left ≡ rest)
types_all count bytes left rest types all so_far done told =
    let same : count ≡ length types = omega (arith, so_far.1, done) in
    types_same (length types) bytes left rest types all so_far.0 (subst (λ (n : ℕ). TellsTypes n bytes all rest) same told)

-- a type that isn't taken is none that was read
foreign_ahead : (n : ℕ) (bytes left : List ℕ) (types : List ParameterType) (k named flags : ℕ) (others : List ParameterType) (rest : List ℕ) → TellsTypes n bytes types left
    → TellsTypes k bytes others (named ∷ flags ∷ rest) → type_named named flags ≡ None → k < n → ⊥
foreign_ahead n bytes left types k named flags others rest so_far tells none lt =
    let m = next_type k n bytes (named ∷ flags ∷ rest) left others types tells so_far lt in
    let first : named ≡ m.0 = ap (λ (l : List ℕ). get_or l 0 0) m.4 in
    let second : flags ≡ m.1 = ap (λ (l : List ℕ). get_or l 1 0) m.4 in
    none-some m.3 (sym none ∙ ap (λ (x : ℕ). type_named x flags) first ∙ ap (λ (x : ℕ). type_named m.0 x) second ∙ m.5)

pub foreign_left : (count : ℕ) (bytes left : List ℕ) (types : List ParameterType) → TypesSoFar count bytes types left → TellsForeign count bytes → length left < 2 → ⊥
foreign_left count bytes left types so_far f short =
    elim (cases_lt f.before (length types)) [
      | inl lt ↦ foreign_ahead (length types) bytes left types f.before f.named f.flags f.types f.rest so_far.0 f.tells f.foreign lt
      | inr ge ↦
          elim (cases_lt (length types) f.before) [
            | inl lt ↦
                let m = next_type (length types) f.before bytes left (f.named ∷ f.flags ∷ f.rest) types f.types so_far.0 f.tells lt in
                omega (arith, short, ap length m.4)
            | inr le ↦
                let same : f.before ≡ length types = omega (arith, ge, le) in
                let r =
                types_same (length types) bytes left (f.named ∷ f.flags ∷ f.rest) types f.types so_far.0
                (subst (λ (n : ℕ). TellsTypes n bytes f.types (f.named ∷ f.flags ∷ f.rest)) same f.tells)
                in
                omega (arith, short, ap length r.1)
          ]
    ]

pub foreign_end : (count : ℕ) (bytes left : List ℕ) (types : List ParameterType) → TypesSoFar count bytes types left → TellsForeign count bytes → count ≤ length types → ⊥
foreign_end count bytes left types so_far f done =
    foreign_ahead (length types) bytes left types f.before f.named f.flags f.types f.rest so_far.0 f.tells f.foreign (omega (arith, f.few, done))

-- ---- what isn't supported

-- types that are told anew are those that were read
pub anew_only : (kept types : List ParameterType) (holes b : ℕ) (bytes told rest : List ℕ) → bytes ≡ b ∷ told → b ≡ 1 → HoldTypes kept holes bytes types rest
    → TellsTypes holes told types rest
anew_only kept _ holes b _ told rest is one e.kept_on = let first : 0 ≡ b = ap (λ (l : List ℕ). get_or l 0 0) is in absurd (omega (arith, first, one))
anew_only kept types holes b _ told rest is one (e.anew t) = subst (λ (w : List ℕ). TellsTypes holes w types rest) (ap (λ (l : List ℕ). drop 1 l) is) t

pub err_is : {A E : Type 0} (x y : E) → ◌≡◌ {A = Result A E} (Err x) (Err y) → x ≡ y
err_is x y e = cc

-- a refusal is the same of another result
pub err_again : {A B E : Type 0} (x y : E) → ◌≡◌ {A = Result A E} (Err x) (Err y) → ◌≡◌ {A = Result B E} (Err x) (Err y)
err_again x y e = ap Err (err_is x y e)

-- after the bytes that ask for no cursor
pub unsupported_parts : (kept : List ParameterType) (long : List (Option (List ℕ))) (bytes parts : List ℕ) → bytes ≡ once ++ parts → IsNotSupported kept long bytes
    → PartsForeign (length long) parts ⊎ PartsOther kept long parts
unsupported_parts kept long _ parts is (e.cursor {flags = flags} some) = absurd (some (ap (λ (l : List ℕ). get_or l 0 0) is))
unsupported_parts kept long _ parts is (e.foreign p) = inl (subst (λ (w : List ℕ). PartsForeign (length long) w) (ap (λ (l : List ℕ). drop 5 l) is) p)
unsupported_parts kept long _ parts is (e.other p) = inr (subst (λ (w : List ℕ). PartsOther kept long w) (ap (λ (l : List ℕ). drop 5 l) is) p)

-- ---- the loop over holes

pub bound_step : (bitmap : List ℕ) (long : List (Option (List ℕ))) (types : List ParameterType) (bytes : List ℕ) (read pushed : List Value)
    (sent : Option (List ℕ)) (left more : List (Option (List ℕ))) (t : ParameterType) (kinds others : List ParameterType) (rest after : List ℕ) (v : Value) (is_null : Bool)
    → BoundSoFar bitmap long types bytes read left kinds rest → left ≡ sent ∷ more → kinds ≡ t ∷ others → is_null ≡ has_bit bitmap (length read)
    → (front : List ℕ) × (rest ≡ front ++ after) × BindsHole is_null sent t front v
    → ((f r : List ℕ) (w : Value) → BindsHole is_null sent t f w → rest ≡ f ++ r → (v ≡ w) × (after ≡ r))
    → ((f r : List ℕ) → HoleIsOther is_null sent t f → rest ≡ f ++ r → ⊥)
    → pushed ≡ read ++ v ∷ [] → BoundSoFar bitmap long types bytes pushed more others after
bound_step bitmap long types bytes read pushed sent left more t kinds others rest after v is_null so_far l k n found only no_other p =
    let here : BoundSoFar bitmap long types bytes read (sent ∷ more) (t ∷ others) rest =
    subst (λ (ts : List ParameterType). BoundSoFar bitmap long types bytes read (sent ∷ more) ts rest) k
    (subst (λ (ls : List (Option (List ℕ))). BoundSoFar bitmap long types bytes read ls kinds rest) l so_far) in
    subst (λ (w : List Value). BoundSoFar bitmap long types bytes w more others after) (sym p)
    (bound_next bitmap long types bytes read sent more t others rest after found.0 v here found.1
    (subst (λ (b : Bool). BindsHole b sent t found.0 v) n found.2)
    (λ f r w h is. only f r w (subst (λ (b : Bool). BindsHole b sent t f w) (sym n) h) is)
    (λ f r h is. no_other f r (subst (λ (b : Bool). HoleIsOther b sent t f) (sym n) h) is))

-- a hole whose bytes spell no value that is taken
pub other_here : (bitmap : List ℕ) (long : List (Option (List ℕ))) (types : List ParameterType) (bytes : List ℕ) (read : List Value)
    (sent : Option (List ℕ)) (left more : List (Option (List ℕ))) (t : ParameterType) (kinds others : List ParameterType) (rest : List ℕ) (is_null : Bool)
    → BoundSoFar bitmap long types bytes read left kinds rest → left ≡ sent ∷ more → kinds ≡ t ∷ others → is_null ≡ has_bit bitmap (length read)
    → (front : List ℕ) × (after : List ℕ) × (rest ≡ front ++ after) × HoleIsOther is_null sent t front → HoldsOther bitmap 0 long types bytes
other_here bitmap long types bytes read sent left more t kinds others rest is_null so_far l k n found =
    let here : HoldsOther bitmap (length read) (sent ∷ more) (t ∷ others) (found.0 ++ found.1) =
    e.here found.1 (subst (λ (b : Bool). HoleIsOther b sent t found.0) n found.3) in
    so_far.other
    (subst (λ (ls : List (Option (List ℕ))). HoldsOther bitmap (length read) ls kinds rest) (sym l)
    (subst (λ (ts : List ParameterType). HoldsOther bitmap (length read) (sent ∷ more) ts rest) (sym k)
    (subst (λ (w : List ℕ). HoldsOther bitmap (length read) (sent ∷ more) (t ∷ others) w) (sym found.2) here)))

-- what isn't taken is found at the hole
other_front : (bitmap : List ℕ) (n : ℕ) (long : List (Option (List ℕ))) (types : List ParameterType) (bytes : List ℕ) → HoldsOther bitmap n long types bytes
    → (long ≡ [] → ⊥) × (types ≡ [] → ⊥)
other_front bitmap n _ _ _ (e.here rest hole) = (λ is. cc, λ is. cc)
other_front bitmap n _ _ _ (e.later hole others) = (λ is. cc, λ is. cc)

pub no_other_left : (bitmap : List ℕ) (long : List (Option (List ℕ))) (types : List ParameterType) (bytes : List ℕ) (read : List Value)
    (left : List (Option (List ℕ))) (kinds : List ParameterType) (rest : List ℕ) → BoundSoFar bitmap long types bytes read left kinds rest
    → (left ≡ []) ⊎ (kinds ≡ []) → HoldsOther bitmap 0 long types bytes → ⊥
no_other_left bitmap long types bytes read left kinds rest so_far (inl none) o = (other_front bitmap (length read) left kinds rest (so_far.other_only o)).0 none
no_other_left bitmap long types bytes read left kinds rest so_far (inr none) o = (other_front bitmap (length read) left kinds rest (so_far.other_only o)).1 none

other_first : (bitmap : List ℕ) (n : ℕ) (sent : Option (List ℕ)) (long : List (Option (List ℕ))) (t : ParameterType) (types : List ParameterType) (bytes : List ℕ)
    → HoldsOther bitmap n (sent ∷ long) (t ∷ types) bytes
    → ((front : List ℕ) × (rest : List ℕ) × (bytes ≡ front ++ rest) × HoleIsOther (has_bit bitmap n) sent t front)
    ⊎ ((front : List ℕ) × (rest : List ℕ) × (v : Value) × (bytes ≡ front ++ rest) × BindsHole (has_bit bitmap n) sent t front v)
other_first bitmap n sent long t types _ (e.here {front = front} rest hole) = inl (front, rest, refl, hole)
other_first bitmap n sent long t types _ (e.later {front = front} {rest = rest} {v = v} hole others) = inr (front, rest, v, refl, hole)

-- a hole that is refused holds it, or has its value and is refused for memory
pub refused_here : (bitmap : List ℕ) (long : List (Option (List ℕ))) (types : List ParameterType) (bytes : List ℕ) (read : List Value)
    (sent : Option (List ℕ)) (left more : List (Option (List ℕ))) (t : ParameterType) (kinds others : List ParameterType) (rest : List ℕ) (is_null : Bool) (why : Unread)
    → BoundSoFar bitmap long types bytes read left kinds rest → left ≡ sent ∷ more → kinds ≡ t ∷ others → is_null ≡ has_bit bitmap (length read)
    → ((f r : List ℕ) (w : Value) → BindsHole is_null sent t f w → rest ≡ f ++ r → why ≡ u.OutOfMemory)
    → ((f r : List ℕ) → HoleIsOther is_null sent t f → rest ≡ f ++ r → why ≡ u.NotSupported)
    → HoldsOther bitmap 0 long types bytes → (why ≡ u.OutOfMemory) ⊎ (why ≡ u.NotSupported)
refused_here bitmap long types bytes read sent left more t kinds others rest is_null why so_far l k n binds other o =
    let here : HoldsOther bitmap (length read) (sent ∷ more) (t ∷ others) rest =
    subst (λ (ts : List ParameterType). HoldsOther bitmap (length read) (sent ∷ more) ts rest) k
    (subst (λ (ls : List (Option (List ℕ))). HoldsOther bitmap (length read) ls kinds rest) l (so_far.other_only o)) in
    elim (other_first bitmap (length read) sent more t others rest here) [
      | inl f ↦ inr (other f.0 f.1 (subst (λ (b : Bool). HoleIsOther b sent t f.0) (sym n) f.3) f.2)
      | inr f ↦ inl (binds f.0 f.1 f.2 (subst (λ (b : Bool). BindsHole b sent t f.0 f.2) (sym n) f.4) f.3)
    ]

pub bound_all : (bitmap : List ℕ) (long : List (Option (List ℕ))) (types : List ParameterType) (bytes : List ℕ) (read : List Value)
    (left : List (Option (List ℕ))) (kinds : List ParameterType) (rest : List ℕ) → BoundSoFar bitmap long types bytes read left kinds rest
    → left ≡ [] → kinds ≡ [] → rest ≡ [] → Binds bitmap 0 long types bytes read
bound_all bitmap long types bytes read left kinds rest so_far l k r =
    let none : Binds bitmap (length read) left kinds rest [] = rw (l, k, r) e.end in
    subst (λ (w : List Value). Binds bitmap 0 long types bytes w) (append-nil read) (so_far.found [] none)

-- ---- the whole

pub kept_hold : (kept types : List ParameterType) (holes b : ℕ) (bytes rest : List ℕ) → bytes ≡ b ∷ rest → b ≡ 0 → types ≡ kept → HoldTypes kept holes bytes types rest
kept_hold kept types holes b bytes rest is first same = rw (is, first, same) e.kept_on

pub anew_hold : (kept types : List ParameterType) (holes b : ℕ) (bytes told rest : List ℕ) → bytes ≡ b ∷ told → b ≡ 1 → TellsTypes holes told types rest
    → HoldTypes kept holes bytes types rest
anew_hold kept types holes b bytes told rest is first t = rw (is, first) (e.anew t)

pub bare : (kept types : List ParameterType) (long : List (Option (List ℕ))) (bytes parts : List ℕ) (values : List Value) → long ≡ [] → bytes ≡ once ++ parts → parts ≡ []
    → types ≡ kept → values ≡ [] → Executes kept long bytes types values
bare kept types long bytes parts values none is p t v = rw (is, p, t, v) (e.without none)

pub parts_only : (kept types : List ParameterType) (long : List (Option (List ℕ))) (bytes parts : List ℕ) (values : List Value) → bytes ≡ once ++ parts
    → (long ≡ [] → parts ≡ [] → ⊥) → Executes kept long bytes types values → Parts kept long parts types values
parts_only kept _ long _ parts _ is not_bare (e.without none) = absurd (not_bare none (sym (ap (λ (l : List ℕ). drop 5 l) is)))
parts_only kept types long _ parts values is not_bare (e.with_values p) =
    subst (λ (w : List ℕ). Parts kept long w types values) (ap (λ (l : List ℕ). drop 5 l) is) p
