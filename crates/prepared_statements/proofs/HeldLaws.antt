-- The statements that a connection holds, by their numbers.
use Rattle.std.proofs.Common.{◌≡◌, ℕ, ◌+◌, ◌-◌, ◌<◌, ◌≤◌, ◌^◌, ◌⊎◌, inl, inr, List, [], ◌∷◌, ◌++◌, length, Option, Some, None, refl, ap, sym, subst, ◌∙◌, arith}
use Rattle.std.specs.Prelude.{is_some, true, false}
use Rattle.std.proofs.lemmas.Option.{none-some}
use Rattle.mysql_packet.specs.Numbers.{little_endian}
use Rattle.statement_values.specs.declared.ParameterType.{ParameterType}
use Rattle.prepared_statements.specs.declared.held.Prepared.{Prepared}
use Rattle.prepared_statements.specs.declared.held.Numbered.{Numbered}
use Rattle.prepared_statements.specs.declared.long_data.LongFault.{LongFault}
use Rattle.prepared_statements.specs.declared.long_data.LongFault.TheVariants as f
use Rattle.prepared_statements.specs.Holes.{no_long, put_long, NamesHole}
use Rattle.prepared_statements.specs.Held.{HeldStatements, held_at, held_with, held_without, max_statements, max_number, max_size, held_size, held_long, size_of, after_execution, after_reset, IsFull, AddsHeld, RunOf, RunsHeld, UsesHeld, WasTooLarge, ClosesHeld, ResetsHeld, TakesLong, LongHeld}
use Rattle.prepared_statements.specs.Held as h
use Rattle.prepared_statements.specs.inner.Keeping.{IsFirst}
use Rattle.prepared_statements.proofs.Places.{first_found}

-- ---- numbers

-- the number and the rest that the bytes have are those that were read
module _ (held : HeldStatements) (bytes : List ℕ) where
  -- no statement has the number of the bytes
  pub none_named : (number : ℕ) (rest : List ℕ) → ((n : ℕ) (more : List ℕ) → n < 2 ^ 32 → bytes ≡ little_endian 4 n ++ more → (number ≡ n) × (rest ≡ more))
      → held_at held number ≡ None → (n : ℕ) (more : List ℕ) (q : Prepared) → n < 2 ^ 32 → bytes ≡ little_endian 4 n ++ more → held_at held n ≡ Some q → ⊥
  none_named number rest only none n more q lt is there = none-some q (sym none ∙ ap (held_at held) (only n more lt is).0 ∙ there)

  pub runs : (then : HeldStatements) (rest text : List ℕ) (number place : ℕ) (s : Numbered) (types : List ParameterType) → number < 2 ^ 32
      → bytes ≡ little_endian 4 number ++ rest → IsFirst number held.statements place s → RunOf s.statement rest text types
      → then ≡ held_with held number (after_execution s.statement types) → RunsHeld held bytes text then
  runs then rest text number place s types lt is first run e =
      subst (λ (bs : List ℕ). RunsHeld held bs text then) (sym is)
      (subst (λ (p : HeldStatements). RunsHeld held (little_endian 4 number ++ rest) text p) (sym e)
      (h.runs lt (first_found number held.statements place s first) run))

  pub uses : (then : HeldStatements) (rest : List ℕ) (number place : ℕ) (s : Numbered) → number < 2 ^ 32 → bytes ≡ little_endian 4 number ++ rest
      → IsFirst number held.statements place s → then ≡ held_with held number (after_reset s.statement) → UsesHeld held bytes then
  uses then rest number place s lt is first e =
      subst (λ (p : HeldStatements). UsesHeld held bytes p) (sym e) (h.uses lt is (first_found number held.statements place s first))

  pub closes : (then : HeldStatements) (number : ℕ) → number < 2 ^ 32 → bytes ≡ little_endian 4 number → then ≡ held_without held number → ClosesHeld held bytes then
  closes then number lt is e = subst (λ (p : HeldStatements). ClosesHeld held bytes p) (sym e) (h.closes lt is)

  pub resets : (then : HeldStatements) (number place : ℕ) (s : Numbered) → number < 2 ^ 32 → bytes ≡ little_endian 4 number → IsFirst number held.statements place s
      → then ≡ held_with held number (after_reset s.statement) → ResetsHeld held bytes then
  resets then number place s lt is first e =
      subst (λ (p : HeldStatements). ResetsHeld held bytes p) (sym e) (h.resets lt is (first_found number held.statements place s first))

  pub takes_long : (then : HeldStatements) (rest : List ℕ) (number place : ℕ) (s : Numbered) → number < 2 ^ 32 → bytes ≡ little_endian 4 number ++ rest
      → IsFirst number held.statements place s
      → (q : Prepared) × (then ≡ held_with held number q) × TakesLong (max_size - held_long held) s.statement rest q → LongHeld held bytes then
  takes_long then rest number place s lt is first t =
      subst (λ (p : HeldStatements). LongHeld held bytes p) (sym t.1) (h.long_held lt is (first_found number held.statements place s first) t.2)

given : Option ℕ → ℕ → ℕ
given (Some n) other = n
given None other = other

same_number : (a b : ℕ) → Some a ≡ Some b → a ≡ b
unfolding given
same_number a b is = ap (λ (o : Option ℕ). given o a) is

given_statement : Option Prepared → Prepared → Prepared
given_statement (Some q) other = q
given_statement None other = other

pub same_statement : (a b : Prepared) (o : Option Prepared) → o ≡ Some a → o ≡ Some b → a ≡ b
unfolding given_statement
same_statement a b o is is' = ap (λ (x : Option Prepared). given_statement x a) (sym is ∙ is')

-- what the bytes of an execution are
pub run_number : (held then : HeldStatements) (bytes text : List ℕ) → RunsHeld held bytes text then
    → (n : ℕ) × (rest : List ℕ) × (q : Prepared) × (types : List ParameterType) × (n < 2 ^ 32) × (bytes ≡ little_endian 4 n ++ rest) × (held_at held n ≡ Some q)
    × RunOf q rest text types
run_number held _ _ text (h.runs {n = n} {rest = rest} {q = q} {types = types} lt there run) = (n, rest, q, types, lt, refl, there, run)

reset_number : (held then : HeldStatements) (bytes : List ℕ) → ResetsHeld held bytes then
    → (n : ℕ) × (q : Prepared) × (n < 2 ^ 32) × (bytes ≡ little_endian 4 n) × (held_at held n ≡ Some q)
reset_number held _ bytes (h.resets {n = n} {q = q} lt is there) = (n, q, lt, is, there)

pub not_reset : (held then : HeldStatements) (bytes : List ℕ) (n : ℕ) (found : Option ℕ) → found ≡ Some n
    → ((m : ℕ) → m < 2 ^ 32 → bytes ≡ little_endian 4 m → found ≡ Some m) → held_at held n ≡ None → ResetsHeld held bytes then → ⊥
not_reset held then bytes n found is only none r =
    let r' = reset_number held then bytes r in
    let same : n ≡ r'.0 = same_number n r'.0 (sym is ∙ only r'.0 r'.2 r'.3) in
    none-some r'.1 (sym none ∙ ap (held_at held) same ∙ r'.4)

pub none_reset : (held then : HeldStatements) (bytes : List ℕ) (found : Option ℕ) → found ≡ None → ((m : ℕ) → m < 2 ^ 32 → bytes ≡ little_endian 4 m → found ≡ Some m)
    → ResetsHeld held bytes then → ⊥
none_reset held then bytes found none only r = let r' = reset_number held then bytes r in none-some r'.0 (sym none ∙ only r'.0 r'.2 r'.3)

pub none_only : (bytes : List ℕ) (found : Option ℕ) → found ≡ None → ((m : ℕ) → m < 2 ^ 32 → bytes ≡ little_endian 4 m → found ≡ Some m)
    → (n : ℕ) → n < 2 ^ 32 → bytes ≡ little_endian 4 n → ⊥
none_only bytes found none only n lt is = none-some n (sym none ∙ only n lt is)

-- the number that was read is the number of the bytes
pub that_number : (bytes : List ℕ) (found : Option ℕ) (n : ℕ) → found ≡ Some n → ((m : ℕ) → m < 2 ^ 32 → bytes ≡ little_endian 4 m → found ≡ Some m)
    → (m : ℕ) → m < 2 ^ 32 → bytes ≡ little_endian 4 m → n ≡ m
that_number bytes found n is only m lt of = same_number n m (sym is ∙ only m lt of)

pub not_run : (held then : HeldStatements) (bytes rest text : List ℕ) (number place : ℕ) (s : Numbered)
    → ((n : ℕ) (more : List ℕ) → n < 2 ^ 32 → bytes ≡ little_endian 4 n ++ more → (number ≡ n) × (rest ≡ more)) → IsFirst number held.statements place s
    → ((text : List ℕ) (types : List ParameterType) → RunOf s.statement rest text types → ⊥) → RunsHeld held bytes text then → ⊥
not_run held then bytes rest text number place s only first none r =
    let f = run_number held then bytes text r in
    let o = only f.0 f.1 f.4 f.5 in
    let there : held_at held number ≡ Some f.2 = ap (held_at held) o.0 ∙ f.6 in
    let same = same_statement f.2 s.statement (held_at held number) there (first_found number held.statements place s first) in
    none text f.3 (subst (λ (q : Prepared). RunOf q rest text f.3) same (subst (λ (bs : List ℕ). RunOf f.2 bs text f.3) (sym o.1) f.7))

-- ---- what is full

pub not_full : (held : HeldStatements) (pieces : List (List ℕ)) → held_size held + size_of pieces ≤ max_size
    → ((max_statements ≤ length held.statements) ⊎ (max_number ≤ held.last) → ⊥) → IsFull held pieces → ⊥
not_full held pieces le free (h.too_large lt) = omega (arith, le, lt)
not_full held pieces le free (h.too_many many) = free (inl many)
not_full held pieces le free (h.used_up all) = free (inr all)

pub has_all : (held : HeldStatements) (pieces : List (List ℕ)) → (max_statements ≤ length held.statements) ⊎ (max_number ≤ held.last) → IsFull held pieces
has_all held pieces (inl many) = h.too_many many
has_all held pieces (inr all) = h.used_up all

pub adds : (held then : HeldStatements) (q : Prepared) (number : ℕ) → number ≡ held.last + 1
    → then ≡ record { last = number; statements = held.statements ++ record { number = number; statement = q } ∷ [] } → AddsHeld held q number then
adds held then q number is e =
    subst (λ (p : HeldStatements). AddsHeld held q number p) (sym e)
    (subst (λ (m : ℕ). AddsHeld held q m (record { last = m; statements = held.statements ++ record { number = m; statement = q } ∷ [] })) (sym is) h.adds)

-- ---- long data

pub is_faulty : (fault : Option LongFault) → is_some fault ≡ true → (x : LongFault) × (fault ≡ Some x)
is_faulty (Some x) e = (x, refl)
is_faulty None e = absurd cc

pub is_sound : (fault : Option LongFault) → is_some fault ≡ false → fault ≡ None
is_sound None e = refl
is_sound (Some x) e = absurd cc

-- a statement whose long data isn't taken
pub not_taken : (room : ℕ) (q : Prepared) (bytes : List ℕ) (long : List (Option (List ℕ))) (why : LongFault) → q.fault ≡ None → long ≡ no_long q.long
    → (why ≡ f.TooLarge → (hole : ℕ) × (more : List ℕ) × NamesHole q.long bytes hole more × (room < length more))
    → (why ≡ f.Wrong → (hole : ℕ) (more : List ℕ) → NamesHole q.long bytes hole more → ⊥) → TakesLong room q bytes (record q { long = long; fault = Some why })
not_taken room q bytes long why sound is large wrong =
    subst (λ (l : List (Option (List ℕ))). TakesLong room q bytes (record q { long = l; fault = Some why })) (sym is) (by why large wrong)
  where
    by : (why : LongFault) → (why ≡ f.TooLarge → (hole : ℕ) × (more : List ℕ) × NamesHole q.long bytes hole more × (room < length more))
        → (why ≡ f.Wrong → (hole : ℕ) (more : List ℕ) → NamesHole q.long bytes hole more → ⊥)
        → TakesLong room q bytes (record q { long = no_long q.long; fault = Some why })
    by f.OutOfMemory large wrong = h.no_memory sound
    by f.TooLarge large wrong = let l = large refl in h.too_large sound l.2 l.3
    by f.Wrong large wrong = h.wrong sound (wrong refl)

pub takes : (room : ℕ) (q : Prepared) (bytes : List ℕ) (long : List (Option (List ℕ))) → q.fault ≡ None
    → (hole : ℕ) × (more : List ℕ) × NamesHole q.long bytes hole more × (length more ≤ room) × (long ≡ put_long q.long hole more)
    → TakesLong room q bytes (record q { long = long })
takes room q bytes long sound t =
    subst (λ (l : List (Option (List ℕ))). TakesLong room q bytes (record q { long = l })) (sym t.4) (h.takes sound t.2 t.3)

-- ---- what was too large

pub was_too_large : (held : HeldStatements) (bytes rest : List ℕ) (n place : ℕ) (s : Numbered) → n < 2 ^ 32 → bytes ≡ little_endian 4 n ++ rest
    → IsFirst n held.statements place s → s.statement.fault ≡ Some f.TooLarge → WasTooLarge held bytes
was_too_large held bytes rest n place s lt is first fault =
    subst (λ (bs : List ℕ). WasTooLarge held bs) (sym is) (h.was_too_large lt (first_found n held.statements place s first) fault)
