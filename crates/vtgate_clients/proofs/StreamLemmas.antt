-- What a read or a write of a stream has done that moved nothing.
use Rattle.std.proofs.Common.{◌≡◌, ℕ, List, [], ◌++◌, take, Option, Some, None, refl, sym, ◌∙◌}
use Rattle.std.proofs.lemmas.List.{append-nil}
use Rattle.std.specs.Io.KnownBytes.{Appends, Keeps}
use Rattle.session.specs.conversation.Devices.{AppendsFront}

abbrev Known : Type 0
Known = Option (List ℕ)

pub none_kept : (a b : Known) (bytes : List ℕ) → Keeps a b → Appends a b (take 0 bytes)
none_kept None b bytes p = tt
none_kept (Some xs) None bytes p = absurd p
none_kept (Some xs) (Some ys) bytes p = p ∙ sym (append-nil xs)

pub none_front : (a b : Known) (bytes : List ℕ) → Keeps a b → AppendsFront a b bytes
none_front a b bytes kept = ([], (bytes, refl), none_kept a b bytes kept)
