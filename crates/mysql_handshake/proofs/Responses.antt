-- A response by its parts.
use Rattle.std.proofs.Common.{◌≡◌, ℕ, ◌<◌, ◌^◌, Bool, true, List, ◌∷◌, ◌++◌, length, ap, sym, subst, ◌∙◌}
use Rattle.std.specs.Prelude.{Option}
use Rattle.mysql_packet.specs.Numbers.{little_endian}
use Rattle.mysql_handshake.specs.Handshakes.{Answered, IsResponse, HasNoZero, IsField, field_before, is_set, protocol_41, secure_connection, connect_with_db, plugin_auth}

pub response_found : (c : ℕ) (user answer : List ℕ) (database plugin : Option (List ℕ)) (payload unread r1 r2 r3 r4 r5 more : List ℕ)
    → payload ≡ little_endian 4 c ++ r1 → r1 ≡ unread ++ r2 → r2 ≡ user ++ (0x00 ∷ r3) → r3 ≡ length answer ∷ (answer ++ r4)
    → r4 ≡ field_before database r5 → r5 ≡ field_before plugin more
    → c < 2 ^ 32 → length answer < 256 → length unread ≡ 28
    → is_set protocol_41 c ≡ true → is_set secure_connection c ≡ true → HasNoZero user
    → IsField (is_set connect_with_db c) database → IsField (is_set plugin_auth c) plugin
    → IsResponse payload (record { capabilities = c; user = user; answer = answer; database = database; plugin = plugin })
response_found c user answer database plugin payload unread r1 r2 r3 r4 r5 more e0 e1 e2 e3 e4 e5 small short n28 p41 secure nozero db pl = record {
  unread = unread;
  more = more;
  whole =
      e0 ∙ ap (λ r. little_endian 4 c ++ r) (e1 ∙ ap (λ r. unread ++ r) (e2 ∙ ap (λ r. user ++ (0x00 ∷ r)) (e3 ∙ ap (λ r. length answer ∷ (answer ++ r)) (e4 ∙ ap (field_before database) e5))));
  is_41 = p41;
  is_secure = secure;
  in_range = (small, short, n28);
  user_ends = nozero;
  has_database = db;
  has_plugin = pl;
}

-- a field is there by its capability, whatever names the capabilities
pub has_field : (flag found wanted : ℕ) (is_there : Bool) (field : Option (List ℕ)) → found ≡ wanted → is_there ≡ is_set flag found → IsField (is_set flag wanted) field → IsField is_there field
has_field flag found wanted is_there field same read has = subst (λ (b : Bool). IsField b field) (ap (is_set flag) (sym same) ∙ sym read) has

pub same_response : (a b : Answered) → a.capabilities ≡ b.capabilities → a.user ≡ b.user → a.answer ≡ b.answer → a.database ≡ b.database → a.plugin ≡ b.plugin → a ≡ b
same_response a b e0 e1 e2 e3 e4 = λ i. record { capabilities = e0 i; user = e1 i; answer = e2 i; database = e3 i; plugin = e4 i }
