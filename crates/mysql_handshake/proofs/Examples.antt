-- Messages of worked examples.
use Rattle.std.proofs.Common.{ℕ, zero, suc, ◌<◌, arith, get_or, List, [], ◌∷◌, ◌++◌, ◌≡◌, refl, Some, None, true, false, replicate, lit<}
use Rattle.std.specs.Prelude.{codes}
use Rattle.mysql_packet.specs.Frames.{frame}
use Rattle.mysql_handshake.specs.Handshakes.{greeting_payload, auth_switch_payload, announced, is_set, protocol_41, deprecate_eof, IsResponse}
use Rattle.mysql_handshake.specs.Native.{is_right}

abbrev salt : List ℕ
salt = replicate 20 0x41

greeting : frame 0 (greeting_payload 1 salt)
    ≡ (0x50 ∷ 0 ∷ 0 ∷ 0 ∷ 0x0A ∷ codes "8.0.0-router") ++ (0 ∷ 1 ∷ 0 ∷ 0 ∷ 0 ∷ codes "AAAAAAAA")
    ++ (0 ∷ 0x0D ∷ 0xA2 ∷ 0x3F ∷ 2 ∷ 0 ∷ 8 ∷ 1 ∷ 0x15 ∷ replicate 10 0)
    ++ codes "AAAAAAAAAAAA" ++ (0 ∷ codes "mysql_native_password") ++ (0 ∷ [])
unfolding greeting_payload
greeting = refl

auth_switch : frame 2 (auth_switch_payload salt)
    ≡ (0x2C ∷ 0 ∷ 0 ∷ 2 ∷ 0xFE ∷ codes "mysql_native_password") ++ (0 ∷ codes "AAAAAAAAAAAAAAAAAAAA") ++ (0 ∷ [])
auth_switch = refl

no_zero : (k : ℕ) → k < 1 → get_or {A = ℕ} (0x75 ∷ []) k 0 ≡ 0 → ⊥
no_zero zero here e = omega (arith, e)
no_zero (suc k) here e = omega arith

-- the least answer of a user `u` without a password
least : IsResponse ((0 ∷ 0x82 ∷ 0 ∷ 0 ∷ 0 ∷ 0 ∷ 0 ∷ 1 ∷ 0x3F ∷ replicate 23 0) ++ (0x75 ∷ 0 ∷ 0 ∷ []))
    (record { capabilities = 0x8200; user = 0x75 ∷ []; answer = []; database = None; plugin = None })
least = record {
  unread = (0 ∷ 0 ∷ 0 ∷ 1 ∷ 0x3F ∷ replicate 23 0);
  more = [];
  whole = refl;
  is_41 = refl;
  is_secure = refl;
  in_range = (lit< tt, lit< tt, refl);
  user_ends = λ h. no_zero h.0 h.1 h.2;
  has_database = tt;
  has_plugin = tt;
}

empty_without_stage : is_right None [] [] ≡ true
empty_without_stage = refl

empty_with_stage : (stage2 : List ℕ) → is_right (Some stage2) [] [] ≡ false
empty_with_stage stage2 = refl

needs_41 : is_set protocol_41 announced ≡ true
needs_41 = refl

says_deprecate_eof : is_set deprecate_eof announced ≡ true
says_deprecate_eof = refl
