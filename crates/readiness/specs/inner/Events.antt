-- What the system is asked to tell of a socket, and what its number tells: epoll(7), epoll_ctl(2).
use Rattle.std.specs.Prelude.{ℕ, ◌+◌, ◌^◌, ◌-◌, nat_lt, ◌==◌, if◌then◌else◌}
use Rattle.readiness.specs.declared.Wanted.{Wanted}
use Rattle.readiness.specs.declared.Wanted.TheVariants.{Bytes, Room, Turn}
use Rattle.readiness.specs.declared.Told.{Told}
use Rattle.readiness.specs.declared.Told.TheVariants.{Nothing, Woken, Ready}

-- EPOLLONESHOT and EPOLLRDHUP, with EPOLLIN, EPOLLOUT or both
abbrev pub wanted_events : Wanted → ℕ
wanted_events Bytes = 2 ^ 30 + 0x2000 + 1
wanted_events Room = 2 ^ 30 + 0x2000 + 4
wanted_events Turn = 2 ^ 30 + 0x2000 + 5

-- the greatest number is the waker's, and each other is a socket's
abbrev pub told_by : ℕ → Told
told_by number = if number == 2 ^ 64 - 1 then Woken else (if nat_lt number (2 ^ 32) then Ready number else Nothing)
