-- The connections that a server accepts.
use Rattle.std.specs.Prelude.{◌≡◌, ◌≤◌, ◌<◌, ℕ}

-- A connection has the number of those that were accepted, which is a new one.
pub record Accepts (accepted last number accepted' last' : ℕ) : Type 0 where
  pub new : accepted < number
  pub is : number ≡ accepted'
  pub few : accepted' ≤ last
  pub same : last' ≡ last

-- The last one was accepted.
pub record AcceptsNoMore (accepted last accepted' last' : ℕ) : Type 0 where
  pub all : last' ≤ accepted'
  pub later : accepted ≤ accepted'
  pub same : last' ≡ last
