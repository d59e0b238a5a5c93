-- What a request asks for.
use Rattle.std.specs.Prelude.{ℕ, List, [], ◌∷◌, ◌==◌, Option, Some, None, codes, bytes_eq, if◌then◌else◌}
use Rattle.status_server.specs.declared.request.Path.{Path}
use Rattle.status_server.specs.declared.request.Path.TheVariants.{Page, Metrics, Health}
use Rattle.status_server.specs.declared.request.Fault.{Fault}
use Rattle.status_server.specs.declared.request.Fault.TheVariants.{UnknownPath, WrongMethod}
use Rattle.status_server.specs.declared.request.Asked.{Asked}
use Rattle.status_server.specs.declared.request.Asked.TheVariants.{Shown, Headed, Refused}

-- the target without what follows a question mark
abbrev pub before_query : List ℕ → List ℕ
before_query [] = []
before_query (b ∷ bytes) = if b == 0x3F then [] else b ∷ before_query bytes

-- what there is
abbrev pub path_named : List ℕ → Option Path
path_named name =
    if bytes_eq name (codes "/") then Some Page
    else if bytes_eq name (codes "/metrics") then Some Metrics
    else if bytes_eq name (codes "/healthz") then Some Health
    else None

-- what there is is only read
abbrev pub asked_at : List ℕ → Path → Asked
asked_at method path =
    if bytes_eq method (codes "GET") then Shown path
    else if bytes_eq method (codes "HEAD") then Headed path
    else Refused WrongMethod

abbrev pub asked_in : List ℕ → Option Path → Asked
asked_in method None = Refused UnknownPath
asked_in method (Some path) = asked_at method path

abbrev pub asked_of : List ℕ → List ℕ → Asked
asked_of method name = asked_in method (path_named name)
