-- What a request is answered with, in HTTP/1.1.
use Rattle.std.specs.Prelude.{◌≡◌, ◌⊎◌, ℕ, List, [], ◌++◌, Bool, true, false, codes, length, if◌then◌else◌}
use Rattle.std.specs.Fmt.{decimal}
use Rattle.status_page.specs.Metrics.{metrics_text}
use Rattle.status_page.specs.Figures.{Figures}
use Rattle.status_page.specs.Table.{ShowsShards}
use Rattle.status_page.specs.declared.page_script.TheConstants.{SCRIPT_HASH}
use Rattle.status_page.specs.declared.page_style.TheConstants.{STYLE_HASH}
use Rattle.status_server.specs.declared.request.Path.{Path}
use Rattle.status_server.specs.declared.request.Path.TheVariants.{Page, Metrics, Health}
use Rattle.status_server.specs.declared.request.Fault.{Fault}
use Rattle.status_server.specs.declared.request.Fault.TheVariants.{Malformed, UnknownPath, WrongMethod, Slow, LongHead, Unavailable}
use Rattle.status_server.specs.declared.replies.Part.{Part}
use Rattle.status_server.specs.declared.replies.Part.TheVariants.{Version, ContentType, ContentLength, Storing, Style, Script, Base, Close}
use Rattle.status_server.specs.declared.request.Asked.{Asked}
use Rattle.status_server.specs.declared.request.Asked.TheVariants.{Shown, Headed, Refused}

unfoldable pub ok_text : List ℕ
ok_text = codes "200 OK"

unfoldable pub status_text : Fault → List ℕ
status_text Malformed = codes "400 Bad Request"
status_text UnknownPath = codes "404 Not Found"
status_text WrongMethod = codes "405 Method Not Allowed"
status_text Slow = codes "408 Request Timeout"
status_text LongHead = codes "431 Request Header Fields Too Large"
status_text Unavailable = codes "503 Service Unavailable"

unfoldable pub type_text : Path → List ℕ
type_text Page = codes "text/html; charset=utf-8"
type_text Metrics = codes "text/plain; version=0.0.4; charset=utf-8"
type_text Health = codes "text/plain; charset=utf-8"

-- the fields that some faults have
unfoldable pub fault_fields : Fault → List ℕ
fault_fields WrongMethod = codes "\r\nAllow: GET, HEAD"
fault_fields Unavailable = codes "\r\nRetry-After: 1"
fault_fields _ = []

-- what stands between the parts of a head: it isn't kept by anybody, and is taken for nothing but its type
unfoldable pub part_text : Part → List ℕ
part_text Version = codes "HTTP/1.1 "
part_text ContentType = codes "\r\nContent-Type: "
part_text ContentLength = codes "\r\nContent-Length: "
part_text Storing = codes "\r\nCache-Control: no-store\r\nX-Content-Type-Options: nosniff"
part_text Style = codes "\r\nContent-Security-Policy: default-src 'none'; connect-src 'self'; img-src data:; style-src 'sha256-"
part_text Script = codes "'; script-src 'sha256-"
part_text Base = codes "'; base-uri 'none'; form-action 'none'; frame-ancestors 'none'"
part_text Close = codes "\r\nConnection: close\r\n\r\n"

-- the page may run its own script and style alone, and fetch from where it comes from alone
unfoldable pub policy_text : List ℕ
policy_text = part_text Style ++ STYLE_HASH ++ part_text Script ++ SCRIPT_HASH ++ part_text Base

-- the head of a reply: its status, its type, how long its body is, and further fields
unfoldable pub reply_head : List ℕ → List ℕ → ℕ → List ℕ → List ℕ
reply_head status kind len fields =
    part_text Version ++ status ++ part_text ContentType ++ kind ++ part_text ContentLength ++ decimal len ++ part_text Storing ++ policy_text ++ fields
    ++ part_text Close

-- a body, if the reply has one
abbrev pub body_text : Bool → List ℕ → List ℕ
body_text true text = text
body_text false text = []

unfoldable pub shown_text : Path → List ℕ → Bool → List ℕ
shown_text path text has_body = reply_head ok_text (type_text path) (length text) [] ++ body_text has_body text

unfoldable pub fault_text : Fault → Bool → List ℕ
fault_text fault has_body =
    reply_head (status_text fault) (type_text Health) (length (status_text fault ++ codes "\n")) (fault_fields fault)
    ++ body_text has_body (status_text fault ++ codes "\n")

-- what a path has, by these figures
abbrev pub IsTextAt : Path → Figures → List ℕ → Type 0
IsTextAt Health figures text = text ≡ codes "ok\n"
IsTextAt Metrics figures text = text ≡ metrics_text figures
IsTextAt Page figures text = ShowsShards text figures.shards.items

-- a path is answered with what it has by these figures
abbrev pub AnswersPath : Path → Figures → Bool → List ℕ → Type 0
AnswersPath path figures has_body reply = (text : List ℕ) × IsTextAt path figures text × (reply ≡ shown_text path text has_body)

-- a path is answered with what it has by the figures of some moment
abbrev pub IsOfMoment : Path → Bool → List ℕ → Type 0
IsOfMoment path has_body reply = (figures : Figures) × AnswersPath path figures has_body reply

-- whether statements are served is answered by that alone
abbrev pub IsAnswered : Path → Bool → List ℕ → Type 0
IsAnswered Health has_body reply = (reply ≡ shown_text Health (codes "ok\n") has_body) ⊎ (reply ≡ fault_text Unavailable has_body)
IsAnswered Metrics has_body reply = IsOfMoment Metrics has_body reply
IsAnswered Page has_body reply = IsOfMoment Page has_body reply

-- what answers a request; HEAD has all of GET but the body
abbrev pub Answers : Asked → List ℕ → Type 0
Answers (Shown path) reply = IsAnswered path true reply
Answers (Headed path) reply = IsAnswered path false reply
Answers (Refused fault) reply = reply ≡ fault_text fault true
